-- What the pages of a region keep: their maps and numbers are those of the journal, which is legal.
use Rattle.std.specs.Prelude.{◌≡◌, ℕ, ◌+◌, ◌-◌, ◌*◌, ◌<◌, ◌≤◌, Bool, true, false, not, List, length, slice_index, Some, vec_len, vec_capacity}
use Rattle.size_classes.specs.declared.TheConstants.{MAX_CHUNKS}
use Rattle.page_bitmap.specs.declared.line.Line.{Line}
use Rattle.page_alloc.specs.declared.allocator.Pages.TheInside.{Inside}
use Rattle.page_alloc.specs.Lists.{In}
use Rattle.page_alloc.specs.Owners.{owner, is_held, unscavenged, taken, backed}
use Rattle.page_alloc.specs.Lives.{Life, open_lives}
use Rattle.page_alloc.specs.Blocks.{block_lines, open_blocks}
use Rattle.page_alloc.specs.Journal.{past_of, GoesOn, LegalFor}
use Rattle.page_alloc.specs.Region.{free_in, loose_in, scavenged_in, pages_in}
use Rattle.page_alloc.specs.Levels.{AreRight}
use Rattle.page_alloc.specs.Heap.{PageHeap}

-- The maps of a region and its numbers are those of a legal past.
pub record IsKept (region goal : ℕ) (past : List Line) (free scavenged starts : ℕ → Bool) (lengths : List ℕ) (live owned behind : ℕ) : Type 0 where
  pub procs : ℕ
  pub legal : LegalFor procs region goal past
  pub free_pages : (p : ℕ) → p < region → free p ≡ not (is_held past p)
  pub scavenged_pages : (p : ℕ) → p < region → scavenged p ≡ not (unscavenged past p)
  pub begins : (p : ℕ) → owner past p ≡ Some p → starts p ≡ true
  pub begins_only : (p : ℕ) → p < region → starts p ≡ true → owner past p ≡ Some p
  pub pages : (life : Life) → In life (open_lives past) → slice_index lengths life.page ≡ life.pages
  pub lives : live ≡ length (open_lives past)
  pub taken_pages : owned ≡ taken region past
  pub backed_pages : behind ≡ backed region past

-- The pages of the chunks.
abbrev pub region_of : Inside → ℕ
region_of inside = 512 * length inside.chunks.items

-- The journal with its newest line first.
abbrev pub past_in : Inside → List Line
past_in inside = past_of inside.journal.items

-- What contracts see of the fields.
abbrev pub heap_of : Inside → PageHeap
heap_of inside = record { region = region_of inside; goal = inside.goal; past = past_in inside; spare = vec_capacity inside.journal - vec_len inside.journal }

-- What is true of the fields.
pub record IsSound (inside : Inside) : Type 0 where
  pub some_chunks : 1 ≤ length inside.chunks.items
  pub few_chunks : length inside.chunks.items ≤ MAX_CHUNKS
  pub maps : length inside.starts.items ≡ length inside.chunks.items
  pub numbers : length inside.lengths.items ≡ 512 * length inside.chunks.items
  pub kept : IsKept (region_of inside) inside.goal (past_in inside) (free_in inside.chunks.items) (scavenged_in inside.chunks.items) (pages_in inside.starts.items) inside.lengths.items inside.live inside.taken inside.backed
  pub levels : AreRight (free_in inside.chunks.items) (length inside.chunks.items) inside.levels
  pub below_search : (p : ℕ) → p < inside.search → free_in inside.chunks.items p ≡ false
  pub top_within : inside.top ≤ length inside.chunks.items
  pub above_top : (p : ℕ) → 512 * inside.top ≤ p → loose_in inside.chunks.items p ≡ false
  pub blocks : inside.out ≡ length (open_blocks (past_in inside))
  pub whole : (line : Line) → GoesOn (past_in inside) line
  pub room : inside.live + block_lines * inside.out + vec_len inside.journal ≤ vec_capacity inside.journal
