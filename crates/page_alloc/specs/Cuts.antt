-- Spans that are cut of a block, one after another, and what settling writes of them.
use Rattle.std.specs.Prelude.{◌≡◌, ℕ, ◌+◌, ◌<◌, ◌≤◌, ◌==◌, Bool, ◌&&◌, ◌||◌, not, List, [], ◌∷◌, length, Some, IfSome, slice_set}
use Rattle.page_bitmap.specs.declared.line.Line.{Line}
use Rattle.page_bitmap.specs.declared.line.Line.TheVariants.{Pull, Cut, Drop}
use Rattle.page_cache.specs.declared.block.Block.{Block}
use Rattle.page_cache.specs.declared.block.CutNote.{CutNote}
use Rattle.page_cache.specs.Blocks.{has_page, page_count}
use Rattle.page_cache.specs.Cache.{Cache, in_block}
use Rattle.page_cache.specs.Runs.{IsFirstRun}
use Rattle.page_alloc.specs.Owners.{within, cached, is_held, is_number}
use Rattle.page_alloc.specs.FreeRuns.{IsSpanSize}
use Rattle.page_alloc.specs.Blocks.{HasBlock, IsLeastBlock}
use Rattle.page_alloc.specs.Journal.{LegalFor}
use Rattle.page_alloc.specs.Heap.{PageHeap, owed}

-- The pages that a processor has in its page cache.
abbrev pub cache_of : List Line → ℕ → ℕ → Bool
cache_of past proc p = is_number proc (cached past p)

-- The set without a run of pages.
abbrev pub without : (ℕ → Bool) → ℕ → ℕ → ℕ → Bool
without set page pages p = set p && not (within p page pages)

-- Spans of fewer than 16 pages, each of the size of its class, were cut of a set of pages one after another, each at the first run of
-- so many pages that was left, and these pages are left.
abbrev pub AreCuts : (ℕ → Bool) → List CutNote → (ℕ → Bool) → Type 0
AreCuts set [] left = (p : ℕ) → left p ≡ set p
AreCuts set (cut ∷ cuts) left = (cut.pages < 16) × IsSpanSize cut.class cut.pages × IsFirstRun set cut.pages cut.page × AreCuts (without set cut.page cut.pages) cuts left

-- A page cache has the block that its processor has out, less its cuts.
pub record IsCutFrom (past : List Line) (cache : Cache) : Type 0 where
  pub block : Block
  pub here : cache.block ≡ Some block
  pub out : HasBlock past cache.proc block.page
  pub cuts : AreCuts (cache_of past cache.proc) cache.cuts (has_page block)

-- The past with a Cut line for each cut, in order.
abbrev pub behind_cuts : ℕ → ℕ → List CutNote → List Line → List Line
behind_cuts cycle proc [] past = past
behind_cuts cycle proc (cut ∷ cuts) past = behind_cuts cycle proc cuts (Cut cycle proc cut.page cut.pages cut.class ∷ past)

-- A block was pulled for a processor: all free pages of the block to pull, which are then those that the processor has, and a Pull line
-- says so.
pub record Pulls (old new : PageHeap) (cycle proc : ℕ) (block : Block) : Type 0 where
  pub region : new.region ≡ old.region
  pub goal : new.goal ≡ old.goal
  pub past : new.past ≡ Pull cycle proc block.page (page_count block) ∷ old.past
  pub least : IsLeastBlock old.region old.past block.page (page_count block)
  pub pages : (p : ℕ) → has_page block p ≡ (within p block.page 64 && not (is_held old.past p))
  pub has : (p : ℕ) → has_page block p ≡ cache_of new.past proc p
  pub spare : old.spare ≤ new.spare + 1
  pub room : owed new.past ≤ new.spare
  pub legal : (procs : ℕ) → proc < procs → LegalFor procs old.region old.goal old.past → LegalFor procs new.region new.goal new.past

-- A processor's block was settled: a Cut line for each cut in order, and the Drop line of the pages that were left.
pub record Settles (old new : PageHeap) (cycle : ℕ) (cache : Cache) : Type 0 where
  pub region : new.region ≡ old.region
  pub goal : new.goal ≡ old.goal
  pub past : IfSome cache.block (λ block. new.past ≡ Drop cycle cache.proc block.page (page_count block) ∷ behind_cuts cycle cache.proc cache.cuts old.past)
  pub spare : old.spare ≤ new.spare + length cache.cuts + 1
  pub room : owed new.past ≤ new.spare
  pub legal : (procs : ℕ) → cache.proc < procs → LegalFor procs old.region old.goal old.past → LegalFor procs new.region new.goal new.past

-- The page counts of spans with those of the cuts.
abbrev pub with_lengths : List CutNote → List ℕ → List ℕ
with_lengths [] lengths = lengths
with_lengths (cut ∷ cuts) lengths = with_lengths cuts (slice_set lengths cut.page cut.pages)

-- A map with the first pages of the cuts.
abbrev pub with_firsts : List CutNote → (ℕ → Bool) → ℕ → Bool
with_firsts [] map p = map p
with_firsts (cut ∷ cuts) map p = with_firsts cuts (λ q. (q == cut.page) || map q) p
