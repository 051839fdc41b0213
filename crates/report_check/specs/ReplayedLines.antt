-- Which line may come next in a journal, and what is known once it is there.
use Rattle.std.specs.Prelude.{◌≡◌, ℕ, List, ◌∷◌}
use Rattle.page_bitmap.specs.declared.line.Line.{Line}
use Rattle.page_alloc.specs.Heap.{PageHeap}
use Rattle.page_alloc.specs.Journal.{IsAllowed, IsBy, KeepsBlocks, LegalFor, MayFollow, cycle_of}

-- The line was added to the journal, which is legal with it for each number of processors for which it was.
pub record HasLine (old new : PageHeap) (line : Line) : Type 0 where
  pub region : new.region ≡ old.region
  pub goal : new.goal ≡ old.goal
  pub past : new.past ≡ line ∷ old.past
  pub legal : (procs : ℕ) → LegalFor procs old.region old.goal old.past → LegalFor procs new.region new.goal new.past

-- The journal is legal for some processors with page caches.
abbrev pub IsLegal : PageHeap → Type 0
IsLegal heap = (procs : ℕ) × LegalFor procs heap.region heap.goal heap.past

-- The line has to do with no page cache, and may come next, cycles apart.
abbrev pub MayCome : PageHeap → Line → Type 0
MayCome heap line = MayFollow heap.region heap.goal heap.past line

-- The line has to do with no page cache.
abbrev pub IsPlainLine : Line → Type 0
IsPlainLine line = IsAllowed 0 line

-- The line's cycle is none before those of the past, and it lets the blocks be that are out.
pub record KeepsOrder (past : List Line) (line : Line) : Type 0 where
  pub by : IsBy (cycle_of line) past
  pub blocks : KeepsBlocks past line
