-- What contracts see of the pages of a region, and how a call changes it.
use Rattle.std.specs.Prelude.{◌≡◌, ℕ, ◌+◌, ◌≤◌, List, ◌∷◌, length}
use Rattle.page_bitmap.specs.declared.line.Line.{Line}
use Rattle.page_alloc.specs.Lives.{open_lives}
use Rattle.page_alloc.specs.Blocks.{promised}
use Rattle.page_alloc.specs.Journal.{LegalFor, MayFollow}

-- The region's number of pages, the goal for backed pages, the journal with its newest line first, and how many more lines
-- it has room for.
pub record PageHeap : Type 0 where
  pub region : ℕ
  pub goal : ℕ
  pub past : List Line
  pub spare : ℕ

-- Only the room for lines may have changed, and it is no less.
pub record HasMoreRoom (old new : PageHeap) : Type 0 where
  pub region : new.region ≡ old.region
  pub goal : new.goal ≡ old.goal
  pub past : new.past ≡ old.past
  pub spare : old.spare ≤ new.spare

-- How many lines the live spans and the blocks that are out may still need.
abbrev pub owed : List Line → ℕ
owed past = length (open_lives past) + promised past

-- One line was added to the journal, which took room for one line at most, and left room for the lines that are owed. It is a line
-- that may follow, and leaves the journal legal for each number of processors with page caches for which it was.
pub record AddsLine (old new : PageHeap) (line : Line) : Type 0 where
  pub region : new.region ≡ old.region
  pub goal : new.goal ≡ old.goal
  pub past : new.past ≡ line ∷ old.past
  pub spare : old.spare ≤ new.spare + 1
  pub room : owed new.past ≤ new.spare
  pub may_follow : MayFollow old.region old.goal old.past line
  pub legal : (procs : ℕ) → LegalFor procs old.region old.goal old.past → LegalFor procs new.region new.goal new.past
