-- The blocks of 64 pages that processors have out in their page caches. A past is a journal with its newest line first.
use Rattle.std.specs.Prelude.{◌≡◌, ℕ, ◌+◌, ◌*◌, ◌/◌, ◌<◌, ◌≤◌, ◌==◌, not, if◌then◌else◌, List, [], ◌∷◌, length, Some}
use Rattle.page_bitmap.specs.declared.line.Line.{Line}
use Rattle.page_bitmap.specs.declared.line.Line.TheVariants.{Take, Miss, Give, Scav, Pull, Cut, Drop}
use Rattle.page_alloc.specs.Lists.{In, count_below}
use Rattle.page_alloc.specs.Owners.{cached, is_held, is_number}
use Rattle.page_alloc.specs.FreeRuns.{IsFirstFit}

-- A block that a processor has out: the cycle of its Pull line, and its first page.
pub record OpenBlock : Type 0 where
  pub proc : ℕ
  pub cycle : ℕ
  pub page : ℕ

abbrev pub block_of : ℕ → ℕ → ℕ → OpenBlock
block_of proc cycle page = record { proc = proc; cycle = cycle; page = page }

-- The blocks of the other processors.
abbrev pub blocks_but : ℕ → List OpenBlock → List OpenBlock
blocks_but proc [] = []
blocks_but proc (block ∷ blocks) = if block.proc == proc then blocks_but proc blocks else block ∷ blocks_but proc blocks

-- The blocks that are out: pulled, and not dropped yet.
abbrev pub open_blocks : List Line → List OpenBlock
open_blocks [] = []
open_blocks (Take cycle page pages class ∷ past) = open_blocks past
open_blocks (Miss cycle pages class ∷ past) = open_blocks past
open_blocks (Give cycle page pages ∷ past) = open_blocks past
open_blocks (Scav cycle page pages ∷ past) = open_blocks past
open_blocks (Pull cycle proc page pages ∷ past) = block_of proc cycle page ∷ open_blocks past
open_blocks (Cut cycle proc page pages class ∷ past) = open_blocks past
open_blocks (Drop cycle proc page pages ∷ past) = blocks_but proc (open_blocks past)

-- The processor has no block out.
abbrev pub HasNoBlock : List Line → ℕ → Type 0
HasNoBlock past proc = (block : OpenBlock) → In block (open_blocks past) → ¬ (block.proc ≡ proc)

-- The processor has this block out.
pub record HasBlock (past : List Line) (proc page : ℕ) : Type 0 where
  pub block : OpenBlock
  pub out : In block (open_blocks past)
  pub of_proc : block.proc ≡ proc
  pub first : block.page ≡ page

-- Each block that is out was pulled in this cycle.
abbrev pub AreOfCycle : ℕ → List Line → Type 0
AreOfCycle c past = (block : OpenBlock) → In block (open_blocks past) → block.cycle ≡ c

-- The block to pull: the 64 pages from a multiple of 64 on that have the least free page, all of the region. So many of them are free.
pub record IsLeastBlock (region : ℕ) (past : List Line) (page pages : ℕ) : Type 0 where
  pub least : ℕ
  pub free : IsFirstFit region past least 1
  pub first : page ≡ 64 * (least / 64)
  pub inside : page + 64 ≤ region
  pub count : pages ≡ count_below 64 (λ i. not (is_held past (page + i)))

-- The processor has each page of the run in its page cache.
abbrev pub IsCachedRun : List Line → ℕ → ℕ → ℕ → Type 0
IsCachedRun past proc page pages = (p : ℕ) → page ≤ p → p < page + pages → cached past p ≡ Some proc

-- The least page from which the processor has so many pages in its page cache.
pub record IsFirstCut (past : List Line) (proc page pages : ℕ) : Type 0 where
  pub here : IsCachedRun past proc page pages
  pub least : (q : ℕ) → q < page → ¬ IsCachedRun past proc q pages

-- How many of the 64 pages from this one on the processor has in its page cache.
abbrev pub pages_left : List Line → ℕ → ℕ → ℕ
pages_left past proc page = count_below 64 (λ i. is_number proc (cached past (page + i)))

-- A block that is out has room in the journal for 64 Cut lines, a Drop line, and a Give line for each cut.
abbrev pub block_lines : ℕ
block_lines = 129

-- How many lines the blocks that are out may still need.
abbrev pub promised : List Line → ℕ
promised past = block_lines * length (open_blocks past)
