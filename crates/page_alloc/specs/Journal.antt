-- The journal of pages: which line may come next. A past is a journal with its newest line first; the number of a line is how
-- many lines are older. A region is pages 0 to region - 1.
use Rattle.std.specs.Prelude.{◌≡◌, ℕ, ◌<◌, ◌≤◌, nat_le, if◌then◌else◌, List, [], ◌∷◌, reverse}
use Rattle.page_bitmap.specs.declared.line.Line.{Line}
use Rattle.page_bitmap.specs.declared.line.Line.TheVariants.{Take, Miss, Give, Scav, Pull, Cut, Drop}
use Rattle.page_alloc.specs.Lists.{In}
use Rattle.page_alloc.specs.Owners.{backed}
use Rattle.page_alloc.specs.Lives.{Life, open_lives}
use Rattle.page_alloc.specs.FreeRuns.{IsFirstFit, HasNoRun, IsSpanSize, IsScavengeRun}
use Rattle.page_alloc.specs.Blocks.{AreOfCycle, HasBlock, HasNoBlock, IsFirstCut, IsLeastBlock, pages_left}

-- The past of a journal whose lines stand in the order in which they were made.
abbrev pub past_of : List Line → List Line
past_of journal = reverse journal

-- The cycle that a line was made in.
abbrev pub cycle_of : Line → ℕ
cycle_of (Take cycle page pages class) = cycle
cycle_of (Miss cycle pages class) = cycle
cycle_of (Give cycle page pages) = cycle
cycle_of (Scav cycle page pages) = cycle
cycle_of (Pull cycle proc page pages) = cycle
cycle_of (Cut cycle proc page pages class) = cycle
cycle_of (Drop cycle proc page pages) = cycle

-- The past as cycle c left it: without the lines of later cycles.
abbrev pub at_end : ℕ → List Line → List Line
at_end c [] = []
at_end c (line ∷ past) = if nat_le (cycle_of line) c then line ∷ past else at_end c past

-- A line is one that the rules let stand behind a past, cycles apart: a Take at first fit and of a span's size; a Miss of
-- some pages where no run of them is free; a Give of a live span, with its first page and all its pages; a Scav of
-- the run of a scavenging step, while more pages are backed than the goal. Only the first `procs` processors have page caches: a
-- Pull of the block to pull, for a processor that has none out; a Cut of a span of fewer than 16 pages, where the processor's cache
-- first has so many in a row; a Drop of the processor's block, with the number of pages that are left.
abbrev pub MayFollowFor : ℕ → ℕ → ℕ → List Line → Line → Type 0
MayFollowFor procs region goal past (Take cycle page pages class) = IsSpanSize class pages × IsFirstFit region past page pages
MayFollowFor procs region goal past (Miss cycle pages class) = (1 ≤ pages) × HasNoRun region past pages
MayFollowFor procs region goal past (Give cycle page pages) = (life : Life) × In life (open_lives past) × (life.page ≡ page) × (life.pages ≡ pages)
MayFollowFor procs region goal past (Scav cycle page pages) = (goal < backed region past) × IsScavengeRun region past page pages
MayFollowFor procs region goal past (Pull cycle proc page pages) = (proc < procs) × HasNoBlock past proc × IsLeastBlock region past page pages
MayFollowFor procs region goal past (Cut cycle proc page pages class) = (proc < procs) × (pages < 16) × IsSpanSize class pages × IsFirstCut past proc page pages
MayFollowFor procs region goal past (Drop cycle proc page pages) = (proc < procs) × HasBlock past proc page × (pages ≡ pages_left past proc page)

-- The same without page caches.
abbrev pub MayFollow : ℕ → ℕ → List Line → Line → Type 0
MayFollow region goal past line = MayFollowFor 0 region goal past line

-- A line is a Cut or a Drop of this processor.
abbrev pub IsCutOrDrop : ℕ → Line → Type 0
IsCutOrDrop q (Take cycle page pages class) = ⊥
IsCutOrDrop q (Miss cycle pages class) = ⊥
IsCutOrDrop q (Give cycle page pages) = ⊥
IsCutOrDrop q (Scav cycle page pages) = ⊥
IsCutOrDrop q (Pull cycle proc page pages) = ⊥
IsCutOrDrop q (Cut cycle proc page pages class) = proc ≡ q
IsCutOrDrop q (Drop cycle proc page pages) = proc ≡ q

-- Where the newest line is a Cut, the next one is a Cut or a Drop of the same processor.
abbrev pub GoesOn : List Line → Line → Type 0
GoesOn [] line = Unit {0}
GoesOn (Take cycle page pages class ∷ past) line = Unit {0}
GoesOn (Miss cycle pages class ∷ past) line = Unit {0}
GoesOn (Give cycle page pages ∷ past) line = Unit {0}
GoesOn (Scav cycle page pages ∷ past) line = Unit {0}
GoesOn (Pull cycle proc page pages ∷ past) line = Unit {0}
GoesOn (Cut cycle proc page pages class ∷ past) line = IsCutOrDrop proc line
GoesOn (Drop cycle proc page pages ∷ past) line = Unit {0}

-- A line lets the blocks that are out be: it is of the cycle that they were pulled in, and goes on with the cuts of one.
pub record KeepsBlocks (past : List Line) (line : Line) : Type 0 where
  pub cycle : AreOfCycle (cycle_of line) past
  pub cuts : GoesOn past line

-- The newest line's cycle is at most c; in a legal journal so is every line's.
abbrev pub IsBy : ℕ → List Line → Type 0
IsBy c [] = Unit {0}
IsBy c (line ∷ past) = cycle_of line ≤ c

-- A journal is legal where each line may follow those before it, cycles never fall, and all lines let the blocks be that are out.
-- Only the first `procs` processors have page caches.
abbrev pub LegalFor : ℕ → ℕ → ℕ → List Line → Type 0
LegalFor procs region goal [] = Unit {0}
LegalFor procs region goal (line ∷ past) = MayFollowFor procs region goal past line × IsBy (cycle_of line) past × LegalFor procs region goal past × KeepsBlocks past line

-- A legal journal without page caches.
abbrev pub Legal : ℕ → ℕ → List Line → Type 0
Legal region goal past = LegalFor 0 region goal past

-- The processor of a line, if it is one of a page cache, is one of the first `procs`.
abbrev pub IsAllowed : ℕ → Line → Type 0
IsAllowed procs (Take cycle page pages class) = Unit {0}
IsAllowed procs (Miss cycle pages class) = Unit {0}
IsAllowed procs (Give cycle page pages) = Unit {0}
IsAllowed procs (Scav cycle page pages) = Unit {0}
IsAllowed procs (Pull cycle proc page pages) = proc < procs
IsAllowed procs (Cut cycle proc page pages class) = proc < procs
IsAllowed procs (Drop cycle proc page pages) = proc < procs

-- So it is for each line.
abbrev pub AreAllowed : ℕ → List Line → Type 0
AreAllowed procs [] = Unit {0}
AreAllowed procs (line ∷ past) = IsAllowed procs line × AreAllowed procs past
