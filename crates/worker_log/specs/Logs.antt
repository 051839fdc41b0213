-- What the laws of a run see in the log of a worker: what it placed, swept, took and was refused. A log has its newest entry first.
use Rattle.std.specs.Prelude.{ℕ, List, [], ◌∷◌}
use Rattle.page_bitmap.specs.declared.line.Line.{Line}
use Rattle.page_bitmap.specs.declared.line.Line.TheVariants.{Take, Miss, Give, Scav, Pull, Cut as CutLine, Drop}
use Rattle.worker_log.specs.declared.Placing.{Placing}
use Rattle.worker_log.specs.declared.Sweeping.{Sweeping}
use Rattle.worker_log.specs.declared.Entry.{Entry}
use Rattle.worker_log.specs.declared.Entry.TheVariants.{Looked, LookedEmptyCell, Popped, Pushed, Swept, Took, Missed, Gave, Allocated, Found, Read, Added, Pulled, NoPage, Cut, NoCut, Settled}

-- A request was refused at the Miss line with this number, of so many pages and this span class.
pub record Refusal : Type 0 where
  pub number : ℕ
  pub pages : ℕ
  pub class : ℕ

-- One refusal more, where the line tells one.
abbrev pub refused : ℕ → Line → List Refusal → List Refusal
refused number (Miss cycle pages class) rest = record { number = number; pages = pages; class = class } ∷ rest
refused number (Take cycle page pages class) rest = rest
refused number (Give cycle page pages) rest = rest
refused number (Scav cycle page pages) rest = rest
refused number (Pull cycle proc page pages) rest = rest
refused number (CutLine cycle proc page pages class) rest = rest
refused number (Drop cycle proc page pages) rest = rest

-- The objects that the log's worker placed.
abbrev pub placings : List Entry → List Placing
placings [] = []
placings (Allocated a ∷ log) = a ∷ placings log
placings (Swept s ∷ log) = placings log
placings (Missed number line ∷ log) = placings log
placings (Looked set head tail ∷ log) = placings log
placings (LookedEmptyCell set index ∷ log) = placings log
placings (Popped set page ∷ log) = placings log
placings (Pushed set page ∷ log) = placings log
placings (Took number line ∷ log) = placings log
placings (Gave page pages ∷ log) = placings log
placings (Found page word ∷ log) = placings log
placings (Read word value ∷ log) = placings log
placings (Added word value ∷ log) = placings log
placings (Pulled number line ∷ log) = placings log
placings (NoPage ∷ log) = placings log
placings (Cut page pages class ∷ log) = placings log
placings (NoCut pages left ∷ log) = placings log
placings (Settled number ∷ log) = placings log

-- The spans that it swept.
abbrev pub sweepings : List Entry → List Sweeping
sweepings [] = []
sweepings (Allocated a ∷ log) = sweepings log
sweepings (Swept s ∷ log) = s ∷ sweepings log
sweepings (Missed number line ∷ log) = sweepings log
sweepings (Looked set head tail ∷ log) = sweepings log
sweepings (LookedEmptyCell set index ∷ log) = sweepings log
sweepings (Popped set page ∷ log) = sweepings log
sweepings (Pushed set page ∷ log) = sweepings log
sweepings (Took number line ∷ log) = sweepings log
sweepings (Gave page pages ∷ log) = sweepings log
sweepings (Found page word ∷ log) = sweepings log
sweepings (Read word value ∷ log) = sweepings log
sweepings (Added word value ∷ log) = sweepings log
sweepings (Pulled number line ∷ log) = sweepings log
sweepings (NoPage ∷ log) = sweepings log
sweepings (Cut page pages class ∷ log) = sweepings log
sweepings (NoCut pages left ∷ log) = sweepings log
sweepings (Settled number ∷ log) = sweepings log

-- The requests that it was refused.
abbrev pub refusals : List Entry → List Refusal
refusals [] = []
refusals (Allocated a ∷ log) = refusals log
refusals (Swept s ∷ log) = refusals log
refusals (Missed number line ∷ log) = refused number line (refusals log)
refusals (Looked set head tail ∷ log) = refusals log
refusals (LookedEmptyCell set index ∷ log) = refusals log
refusals (Popped set page ∷ log) = refusals log
refusals (Pushed set page ∷ log) = refusals log
refusals (Took number line ∷ log) = refusals log
refusals (Gave page pages ∷ log) = refusals log
refusals (Found page word ∷ log) = refusals log
refusals (Read word value ∷ log) = refusals log
refusals (Added word value ∷ log) = refusals log
refusals (Pulled number line ∷ log) = refusals log
refusals (NoPage ∷ log) = refusals log
refusals (Cut page pages class ∷ log) = refusals log
refusals (NoCut pages left ∷ log) = refusals log
refusals (Settled number ∷ log) = refusals log

-- A run of pages was taken, as the line of this number tells.
pub record Taking : Type 0 where
  pub number : ℕ
  pub line : Line

-- The runs that it took.
abbrev pub takings : List Entry → List Taking
takings [] = []
takings (Took number line ∷ log) = record { number = number; line = line } ∷ takings log
takings (Allocated a ∷ log) = takings log
takings (Swept s ∷ log) = takings log
takings (Missed number line ∷ log) = takings log
takings (Looked set head tail ∷ log) = takings log
takings (LookedEmptyCell set index ∷ log) = takings log
takings (Popped set page ∷ log) = takings log
takings (Pushed set page ∷ log) = takings log
takings (Gave page pages ∷ log) = takings log
takings (Found page word ∷ log) = takings log
takings (Read word value ∷ log) = takings log
takings (Added word value ∷ log) = takings log
takings (Pulled number line ∷ log) = takings log
takings (NoPage ∷ log) = takings log
takings (Cut page pages class ∷ log) = takings log
takings (NoCut pages left ∷ log) = takings log
takings (Settled number ∷ log) = takings log
