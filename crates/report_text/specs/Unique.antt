-- A text is of at most one report.
use Rattle.std.specs.Prelude.{◌≡◌, ◌^◌, ◌<◌}
use Rattle.std.specs.List.{AllByRecursion}
use Rattle.page_bitmap.specs.declared.line.Line.{Line}
use Rattle.page_bitmap.specs.declared.line.Line.TheVariants.{Take, Miss, Give, Scav, Pull, Cut, Drop}
use Rattle.span_state.specs.declared.sweep.SweepNote.{SweepNote}
use Rattle.cycle_history.specs.declared.Answer.{Answer}
use Rattle.cycle_history.specs.declared.Answer.TheVariants.{Placed, Zero, Missed}
use Rattle.cycle_history.specs.declared.Total.{Total}
use Rattle.cycle_history.specs.declared.Prof.{Prof}
use Rattle.cycle_history.specs.declared.Report.{Report}
use Rattle.cycle_history.specs.Text.{report_text}

-- An answer's number is one of 64 bits.
abbrev pub AnswerFits : Answer → Type 0
AnswerFits (Placed address) = address < 2 ^ 64
AnswerFits Zero = Unit {0}
AnswerFits (Missed line) = line < 2 ^ 64

-- A journal line's numbers are of 32 bits, and its span class of 8.
abbrev pub LineFits : Line → Type 0
LineFits (Take cycle page pages class) = (cycle < 2 ^ 32) × (page < 2 ^ 32) × (pages < 2 ^ 32) × (class < 2 ^ 8)
LineFits (Miss cycle pages class) = (cycle < 2 ^ 32) × (pages < 2 ^ 32) × (class < 2 ^ 8)
LineFits (Give cycle page pages) = (cycle < 2 ^ 32) × (page < 2 ^ 32) × (pages < 2 ^ 32)
LineFits (Scav cycle page pages) = (cycle < 2 ^ 32) × (page < 2 ^ 32) × (pages < 2 ^ 32)
LineFits (Pull cycle proc page pages) = (cycle < 2 ^ 32) × (proc < 2 ^ 32) × (page < 2 ^ 32) × (pages < 2 ^ 32)
LineFits (Cut cycle proc page pages class) = (cycle < 2 ^ 32) × (proc < 2 ^ 32) × (page < 2 ^ 32) × (pages < 2 ^ 32) × (class < 2 ^ 8)
LineFits (Drop cycle proc page pages) = (cycle < 2 ^ 32) × (proc < 2 ^ 32) × (page < 2 ^ 32) × (pages < 2 ^ 32)

-- A sweep's numbers are of 32 bits.
pub record SweepFits (note : SweepNote) : Type 0 where
  pub cycle : note.cycle < 2 ^ 32
  pub page : note.page < 2 ^ 32
  pub kept : note.kept < 2 ^ 32
  pub freed : note.freed < 2 ^ 32

-- A total's class is of 8 bits, and its numbers of 64.
pub record TotalFits (total : Total) : Type 0 where
  pub class : total.class < 2 ^ 8
  pub mallocs : total.mallocs < 2 ^ 64
  pub frees : total.frees < 2 ^ 64

-- A bucket's mark end and stack are of 32 bits, and its slot size and its numbers of 64.
pub record ProfFits (prof : Prof) : Type 0 where
  pub mark : prof.mark < 2 ^ 32
  pub stack : prof.stack < 2 ^ 32
  pub size : prof.size < 2 ^ 64
  pub allocs : prof.allocs < 2 ^ 64
  pub frees : prof.frees < 2 ^ 64

-- Each number of a report fits its type, as it does in every report of a program.
pub record FitsTypes (report : Report) : Type 0 where
  pub answers : AllByRecursion AnswerFits report.answers
  pub journal : AllByRecursion LineFits report.journal
  pub sweeps : AllByRecursion SweepFits report.sweeps
  pub totals : AllByRecursion TotalFits report.totals
  pub profile : AllByRecursion ProfFits report.profile

-- Reports of one text are the same.
abbrev pub IsOfOneReport : Type 0
IsOfOneReport = (a b : Report) → FitsTypes a → FitsTypes b → report_text a ≡ report_text b → a ≡ b
