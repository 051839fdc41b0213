-- Sound reports, and reports that use what they take.
use Rattle.std.specs.Prelude.{◌≡◌, ℕ, ◌<◌, ◌≤◌, Bool, true, List, [], map, reverse, ◌⊎◌}
use Rattle.page_bitmap.specs.declared.line.Line.{Line}
use Rattle.page_alloc.specs.Lists.{In}
use Rattle.page_alloc.specs.Owners.{backed}
use Rattle.page_alloc.specs.Lives.{Life, all_lives}
use Rattle.page_alloc.specs.FreeRuns.{IsLoose}
use Rattle.page_alloc.specs.Blocks.{open_blocks}
use Rattle.page_alloc.specs.Journal.{past_of, at_end, IsBy, LegalFor}
use Rattle.trace_reader.specs.declared.trace.Trace.{Trace}
use Rattle.cycle_history.specs.declared.Report.{Report}
use Rattle.cycle_history.specs.Requests.{requests_of, marked_by, last_cycle, region_of, caching_procs}
use Rattle.cycle_history.specs.Objects.{Object, is_placed}
use Rattle.cycle_history.specs.Rules.{AreAnswered, AreMissed, AreSeated, AreApart, AreFilled}
use Rattle.cycle_history.specs.Sweeps.{AreSwept, AreTotals}
use Rattle.cycle_history.specs.Profile.{SamplesBy, samples_in, IsProfileIn}

-- The past that a report's journal tells, with the newest line first.
abbrev pub past_in : Report → List Line
past_in report = past_of report.journal

-- Rule 1. The objects are those of the trace's requests, and their answers are the report's.
pub record HasAnswers (t : Trace) (report : Report) (objects : List Object) : Type 0 where
  pub asked : AreAnswered (requests_of t) objects
  pub printed : map (λ (o : Object). o.answer) objects ≡ reverse report.answers

-- Rule 2. The journal is one that pages of the trace's region and goal can have, with the page caches of its processors, by the trace's
-- last cycle, and each block that is pulled is dropped.
pub record HasJournal (t : Trace) (report : Report) : Type 0 where
  pub legal : LegalFor (caching_procs t) (region_of t) t.header.goal (past_in report)
  pub cycles : IsBy (last_cycle t) (past_in report)
  pub settled : open_blocks (past_in report) ≡ []

-- The profile is one of a form: `true` for the profile of each mark end, and `false` for that of the last one. It tells of
-- the objects that the processors' countdowns sample, at the trace's rate and seed.
pub record HasProfileIn (each : Bool) (t : Trace) (report : Report) (objects : List Object) : Type 0 where
  pub which : ℕ → Bool
  pub sampled : SamplesBy t.header.rate t.header.seed which objects
  pub lines : IsProfileIn each (marked_by t) (samples_in t which) (last_cycle t) objects report.profile

-- Rule 9. The profile is one of the two forms.
abbrev pub HasProfile : Trace → Report → List Object → Type 0
HasProfile t report objects = (each : Bool) × HasProfileIn each t report objects

-- The objects of the trace and the report's answers have a profile of this form.
abbrev pub HasForm : Trace → Report → Bool → Type 0
HasForm t report each = (objects : List Object) × HasAnswers t report objects × HasProfileIn each t report objects

-- A report is sound, by these objects with their seats, where it meets each rule.
pub record IsSound (t : Trace) (report : Report) (objects : List Object) : Type 0 where
  pub answers : HasAnswers t report objects
  pub journal : HasJournal t report
  pub misses : AreMissed (past_in report) objects
  pub places : AreSeated (marked_by t) (past_in report) objects
  pub apart : AreApart (marked_by t) objects
  pub filling : AreFilled (marked_by t) objects
  pub sweeps : AreSwept (marked_by t) (last_cycle t) (past_in report) objects report.sweeps
  pub totals : AreTotals (marked_by t) (last_cycle t) objects report.totals
  pub profile : HasProfile t report objects

-- An object of the life's own cycle sits at its index 0.
abbrev pub IsWanted : List Object → Life → Type 0
IsWanted objects life = (o : Object) × In o objects × (is_placed o.answer ≡ true) × (o.life ≡ life.number) × (o.index ≡ 0) × (o.cycle ≡ life.cycle)

-- Each life is one that an object asked for.
abbrev pub AllWanted : List Line → List Object → Type 0
AllWanted past objects = (life : Life) → In life (all_lives past) → IsWanted objects life

-- The backed pages are at most the goal, or no page of the region is free and unscavenged.
abbrev pub IsScavenged : ℕ → ℕ → List Line → Type 0
IsScavenged region goal past = (backed region past ≤ goal) ⊎ ((p : ℕ) → p < region → ¬ IsLoose past p)

-- A report is used, by these objects with their seats, where each life is wanted, and the pages are scavenged to the
-- goal as each cycle ends.
pub record IsUsed (t : Trace) (report : Report) (objects : List Object) : Type 0 where
  pub wanted : AllWanted (past_in report) objects
  pub scavenged : (c : ℕ) → c ≤ last_cycle t → IsScavenged (region_of t) t.header.goal (at_end c (past_in report))

-- A report is sound and used where some objects with their seats show it.
abbrev pub IsSoundAndUsed : Trace → Report → Type 0
IsSoundAndUsed t report = (objects : List Object) × IsSound t report objects × IsUsed t report objects
