-- Words for small traces and reports.
use Rattle.std.specs.Prelude.{ℕ, zero, suc, ◌+◌, Bool, true, false, List, [], ◌∷◌, Some, None}
use Rattle.std.specs.List.{AllByRecursion}
use Rattle.trace_reader.specs.declared.trace.Trace.{Trace}
use Rattle.trace_reader.specs.declared.trace.Cycle.{Cycle}
use Rattle.trace_reader.specs.declared.trace.Event.{Event}
use Rattle.trace_reader.specs.declared.span.Span.{Span}
use Rattle.page_bitmap.specs.declared.line.Line.{Line}
use Rattle.span_state.specs.declared.sweep.SweepNote.{SweepNote}
use Rattle.cycle_history.specs.declared.Answer.{Answer}
use Rattle.cycle_history.specs.declared.Answer.TheVariants.{Placed}
use Rattle.cycle_history.specs.declared.Prof.{Prof}
use Rattle.cycle_history.specs.declared.Total.{Total}
use Rattle.cycle_history.specs.declared.Report.{Report}
use Rattle.cycle_history.specs.Objects.{Object}
use Rattle.cycle_history.specs.Sound.{IsSound, IsSoundAndUsed}
use Rattle.cycle_history.specs.Broken.{IsFirstBroken}

-- An allocation with pointers.
abbrev pub scan : ℕ → ℕ → Event
scan proc size = record { proc = proc; size = size; scan = true; stack = 1 }

-- An allocation without pointers.
abbrev pub noscan : ℕ → ℕ → Event
noscan proc size = record { proc = proc; size = size; scan = false; stack = 1 }

-- The last cycle of a trace.
abbrev pub last : List Event → List Cycle
last events = record { events = events; mark = None } ∷ []

-- A cycle whose mark end marks these ids, each by itself.
abbrev pub marks_at : List ℕ → List Span
marks_at [] = []
marks_at (id ∷ ids) = record { lo = id; hi = id } ∷ marks_at ids

abbrev pub marking : List Event → List ℕ → List Cycle → List Cycle
marking events ids rest = record { events = events; mark = Some (record { distance = 1; marks = marks_at ids }) } ∷ rest

-- A trace of so many chunks and processors, with this goal.
abbrev pub region : ℕ → ℕ → ℕ → List Cycle → Trace
region chunks procs goal cycles = record { header = record { version = 1; chunks = chunks; procs = procs; rate = 0; seed = 1; goal = goal }; cycles = cycles }

-- A trace of one chunk, with so many processors and this goal.
abbrev pub heap : ℕ → ℕ → List Cycle → Trace
heap procs goal cycles = region 1 procs goal cycles

-- A trace of one processor whose goal is the whole region.
abbrev pub trace : List Cycle → Trace
trace cycles = heap 1 512 cycles

-- The same trace in version 2, so that its processors have page caches.
abbrev pub caching : Trace → Trace
caching t = record t { header = record t.header { version = 2 } }

-- A report with its answers, its journal, its sweeps and its totals.
abbrev pub whole : List Answer → List Line → List SweepNote → List Total → Report
whole answers journal sweeps totals = record { answers = answers; journal = journal; sweeps = sweeps; totals = totals; profile = [] }

-- A report that has answers and a journal alone.
abbrev pub report : List Answer → List Line → Report
report answers journal = whole answers journal [] []

-- The line of a sweep: its cycle, its page, and what it kept and freed.
abbrev pub swept : ℕ → ℕ → ℕ → ℕ → SweepNote
swept cycle page kept freed = record { cycle = cycle; page = page; kept = kept; freed = freed }

-- The line of a size class: its mallocs and its frees.
abbrev pub total : ℕ → ℕ → ℕ → Total
total class mallocs frees = record { class = class; mallocs = mallocs; frees = frees }

-- An allocation with pointers and a stack, on the first processor.
abbrev pub stacked : ℕ → ℕ → Event
stacked stack size = record { proc = 0; size = size; scan = true; stack = stack }

-- A trace at a rate.
abbrev pub sampling : ℕ → Trace → Trace
sampling rate t = record t { header = record t.header { rate = rate } }

-- A report with its profile.
abbrev pub printing : List Prof → Report → Report
printing lines r = record r { profile = lines }

-- The line of a bucket: its mark end, its stack and its slot, and its allocs and frees.
abbrev pub prof : ℕ → ℕ → ℕ → ℕ → ℕ → Prof
prof mark stack size allocs frees = record { mark = mark; stack = stack; size = size; allocs = allocs; frees = frees }

-- An object at so many bytes behind the region's start.
abbrev pub at : ℕ → Answer
at offset = Placed (0xc000000000 + offset)

-- The same event so many times.
abbrev pub times : ℕ → Event → List Event
times zero event = []
times (suc n) event = event ∷ times n event

-- So many slots in a row, from an offset on.
abbrev pub slots : ℕ → ℕ → ℕ → List Answer
slots zero from slot = []
slots (suc n) from slot = at from ∷ slots n (from + slot) slot

-- A row of the table: a trace and a report, which is sound (0) or breaks the rule of that number first.
pub record Row : Type 0 where
  pub trace : Trace
  pub report : Report
  pub broken : ℕ

-- A row of a sound report.
abbrev pub sound : Trace → Report → Row
sound t r = record { trace = t; report = r; broken = 0 }

-- A row of a report that breaks a rule first.
abbrev pub breaks : ℕ → Trace → Report → Row
breaks n t r = record { trace = t; report = r; broken = n }

-- The report is sound by some objects, or the rule is the first that it breaks.
abbrev pub IsJudged : ℕ → Trace → Report → Type 0
IsJudged zero t r = (objects : List Object) × IsSound t r objects
IsJudged (suc n) t r = IsFirstBroken (suc n) t r

-- The definitions say of the row what it says.
abbrev pub Agrees : Row → Type 0
Agrees row = IsJudged row.broken row.trace row.report

-- They do of each row.
abbrev pub AllAgree : List Row → Type 0
AllAgree rows = AllByRecursion Agrees rows

-- A row on use: a trace, a sound report, and whether it is used as well.
pub record UsedRow : Type 0 where
  pub trace : Trace
  pub report : Report
  pub used : Bool

abbrev pub used : Trace → Report → UsedRow
used t r = record { trace = t; report = r; used = true }

abbrev pub unused : Trace → Report → UsedRow
unused t r = record { trace = t; report = r; used = false }

-- The report is sound and used, or it is sound, and no objects show that it is used.
abbrev pub IsUseJudged : Bool → Trace → Report → Type 0
IsUseJudged true t r = IsSoundAndUsed t r
IsUseJudged false t r = IsJudged 0 t r × (¬ IsSoundAndUsed t r)

-- The definitions say of each row what it says.
abbrev pub AllUseAgree : List UsedRow → Type 0
AllUseAgree rows = AllByRecursion (λ (row : UsedRow). IsUseJudged row.used row.trace row.report) rows
