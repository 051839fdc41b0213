-- What a reader keeps of the lines behind the header, and what they say.
use Rattle.std.specs.Prelude.{◌≡◌, ℕ, List, [], ◌∷◌, Option, Some, None, ◌≢◌, ◌++◌, map}
use Rattle.std.specs.List.{flat_map}
use Rattle.trace_reader.specs.declared.statement.Statement.{Statement}
use Rattle.trace_reader.specs.declared.statement.Statement.TheVariants.{Gc}
use Rattle.trace_reader.specs.Spelling.{alloc_of, cycle_statements, mark_of}
use Rattle.trace_reader.specs.declared.draft.Draft.{Draft}
use Rattle.trace_reader.specs.declared.trace.Cycle.{Cycle}
use Rattle.trace_reader.specs.declared.trace.MarkEnd.{MarkEnd}
use Rattle.trace_reader.specs.declared.span.Span.{Span}

-- the marks of a mark end
abbrev pub marks_in : Option MarkEnd → List Span
marks_in None = []
marks_in (Some m) = m.marks

-- the marks of the last cycle's mark end
abbrev pub kept_of : List Cycle → List Span
kept_of [] = []
kept_of (c ∷ []) = marks_in c.mark
kept_of (c ∷ d ∷ cs) = kept_of (d ∷ cs)

-- the cycle ends with a mark end
abbrev pub HasEnd : Cycle → Type 0
HasEnd c = c.mark ≢ None

-- all cycles but the last end with a mark end
abbrev pub AreEnded : List Cycle → Type 0
AreEnded [] = ⊥
AreEnded (c ∷ []) = c.mark ≡ None
AreEnded (c ∷ d ∷ cs) = HasEnd c × AreEnded (d ∷ cs)

-- the lines of a mark end whose marks may go on
abbrev pub ending : Option ℕ → List Span → List Statement
ending None marks = []
ending (Some distance) marks = Gc distance ∷ map mark_of marks

-- what the lines behind the header said
abbrev pub told_of : Draft → List Statement
told_of d = flat_map cycle_statements d.cycles ++ (map alloc_of d.events ++ ending d.distance d.marks)

-- the draft behind the marks
abbrev pub ended_at : Draft → Option ℕ → Draft
ended_at d None = d
ended_at d (Some distance) = record d { cycles = d.cycles ++ record { events = d.events; mark = Some (record { distance = distance; marks = d.marks }) } ∷ []; events = []; distance = None; marks = []; first = d.objects }

abbrev pub ended : Draft → Draft
ended d = ended_at d d.distance
