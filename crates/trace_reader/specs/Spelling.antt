-- A trace as lines of text.
use Rattle.std.specs.Prelude.{ℕ, Bool, true, false, List, [], ◌∷◌, ◌++◌, map, codes, decimal, Option, Some, None}
use Rattle.std.specs.List.{concat, flat_map}
use Rattle.edge_io.specs.Text.{text}
use Rattle.trace_reader.specs.declared.statement.Statement.{Statement}
use Rattle.trace_reader.specs.declared.statement.Statement.TheVariants.{Title, Heap, Alloc, Gc, Mark, End}
use Rattle.trace_reader.specs.declared.statement.HeapForm.{HeapForm}
use Rattle.trace_reader.specs.declared.statement.AllocForm.{AllocForm}
use Rattle.trace_reader.specs.declared.trace.Trace.{Trace}
use Rattle.trace_reader.specs.declared.trace.Header.{Header}
use Rattle.trace_reader.specs.declared.trace.Cycle.{Cycle}
use Rattle.trace_reader.specs.declared.trace.Event.{Event}
use Rattle.trace_reader.specs.declared.trace.MarkEnd.{MarkEnd}
use Rattle.trace_reader.specs.declared.span.Span.{Span}

-- how a line says that objects have pointers, or have none
abbrev pub kind : Bool → List ℕ
kind true = codes " s "
kind false = codes " n "

-- the first line
abbrev pub title_line : ℕ → List ℕ
title_line version = concat (codes "goheap " ∷ decimal version ∷ [])

-- the second line
abbrev pub heap_line : HeapForm → List ℕ
heap_line h = concat (codes "heap " ∷ decimal h.chunks ∷ codes " procs " ∷ decimal h.procs ∷ codes " rate " ∷ decimal h.rate ∷ codes " seed " ∷ decimal h.seed ∷ codes " goal " ∷ decimal h.goal ∷ [])

-- the line of an allocation
abbrev pub alloc_line : AllocForm → List ℕ
alloc_line e = concat (codes "a " ∷ decimal e.proc ∷ codes " " ∷ decimal e.size ∷ kind e.scan ∷ decimal e.stack ∷ [])

-- the line of a mark end
abbrev pub gc_line : ℕ → List ℕ
gc_line distance = concat (codes "gc " ∷ decimal distance ∷ [])

-- the line that marks the objects from lo to hi
abbrev pub mark_line : ℕ → ℕ → List ℕ
mark_line lo hi = concat (codes "m " ∷ decimal lo ∷ codes " " ∷ decimal hi ∷ [])

-- the line that says this
abbrev pub line_for : Statement → List ℕ
line_for (Title version) = title_line version
line_for (Heap h) = heap_line h
line_for (Alloc e) = alloc_line e
line_for (Gc distance) = gc_line distance
line_for (Mark lo hi) = mark_line lo hi
line_for End = codes "end"

-- the statements of a header, of an event and of a mark
abbrev pub heap_of : Header → Statement
heap_of h = Heap (record { chunks = h.chunks; procs = h.procs; rate = h.rate; seed = h.seed; goal = h.goal })

abbrev pub form_of : Event → AllocForm
form_of e = record { proc = e.proc; size = e.size; scan = e.scan; stack = e.stack }

abbrev pub alloc_of : Event → Statement
alloc_of e = Alloc (form_of e)

abbrev pub mark_of : Span → Statement
mark_of s = Mark s.lo s.hi

-- a mark end, and its marks
abbrev pub mark_statements : Option MarkEnd → List Statement
mark_statements None = []
mark_statements (Some m) = Gc m.distance ∷ map mark_of m.marks

-- the events of a cycle, and the mark end behind them
abbrev pub cycle_statements : Cycle → List Statement
cycle_statements c = map alloc_of c.events ++ mark_statements c.mark

-- what the lines of a trace say, in order
abbrev pub statements_of : Trace → List Statement
statements_of t = Title t.header.version ∷ heap_of t.header ∷ (flat_map cycle_statements t.cycles ++ End ∷ [])

-- the lines that say these, each ended by a line feed
abbrev pub spelled : List Statement → List ℕ
spelled statements = text (map line_for statements)

-- the lines of a trace
abbrev pub lines_of : Trace → List (List ℕ)
lines_of t = map line_for (statements_of t)
