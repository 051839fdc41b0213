use Rattle.std.proofs.Common.{◌*◌, ap, ◌∙◌, List, Some}
use Rattle.trace_reader.specs.declared.trace.Cycle.{Cycle}
use Rattle.trace_reader.specs.declared.trace.Event.{Event}
use Rattle.trace_reader.specs.declared.span.Span.{Span}
use Rattle.trace_gen.specs.Made.{events_from}
use Rattle.trace_gen.proofs.made.full_cycle.Goals as goal

cycle_of : List Event → List Span → Cycle
cycle_of events marks = record { events = events; mark = Some (record { distance = 4194304; marks = marks }) }

pub returns-clause-cycle : goal.returns-clause-cycle
unfolding cycle_of
returns-clause-cycle c = λ g is.
    ap (λ events. cycle_of events c.in_ok-marks.marks) (c.in_ok-events.ensures.events g is) ∙ ap (cycle_of (events_from g (10000 * c.args.number) 10000)) c.in_ok-marks.ensures
