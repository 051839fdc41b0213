use Rattle.std.proofs.Common.{◌≡◌, ◌++◌, map, take}
use Rattle.trace_reader.specs.declared.trace.Event.{Event}
use Rattle.report_check.proofs.lasts.add_cycles.Given as goal

-- the cycle of the events so far
abbrev pub invariant-loop-event : goal.invariant-loop-event
invariant-loop-event l = l.cycles.items ≡ l.initial.cycles.items ++ map (λ (e : Event). l.cycle) (take l._event-index l.events)
