use Rattle.std.proofs.Common.{◌≡◌, ◌++◌, map, take}
use Rattle.trace_reader.specs.declared.trace.Event.{Event}
use Rattle.report_check.proofs.sampled.add_stacks.Given as goal

-- the stacks of the events so far
abbrev pub invariant-loop-event : goal.invariant-loop-event
invariant-loop-event l = l.stacks.items ≡ l.initial.stacks.items ++ map (λ (e : Event). e.stack) (take l.event-index l.events)
