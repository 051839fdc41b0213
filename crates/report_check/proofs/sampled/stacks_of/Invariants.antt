use Rattle.std.proofs.Common.{◌≡◌, map, take}
use Rattle.std.specs.List.{flat_map}
use Rattle.trace_reader.specs.declared.trace.Event.{Event}
use Rattle.report_check.proofs.sampled.stacks_of.Given as goal

-- the stacks of the events of the cycles so far
abbrev pub invariant-loop-part : goal.invariant-loop-part
invariant-loop-part l = l.stacks.items ≡ map (λ (e : Event). e.stack) (flat_map (λ c. c.events) (take l.part-index l.trace.cycles))
