use Rattle.std.proofs.Common.{◌≡◌, ◌++◌, map, take}
use Rattle.tiny_alloc.specs.Growing.{lone_part}
use Rattle.tiny_alloc.proofs.lone.add_lone_parts.Given as goal

-- the parts so far
abbrev pub invariant-loop-event : goal.invariant-loop-event
invariant-loop-event l = l.parts.items ≡ l.initial.parts.items ++ map lone_part (take l.event-index l.events)
