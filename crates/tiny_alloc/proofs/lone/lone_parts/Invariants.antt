use Rattle.std.proofs.Common.{◌≡◌, map, take}
use Rattle.tiny_alloc.specs.Growing.{lone_part}
use Rattle.tiny_alloc.proofs.Alone.{events_in}
use Rattle.tiny_alloc.proofs.lone.lone_parts.Given as goal

-- the parts so far
abbrev pub invariant-loop-cycle : goal.invariant-loop-cycle
invariant-loop-cycle l = l.parts.items ≡ map lone_part (events_in (take l.cycle-index l.cycles))
