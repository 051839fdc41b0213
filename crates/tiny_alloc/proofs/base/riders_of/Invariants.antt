use Rattle.std.proofs.Common.{◌≡◌}
use Rattle.tiny_alloc.specs.Base.{riders_below}
use Rattle.tiny_alloc.specs.Parts.{part_by}
use Rattle.tiny_alloc.proofs.base.riders_of.Given as goal

-- the riders so far
abbrev pub invariant-loop-object : goal.invariant-loop-object
invariant-loop-object l = l.riders ≡ riders_below (part_by l.parts) l.object
