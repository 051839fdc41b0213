use Rattle.std.proofs.Common.{arith}
use Rattle.sweep_lists.proofs.Frees.{least_is, least_none}
use Rattle.sweep_lists.proofs.indices.Indices.least_free.Goals as goal

pub returns-then-self-count : goal.returns-then-self-count
returns-then-self-count c =
    rw (← c.self.view_is) (least_is c.self.inside.numbers.items c.args.count c.self.inside.free c.self.invariant.below (omega arith) (c.self.invariant.outside (omega arith)))

pub returns-else-self-count : goal.returns-else-self-count
returns-else-self-count c =
    rw (← c.self.view_is) (least_none c.self.inside.numbers.items c.args.count (λ j low. c.self.invariant.below j (omega arith)))
