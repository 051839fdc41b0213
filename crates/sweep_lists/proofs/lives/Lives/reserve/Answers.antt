use Rattle.std.proofs.Common.{arith}
use Rattle.sweep_lists.proofs.Begins.{kept-reserved}
use Rattle.sweep_lists.proofs.lives.Lives.reserve.Goals as goal

pub invariant_of-self : goal.invariant_of-self
invariant_of-self c = kept-reserved c.self.inside c.reserve.new.self c.self.inside.space c.self.invariant c.reserve.ensures.items (omega (arith, c.self.invariant.space, c.reserve.ensures.capacity))

pub invariant_of-self-then-self-space : goal.invariant_of-self-then-self-space
invariant_of-self-then-self-space c =
    kept-reserved c.self.inside c.reserve.new.self c.args.space c.self.invariant c.reserve.ensures.items (omega (arith, c.in_ok-reserve.ensures.ok, c.saturating_sub.ensures, c.len.ensures))
