use Rattle.std.proofs.Common.{arith}
use Rattle.sweep_lists.proofs.Begins.{used-few}
use Rattle.sweep_lists.proofs.lives.Lives.reserve_one.Goals as goal

pub overflow_add-space : goal.overflow_add-space
overflow_add-space c = omega (arith, used-few c.self.inside c.self.invariant, c.self.inside.places.ok.0, c.self.inside.places.small)
