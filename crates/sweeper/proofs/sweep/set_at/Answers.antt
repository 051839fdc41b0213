use Rattle.std.proofs.Common.{◌+◌, ◌*◌, ◌/◌, ◌%◌, ℕ, ap}
use Rattle.sweeper.proofs.Searching.{one_less}
use Rattle.sweeper.proofs.sweep.set_at.Goals as goal

pub returns-clause-number : goal.returns-clause-number
returns-clause-number c g = ap (λ (x : ℕ). 4 * (c.args.index / 2) + 2 * x + (g / 2 + 1) % 2) (one_less c.args.index)
