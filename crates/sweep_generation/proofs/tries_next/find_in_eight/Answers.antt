use Rattle.std.proofs.Common.{sym, ◌∙◌}
use Rattle.sweep_generation.proofs.Zeros.{zeros_settled}
use Rattle.sweep_generation.proofs.tries_next.find_in_eight.Goals as goal

pub returns-then-are_zero : goal.returns-then-are_zero
returns-then-are_zero c = sym (zeros_settled c.args.generation c.args.eight.now (sym c.are_zero.ensures ∙ c.if-are_zero.true))
