use Rattle.sweep_generation.proofs.Zeros.{eight_zeros}
use Rattle.sweep_generation.proofs.tries_next.are_zero.Goals as goal

pub returns : goal.returns
returns c = eight_zeros c.args.eight.now c.requires
