use Rattle.std.proofs.Common.{rules}
use Rattle.sweep_generation.proofs.state.Core.try_least_free.Goals as goal

pub returns : goal.returns
returns c = search rules
