use Rattle.std.proofs.Common.{rules}
use Rattle.sweep_generation.proofs.state.Core.try_no_claims.Goals as goal

pub returns-in-Some : goal.returns-in-Some
returns-in-Some c = search rules
