use Rattle.std.proofs.Common.{rules}
use Rattle.sweep_generation.proofs.state.Core.try_nothing_allocated.Goals as goal

pub returns-in-Some-least : goal.returns-in-Some-least
returns-in-Some-least c = search rules
