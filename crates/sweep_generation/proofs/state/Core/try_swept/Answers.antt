use Rattle.std.proofs.Common.{Bool, [], ◌∷◌, subst}
use Rattle.sweep_laws.specs.NeedsOfRange.{need}
use Rattle.sweep_laws.specs.Tries.{Tried}
use Rattle.sweep_laws.specs.declared.moves.Found.TheVariants.{Range}
use Rattle.sweep_generation.proofs.state.Core.try_swept.Goals as goal

pub returns-clause-tried : goal.returns-clause-tried
returns-clause-tried c = subst (λ (met : Bool). Tried (need met Range ∷ []) c.demand.result) c.is_swept_set.ensures c.demand.ensures.tried
