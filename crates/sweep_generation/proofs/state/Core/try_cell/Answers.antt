use Rattle.std.proofs.Common.{ℕ, nat_eq, not, [], ◌∷◌, subst}
use Rattle.sweep_laws.specs.NeedsOfRange.{need}
use Rattle.sweep_laws.specs.Tries.{Tried}
use Rattle.sweep_laws.specs.declared.moves.Found.TheVariants.{Cell}
use Rattle.sweep_generation.proofs.state.Core.try_cell.Goals as goal

pub returns : goal.returns
returns c = subst (λ (cell : ℕ). Tried (need (not (nat_eq cell 0)) (Cell 0) ∷ []) c.demand.result) c.head_cell.ensures c.demand.ensures.tried
