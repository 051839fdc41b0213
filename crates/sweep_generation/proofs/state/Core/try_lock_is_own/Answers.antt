use Rattle.std.proofs.Common.{Bool, [], ◌∷◌, ◌∙◌, subst}
use Rattle.sweep_laws.specs.State.{CoreState}
use Rattle.sweep_laws.specs.NeedsOfRange.{need}
use Rattle.sweep_laws.specs.NeedsOfPages.{lock_is_own}
use Rattle.sweep_laws.specs.Tries.{Tried}
use Rattle.sweep_laws.specs.declared.moves.Found.TheVariants.{Holder}
use Rattle.sweep_generation.proofs.Tried.{holder_eq}
use Rattle.sweep_generation.proofs.state.Core.try_lock_is_own.Goals as goal

pub returns : goal.returns
returns c =
    subst (λ (s : CoreState). Tried (lock_is_own s c.args.worker ∷ []) c.demand.result) c.self.view_is
    (subst (λ (met : Bool). Tried (need met (Holder c.self.inside.lock) ∷ []) c.demand.result) (c.eq.ensures ∙ holder_eq c.args.worker c.self.inside.lock) c.demand.ensures.tried)
