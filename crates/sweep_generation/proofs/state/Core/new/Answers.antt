use Rattle.std.proofs.Common.{◌∙◌, List, map, ap}
use Rattle.std.specs.List.{range_with_len}
use Rattle.std.proofs.lemmas.Result.{IfOk-weaker}
use Rattle.sweep_lists.specs.declared.set.CoreSet.{CoreSet}
use Rattle.sweep_lists.specs.Bare.{bare_set}
use Rattle.sweep_lists.specs.Views.{set_view}
use Rattle.sweep_lists.proofs.Maps.{map-const}
use Rattle.sweep_laws.specs.Start.{new_state}
use Rattle.sweep_laws.specs.State.{SetState}
use Rattle.sweep_laws.proofs.NewOwned.{owned_as}
use Rattle.sweep_laws.proofs.MemoryKept.{start_tails}
use Rattle.sweep_generation.proofs.state.Core.new.Goals as goal

pub returns-clause-state : goal.returns-clause-state
returns-clause-state c =
    let sets = ap (λ (xs : List CoreSet). map set_view xs) (c.from_vec.ensures ∙ c.in_ok-sets.ensures) ∙ map-const set_view bare_set (range_with_len 0 544) in
    IfOk-weaker c.with_sets.result _ _ (λ core is. is ∙ ap (λ (xs : List SetState). record (new_state c.args.pages c.args.workers) { sets = xs }) sets) c.with_sets.ensures.state

pub returns-clause-owned : goal.returns-clause-owned
returns-clause-owned c = IfOk-weaker c.with_sets.result _ _ (λ core is. owned_as _ c.args.pages c.args.workers is) (returns-clause-state c)

pub returns-clause-tails : goal.returns-clause-tails
returns-clause-tails c = IfOk-weaker c.with_sets.result _ _ (λ core is. start_tails _ c.args.pages c.args.workers is) (returns-clause-state c)
