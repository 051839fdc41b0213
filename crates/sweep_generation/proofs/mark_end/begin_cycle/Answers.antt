use Rattle.std.proofs.Common.{◌∙◌, ◌≤◌, ◌+◌, List, length, map, ap, refl, sym, subst, arith}
use Rattle.std.specs.List.{All}
use Rattle.sweep_lists.specs.declared.set.CoreSet.{CoreSet}
use Rattle.sweep_lists.specs.declared.hand.CoreHand.{CoreHand}
use Rattle.sweep_laws.specs.State.{CoreState}
use Rattle.sweep_lists.specs.Views.{set_view, HandRoom}
use Rattle.sweep_generation.specs.Unpopped.{count_unpopped}
use Rattle.sweep_generation.proofs.Seen.{kept-sets, kept-hands, kept-generation}
use Rattle.sweep_generation.proofs.mark_end.begin_cycle.Goals as goal

pub invariant_of-core : goal.invariant_of-core
invariant_of-core c =
    let low = c.requires in
    let is = ap (λ (s : CoreState). s.generation) c.core.view_is in
    let counted = c.count_unpopped-core-inside.ensures ∙ ap (λ (xs : List CoreSet). count_unpopped (c.core.inside.generation + 2) 0 (map set_view xs)) c.deref.ensures.value in
    let k1 = kept-sets _ c.empty_unswept.new.sets (c.empty_unswept.ensures.room c.core.inside.room (subst (λ (xs : List CoreSet). All (λ (x : CoreSet). c.core.inside.room ≤ x.cells.space) xs) (sym c.deref_mut.ensures.value) c.core.invariant.sets_room)) _ refl c.core.invariant in
    let k2 = kept-hands _ c.forget_swept.new.hands (c.forget_swept.ensures.room (length c.core.inside.words) c.core.inside.room (subst (λ (xs : List CoreHand). All (HandRoom (length c.core.inside.words) c.core.inside.room) xs) (sym c.deref_mut-2.ensures.value) c.core.invariant.hands_room)) k1 in
    kept-generation _ (c.core.inside.generation + 2) (omega (arith, low, is)) c.count_unpopped-core-inside.result counted k2
