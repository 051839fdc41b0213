use Rattle.std.proofs.Common.{◌∙◌, ◌<◌, ◌≤◌, ◌^◌, ℕ, List, length, map, ap, sym, subst}
use Rattle.std.specs.Vec.{with_items}
use Rattle.std.specs.List.{All}
use Rattle.sweep_lists.specs.declared.hand.CoreHand.{CoreHand}
use Rattle.sweep_lists.specs.declared.set.CoreSet.{CoreSet}
use Rattle.sweep_laws.specs.State.{SetState}
use Rattle.sweep_lists.specs.Views.{set_view, HandRoom}
use Rattle.sweep_generation.specs.Unpopped.{count_unpopped}
use Rattle.sweep_generation.proofs.Seen.{kept-hands, kept-sets, kept-lives, items-whole}
use Rattle.sweep_generation.proofs.state.Core.make_room.Goals as goal

pub invariant_of-self-in_err-reserve_hands : goal.invariant_of-self-in_err-reserve_hands
invariant_of-self-in_err-reserve_hands c =
    let sets = items-whole c.self.inside.sets c.reserve_sets.new.sets (c.reserve_sets.auto.sets ∙ ap (λ (xs : List CoreSet). length xs) c.deref_mut.ensures.value) in
    let seen = ap (λ (xs : List CoreSet). map set_view xs) sets ∙ c.reserve_sets.ensures.view ∙ ap (λ (xs : List CoreSet). map set_view xs) c.deref_mut.ensures.value in
    let counted = c.self.invariant.unpopped ∙ ap (λ (xs : List SetState). count_unpopped c.self.inside.generation 0 xs) (sym seen) in
    kept-hands _ c.reserve_hands.new.hands (c.reserve_hands.ensures.keeps (length c.self.inside.words) c.self.inside.room (subst (λ (xs : List CoreHand). All (HandRoom (length c.self.inside.words) c.self.inside.room) xs) (sym c.deref_mut-2.ensures.value) c.self.invariant.hands_room))
    (kept-sets _ c.reserve_sets.new.sets (c.reserve_sets.ensures.keeps c.self.inside.room (subst (λ (xs : List CoreSet). All (λ (x : CoreSet). c.self.inside.room ≤ x.cells.space) xs) (sym c.deref_mut.ensures.value) c.self.invariant.sets_room)) _ counted
    (kept-lives c.self.inside c.reserve.new.self c.reserve.ensures.grows c.reserve.ensures.reach c.self.invariant))

pub invariant_of-self-2 : goal.invariant_of-self-2
invariant_of-self-2 c =
    let sets = items-whole c.self.inside.sets c.reserve_sets.new.sets (c.reserve_sets.auto.sets ∙ ap (λ (xs : List CoreSet). length xs) c.deref_mut.ensures.value) in
    let seen = ap (λ (xs : List CoreSet). map set_view xs) sets ∙ c.reserve_sets.ensures.view ∙ ap (λ (xs : List CoreSet). map set_view xs) c.deref_mut.ensures.value in
    let hands = items-whole c.self.inside.hands c.reserve_hands.new.hands (c.reserve_hands.auto.hands ∙ ap (λ (xs : List CoreHand). length xs) c.deref_mut-2.ensures.value) in
    let had = subst (λ (xs : List CoreHand). All (HandRoom (length c.self.inside.words) c.self.inside.room) xs) (sym c.deref_mut-2.ensures.value) c.self.invariant.hands_room in
    record {
      generation = c.self.invariant.generation;
      pages = c.self.invariant.pages;
      owners = c.self.invariant.owners;
      workers = subst (λ (n : ℕ). n < 2 ^ 32) (sym c.self.inside.hands.ok.0 ∙ (with_items c.self.inside.hands c.reserve_hands.new.hands).ok.0) c.self.invariant.workers;
      lives_room = c.in_ok-reserve.ensures.ok;
      lives_table = c.reserve.ensures.reach ∙ c.self.invariant.lives_table;
      hands_room = subst (λ (xs : List CoreHand). All (HandRoom (length c.self.inside.words) c.len-room.result) xs) (sym hands) (c.in_ok-reserve_hands.ensures.ok (length c.self.inside.words) c.self.inside.room had);
      sets_room = subst (λ (xs : List CoreSet). All (λ (x : CoreSet). c.len-room.result ≤ x.cells.space) xs) (sym sets) c.in_ok-reserve_sets.ensures.ok;
      unpopped = c.self.invariant.unpopped ∙ ap (λ (xs : List SetState). count_unpopped c.self.inside.generation 0 xs) (sym seen);
    }
