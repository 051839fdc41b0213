use Rattle.std.proofs.Common.{◌∙◌, ℕ, List, length, map, refl, sym, ap, subst, arith, rules}
use Rattle.std.specs.List.{All, range_with_len}
use Rattle.std.proofs.lemmas.List.FromFn.{length-map-range_with_len}
use Rattle.sweep_lists.specs.Room.{Tabled}
use Rattle.sweep_lists.specs.Bare.{bare_hand}
use Rattle.sweep_lists.specs.declared.set.CoreSet.{CoreSet}
use Rattle.sweep_lists.specs.Views.{hand_view, set_view, HandRoom}
use Rattle.sweep_generation.specs.Unpopped.{count_unpopped}
use Rattle.sweep_laws.proofs.MemoryKept.{start_tidy}
use Rattle.sweep_laws.specs.State.{CoreState, LifeState}
use Rattle.sweep_lists.proofs.Maps.{map-const}
use Rattle.sweep_generation.proofs.Seen.{bare-hands}
use Rattle.sweep_generation.proofs.state.Core.with_sets.Goals as goal

pub invariant_of-result : goal.invariant_of-result
invariant_of-result c = record {
  generation = c.requires;
  pages = rw (c.in_ok-new.ensures, length-map-range_with_len) (search rules);
  owners = rw (c.in_ok-new.ensures, c.in_ok-owners.ensures) (length-map-range_with_len _ 0 c.args.pages ∙ sym (length-map-range_with_len _ 0 c.args.pages));
  workers = rw (c.in_ok-hands.ensures, length-map-range_with_len) (search rules);
  lives_room = omega arith;
  lives_table = ap (λ (x : Tabled LifeState). x.reach) c.in_ok-with_table.ensures ∙ sym (ap (λ (xs : List ℕ). length xs) c.in_ok-new.ensures ∙ length-map-range_with_len _ 0 c.args.pages);
  hands_room = subst (λ (n : ℕ). All (HandRoom n 0) c.in_ok-hands.hands.items) (sym (ap (λ (xs : List ℕ). length xs) c.in_ok-new.ensures ∙ length-map-range_with_len _ 0 c.args.pages)) (bare-hands c.args.pages c.args.workers c.in_ok-hands.hands.items c.in_ok-hands.ensures);
  sets_room = λ k d l. omega arith;
  unpopped = c.count_unpopped-unpopped.ensures ∙ ap (λ (xs : List CoreSet). count_unpopped c.args.generation 0 (map set_view xs)) c.deref.ensures.value;
}

pub returns-clause-state : goal.returns-clause-state
returns-clause-state c =
    rw (c.in_ok-new.ensures, c.in_ok-owners.ensures, c.in_ok-with_table.ensures, c.into_vec-sets.ensures, c.in_ok-hands.ensures, map-const hand_view (bare_hand c.args.pages) (range_with_len 0 c.args.workers), c.new-2.ensures) refl

pub returns-clause-tidy : goal.returns-clause-tidy
returns-clause-tidy c = let e = returns-clause-state c in start_tidy _ c.args.workers (ap (λ (s : CoreState). s.hands) e) (ap (λ (s : CoreState). s.lives) e)
