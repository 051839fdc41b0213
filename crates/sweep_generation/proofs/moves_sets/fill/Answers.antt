use Rattle.std.proofs.Common.{◌∙◌, ◌≡◌, ◌+◌, ◌<◌, ◌≤◌, List, map, set, get_or, Option, length, ap, refl, sym, subst, arith}
use Rattle.std.specs.List.{All}
use Rattle.std.specs.Option.{IfSome}
use Rattle.std.proofs.lemmas.Result.{err_from_is_err_and}
use Rattle.sweep_lists.specs.declared.set.CoreSet.{CoreSet}
use Rattle.sweep_laws.specs.declared.moves.Claimed.{Claimed}
use Rattle.sweep_laws.specs.State.{CoreState, SetState}
use Rattle.sweep_laws.specs.ChangesOfHands.{fill_cell}
use Rattle.sweep_generation.proofs.Seen.{hand-changed, low-hand, kept-hand, kept-sets, items-whole}
use Rattle.sweep_lists.specs.Views.{set_view}
use Rattle.sweep_laws.specs.Reading.{no_set}
use Rattle.sweep_laws.specs.ChangesOfSets.{name_page}
use Rattle.sweep_generation.specs.Unpopped.{count_unpopped}
use Rattle.sweep_generation.proofs.Counted.{count_same}
use Rattle.sweep_laws.specs.declared.moves.Move.TheVariants.{Fill}
use Rattle.sweep_generation.proofs.Tried.{refused}
use Rattle.sweep_generation.proofs.moves_sets.fill.Goals as goal

pub returns-in_err-name_page : goal.returns-in_err-name_page
returns-in_err-name_page c =
    let p = err_from_is_err_and c.from_residual-in_err-name_page.result c.from_residual-in_err-name_page.ensures.1 in
    let full = c.in_err-name_page.ensures.full c.core.inside.room (subst (λ (xs : List CoreSet). All (λ (x : CoreSet). c.core.inside.room ≤ x.cells.space) xs) (sym c.deref_mut.ensures.value) c.core.invariant.sets_room) in
    let e = ap (λ (s : CoreState). s.room) c.core.view_is in
    rw (p.1, p.2, items-whole c.core.inside.sets c.name_page.new.sets (c.name_page.auto.sets ∙ ap (λ (xs : List CoreSet). length xs) c.deref_mut.ensures.value), c.in_err-name_page.ensures.err, c.deref_mut.ensures.value)
    (c.in_ok-claim.ensures.tried, c.core.view_is, λ r. let low = subst (λ (o : Option Claimed). IfSome o (λ claim. claim.index < c.args.core.now.room)) c.in_ok-claim.ensures.claim r in omega (arith, full, e, low))

pub invariant_of-core-2 : goal.invariant_of-core-2
invariant_of-core-2 c =
    let at : c.in_ok-claim.claim.set ≡ 0 + c.in_ok-claim.claim.set = omega arith in
    let after = name_page c.in_ok-claim.claim.index c.in_ok-claim.claim.page (get_or (map set_view c.core.inside.sets.items) c.in_ok-claim.claim.set no_set) in
    let same = count_same c.core.inside.generation 0 c.in_ok-claim.claim.set c.in_ok-claim.claim.set (map set_view c.core.inside.sets.items) after at refl in
    let named = c.in_ok-name_page.ensures.ok ∙ ap (λ (xs : List CoreSet). set (map set_view xs) c.in_ok-claim.claim.set (name_page c.in_ok-claim.claim.index c.in_ok-claim.claim.page (get_or (map set_view xs) c.in_ok-claim.claim.set no_set))) c.deref_mut.ensures.value in
    let counted = c.core.invariant.unpopped ∙ sym same
    ∙ ap (λ (xs : List SetState). count_unpopped c.core.inside.generation 0 xs)
    (sym (ap (λ (xs : List CoreSet). map set_view xs) (items-whole c.core.inside.sets c.name_page.new.sets (c.name_page.auto.sets ∙ ap (λ (xs : List CoreSet). length xs) c.deref_mut.ensures.value)) ∙ named)) in
    kept-hand _ c.args.worker (low-hand c.core.inside c.args.core.now c.core.view_is c.args.worker c.in_ok-claim.ensures.worker) c.index_mut.result.now _ c.index_mut.ensures.value c.fill_cell.ensures.room
    (kept-sets c.core.inside c.name_page.new.sets (c.name_page.ensures.room c.core.inside.room (subst (λ (xs : List CoreSet). All (λ (x : CoreSet). c.core.inside.room ≤ x.cells.space) xs) (sym c.deref_mut.ensures.value) c.core.invariant.sets_room)) _ counted c.core.invariant)

pub returns : goal.returns
returns c =
    let f = hand-changed c.core.inside c.args.core.now c.core.view_is c.args.worker c.in_ok-claim.ensures.worker c.index_mut.result.now c.fill_cell.new.self (fill_cell c.in_ok-claim.claim.page) c.index_mut.ensures.value c.fill_cell.ensures.view in (
      c.in_ok-claim.ensures.tried,
      rw (c.in_ok-claim.ensures.claim, ← c.core.view_is, f, items-whole c.core.inside.sets c.name_page.new.sets (c.name_page.auto.sets ∙ ap (λ (xs : List CoreSet). length xs) c.deref_mut.ensures.value), c.in_ok-name_page.ensures.ok, c.deref_mut.ensures.value) refl,
      refl,
    )

pub returns-in_err-claim : goal.returns-in_err-claim
returns-in_err-claim c =
    let p = err_from_is_err_and c.from_residual.result c.from_residual.ensures.1 in
    rw (p.1, p.2) (refused Claimed c.args.core.now (Fill c.args.worker) _ c.in_err-claim.ensures.tried)
