use Rattle.std.proofs.Common.{◌≡◌, ◌∙◌, ℕ, List, Option, get_or, map, set, length, ap, refl, sym, arith}
use Rattle.std.proofs.Math.ListN.{length-set}
use Rattle.std.proofs.lemmas.Result.{err_from_is_err_and}
use Rattle.std.specs.Vec.{with_item}
use Rattle.std.proofs.Common.{◌<◌, subst, take}
use Rattle.sweep_laws.specs.State.{CoreState, HandState}
use Rattle.sweep_laws.specs.Reading.{hand_of, no_hand, free_with, free_block}
use Rattle.sweep_laws.specs.ChangesOfHands.{pull_pages}
use Rattle.sweep_laws.specs.declared.moves.Move.TheVariants.{Pull}
use Rattle.sweep_lists.specs.Views.{hand_view}
use Rattle.sweep_generation.proofs.Ranges.{taken_length}
use Rattle.sweep_generation.proofs.Seen.{hand-changed, hand-same, room-at, low-hand, kept-hand, seen-hand}
use Rattle.sweep_generation.proofs.Tried.{refused}
use Rattle.sweep_generation.proofs.moves_pull.pull.Goals as goal

pub invariant_of-core : goal.invariant_of-core
invariant_of-core c = kept-hand c.core.inside c.args.worker (low-hand c.core.inside c.args.core.now c.core.view_is c.args.worker c.in_ok-page.ensures.worker) c.index_mut.result.now c.reserve_pulled.new.self c.index_mut.ensures.value c.reserve_pulled.ensures.room c.core.invariant

pub returns-in_err-reserve_pulled : goal.returns-in_err-reserve_pulled
returns-in_err-reserve_pulled c =
    let p = err_from_is_err_and c.from_residual-in_err-reserve_pulled.result c.from_residual-in_err-reserve_pulled.ensures.1 in
    let k = room-at c.core.inside c.args.core.now c.core.view_is c.args.worker c.in_ok-page.ensures.worker c.index_mut.result.now c.index_mut.ensures.value c.core.invariant in
    let few = c.list_block-count.ensures.count in
    let long = c.list_block-count.ensures.long in
    let size : length (free_block c.args.core.now) ≡ c.list_block-count.result =
    ap (λ (o : Option ℕ). length (free_with c.args.core.now o)) c.in_ok-page.ensures.page.0 ∙ sym (ap (λ (xs : List ℕ). length xs) c.list_block-count.ensures.pages)
    ∙ taken_length c.list_block-count.result c.list_block-count.new.block (omega arith) in
    rw (p.1, p.2, hand-same c.core.inside c.args.core.now c.core.view_is c.args.worker c.index_mut.result.now c.reserve_pulled.new.self c.index_mut.ensures.value c.reserve_pulled.ensures.view)
    (c.in_ok-page.ensures.tried, c.core.view_is, λ r. omega (arith, r, size, k.pulled, c.in_err-reserve_pulled.ensures.full))

pub invariant_of-core-2 : goal.invariant_of-core-2
invariant_of-core-2 c =
    let low = subst (λ (n : ℕ). c.args.worker < n) (sym (length-set c.core.inside.hands.items c.args.worker c.reserve_pulled.new.self)) (low-hand c.core.inside c.args.core.now c.core.view_is c.args.worker c.in_ok-page.ensures.worker) in
    kept-hand _ c.args.worker low c.index_mut-2.result.now c.pull_pages.new.self c.index_mut-2.ensures.value c.pull_pages.ensures.room
    (kept-hand c.core.inside c.args.worker (low-hand c.core.inside c.args.core.now c.core.view_is c.args.worker c.in_ok-page.ensures.worker) c.index_mut.result.now c.reserve_pulled.new.self c.index_mut.ensures.value c.reserve_pulled.ensures.room c.core.invariant)

pub returns : goal.returns
returns c =
    let block : take c.list_block-count.result c.list_block-count.new.block ≡ free_block c.args.core.now =
    c.list_block-count.ensures.pages ∙ sym (ap (λ (o : Option ℕ). free_with c.args.core.now o) c.in_ok-page.ensures.page.0) in
    let view : hand_view c.pull_pages.new.self ≡ pull_pages (free_block c.args.core.now) (hand_view c.index_mut-2.result.now) =
    c.pull_pages.ensures.view ∙ ap (λ (xs : List ℕ). pull_pages xs (hand_view c.index_mut-2.result.now)) block in
    let same = hand-same c.core.inside c.args.core.now c.core.view_is c.args.worker c.index_mut.result.now c.reserve_pulled.new.self c.index_mut.ensures.value c.reserve_pulled.ensures.view in
    let seen = seen-hand c.core.inside c.args.core.now c.core.view_is c.args.worker c.index_mut.result.now c.reserve_pulled.new.self c.index_mut.ensures.value c.reserve_pulled.ensures.view in
    let f = hand-changed (record c.core.inside { hands = with_item c.core.inside.hands c.args.worker c.reserve_pulled.new.self }) c.args.core.now seen c.args.worker c.in_ok-page.ensures.worker c.index_mut-2.result.now c.pull_pages.new.self
    (pull_pages (free_block c.args.core.now)) c.index_mut-2.ensures.value view in
    let hands = f ∙ ap (λ (hs : List HandState). set hs c.args.worker (pull_pages (free_block c.args.core.now) (get_or hs c.args.worker no_hand))) (same ∙ ap (λ (s : CoreState). s.hands) c.core.view_is) in
    (c.in_ok-page.ensures.tried, (λ i. record (c.core.view_is i) { hands = hands i }), refl)

pub returns-in_err-page : goal.returns-in_err-page
returns-in_err-page c =
    let p = err_from_is_err_and c.from_residual.result c.from_residual.ensures.1 in
    rw (p.1, p.2) (refused ℕ c.args.core.now (Pull c.args.worker) _ c.in_err-page.ensures.tried)
