use Rattle.std.proofs.Common.{◌∙◌, ◌<◌, ℕ, List, Option, length, ap, refl, sym, subst, arith}
use Rattle.std.specs.Vec.{with_item}
use Rattle.std.proofs.Math.ListN.{length-set}
use Rattle.std.proofs.lemmas.Result.{err_from_is_err_and}
use Rattle.sweep_laws.specs.State.{CoreState, HandState}
use Rattle.sweep_laws.specs.ChangesOfHands.{cut_span}
use Rattle.sweep_generation.proofs.Seen.{hand-changed, hand-same, hand-is, room-at, low-hand, kept-hand, kept-word, kept-owners, kept-lives, kept-same-room, kept-spare, seen-hand, items-whole}
use Rattle.sweep_laws.specs.declared.moves.Move.TheVariants.{Cut}
use Rattle.sweep_generation.proofs.Tried.{refused}
use Rattle.sweep_generation.proofs.moves_pull.cut.Goals as goal

pub invariant_of-core-in_err-reserve_held : goal.invariant_of-core-in_err-reserve_held
invariant_of-core-in_err-reserve_held c = kept-hand _ c.args.worker (low-hand c.core.inside c.args.core.now c.core.view_is c.args.worker c.in_ok-try_cut.ensures.worker) c.index_mut.result.now c.reserve_held.new.self c.index_mut.ensures.value c.reserve_held.ensures.room (kept-lives c.core.inside c.reserve_one.new.self c.reserve_one.ensures.grows c.reserve_one.ensures.reach c.core.invariant)

pub returns-in_err-reserve_held : goal.returns-in_err-reserve_held
returns-in_err-reserve_held c =
    let p = err_from_is_err_and c.from_residual-in_err-reserve_held.result c.from_residual-in_err-reserve_held.ensures.1 in
    let k = room-at c.core.inside c.args.core.now c.core.view_is c.args.worker c.in_ok-try_cut.ensures.worker c.index_mut.result.now c.index_mut.ensures.value c.core.invariant in
    let e = ap (λ (h : HandState). length h.held) (hand-is c.core.inside c.args.core.now c.core.view_is c.args.worker c.in_ok-try_cut.ensures.worker c.index_mut.result.now c.index_mut.ensures.value) in
    rw (p.1, p.2, hand-same c.core.inside c.args.core.now c.core.view_is c.args.worker c.index_mut.result.now c.reserve_held.new.self c.index_mut.ensures.value c.reserve_held.ensures.view, c.reserve_one.ensures.items)
    (c.in_ok-try_cut.ensures.tried, c.core.view_is, λ r. omega (arith, r.1, e, k.held, c.in_err-reserve_held.ensures.full))

pub invariant_of-core-in_err-life : goal.invariant_of-core-in_err-life
invariant_of-core-in_err-life c = kept-spare _ c.make.new.self (kept-hand _ c.args.worker (low-hand c.core.inside c.args.core.now c.core.view_is c.args.worker c.in_ok-try_cut.ensures.worker) c.index_mut.result.now c.reserve_held.new.self c.index_mut.ensures.value c.reserve_held.ensures.room (kept-lives c.core.inside c.reserve_one.new.self c.reserve_one.ensures.grows c.reserve_one.ensures.reach c.core.invariant))

pub returns-in_err-life : goal.returns-in_err-life
returns-in_err-life c =
    let p = err_from_is_err_and c.from_residual-in_err-life.result c.from_residual-in_err-life.ensures.1 in
    let e = ap (λ (s : CoreState). s.prepared) c.core.view_is in
    rw (p.1, p.2, hand-same c.core.inside c.args.core.now c.core.view_is c.args.worker c.index_mut.result.now c.reserve_held.new.self c.index_mut.ensures.value c.reserve_held.ensures.view, c.reserve_one.ensures.items, c.in_err-life.ensures.err)
    (c.in_ok-try_cut.ensures.tried, c.core.view_is, λ r. omega (arith, r.2, e, c.in_err-life.ensures.full))

pub invariant_of-core-2 : goal.invariant_of-core-2
invariant_of-core-2 c =
    let low = subst (λ (n : ℕ). c.args.worker < n) (sym (length-set c.core.inside.hands.items c.args.worker c.reserve_held.new.self)) (low-hand c.core.inside c.args.core.now c.core.view_is c.args.worker c.in_ok-try_cut.ensures.worker) in
    kept-word _ c.put.new.self c.args.page _ c.put.ensures (kept-owners _ c.put_owner.new.owners
    (kept-hand _ c.args.worker low c.index_mut-2.result.now c.cut_span.new.self c.index_mut-2.ensures.value c.cut_span.ensures.room
    (kept-same-room _ c.push.new.self _ c.push.ensures (kept-spare _ c.make.new.self (kept-hand _ c.args.worker (low-hand c.core.inside c.args.core.now c.core.view_is c.args.worker c.in_ok-try_cut.ensures.worker) c.index_mut.result.now c.reserve_held.new.self c.index_mut.ensures.value c.reserve_held.ensures.room (kept-lives c.core.inside c.reserve_one.new.self c.reserve_one.ensures.grows c.reserve_one.ensures.reach c.core.invariant))))))

pub returns : goal.returns
returns c =
    let seen = seen-hand c.core.inside c.args.core.now c.core.view_is c.args.worker c.index_mut.result.now c.reserve_held.new.self c.index_mut.ensures.value c.reserve_held.ensures.view in
    let f = hand-changed (record c.core.inside { hands = with_item c.core.inside.hands c.args.worker c.reserve_held.new.self }) c.args.core.now seen c.args.worker c.in_ok-try_cut.ensures.worker c.index_mut-2.result.now c.cut_span.new.self (cut_span c.args.page c.args.pages) c.index_mut-2.ensures.value c.cut_span.ensures.view in (
      c.in_ok-try_cut.ensures.tried,
      rw (← c.core.view_is, c.put.ensures, f, hand-same c.core.inside c.args.core.now c.core.view_is c.args.worker c.index_mut.result.now c.reserve_held.new.self c.index_mut.ensures.value c.reserve_held.ensures.view, items-whole c.core.inside.owners c.put_owner.new.owners (c.put_owner.auto.owners ∙ ap (λ (xs : List (Option ℕ)). length xs) c.deref_mut.ensures.value), c.put_owner.ensures, c.deref_mut.ensures.value, c.push.ensures, c.reserve_one.ensures.items, c.in_ok-life.ensures.life, c.in_ok-life.ensures.left) refl,
      refl,
    )

pub returns-in_err-try_cut : goal.returns-in_err-try_cut
returns-in_err-try_cut c =
    let p = err_from_is_err_and c.from_residual.result c.from_residual.ensures.1 in
    rw (p.1, p.2) (refused (Unit {0}) c.args.core.now (Cut c.args.worker c.args.page c.args.pages c.args.count c.args.class) _ c.in_err-try_cut.ensures.tried)
