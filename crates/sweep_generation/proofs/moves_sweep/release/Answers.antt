use Rattle.std.proofs.Common.{◌<◌, ℕ, length, refl, sym, subst, arith}
use Rattle.std.specs.Vec.{with_item}
use Rattle.std.proofs.lemmas.Result.{err_from_is_err_and}
use Rattle.sweep_laws.specs.State.{CoreState, HandState}
use Rattle.sweep_laws.specs.Reading.{life_of}
use Rattle.sweep_laws.specs.ChangesOfHands.{end_sweep}
use Rattle.sweep_generation.proofs.Seen.{hand-changed, hand-same, hand-is, room-at, low-hand, kept-hand, kept-word, kept-same-room, seen-hand, full-end}
use Rattle.std.proofs.Math.ListN.{length-set}
use Rattle.sweep_laws.specs.declared.moves.Move.TheVariants.{Release}
use Rattle.sweep_generation.proofs.Tried.{refused}
use Rattle.sweep_generation.proofs.moves_sweep.release.Goals as goal

pub invariant_of-core : goal.invariant_of-core
invariant_of-core c = kept-hand c.core.inside c.args.worker (low-hand c.core.inside c.args.core.now c.core.view_is c.args.worker c.in_ok-try_release.ensures.worker) c.index_mut.result.now _ c.index_mut.ensures.value c.reserve_end.ensures.room c.core.invariant

pub returns-in_err-reserve_end : goal.returns-in_err-reserve_end
returns-in_err-reserve_end c =
    let p = err_from_is_err_and c.from_residual-in_err-reserve_end.result c.from_residual-in_err-reserve_end.ensures.1 in
    let k = room-at c.core.inside c.args.core.now c.core.view_is c.args.worker c.in_ok-try_release.ensures.worker c.index_mut.result.now c.index_mut.ensures.value c.core.invariant in
    let e = hand-is c.core.inside c.args.core.now c.core.view_is c.args.worker c.in_ok-try_release.ensures.worker c.index_mut.result.now c.index_mut.ensures.value in
    rw (p.1, p.2, hand-same c.core.inside c.args.core.now c.core.view_is c.args.worker c.index_mut.result.now c.reserve_end.new.self c.index_mut.ensures.value c.reserve_end.ensures.view) (
      c.in_ok-try_release.ensures.tried,
      c.core.view_is,
      λ r. full-end (length c.core.inside.words) c.args.core.now.room c.index_mut.result.now k c.in_err-reserve_end.ensures.full
          (subst (λ (h : HandState). length h.held < c.args.core.now.room) e r.0) (subst (λ (h : HandState). length h.swept < c.args.core.now.room) e r.1),
    )

pub invariant_of-core-in_err-keep_marked : goal.invariant_of-core-in_err-keep_marked
invariant_of-core-in_err-keep_marked c =
    kept-same-room _ c.keep_marked.new.self _ c.in_err-keep_marked.ensures.err
    (kept-hand c.core.inside c.args.worker (low-hand c.core.inside c.args.core.now c.core.view_is c.args.worker c.in_ok-try_release.ensures.worker) c.index_mut.result.now _ c.index_mut.ensures.value c.reserve_end.ensures.room c.core.invariant)

pub returns-in_err-keep_marked : goal.returns-in_err-keep_marked
returns-in_err-keep_marked c =
    let p = err_from_is_err_and c.from_residual-in_err-keep_marked.result c.from_residual-in_err-keep_marked.ensures.1 in
    let short = subst (λ (s : CoreState). (life_of s c.args.page).count < length (life_of s c.args.page).kept) c.core.view_is c.in_err-keep_marked.ensures.full in
    rw (p.1, p.2, hand-same c.core.inside c.args.core.now c.core.view_is c.args.worker c.index_mut.result.now c.reserve_end.new.self c.index_mut.ensures.value c.reserve_end.ensures.view, c.in_err-keep_marked.ensures.err)
    (c.in_ok-try_release.ensures.tried, c.core.view_is, λ r. omega (arith, r.2, short))

pub invariant_of-core-2 : goal.invariant_of-core-2
invariant_of-core-2 c =
    let k = kept-same-room _ c.keep_marked.new.self _ c.in_ok-keep_marked.ensures.ok
    (kept-hand c.core.inside c.args.worker (low-hand c.core.inside c.args.core.now c.core.view_is c.args.worker c.in_ok-try_release.ensures.worker) c.index_mut.result.now _ c.index_mut.ensures.value c.reserve_end.ensures.room c.core.invariant) in
    let low = subst (λ (n : ℕ). c.args.worker < n) (sym (length-set c.core.inside.hands.items c.args.worker c.reserve_end.new.self)) (low-hand c.core.inside c.args.core.now c.core.view_is c.args.worker c.in_ok-try_release.ensures.worker) in
    kept-word _ c.put.new.self c.args.page _ c.put.ensures (kept-hand _ c.args.worker low c.index_mut-2.result.now _ c.index_mut-2.ensures.value c.end_sweep.ensures.room k)

pub returns : goal.returns
returns c =
    let seen = seen-hand c.core.inside c.args.core.now c.core.view_is c.args.worker c.index_mut.result.now c.reserve_end.new.self c.index_mut.ensures.value c.reserve_end.ensures.view in
    let f = hand-changed (record c.core.inside { hands = with_item c.core.inside.hands c.args.worker c.reserve_end.new.self }) c.args.core.now seen c.args.worker c.in_ok-try_release.ensures.worker c.index_mut-2.result.now c.end_sweep.new.self (end_sweep c.args.page) c.index_mut-2.ensures.value c.end_sweep.ensures.view in (
      c.in_ok-try_release.ensures.tried,
      rw (← c.core.view_is, c.put.ensures, f, hand-same c.core.inside c.args.core.now c.core.view_is c.args.worker c.index_mut.result.now c.reserve_end.new.self c.index_mut.ensures.value c.reserve_end.ensures.view, c.in_ok-keep_marked.ensures.ok) refl,
      refl,
    )

pub returns-in_err-try_release : goal.returns-in_err-try_release
returns-in_err-try_release c =
    let p = err_from_is_err_and c.from_residual.result c.from_residual.ensures.1 in
    rw (p.1, p.2) (refused (Unit {0}) c.args.core.now (Release c.args.worker c.args.page) _ c.in_err-try_release.ensures.tried)
