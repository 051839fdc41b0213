use Rattle.std.proofs.Common.{length, ap, refl, arith}
use Rattle.std.proofs.lemmas.Result.{err_from_is_err_and}
use Rattle.sweep_generation.proofs.Seen.{hand-changed, hand-same, hand-is, room-at, low-hand, kept-hand, kept-word}
use Rattle.sweep_laws.specs.State.{HandState}
use Rattle.sweep_generation.proofs.Tried.{refused}
use Rattle.sweep_laws.specs.declared.moves.Move.TheVariants.{Acquire}
use Rattle.sweep_laws.specs.ChangesOfHands.{start_sweep}
use Rattle.sweep_generation.proofs.moves_sweep.acquire.Goals as goal

pub invariant_of-core : goal.invariant_of-core
invariant_of-core c = kept-hand c.core.inside c.args.worker (low-hand c.core.inside c.args.core.now c.core.view_is c.args.worker c.in_ok-try_acquire.ensures.worker) c.index_mut.result.now _ c.index_mut.ensures.value c.start_sweep.ensures.room c.core.invariant

pub invariant_of-core-2 : goal.invariant_of-core-2
invariant_of-core-2 c = kept-word _ c.put.new.self c.args.page _ c.put.ensures (kept-hand c.core.inside c.args.worker (low-hand c.core.inside c.args.core.now c.core.view_is c.args.worker c.in_ok-try_acquire.ensures.worker) c.index_mut.result.now _ c.index_mut.ensures.value c.start_sweep.ensures.room c.core.invariant)

pub returns-in_err-start_sweep : goal.returns-in_err-start_sweep
returns-in_err-start_sweep c =
    let p = err_from_is_err_and c.from_residual-in_err-start_sweep.result c.from_residual-in_err-start_sweep.ensures.1 in
    let k = room-at c.core.inside c.args.core.now c.core.view_is c.args.worker c.in_ok-try_acquire.ensures.worker c.index_mut.result.now c.index_mut.ensures.value c.core.invariant in
    let e = ap (λ (h : HandState). length h.sweeping) (hand-is c.core.inside c.args.core.now c.core.view_is c.args.worker c.in_ok-try_acquire.ensures.worker c.index_mut.result.now c.index_mut.ensures.value) in
    rw (p.1, p.2, hand-same c.core.inside c.args.core.now c.core.view_is c.args.worker c.index_mut.result.now c.start_sweep.new.self c.index_mut.ensures.value c.in_err-start_sweep.ensures.err)
    (c.in_ok-try_acquire.ensures.tried, c.core.view_is, λ r. omega (arith, r, e, k.sweeping, c.in_err-start_sweep.ensures.full))

pub returns : goal.returns
returns c =
    let e = hand-changed c.core.inside c.args.core.now c.core.view_is c.args.worker c.in_ok-try_acquire.ensures.worker c.index_mut.result.now c.start_sweep.new.self (start_sweep c.args.page) c.index_mut.ensures.value c.in_ok-start_sweep.ensures.ok in
    (c.in_ok-try_acquire.ensures.tried, rw (← c.core.view_is, c.put.ensures, e, c.saturating_sub.ensures) refl, refl)

pub returns-in_err-try_acquire : goal.returns-in_err-try_acquire
returns-in_err-try_acquire c =
    let p = err_from_is_err_and c.from_residual.result c.from_residual.ensures.1 in
    rw (p.1, p.2) (refused (Unit {0}) c.args.core.now (Acquire c.args.worker c.args.page) _ c.in_err-try_acquire.ensures.tried)
