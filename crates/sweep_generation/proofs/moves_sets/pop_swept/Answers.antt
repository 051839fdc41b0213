use Rattle.std.proofs.Common.{◌∙◌, length, sym, ap, refl, arith}
use Rattle.std.proofs.lemmas.Result.{err_from_is_err_and}
use Rattle.sweep_generation.proofs.Seen.{hand-changed, hand-same, hand-is, room-at, low-hand, low-set, kept-hand, kept-set, swept-same, set-changed, set-is}
use Rattle.sweep_laws.specs.State.{CoreState, HandState, SetState}
use Rattle.sweep_laws.specs.ChangesOfHands.{hold}
use Rattle.sweep_laws.specs.ChangesOfSets.{raise_head, head_base}
use Rattle.sweep_laws.specs.declared.moves.Reply.TheVariants.{Base}
use Rattle.sweep_laws.specs.declared.moves.Move.TheVariants.{PopSwept}
use Rattle.sweep_generation.proofs.Tried.{refused}
use Rattle.sweep_generation.proofs.moves_sets.pop_swept.Goals as goal

pub invariant_of-core : goal.invariant_of-core
invariant_of-core c = kept-hand c.core.inside c.args.worker (low-hand c.core.inside c.args.core.now c.core.view_is c.args.worker c.in_ok-try_pop_swept.ensures.worker) c.index_mut.result.now _ c.index_mut.ensures.value c.hold.ensures.room c.core.invariant

pub returns-in_err-hold : goal.returns-in_err-hold
returns-in_err-hold c =
    let p = err_from_is_err_and c.from_residual-in_err-hold.result c.from_residual-in_err-hold.ensures.1 in
    let k = room-at c.core.inside c.args.core.now c.core.view_is c.args.worker c.in_ok-try_pop_swept.ensures.worker c.index_mut.result.now c.index_mut.ensures.value c.core.invariant in
    let e = ap (λ (h : HandState). length h.held) (hand-is c.core.inside c.args.core.now c.core.view_is c.args.worker c.in_ok-try_pop_swept.ensures.worker c.index_mut.result.now c.index_mut.ensures.value) in
    rw (p.1, p.2, hand-same c.core.inside c.args.core.now c.core.view_is c.args.worker c.index_mut.result.now c.hold.new.self c.index_mut.ensures.value c.in_err-hold.ensures.err)
    (c.in_ok-try_pop_swept.ensures.tried, c.core.view_is, λ r. omega (arith, r, e, k.held, c.in_err-hold.ensures.full))

pub raise_head-requires : goal.raise_head-requires
raise_head-requires c =
    let is = set-is c.core.inside c.args.core.now c.core.view_is c.args.set c.in_ok-try_pop_swept.ensures.set c.index_mut-2.result.now c.index_mut-2.ensures.value in
    omega (arith, ap (λ (s : SetState). s.head) is, ap (λ (s : SetState). s.tail) is, c.in_ok-try_pop_swept.ensures.head)

pub invariant_of-core-2 : goal.invariant_of-core-2
invariant_of-core-2 c =
    kept-set _ c.args.set (low-set c.core.inside c.args.core.now c.core.view_is c.args.set c.in_ok-try_pop_swept.ensures.set) c.index_mut-2.result.now c.raise_head.new.self c.index_mut-2.ensures.value c.raise_head.ensures.room
    _ (swept-same c.core.inside c.args.core.now c.core.view_is c.args.set c.in_ok-try_pop_swept.ensures.part c.raise_head.new.self c.core.invariant)
    (kept-hand c.core.inside c.args.worker (low-hand c.core.inside c.args.core.now c.core.view_is c.args.worker c.in_ok-try_pop_swept.ensures.worker) c.index_mut.result.now _ c.index_mut.ensures.value c.hold.ensures.room c.core.invariant)

pub returns : goal.returns
returns c =
    let e = hand-changed c.core.inside c.args.core.now c.core.view_is c.args.worker c.in_ok-try_pop_swept.ensures.worker c.index_mut.result.now c.hold.new.self (hold c.head_base-base.result) c.index_mut.ensures.value c.in_ok-hold.ensures.ok in
    let f = set-changed c.core.inside c.args.core.now c.core.view_is c.args.set c.in_ok-try_pop_swept.ensures.set c.index_mut-2.result.now c.raise_head.new.self raise_head c.index_mut-2.ensures.value c.raise_head.ensures.view in
    let base = c.head_base-base.ensures ∙ ap (λ (s : CoreState). head_base s c.args.set) (sym c.core.view_is) in
    (c.in_ok-try_pop_swept.ensures.tried, rw (← c.core.view_is, e, f, base) refl, ap Base c.head_base-base.ensures)

pub returns-in_err-try_pop_swept : goal.returns-in_err-try_pop_swept
returns-in_err-try_pop_swept c =
    let p = err_from_is_err_and c.from_residual.result c.from_residual.ensures.1 in
    rw (p.1, p.2) (refused (Unit {0}) c.args.core.now (PopSwept c.args.worker c.args.set) _ c.in_err-try_pop_swept.ensures.tried)
