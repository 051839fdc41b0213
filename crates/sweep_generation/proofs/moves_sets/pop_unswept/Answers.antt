use Rattle.std.proofs.Common.{◌∙◌, List, length, sym, ap, refl, arith}
use Rattle.std.specs.Prelude.{slice_set}
use Rattle.std.proofs.lemmas.Result.{err_from_is_err_and}
use Rattle.sweep_generation.proofs.Seen.{hand-changed, hand-same, hand-is, room-at, low-hand, low-set, kept-hand, kept-set, set-changed, set-is}
use Rattle.sweep_laws.specs.State.{CoreState, HandState, SetState}
use Rattle.sweep_laws.specs.ChangesOfHands.{pop_entry}
use Rattle.sweep_laws.specs.ChangesOfSets.{raise_head, head_base}
use Rattle.sweep_laws.specs.Reading.{set_of}
use Rattle.sweep_generation.specs.Unpopped.{count_unpopped}
use Rattle.sweep_laws.specs.declared.moves.Reply.TheVariants.{Base}
use Rattle.sweep_laws.specs.declared.moves.Move.TheVariants.{PopUnswept}
use Rattle.sweep_generation.proofs.Tried.{refused}
use Rattle.sweep_generation.proofs.moves_sets.pop_unswept.Goals as goal

pub invariant_of-core : goal.invariant_of-core
invariant_of-core c = kept-hand c.core.inside c.args.worker (low-hand c.core.inside c.args.core.now c.core.view_is c.args.worker c.in_ok-try_pop_unswept.ensures.worker) c.index_mut.result.now _ c.index_mut.ensures.value c.pop_entry.ensures.room c.core.invariant

pub returns-in_err-pop_entry : goal.returns-in_err-pop_entry
returns-in_err-pop_entry c =
    let p = err_from_is_err_and c.from_residual-in_err-pop_entry.result c.from_residual-in_err-pop_entry.ensures.1 in
    let k = room-at c.core.inside c.args.core.now c.core.view_is c.args.worker c.in_ok-try_pop_unswept.ensures.worker c.index_mut.result.now c.index_mut.ensures.value c.core.invariant in
    let e = ap (λ (h : HandState). length h.popped) (hand-is c.core.inside c.args.core.now c.core.view_is c.args.worker c.in_ok-try_pop_unswept.ensures.worker c.index_mut.result.now c.index_mut.ensures.value) in
    rw (p.1, p.2, hand-same c.core.inside c.args.core.now c.core.view_is c.args.worker c.index_mut.result.now c.pop_entry.new.self c.index_mut.ensures.value c.in_err-pop_entry.ensures.err)
    (c.in_ok-try_pop_unswept.ensures.tried, c.core.view_is, λ r. omega (arith, r, e, k.popped, c.in_err-pop_entry.ensures.full))

pub raise_head-requires : goal.raise_head-requires
raise_head-requires c =
    let is = set-is c.core.inside c.args.core.now c.core.view_is c.args.set c.in_ok-try_pop_unswept.ensures.set c.index_mut-2.result.now c.index_mut-2.ensures.value in
    omega (arith, ap (λ (s : SetState). s.head) is, ap (λ (s : SetState). s.tail) is, c.in_ok-try_pop_unswept.ensures.head)

pub invariant_of-core-2 : goal.invariant_of-core-2
invariant_of-core-2 c =
    let f = set-changed c.core.inside c.args.core.now c.core.view_is c.args.set c.in_ok-try_pop_unswept.ensures.set c.index_mut-2.result.now c.raise_head.new.self raise_head c.index_mut-2.ensures.value c.raise_head.ensures.view in
    let counted = c.unpopped_after_pop-unpopped.ensures
    ∙ ap (λ (s : CoreState). count_unpopped s.generation 0 (slice_set s.sets c.args.set (raise_head (set_of s c.args.set)))) (sym c.core.view_is)
    ∙ ap (λ (xs : List SetState). count_unpopped c.core.inside.generation 0 xs) (sym f) in
    kept-set _ c.args.set (low-set c.core.inside c.args.core.now c.core.view_is c.args.set c.in_ok-try_pop_unswept.ensures.set) c.index_mut-2.result.now c.raise_head.new.self c.index_mut-2.ensures.value c.raise_head.ensures.room _ counted
    (kept-hand c.core.inside c.args.worker (low-hand c.core.inside c.args.core.now c.core.view_is c.args.worker c.in_ok-try_pop_unswept.ensures.worker) c.index_mut.result.now _ c.index_mut.ensures.value c.pop_entry.ensures.room c.core.invariant)

pub returns : goal.returns
returns c =
    let e = hand-changed c.core.inside c.args.core.now c.core.view_is c.args.worker c.in_ok-try_pop_unswept.ensures.worker c.index_mut.result.now c.pop_entry.new.self (pop_entry c.head_base-base.result) c.index_mut.ensures.value c.in_ok-pop_entry.ensures.ok in
    let f = set-changed c.core.inside c.args.core.now c.core.view_is c.args.set c.in_ok-try_pop_unswept.ensures.set c.index_mut-2.result.now c.raise_head.new.self raise_head c.index_mut-2.ensures.value c.raise_head.ensures.view in
    let base = c.head_base-base.ensures ∙ ap (λ (s : CoreState). head_base s c.args.set) (sym c.core.view_is) in
    (c.in_ok-try_pop_unswept.ensures.tried, rw (← c.core.view_is, e, f, base) refl, ap Base c.head_base-base.ensures)

pub returns-in_err-try_pop_unswept : goal.returns-in_err-try_pop_unswept
returns-in_err-try_pop_unswept c =
    let p = err_from_is_err_and c.from_residual.result c.from_residual.ensures.1 in
    rw (p.1, p.2) (refused (Unit {0}) c.args.core.now (PopUnswept c.args.worker c.args.set) _ c.in_err-try_pop_unswept.ensures.tried)
