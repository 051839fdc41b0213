use Rattle.std.proofs.Common.{refl}
use Rattle.sweep_generation.proofs.Seen.{hand-changed, low-hand, kept-hand}
use Rattle.sweep_laws.specs.ChangesOfHands.{drop_entry}
use Rattle.sweep_laws.specs.declared.moves.Move.TheVariants.{DropPopped}
use Rattle.sweep_generation.proofs.Tried.{refused}
use Rattle.std.proofs.lemmas.Result.{err_from_is_err_and}
use Rattle.sweep_generation.proofs.moves_sweep.drop_popped.Goals as goal

pub invariant_of-core : goal.invariant_of-core
invariant_of-core c = kept-hand c.core.inside c.args.worker (low-hand c.core.inside c.args.core.now c.core.view_is c.args.worker c.in_ok-try_drop_popped.ensures.worker) c.index_mut.result.now _ c.index_mut.ensures.value c.drop_entry.ensures.room c.core.invariant

pub returns : goal.returns
returns c =
    let e = hand-changed c.core.inside c.args.core.now c.core.view_is c.args.worker c.in_ok-try_drop_popped.ensures.worker c.index_mut.result.now c.drop_entry.new.self (drop_entry c.args.page) c.index_mut.ensures.value c.drop_entry.ensures.view in
    (c.in_ok-try_drop_popped.ensures.tried, rw (← c.core.view_is, e) refl, refl)

pub returns-in_err-try_drop_popped : goal.returns-in_err-try_drop_popped
returns-in_err-try_drop_popped c =
    let p = err_from_is_err_and c.from_residual.result c.from_residual.ensures.1 in
    rw (p.1, p.2) (refused (Unit {0}) c.args.core.now (DropPopped c.args.worker c.args.page) _ c.in_err-try_drop_popped.ensures.tried)
