use Rattle.std.proofs.Common.{refl}
use Rattle.sweep_generation.proofs.Seen.{hand-changed, low-hand, kept-hand}
use Rattle.sweep_laws.specs.ChangesOfHands.{drop_pulled}
use Rattle.sweep_laws.specs.declared.moves.Move.TheVariants.{Drop}
use Rattle.sweep_generation.proofs.Tried.{refused}
use Rattle.std.proofs.lemmas.Result.{err_from_is_err_and}
use Rattle.sweep_generation.proofs.moves_pull.drop_block.Goals as goal

pub invariant_of-core : goal.invariant_of-core
invariant_of-core c = kept-hand c.core.inside c.args.worker (low-hand c.core.inside c.args.core.now c.core.view_is c.args.worker c.in_ok-try_drop.ensures.worker) c.index_mut.result.now _ c.index_mut.ensures.value c.drop_pulled.ensures.room c.core.invariant

pub returns : goal.returns
returns c =
    let e = hand-changed c.core.inside c.args.core.now c.core.view_is c.args.worker c.in_ok-try_drop.ensures.worker c.index_mut.result.now c.drop_pulled.new.self drop_pulled c.index_mut.ensures.value c.drop_pulled.ensures.view in
    (c.in_ok-try_drop.ensures.tried, rw (← c.core.view_is, e) refl, refl)

pub returns-in_err-try_drop : goal.returns-in_err-try_drop
returns-in_err-try_drop c =
    let p = err_from_is_err_and c.from_residual.result c.from_residual.ensures.1 in
    rw (p.1, p.2) (refused (Unit {0}) c.args.core.now (Drop c.args.worker) _ c.in_err-try_drop.ensures.tried)
