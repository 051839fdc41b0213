use Rattle.std.proofs.lemmas.Result.{err_from_is_err_and}
use Rattle.sweep_generation.proofs.Tried.{refused}
use Rattle.sweep_laws.specs.declared.moves.Move.TheVariants.{Next}
use Rattle.sweep_generation.proofs.mark_end.next.Goals as goal

pub returns-in_err-try_next : goal.returns-in_err-try_next
returns-in_err-try_next c =
    let p = err_from_is_err_and c.from_residual.result c.from_residual.ensures.1 in
    rw (p.1, p.2) (refused (Unit {0}) c.args.core.now (Next c.args.marks.now) _ c.in_err-try_next.ensures.tried)
