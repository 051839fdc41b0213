use Rattle.std.proofs.lemmas.Result.{err_from_is_err_and}
use Rattle.report_check.specs.Versions.{BreaksVersion}
use Rattle.commands.proofs.Pairs.{stops_before}
use Rattle.alloc_tool.proofs.judging.check_in_pieces.Goals as goal

pub returns-in_err-trace-clause-stopped : goal.returns-in_err-trace-clause-stopped
returns-in_err-trace-clause-stopped g c =
    let p = err_from_is_err_and c.from_residual.result c.from_residual.ensures.1 in
    rw (p.1, p.2) (stops_before BreaksVersion (g.S.Source.left c.args.input.now) (g.S.Source.left c.read_pair.new.input) _ c.in_err-trace.ensures.refused)
