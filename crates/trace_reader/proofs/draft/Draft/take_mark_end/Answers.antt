use Rattle.std.proofs.Common.{arith}
use Rattle.std.proofs.lemmas.Result.{err_from_is_err_and}
use Rattle.trace_reader.proofs.Keeping.{distance_number, took_mark_end}
use Rattle.trace_reader.proofs.draft.Draft.take_mark_end.Goals as goal

pub returns-in_err-distance-clause-fault : goal.returns-in_err-distance-clause-fault
returns-in_err-distance-clause-fault c =
    let p = err_from_is_err_and c.from_residual.result c.from_residual.ensures.1 in
    rw (p.1, p.2) (λ of past follows. distance_number c.args.self.now c.args.distance c.args.number _ c.in_err-distance.ensures.fault past follows)

pub returns-clause-took : goal.returns-clause-took
returns-clause-took c = rw (c.in_ok-marks.ensures, ← c.in_ok-distance.ensures.same)
    (took_mark_end c.args.self.now c.end_cycle.new.self c.in_ok-distance.distance c.in_ok-end_cycle.ensures c.in_ok-distance.ensures.fits.0 c.in_ok-distance.ensures.fits.1 (omega arith))
