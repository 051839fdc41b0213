use Rattle.std.proofs.Common.{◌+◌, ◌-◌, ◌/◌}
use Rattle.check_parallel.proofs.Answering.{if-ok, ok-done}
use Rattle.check_parallel.proofs.OwnSeats.{keeps-joined}
use Rattle.check_parallel.proofs.marking.+keeps.Goals as goal

pub returns : goal.returns
returns g t c =
    let front = if-ok c.join-a.result.0 c.in_ok-a.field-0 _ c.in_ok-a.was c.join-a.ensures.first in
    ok-done c.join-a.result.1 _ _ (λ back. keeps-joined c.args.trace.now c.args.report.now c.args.items.now c.args.low (c.args.low + (c.args.high - c.args.low) / 2) c.args.high (front c.if-not-branch.false) back) c.join-a.ensures.second
