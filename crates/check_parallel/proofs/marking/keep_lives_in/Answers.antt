use Rattle.std.proofs.Common.{◌+◌, arith}
use Rattle.report_check.proofs.Ledgers.{open-later}
use Rattle.cycle_history.specs.Before.{marks_at}
use Rattle.check_parallel.proofs.OwnSeats.{keeps-more, kept-whole}
use Rattle.check_parallel.proofs.marking.keep_lives_in.Goals as goal

pub loop-cycle-init : goal.loop-cycle-init
loop-cycle-init c = record { opened = c.in_ok-opened.ensures c.args.report.now c.args.low; keeps = λ cycle from to. absurd (omega arith) }

pub loop-cycle-preserved : goal.loop-cycle-preserved
loop-cycle-preserved c =
    let t = c.args.trace.now in
    let cycle = c.loop-cycle.cycle in
    let lives = c.take_up.new.self.lives.items in
    let off = c.if-first_lost-items.false in
    record {
      opened = open-later t c.args.report.now cycle (cycle + 1) _ (omega arith) c.take_up.ensures.open;
      keeps = keeps-more t c.args.report.now c.args.items.now c.args.low cycle c.loop-cycle.invariant.keeps (record {
        lives = lives;
        are = c.take_up.ensures.lives;
        kept = kept-whole c.deref.result.now lives c.spans_at-marked.result.now (marks_at t cycle) c.args.items.now c.first_lost.result c.deref.ensures.value c.spans_at-marked.ensures c.first_lost.ensures (omega arith);
      });
    }
