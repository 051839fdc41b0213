use Rattle.report_check.proofs.Rows.{spans-more}
use Rattle.report_check.proofs.lasts.note_marks.Goals as goal

pub loop-span-preserved : goal.loop-span-preserved
loop-span-preserved c =
    spans-more c.args.mark c.loop-span.span-index _ c.args.spans.now c.args.lasts.now c.loop-span.lasts c.set_range.new.numbers c.loop-span-test.true c.loop-span.invariant c.set_range.ensures
