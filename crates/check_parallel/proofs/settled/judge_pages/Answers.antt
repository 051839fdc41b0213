use Rattle.cycle_history.specs.Sound.{HasJournal}
use Rattle.report_check.specs.Answers.{BreaksJournal}
use Rattle.report_check.specs.Fault.{IsFaultOf}
use Rattle.check_parallel.specs.declared.settled.Lived.{Lived}
use Rattle.check_parallel.specs.Parts.{IsLived}
use Rattle.check_parallel.proofs.Answering.{err-if}
use Rattle.check_parallel.proofs.settled.judge_pages.Goals as goal

pub returns-in_err-judge_journal : goal.returns-in_err-judge_journal
returns-in_err-judge_journal c =
    err-if c.from_residual.result c.in_err-judge_journal.field-0.0 (λ (lived : Lived). HasJournal c.args.trace.now c.args.report.now × IsLived c.args.trace.now c.args.report.now lived)
    (IsFaultOf 2 (BreaksJournal c.args.trace.now c.args.report.now)) c.from_residual.ensures.1 c.in_err-judge_journal.ensures.fault

pub returns : goal.returns
returns c = (
  (c.in_ok-judge_journal.ensures.journal, record { gives = (c.judge_gives.ensures.gives, c.judge_gives.ensures.fault); lives = (c.judge_lives.ensures.swept, c.judge_lives.ensures.fault) }),
  tt,
)
