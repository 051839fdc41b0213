use Rattle.std.proofs.Common.{length, refl, ap, arith, List}
use Rattle.cycle_history.specs.declared.Answer.{Answer}
use Rattle.report_check.proofs.Journals.{all-legal, match-false, match-true, replayed-more, replayed-none, still-out, wrong-cycle, wrong-line}
use Rattle.report_check.proofs.journal.judge_journal.Goals.{then-last-cycle-via-then-last-cycle, then-last-cycle-via-else-last-cycle+in_ok-accept+then-not-branch}
use Rattle.report_check.proofs.journal.judge_journal.Goals as goal

pub loop-line-init : goal.loop-line-init
loop-line-init c = record {
  number = refl;
  lines = replayed-none c.args.trace.now c.args.report.now c.journal-line-items.result.now c.in_ok-replay.replay _ _ _ c.in_ok-replay.ensures c.caching_procs.ensures refl refl;
}

pub returns-then-last-cycle-clause-fault : goal.returns-then-last-cycle-clause-fault
returns-then-last-cycle-clause-fault c =
    let number = c.loop-line.invariant.number in
    let size = ap (λ (xs : List Answer). length xs) c.answers.ensures in
    elim c.then-last-cycle.branch [
      | then-last-cycle-via-then-last-cycle w ↦ (
        refl,
        wrong-cycle c.args.trace.now c.args.report.now c.journal-line-items.result.now c.loop-line.replay c.loop-line.line-index c.cycle_of-cycle.result _ _
            c.journal-line-items.ensures c.loop-line.invariant.lines (omega arith) c.cycle_of-cycle.ensures (let len = c.len.ensures in omega arith) (omega arith),
      )
      | then-last-cycle-via-else-last-cycle+in_ok-accept+then-not-branch w ↦ (
        refl,
        wrong-line c.args.trace.now c.args.report.now c.journal-line-items.result.now c.loop-line.replay c.loop-line.line-index _ _
            c.journal-line-items.ensures c.loop-line.invariant.lines (omega arith) (match-false w.in_ok-accept.field-0 _ _ (cc) w.in_ok-accept.ensures) (omega arith),
      )
    ]

pub loop-line-preserved : goal.loop-line-preserved
loop-line-preserved c =
    let number = c.loop-line.invariant.number in
    record {
      number = omega arith;
      lines = replayed-more c.args.trace.now c.args.report.now c.journal-line-items.result.now c.loop-line.replay c.accept.new.self c.loop-line.line-index c.cycle_of-cycle.result _
          c.journal-line-items.ensures c.loop-line.invariant.lines (omega arith) c.cycle_of-cycle.ensures (let len = c.len.ensures in omega arith)
          (match-true c.in_ok-accept.field-0 _ _ (cc) c.in_ok-accept.ensures);
    }

pub returns-then-not-is_settled-clause-fault : goal.returns-then-not-is_settled-clause-fault
returns-then-not-is_settled-clause-fault c = (
  refl,
  still-out c.args.trace.now c.args.report.now c.journal-line-items.result.now c.loop-line.replay c.loop-line.line-index _
      c.journal-line-items.ensures c.loop-line.invariant.lines (omega arith) c.if-not-is_settled.ensures c.end_of.ensures,
)

pub returns-clause-journal : goal.returns-clause-journal
returns-clause-journal c =
    all-legal c.args.trace.now c.args.report.now c.journal-line-items.result.now c.loop-line.replay c.loop-line.line-index
    c.journal-line-items.ensures c.loop-line.invariant.lines (omega arith) c.if-not-is_settled.ensures
