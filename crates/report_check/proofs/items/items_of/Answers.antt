use Rattle.std.proofs.Common.{refl, arith}
use Rattle.report_check.specs.Items.{AreRequests}
use Rattle.report_check.proofs.Answered.{done-none, done-more, done-missing, done-wrong, done-behind, done-all, size-at}
use Rattle.report_check.proofs.items.items_of.Goals as goal

pub loop-request-init : goal.loop-request-init
loop-request-init c = rw c.new-items.ensures (done-none c.args.trace.now c.args.report.now c.as_slice-request-items.result.now c.answers-answers.result.now)

pub bounds-answers-number : goal.bounds-answers-number
bounds-answers-number c = omega arith

pub returns-then-number-answers-clause-fault : goal.returns-then-number-answers-clause-fault
returns-then-number-answers-clause-fault c =
    let are : AreRequests c.args.trace.now c.as_slice-request-items.result.now = rw c.as_slice-request-items.ensures c.in_ok-asked.ensures in (
      refl,
      done-missing c.args.trace.now c.args.report.now c.as_slice-request-items.result.now c.answers-answers.result.now c.loop-request.items c.loop-request.request-index c.len-number.result c.end_of-line.result
          are c.answers-answers.ensures c.loop-request.invariant (omega arith) c.len-number.ensures (omega arith) c.end_of-line.ensures,
    )

pub returns-then-not-is_right-clause-fault : goal.returns-then-not-is_right-clause-fault
returns-then-not-is_right-clause-fault c =
    let are : AreRequests c.args.trace.now c.as_slice-request-items.result.now = rw c.as_slice-request-items.ensures c.in_ok-asked.ensures in (
      refl,
      done-wrong c.args.trace.now c.args.report.now c.as_slice-request-items.result.now c.answers-answers.result.now c.loop-request.items c.loop-request.request-index c.len-number.result _ _
          are c.answers-answers.ensures c.loop-request.invariant (omega arith) c.len-number.ensures (omega arith) c.if-not-is_right.ensures,
    )

pub new-requires-clause-size : goal.new-requires-clause-size
new-requires-clause-size c =
    let are : AreRequests c.args.trace.now c.as_slice-request-items.result.now = rw c.as_slice-request-items.ensures c.in_ok-asked.ensures in
    size-at c.args.trace.now c.as_slice-request-items.result.now c.loop-request.request-index _ c.requires.limited are (omega arith)

pub loop-request-preserved : goal.loop-request-preserved
loop-request-preserved c =
    let are : AreRequests c.args.trace.now c.as_slice-request-items.result.now = rw c.as_slice-request-items.ensures c.in_ok-asked.ensures in
    let number = c.loop-request.invariant.number in
    done-more c.args.trace.now c.args.report.now c.as_slice-request-items.result.now c.answers-answers.result.now c.loop-request.items c.push.new.self c.loop-request.request-index c.len-number.result _ _ c.new.result
    are c.answers-answers.ensures (omega arith) (omega arith) (omega arith) c.loop-request.invariant c.new.ensures.item c.new.ensures.answer c.in_ok-push.ensures.ok

pub returns-then-len-answers-clause-fault : goal.returns-then-len-answers-clause-fault
returns-then-len-answers-clause-fault c =
    let are : AreRequests c.args.trace.now c.as_slice-request-items.result.now = rw c.as_slice-request-items.ensures c.in_ok-asked.ensures in (
      refl,
      done-behind c.args.trace.now c.args.report.now c.as_slice-request-items.result.now c.answers-answers.result.now c.loop-request.items c.loop-request.request-index c.len.result c.len-then-len-answers.result
          are c.answers-answers.ensures c.loop-request.invariant (omega arith) c.len.ensures c.len-then-len-answers.ensures (omega arith),
    )

pub returns-clause-answers : goal.returns-clause-answers
returns-clause-answers c =
    let are : AreRequests c.args.trace.now c.as_slice-request-items.result.now = rw c.as_slice-request-items.ensures c.in_ok-asked.ensures in
    done-all c.args.trace.now c.args.report.now c.as_slice-request-items.result.now c.answers-answers.result.now c.loop-request.items c.loop-request.request-index c.len.result
    are c.answers-answers.ensures c.loop-request.invariant (omega arith) c.len.ensures (omega arith)
