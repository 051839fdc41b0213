use Rattle.std.proofs.Common.{List, length, refl, ◌∙◌, ap, arith}
use Rattle.std.proofs.lemmas.Option.{slice_get_within}
use Rattle.cycle_history.specs.declared.Answer.{Answer}
use Rattle.cycle_history.specs.Requests.{last_cycle, marked_by}
use Rattle.report_check.proofs.Twins.{answers-length}
use Rattle.report_check.proofs.Summed.{are-zeros, objects-of, judge-misfit, judge-lacking, judge-met}
use Rattle.report_check.proofs.totals.judge_totals.Goals as goal

pub totals_of-requires-clause-answers : goal.totals_of-requires-clause-answers
totals_of-requires-clause-answers c = ap (λ (xs : List Answer). length xs) c.answer_list.ensures ∙ answers-length c.args.trace.now c.args.report.now c.requires.answers.0 c.requires.answers.1

pub totals_of-requires-clause-zeros : goal.totals_of-requires-clause-zeros
totals_of-requires-clause-zeros c = rw c.answer_list.ensures (are-zeros c.args.trace.now c.args.report.now c.requires.answers.0 c.requires.answers.1)

pub line_of-line-requires : goal.line_of-line-requires
line_of-line-requires c =
    let is = c.in-Some.ensures in
    let within = slice_get_within c.totals-printed.result.now c.in-Some.place is.total is.here in
    record { place = omega arith }

pub returns-in-Some-clause-fault : goal.returns-in-Some-clause-fault
returns-in-Some-clause-fault c = λ objects has. (
  refl,
  judge-misfit (marked_by c.args.trace.now) (last_cycle c.args.trace.now) c.args.report.now objects _ c.as_slice.result.now c.totals-printed.result.now c.in-Some.place _
      c.as_slice.ensures c.totals-printed.ensures (c.in_ok-counted.ensures.totals objects (rw c.answer_list.ensures (objects-of c.args.trace.now c.args.report.now objects has))) c.in-Some.ensures c.line_of-line.ensures,
)

pub returns-then-not-has_all-clause-fault : goal.returns-then-not-has_all-clause-fault
returns-then-not-has_all-clause-fault c = λ objects has. (
  refl,
  judge-lacking (marked_by c.args.trace.now) (last_cycle c.args.trace.now) c.args.report.now objects _ c.as_slice.result.now c.as_slice-2.result.now c.totals-printed.result.now _
      c.as_slice.ensures c.as_slice-2.ensures c.totals-printed.ensures (c.in_ok-counted.ensures.totals objects (rw c.answer_list.ensures (objects-of c.args.trace.now c.args.report.now objects has))) c.in_default.ensures c.if-not-has_all.ensures c.end_of-line.ensures,
)

pub returns-clause-totals : goal.returns-clause-totals
returns-clause-totals c = λ objects has.
    judge-met (marked_by c.args.trace.now) (last_cycle c.args.trace.now) c.args.report.now objects _ c.as_slice.result.now c.as_slice-2.result.now c.totals-printed.result.now
    c.as_slice.ensures c.as_slice-2.ensures c.totals-printed.ensures (c.in_ok-counted.ensures.totals objects (rw c.answer_list.ensures (objects-of c.args.trace.now c.args.report.now objects has))) c.in_default.ensures c.if-not-has_all.ensures
