use Rattle.std.proofs.Common.{◌≡◌, ℕ, ◌+◌, ◌<◌, List, length, refl, sym, ◌∙◌, ap, subst, arith}
use Rattle.trace_reader.specs.declared.trace.Cycle.{Cycle}
use Rattle.cycle_history.specs.declared.Answer.{Answer}
use Rattle.cycle_history.specs.Before.{objects_before}
use Rattle.cycle_history.proofs.Firsts.{before-all}
use Rattle.tiny_alloc.proofs.Requested.{events-are, events-few}
use Rattle.report_check.specs.Answered.{AreAnsweredTo}
use Rattle.report_check.proofs.Answering.{answered-all, answered-none, answer-behind}
use Rattle.report_check.proofs.tiny.answers.judge_answers.Goals as goal

pub loop-cycle-init : goal.loop-cycle-init
loop-cycle-init c = record { first = refl; answered = answered-none c.args.trace.now c.args.report.now }

pub overflow_add-first : goal.overflow_add-first
overflow_add-first c =
    let t = c.args.trace.now in
    let k = c.loop-cycle.cycle in
    let item = c.index-cycles-cycle.result in
    let size = ap (λ (cs : List Cycle). length cs) c.as_slice-cycles.ensures in
    let lt = c.loop-cycle-test.true in
    let inside : k < length t.cycles = omega arith in
    let few = events-few t k item.events c.requires.limited inside (events-are t c.as_slice-cycles.result.now k item item.events c.as_slice-cycles.ensures inside c.index-cycles-cycle.is refl) in
    let first = c.loop-cycle.invariant.first in
    let more = few.0 in
    let end = few.1 in
    let all = few.2 in
    let len : c.len-first.result ≡ length item.events = c.len-first.ensures ∙ ap (λ (x : Cycle). length x.events) (sym c.index-cycles-cycle.is) in
    omega arith

pub loop-cycle-preserved : goal.loop-cycle-preserved
loop-cycle-preserved c =
    let t = c.args.trace.now in
    let k = c.loop-cycle.cycle in
    let item = c.index-cycles-cycle.result in
    let size = ap (λ (cs : List Cycle). length cs) c.as_slice-cycles.ensures in
    let lt = c.loop-cycle-test.true in
    let inside : k < length t.cycles = omega arith in
    let few = events-few t k item.events c.requires.limited inside (events-are t c.as_slice-cycles.result.now k item item.events c.as_slice-cycles.ensures inside c.index-cycles-cycle.is refl) in
    let first = c.loop-cycle.invariant.first in
    let more = few.0 in
    let end = few.1 in
    let all = few.2 in
    let len : c.len-first.result ≡ length item.events = c.len-first.ensures ∙ ap (λ (x : Cycle). length x.events) (sym c.index-cycles-cycle.is) in
    let next : c.loop-cycle.first + c.len-first.result ≡ objects_before t (k + 1) = omega arith in
    record { first = next; answered = subst (λ (n : ℕ). AreAnsweredTo t c.args.report.now n) (sym next) c.in_ok-judge_cycle.ensures.answers }

pub returns-then-first-answers-clause-fault : goal.returns-then-first-answers-clause-fault
returns-then-first-answers-clause-fault c =
    let t = c.args.trace.now in
    let size = ap (λ (cs : List Cycle). length cs) c.as_slice-cycles.ensures in
    let over = c.loop-cycle-test.false in
    let all = before-all t c.loop-cycle.cycle (omega arith) in
    let first = c.loop-cycle.invariant.first in
    let len = ap (λ (xs : List Answer). length xs) c.answers-answers.ensures in
    let lt = c.if-first-answers.true in
    (refl, answer-behind t c.args.report.now c.loop-cycle.first (omega arith) (omega arith) c.loop-cycle.invariant.answered)

pub returns-clause-answers : goal.returns-clause-answers
returns-clause-answers c =
    let t = c.args.trace.now in
    let size = ap (λ (cs : List Cycle). length cs) c.as_slice-cycles.ensures in
    let over = c.loop-cycle-test.false in
    let all = before-all t c.loop-cycle.cycle (omega arith) in
    let first = c.loop-cycle.invariant.first in
    let len = ap (λ (xs : List Answer). length xs) c.answers-answers.ensures in
    let le = c.if-first-answers.false in
    answered-all t c.args.report.now c.loop-cycle.first (omega arith) (omega arith) c.loop-cycle.invariant.answered
