use Rattle.std.proofs.Common.{List, length, refl, sym, ◌∙◌, ap, arith}
use Rattle.trace_reader.specs.declared.trace.Cycle.{Cycle}
use Rattle.cycle_history.specs.declared.Answer.{Answer}
use Rattle.tiny_alloc.proofs.Requested.{events-are}
use Rattle.report_check.proofs.Answering.{IsAt, answered-more, answer-missing, answer-wrong}
use Rattle.report_check.proofs.tiny.answers.judge_cycle.Goals as goal

pub returns-then-not-is_right-clause-fault : goal.returns-then-not-is_right-clause-fault
returns-then-not-is_right-clause-fault c =
    let t = c.args.trace.now in
    let events = c.as_slice-events.result.now in
    let are = events-are t c.as_slice-cycles.result.now c.args.cycle c.index-cycles-cycle.result events c.as_slice-cycles.ensures c.requires.cycle c.index-cycles-cycle.is
    (c.as_slice-events.ensures ∙ ap (λ (x : Cycle). x.events) (sym c.index-cycles-cycle.is)) in
    let k = c.loop-event.event-index in
    let n = c.loop-event.number in
    let number = c.loop-event.invariant.number in
    let first = c.requires.first in
    let at : IsAt t c.args.cycle k n events = record { cycle = c.requires.cycle; those = are; inside = c.loop-event-test.true; number = omega arith } in
    let old = c.loop-event.invariant.answered in
    let few = old.few in
    let size = ap (λ (xs : List Answer). length xs) c.answers-answers.ensures in
    let other = c.if-number-answers.false in
    (refl, answer-wrong t c.args.report.now c.args.cycle k n events _ c.answers-answers.result.now _ at c.answers-answers.ensures (omega arith) c.if-not-is_right.ensures old)

pub returns-then-number-answers-clause-fault : goal.returns-then-number-answers-clause-fault
returns-then-number-answers-clause-fault c =
    let t = c.args.trace.now in
    let events = c.as_slice-events.result.now in
    let are = events-are t c.as_slice-cycles.result.now c.args.cycle c.index-cycles-cycle.result events c.as_slice-cycles.ensures c.requires.cycle c.index-cycles-cycle.is
    (c.as_slice-events.ensures ∙ ap (λ (x : Cycle). x.events) (sym c.index-cycles-cycle.is)) in
    let k = c.loop-event.event-index in
    let n = c.loop-event.number in
    let number = c.loop-event.invariant.number in
    let first = c.requires.first in
    let at : IsAt t c.args.cycle k n events = record { cycle = c.requires.cycle; those = are; inside = c.loop-event-test.true; number = omega arith } in
    let old = c.loop-event.invariant.answered in
    let few = old.few in
    let size = ap (λ (xs : List Answer). length xs) c.answers-answers.ensures in
    (refl, answer-missing t c.args.report.now c.args.cycle k n c.end_of-line.result events c.answers-answers.result.now at c.answers-answers.ensures c.if-number-answers.true c.end_of-line.ensures old)

pub loop-event-preserved : goal.loop-event-preserved
loop-event-preserved c =
    let t = c.args.trace.now in
    let events = c.as_slice-events.result.now in
    let are = events-are t c.as_slice-cycles.result.now c.args.cycle c.index-cycles-cycle.result events c.as_slice-cycles.ensures c.requires.cycle c.index-cycles-cycle.is
    (c.as_slice-events.ensures ∙ ap (λ (x : Cycle). x.events) (sym c.index-cycles-cycle.is)) in
    let k = c.loop-event.event-index in
    let n = c.loop-event.number in
    let number = c.loop-event.invariant.number in
    let first = c.requires.first in
    let at : IsAt t c.args.cycle k n events = record { cycle = c.requires.cycle; those = are; inside = c.loop-event-test.true; number = omega arith } in
    let old = c.loop-event.invariant.answered in
    let few = old.few in
    let size = ap (λ (xs : List Answer). length xs) c.answers-answers.ensures in
    let other = c.if-number-answers.false in
    record {
      number = omega arith;
      answered = answered-more t c.args.report.now c.args.cycle k n events _ c.answers-answers.result.now _ at c.answers-answers.ensures (omega arith) c.if-not-is_right.ensures old;
    }
