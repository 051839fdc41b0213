use Rattle.std.proofs.Common.{◌≡◌, ℕ, ◌-◌, List, ◌∙◌, arith}
use Rattle.trace_reader.specs.declared.span.Span.{Span}
use Rattle.span_state.specs.MarkSet.{MarkSet}
use Rattle.cycle_history.specs.declared.lookups.Walk.{Walk}
use Rattle.cycle_history.specs.declared.marks.Objects.{Objects}
use Rattle.cycle_history.specs.Before.{marks_at, objects_before}
use Rattle.cycle_history.specs.MarkedLoops.{AreKept, IsBehind}
use Rattle.cycle_history.proofs.Firsts.{before-rise}
use Rattle.cycle_history.proofs.Kept.{kept-all, kept-past}
use Rattle.cycle_history.proofs.Rising.{marks-rise}
use Rattle.cycle_history.proofs.Settled.{behind-more}
use Rattle.cycle_history.proofs.Walked.{Passes, span-early, span-marked, span-order, unmarked, walk-end, walk-more, walk-none, walk-to}
use Rattle.cycle_history.proofs.marks.Objects.mark_all.Goals as goal

none : Span
none = record { lo = 0; hi = 0 }

-- the objects below a number are unmarked, and the walk has come no further
abbrev kept : Objects → Walk → MarkSet → ℕ → Type 0
kept o marked marks n = IsBehind marked n × AreKept o.trace.now o.mark o.answers.now n marks

passes : (o : Objects) (marked : Walk) (marks : MarkSet) (spans : List Span) → spans ≡ marks_at o.trace.now (o.mark - 1) → Passes (kept o marked marks) (objects_before o.trace.now (o.mark - 1)) spans
passes o marked marks spans are low high le inside off old = (
  behind-more marked low high le old.0,
  kept-past o.trace.now o.mark o.answers.now low high marks le
      (λ i from lt page k at. absurd (unmarked o.trace.now (o.mark - 1) o.answers.now spans i are (off i from lt) page k at))
      old.1,
)

pub loop-span-init : goal.loop-span-init
loop-span-init c =
    let o = c.args.self.now in
    let are = c.spans_at-span-items.ensures in
    record {
      spans = c.spans_at-spans.ensures;
      walked = walk-none (kept o (record { spans = c.spans_at-spans.result; next = 0 }) c.args.marks.now) (objects_before o.trace.now (o.mark - 1)) c.spans_at-span-items.result.now
          (rw are (marks-rise o.trace.now (o.mark - 1) c.requires.given.limited.cycles))
          (record { inside = omega arith; below = λ k d lt. absurd (omega arith) }, c.requires.kept);
    }

pub unmark-requires-clause-high : goal.unmark-requires-clause-high
unfolding none
unmark-requires-clause-high c =
    let o = c.args.self.now in
    let early = span-early o.trace.now (o.mark - 1) c.spans_at-span-items.result.now c.loop-span.span-index none c.requires.given.limited c.spans_at-span-items.ensures c.loop-span-test.true in
    let rise = before-rise o.trace.now (o.mark - 1) o.mark (omega arith) in
    let all = c.requires.given.all_answers in
    omega arith

pub unmark-requires-clause-old : goal.unmark-requires-clause-old
unfolding none
unmark-requires-clause-old c = λ i low lt.
    (let o = c.args.self.now in
    span-marked o.trace.now (o.mark - 1) c.spans_at-span-items.result.now c.loop-span.span-index i none c.requires.given.limited c.spans_at-span-items.ensures c.loop-span-test.true low (omega arith))

pub unmark-requires-clause-kept : goal.unmark-requires-clause-kept
unfolding none
unmark-requires-clause-kept c =
    let o = c.args.self.now in
    let spans = c.spans_at-span-items.result.now in
    let are = c.spans_at-span-items.ensures in
    let early = span-early o.trace.now (o.mark - 1) spans c.loop-span.span-index none c.requires.given.limited are c.loop-span-test.true in
    let order = span-order o.trace.now (o.mark - 1) spans c.loop-span.span-index none c.requires.given.limited are c.loop-span-test.true in
    (walk-to (kept o c.loop-span.marked c.loop-span.marks) (objects_before o.trace.now (o.mark - 1)) spans c.loop-span.span-index none
    (passes o c.loop-span.marked c.loop-span.marks spans are) c.loop-span-test.true (omega arith) c.loop-span.invariant.walked).1

pub loop-span-preserved : goal.loop-span-preserved
unfolding none
loop-span-preserved c =
    let o = c.args.self.now in
    let spans = c.spans_at-span-items.result.now in
    let early = span-early o.trace.now (o.mark - 1) spans c.loop-span.span-index none c.requires.given.limited c.spans_at-span-items.ensures c.loop-span-test.true in
    record {
      spans = c.unmark.ensures.spans ∙ c.loop-span.invariant.spans;
      walked = walk-more (kept o c.loop-span.marked c.loop-span.marks) (kept o c.unmark.new.marked c.unmark.new.marks) (objects_before o.trace.now (o.mark - 1)) spans c.loop-span.span-index none
          c.loop-span-test.true early c.loop-span.invariant.walked (c.unmark.ensures.behind, c.unmark.ensures.kept);
    }

pub mark_from-requires-clause-order : goal.mark_from-requires-clause-order
mark_from-requires-clause-order c =
    let o = c.args.self.now in
    let rise = before-rise o.trace.now (o.mark - 1) o.mark (omega arith) in
    let first = c.requires.first in
    let all = c.requires.given.all_answers in
    omega arith

pub mark_from-requires-clause-below : goal.mark_from-requires-clause-below
mark_from-requires-clause-below c =
    let o = c.args.self.now in
    let spans = c.spans_at-span-items.result.now in
    let end = walk-end (kept o c.loop-span.marked c.loop-span.marks) (objects_before o.trace.now (o.mark - 1)) spans c.loop-span.span-index
    (passes o c.loop-span.marked c.loop-span.marks spans c.spans_at-span-items.ensures) c.loop-span-test.false c.loop-span.invariant.walked in
    kept-all o.trace.now o.mark c.args.first o.answers.now o.sampled.now o.buckets.now c.loop-span.marks c.requires.given.limited c.requires.given.first c.requires.first (rw c.requires.first end.1)
