use Rattle.std.proofs.Common.{◌≡◌, ℕ, ◌-◌, List, length, ◌∙◌, arith}
use Rattle.trace_reader.specs.declared.span.Span.{Span}
use Rattle.span_state.specs.MarkSet.{MarkSet}
use Rattle.cycle_history.specs.declared.lookups.Walk.{Walk}
use Rattle.cycle_history.specs.declared.marks.Objects.{Objects}
use Rattle.cycle_history.specs.Marked.{AreMarksBelow}
use Rattle.cycle_history.specs.Before.{marks_at, objects_before}
use Rattle.cycle_history.specs.MarkedLoops.{IsBehind}
use Rattle.cycle_history.proofs.Firsts.{before-rise}
use Rattle.cycle_history.proofs.Rising.{marks-rise}
use Rattle.cycle_history.proofs.Settled.{below-undead}
use Rattle.cycle_history.proofs.Walked.{Passes, span-early, span-order, undead, walk-end, walk-more, walk-none, walk-to}
use Rattle.cycle_history.proofs.marks.Objects.bury_all.Goals as goal

none : Span
none = record { lo = 0; hi = 0 }

-- the objects below a number are settled, and the walk has come no further
abbrev below : Objects → Walk → MarkSet → ℕ → Type 0
below o marked marks n = IsBehind marked n × AreMarksBelow o.trace.now o.mark o.answers.now o.sampled.now o.buckets.now (length o.answers.now) n marks

passes : (o : Objects) (marked : Walk) (marks : MarkSet) (spans : List Span) → spans ≡ marks_at o.trace.now (o.mark - 1) → Passes (below o marked marks) (objects_before o.trace.now (o.mark - 1)) spans
passes o marked marks spans are low high le inside off old = (
  record { inside = old.0.inside; below = λ k d lt. (let less = old.0.below k d lt in omega arith) },
  below-undead o.trace.now o.mark o.answers.now o.sampled.now o.buckets.now (length o.answers.now) low high marks le
      (λ i from lt. undead o.trace.now o.mark o.answers.now o.sampled.now spans i are (omega arith) (off i from lt))
      old.1,
)

pub loop-span-init : goal.loop-span-init
loop-span-init c =
    let o = c.args.self.now in
    let are = c.spans_at-span-items.ensures in
    record {
      spans = c.spans_at.ensures;
      walked = walk-none (below o (record { spans = c.spans_at.result; next = 0 }) c.args.marks.now) (objects_before o.trace.now (o.mark - 1)) c.spans_at-span-items.result.now
          (rw are (marks-rise o.trace.now (o.mark - 1) c.requires.given.limited.cycles))
          (record { inside = omega arith; below = λ k d lt. absurd (omega arith) }, c.requires.below);
    }

pub bury-requires-clause-high : goal.bury-requires-clause-high
unfolding none
bury-requires-clause-high c =
    let o = c.args.self.now in
    let early = span-early o.trace.now (o.mark - 1) c.spans_at-span-items.result.now c.loop-span.span-index none c.requires.given.limited c.spans_at-span-items.ensures c.loop-span-test.true in
    let rise = before-rise o.trace.now (o.mark - 1) o.mark (omega arith) in
    let all = c.requires.given.all_answers in
    omega arith

pub bury-requires-clause-below : goal.bury-requires-clause-below
unfolding none
bury-requires-clause-below c =
    let o = c.args.self.now in
    let spans = c.spans_at-span-items.result.now in
    let are = c.spans_at-span-items.ensures in
    let early = span-early o.trace.now (o.mark - 1) spans c.loop-span.span-index none c.requires.given.limited are c.loop-span-test.true in
    let order = span-order o.trace.now (o.mark - 1) spans c.loop-span.span-index none c.requires.given.limited are c.loop-span-test.true in
    (walk-to (below o c.loop-span.marked c.loop-span.marks) (objects_before o.trace.now (o.mark - 1)) spans c.loop-span.span-index none
    (passes o c.loop-span.marked c.loop-span.marks spans are) c.loop-span-test.true (omega arith) c.loop-span.invariant.walked).1

pub loop-span-preserved : goal.loop-span-preserved
unfolding none
loop-span-preserved c =
    let o = c.args.self.now in
    let spans = c.spans_at-span-items.result.now in
    let early = span-early o.trace.now (o.mark - 1) spans c.loop-span.span-index none c.requires.given.limited c.spans_at-span-items.ensures c.loop-span-test.true in
    record {
      spans = c.bury.ensures.spans ∙ c.loop-span.invariant.spans;
      walked = walk-more (below o c.loop-span.marked c.loop-span.marks) (below o c.bury.new.marked c.bury.new.marks) (objects_before o.trace.now (o.mark - 1)) spans c.loop-span.span-index none
          c.loop-span-test.true early c.loop-span.invariant.walked (c.in_ok-bury.ensures.behind, c.in_ok-bury.ensures.below);
    }

pub bury-requires-2-clause-order : goal.bury-requires-2-clause-order
bury-requires-2-clause-order c =
    let o = c.args.self.now in
    let rise = before-rise o.trace.now (o.mark - 1) o.mark (omega arith) in
    let first = c.requires.first in
    let all = c.requires.given.all_answers in
    omega arith

pub bury-requires-2-clause-below : goal.bury-requires-2-clause-below
bury-requires-2-clause-below c =
    let o = c.args.self.now in
    let spans = c.spans_at-span-items.result.now in
    let end = walk-end (below o c.loop-span.marked c.loop-span.marks) (objects_before o.trace.now (o.mark - 1)) spans c.loop-span.span-index
    (passes o c.loop-span.marked c.loop-span.marks spans c.spans_at-span-items.ensures) c.loop-span-test.false c.loop-span.invariant.walked in
    rw c.requires.first end.1
