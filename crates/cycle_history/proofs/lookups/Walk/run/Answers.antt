use Rattle.std.proofs.Common.{◌≡◌, ℕ, ◌<◌, ◌≤◌, leb, List, length, get_or, sym, ◌∙◌, ap, subst, arith}
use Rattle.std.proofs.lemmas.Bool.{le-leb, lt-leb}
use Rattle.trace_reader.specs.declared.span.Span.{Span}
use Rattle.trace_reader.specs.Rising.{AreSpans}
use Rattle.cycle_history.specs.Requests.{is_within}
use Rattle.cycle_history.specs.declared.lookups.Walk.{Walk}
use Rattle.cycle_history.specs.MarkedLoops.{IsBehind}
use Rattle.cycle_history.proofs.Rising.{span-low, within-none, within-point}
use Rattle.cycle_history.proofs.lookups.Walk.run.Goals.{then-has, else-has}
use Rattle.cycle_history.proofs.lookups.Walk.run.Goals as goal

-- behind the last span no number is within one
pub returns-then-self-clause-has : goal.returns-then-self-clause-has
returns-then-self-clause-has c = λ i le lt. (
    let d : Span = record { lo = 0; hi = 0 } in
    let passed = c.pass.ensures in
    let all = c.if-self.true in
    sym (ap (λ (ss : List Span). is_within ss i) passed.spans)
    ∙ within-none c.pass.new.self.spans.now i d (λ k less. (let end = passed.behind.below k d (omega arith) in omega arith)))

-- the next span alone can have a number up to its end
next-point : (walk : Walk) (number i : ℕ) (d : Span) → AreSpans 0 walk.spans.now → IsBehind walk number → walk.next < length walk.spans.now → number ≤ i → i ≤ (get_or walk.spans.now walk.next d).hi
    → leb (get_or walk.spans.now walk.next d).lo i ≡ is_within walk.spans.now i
next-point walk number i d rise behind lt le high =
    within-point 0 walk.spans.now walk.next i d rise (λ k less. (let end = behind.below k d less in omega arith)) high lt

pub returns-clause-has : goal.returns-clause-has
returns-clause-has c = λ i le lt. (
    let d : Span = record { lo = 0; hi = 0 } in
    let passed = c.pass.ensures in
    let walk = c.pass.new.self in
    let span = get_or walk.spans.now walk.next d in
    let rise = subst (λ (ss : List Span). AreSpans 0 ss) (sym passed.spans) c.requires.rise in
    let inside : walk.next < length walk.spans.now = (let le' = passed.behind.inside in let ne = c.if-self.false in omega arith) in
    let order = (span-low 0 walk.spans.now walk.next d rise inside).1 in
    let least = c.min.ensures in
    let same = ap (λ (ss : List Span). is_within ss i) passed.spans in
    elim c.if-has.branch [
      | then-has w ↦ (
          let stop = w.stop-is in
          let low = w.if-has.true in
          sym same ∙ sym (next-point walk c.args.number i d rise passed.behind inside le (omega arith))
          ∙ le-leb span.lo i (omega arith) ∙ sym (le-leb span.lo c.args.number low))
      | else-has w ↦ (
          let stop = w.stop-is in
          let high = w.if-has.false in
          sym same ∙ sym (next-point walk c.args.number i d rise passed.behind inside le (omega arith))
          ∙ lt-leb span.lo i (omega arith) ∙ sym (lt-leb span.lo c.args.number high))
    ])
