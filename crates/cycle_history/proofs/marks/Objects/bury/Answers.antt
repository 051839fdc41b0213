use Rattle.std.proofs.Common.{◌≡◌, true, List, length, sym, ◌∙◌, ap, subst, arith}
use Rattle.trace_reader.specs.declared.span.Span.{Span}
use Rattle.trace_reader.specs.Rising.{AreSpans}
use Rattle.cycle_history.specs.Requests.{is_within, marked_by}
use Rattle.cycle_history.proofs.Rising.{marks-rise, marks-within}
use Rattle.cycle_history.proofs.Settled.{below-undead}
use Rattle.cycle_history.proofs.marks.Objects.bury.Goals as goal

pub run-lives-requires-clause-rise : goal.run-lives-requires-clause-rise
run-lives-requires-clause-rise c =
    let o = c.args.self.now in
    subst (λ (ss : List Span). AreSpans 0 ss) (sym (c.loop-next.invariant.spans ∙ c.requires.spans)) (marks-rise o.trace.now o.mark c.requires.given.limited.cycles)

-- none of a run that the mark end marks has died
pub loop-next-preserved : goal.loop-next-preserved
loop-next-preserved c =
    let o = c.args.self.now in
    let before = c.loop-next.invariant in
    let far = c.run-lives.ensures.order in
    record {
      order = (let order = before.order in omega arith);
      inside = far.1;
      spans = c.run-lives.ensures.spans ∙ before.spans;
      behind = c.run-lives.ensures.behind;
      below = below-undead o.trace.now o.mark o.answers.now o.sampled.now o.buckets.now (length o.answers.now) c.loop-next.next c.run-lives.result.1 c.loop-next.marks (omega arith)
          (λ i le less page died. (
          let on : marked_by o.trace.now o.mark i ≡ true = marks-within o.trace.now o.mark i ∙ sym (ap (λ (ss : List Span). is_within ss i) (before.spans ∙ c.requires.spans)) ∙ c.run-lives.ensures.has i le less ∙ c.if-not-lives.false in
          let off = died.unmarked in
          absurd cc))
          before.below;
    }
