use Rattle.std.proofs.Common.{◌≡◌, ◌+◌, false, get_or, length, sym, ◌∙◌, ap, subst, ℕ, arith}
use Rattle.span_state.specs.MarkSet.{MarkSet}
use Rattle.cycle_history.specs.Marked.{AreMarksBelow}
use Rattle.cycle_history.proofs.Settled.{below-unsampled}
use Rattle.cycle_history.proofs.marks.Objects.bury_run.Goals.{then-sampled-object+in_ok-bury_one, else-sampled-object}
use Rattle.cycle_history.proofs.marks.Objects.bury_run.Goals as goal

pub loop-object-preserved : goal.loop-object-preserved
loop-object-preserved c =
    let o = c.args.self.now in
    let i = c.loop-object.object in
    elim c.if-sampled-object.branch [
      | then-sampled-object+in_ok-bury_one w ↦ subst (λ (marks : MarkSet). AreMarksBelow o.trace.now o.mark o.answers.now o.sampled.now o.buckets.now (length o.answers.now) (i + 1) marks) (sym w.marks-is) w.in_ok-bury_one.ensures
      | else-sampled-object w ↦ subst (λ (marks : MarkSet). AreMarksBelow o.trace.now o.mark o.answers.now o.sampled.now o.buckets.now (length o.answers.now) (i + 1) marks) (sym w.marks-is)
          (below-unsampled o.trace.now o.mark o.answers.now o.sampled.now o.buckets.now (length o.answers.now) i (i + 1) c.loop-object.marks (omega arith)
          (λ j le less. (let same : j ≡ i = omega arith in ap (λ (n : ℕ). get_or o.sampled.now n false) same ∙ w.if-sampled-object.false))
          c.loop-object.invariant)
    ]
