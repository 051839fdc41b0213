use Rattle.std.proofs.Common.{◌≡◌, ℕ, ◌+◌, ◌-◌, ◌<◌, length, get_or, Some, None, sym, ◌∙◌, ap, subst, arith}
use Rattle.std.proofs.lemmas.List.{get_or_read}
use Rattle.std.proofs.lemmas.Option.{slice_get-get_or}
use Rattle.span_state.specs.MarkSet.{MarkSet}
use Rattle.cycle_history.specs.Places.{LiesAt}
use Rattle.cycle_history.specs.Marked.{IsMarkedAt}
use Rattle.cycle_history.specs.MarkedLoops.{AreKept}
use Rattle.cycle_history.proofs.Kept.{kept-past, kept-removed}
use Rattle.cycle_history.proofs.Settled.{none-of}
use Rattle.cycle_history.proofs.marks.Objects.unmark_run.Goals.{in-Some, in_default}
use Rattle.cycle_history.proofs.marks.Objects.unmark_run.Goals as goal

pub loop-object-preserved : goal.loop-object-preserved
loop-object-preserved c =
    let o = c.args.self.now in
    let i = c.loop-object.object in
    let given = c.requires.given in
    let all = given.all_places in
    let answers = given.all_answers in
    let high = c.requires.high in
    let lt = c.loop-object-test.true in
    let inside : i < length o.places.now = omega arith in
    let low = c.loop-object.auto.object in
    let read : c.place.result ≡ get_or o.places.now i None = c.place.ensures ∙ get_or_read o.places.now i c.index-places-object.result inside c.index-places-object.is None in
    elim c.match-place.branch [
      | in-Some w ↦ (
          let lies = given.found i (Some w.in-Some.place) (slice_get-get_or o.places.now i None inside ∙ ap Some (sym read ∙ w.in-Some.is)) in
          let at : IsMarkedAt o.trace.now (o.mark - 1) o.answers.now w.in-Some.place.page w.in-Some.place.index i = record { marked = c.requires.old i low lt; lies = lies } in
          subst (λ (marks : MarkSet). AreKept o.trace.now o.mark o.answers.now (i + 1) marks) (sym w.marks-is)
          (kept-removed o.trace.now o.mark o.answers.now i w.in-Some.place.page w.in-Some.place.index c.loop-object.marks w.remove.new.self given.apart
          (c.requires.unmarked i low lt) at w.remove.ensures.marked w.remove.ensures.dead c.loop-object.invariant))
      | in_default w ↦ (
          let none : get_or o.places.now i None ≡ None = sym read ∙ none-of c.place.result w.in_default.not-Some in
          let nowhere = given.found i None (slice_get-get_or o.places.now i None inside ∙ ap Some none) in
          subst (λ (marks : MarkSet). AreKept o.trace.now o.mark o.answers.now (i + 1) marks) (sym w.marks-is)
          (kept-past o.trace.now o.mark o.answers.now i (i + 1) c.loop-object.marks (omega arith)
          (λ j le less page k at. (let same : j ≡ i = omega arith in absurd (nowhere page k (subst (λ (n : ℕ). LiesAt o.trace.now o.answers.now n page k) same at.lies))))
          c.loop-object.invariant))
    ]
