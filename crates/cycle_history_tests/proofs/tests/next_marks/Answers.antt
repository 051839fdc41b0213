use Rattle.std.proofs.Common.{◌-◌, ◌∙◌, List, ap, sym, subst}
use Rattle.trace_reader.specs.declared.trace.Trace.{Trace}
use Rattle.cycle_history.specs.declared.Answer.{Answer}
use Rattle.cycle_history.specs.Found.{AreFound}
use Rattle.cycle_history.specs.Marked.{ArePlacesOf, LieApart}
use Rattle.cycle_history.specs.Before.{ArePlaces, objects_before}
use Rattle.cycle_history_tests.specs.Example.{example}
use Rattle.cycle_history_tests.proofs.Facts.{ready}
use Rattle.cycle_history_tests.proofs.tests.next_marks.Goals as goal

pub marks_of-requires-clause-places : goal.marks_of-requires-clause-places
marks_of-requires-clause-places c =
    let r = ready c.args.mark c.args.count c.requires.mark in
    subst (λ (t : Trace). ArePlaces t c.in_ok-answers.answers) (sym c.requires.trace) (subst (λ (xs : List Answer). ArePlaces example xs) (sym c.in_ok-answers.ensures) r.places)

pub marks_of-requires-clause-kept : goal.marks_of-requires-clause-kept
marks_of-requires-clause-kept c = c.requires.kept ∙ ap (λ (t : Trace). objects_before t (c.args.mark - 1)) (sym c.requires.trace)

pub marks_of-requires-clause-found : goal.marks_of-requires-clause-found
marks_of-requires-clause-found c =
    subst (λ (t : Trace). AreFound t c.in_ok-answers.answers c.args.kept.now.places) (sym c.requires.trace)
    (subst (λ (xs : List Answer). AreFound example xs c.args.kept.now.places) (sym c.in_ok-answers.ensures) c.requires.found)

pub marks_of-requires-clause-before : goal.marks_of-requires-clause-before
marks_of-requires-clause-before c =
    subst (λ (t : Trace). ArePlacesOf t (c.args.mark - 1) c.in_ok-answers.answers c.args.kept.now.marks) (sym c.requires.trace)
    (subst (λ (xs : List Answer). ArePlacesOf example (c.args.mark - 1) xs c.args.kept.now.marks) (sym c.in_ok-answers.ensures) c.requires.before)

pub marks_of-requires-clause-apart : goal.marks_of-requires-clause-apart
marks_of-requires-clause-apart c =
    let r = ready c.args.mark c.args.count c.requires.mark in
    subst (λ (t : Trace). LieApart t c.args.mark c.in_ok-answers.answers) (sym c.requires.trace) (subst (λ (xs : List Answer). LieApart example c.args.mark xs) (sym c.in_ok-answers.ensures) r.apart)
