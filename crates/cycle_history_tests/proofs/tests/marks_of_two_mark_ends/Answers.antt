use Rattle.std.proofs.Common.{[], ◌∷◌, take, refl, arith}
use Rattle.cycle_history.specs.declared.Answer.TheVariants.{Placed, Missed}
use Rattle.cycle_history.proofs.Found.{found-kept}
use Rattle.cycle_history.proofs.Kept.{marks-grow, no-marks}
use Rattle.cycle_history_tests.specs.Example.{answers, example}
use Rattle.cycle_history_tests.proofs.Facts.{limited}
use Rattle.cycle_history_tests.proofs.tests.marks_of_two_mark_ends.Goals as goal

pub next_marks-requires-clause-before : goal.next_marks-requires-clause-before
next_marks-requires-clause-before g c = no-marks example (take 5 answers) c.nothing-kept.result.marks c.nothing-kept.ensures.marks

pub next_marks-requires-2-clause-found : goal.next_marks-requires-2-clause-found
next_marks-requires-2-clause-found g c = (
    let all = c.in_ok-next_marks.ensures.kept in
    found-kept example (take 5 answers) (Placed 0xc000000010 ∷ Missed 4 ∷ Placed 0xc000015fe0 ∷ []) _ (omega arith) c.in_ok-next_marks.ensures.found)

pub next_marks-requires-2-clause-before : goal.next_marks-requires-2-clause-before
next_marks-requires-2-clause-before g c =
    marks-grow example 1 (take 5 answers) (Placed 0xc000000010 ∷ Missed 4 ∷ Placed 0xc000015fe0 ∷ []) c.next_marks.new.kept.marks limited refl c.in_ok-next_marks.ensures.marks
