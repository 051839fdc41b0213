use Rattle.std.proofs.Common.{◌≡◌, ℕ, ◌<◌, true}
use Rattle.span_state.specs.MarkSet.{is_marked}
use Rattle.span_state_tests.proofs.tests.marks_of.Given as goal

abbrev pub invariant-loop-index : goal.invariant-loop-index
invariant-loop-index l = (k : ℕ) → is_marked l.marks 7 k ≡ true → k < l.high
