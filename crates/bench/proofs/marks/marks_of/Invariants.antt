use Rattle.std.proofs.Common.{◌≡◌, ℕ, ◌<◌, true}
use Rattle.span_state.specs.MarkSet.{is_marked}
use Rattle.bench.proofs.marks.marks_of.Given as goal

abbrev pub invariant-loop-turn : goal.invariant-loop-turn
invariant-loop-turn l = (q k : ℕ) → is_marked l.marks q k ≡ true → k < l.size.objects
