use Rattle.sweeper_tests.specs.Rows.{IsStage}
use Rattle.sweeper_tests.proofs.scene.add_spans.Given as goal

abbrev pub invariant-loop-span : goal.invariant-loop-span
invariant-loop-span g l = IsStage l.shared l.marks l.w
