use Rattle.std.proofs.Common.{ℕ, ◌+◌, ◌/◌, ◌%◌, eq-eqb, ap, sym, subst, ◌∙◌}
use Rattle.span_table_tests.specs.Rows.{SeesBelow}
use Rattle.span_table_tests.proofs.Driving.{sees_more, sees_skips}
use Rattle.span_table_tests.proofs.turns.sees_all_empty.Goals as goal
use Rattle.span_table_tests.proofs.turns.sees_all_empty.Goals.{then-set-part+else-head-tail, else-set-part}

pub loop-set-preserved : goal.loop-set-preserved
loop-set-preserved c = elim c.if-set-part.branch [
  | then-set-part+else-head-tail w ↦ subst (SeesBelow (c.loop-set.set + 1) c.args.w.now) (sym w.w-is)
      (sees_more c.args.w.now c.loop-set.w c.loop-set.set c.loop-set.invariant w.look-head.result.0 w.look-head.result.1 w.look-head.new.w w.if-head-tail.false w.look-head.ensures.view)
  | else-set-part w ↦ subst (SeesBelow (c.loop-set.set + 1) c.args.w.now) (sym w.w-is)
      (sees_skips c.args.w.now c.loop-set.w c.loop-set.set c.loop-set.invariant (eq-eqb (c.loop-set.set % 2) ((c.args.w.now.view.generation / 2) % 2) (w.if-set-part.false ∙ ap (λ (g : ℕ). (g / 2) % 2) c.generation.ensures.value)))
]
