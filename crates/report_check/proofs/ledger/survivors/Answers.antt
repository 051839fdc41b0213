use Rattle.std.proofs.Common.{List, ◌∙◌, ap}
use Rattle.page_alloc.specs.Lists.{count}
use Rattle.report_check.specs.declared.ledger.Alive.{Alive}
use Rattle.report_check.proofs.Tallying.{survivors-more, survivors-other}
use Rattle.report_check.proofs.ledger.survivors.Goals.{then-cycle-object+in_ok-push, else-cycle-object}
use Rattle.report_check.proofs.ledger.survivors.Goals as goal

pub loop-object-preserved : goal.loop-object-preserved
loop-object-preserved c test = elim c.if-cycle-object.branch [
  | then-cycle-object+in_ok-push w ↦ ap (λ (k : _). count test k.items) w.kept-is
      ∙ (ap (λ (xs : List Alive). count test xs) w.in_ok-push.ensures.items
      ∙ survivors-more test c.args.cycle c.loop-object.object-index _ c.args.alive.now c.loop-object.kept.items c.loop-object-test.true w.if-cycle-object.true (c.loop-object.invariant test))
  | else-cycle-object w ↦ ap (λ (k : _). count test k.items) w.kept-is
      ∙ survivors-other test c.args.cycle c.loop-object.object-index _ c.args.alive.now c.loop-object.kept.items c.loop-object-test.true w.if-cycle-object.false (c.loop-object.invariant test)
]
