use Rattle.report_check.proofs.Flagging.{IsFlagged}
use Rattle.report_check.proofs.sampled.flags_of.Given as goal

-- the flags of the items so far
abbrev pub invariant-loop-item : goal.invariant-loop-item
invariant-loop-item l = IsFlagged l.objects.trace.now l.objects.items.now l.item-index l.samplers.items l.flags.items
