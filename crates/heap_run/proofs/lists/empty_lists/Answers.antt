use Rattle.std.proofs.Common.{arith}
use Rattle.heap_run.proofs.Queued.{none-more}
use Rattle.heap_run.proofs.lists.empty_lists.Goals as goal

pub loop-proc-preserved : goal.loop-proc-preserved
loop-proc-preserved g c = record {
  long = (let a = c.in_ok-push.ensures.len in let b = c.loop-proc.invariant.long in omega arith);
  empty = λ w. none-more c.loop-proc.lists.items c.push.new.self.items c.in_ok-with_room.field-0 w c.in_ok-with_room.ensures c.in_ok-push.ensures.items c.loop-proc.invariant.empty;
}
