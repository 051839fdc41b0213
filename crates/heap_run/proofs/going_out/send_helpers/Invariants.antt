use Rattle.std.proofs.Common.{◌+◌, ◌-◌, [], ◌∷◌, ◌++◌}
use Rattle.heap_run.specs.Out.{AreOf, HasSent, IsSent, rising}
use Rattle.heap_run.proofs.going_out.send_helpers.Given as goal

abbrev pub invariant-loop-sent : goal.invariant-loop-sent
invariant-loop-sent l = record {
  sent : HasSent l.start.driver.value (rising l.sent (64 + l.background - l.sent) ++ 68 ∷ []) l.driver;
  lanes : AreOf (IsSent l.start) (rising l.sent (64 + l.background - l.sent) ++ 68 ∷ []) l.lanes.items;
}
