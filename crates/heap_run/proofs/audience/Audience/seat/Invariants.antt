use Rattle.std.proofs.Common.{◌≡◌, ◌+◌, length}
use Rattle.heap_run.proofs.audience.Audience.seat.Given as goal

abbrev pub invariant-loop-seated : goal.invariant-loop-seated
invariant-loop-seated g l = record {
  left : length l.watchers.items + l._seated ≡ length l.initial.watchers.items;
  seated : length l.self.viewers.items ≡ l._seated;
  publisher : l.self.publisher ≡ l.initial.self.publisher;
}
