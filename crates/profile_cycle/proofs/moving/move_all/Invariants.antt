use Rattle.std.proofs.Common.{◌≡◌, ℕ, ◌<◌}
use Rattle.profile_cycle.specs.declared.words.Kind.{Kind}
use Rattle.profile_cycle.specs.Rule.{GoesOn, IsMoved}
use Rattle.profile_cycle.proofs.moving.move_all.Given as goal

abbrev pub invariant-loop-bucket : goal.invariant-loop-bucket
invariant-loop-bucket l = record {
  table : l.seat.table_id ≡ l.initial.seat.table_id;
  slots : l.seat.me.1 ≡ l.initial.seat.me.1;
  goes : GoesOn l.initial.seat.me.0 l.seat.me.0;
  moved : (k : Kind) (b : ℕ) → b < l.bucket → IsMoved l.seat.me.0 k b;
}
