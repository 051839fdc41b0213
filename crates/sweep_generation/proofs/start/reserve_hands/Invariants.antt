use Rattle.std.proofs.Common.{◌≡◌, ◌<◌, ℕ, map, get_or}
use Rattle.std.specs.List.{All}
use Rattle.sweep_lists.specs.declared.hand.CoreHand.{CoreHand}
use Rattle.sweep_lists.specs.Views.{hand_view, HandRoom}
use Rattle.sweep_generation.proofs.start.reserve_hands.Given as goal

abbrev pub invariant-loop-k : goal.invariant-loop-k
invariant-loop-k l = record {
  same : map hand_view l.hands ≡ map hand_view l.initial.hands;
  done : (pages n : ℕ) → All (HandRoom pages n) l.initial.hands → (j : ℕ) (d : CoreHand) → j < l.k → HandRoom pages l.room (get_or l.hands j d);
  room : (pages n : ℕ) → All (HandRoom pages n) l.initial.hands → All (HandRoom pages n) l.hands;
}
