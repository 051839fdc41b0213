-- The state at the start.
use Rattle.std.specs.Prelude.{ℕ, List, [], None, map}
use Rattle.std.specs.List.{range_with_len}
use Rattle.sweep_laws.specs.State.{CoreState}
use Rattle.sweep_laws.specs.Reading.{no_hand, no_set}

-- n copies of an item
abbrev pub copies : {A : Type 0} → ℕ → A → List A
copies n x = map (λ _. x) (range_with_len 0 n)

-- generation 4, all pages free, all sets and hands empty, no lives and no holder of the lock
abbrev pub new_state : ℕ → ℕ → CoreState
new_state pages workers = record {
  generation = 4;
  words = copies pages 0;
  owners = copies pages None;
  lives = [];
  sets = copies 544 no_set;
  lock = None;
  hands = copies workers no_hand;
  room = 0;
  prepared = 0;
}
