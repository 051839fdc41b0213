-- What each core keeps.
use Rattle.std.specs.Prelude.{◌≤◌, ◌<◌, ◌+◌, ◌^◌, ◌≡◌, length, map}
use Rattle.std.specs.List.{All}
use Rattle.sweep_generation.specs.declared.state.Core.TheInside.{Inside}
use Rattle.sweep_laws.specs.State.{CoreState}
use Rattle.sweep_lists.specs.Views.{hand_view, set_view, HandRoom}
use Rattle.sweep_generation.specs.Unpopped.{count_unpopped}

abbrev pub core_view : Inside → CoreState
core_view c = record {
  generation = c.generation;
  words = c.words;
  owners = c.owners.items;
  lives = c.lives.items;
  sets = map set_view c.sets.items;
  lock = c.lock;
  hands = map hand_view c.hands.items;
  room = c.room;
  prepared = c.spare;
}

-- sizes fit the numbers that name their entries, all that has room has it, all tables by page reach over the region, and the
-- sets that are to be popped yet are counted
pub record IsKept (c : Inside) : Type 0 where
  pub generation : c.generation + 3 < 2 ^ 64
  pub pages : length c.words < 2 ^ 32
  pub owners : length c.owners.items ≡ length c.words
  pub workers : length c.hands.items < 2 ^ 32
  pub lives_room : c.room ≤ c.lives.space
  pub lives_table : c.lives.reach ≡ length c.words
  pub hands_room : All (HandRoom (length c.words) c.room) c.hands.items
  pub sets_room : All (λ s. c.room ≤ s.cells.space) c.sets.items
  pub unpopped : c.unpopped ≡ count_unpopped c.generation 0 (map set_view c.sets.items)
