-- The last cycle in which each object lives.
use Rattle.std.specs.Prelude.{◌≡◌, ℕ, ◌<◌, ◌≤◌, true, List, length, slice_index_or, Some, ◌⊎◌, ◌↔◌}
use Rattle.std.specs.List.{slice_get}
use Rattle.trace_reader.specs.declared.trace.Trace.{Trace}
use Rattle.cycle_history.specs.Requests.{Request, marked_by}
use Rattle.report_check.specs.declared.items.Item.{Item}

-- The cycle of a request.
abbrev pub cycle_asked : Request → ℕ
cycle_asked r = r.cycle

-- The last cycle of the object with this number.
abbrev pub last_at : List ℕ → ℕ → ℕ
last_at lasts i = slice_index_or lasts i 0

-- The number is the last cycle of each item's object, where it is placed: each later cycle's mark end up to it marks it,
-- and no other mark end.
pub record AreLasts (t : Trace) (items : List Item) (lasts : List ℕ) : Type 0 where
  pub size : length lasts ≡ length items
  pub own : (i : ℕ) (item : Item) → slice_get items i ≡ Some item → item.cycle ≤ last_at lasts i
  pub few : (i : ℕ) → last_at lasts i < length t.cycles
  pub marked : (i c : ℕ) (item : Item) → slice_get items i ≡ Some item → (marked_by t c i ≡ true) ↔ ((item.cycle < c) × (c ≤ last_at lasts i))

-- The same by the mark ends up to number m.
pub record AreLastsTo (t : Trace) (items : List Item) (lasts : List ℕ) (m : ℕ) : Type 0 where
  pub size : length lasts ≡ length items
  pub own : (i : ℕ) (item : Item) → slice_get items i ≡ Some item → item.cycle ≤ last_at lasts i
  pub few : (i : ℕ) (item : Item) → slice_get items i ≡ Some item → (last_at lasts i ≤ m) ⊎ (last_at lasts i ≡ item.cycle)
  pub marked : (i c : ℕ) (item : Item) → slice_get items i ≡ Some item → c ≤ m → (marked_by t c i ≡ true) ↔ ((item.cycle < c) × (c ≤ last_at lasts i))

-- The entries that the test names are this number, and the others as they were.
pub record AreSet (named : ℕ → Type 0) (value : ℕ) (old new : List ℕ) : Type 0 where
  pub size : length new ≡ length old
  pub here : (i : ℕ) → i < length old → named i → slice_index_or new i 0 ≡ value
  pub others : (i : ℕ) → ¬ named i → slice_index_or new i 0 ≡ slice_index_or old i 0
