-- What is known of how lives are filled in a cycle, as far as its items are judged.
use Rattle.std.specs.Prelude.{◌≡◌, ℕ, ◌+◌, ◌*◌, ◌<◌, ◌≤◌, ◌==◌, if◌then◌else◌, true, List, length, slice_set, max, Option, Some, None, slice_index_or, ◌⊎◌}
use Rattle.std.specs.List.{slice_get}
use Rattle.cycle_history.specs.Objects.{is_placed}
use Rattle.report_check.specs.declared.items.Item.{Item}
use Rattle.report_check.specs.declared.filling.TheConstants.{SPAN_CLASSES}
use Rattle.report_check.specs.declared.filling.Fill.{Fill}
use Rattle.report_check.specs.declared.filling.Newest.{Newest}
use Rattle.report_check.specs.declared.filling.Filling.{Filling}
use Rattle.report_check.specs.Known.{IsSatFrom}
use Rattle.report_check.specs.Tops.{AreNoTops, IsRaised, lives_of}

-- An item is small where it is placed in a span of a size class above 0.
abbrev pub IsSmallItem : Item → Type 0
IsSmallItem item = (is_placed item.answer ≡ true) × (2 ≤ item.class)

-- The place of a processor's span class among all.
abbrev pub place_of_class : ℕ → ℕ → ℕ
place_of_class proc class = proc * SPAN_CLASSES + class

-- The index up to which a life is known to be held in the cycle.
abbrev pub next_in : Option Fill → ℕ → ℕ
next_in None cycle = 0
next_in (Some fill) cycle = if fill.cycle == cycle then fill.next else 0

-- What is known of a life, and of a processor's span class.
abbrev pub fill_at : Filling → ℕ → Option Fill
fill_at filling life = slice_index_or filling.fills.items life None

abbrev pub newest_at : Filling → ℕ → Option Newest
newest_at filling place = slice_index_or filling.newest.items place None

-- The item fills its life in its cycle, up to its index at least.
abbrev pub filled_by : Option Fill → Item → Fill
filled_by fill item = record { cycle = item.cycle; proc = item.proc; next = max (next_in fill item.cycle) (item.index + 1) }

-- The item's life is its processor's newest one of the span class.
abbrev pub newest_by : Item → Newest
newest_by item = record { cycle = item.cycle; life = item.life }

-- The item was taken up, whose last cycle is this one.
pub record IsTakenUp (old new : Filling) (item : Item) (last : ℕ) : Type 0 where
  pub tops : IsRaised old.tops new.tops item.life item.index (last + 1)
  pub fills : 2 ≤ item.class → new.fills.items ≡ slice_set old.fills.items item.life (Some (filled_by (fill_at old item.life) item))
  pub newest : 2 ≤ item.class → new.newest.items ≡ slice_set old.newest.items (place_of_class item.proc item.class) (Some (newest_by item))
  pub large : item.class < 2 → (new.fills.items ≡ old.fills.items) × (new.newest.items ≡ old.newest.items)

-- There is room for so many lives, and so many processors' span classes.
pub record HasFillingRoom (filling : Filling) (lives places : ℕ) : Type 0 where
  pub tops : lives_of filling.tops ≡ lives
  pub fills : length filling.fills.items ≡ lives
  pub newest : length filling.newest.items ≡ places

-- Nothing is known of any.
pub record IsEmptyFilling (filling : Filling) : Type 0 where
  pub tops : AreNoTops filling.tops
  pub fills : (life : ℕ) → fill_at filling life ≡ None
  pub newest : (place : ℕ) → newest_at filling place ≡ None

-- What is known of a life is what the small items of the first n say.
pub record AreFills (items : List Item) (lasts : List ℕ) (n : ℕ) (filling : Filling) : Type 0 where
  pub held : (life j : ℕ) (fill : Fill) → fill_at filling life ≡ Some fill → j < fill.next → IsSatFrom items lasts n life j fill.cycle
  pub some : (life : ℕ) (fill : Fill) → fill_at filling life ≡ Some fill
      → (i : ℕ) × (item : Item) × (i < n) × (slice_get items i ≡ Some item) × IsSmallItem item × (item.life ≡ life) × (item.cycle ≡ fill.cycle) × (item.proc ≡ fill.proc)
  pub each : (i : ℕ) (item : Item) → i < n → slice_get items i ≡ Some item → IsSmallItem item
      → (fill : Fill) × (fill_at filling item.life ≡ Some fill) × (item.cycle ≤ fill.cycle) × (item.cycle ≡ fill.cycle → item.proc ≡ fill.proc)

-- What is known of a processor's span class is what the small items of the first n say: the life of the newest one, and
-- that all others of the cycle are full.
pub record AreNewest (items : List Item) (lasts : List ℕ) (n : ℕ) (filling : Filling) : Type 0 where
  pub some : (place : ℕ) (its : Newest) → newest_at filling place ≡ Some its
      → (i : ℕ) × (item : Item) × (i < n) × (slice_get items i ≡ Some item) × IsSmallItem item × (place_of_class item.proc item.class ≡ place) × (item.cycle ≡ its.cycle) × (item.life ≡ its.life)
  pub each : (i : ℕ) (item : Item) → i < n → slice_get items i ≡ Some item → IsSmallItem item
      → (its : Newest) × (newest_at filling (place_of_class item.proc item.class) ≡ Some its) × (item.cycle ≤ its.cycle)
      × (item.cycle ≡ its.cycle → (item.life ≡ its.life) ⊎ ((j : ℕ) → j < item.count → IsSatFrom items lasts n item.life j its.cycle))
