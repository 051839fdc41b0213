-- Items and their seats.
use Rattle.std.specs.Prelude.{◌≡◌, ℕ, ◌<◌, ◌≤◌, true, List, map, Some, Option}
use Rattle.std.specs.List.{slice_get}
use Rattle.cycle_history.specs.Objects.{is_placed}
use Rattle.page_alloc.specs.Lives.{Life}
use Rattle.report_check.specs.declared.lives.OpenLife.{OpenLife}
use Rattle.report_check.specs.declared.lives.Seat.{Seat}
use Rattle.report_check.specs.declared.items.Item.{Item}
use Rattle.report_check.specs.Lives.{HasLife, HasNumber, IsOne}
use Rattle.report_check.specs.Items.{object_of}

-- The item without its seat.
abbrev pub unseated : Item → Item
unseated item = record item { life = 0; index = 0 }

-- The item at this seat.
abbrev pub at_seat : Item → Seat → Item
at_seat item seat = record item { life = seat.life; index = seat.index }

-- The items are the same but for their seats.
abbrev pub AreSameBut : List Item → List Item → Type 0
AreSameBut old new = map unseated new ≡ map unseated old

-- Item i, which is placed and is one of the spans', has its life still in the table.
abbrev pub KeepsLife : List (Option OpenLife) → Item → Type 0
KeepsLife lives item = (life : Life) → HasLife item life → HasNumber lives life.page item.life

-- Item i, which is placed, has lost its life: the table doesn't have it.
pub record IsLost (lives : List (Option OpenLife)) (items : List Item) (i : ℕ) : Type 0 where
  pub item : Item
  pub at : slice_get items i ≡ Some item
  pub placed : is_placed item.answer ≡ true
  pub life : Life
  pub has : HasLife item life
  pub gone : ¬ HasNumber lives life.page item.life

-- The placed items below the bound that the test names have lives.
abbrev pub AllHaveLives : (ℕ → Type 0) → List Item → ℕ → Type 0
AllHaveLives named items bound = (i : ℕ) (item : Item) → i < bound → named i → slice_get items i ≡ Some item → is_placed item.answer ≡ true → (life : Life) × HasLife item life

-- The placed items below the bound that the test names have their lives still in the table.
abbrev pub AllKept : List (Option OpenLife) → (ℕ → Type 0) → List Item → ℕ → Type 0
AllKept lives named items bound = (i : ℕ) (item : Item) → i < bound → named i → slice_get items i ≡ Some item → is_placed item.answer ≡ true → KeepsLife lives item

-- The item with this number isn't above the bound, and where it is below it has lost its life.
pub record IsFirstLost (lives : List (Option OpenLife)) (named : ℕ → Type 0) (items : List Item) (bound found : ℕ) : Type 0 where
  pub few : found ≤ bound
  pub lost : found < bound → named found × IsLost lives items found
  pub kept : AllKept lives named items found

-- The seat that an item has.
abbrev pub seat_in : Item → Seat
seat_in item = record { life = item.life; index = item.index }

-- The item's object has its one seat in the table.
abbrev pub HasOne : List (Option OpenLife) → Item → Type 0
HasOne lives item = IsOne lives (object_of 0 item) (seat_in item)

-- Item i is placed, and has no one seat in the table.
pub record IsSeatless (lives : List (Option OpenLife)) (items : List Item) (i : ℕ) : Type 0 where
  pub item : Item
  pub at : slice_get items i ≡ Some item
  pub placed : is_placed item.answer ≡ true
  pub none : (seat : Seat) → ¬ IsOne lives (object_of 0 item) seat

-- The items from first up to last and below the found one have their seats; all others stay as they were. Where the found
-- one is below the bound it is one of them, and has no seat.
pub record AreSeatedIn (lives : List (Option OpenLife)) (old new : List Item) (first last bound found : ℕ) : Type 0 where
  pub same : AreSameBut old new
  pub few : found ≤ bound
  pub kept : (i : ℕ) → i < first → slice_get new i ≡ slice_get old i
  pub seats : (i : ℕ) (item : Item) → first ≤ i → i < last → i < found → slice_get new i ≡ Some item → is_placed item.answer ≡ true → HasOne lives item
  pub lost : found < bound → (first ≤ found) × (found < last) × IsSeatless lives old found
