-- The pieces of the objects.
use Rattle.std.specs.Prelude.{◌≡◌, ℕ, ◌/◌, ◌%◌, ◌≤◌, List, length, Some, slice_index_or}
use Rattle.std.specs.List.{slice_get}
use Rattle.cycle_history.specs.declared.Answer.{Answer}
use Rattle.cycle_history.specs.declared.Answer.TheVariants.{Missed, Placed, Zero}
use Rattle.report_check.specs.declared.items.Item.{Item}

-- The number of the piece of an object with this answer and span class, of so many pieces; 255 where it has no place.
abbrev pub home_by : Answer → ℕ → ℕ → ℕ
home_by Zero class count = 255
home_by (Placed address) class count = class / 2 % count
home_by (Missed line) class count = 255

abbrev pub home_at : ℕ → Item → ℕ
home_at count item = home_by item.answer item.class count

-- The homes are those of the items, of so many pieces, of which there are some and few.
pub record AreHomes (count : ℕ) (items : List Item) (homes : List ℕ) : Type 0 where
  pub some : 1 ≤ count
  pub few : count ≤ 64
  pub size : length homes ≡ length items
  pub each : (i : ℕ) (item : Item) → slice_get items i ≡ Some item → slice_index_or homes i 0 ≡ home_at count item
