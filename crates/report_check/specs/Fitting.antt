-- Whether an item fits how its life, and its processor's span class, are filled so far in its cycle.
use Rattle.std.specs.Prelude.{◌≡◌, ◌≢◌, ℕ, ◌<◌, ◌≤◌, Option, Some, ◌⊎◌}
use Rattle.report_check.specs.declared.items.Item.{Item}
use Rattle.report_check.specs.declared.tops.Tops.{Tops}
use Rattle.report_check.specs.declared.filling.Fill.{Fill}
use Rattle.report_check.specs.declared.filling.Newest.{Newest}
use Rattle.report_check.specs.declared.filling.Filling.{Filling}
use Rattle.report_check.specs.Tops.{top_at}
use Rattle.report_check.specs.Filling.{place_of_class, next_in, fill_at, newest_at}

-- Another processor fills the life in the item's cycle.
pub record IsOthers (fill : Option Fill) (item : Item) : Type 0 where
  pub its : Fill
  pub is : fill ≡ Some its
  pub now : its.cycle ≡ item.cycle
  pub other : its.proc ≢ item.proc

-- No other processor does.
abbrev pub IsOwn : Option Fill → Item → Type 0
IsOwn fill item = (its : Fill) → fill ≡ Some its → its.cycle ≡ item.cycle → its.proc ≡ item.proc

-- Each index of a life from one up to another is held in the cycle.
abbrev pub AreHeld : Tops → ℕ → ℕ → ℕ → ℕ → Type 0
AreHeld tops life low high cycle = (j : ℕ) → low ≤ j → j < high → cycle < top_at tops life j

-- One of them is free.
abbrev pub IsFreeAt : Tops → ℕ → ℕ → ℕ → ℕ → Type 0
IsFreeAt tops life low high cycle = (j : ℕ) × (low ≤ j) × (j < high) × (top_at tops life j ≤ cycle)

-- Of the item's processor and span class, another life is filled in the cycle.
pub record FillsOther (newest : Option Newest) (item : Item) (left : ℕ) : Type 0 where
  pub its : Newest
  pub is : newest ≡ Some its
  pub now : its.cycle ≡ item.cycle
  pub other : its.life ≢ item.life
  pub life : left ≡ its.life

-- No other life is.
abbrev pub IsStaying : Option Newest → Item → Type 0
IsStaying newest item = (its : Newest) → newest ≡ Some its → its.cycle ≡ item.cycle → its.life ≡ item.life

-- The item's life is its processor's in the cycle, each index below the item's is held, and a life that its processor
-- left is full.
pub record IsFitting (filling : Filling) (item : Item) : Type 0 where
  pub own : IsOwn (fill_at filling item.life) item
  pub below : AreHeld filling.tops item.life (next_in (fill_at filling item.life) item.cycle) item.index item.cycle
  pub full : (left : ℕ) → FillsOther (newest_at filling (place_of_class item.proc item.class)) item left → AreHeld filling.tops left 0 item.count item.cycle

-- One of the three isn't so.
abbrev pub IsUnfitting : Filling → Item → Type 0
IsUnfitting filling item = IsOthers (fill_at filling item.life) item
    ⊎ (IsFreeAt filling.tops item.life (next_in (fill_at filling item.life) item.cycle) item.index item.cycle
    ⊎ ((left : ℕ) × FillsOther (newest_at filling (place_of_class item.proc item.class)) item left × IsFreeAt filling.tops left 0 item.count item.cycle))
