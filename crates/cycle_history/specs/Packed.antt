-- Places in four bytes.
use Rattle.std.specs.Prelude.{ℕ, ◌+◌, ◌-◌, ◌*◌, ◌/◌, ◌%◌, ◌^◌, ◌<◌, ◌==◌, if◌then◌else◌, Option, Some, None}
use Rattle.size_classes.specs.declared.TheConstants.{MAX_PAGES}
use Rattle.cycle_history.specs.declared.places.Place.{Place}

-- The page and the index of a place have room in four bytes.
pub record HasRoom (place : Place) : Type 0 where
  pub page : place.page < MAX_PAGES
  pub index : place.index < 1024

-- The place that a code stands for: the last code stands for none, and each other has the page and behind it the index.
abbrev pub unpacked : ℕ → Option Place
unpacked code = if code == 2 ^ 32 - 1 then None else Some (record { page = code / 1024; index = code % 1024 })

-- The code that stands for a place.
abbrev pub packed : Option Place → ℕ
packed None = 2 ^ 32 - 1
packed (Some place) = place.page * 1024 + place.index
