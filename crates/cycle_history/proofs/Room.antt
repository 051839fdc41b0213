-- A found place has room in four bytes.
use Rattle.std.proofs.Common.{ℕ, ◌<◌, arith, inl, inr}
use Rattle.std.proofs.lemmas.Bool.{cases_lt}
use Rattle.size_classes.proofs.Bounds.{objects_bounds}
use Rattle.cycle_history.specs.declared.places.Place.{Place}
use Rattle.cycle_history.specs.Places.{HasPlace, IsPlace}
use Rattle.cycle_history.specs.Packed.{HasRoom}
use Rattle.cycle_history.proofs.OnePlace.{place-one}

-- no span has more than 1024 objects
index-few : (size address page k : ℕ) → IsPlace size address page k → k < 1024
index-few size address page k at =
    let lt = at.slot.index in
    elim (cases_lt 32768 size) [
      | inr small ↦ (
          let class = at.fits.small small in
          let few = (objects_bounds class.0 class.1.is_class).1 in
          let count = class.2.count in
          omega arith)
      | inl large ↦ (let count = (at.fits.large large).count in omega arith)
    ]

-- an object has one place, and so the one that it is known to have
pub place-room : (size address : ℕ) (place : Place) → HasPlace size address → IsPlace size address place.page place.index → HasRoom place
place-room size address place known at =
    let same = (place-one size address known.0 place.page known.1 place.index known.3 at).0 in
    let low = known.2 in
    record { page = omega arith; index = index-few size address place.page place.index at }
