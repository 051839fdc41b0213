-- What the lives keep beside their list.
use Rattle.std.specs.Prelude.{◌≡◌, ◌≤◌, false, map, length, vec_capacity}
use Rattle.std.specs.List.{All}
use Rattle.sweep_laws.specs.State.{LifeState}
use Rattle.sweep_lists.specs.declared.lives.Lives.TheInside.{Inside}
use Rattle.sweep_lists.specs.There.{there, place_view, AreApart, PlaceRoom}
use Rattle.sweep_lists.specs.Room.{Tabled}
use Rattle.sweep_lists.specs.There.{TellsPlaces}

abbrev pub lives_view : Inside → Tabled LifeState
lives_view lives = record { items = there (map place_view lives.places.items); space = lives.space; reach = lives.starts.len }

-- the room is there, each life has room for its objects, the table tells where lives begin, no two begin at one page
-- unless it is marked so, and those that are there are counted
pub record AreKept (lives : Inside) : Type 0 where
  pub space : lives.space ≤ vec_capacity lives.places
  pub room : All PlaceRoom lives.places.items
  pub starts : TellsPlaces lives.starts.items (map place_view lives.places.items)
  pub apart : lives.doubled ≡ false → AreApart (map place_view lives.places.items)
  pub used : lives.used ≡ length (there (map place_view lives.places.items))
