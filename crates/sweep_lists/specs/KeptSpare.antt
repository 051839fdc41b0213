-- What is prepared for a life to come.
use Rattle.std.specs.Prelude.{◌≡◌, ◌≤◌, ℕ, []}
use Rattle.sweep_lists.specs.Room.{Roomy, Tabled}

-- two lists without entries have room for so many, and the table of the first one reaches as far
pub record IsPrepared (count : ℕ) (allocated : Tabled ℕ) (kept : Roomy ℕ) : Type 0 where
  pub allocated_room : count ≤ allocated.space
  pub kept_room : count ≤ kept.space
  pub table : count ≤ allocated.reach
  pub no_allocated : allocated.items ≡ []
  pub no_kept : kept.items ≡ []
