-- The buckets that a tally lists, so that a publication goes over these alone.
use Rattle.std.specs.Prelude.{◌≡◌, ℕ, ◌<◌, Bool, true, false, not, List, [], length, slice_index, ◌⊎◌}
use Rattle.profile_cycle.specs.declared.listed.Noted.{Noted}
use Rattle.profile_cycle.specs.declared.sight.Sight.{Sight}
use Rattle.profile_cycle.specs.Kept.{AreCalls}
use Rattle.profile_cycle.specs.Rule.{has}
use Rattle.profile_cycle.specs.Words.{is_odd}

-- A number is in the list.
abbrev pub Has : List ℕ → ℕ → Type 0
Has xs x = (k : ℕ) × (k < length xs) × (slice_index xs k ≡ x)

-- Unless all of n buckets are to be gone over, each that is noted is on the list; and the list has buckets alone.
pub record Lists (n : ℕ) (noted : List ℕ) (all : Bool) (listed : List ℕ) : Type 0 where
  pub some : all ≡ false → (b : ℕ) → has b noted ≡ true → Has listed b
  pub within : (b : ℕ) → Has listed b → b < n

-- Some buckets were put on a list, if all aren't to be gone over now.
pub record Adds (all : Bool) (listed : List ℕ) (all' : Bool) (listed' : List ℕ) (added : ℕ → Type 0) : Type 0 where
  pub stays : all' ≡ false → all ≡ false
  pub old : (b : ℕ) → Has listed b → Has listed' b
  pub new : all' ≡ false → (b : ℕ) → added b → Has listed' b
  pub only : (b : ℕ) → Has listed' b → Has listed b ⊎ added b

-- Nothing is listed.
pub record AreEmpty (l : Noted) : Type 0 where
  pub due : l.due.buckets.items ≡ []
  pub due_all : l.due.all ≡ false
  pub later : l.later.buckets.items ≡ []
  pub later_all : l.later.all ≡ false

-- A tally of n buckets stands where its seat does, between any two calls.
pub record Stands (n : ℕ) (s : Sight) (odd : Bool) (l : Noted) : Type 0 where
  pub calls : AreCalls s.view
  pub lent : s.lent ≡ not s.view.drives
  pub moved : s.moved ≡ []
  pub row : odd ≡ is_odd s.view.cycle
  pub due : Lists n s.due l.due.all l.due.buckets.items
  pub later : Lists n s.later l.later.all l.later.buckets.items
