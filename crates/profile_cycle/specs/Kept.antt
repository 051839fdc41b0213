-- What is so of the calls of a tally.
use Rattle.std.specs.Prelude.{◌≡◌, ℕ, ◌≤◌, true, false, List, [], ◌∷◌}
use Rattle.profile_cycle.specs.declared.calls.Call.{Call}
use Rattle.profile_cycle.specs.declared.calls.View.{View}
use Rattle.profile_cycle.specs.History.{AreDated, allocates, frees, publishes, count, cycles_in}

-- No call is of a later cycle.
abbrev pub AreBy : ℕ → List Call → Type 0
AreBy cycle [] = Unit {0}
AreBy cycle (c ∷ older) = (c.cycle ≤ cycle) × AreBy cycle older

-- All calls count, in the one cycle.
abbrev pub AreCounting : ℕ → List Call → Type 0
AreCounting cycle [] = Unit {0}
AreCounting cycle (c ∷ older) = (publishes c.what ≡ false) × (c.cycle ≡ cycle) × AreCounting cycle older

-- The driver's calls carry their cycles, and the others' are of the cycle in which they were split off.
pub record AreCalls (v : View) : Type 0 where
  pub by : AreBy v.cycle v.calls
  pub dated : v.drives ≡ true → AreDated v.calls × (cycles_in v.calls ≡ v.cycle)
  pub counting : v.drives ≡ false → AreCounting v.cycle v.calls

-- The allocations of the bucket, and its frees.
abbrev pub all_allocs : ℕ → List Call → ℕ
all_allocs b calls = count (λ c. allocates b c.what) calls

abbrev pub all_frees : ℕ → List Call → ℕ
all_frees b calls = count (λ c. frees b c.what) calls
