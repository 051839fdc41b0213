-- How many cells and claims the swept sets have together.
use Rattle.std.specs.Prelude.{◌≡◌, ℕ, zero, suc, ◌+◌, ◌*◌, ◌/◌, ◌%◌, ◌<◌, true, List, [], ◌∷◌}
use Rattle.sweep_laws.specs.Reading.{is_swept_set, set_of}
use Rattle.sweep_laws.specs.State.{CoreState}
use Rattle.worker_log.specs.SetNumbers.{is_full_set, swept_set}

-- The tails of the first n of the swept sets, which are every second one, in the falling order of their numbers.
abbrev pub swept_tails : CoreState → ℕ → List ℕ
swept_tails c zero = []
swept_tails c (suc n) = (set_of c (2 * n + (c.generation / 2) % 2)).tail ∷ swept_tails c n

-- The same of the swept sets of the first n span classes that are partial (0) or full (1).
abbrev pub tails_of_kind : CoreState → ℕ → ℕ → List ℕ
tails_of_kind c full zero = []
tails_of_kind c full (suc n) = (set_of c (swept_set c.generation n full)).tail ∷ tails_of_kind c full n

-- Two swept sets are both partial or both full, and these indices are below their tails.
pub record AreOfKind (c : CoreState) (k l i j : ℕ) : Type 0 where
  pub swept : (is_swept_set c.generation k ≡ true) × (is_swept_set c.generation l ≡ true)
  pub kind : is_full_set k ≡ is_full_set l
  pub claimed : (i < (set_of c k).tail) × (j < (set_of c l).tail)
