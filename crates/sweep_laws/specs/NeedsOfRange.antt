-- A need, and what the first one of a list that is not met finds; and the ranges, which are tried before all other needs.
use Rattle.std.specs.Prelude.{ℕ, ◌+◌, Bool, nat_lt, nat_le, if◌then◌else◌, List, [], ◌∷◌, length, Option, Some, None}
use Rattle.sweep_laws.specs.declared.moves.Found.{Found}
use Rattle.sweep_laws.specs.declared.moves.Found.TheVariants.{Range}
use Rattle.sweep_laws.specs.State.{CoreState}

-- a need: whether it is met, and what is found where it is not
pub record Need : Type 0 where
  pub met : Bool
  pub found : Found

-- a need by its parts
abbrev pub need : Bool → Found → Need
need met found = record { met = met; found = found }

-- what the first need that is not met finds, None where all are met
abbrev pub refusal : List Need → Option Found
refusal [] = None
refusal (n ∷ needs) = if n.met then refusal needs else Some n.found

-- the ranges, which are tried before any need

abbrev pub worker_in_range : CoreState → ℕ → Need
worker_in_range c w = need (nat_lt w (length c.hands)) Range

abbrev pub page_in_range : CoreState → ℕ → Need
page_in_range c page = need (nat_lt page (length c.words)) Range

abbrev pub set_in_range : CoreState → ℕ → Need
set_in_range c s = need (nat_lt s (length c.sets)) Range

-- the run ends in the region
abbrev pub run_in_range : CoreState → ℕ → ℕ → Need
run_in_range c page pages = need (nat_le (page + pages) (length c.words)) Range

-- there are 136 span classes
abbrev pub class_in_range : ℕ → Need
class_in_range class = need (nat_lt class 136) Range
