-- Lists with room, and what a state is made of.
use Rattle.std.specs.Prelude.{ℕ, List}

-- a list that has room for `space` items
pub record Roomy (T : Type 0) : Type 0 where
  pub items : List T
  pub space : ℕ

-- such a list with a table beside it, which tells of all numbers below `reach`
pub record Tabled (T : Type 0) : Type 0 where
  pub items : List T
  pub space : ℕ
  pub reach : ℕ
