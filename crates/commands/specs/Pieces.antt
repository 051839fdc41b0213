-- The words that ask for a judging in pieces.
use Rattle.std.specs.Prelude.{◌≡◌, ℕ, ◌≤◌, List, [], ◌∷◌, ◌++◌, map, codes, decimal, String, string_bytes}
use Rattle.std.specs.declared.alloc.Global.{Global}

-- `check` and `--pieces=` with a number from 1 to 64, in decimal digits
pub record AsksPieces (words : List (String Global)) (n : ℕ) : Type 0 where
  pub spelled : map string_bytes words ≡ codes "check" ∷ (codes "--pieces=" ++ decimal n) ∷ []
  pub some : 1 ≤ n
  pub few : n ≤ 64
