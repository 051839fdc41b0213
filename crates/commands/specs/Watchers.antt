-- The words that ask for watchers.
use Rattle.std.specs.Prelude.{◌≡◌, ℕ, ◌≤◌, List, [], ◌∷◌, map, codes, decimal, String, string_bytes}
use Rattle.std.specs.declared.alloc.Global.{Global}

-- `watch` and a number from 1 to 4, in decimal digits
pub record AsksWatchers (words : List (String Global)) (n : ℕ) : Type 0 where
  pub spelled : map string_bytes words ≡ codes "watch" ∷ decimal n ∷ []
  pub some : 1 ≤ n
  pub few : n ≤ 4
