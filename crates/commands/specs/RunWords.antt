-- Words by which the options of `run` are told.
use Rattle.std.specs.Prelude.{◌≡◌, ℕ, ◌≤◌, List, ◌++◌, codes}
use Rattle.commands.specs.Options.{digit}

-- a digit from 0 to 4
abbrev pub IsDigit : List ℕ → Type 0
IsDigit word = (n : ℕ) × (n ≤ 4) × (word ≡ digit n)

-- one word that asks for a number of background sweepers
abbrev pub IsJoined : List ℕ → Type 0
IsJoined word = (n : ℕ) × (n ≤ 4) × (word ≡ codes "--background=" ++ digit n)

-- two words that do
abbrev pub IsSplit : List ℕ → List ℕ → Type 0
IsSplit option number = (option ≡ codes "--background") × IsDigit number
