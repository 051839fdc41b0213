-- Which words the program takes.
use Rattle.std.specs.Prelude.{◌≡◌, ℕ, ◌^◌, ◌<◌, ◌≤◌, Bool, List, [], ◌∷◌, map, codes, decimal, String, string_bytes}
use Rattle.std.specs.declared.alloc.Global.{Global}
use Rattle.commands.specs.Options.{AreOfRun, IsRun as AreRun}

-- the words are this one word
abbrev pub IsWord : List ℕ → List (String Global) → Type 0
IsWord word words = map string_bytes words ≡ word ∷ []

-- `run` with options that ask for so many background sweepers, and for the profile of each mark end or of the last
abbrev pub IsRunWith : List (String Global) → ℕ → Bool → Type 0
IsRunWith words background each = AreRun (map string_bytes words) background each

-- `run` with options
abbrev pub IsRun : List (String Global) → Type 0
IsRun words = AreOfRun (map string_bytes words)

-- the one word `classes`
abbrev pub IsClasses : List (String Global) → Type 0
IsClasses words = IsWord (codes "classes") words

-- a word, a seed below 2^64 and a number of objects from 1 to 1000000, in decimal digits
pub record AsksForMade (word : List ℕ) (words : List (String Global)) (seed objects : ℕ) : Type 0 where
  pub spelled : map string_bytes words ≡ word ∷ decimal seed ∷ decimal objects ∷ []
  pub seed_limit : seed < 2 ^ 64
  pub some : 1 ≤ objects
  pub few : objects ≤ 1000000

-- `gen` with a seed and a number of objects
abbrev pub IsGen : List (String Global) → ℕ → ℕ → Type 0
IsGen words seed objects = AsksForMade (codes "gen") words seed objects

-- `demo` with a seed and a number of objects
abbrev pub IsDemo : List (String Global) → ℕ → ℕ → Type 0
IsDemo words seed objects = AsksForMade (codes "demo") words seed objects

-- the one word `check`
abbrev pub IsCheck : List (String Global) → Type 0
IsCheck words = IsWord (codes "check") words

-- the one word `heap`
abbrev pub IsHeap : List (String Global) → Type 0
IsHeap words = IsWord (codes "heap") words
