-- Which words are those of `run`, and what their options ask for.
use Rattle.std.specs.Prelude.{◌≡◌, ℕ, ◌≤◌, List, [], ◌∷◌, ◌++◌, Bool, true, false, ◌⊎◌, ◌+◌, codes}

-- a number below 10 as a word
abbrev pub digit : ℕ → List ℕ
digit n = (48 + n) ∷ []

-- the one word or the two that ask for this number of background sweepers
pub record IsNumber (words : List (List ℕ)) (background : ℕ) : Type 0 where
  pub few : background ≤ 4
  pub spelled : (words ≡ (codes "--background=" ++ digit background) ∷ []) ⊎ (words ≡ codes "--background" ∷ digit background ∷ [])

-- the word that asks for the profile of each mark end
abbrev pub each_word : List ℕ
each_word = codes "--each"

-- that word before or behind others
abbrev pub HasEach : (words others : List (List ℕ)) → Type 0
HasEach words others = (words ≡ each_word ∷ others) ⊎ (words ≡ others ++ each_word ∷ [])

-- The words are options of `run`, each at most once and in any order. They ask for so many background sweepers, 1 where none
-- says so, and for the profile of each mark end or of the last alone.
abbrev pub AreOptions : List (List ℕ) → ℕ → Bool → Type 0
AreOptions words background each =
    ((words ≡ []) × (background ≡ 1) × (each ≡ false))
    ⊎ ((words ≡ each_word ∷ []) × (background ≡ 1) × (each ≡ true))
    ⊎ (IsNumber words background × (each ≡ false))
    ⊎ ((number : List (List ℕ)) × IsNumber number background × HasEach words number × (each ≡ true))

-- The words are options of `run`, whatever they ask for.
abbrev pub AreKnown : List (List ℕ) → Type 0
AreKnown words = (background : ℕ) × (each : Bool) × AreOptions words background each

-- The words are `run` and options that ask for this.
abbrev pub IsRun : List (List ℕ) → ℕ → Bool → Type 0
IsRun words background each = (options : List (List ℕ)) × (words ≡ codes "run" ∷ options) × AreOptions options background each

-- The words are `run` and options.
abbrev pub AreOfRun : List (List ℕ) → Type 0
AreOfRun words = (background : ℕ) × (each : Bool) × IsRun words background each
