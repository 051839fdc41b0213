-- A number for each index of each life.
use Rattle.std.specs.Prelude.{◌≡◌, ◌≢◌, ℕ, max, List, [], length, slice_index_or, Option, Some, None, ◌⊎◌}
use Rattle.std.specs.List.{slice_get}
use Rattle.std.specs.Global.{Vec}
use Rattle.report_check.specs.declared.tops.Tops.{Tops}

-- How many lives there are.
abbrev pub lives_of : Tops → ℕ
lives_of tops = length tops.rows.items

-- The numbers of a row, if there is one.
abbrev pub numbers_of : Option (Vec ℕ) → List ℕ
numbers_of None = []
numbers_of (Some row) = row.items

-- The number for an index of a life; 0 where nothing was noted.
abbrev pub top_at : Tops → ℕ → ℕ → ℕ
top_at tops life index = slice_index_or (numbers_of (slice_get tops.rows.items life)) index 0

-- Nothing is noted.
abbrev pub AreNoTops : Tops → Type 0
AreNoTops tops = (life index : ℕ) → top_at tops life index ≡ 0

-- The entry of a list is raised to the number, and the others are as they were.
pub record IsRaisedIn (old new : List ℕ) (index value : ℕ) : Type 0 where
  pub here : slice_index_or new index 0 ≡ max (slice_index_or old index 0) value
  pub others : (k : ℕ) → k ≢ index → slice_index_or new k 0 ≡ slice_index_or old k 0

-- The number for an index of a life is raised, and the others are as they were.
pub record IsRaised (old new : Tops) (life index value : ℕ) : Type 0 where
  pub lives : lives_of new ≡ lives_of old
  pub here : top_at new life index ≡ max (top_at old life index) value
  pub others : (n k : ℕ) → (n ≢ life) ⊎ (k ≢ index) → top_at new n k ≡ top_at old n k
