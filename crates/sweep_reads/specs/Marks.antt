-- Marks that rise, those of one page side by side.
use Rattle.std.specs.Prelude.{◌<◌, ◌≤◌, ℕ, List, length, slice_index_or}

-- n marks stand before those of a page and of the pages behind it
pub record IsFrom (n page : ℕ) (marks : List (ℕ × ℕ)) : Type 0 where
  pub bound : n ≤ length marks
  pub before : (k : ℕ) (d : ℕ × ℕ) → k < n → (slice_index_or marks k d).0 < page
  pub behind : (k : ℕ) (d : ℕ × ℕ) → n ≤ k → k < length marks → page ≤ (slice_index_or marks k d).0
