-- Up to where pages were used.
use Rattle.std.specs.Prelude.{ℕ, ◌≡◌, ◌≤◌, List, length, slice_index}

-- the words from a page of the region, or its end, on are all 0
pub record EndsAt (end : ℕ) (words : List ℕ) : Type 0 where
  pub most : end ≤ length words
  pub zero : (page : ℕ) → end ≤ page → slice_index words page ≡ 0
