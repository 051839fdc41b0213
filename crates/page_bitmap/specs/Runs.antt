-- Runs of pages in a map of a chunk. A map says of each page of the chunk, 0 to 511, whether it has it.
use Rattle.std.specs.Prelude.{◌≡◌, ℕ, ◌+◌, ◌-◌, ◌<◌, ◌≤◌, Bool, true, false}

-- the n pages from `page` on are pages of the chunk, and the map has each of them
pub record IsRun (map : ℕ → Bool) (page n : ℕ) : Type 0 where
  pub within : page + n ≤ 512
  pub each : (p : ℕ) → page ≤ p → p < page + n → map p ≡ true

-- no run of n pages begins at or above `from`
abbrev pub HasNoRun : (ℕ → Bool) → ℕ → ℕ → Type 0
HasNoRun map n from = (page : ℕ) → from ≤ page → ¬ IsRun map page n

-- `page` is the least page at or above `from` that begins a run of n pages
pub record IsFirstRun (map : ℕ → Bool) (n from page : ℕ) : Type 0 where
  pub above : from ≤ page
  pub run : IsRun map page n
  pub least : (other : ℕ) → from ≤ other → other < page → ¬ IsRun map other n

-- the map has no page
abbrev pub IsEmpty : (ℕ → Bool) → Type 0
IsEmpty map = (page : ℕ) → map page ≡ false

-- the n pages from `page` on end with the map's highest page, and go on downwards as long as the map has
-- the next page, but are at most `limit` pages
pub record IsTopRun (map : ℕ → Bool) (limit page n : ℕ) : Type 0 where
  pub some : 1 ≤ n
  pub limited : n ≤ limit
  pub run : IsRun map page n
  pub highest : (p : ℕ) → page + n ≤ p → map p ≡ false
  pub whole : n < limit → 0 < page → map (page - 1) ≡ false

-- the n lowest pages are a run, which the next page ends
pub record IsFrontRun (map : ℕ → Bool) (n : ℕ) : Type 0 where
  pub run : IsRun map 0 n
  pub stops : n < 512 → map n ≡ false

-- the n highest pages are a run, which the page below them ends
pub record IsBackRun (map : ℕ → Bool) (n : ℕ) : Type 0 where
  pub run : IsRun map (512 - n) n
  pub stops : n < 512 → map (511 - n) ≡ false

-- some run has n pages, and none has more
pub record IsLongestRun (map : ℕ → Bool) (n : ℕ) : Type 0 where
  pub run : (page : ℕ) × IsRun map page n
  pub longest : (page m : ℕ) → IsRun map page m → m ≤ n

-- the n pages from `page` on are now all in the map, or all out of it, and every other page is as it was
pub record SetsRun (old new : ℕ → Bool) (page n : ℕ) (value : Bool) : Type 0 where
  pub inside : (p : ℕ) → page ≤ p → p < page + n → new p ≡ value
  pub below : (p : ℕ) → p < page → new p ≡ old p
  pub above : (p : ℕ) → page + n ≤ p → new p ≡ old p
