-- Runs in a map of pages, which says of each page whether it has it, and the sum of a map's first pages.
use Rattle.std.specs.Prelude.{◌≡◌, ℕ, ◌+◌, ◌-◌, ◌<◌, ◌≤◌, Bool, true, false}

-- The run lies inside the region, and the map has each of its pages.
pub record IsRunIn (map : ℕ → Bool) (region page n : ℕ) : Type 0 where
  pub inside : page + n ≤ region
  pub each : (p : ℕ) → page ≤ p → p < page + n → map p ≡ true

-- The map has no run of n pages.
abbrev pub HasNoRunIn : (ℕ → Bool) → ℕ → ℕ → Type 0
HasNoRunIn map region n = (page : ℕ) → ¬ IsRunIn map region page n

-- The page is the least one that begins a run of n pages.
pub record IsFirstRunIn (map : ℕ → Bool) (region n page : ℕ) : Type 0 where
  pub here : IsRunIn map region page n
  pub least : (q : ℕ) → q < page → ¬ IsRunIn map region q n

-- Some run has n pages, and none has more.
pub record IsLongestRunIn (map : ℕ → Bool) (region n : ℕ) : Type 0 where
  pub here : (page : ℕ) × IsRunIn map region page n
  pub longest : HasNoRunIn map region (n + 1)

-- The sum of a map's first `pages` pages: the run at their front, which the next page ends; their longest run; and the run
-- at their back, which the page below it ends.
pub record IsSumOf (map : ℕ → Bool) (pages start max end : ℕ) : Type 0 where
  pub front : IsRunIn map pages 0 start
  pub front_stops : start < pages → map start ≡ false
  pub longest : (page : ℕ) × IsRunIn map pages page max
  pub most : (page n : ℕ) → IsRunIn map pages page n → n ≤ max
  pub back : IsRunIn map pages (pages - end) end
  pub back_stops : end < pages → map (pages - end - 1) ≡ false

-- Three numbers that the sum of so many pages can be, as far as they show: the longest run is the longest of the three
-- and has no more pages than there are, and where it has all of them, so have the others.
pub record Fits (pages start max end : ℕ) : Type 0 where
  pub start_within : start ≤ max
  pub end_within : end ≤ max
  pub max_within : max ≤ pages
  pub whole : max ≡ pages → (start ≡ pages) × (end ≡ pages)
