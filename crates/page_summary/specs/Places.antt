-- Where the first run of so many pages begins, as far as a level of sums shows.
use Rattle.std.specs.Prelude.{ℕ, ◌+◌, ◌*◌, ◌<◌, ◌≤◌, Bool}
use Rattle.page_summary.specs.Runs.{IsRunIn, IsFirstRunIn, HasNoRunIn}
use Rattle.page_summary.specs.declared.search.Place.{Place}
use Rattle.page_summary.specs.declared.search.Place.TheVariants.{Page, Entry, Nowhere}

-- The pages from `base` on have a run of n pages among the next `pages` ones, and no run of n pages begins below them.
pub record IsInside (map : ℕ → Bool) (region base pages n : ℕ) : Type 0 where
  pub run : (q : ℕ) × IsRunIn (λ p. map (base + p)) pages q n
  pub none : (q : ℕ) → q < base → ¬ IsRunIn map region q n

-- The first run of n pages begins at the page, or lies inside the entry's pages, or there is none, where each entry of the
-- level has `pages` pages.
abbrev pub IsPlaced : (ℕ → Bool) → ℕ → ℕ → ℕ → Place → Type 0
IsPlaced map region pages n (Page page) = IsFirstRunIn map region n page
IsPlaced map region pages n (Entry entry) = IsInside map region (pages * entry) pages n
IsPlaced map region pages n Nowhere = HasNoRunIn map region n

-- A page lies inside the pages of so many entries, and an entry is one of them.
abbrev pub IsWithin : ℕ → ℕ → Place → Type 0
IsWithin pages count (Page page) = page < pages * count
IsWithin pages count (Entry entry) = entry < count
IsWithin pages count Nowhere = Unit {0}

-- The eight entries that cover an entry's pages are among so many.
abbrev pub HasBlock : ℕ → Place → Type 0
HasBlock count (Page page) = Unit {0}
HasBlock count (Entry entry) = 8 * entry + 8 ≤ count
HasBlock count Nowhere = Unit {0}
