-- What a search that goes over the words of a map knows at the border between two words.
use Rattle.std.specs.Prelude.{◌≡◌, ℕ, ◌+◌, ◌-◌, ◌<◌, ◌≤◌, Bool, true, false, ◌&&◌, nat_le}
use Rattle.page_bitmap.specs.Words.{has_bit}
use Rattle.page_bitmap.specs.Runs.{IsRun, IsFirstRun}
use Rattle.page_bitmap.specs.declared.search.Scan.{Scan}
use Rattle.page_bitmap.specs.declared.search.Scan.TheVariants.{Found, Reaches}

-- the map's pages from `from` on
abbrev pub from_on : (ℕ → Bool) → ℕ → ℕ → Bool
from_on map from page = nat_le from page && map page

-- the word's places are the 64 pages from `base` on
pub record IsWordOf (map : ℕ → Bool) (base word : ℕ) : Type 0 where
  pub each : (k : ℕ) → k < 64 → map (base + k) ≡ has_bit word k

-- The pages from `begin` up to the border are in the map. They are fewer than n, and no run of n pages begins
-- below them.
pub record IsSearched (map : ℕ → Bool) (n border begin : ℕ) : Type 0 where
  pub order : begin ≤ border
  pub reaches : (p : ℕ) → begin ≤ p → p < border → map p ≡ true
  pub passed : (page : ℕ) → page < begin → ¬ IsRun map page n
  pub short : border < begin + n

-- what a search for n pages found, or else knows at the border
abbrev pub Scans : (ℕ → Bool) → ℕ → ℕ → Scan → Type 0
Scans map n border (Found page) = IsFirstRun map n 0 page
Scans map n border (Reaches begin) = IsSearched map n border begin

-- The pages from `begin` up to the border are in the map, and the page below them isn't. The longest run that
-- ends at the border or below it has so many pages.
pub record IsMeasured (map : ℕ → Bool) (border begin longest : ℕ) : Type 0 where
  pub order : begin ≤ border
  pub reaches : (p : ℕ) → begin ≤ p → p < border → map p ≡ true
  pub closed : 0 < begin → map (begin - 1) ≡ false
  pub run : (page : ℕ) × IsRun map page longest
  pub longest_of : (page m : ℕ) → IsRun map page m → page + m ≤ border → m ≤ longest
