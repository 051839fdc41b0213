-- Runs of free pages: the first that fits, none, the longest, and the one that a scavenging step releases. A past is a journal
-- with its newest line first, and a region is pages 0 to region - 1.
use Rattle.std.specs.Prelude.{◌≡◌, ℕ, ◌+◌, ◌-◌, ◌/◌, ◌%◌, ◌<◌, ◌≤◌, true, List, ◌⊎◌}
use Rattle.page_bitmap.specs.declared.line.Line.{Line}
use Rattle.size_classes.specs.Classes.{pages_of, IsClass}
use Rattle.page_alloc.specs.Owners.{unscavenged, IsUnheld}

-- The run lies inside the region, and all its pages are free.
pub record IsFree (region : ℕ) (past : List Line) (page pages : ℕ) : Type 0 where
  pub inside : page + pages ≤ region
  pub free : (p : ℕ) → page ≤ p → p < page + pages → IsUnheld past p

-- First fit: the least page, trying each in turn, from which so many pages are free.
pub record IsFirstFit (region : ℕ) (past : List Line) (page pages : ℕ) : Type 0 where
  pub here : IsFree region past page pages
  pub least : (q : ℕ) → q < page → ¬ IsFree region past q pages

-- From no page are so many pages free.
abbrev pub HasNoRun : ℕ → List Line → ℕ → Type 0
HasNoRun region past pages = (page : ℕ) → ¬ IsFree region past page pages

-- A run of so many pages is free somewhere, and no longer one.
pub record IsLongestFree (region : ℕ) (past : List Line) (pages : ℕ) : Type 0 where
  pub here : (page : ℕ) × IsFree region past page pages
  pub longest : HasNoRun region past (pages + 1)

-- A small span has the pages of its size class, and a large one (span classes 0 and 1) at least 5.
abbrev pub IsSpanSize : ℕ → ℕ → Type 0
IsSpanSize class pages = (2 ≤ class → IsClass (class / 2) × (pages ≡ pages_of (class / 2))) × (class < 2 → 5 ≤ pages)

-- A page is loose where it is free and unscavenged.
abbrev pub IsLoose : List Line → ℕ → Type 0
IsLoose past p = IsUnheld past p × (unscavenged past p ≡ true)

-- The run that a scavenging step releases: the highest loose page of the region, with the loose pages directly
-- below it in its chunk of 512 pages, at most 64 in all.
pub record IsScavengeRun (region : ℕ) (past : List Line) (page pages : ℕ) : Type 0 where
  pub inside : page + pages ≤ region
  pub some : 1 ≤ pages
  pub few : pages ≤ 64
  pub loose : (p : ℕ) → page ≤ p → p < page + pages → IsLoose past p
  pub highest : (p : ℕ) → page + pages ≤ p → p < region → ¬ IsLoose past p
  pub chunk : page / 512 ≡ (page + pages - 1) / 512
  pub longest : (pages ≡ 64) ⊎ (page % 512 ≡ 0) ⊎ (¬ IsLoose past (page - 1))
