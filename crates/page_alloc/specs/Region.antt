-- What a list of chunks shows of the pages of a region, and runs in a map of a region. A map says of each page whether it
-- has it.
use Rattle.std.specs.Prelude.{◌≡◌, ℕ, ◌+◌, ◌-◌, ◌/◌, ◌%◌, ◌<◌, ◌≤◌, Bool, true, false, ◌&&◌, not, nat_lt, if◌then◌else◌, List, [], ◌∷◌, ◌⊎◌}
use Rattle.page_bitmap.specs.declared.chunk.Chunk.{Chunk}
use Rattle.page_bitmap.specs.declared.bitmap.Bitmap.{Bitmap}
use Rattle.page_bitmap.specs.Pages.{is_free, is_scavenged}
use Rattle.page_bitmap.specs.Words.{has_page}
pub use Rattle.page_summary.specs.Runs.{IsRunIn, HasNoRunIn, IsFirstRunIn, IsLongestRunIn}

-- The map of a region that is laid out in parts of 512 pages, from the map of each part.
abbrev pub over : {X : Type 0} → (X → ℕ → Bool) → List X → ℕ → Bool
over map [] p = false
over map (part ∷ parts) p = if nat_lt p 512 then map part p else over map parts (p - 512)

-- The pages of a region that are free.
abbrev pub free_in : List Chunk → ℕ → Bool
free_in chunks = over is_free chunks

-- The pages of a region that are scavenged.
abbrev pub scavenged_in : List Chunk → ℕ → Bool
scavenged_in chunks = over is_scavenged chunks

-- The pages of a region that are free and unscavenged.
abbrev pub loose_in : List Chunk → ℕ → Bool
loose_in chunks p = free_in chunks p && not (scavenged_in chunks p)

-- The pages of one bitmap.
abbrev pub pages_of_map : Bitmap → ℕ → Bool
pages_of_map map = has_page map.words

-- The pages of a region that bitmaps of 512 pages each have.
abbrev pub pages_in : List Bitmap → ℕ → Bool
pages_in maps = over pages_of_map maps

-- The page is the last one of a map, up to a limit.
pub record IsLastIn (map : ℕ → Bool) (limit page : ℕ) : Type 0 where
  pub low : page ≤ limit
  pub has : map page ≡ true
  pub last : (p : ℕ) → page < p → p ≤ limit → map p ≡ false

-- The run ends with the map's highest page, and goes on downwards in its chunk as long as the map has the next page, but is
-- of at most 64 pages.
pub record IsTopRunIn (map : ℕ → Bool) (region page n : ℕ) : Type 0 where
  pub run : IsRunIn map region page n
  pub some : 1 ≤ n
  pub few : n ≤ 64
  pub highest : (p : ℕ) → page + n ≤ p → p < region → map p ≡ false
  pub chunk : page / 512 ≡ (page + n - 1) / 512
  pub longest : (n ≡ 64) ⊎ (page % 512 ≡ 0) ⊎ (map (page - 1) ≡ false)
