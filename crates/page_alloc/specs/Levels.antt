-- Five levels of sums over the free pages of a region of so many chunks.
use Rattle.std.specs.Prelude.{◌≡◌, ℕ, ◌+◌, ◌*◌, ◌/◌, ◌^◌, Bool, length}
use Rattle.page_summary.specs.Sums.{IsSum, AreSums, AreSumsBut}
use Rattle.page_alloc.specs.declared.levels.Levels.{Levels}

-- Each level below the top ends with the block of eight entries that has the region's last page.
pub record AreCut (chunks : ℕ) (levels : Levels) : Type 0 where
  pub entries_1 : length levels.level_1.items ≡ 8
  pub entries_2 : length levels.level_2.items ≡ 8 * ((chunks + 511) / 512)
  pub entries_3 : length levels.level_3.items ≡ 8 * ((chunks + 63) / 64)
  pub entries_4 : length levels.level_4.items ≡ 8 * ((chunks + 7) / 8)

-- Each entry of each level is the sum of the pages that it covers: 2^21, 2^18, 2^15, 2^12 and 2^9 pages an entry.
pub record AreRight (free : ℕ → Bool) (chunks : ℕ) (levels : Levels) : Type 0 where
  pub cut : AreCut chunks levels
  pub top : IsSum free (2 ^ 21) levels.top
  pub sums_1 : AreSums free (2 ^ 18) levels.level_1.items
  pub sums_2 : AreSums free (2 ^ 15) levels.level_2.items
  pub sums_3 : AreSums free (2 ^ 12) levels.level_3.items
  pub sums_4 : AreSums free (2 ^ 9) levels.level_4.items

-- Each entry is right but for the one at the top and those that cover one of the chunks from `first` to `last`.
pub record AreRightBut (free : ℕ → Bool) (chunks : ℕ) (levels : Levels) (first last : ℕ) : Type 0 where
  pub cut : AreCut chunks levels
  pub sums_1 : AreSumsBut free (2 ^ 18) levels.level_1.items (first / 512) (last / 512 + 1)
  pub sums_2 : AreSumsBut free (2 ^ 15) levels.level_2.items (first / 64) (last / 64 + 1)
  pub sums_3 : AreSumsBut free (2 ^ 12) levels.level_3.items (first / 8) (last / 8 + 1)
  pub sums_4 : AreSumsBut free (2 ^ 9) levels.level_4.items first (last + 1)
