-- A block as a set of pages.
use Rattle.std.specs.Prelude.{ℕ, ◌+◌, ◌-◌, Bool, ◌&&◌, nat_le, nat_lt}
use Rattle.page_cache.specs.declared.block.Block.{Block}
use Rattle.page_cache.specs.Words.{has_bit}
use Rattle.page_cache.specs.Counts.{count_below}

-- the page is one of the 64 from the block's first on, and its bit is 1
abbrev pub has_page : Block → ℕ → Bool
has_page block page = nat_le block.page page && (nat_lt page (block.page + 64) && has_bit block.free (page - block.page))

-- so many of its 64 pages the block has
abbrev pub page_count : Block → ℕ
page_count block = count_below 64 (λ i. has_page block (block.page + i))
