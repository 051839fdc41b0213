-- What a page cache keeps.
use Rattle.std.specs.Prelude.{◌≡◌, ◌+◌, ◌%◌, ◌≤◌, IfSome, take}
use Rattle.page_cache.specs.declared.cache.PageCache.TheInside.{Inside}
use Rattle.page_cache.specs.Cache.{Cache, pages_left}

-- the notes that are used are the cuts
abbrev pub cache_of : Inside → Cache
cache_of a = record { proc = a.proc; block = a.block; cuts = take a.used a.notes }

-- Each cut took at least one page of the block, which had at most 64: so the cuts and the pages that are left are at most 64
-- together. The block's first page is a multiple of 64.
pub record IsKept (a : Inside) : Type 0 where
  pub room : a.used + pages_left a.block ≤ 64
  pub aligned : IfSome a.block (λ block. block.page % 64 ≡ 0)
