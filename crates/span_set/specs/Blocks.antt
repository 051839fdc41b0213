-- What contracts say of the block of a worker's page cache.
use Rattle.std.specs.Prelude.{◌≡◌, Bool, true, false, Some, None}
use Rattle.page_cache.specs.Cache.{Cache}
use Rattle.worker_log.specs.declared.Entry.{Entry}
use Rattle.worker_log.specs.declared.Entry.TheVariants.{Pulled, NoPage, Cut, NoCut, Settled}
use Rattle.span_laws.specs.Views.{Seen}

-- the entry is of a page cache: a block was pulled or settled, or no page was free to pull; a span was cut out of the block, or the block had no run for it
abbrev pub is_of_block : Entry → Bool
is_of_block (Pulled number line) = true
is_of_block NoPage = true
is_of_block (Cut page pages class) = true
is_of_block (NoCut pages left) = true
is_of_block (Settled number) = true
is_of_block _ = false

-- the worker has no block: it has no page cache, or an empty one
abbrev pub HasNoOwnBlock : Seen → Type 0
HasNoOwnBlock w = (k : Cache) → w.view.own.cache ≡ Some k → k.block ≡ None
