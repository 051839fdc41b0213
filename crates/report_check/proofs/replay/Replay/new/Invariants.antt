use Rattle.std.proofs.Common.{◌≡◌, ◌<◌, ℕ, length, None}
use Rattle.page_cache.specs.Cache.{only}
use Rattle.report_check.specs.Replays.{cache_at}
use Rattle.report_check.proofs.replay.Replay.new.Given as goal

-- so many processors have an empty page cache
abbrev pub invariant-loop-proc : goal.invariant-loop-proc
invariant-loop-proc l = record {
  count : length l.caches.items ≡ l.proc;
  empty : (q : ℕ) → q < l.proc → cache_at l.caches.items q ≡ only q None;
}
