-- What comes first of a processor's events in a cycle: the flush of its cache.
use Rattle.std.specs.Prelude.{◌≡◌, ◌≤◌, List, ◌++◌}
use Rattle.page_alloc.specs.Lists.{In}
use Rattle.trace_reader.specs.declared.trace.Event.{Event}
use Rattle.worker_log.specs.declared.Entry.{Entry}
use Rattle.span_set.specs.declared.hand.Hand.{Hand}
use Rattle.proc_cache.specs.Cache.{Cache}
use Rattle.proc_cache.specs.Flushes.{IsWholeFlush}

-- The processor has flushed in this cycle, and what its worker's log got begins with the flush of its whole cache: before all else each span that was
-- cached before the mark end was swept, where it had not flushed yet.
pub record FlushesFirst (c d : Cache) (old new : Hand) : Type 0 where
  pub flushed : d.flushed ≡ old.worker.view.generation
  pub flush : List Entry
  pub rest : List Entry
  pub log : new.worker.view.own.log ≡ rest ++ (flush ++ old.worker.view.own.log)
  pub whole : IsWholeFlush c old flush

-- It does so where one of the events has a size above 0.
abbrev pub FlushesFor : List Event → Cache → Cache → Hand → Hand → Type 0
FlushesFor events c d old new = (e : Event) → In e events → 1 ≤ e.size → FlushesFirst c d old new
