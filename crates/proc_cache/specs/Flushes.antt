-- What a flush did.
use Rattle.std.specs.Prelude.{◌≡◌, ◌≢◌, ℕ, ◌+◌, ◌<◌, ◌==◌, Bool, false, not, nat_lt, if◌then◌else◌, List, None, Result, Ok, Err}
use Rattle.std.specs.List.{AllByRecursion}
use Rattle.fallible_list.specs.declared.list.NoMemory.{NoMemory}
use Rattle.page_bitmap.specs.Counts.{one_if}
use Rattle.sweep_laws.specs.Counts.{times}
use Rattle.sweep_laws.specs.Lists.{erase}
use Rattle.worker_log.specs.declared.Entry.{Entry}
use Rattle.worker_log.specs.declared.Entry.TheVariants.{Pushed, Swept, Gave, Read, Added}
use Rattle.worker_log.specs.Entries.{is_sweep_of, many}
use Rattle.span_laws.specs.Views.{span_at}
use Rattle.span_set.specs.declared.hand.Hand.{Hand}
use Rattle.span_set.specs.Fits.{FitsSets, no_page}
use Rattle.sweeper.specs.Work.{OnlySweeps}
use Rattle.proc_cache.specs.Cache.{Cache, slot_at}
use Rattle.proc_cache.specs.Leaves.{Leaves}
use Rattle.proc_cache.specs.Serves.{is_flushed}

-- an entry that a flush makes: it reads a word, adds swept pages, sweeps a span, and pushes it or gives it back
abbrev pub IsFlushing : Entry → Type 0
IsFlushing (Read word value) = Unit {0}
IsFlushing (Added word number) = word ≡ 2
IsFlushing (Swept s) = Unit {0}
IsFlushing (Pushed set page) = Unit {0}
IsFlushing (Gave page pages) = Unit {0}
IsFlushing _ = ⊥

-- what a flush adds to the log: such entries alone, and each span that was swept was put away
pub record IsFlush (g : ℕ) (said : List Entry) : Type 0 where
  pub flushing : AllByRecursion IsFlushing said
  pub sweeps : OnlySweeps g said

-- how often a page is cached behind the flush of a whole cache: as often as before where the processor had flushed in this cycle, and else never
abbrev pub left_in : Cache → Hand → ℕ → ℕ
left_in c old p = if is_flushed old.worker.view.generation c then times p old.worker.view.own.cached else 0

-- how often the flush of a whole cache sweeps a page: each that is cached once, where the processor had not flushed in this cycle
abbrev pub flushed_from : Cache → Hand → ℕ → ℕ
flushed_from c old p = if is_flushed old.worker.view.generation c then 0 else times p old.worker.view.own.cached

-- what the flush of a whole cache adds to the log: just the spans that were cached before the mark end are swept, each of them once
pub record IsWholeFlush (c : Cache) (old : Hand) (said : List Entry) : Type 0 where
  pub flush : IsFlush old.worker.view.generation said
  pub swept : (p : ℕ) → many (is_sweep_of p) said ≡ flushed_from c old p

-- the slots of the classes that pass a test were emptied: each page that left the worker's cache was swept once, and no other page was
pub record Flushes (test : ℕ → Bool) (c d : Cache) (old new : Hand) : Type 0 where
  pub number : d.number ≡ c.number
  pub slots : (k : ℕ) → slot_at d k ≡ (if test k then None else slot_at c k)
  pub said : List Entry
  pub flushing : AllByRecursion IsFlushing said
  pub sweeps : OnlySweeps old.worker.view.generation said
  pub sets : FitsSets old.worker.view.generation no_page said old.worker new.worker
  pub leaves : Leaves said old new
  pub swept : (p : ℕ) → times p new.worker.view.own.cached + many (is_sweep_of p) said ≡ times p old.worker.view.own.cached
  pub fresh : new.worker.view.own.fresh ≡ old.worker.view.own.fresh

-- one class was flushed; or memory ran out and nothing changed
abbrev pub FlushesClass : ℕ → Cache → Cache → Hand → Hand → Result (Unit {0}) NoMemory → Type 0
FlushesClass k c d old new (Ok done) = (d.flushed ≡ c.flushed) × Flushes (λ j. j == k) c d old new
FlushesClass k c d old new (Err none) = (d ≡ c) × (new ≡ old)

-- the processor has flushed in this cycle: where it had not before, all classes, and nothing is cached; or memory ran out after some classes, and the
-- rest is cached
abbrev pub FlushesCache : Cache → Cache → Hand → Hand → Result (Unit {0}) NoMemory → Type 0
FlushesCache c d old new (Ok done) = (d.flushed ≡ old.worker.view.generation) × Flushes (λ k. not (is_flushed old.worker.view.generation c)) c d old new
    × ((p : ℕ) → times p new.worker.view.own.cached ≡ left_in c old p)
FlushesCache c d old new (Err none) = (is_flushed old.worker.view.generation c ≡ false) × (d.flushed ≡ c.flushed) × ((m : ℕ) × (m < 136) × Flushes (λ k. nat_lt k m) c d old new)

-- the span of a body left the cache, and was swept and put where it belongs
pub record FlushesSpan (page : ℕ) (old new : Hand) : Type 0 where
  pub said : List Entry
  pub flushing : AllByRecursion IsFlushing said
  pub sweeps : OnlySweeps old.worker.view.generation said
  pub sets : FitsSets old.worker.view.generation no_page said old.worker new.worker
  pub leaves : Leaves said old new
  pub cached : new.worker.view.own.cached ≡ erase page old.worker.view.own.cached
  pub fresh : new.worker.view.own.fresh ≡ old.worker.view.own.fresh
  pub swept : (p : ℕ) → many (is_sweep_of p) said ≡ one_if (page == p)
  pub bodies : (q : ℕ) → q ≢ page → span_at q new.worker.view.own.spans ≡ span_at q old.worker.view.own.spans
