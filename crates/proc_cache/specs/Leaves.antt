-- What a call leaves of a hand, and what it adds to the log. A log has its newest entry first.
use Rattle.std.specs.Prelude.{◌≡◌, ℕ, true, List, [], ◌++◌, None}
use Rattle.sweep_laws.specs.Counts.{times}
use Rattle.sweep_laws.specs.Lists.{has}
use Rattle.sweep_laws.specs.Reading.{is_swept_set}
use Rattle.worker_log.specs.declared.Entry.{Entry}
use Rattle.worker_log.specs.SetNumbers.{is_full_set}
use Rattle.worker_log.specs.Entries.{is_pop_of, many}
use Rattle.span_laws.specs.Asks.{IsIdle}
use Rattle.span_laws.specs.Calls.{added, is_missing, is_placing, notes_of, swept_pages}
use Rattle.span_laws.specs.Logs.{is_taking}
use Rattle.span_laws.specs.Views.{acts, span_at}
use Rattle.span_set.specs.declared.hand.Hand.{Hand}
use Rattle.span_set.specs.Fits.{FitsSets}

-- these entries came into the log; nothing but the worker's own part changed, and it sweeps and holds nothing, has popped nothing and claims nothing;
-- the numbers that were added to word 2 are the pages of the swept spans, and each sweep has just its note
pub record Leaves (said : List Entry) (old new : Hand) : Type 0 where
  pub log : new.worker.view.own.log ≡ said ++ old.worker.view.own.log
  pub away : new.worker.away ≡ old.worker.away
  pub table : new.worker.table ≡ old.worker.table
  pub number : new.worker.number ≡ old.worker.number
  pub caching : new.worker.caching ≡ old.worker.caching
  pub view : new.worker.view ≡ acts old.worker.view new.worker.view.own
  pub reset : new.worker.view.own.reset ≡ old.worker.view.own.reset
  pub idle : IsIdle new.worker.view.own
  pub pages : added 2 said ≡ swept_pages said
  pub notes : new.notes.items ≡ old.notes.items ++ notes_of old.worker.view.generation said

-- the same, but the worker holds these pages; its cached spans are what they were, nothing was popped from a swept full set, and each other span of
-- which a sweep kept some went to the set that it fits
pub record Holds (pages : List ℕ) (said : List Entry) (old new : Hand) : Type 0 where
  pub log : new.worker.view.own.log ≡ said ++ old.worker.view.own.log
  pub away : new.worker.away ≡ old.worker.away
  pub table : new.worker.table ≡ old.worker.table
  pub number : new.worker.number ≡ old.worker.number
  pub caching : new.worker.caching ≡ old.worker.caching
  pub view : new.worker.view ≡ acts old.worker.view new.worker.view.own
  pub reset : new.worker.view.own.reset ≡ old.worker.view.own.reset
  pub sweeping : new.worker.view.own.sweeping ≡ []
  pub held : new.worker.view.own.held ≡ pages
  pub popped : new.worker.view.own.popped ≡ []
  pub claimed : new.worker.view.own.claimed ≡ None
  pub cached : new.worker.view.own.cached ≡ old.worker.view.own.cached
  pub fresh : new.worker.view.own.fresh ≡ old.worker.view.own.fresh
  pub bodies : (q : ℕ) → has q old.worker.view.own.cached ≡ true → span_at q new.worker.view.own.spans ≡ span_at q old.worker.view.own.spans
  pub unpopped : (j p : ℕ) → is_swept_set old.worker.view.generation j ≡ true → is_full_set j ≡ true → many (is_pop_of j p) said ≡ 0
  pub sets : FitsSets old.worker.view.generation (λ q. times q pages) said old.worker new.worker
  pub swept : added 2 said ≡ swept_pages said
  pub notes : new.notes.items ≡ old.notes.items ++ notes_of old.worker.view.generation said

-- so many bytes are added to the spent ones, and so many runs taken, requests refused and objects placed
pub record Sums (spent took missed placed : ℕ) (said : List Entry) : Type 0 where
  pub spends : added 3 said ≡ spent
  pub takes : many is_taking said ≡ took
  pub misses : many is_missing said ≡ missed
  pub places : many is_placing said ≡ placed
