-- What some work on the lists did, whatever it answers: what its log has, what the worker holds afterwards, and which notes came.
use Rattle.std.specs.Prelude.{◌≡◌, ℕ, ◌+◌, ◌==◌, true, List, ◌++◌}
use Rattle.sweep_laws.specs.Counts.{one_if, times}
use Rattle.sweep_laws.specs.Reading.{is_swept_set}
use Rattle.worker_log.specs.declared.Entry.{Entry}
use Rattle.worker_log.specs.SetNumbers.{is_full_set, swept_set}
use Rattle.worker_log.specs.Entries.{is_partial_push, is_pop_of, is_push_of, is_sweep_of, many}
use Rattle.span_laws.specs.Calls.{Keeps, added, is_giving, is_missing, is_placing, notes_of, swept_pages}
use Rattle.span_laws.specs.Logs.{is_taking}
use Rattle.span_set.specs.declared.hand.Hand.{Hand}
use Rattle.span_set.specs.Blocks.{is_of_block}
use Rattle.span_set.specs.Fits.{FitsSets}
use Rattle.central_lists.specs.Looks.{tries}

-- no page
abbrev pub nothing : ℕ → ℕ
nothing q = 0

-- one page
abbrev pub just : ℕ → ℕ → ℕ
just page q = one_if (page == q)

-- what the log of a call has, whatever it answers: nothing is pushed to a partial set; so many entries of the unswept sets are popped; each
-- span that is swept is pushed to the swept full set of the class, but for those that are kept; the numbers that are added to word 2 are the
-- pages of the swept spans, and nothing is added to the words 3 and 4; no run is taken or missed, no span is given back and no object
-- placed; nothing is done to the block of the worker's page cache; and nothing is popped from a swept full set
pub record Says (g class tried : ℕ) (kept : ℕ → ℕ) (said : List Entry) : Type 0 where
  pub hides_nothing : many is_partial_push said ≡ 0
  pub tried_is : tries g class said ≡ tried
  pub pushes : (p : ℕ) → many (is_sweep_of p) said ≡ many (is_push_of (swept_set g class 1) p) said + kept p
  pub adds_pages : added 2 said ≡ swept_pages said
  pub spends_nothing : added 3 said ≡ 0
  pub claims_nothing : added 4 said ≡ 0
  pub takes_nothing : many is_taking said ≡ 0
  pub misses_nothing : many is_missing said ≡ 0
  pub gives_nothing : many is_giving said ≡ 0
  pub places_nothing : many is_placing said ≡ 0
  pub keeps_block : many is_of_block said ≡ 0
  pub pops_no_full : (j p : ℕ) → is_swept_set g j ≡ true → is_full_set j ≡ true → many (is_pop_of j p) said ≡ 0

-- what some work did: the log grew by what it says, which has a property besides; each span of which a sweep kept some went to the set that it fits, but
-- for those that are kept; the worker holds so many pages more, and else has what it had; and each sweep has just its note
pub record HandSearches (g class tried : ℕ) (more kept : ℕ → ℕ) (P : List Entry → Type 0) (old new : Hand) : Type 0 where
  pub said : List Entry
  pub log : new.worker.view.own.log ≡ said ++ old.worker.view.own.log
  pub says : Says g class tried kept said
  pub sets : FitsSets g kept said old.worker new.worker
  pub property : P said
  pub keeps : Keeps old.worker new.worker
  pub caching : new.worker.caching ≡ old.worker.caching
  pub held : (q : ℕ) → times q new.worker.view.own.held ≡ times q old.worker.view.own.held + more q
  pub notes : new.notes.items ≡ old.notes.items ++ notes_of g said
