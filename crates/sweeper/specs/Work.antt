-- What the calls of this crate leave of a hand, and what the log of such a call has.
use Rattle.std.specs.Prelude.{◌≡◌, ℕ, ◌<◌, ◌≤◌, true, false, List, [], ◌∷◌, ◌++◌, map, reverse}
use Rattle.span_state.specs.declared.sweep.SweepNote.{SweepNote}
use Rattle.sweep_laws.specs.Reading.{is_swept_set}
use Rattle.worker_log.specs.declared.Entry.{Entry}
use Rattle.worker_log.specs.declared.Sweeping.{Sweeping}
use Rattle.worker_log.specs.Logs.{sweepings}
use Rattle.worker_log.specs.Entries.{is_placing_in, is_pop_of, is_seen_empty, many}
use Rattle.span_laws.specs.TakeAnswers.{cycle_at}
use Rattle.span_laws.specs.Asks.{mine}
use Rattle.span_laws.specs.Logs.{is_taking}
use Rattle.span_laws.specs.Views.{Seen, span_at}
use Rattle.span_set.specs.declared.hand.Hand.{Hand}
use Rattle.span_set.specs.Blocks.{is_of_block}
use Rattle.span_set.specs.Fits.{FitsSets, no_page}
use Rattle.span_laws.specs.Calls.{is_missing, is_placing, number_added, pages_swept}
use Rattle.sweep_laws.specs.Counts.{total}
use Rattle.sweeper.specs.Entries.{is_added, is_bare_cut, is_emptying_of, is_giving_of, is_keeping_of, is_look_of, is_pulling, is_push_at, is_read}

-- the note of a sweep in a cycle
abbrev pub note_by : ℕ → Sweeping → SweepNote
note_by cycle s = record { cycle = cycle; page = s.page; kept = s.kept; freed = s.freed }

-- the notes of the sweeps that a log has, the oldest first
abbrev pub notes_of : ℕ → List Entry → List SweepNote
notes_of cycle said = map (note_by cycle) (reverse (sweepings said))

-- No swept set is looked at.
abbrev pub LooksAtNone : ℕ → List Entry → Type 0
LooksAtNone g said = (j : ℕ) → is_swept_set g j ≡ true → many (is_look_of j) said ≡ 0

-- Nothing is placed and no bytes are spent; the numbers that are added to the swept pages sum to the pages of the spans that are swept; a
-- span is given back for each sweep that keeps nothing of it, and pushed for each that keeps some; and no swept set is popped or looked at.
pub record OnlySweeps (g : ℕ) (said : List Entry) : Type 0 where
  pub unplaced : many is_placing said ≡ 0
  pub unspent : many (is_added 3) said ≡ 0
  pub swept_pages : total (number_added 2) said ≡ total pages_swept said
  pub given : (p : ℕ) → many (is_giving_of p) said ≡ many (is_emptying_of p) said
  pub pushed : (p : ℕ) → many (is_push_at p) said ≡ many (is_keeping_of p) said
  pub unpopped : (j p : ℕ) → is_swept_set g j ≡ true → many (is_pop_of j p) said ≡ 0
  pub unlooked : LooksAtNone g said
  pub untouched : (p : ℕ) → many (is_placing_in p) said ≡ 0

-- What a worker has stays: all that others agree on, whether it has a page cache, what it has cached, sweeps and claims, and the bodies of the spans that it had.
pub record Stays (old new : Seen) : Type 0 where
  pub away : new.away ≡ old.away
  pub table : new.table ≡ old.table
  pub number : new.number ≡ old.number
  pub caching : new.caching ≡ old.caching
  pub region : new.view.region ≡ old.view.region
  pub goal : new.view.goal ≡ old.view.goal
  pub procs : new.view.procs ≡ old.view.procs
  pub generation : new.view.generation ≡ old.view.generation
  pub marks : new.view.marks ≡ old.view.marks
  pub before : new.view.before ≡ old.view.before
  pub carried : new.view.carried ≡ old.view.carried
  pub parts : new.view.parts ≡ old.view.parts
  pub sweeping : new.view.own.sweeping ≡ old.view.own.sweeping
  pub cached : new.view.own.cached ≡ old.view.own.cached
  pub claimed : new.view.own.claimed ≡ old.view.own.claimed
  pub fresh : new.view.own.fresh ≡ old.view.own.fresh
  pub reset : new.view.own.reset ≡ old.view.own.reset
  pub bodies : (q : ℕ) → 0 < mine q old.view.own → span_at q new.view.own.spans ≡ span_at q old.view.own.spans

-- A worker's steps added these entries to the log, and it holds these pages more; each span of which a sweep kept some went to the set that it fits.
pub record WorkerSweeps (more : List ℕ) (said : List Entry) (old new : Seen) : Type 0 where
  pub log : new.view.own.log ≡ said ++ old.view.own.log
  pub sweeps : OnlySweeps old.view.generation said
  pub sets : FitsSets old.view.generation no_page said old new
  pub held : new.view.own.held ≡ old.view.own.held ++ more
  pub stays : Stays old new

-- What a call did that begins and ends without a popped entry: what it added to the log has the property P, the notes got just the notes of its
-- sweeps, and the worker holds these pages more.
pub record HandSweeps (more : List ℕ) (P : List Entry → Type 0) (old new : Hand) : Type 0 where
  pub said : List Entry
  pub did : P said
  pub does : WorkerSweeps more said old.worker new.worker
  pub notes : new.notes.items ≡ old.notes.items ++ notes_of (cycle_at old.worker.view.generation) said
  pub popped : new.worker.view.own.popped ≡ []

-- no run is taken or missed
pub record TakesNone (said : List Entry) : Type 0 where
  pub untaken : many is_taking said ≡ 0
  pub unmissed : many is_missing said ≡ 0

-- nor is a chunk claimed, or the index of one read
pub record MakesNone (said : List Entry) : Type 0 where
  pub takes_none : TakesNone said
  pub unclaimed : many (is_added 4) said ≡ 0
  pub unread : (i : ℕ) → many (is_read 4 i) said ≡ 0

-- nothing is done to the block of the worker's page cache
abbrev pub KeepsBlock : List Entry → Type 0
KeepsBlock said = many is_of_block said ≡ 0

-- each pull, also one that finds no page, comes behind a cut of n pages that found no page left in the worker's block: at no moment were there more
-- pulls than such cuts
abbrev pub PullsBehind : ℕ → List Entry → Type 0
PullsBehind n [] = Unit {0}
PullsBehind n (x ∷ said) = (many is_pulling (x ∷ said) ≤ many (is_bare_cut n) (x ∷ said)) × PullsBehind n said

-- neither is so
pub record IsPlain (said : List Entry) : Type 0 where
  pub takes_none : TakesNone said
  pub unclaimed : many (is_added 4) said ≡ 0
  pub unread : (i : ℕ) → many (is_read 4 i) said ≡ 0
  pub keeps_block : KeepsBlock said

-- each unswept set was seen empty
abbrev pub SawAllEmpty : ℕ → List Entry → Type 0
SawAllEmpty g said = (k : ℕ) → k < 544 → is_swept_set g k ≡ false → 0 < many (is_seen_empty k) said
