-- What is done with the entries of the unswept sets: they are popped, and the span of one is swept, or none.
use Rattle.std.specs.Prelude.{◌≡◌, ℕ, ◌^◌, ◌<◌, ◌≤◌, List, [], length, Option, Some, None}
use Rattle.span_state.specs.declared.sweep.SweepNote.{SweepNote}
use Rattle.worker_log.specs.declared.Entry.{Entry}
use Rattle.worker_log.specs.declared.Sweeping.{Sweeping}
use Rattle.worker_log.specs.Logs.{sweepings}
use Rattle.worker_log.specs.Entries.{is_pop, is_seen_empty, many}
use Rattle.span_laws.specs.TakeAnswers.{cycle_at}
use Rattle.span_set.specs.declared.hand.Hand.{Hand}
use Rattle.span_laws.specs.Scans.{nth_unswept}
use Rattle.sweeper.specs.Sweeps.{SweepsSpan}
use Rattle.sweeper.specs.Work.{IsPlain, HandSweeps, note_by}
use Rattle.sweeper.specs.declared.sweep.Tried.{Tried}
use Rattle.sweeper.specs.declared.sweep.Tried.TheVariants.{Swept as WasSwept, Gone, Empty}

-- nothing was swept, and no run or chunk taken
pub record SweepsNone (said : List Entry) : Type 0 where
  pub none : sweepings said ≡ []
  pub plain : IsPlain said

-- one entry of a set was popped, whose span was swept, or did not wait any more; or the set was seen empty
abbrev pub TriesEntry : ℕ → Hand → Hand → Tried → Type 0
TriesEntry set old new (WasSwept note) = (s : Sweeping) × (note ≡ note_by (cycle_at old.worker.view.generation) s)
    × HandSweeps [] (λ said. SweepsSpan old.worker.view.generation s said × (0 < many (is_pop set) said)) old new × (many (is_pop set) new.worker.view.own.log ≤ 2 ^ 32)
TriesEntry set old new Gone = HandSweeps [] (λ said. SweepsNone said × (0 < many (is_pop set) said)) old new × (new.notes ≡ old.notes) × (many (is_pop set) new.worker.view.own.log ≤ 2 ^ 32)
TriesEntry set old new Empty = HandSweeps [] (λ said. SweepsNone said × (0 < many (is_seen_empty set) said)) old new × (new.notes ≡ old.notes)

-- so many entries of a set were popped and dropped
pub record DropsSome (set tries : ℕ) (old new : Hand) : Type 0 where
  pub works : HandSweeps [] (λ said. SweepsNone said × (tries ≤ many (is_pop set) said)) old new
  pub notes : new.notes ≡ old.notes
  pub few : tries ≤ 2 ^ 32

-- entries of a set were popped until the span of one was swept; or the set was seen empty
abbrev pub SweepsNext : ℕ → Hand → Hand → Option SweepNote → Type 0
SweepsNext set old new (Some note) = (s : Sweeping) × (note ≡ note_by (cycle_at old.worker.view.generation) s)
    × HandSweeps [] (λ said. SweepsSpan old.worker.view.generation s said × (0 < many (is_pop set) said)) old new × (many (is_pop set) new.worker.view.own.log ≤ 2 ^ 32)
SweepsNext set old new None = HandSweeps [] (λ said. SweepsNone said × (0 < many (is_seen_empty set) said)) old new × (new.notes ≡ old.notes)

-- the first n unswept sets, in the order of sweeping, were seen empty
abbrev pub SawSome : ℕ → ℕ → List Entry → Type 0
SawSome g n said = (i : ℕ) → i < n → 0 < many (is_seen_empty (nth_unswept g i)) said

-- the first n were seen empty, and nothing was swept; there is room for a note
pub record FindsNone (n : ℕ) (old new : Hand) : Type 0 where
  pub works : HandSweeps [] (λ said. SweepsNone said × SawSome old.worker.view.generation n said) old new
  pub room : length new.notes.items < new.notes.space
