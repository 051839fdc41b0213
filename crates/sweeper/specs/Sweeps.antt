-- What one sweep did, and what a full sweep.
use Rattle.std.specs.Prelude.{◌≡◌, ◌⊎◌, ℕ, ◌<◌, List, [], ◌∷◌, Result, Ok, Err}
use Rattle.fallible_list.specs.declared.list.NoMemory.{NoMemory}
use Rattle.span_state.specs.Bits.{count_below}
use Rattle.span_state.specs.Spans.{allocated}
use Rattle.span_state.specs.declared.body.Body.{Body}
use Rattle.worker_log.specs.declared.Entry.{Entry}
use Rattle.worker_log.specs.declared.Sweeping.{Sweeping}
use Rattle.worker_log.specs.Logs.{sweepings}
use Rattle.worker_log.specs.SetNumbers.{swept_set}
use Rattle.worker_log.specs.Entries.{is_push_of, many}
use Rattle.span_laws.specs.TakeAnswers.{cycle_at}
use Rattle.span_laws.specs.BodyAsks.{HasRoom, IsFullBody}
use Rattle.span_set.specs.declared.hand.Hand.{Hand}
use Rattle.sweeper.specs.Entries.{is_giving_of}
use Rattle.sweeper.specs.Work.{IsPlain, SawAllEmpty, HandSweeps, note_by}
use Rattle.sweeper.specs.declared.answers.SweptOne.{SweptOne}
use Rattle.sweeper.specs.declared.answers.SweptOne.TheVariants.{Swept, NothingLeft}

-- a swept span in which nothing was kept is given back; a full one is pushed to the swept full set of its class, and any other to the
-- partial one
abbrev pub IsSettled : ℕ → Body → Sweeping → List Entry → Type 0
IsSettled g b s said = ((s.kept ≡ 0) × (0 < many (is_giving_of b.page) said))
    ⊎ (((0 < s.kept) × IsFullBody b × (0 < many (is_push_of (swept_set g b.class 1) b.page) said))
    ⊎ ((0 < s.kept) × HasRoom b × (0 < many (is_push_of (swept_set g b.class 0) b.page) said)))

-- one span was swept, by this entry, and settled as the sweep left it
pub record SweepsSpan (g : ℕ) (s : Sweeping) (said : List Entry) : Type 0 where
  pub only : sweepings said ≡ s ∷ []
  pub body : Body
  pub page : body.page ≡ s.page
  pub kept : s.kept ≡ count_below body.count (allocated body)
  pub settled : IsSettled g body s said
  pub plain : IsPlain said

-- it swept the one span that the note tells; or each unswept set was seen empty, and nothing was swept; or memory ran out and nothing changed
abbrev pub SweepsOne : Hand → Hand → Result SweptOne NoMemory → Type 0
SweepsOne old new (Ok (Swept note)) = (s : Sweeping) × (note ≡ note_by (cycle_at old.worker.view.generation) s) × HandSweeps [] (SweepsSpan old.worker.view.generation s) old new
SweepsOne old new (Ok NothingLeft) = HandSweeps [] (λ said. (sweepings said ≡ []) × IsPlain said × SawAllEmpty old.worker.view.generation said) old new
SweepsOne old new (Err none) = new ≡ old

-- it swept until each unswept set was seen empty; or memory ran out, and the sweeps before stand
abbrev pub Finishes : Hand → Hand → Result (Unit {0}) NoMemory → Type 0
Finishes old new (Ok done) = HandSweeps [] (λ said. IsPlain said × SawAllEmpty old.worker.view.generation said) old new
Finishes old new (Err none) = HandSweeps [] IsPlain old new
