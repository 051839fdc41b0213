-- What the tries of unswept sets did, by their answers.
use Rattle.std.specs.Prelude.{◌≡◌, ◌⊎◌, ℕ, ◌-◌, ◌≤◌, Result, Ok, Err, Option, Some, None, ◌∷◌, [], ◌++◌}
use Rattle.fallible_list.specs.declared.list.NoMemory.{NoMemory}
use Rattle.span_state.specs.MarkSet.{MarkSet}
use Rattle.span_state.specs.declared.body.Body.{Body}
use Rattle.span_state.specs.declared.sweep.Swept.{Swept}
use Rattle.worker_log.specs.SetNumbers.{swept_set, unswept_set}
use Rattle.span_laws.specs.declared.said.Said.TheVariants.{Fills, Reads}
use Rattle.span_laws.specs.BodyAsks.{HasMarks, HasRoom, IsFullBody}
use Rattle.span_laws.specs.Asks.{IsUntouched}
use Rattle.span_laws.specs.OwnSteps.{after_said}
use Rattle.span_set.specs.declared.hand.Hand.{Hand}
use Rattle.span_set.specs.Sweeps.{SweepsBody, SweepsInHand, note_of}
use Rattle.central_lists.specs.declared.answers.Search.{Search}
use Rattle.central_lists.specs.declared.answers.Search.TheVariants.{Found, NotFound}
use Rattle.central_lists.specs.declared.answers.Tried.{Tried}
use Rattle.central_lists.specs.declared.answers.Tried.TheVariants.{Empty, Gone, Kept}
use Rattle.central_lists.specs.Looks.{SawEmpty, SweptIt, TriedEnough, AnyLog}
use Rattle.central_lists.specs.Works.{HandSearches, just, nothing}
use Rattle.central_lists.specs.Lists.{HandsOut}

-- the sweep of a span, and the hand behind it
pub record Sweeping (marks : MarkSet) (old new : Body) (before mid : Hand) : Type 0 where
  pub numbers : Swept
  pub body : SweepsBody marks old new numbers
  pub worker : SweepsInHand new numbers before.worker mid.worker
  pub notes : mid.notes.items ≡ before.notes.items ++ note_of before.worker.view.generation new numbers ∷ []

-- a span was swept: it has a free index; or it was pushed to the full set of the class
abbrev pub SweepsOne : MarkSet → ℕ → Body → Hand → Hand → Option Body → Type 0
SweepsOne marks class body old new (Some b) = HasRoom b × Sweeping marks body b old new
SweepsOne marks class body old new None = (b : Body) × (mid : Hand) × Sweeping marks body b old mid × (new.notes ≡ mid.notes)
    × (new.worker ≡ after_said (Fills (swept_set old.worker.view.generation class 1) b.page) (after_said (Reads 1 old.worker.view.generation) mid.worker)) × IsFullBody b

-- a span that was swept here is handed out, with its marked objects
pub record SweepsOut (g class : ℕ) (b : Body) (old new : Hand) : Type 0 where
  pub hands_out : HandsOut g class b old.worker new.worker
  pub marks : HasMarks old.worker.view.marks b
  pub untouched : IsUntouched g new.worker.view.own b.page

-- one try: the set was seen empty; or an entry was popped, and its span was dropped or pushed to the full set, or is handed out
abbrev pub TriesOne : ℕ → ℕ → ℕ → Hand → Hand → Result Tried NoMemory → Type 0
TriesOne g class full old new (Ok Empty) = HandSearches g class 0 nothing nothing (SawEmpty (unswept_set g class full)) old new
TriesOne g class full old new (Ok Gone) = HandSearches g class 1 nothing nothing AnyLog old new
TriesOne g class full old new (Ok (Kept b)) = SweepsOut g class b old new × HandSearches g class 1 (just b.page) (just b.page) (SweptIt b.page) old new
TriesOne g class full old new (Err _) = HandSearches g class 0 nothing nothing AnyLog old new

-- what so many tries did, after those before
pub record TriedSome (g class before tried : ℕ) (old new : Hand) : Type 0 where
  pub least : before ≤ tried
  pub most : tried ≤ 100
  pub does : HandSearches g class (tried - before) nothing nothing AnyLog old new

-- a span is handed out after so many tries at most
abbrev pub GivesOne : ℕ → ℕ → ℕ → Body → Hand → Hand → Type 0
GivesOne g class most b old new = SweepsOut g class b old new × ((tried : ℕ) × (tried ≤ most) × HandSearches g class tried (just b.page) (just b.page) (SweptIt b.page) old new)

-- memory ran out after so many tries at most
abbrev pub GivesUp : ℕ → ℕ → ℕ → Hand → Hand → Type 0
GivesUp g class most old new = (tried : ℕ) × (tried ≤ most) × HandSearches g class tried nothing nothing AnyLog old new

-- the tries of one unswept set, after those before: a span is handed out; or a hundred were made in all, or the set was seen empty
abbrev pub TriesAll : ℕ → ℕ → ℕ → ℕ → Hand → Hand → Result Search NoMemory → Type 0
TriesAll g class full before old new (Ok (Found b)) = GivesOne g class (100 - before) b old new
TriesAll g class full before old new (Ok (NotFound tried)) = (before ≤ tried) × (tried ≤ 100) × HandSearches g class (tried - before) nothing nothing (λ said. (tried ≡ 100) ⊎ SawEmpty (unswept_set g class full) said) old new
TriesAll g class full before old new (Err _) = GivesUp g class (100 - before) old new

-- the tries of both unswept sets
abbrev pub Searches : ℕ → ℕ → Hand → Hand → Result Search NoMemory → Type 0
Searches g class old new (Ok (Found b)) = GivesOne g class 100 b old new
Searches g class old new (Ok (NotFound tried)) = (tried ≤ 100) × HandSearches g class tried nothing nothing (TriedEnough g class tried) old new
Searches g class old new (Err _) = GivesUp g class 100 old new
