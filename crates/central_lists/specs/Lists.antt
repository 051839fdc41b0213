-- What a call for a cached span did, by its answer: what the log of the call has, what the worker has afterwards, and which notes came.
use Rattle.std.specs.Prelude.{◌≡◌, ℕ, ◌<◌, ◌≤◌, true, Result, Ok, Err}
use Rattle.fallible_list.specs.declared.list.NoMemory.{NoMemory}
use Rattle.sweep_laws.specs.Lists.{has}
use Rattle.sweep_laws.specs.Reading.{is_swept_set}
use Rattle.span_state.specs.declared.body.Body.{Body}
use Rattle.worker_log.specs.SetNumbers.{is_full_set, swept_set}
use Rattle.worker_log.specs.Entries.{is_pop_of, many}
use Rattle.span_laws.specs.BodyAsks.{HasMarks, HasRoom, IsUsed}
use Rattle.span_laws.specs.Asks.{HasBody, IsUntouched, mine}
use Rattle.span_laws.specs.Views.{Seen}
use Rattle.span_set.specs.declared.hand.Hand.{Hand}
use Rattle.central_lists.specs.declared.answers.Look.{Look}
use Rattle.central_lists.specs.declared.answers.FromSets.{FromSets}
use Rattle.central_lists.specs.declared.answers.FromSets.TheVariants.{SweptPartial, SweptHere, NeedFresh}
use Rattle.central_lists.specs.Looks.{Then, Saw, SawNone, TriedEnough, PoppedIt, SweptIt, AnyLog}
use Rattle.central_lists.specs.Works.{nothing, just, HandSearches}

-- a body that is handed out: it is of the class and has a free index; the worker holds the span, had nothing of it before, and has
-- this body of it; and it has not popped the span from a swept full set
pub record HandsOut (g class : ℕ) (b : Body) (old new : Seen) : Type 0 where
  pub of_class : b.class ≡ class
  pub room : HasRoom b
  pub held : has b.page new.view.own.held ≡ true
  pub lent : HasBody new.view.own b
  pub before : mine b.page old.view.own ≡ 0
  pub unpopped : (j : ℕ) → j < 544 → is_swept_set g j ≡ true → is_full_set j ≡ true → many (is_pop_of j b.page) new.view.own.log ≡ 0

-- what a look into the swept partial set did
abbrev pub LooksFirst : ℕ → ℕ → Hand → Hand → Result Body Look → Type 0
LooksFirst g class old new (Ok b) = HandsOut g class b old.worker new.worker × IsUsed b × HandSearches g class 0 (just b.page) nothing (PoppedIt g class b.page) old new
LooksFirst g class old new (Err look) = HandSearches g class 0 nothing nothing (Saw (swept_set g class 0) look) old new

-- what a call for a cached span did. From the swept partial set: the log has the pop, and the body an object. Swept here: the log has the
-- sweep, after the swept partial set was seen without a span; the body has just its marked objects, and the whole log has no pop of it from a
-- swept set and no placing in it. None: the swept partial set was seen as it is told, and then the unswept sets were tried enough
abbrev pub Caches : ℕ → ℕ → Hand → Hand → Result FromSets NoMemory → Type 0
Caches g class old new (Ok (SweptPartial b)) = HandsOut g class b old.worker new.worker × IsUsed b × HandSearches g class 0 (just b.page) nothing (PoppedIt g class b.page) old new
Caches g class old new (Ok (SweptHere b)) = HandsOut g class b old.worker new.worker × HasMarks old.worker.view.marks b × IsUntouched g new.worker.view.own b.page
    × ((tried : ℕ) × (tried ≤ 100) × HandSearches g class tried (just b.page) (just b.page) (Then (SawNone (swept_set g class 0)) (SweptIt b.page)) old new)
Caches g class old new (Ok (NeedFresh look tried)) = (tried ≤ 100) × HandSearches g class tried nothing nothing (Then (Saw (swept_set g class 0) look) (TriedEnough g class tried)) old new
Caches g class old new (Err _) = (tried : ℕ) × (tried ≤ 100) × HandSearches g class tried nothing nothing AnyLog old new
