-- What each call on a span or a set did, by its answer.
use Rattle.std.specs.Prelude.{◌≡◌, ◌≢◌, ◌⊎◌, ℕ, ◌+◌, ◌<◌, ◌≤◌, true, false, List, Result, Ok, Err}
use Rattle.sweep_laws.specs.Lists.{has}
use Rattle.sweep_laws.specs.Reading.{class_of_set}
use Rattle.span_state.specs.declared.body.Body.{Body}
use Rattle.span_laws.specs.declared.answers.Acquired.{Acquired}
use Rattle.span_laws.specs.declared.answers.Acquired.TheVariants.{Got, Other}
use Rattle.span_laws.specs.declared.answers.Uncached.{Uncached}
use Rattle.span_laws.specs.declared.answers.Uncached.TheVariants.{Fresh, Stale}
use Rattle.span_laws.specs.declared.said.Said.TheVariants.{Finds, Uncaches, UncachesStale, Looks, PopsEntry}
use Rattle.span_laws.specs.declared.said.SaidOf.TheVariants.{Acquires, Pops}
use Rattle.span_laws.specs.BodyAsks.{IsUsed, HasRoom, IsFullBody, HasMarked}
use Rattle.span_laws.specs.Asks.{IsOfPops, IsTaken, IsUntouched, mine}
use Rattle.span_laws.specs.Logs.{is_look}
use Rattle.worker_log.specs.declared.Entry.{Entry}
use Rattle.worker_log.specs.SetNumbers.{is_full_set}
use Rattle.worker_log.specs.Entries.{is_pop, many}
use Rattle.span_laws.specs.Views.{Seen, span_of}
use Rattle.span_laws.specs.OwnSteps.{after_of, after_said}

-- it sweeps the page's span, whose marked indices are allocated, of which its log has no pop from a swept set and no placing, of which it had nothing,
-- and whose class is that of the unswept set from which it popped the page; or it found
-- another word than that of a span that waits, and an entry of the page that it popped is dropped
abbrev pub AcquiresSpan : ℕ → Seen → Seen → Acquired → Type 0
AcquiresSpan page old new (Got body) = (body.page ≡ page) × (new ≡ after_of Acquires (span_of body) old) × HasMarked old.view.marks body × IsUntouched old.view.generation old.view.own page
    × (mine page old.view.own ≡ 0) × IsOfPops old.view.generation old.view.own body × (body.class < 136)
AcquiresSpan page old new (Other word) = (word + 2 ≢ old.view.generation) × (new ≡ after_said (Finds page word) old)

-- it holds the span, which was cached in this cycle; or it sweeps the span, which was not, and of which it knows what an acquire tells
abbrev pub UncachesSpan : Body → Seen → Seen → Uncached → Type 0
UncachesSpan body old new Fresh = (has body.page old.view.own.fresh ≡ true) × (new ≡ after_said (Uncaches body.page) old)
UncachesSpan body old new Stale = (has body.page old.view.own.fresh ≡ false) × (new ≡ after_said (UncachesStale body.page) old) × HasMarked old.view.marks body × IsUntouched old.view.generation old.view.own body.page

-- a set's class is the body's, an object is allocated, and in a full set all are, in a partial one not all
pub record IsOfSet (set : ℕ) (b : Body) : Type 0 where
  pub class : class_of_set set ≡ b.class
  pub used : IsUsed b
  pub full : is_full_set set ≡ true → IsFullBody b
  pub room : is_full_set set ≡ false → HasRoom b

-- head and tail of a set are in order, and not before those of any look at the set that the log tells; the log tells no more pops than the head
pub record IsAhead (set head tail : ℕ) (log : List Entry) : Type 0 where
  pub order : head ≤ tail
  pub grown : (h t : ℕ) → 0 < many (is_look set h t) log → (h ≤ head) × (t ≤ tail)
  pub passed : many (is_pop set) log ≤ head

-- the exchange found head and tail as given, and the worker holds the popped span, which it did not have before; or it found others
abbrev pub RaisesSwept : ℕ → ℕ → ℕ → ℕ → Seen → Seen → Result Body (ℕ × ℕ) → Type 0
RaisesSwept set head tail page old new (Ok body) = (body.page ≡ page) × (new ≡ after_of (Pops set) (span_of body) old) × IsOfSet set body × IsTaken old.view.generation set old.view.own page
RaisesSwept set head tail page old new (Err found) = ((found.0 ≢ head) ⊎ (found.1 ≢ tail)) × (new ≡ after_said (Looks set found.0 found.1) old) × IsAhead set found.0 found.1 old.view.own.log

abbrev pub RaisesUnswept : ℕ → ℕ → ℕ → ℕ → Seen → Seen → Result (Unit {0}) (ℕ × ℕ) → Type 0
RaisesUnswept set head tail page old new (Ok done) = (page < old.view.region) × (new ≡ after_said (PopsEntry set page) old)
RaisesUnswept set head tail page old new (Err found) = ((found.0 ≢ head) ⊎ (found.1 ≢ tail)) × (new ≡ after_said (Looks set found.0 found.1) old) × IsAhead set found.0 found.1 old.view.own.log
