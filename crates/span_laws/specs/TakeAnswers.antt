-- What a call that takes a run for a new span did, by its answer.
use Rattle.std.specs.Prelude.{◌≡◌, ℕ, ◌*◌, ◌-◌, ◌/◌, ◌<◌, ◌≤◌, List, length, Option, Some, None, Result, Ok, Err}
use Rattle.size_classes.specs.Classes.{objects_of, slot_of}
use Rattle.page_alloc.specs.FreeRuns.{HasNoRun}
use Rattle.page_alloc.specs.Journal.{LegalFor}
use Rattle.page_bitmap.specs.declared.line.Line.{Line}
use Rattle.fallible_list.specs.declared.list.NoMemory.{NoMemory}
use Rattle.span_state.specs.declared.body.Body.{Body}
use Rattle.span_laws.specs.declared.answers.Refused.{Refused}
use Rattle.span_laws.specs.declared.answers.Refused.TheVariants.{NoRun, NoMemory as WantsMemory}
use Rattle.span_laws.specs.declared.said.Said.TheVariants.{Misses}
use Rattle.span_laws.specs.declared.said.SaidOf.TheVariants.{Takes}
use Rattle.span_laws.specs.BodyAsks.{IsEmptyBody}
use Rattle.span_laws.specs.Asks.{IsUntouched, mine}
use Rattle.span_laws.specs.Views.{Seen, span_of}
use Rattle.span_laws.specs.OwnSteps.{after_of, after_said}

-- the cycle of a generation
abbrev pub cycle_at : ℕ → ℕ
cycle_at g = (g - 4) / 2

-- a body of a new span: n pages and the objects of the class, none of them allocated
pub record IsNew (n k : ℕ) (b : Body) : Type 0 where
  pub pages : b.pages ≡ n
  pub class : b.class ≡ k
  pub next : b.next ≡ 0
  pub empty : IsEmptyBody b
  pub large : k < 2 → (b.count ≡ 1) × (b.slot ≡ 8192 * n)
  pub small : 2 ≤ k → (b.count ≡ objects_of (k / 2)) × (b.slot ≡ slot_of (k / 2))

-- it holds a new span, of which it had nothing, and its log has the line that took it
pub record TakesNew (n k : ℕ) (old new : Seen) (b : Body) : Type 0 where
  pub is_new : IsNew n k b
  pub view : new ≡ after_of (Takes (cycle_at old.view.generation)) (span_of b) old
  pub untouched : IsUntouched old.view.generation old.view.own b.page
  pub nothing : mine b.page old.view.own ≡ 0

-- a journal is the one that the worker was told of, if nothing was written since
abbrev pub IsToldOf : Seen → List Line → Type 0
IsToldOf w past = (known : List Line) → w.journal ≡ Some known → past ≡ known

-- behind a journal that is legal for the processors of the view no run of n pages is free
abbrev pub NoRunFree : ℕ → Seen → List Line → Type 0
NoRunFree n s past = LegalFor s.view.procs s.view.region s.view.goal past × HasNoRun s.view.region past n

-- it took a run, or no run was free after some journal, and the log has the line that says so; or memory ran out and nothing changed
abbrev pub TakesSpan : ℕ → ℕ → Seen → Seen → Result Body Refused → Type 0
TakesSpan n class old new (Ok body) = TakesNew n class old new body
TakesSpan n class old new (Err (NoRun line)) = (new ≡ after_said (Misses line (cycle_at old.view.generation) n class) old)
    × ((past : List Line) × (length past ≡ line) × NoRunFree n old past)
TakesSpan n class old new (Err WantsMemory) = new ≡ old

-- the same, but where no run is free there is no line, and nothing changes: no run is free behind the journal that the worker was told of, if it was
abbrev pub TriesSpan : ℕ → ℕ → Seen → Seen → Result (Option Body) NoMemory → Type 0
TriesSpan n class old new (Ok (Some body)) = TakesNew n class old new body
TriesSpan n class old new (Ok None) = (new ≡ old) × ((past : List Line) × IsToldOf old past × NoRunFree n old past)
TriesSpan n class old new (Err none) = new ≡ old
