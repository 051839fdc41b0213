-- The steps of a call, one after another.
use Rattle.std.proofs.Common.{◌≡◌, ◌⊎◌, ℕ, Bool, ◌+◌, ◌<◌, ◌≤◌, List, [], ◌∷◌, length, Option, Some, None, is_some, true, false, Ok, inl, inr, refl, sym, ◌∙◌, ap, subst, arith}
use Rattle.std.specs.List.{AllByRecursion}
use Rattle.page_alloc.specs.Owners.{backed}
use Rattle.page_alloc.specs.FreeRuns.{IsLoose}
use Rattle.page_alloc.specs.Journal.{LegalFor}
use Rattle.page_bitmap.specs.declared.line.Line.{Line}
use Rattle.page_bitmap.specs.declared.line.Line.TheVariants.{Scav}
use Rattle.page_bitmap.specs.declared.line.Run.{Run}
use Rattle.span_laws.specs.declared.answers.Step.{Step}
use Rattle.span_laws.specs.TakeAnswers.{IsToldOf, cycle_at}
use Rattle.span_laws.specs.ScavengeAnswers.{Released, StepsOnce, past_scavenged, told_if}
use Rattle.span_laws.specs.Views.{Seen, drives}
use Rattle.span_laws.specs.Handed.{knows}
use Rattle.scavenger.specs.declared.scavenge.Reason.{Reason}
use Rattle.scavenger.specs.declared.scavenge.Reason.TheVariants.{AtGoal, NoCandidate, TurnsSpent}
use Rattle.scavenger.specs.Scavenges.{IsReason, IsReleased, Releases, ReleasesEach, Scavenges, ScavengesApart, StopsFor, behind}

pub none-of : (o : Option Run) → is_some o ≡ false → o ≡ None
none-of None h = refl
none-of (Some run) h = cc

pub some-of : (o : Option Run) → is_some o ≡ true → (run : Run) × (o ≡ Some run)
some-of None h = cc
some-of (Some run) h = (run, refl)

-- ---- the driver

-- a step of the driver, which is told of it
abbrev pub StepsTold : Seen → Seen → Step → Type 0
StepsTold old new step = (past : List Line) × LegalFor old.view.procs old.view.region old.view.goal (past_scavenged (cycle_at old.view.generation) past step.run) × IsToldOf old past
    × Released (cycle_at old.view.generation) old.view.region old.view.goal past step.backed step.run × (new ≡ knows (past_scavenged (cycle_at old.view.generation) past step.run) old)

told-step : (old new : Seen) (step : Step) → drives old ≡ true → StepsOnce old new (Ok step) → StepsTold old new step
told-step old new step d made = (
  made.0,
  made.1,
  made.2,
  made.3,
  made.4 ∙ ap (λ (b : Bool). record old { journal = told_if b (past_scavenged (cycle_at old.view.generation) made.0 step.run) }) d,
)

-- after n steps that all released a run: none was made, or the journal has their lines, with so many backed pages
abbrev pub Turned : ℕ → Seen → Seen → ℕ → Type 0
Turned n old new count = ((n ≡ 0) × (new ≡ old))
    ⊎ ((past : List Line) × (runs : List Run) × Releases past runs old new × (length runs ≡ n) × (count ≡ backed old.view.region (behind old past runs)))

-- a first step that released a run
first-turn : (old new : Seen) (step : Step) (run : Run) → step.run ≡ Some run → StepsTold old new step → Turned 1 old new step.backed
first-turn old new step run is made =
    let R : Option Run → Type 0 = λ o. Released (cycle_at old.view.generation) old.view.region old.view.goal made.0 step.backed o in
    let L : Option Run → Type 0 = λ o. LegalFor old.view.procs old.view.region old.view.goal (past_scavenged (cycle_at old.view.generation) made.0 o) in
    let N : Option Run → Type 0 = λ o. new ≡ knows (past_scavenged (cycle_at old.view.generation) made.0 o) old in
    inr (made.0, run ∷ [], record { told = made.2; legal = subst L is made.1; view = subst N is made.4 }, refl, (subst R is made.3).1)

-- a further one
next-turn : (past : List Line) (runs : List Run) (old new : Seen) (step : Step) (run : Run) → LegalFor old.view.procs old.view.region old.view.goal (behind old past runs) → IsToldOf old past
    → step.run ≡ Some run → StepsTold (knows (behind old past runs) old) new step → Turned (length runs + 1) old new step.backed
next-turn past runs old new step run legal told is made =
    let R : Option Run → Type 0 = λ o. Released (cycle_at old.view.generation) old.view.region old.view.goal made.0 step.backed o in
    let L : Option Run → Type 0 = λ o. LegalFor old.view.procs old.view.region old.view.goal (past_scavenged (cycle_at old.view.generation) made.0 o) in
    let N : Option Run → Type 0 = λ o. new ≡ knows (past_scavenged (cycle_at old.view.generation) made.0 o) old in
    let here : made.0 ≡ behind old past runs = made.2 (behind old past runs) refl in
    let line : Line = Scav (cycle_at old.view.generation) run.page run.pages in
    inr (
      past,
      run ∷ runs,
      record {
        told = told;
        legal = (let P : List Line → Type 0 = λ l. LegalFor old.view.procs old.view.region old.view.goal (line ∷ l) in subst P here (subst L is made.1));
        view = subst N is made.4 ∙ ap (λ (l : List Line). knows (line ∷ l) old) here;
      },
      omega arith,
      (subst R is made.3).1 ∙ ap (λ (l : List Line). backed old.view.region (line ∷ l)) here,
    )

pub turns : (n count : ℕ) (old mid new : Seen) (step : Step) (run : Run) → drives old ≡ true → Turned n old mid count → step.run ≡ Some run → StepsOnce mid new (Ok step) → Turned (n + 1) old new step.backed
turns n count old mid new step run d turned is made =
    elim turned [
      | inl none ↦ (
          let M : Seen → Type 0 = λ s. StepsOnce s new (Ok step) in
          let T : ℕ → Type 0 = λ k. Turned k old new step.backed in
          let one : 1 ≡ n + 1 = (let is0 = none.0 in omega arith) in
          subst T one (first-turn old new step run is (told-step old new step d (subst M none.1 made))))
      | inr some ↦ (
          let M : Seen → Type 0 = λ s. StepsOnce s new (Ok step) in
          let T : ℕ → Type 0 = λ k. Turned (k + 1) old new step.backed in
          subst T some.3 (next-turn some.0 some.1 old new step run some.2.legal some.2.told is (told-step (knows (behind old some.0 some.1) old) new step d (subst M some.2.view made))))
    ]

stops : (region goal : ℕ) (past : List Line) (b n : ℕ) (reason : Reason) → n < region → IsReason b goal reason → b ≡ backed region past
    → (b ≤ goal) ⊎ ((p : ℕ) → p < region → ¬ IsLoose past p) → StopsFor region goal past n reason
stops region goal past b n AtGoal few why is cause = (rw (← is) why, few)
stops region goal past b n NoCandidate few why is cause = (rw (← is) why, elim cause [ inl at_goal ↦ absurd (omega arith) | inr none ↦ none ], few)
stops region goal past b n TurnsSpent few why is cause = absurd why

-- a step that released nothing, behind all the others
last-turn : (past : List Line) (runs : List Run) (old new : Seen) (step : Step) (reason : Reason) → length runs < old.view.region → IsReason step.backed old.view.goal reason
    → IsToldOf old past → LegalFor old.view.procs old.view.region old.view.goal (behind old past runs)
    → Released (cycle_at old.view.generation) old.view.region old.view.goal (behind old past runs) step.backed None → new ≡ knows (behind old past runs) old
    → Scavenges old new (Ok (record { backed = step.backed; reason = reason }))
last-turn past runs old new step reason few why told legal released view =
    (past, runs, record { told = told; legal = legal; view = view }, released.0, stops old.view.region old.view.goal (behind old past runs) step.backed (length runs) reason few why released.0 released.1)

pub stopped : (n count : ℕ) (old mid new : Seen) (step : Step) (reason : Reason) → drives old ≡ true → Turned n old mid count → n < old.view.region → step.run ≡ None → StepsOnce mid new (Ok step)
    → IsReason step.backed old.view.goal reason → Scavenges old new (Ok (record { backed = step.backed; reason = reason }))
stopped n count old mid new step reason d turned few is made why =
    elim turned [
      | inl none ↦ (
          let M : Seen → Type 0 = λ s. StepsOnce s new (Ok step) in
          let made : StepsTold old new step = told-step old new step d (subst M none.1 made) in
          let R : Option Run → Type 0 = λ o. Released (cycle_at old.view.generation) old.view.region old.view.goal made.0 step.backed o in
          let L : Option Run → Type 0 = λ o. LegalFor old.view.procs old.view.region old.view.goal (past_scavenged (cycle_at old.view.generation) made.0 o) in
          let N : Option Run → Type 0 = λ o. new ≡ knows (past_scavenged (cycle_at old.view.generation) made.0 o) old in
          last-turn made.0 [] old new step reason (omega arith) why made.2 (subst L is made.1) (subst R is made.3) (subst N is made.4))
      | inr some ↦ (
          let M : Seen → Type 0 = λ s. StepsOnce s new (Ok step) in
          let all : List Line = behind old some.0 some.1 in
          let made : StepsTold (knows all old) new step = told-step (knows all old) new step d (subst M some.2.view made) in
          let here : made.0 ≡ all = made.2 all refl in
          let R : Option Run → List Line → Type 0 = λ o l. Released (cycle_at old.view.generation) old.view.region old.view.goal l step.backed o in
          let N : Option Run → Type 0 = λ o. new ≡ knows (past_scavenged (cycle_at old.view.generation) made.0 o) old in
          last-turn some.0 some.1 old new step reason (let len = some.3 in omega arith) why some.2.told some.2.legal
          (let P : List Line → Type 0 = R None in subst P here (let Q : Option Run → Type 0 = λ o. R o made.0 in subst Q is made.3))
          (subst N is made.4 ∙ ap (λ (l : List Line). knows l old) here))
    ]

-- all steps released a run
pub spent : (n count : ℕ) (old new : Seen) → Turned n old new count → n ≡ old.view.region → 1 ≤ n → Scavenges old new (Ok (record { backed = count; reason = TurnsSpent }))
spent n count old new turned is some =
    elim turned [
      | inl none ↦ absurd (let zero = none.0 in omega arith)
      | inr all ↦ (all.0, all.1, all.2, all.4, all.3 ∙ is)
    ]

-- ---- another worker

-- after n steps that all released a run: none was made, or each run was released behind some journal, with so many backed pages behind the last
abbrev pub TurnedApart : ℕ → Seen → Seen → ℕ → Type 0
TurnedApart n old new count = ((n ≡ 0) × (new ≡ old))
    ⊎ ((past : List Line) × (runs : List Run) × ReleasesEach past runs old new × (length runs ≡ n) × (count ≡ backed old.view.region past))

-- a step of a worker that was told of no journal
abbrev StepsApart : Seen → Seen → Step → Type 0
StepsApart old new step = (past : List Line) × LegalFor old.view.procs old.view.region old.view.goal (past_scavenged (cycle_at old.view.generation) past step.run)
    × Released (cycle_at old.view.generation) old.view.region old.view.goal past step.backed step.run × (new ≡ record old { journal = None })

step-apart : (old new : Seen) (step : Step) → drives old ≡ false → StepsOnce old new (Ok step) → StepsApart old new step
step-apart old new step d made = (
  made.0,
  made.1,
  made.3,
  made.4 ∙ ap (λ (b : Bool). record old { journal = told_if b (past_scavenged (cycle_at old.view.generation) made.0 step.run) }) d,
)

more-apart : (runs : List Run) (old new : Seen) (step : Step) (run : Run) → AllByRecursion (IsReleased old) runs → step.run ≡ Some run → StepsApart old new step → TurnedApart (length runs + 1) old new step.backed
more-apart runs old new step run each is made =
    let R : Option Run → Type 0 = λ o. Released (cycle_at old.view.generation) old.view.region old.view.goal made.0 step.backed o in
    let L : Option Run → Type 0 = λ o. LegalFor old.view.procs old.view.region old.view.goal (past_scavenged (cycle_at old.view.generation) made.0 o) in
    let legal : LegalFor old.view.procs old.view.region old.view.goal (Scav (cycle_at old.view.generation) run.page run.pages ∷ made.0) = subst L is made.1 in
    inr (Scav (cycle_at old.view.generation) run.page run.pages ∷ made.0, run ∷ runs, record { each = ((made.0, legal), each); legal = legal; view = made.3 }, omega arith, (subst R is made.2).1)

pub turns-apart : (n count : ℕ) (old mid new : Seen) (step : Step) (run : Run) → drives old ≡ false → TurnedApart n old mid count → step.run ≡ Some run → StepsOnce mid new (Ok step) → TurnedApart (n + 1) old new step.backed
turns-apart n count old mid new step run d turned is made =
    let M : Seen → Type 0 = λ s. StepsOnce s new (Ok step) in
    elim turned [
      | inl none ↦ (
          let T : ℕ → Type 0 = λ k. TurnedApart k old new step.backed in
          let one : 1 ≡ n + 1 = (let is0 = none.0 in omega arith) in
          subst T one (more-apart [] old new step run tt is (step-apart old new step d (subst M none.1 made))))
      | inr some ↦ (
          let T : ℕ → Type 0 = λ k. TurnedApart (k + 1) old new step.backed in
          subst T some.3 (more-apart some.1 old new step run some.2.each is (step-apart (record old { journal = None }) new step d (subst M some.2.view made))))
    ]

last-apart : (runs : List Run) (old new : Seen) (step : Step) (reason : Reason) → AllByRecursion (IsReleased old) runs → length runs < old.view.region → IsReason step.backed old.view.goal reason
    → step.run ≡ None → StepsApart old new step → ScavengesApart old new (Ok (record { backed = step.backed; reason = reason }))
last-apart runs old new step reason each few why is made =
    let R : Option Run → Type 0 = λ o. Released (cycle_at old.view.generation) old.view.region old.view.goal made.0 step.backed o in
    let L : Option Run → Type 0 = λ o. LegalFor old.view.procs old.view.region old.view.goal (past_scavenged (cycle_at old.view.generation) made.0 o) in
    let released : Released (cycle_at old.view.generation) old.view.region old.view.goal made.0 step.backed None = subst R is made.2 in
    (made.0, runs, record { each = each; legal = subst L is made.1; view = made.3 }, released.0, stops old.view.region old.view.goal made.0 step.backed (length runs) reason few why released.0 released.1)

pub stopped-apart : (n count : ℕ) (old mid new : Seen) (step : Step) (reason : Reason) → drives old ≡ false → TurnedApart n old mid count → n < old.view.region → step.run ≡ None → StepsOnce mid new (Ok step)
    → IsReason step.backed old.view.goal reason → ScavengesApart old new (Ok (record { backed = step.backed; reason = reason }))
stopped-apart n count old mid new step reason d turned few is made why =
    let M : Seen → Type 0 = λ s. StepsOnce s new (Ok step) in
    elim turned [
      | inl none ↦ last-apart [] old new step reason tt (omega arith) why is (step-apart old new step d (subst M none.1 made))
      | inr some ↦ last-apart some.1 old new step reason some.2.each (let len = some.3 in omega arith) why is (step-apart (record old { journal = None }) new step d (subst M some.2.view made))
    ]

pub spent-apart : (n count : ℕ) (old new : Seen) → TurnedApart n old new count → n ≡ old.view.region → 1 ≤ n → ScavengesApart old new (Ok (record { backed = count; reason = TurnsSpent }))
spent-apart n count old new turned is some =
    elim turned [
      | inl none ↦ absurd (let zero = none.0 in omega arith)
      | inr all ↦ (all.0, all.1, all.2, all.4, all.3 ∙ is)
    ]

-- ---- any worker

-- of a step nothing changes but what is known of the journal
pub step-same : (old mid new : Seen) (step : Step) → mid ≡ record old { journal = mid.journal } → StepsOnce mid new (Ok step) → new ≡ record old { journal = new.journal }
step-same old mid new step same made =
    made.4 ∙ ap (λ (w : Seen). record w { journal = told_if (drives mid) (past_scavenged (cycle_at mid.view.generation) made.0 step.run) }) same
    ∙ ap (λ (w : Seen). record old { journal = w.journal }) (sym made.4)
