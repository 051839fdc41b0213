-- A worker that has claimed nothing takes a step that leaves it so.
use Rattle.std.proofs.Common.{◌≡◌, ℕ, suc, ◌<◌, ◌&&◌, eqb, eq-eqb, true, List, refl, ap, sym, subst, ◌∙◌, arith}
use Rattle.std.specs.Prelude.{None, Option, Some, Result, Ok, Err}
use Rattle.fallible_list.specs.declared.list.NoMemory.{NoMemory}
use Rattle.atomic_table.specs.Seated.{TableId}
use Rattle.span_state.specs.declared.body.Body.{Body}
use Rattle.page_bitmap.specs.Counts.{one_if}
use Rattle.page_bitmap.specs.declared.line.Line.{Line}
use Rattle.sweep_laws.specs.Reading.{is_swept_set}
use Rattle.span_laws.specs.TakeAnswers.{TakesSpan, TriesSpan}
use Rattle.span_laws.specs.ScavengeAnswers.{StepsOnce, told_if}
use Rattle.span_laws.specs.Answers.{AcquiresSpan, RaisesSwept, RaisesUnswept, UncachesSpan}
use Rattle.span_laws.specs.Asks.{IsUntouched, KnowsJournal}
use Rattle.span_laws.specs.declared.answers.Acquired.{Acquired}
use Rattle.span_laws.specs.declared.answers.Acquired.TheVariants.{Got, Other}
use Rattle.span_laws.specs.declared.answers.Refused.{Refused}
use Rattle.span_laws.specs.declared.answers.Refused.TheVariants.{NoRun, NoMemory as WantsMemory}
use Rattle.span_laws.specs.declared.answers.Step.{Step}
use Rattle.span_laws.specs.declared.answers.Uncached.{Uncached}
use Rattle.span_laws.specs.declared.answers.Uncached.TheVariants.{Fresh, Stale}
use Rattle.span_laws.specs.declared.view.Part.{Part}
use Rattle.span_laws.specs.declared.said.Said.TheVariants.{Looks, LooksCell}
use Rattle.span_laws.specs.declared.said.SaidOf.TheVariants.{Places, Takes}
use Rattle.span_laws.specs.declared.view.Span.{Span}
use Rattle.worker_log.specs.Entries.{is_pop_of, is_seen_empty, many}
use Rattle.span_laws.specs.Views.{Seen, acts, drives, has_cell}
use Rattle.span_laws.specs.OwnSteps.{after_of, after_said}
use Rattle.span_set.specs.Pops.{PopsSwept, PopsUnswept}
use Rattle.span_set.specs.declared.answers.Pop.{Pop}
use Rattle.span_set.specs.declared.answers.Pop.TheVariants.{Taken, Empty, NotYet}
use Rattle.span_set.specs.declared.answers.PopBase.{PopBase}
use Rattle.span_set.specs.declared.answers.PopBase.TheVariants.{Popped as PoppedBase, Empty as EmptyBase}
use Rattle.span_table_tests.specs.Claims.{KeepsClaim}
use Rattle.span_table_tests.specs.Rows.{IsReady}

-- the worker's own part changed, and has its claim
keeps_acts : (old new : Seen) (known : Option (List Line)) (part : Part) → new ≡ record old { journal = known; view = acts old.view part } → part.claimed ≡ old.view.own.claimed → KeepsClaim old new
keeps_acts old new known part e same = record {
  table = ap (λ (w : Seen). w.table) e;
  number = ap (λ (w : Seen). w.number) e;
  away = ap (λ (w : Seen). w.away) e;
  generation = ap (λ (w : Seen). w.view.generation) e;
  claimed = ap (λ (w : Seen). w.view.own.claimed) e ∙ same;
}

then_keeps : (a b c : Seen) → KeepsClaim a b → KeepsClaim b c → KeepsClaim a c
then_keeps a b c x y = record { table = y.table ∙ x.table; number = y.number ∙ x.number; away = y.away ∙ x.away; generation = y.generation ∙ x.generation; claimed = y.claimed ∙ x.claimed }

pub pop_keeps : (set : ℕ) (old new : Seen) (a : Pop) → PopsSwept set old new a → KeepsClaim old new
pop_keeps set old new (Taken b) p = then_keeps old p.2 new (keeps_acts old p.2 _ _ p.3.view refl) (keeps_acts p.2 new _ _ p.5 refl)
pop_keeps set old new (Empty head tail) p = keeps_acts old new _ _ p.1.view refl
pop_keeps set old new (NotYet head) p = then_keeps old p.1 new (keeps_acts old p.1 _ _ p.2.view refl) (keeps_acts p.1 new _ _ p.4 refl)

pub pop_base_keeps : (set : ℕ) (old new : Seen) (a : PopBase) → PopsUnswept set old new a → KeepsClaim old new
pop_base_keeps set old new (PoppedBase page) p = then_keeps old p.2 new (keeps_acts old p.2 _ _ p.3.view refl) (keeps_acts p.2 new _ _ p.5 refl)
pop_base_keeps set old new (EmptyBase head tail) p = keeps_acts old new _ _ p.1.view refl

module _ (t : TableId) (w : Seen) (r : IsReady t w) where
  pub ready_kept : (new : Seen) → KeepsClaim w new → IsReady t new
  ready_kept new k = record { works = (k.table ∙ r.works.0, k.away ∙ r.works.1); number = k.number ∙ r.number; unclaimed = k.claimed ∙ r.unclaimed }

  pub ready_acts : (known : Option (List Line)) (part : Part) (new : Seen) → new ≡ record w { journal = known; view = acts w.view part } → part.claimed ≡ None → IsReady t new
  ready_acts known part new e free = ready_kept new (keeps_acts w new known part e (free ∙ sym r.unclaimed))

  pub ready_acquired : (page : ℕ) (new : Seen) (a : Acquired) → AcquiresSpan page w new a → IsReady t new
  ready_acquired page new (Got b) a = ready_acts _ _ new a.1 r.unclaimed
  ready_acquired page new (Other word) a = ready_acts _ _ new a.1 r.unclaimed

  pub ready_taken : (n class : ℕ) (new : Seen) (a : Result Body Refused) → TakesSpan n class w new a → IsReady t new
  ready_taken n class new (Ok b) a = ready_acts _ _ new a.view r.unclaimed
  ready_taken n class new (Err (NoRun line)) a = ready_acts _ _ new a.0 r.unclaimed
  ready_taken n class new (Err WantsMemory) a = subst (IsReady t) (sym a) r

  pub ready_tried : (n class : ℕ) (new : Seen) (a : Result (Option Body) NoMemory) → TriesSpan n class w new a → IsReady t new
  ready_tried n class new (Ok (Some b)) a = ready_acts _ _ new a.view r.unclaimed
  ready_tried n class new (Ok None) a = subst (IsReady t) (sym a.0) r
  ready_tried n class new (Err e) a = subst (IsReady t) (sym a) r

  pub ready_uncached : (b : Body) (new : Seen) (a : Uncached) → UncachesSpan b w new a → IsReady t new
  ready_uncached b new Fresh a = ready_acts _ _ new a.1 r.unclaimed
  ready_uncached b new Stale a = ready_acts _ _ new a.1 r.unclaimed

  pub ready_raised : (set head tail page : ℕ) (new : Seen) (a : Result Body (ℕ × ℕ)) → RaisesSwept set head tail page w new a → IsReady t new
  ready_raised set head tail page new (Ok b) a = ready_acts _ _ new a.1 r.unclaimed
  ready_raised set head tail page new (Err found) a = ready_acts _ _ new a.1 r.unclaimed

  pub ready_raised_unswept : (set head tail page : ℕ) (new : Seen) (a : Result (Unit {0}) (ℕ × ℕ)) → RaisesUnswept set head tail page w new a → IsReady t new
  ready_raised_unswept set head tail page new (Ok done) a = ready_acts _ _ new a.1 r.unclaimed
  ready_raised_unswept set head tail page new (Err found) a = ready_acts _ _ new a.1 r.unclaimed

  -- the driver knows the journal behind a scavenging step
  pub stepped_knows : (new : Seen) (known : List Line) → new ≡ record w { journal = told_if (drives w) known } → KnowsJournal new
  stepped_knows new known e = (known, ap (λ (x : Seen). x.journal) e ∙ ap (λ (m : ℕ). told_if (eqb m 69) known) r.number)

  pub ready_stepped : (new : Seen) (a : Result Step NoMemory) → StepsOnce w new a → IsReady t new
  ready_stepped new (Ok step) a = ready_acts _ _ new a.4 r.unclaimed
  ready_stepped new (Err e) a = subst (IsReady t) (sym a) r

-- a cell that was read as filled
pub read_cell : (set index cell page : ℕ) (w new : Seen) → new ≡ after_said (LooksCell set index cell) w → cell ≡ suc page → has_cell set index page new.view.own.read ≡ true
read_cell set index cell page w new e is = ap (λ (x : Seen). has_cell set index page x.view.own.read) (e ∙ ap (λ (n : ℕ). after_said (LooksCell set index n) w) is)
    ∙ rw (eq-eqb set set refl, eq-eqb index index refl, eq-eqb page page refl) refl

-- a set that was seen empty
pub looked_empty : (set head tail : ℕ) (w new : Seen) → new ≡ after_said (Looks set head tail) w → head ≡ tail → 0 < many (is_seen_empty set) new.view.own.log
looked_empty set head tail w new e same = subst (λ (x : Seen). 0 < many (is_seen_empty set) x.view.own.log) (sym e)
    (let z = ap one_if (let y : (eqb set set && eqb head tail) ≡ true = rw (eq-eqb set set refl, eq-eqb head tail same) refl in y) in omega arith)

-- the log has no pop of a new span's page from a swept set, after its object was placed
pub untouched_sets : (w w1 w2 : Seen) (s b : Span) (i c : ℕ) → w1 ≡ after_of (Takes c) s w → w2 ≡ after_of (Places i) b w1 → (p q : ℕ) → q ≡ p → IsUntouched w.view.generation w.view.own p
    → (j : ℕ) → j < 544 → is_swept_set w2.view.generation j ≡ true → many (is_pop_of j q) w2.view.own.log ≡ 0
untouched_sets w w1 w2 s b i c e1 e2 p q same u j l swept =
    let all : w2 ≡ after_of (Places i) b (after_of (Takes c) s w) = e2 ∙ ap (after_of (Places i) b) e1 in
    subst (λ (x : Seen). many (is_pop_of j q) x.view.own.log ≡ 0) (sym all)
    (let z = subst (λ (r : ℕ). many (is_pop_of j r) w.view.own.log ≡ 0) (sym same) (u.pops j l (ap (λ (x : Seen). is_swept_set x.view.generation j) (sym all) ∙ swept)) in omega arith)
