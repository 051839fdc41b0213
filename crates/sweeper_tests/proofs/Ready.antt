-- A call of sweeper leaves a hand as the rows ask it.
use Rattle.std.proofs.Common.{◌≡◌, List, [], ◌∷◌, true, refl, ap, sym, subst, ◌∙◌, ℕ, ◌<◌, ◌++◌, ◌&&◌, ◌||◌, eqb, false, true≢false, inl, inr, length, arith}
use Rattle.std.specs.Prelude.{◌≢◌, All, None, Option, Ok, Err, OnErr, OnOk, Result}
use Rattle.std.proofs.lemmas.Bool.{cases_Bool, eqb-true}
use Rattle.std.proofs.lemmas.List.Elements.{All-push}
use mathlib.Core.Logic.{dite}
use native.Mathlib.Decide.{ℕ_discrete}
use Rattle.fallible_list.specs.declared.list.NoMemory.{NoMemory}
use Rattle.atomic_table.specs.Seated.{TableId}
use Rattle.profile_cycle.specs.History.{RingId, Standing, calls, first_view}
use Rattle.profile_cycle.specs.declared.calls.What.TheVariants.{AfterSweep, Freed, NextCycle}
use Rattle.page_bitmap.specs.declared.line.Line.{Line}
use Rattle.worker_log.specs.declared.Entry.{Entry}
use Rattle.span_state.specs.MarkSet.{MarkSet, dead_of, has_pair, is_marked}
use Rattle.span_state.specs.declared.body.Body.{Body}
use Rattle.span_state.specs.declared.sweep.SweepNote.{SweepNote}
use Rattle.span_laws.specs.declared.answers.Refused.{Refused}
use Rattle.span_laws.specs.declared.answers.Refused.TheVariants.{NoRun, NoMemory as WantsMemory}
use Rattle.span_laws.specs.declared.said.Said.TheVariants.{Adds}
use Rattle.span_laws.specs.Asks.{IsAtWork, IsIdle}
use Rattle.span_laws.specs.Logs.{is_placing_at}
use Rattle.span_laws.specs.Views.{Seen, acts}
use Rattle.span_laws.specs.OwnSteps.{after_said}
use Rattle.span_laws.specs.declared.view.Part.{Part}
use Rattle.worker_log.specs.Entries.{many}
use Rattle.span_table_tests.specs.Rows.{HasPlaced, IsFreeDriver, IsIdleDriver, KeepsPlaced}
use Rattle.span_table_tests.proofs.Driving.{own_of}
use Rattle.span_set.specs.Tallies.{Frees, frees_all, freeing}
use Rattle.span_set.specs.declared.hand.Hand.{Hand}
use Rattle.span_set.proofs.Asks.{works_still}
use Rattle.sweeper.proofs.Again.{stays_works}
use Rattle.sweeper.specs.NewSpans.{MakesSpan}
use Rattle.sweeper.specs.Pays.{Pays}
use Rattle.sweeper.specs.Reclaims.{Reclaims}
use Rattle.sweeper.specs.Sweeps.{Finishes, SweepsOne}
use Rattle.sweeper.specs.Work.{HandSweeps}
use Rattle.sweeper.specs.declared.answers.SweptOne.{SweptOne}
use Rattle.sweeper.specs.declared.answers.SweptOne.TheVariants.{Swept, NothingLeft}
use Rattle.sweeper.specs.declared.answers.Paid.{Paid}
use Rattle.sweeper.specs.declared.answers.Paid.TheVariants.{Reached, NothingLeft as NoneLeft}
use Rattle.sweeper_tests.specs.Rows.{IsReady, IsStage}

-- frees leave who drives and how many tallies are out
module _ {X : Type 0} (of : Standing → X) (keeps : (t : Standing) (b : ℕ) → of (calls t (Freed b)) ≡ of t) where
  kept_all : (xs : List ℕ) (t : Standing) → of (frees_all xs t) ≡ of t
  kept_all [] t = refl
  kept_all (x ∷ xs) t = kept_all xs (calls t (Freed x)) ∙ keeps t x

  kept_freeing : (m : MarkSet) (notes : List SweepNote) (t : Standing) → of (freeing m notes t) ≡ of t
  kept_freeing m [] t = refl
  kept_freeing m (n ∷ notes) t = kept_freeing m notes (frees_all (dead_of m n.page) t) ∙ kept_all (dead_of m n.page) t

module _ (table : TableId) (ring : RingId) (m : MarkSet) (old new : Hand) (f : Frees m old new) (r : IsReady table ring m old) where
  ready_after : (more : List ℕ) (P : List Entry → Type 0) → HandSweeps more P old new → IsReady table ring m new
  ready_after more P w = let s = w.does.stays in record {
    works = stays_works table ring m old new s f r.works;
    unclaimed = s.claimed ∙ r.unclaimed;
    unpopped = w.popped;
    drives = ap (λ (t : Standing). t.view.drives) f.tally ∙ kept_freeing (λ t. t.view.drives) (λ t b. refl) m f.more old.tally ∙ r.drives;
    alone = ap (λ (t : Standing). t.view.out) f.tally ∙ kept_freeing (λ t. t.view.out) (λ t b. refl) m f.more old.tally ∙ r.alone;
    two = r.two;
  }

  -- the worker's own part changed, has claimed nothing and has popped nothing
  pub ready_stays : (known : Option (List Line)) (part : Part) → new.worker ≡ record old.worker { journal = known; view = acts old.worker.view part } → part.claimed ≡ None → part.popped ≡ [] → IsReady table ring m new
  ready_stays known part e free none = record {
    works = works_still table ring m old new (ap (λ (w : Seen). w.table) e) (ap (λ (w : Seen). w.away) e) (ap (λ (w : Seen). w.view.marks) e) f r.works;
    unclaimed = ap (λ (w : Seen). w.view.own.claimed) e ∙ free;
    unpopped = ap (λ (w : Seen). w.view.own.popped) e ∙ none;
    drives = ap (λ (t : Standing). t.view.drives) f.tally ∙ kept_freeing (λ t. t.view.drives) (λ t b. refl) m f.more old.tally ∙ r.drives;
    alone = ap (λ (t : Standing). t.view.out) f.tally ∙ kept_freeing (λ t. t.view.out) (λ t b. refl) m f.more old.tally ∙ r.alone;
    two = r.two;
  }

  -- whatever the call answers
  pub ready_swept : (a : Result SweptOne NoMemory) → SweepsOne old new a → IsReady table ring m new
  ready_swept (Ok (Swept note)) w = ready_after _ _ w.2
  ready_swept (Ok NothingLeft) w = ready_after _ _ w
  ready_swept (Err e) same = subst (IsReady table ring m) (sym same) r

  pub ready_finished : (a : Result (Unit {0}) NoMemory) → Finishes old new a → IsReady table ring m new
  ready_finished (Ok done) w = ready_after _ _ w
  ready_finished (Err e) w = ready_after _ _ w

  pub ready_paid : (pages distance bytes credit : ℕ) (a : Result Paid NoMemory) → Pays pages distance bytes credit old new a → IsReady table ring m new
  ready_paid pages distance bytes credit (Ok (Reached seen target)) w = ready_after _ _ w
  ready_paid pages distance bytes credit (Ok NoneLeft) w = ready_after _ _ w
  ready_paid pages distance bytes credit (Err e) w = ready_after _ _ w

  pub ready_reclaimed : (asked : ℕ) (a : Result ℕ NoMemory) → Reclaims asked old new a → IsReady table ring m new
  ready_reclaimed asked (Ok n) w = ready_after _ _ w
  ready_reclaimed asked (Err e) w = ready_after _ _ w

  pub ready_made : (n class : ℕ) (a : Result Body Refused) → MakesSpan n class old new a → IsReady table ring m new
  ready_made n class (Ok b) w = ready_after _ _ w.1
  ready_made n class (Err (NoRun line)) w = ready_after _ _ w.1
  ready_made n class (Err WantsMemory) w = ready_after _ _ w

module _ (table : TableId) (ring : RingId) (m : MarkSet) (h : Hand) (r : IsReady table ring m h) where
  -- bytes were spent
  pub ready_spent : (before bytes : ℕ) (w : Seen) → w ≡ after_said (Adds 3 before bytes) h.worker → IsReady table ring m (record h { worker = w })
  ready_spent before bytes w e = subst (λ (x : Seen). IsReady table ring m (record h { worker = x })) (sym e)
      (record { works = record { works = r.works.works; marks = r.works.marks; counts = r.works.counts }; unclaimed = r.unclaimed; unpopped = r.unpopped; drives = r.drives; alone = r.alone; two = r.two })

  -- the driver's tally published, and was read
  module _ (ring' : RingId) (t t' : Standing) (same : ring' ≡ ring) (read : t' ≡ t) where
    published : (t0 : Standing) → t ≡ t0 → t0.ring ≡ ring → t0.view.drives ≡ true → t0.view.out ≡ 0 → IsReady table ring' m (record h { tally = t' })
    published t0 e of drives alone = subst (λ (x : RingId). IsReady table x m (record h { tally = t' })) (sym same)
        (subst (λ (x : Standing). IsReady table ring m (record h { tally = x })) (sym (read ∙ e))
        (record { works = record { works = r.works.works; marks = r.works.marks; counts = record { ring = of; dead = r.works.counts.dead } }; unclaimed = r.unclaimed; unpopped = r.unpopped; drives = drives; alone = alone; two = r.two }))

    pub ready_published : t ≡ calls h.tally AfterSweep → IsReady table ring' m (record h { tally = t' })
    ready_published e = published (calls h.tally AfterSweep) e r.works.counts.ring r.drives r.alone

    pub ready_turned : t ≡ calls h.tally NextCycle → IsReady table ring' m (record h { tally = t' })
    ready_turned e = published (calls h.tally NextCycle) e r.works.counts.ring r.drives r.alone

  -- a sampled object died
  pub ready_dead : (page bucket : ℕ) (m' : MarkSet) (a : Result (Unit {0}) NoMemory) → bucket < 2 → OnOk a (dead_of m' page ≡ dead_of m page ++ bucket ∷ []) → OnOk a ((q : ℕ) → q ≢ page → dead_of m' q ≡ dead_of m q) → m'.pairs ≡ m.pairs → OnErr a (m' ≡ m) → IsReady table ring m' h
  ready_dead page bucket m' (Err e) low here others pairs same = subst (λ (x : MarkSet). IsReady table ring x h) (sym same) r
  ready_dead page bucket m' (Ok done) low here others pairs same =
      record { works = record { works = r.works.works; marks = pairs ∙ r.works.marks; counts = record { ring = r.works.counts.ring; dead = each } }; unclaimed = r.unclaimed; unpopped = r.unpopped; drives = r.drives; alone = r.alone; two = r.two }
    where
      each : (q : ℕ) → All (λ b. b < ring.buckets) (dead_of m' q)
      each q = dite (ℕ_discrete q page)
          (λ e. subst (λ (x : ℕ). All (λ b. b < ring.buckets) (dead_of m' x)) (sym e) (subst (λ (xs : List ℕ). All (λ b. b < ring.buckets) xs) (sym here)
          (All-push (λ b. b < ring.buckets) (dead_of m page) bucket (r.works.counts.dead page) (let t = r.two in omega arith))))
          (λ d. subst (λ (xs : List ℕ). All (λ b. b < ring.buckets) xs) (sym (others q d)) (r.works.counts.dead q))

-- ---- before the first mark end

pub stage_start : (table : TableId) (m : MarkSet) (w : Seen) → IsFreeDriver table w → w.view.generation ≡ 4 → m.pairs ≡ [] → ((page : ℕ) → dead_of m page ≡ []) → IsStage table m w
stage_start table m w free four none dead = record { free = free; generation = four; placed = λ p k h. absurd (true≢false (sym h ∙ ap (λ (l : List (ℕ × ℕ)). has_pair l p k) none)); dead = dead }

module _ (table : TableId) (m : MarkSet) (w w' : Seen) (page : ℕ) (s : IsStage table m w) (free : IsFreeDriver table w') (placed : HasPlaced page w') (keeps : KeepsPlaced w w') (same : w'.view.generation ≡ w.view.generation) where
  pub stage_placed : IsStage table m w'
  stage_placed = record { free = free; generation = same ∙ s.generation; placed = λ p k h. keeps p k (s.placed p k h); dead = s.dead }

  pub stage_marked : (m' : MarkSet) (a : Result (Unit {0}) NoMemory) → OnOk a ((q k : ℕ) → is_marked m' q k ≡ (is_marked m q k || (eqb q page && eqb k 0))) → m'.deaths ≡ m.deaths → OnOk a (IsStage table m' w')
  stage_marked m' (Err e) marked deaths = tt
  stage_marked m' (Ok done) marked deaths = record {
    free = free;
    generation = same ∙ s.generation;
    placed = λ p k h. of p k (sym (marked p k) ∙ h);
    dead = λ q. ap (λ (d : List (ℕ × List ℕ)). dead_of (record { pairs = []; deaths = d }) q) deaths ∙ s.dead q;
  }
    where
      new : (p k : ℕ) → (eqb p page && eqb k 0) ≡ true → 0 < many (is_placing_at p k) w'.view.own.log
      new p k h = elim (cases_Bool (eqb p page)) [
        | inl on ↦ (let i : eqb k 0 ≡ true = rw on at h in
            subst (λ (x : ℕ). 0 < many (is_placing_at x k) w'.view.own.log) (sym (eqb-true p page on)) (subst (λ (x : ℕ). 0 < many (is_placing_at page x) w'.view.own.log) (sym (eqb-true k 0 i)) placed))
        | inr off ↦ (let i : false ≡ true = rw off at h in absurd (true≢false (sym i)))
      ]

      of : (p k : ℕ) → (is_marked m p k || (eqb p page && eqb k 0)) ≡ true → 0 < many (is_placing_at p k) w'.view.own.log
      of p k h = elim (cases_Bool (is_marked m p k)) [
        | inl on ↦ keeps p k (s.placed p k on)
        | inr off ↦ new p k (rw off at h)
      ]

-- a hand is made for a worker that has nothing
pub ready_hand : (table : TableId) (ring : RingId) (m : MarkSet) (h : Hand) (w : Seen) → IsAtWork table w → IsIdle w.view.own → w.view.marks ≡ m.pairs → ((page : ℕ) → dead_of m page ≡ []) → h.worker ≡ w → h.tally ≡ record { ring = ring; view = first_view } → ring.buckets ≡ 2 → IsReady table ring m h
ready_hand table ring m h w works idle marks dead worker tally two = record {
  works = record {
    works = (ap (λ (x : Seen). x.table) worker ∙ works.0, ap (λ (x : Seen). x.away) worker ∙ works.1);
    marks = sym marks ∙ ap (λ (x : Seen). x.view.marks) (sym worker);
    counts = record { ring = ap (λ (t : Standing). t.ring) tally; dead = λ q k d l. absurd (let e = ap (λ (xs : List ℕ). length xs) (dead q) in omega arith) };
  };
  unclaimed = ap (λ (x : Seen). x.view.own.claimed) worker ∙ idle.claimed;
  unpopped = ap (λ (x : Seen). x.view.own.popped) worker ∙ idle.popped;
  drives = ap (λ (t : Standing). t.view.drives) tally;
  alone = ap (λ (t : Standing). t.view.out) tally;
  two = two;
}

-- a hand is made for the driver
pub ready_start : (table : TableId) (ring : RingId) (m : MarkSet) (h : Hand) (w : Seen) → IsIdleDriver table w → w.view.marks ≡ m.pairs → ((page : ℕ) → dead_of m page ≡ []) → h.worker ≡ w → h.tally ≡ record { ring = ring; view = first_view } → ring.buckets ≡ 2 → IsReady table ring m h
ready_start table ring m h w free marks dead worker tally two = ready_hand table ring m h w free.works (own_of table w free) marks dead worker tally two
