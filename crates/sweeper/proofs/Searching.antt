-- Entries are popped one after another, and sets gone through one after another.
use Rattle.std.proofs.Common.{◌≡◌, ℕ, ◌+◌, ◌*◌, ◌-◌, ◌/◌, ◌%◌, ◌^◌, ◌<◌, ◌≤◌, eq-eqb, ne_eqb, eqb, true, false, List, [], ◌∷◌, ◌++◌, ap, sym, subst, ◌∙◌, arith}
use Rattle.std.specs.Prelude.{Some, None, Ok}
use mathlib.Core.Logic.{dite}
use native.Mathlib.Decide.{ℕ_discrete, dec_le}
use Rattle.page_bitmap.specs.Counts.{one_if}
use Rattle.span_state.specs.declared.sweep.SweepNote.{SweepNote}
use Rattle.sweep_laws.specs.Reading.{is_swept_set}
use Rattle.worker_log.specs.declared.Entry.{Entry}
use Rattle.worker_log.specs.declared.Entry.TheVariants.{Looked}
use Rattle.worker_log.specs.Logs.{sweepings}
use Rattle.worker_log.specs.Entries.{is_pop, is_seen_empty, many}
use Rattle.worker_log.proofs.Logs.{many-append}
use Rattle.span_laws.specs.TakeAnswers.{cycle_at}
use Rattle.span_set.specs.declared.hand.Hand.{Hand}
use Rattle.span_laws.specs.Scans.{FindsUnswept, SeesEmpty, nth_unswept}
use Rattle.span_laws.specs.Views.{Seen}
use Rattle.span_laws.proofs.Scans.{nth_unswept_off}
use Rattle.sweeper.specs.Tries.{DropsSome, SawSome, SweepsNext, SweepsNone, TriesEntry}
use Rattle.sweeper.specs.Sweeps.{SweepsOne, SweepsSpan}
use Rattle.sweeper.specs.Work.{IsPlain, SawAllEmpty, HandSweeps, note_by}
use Rattle.sweeper.specs.declared.answers.SweptOne.TheVariants.{Swept, NothingLeft}
use Rattle.sweeper.specs.declared.sweep.Tried.TheVariants.{Swept as WasSwept, Gone, Empty}
use Rattle.sweeper.proofs.Counting.{none-append, nothing-none, some-new, some-old}
use Rattle.sweeper.proofs.Passing.{empty_looks, logs_works, looks_empty, looks_more}
use Rattle.sweeper.proofs.Popping.{swept_more}
use Rattle.sweeper.proofs.Working.{works-as, works-both, works-nothing}

-- a call of this crate leaves what the next one asks
module _ (P : List Entry → Type 0) (a b : Hand) (w : HandSweeps [] P a b) where
  pub still_gen : b.worker.view.generation ≡ a.worker.view.generation
  still_gen = w.does.stays.generation

  -- what the log of both has, the part has
  pub many_below : (k n : ℕ) → n ≤ many (is_pop k) w.said → many (is_pop k) b.worker.view.own.log ≤ 2 ^ 32 → n ≤ 2 ^ 32
  many_below k n l f = let x = many-append (is_pop k) w.said a.worker.view.own.log in let y = ap (many (is_pop k)) w.does.log in omega arith

-- one set
module _ (k : ℕ) (old : Hand) where
  pub drops_none : (now : Hand) → now ≡ old → old.worker.view.own.popped ≡ [] → DropsSome k 0 old now
  drops_none now e none = record { works = works-nothing (λ said. SweepsNone said × (0 ≤ many (is_pop k) said)) old now (ap (λ (h : Hand). h.worker) e) (ap (λ (h : Hand). h.notes.items) e) none (nothing-none, omega arith); notes = ap (λ (h : Hand). h.notes) e; few = omega arith }

  module _ (n : ℕ) (now new : Hand) (d : DropsSome k n old now) (k' : ℕ) (same : k' ≡ k) where
    pub drops_more : TriesEntry k' now new Gone → DropsSome k (n + 1) old new
    drops_more t =
        let t' : TriesEntry k now new Gone = subst (λ (x : ℕ). TriesEntry x now new Gone) same t in
        let w = works-both (λ said. SweepsNone said × (n ≤ many (is_pop k) said)) (λ said. SweepsNone said × (0 < many (is_pop k) said)) (λ said. SweepsNone said × (n + 1 ≤ many (is_pop k) said)) [] old now new d.works t'.0
        (λ x y p q. (none-append y x q.0 p.0, let a = many-append (is_pop k) y x in let b = p.1 in let e = q.1 in omega arith)) in
        record { works = w; notes = t'.1 ∙ d.notes; few = many_below (λ said. SweepsNone said × (n + 1 ≤ many (is_pop k) said)) old new w k (n + 1) w.did.1 t'.2 }

    pub next_swept : (note : SweepNote) → TriesEntry k' now new (WasSwept note) → SweepsNext k old new (Some note)
    next_swept note t =
        let t' : TriesEntry k now new (WasSwept note) = subst (λ (x : ℕ). TriesEntry x now new (WasSwept note)) same t in
        let g = old.worker.view.generation in let gen : now.worker.view.generation ≡ g = d.works.does.stays.generation in (
          t'.0,
          t'.1 ∙ ap (λ (m : ℕ). note_by (cycle_at m) t'.0) gen,
          works-both (λ said. SweepsNone said × (n ≤ many (is_pop k) said)) (λ said. SweepsSpan now.worker.view.generation t'.0 said × (0 < many (is_pop k) said)) (λ said. SweepsSpan g t'.0 said × (0 < many (is_pop k) said)) [] old now new d.works t'.2
              (λ x y p q. (swept_more g t'.0 y x (subst (λ (m : ℕ). SweepsSpan m t'.0 y) gen q.0) p.0, some-new (is_pop k) y x q.1)),
          t'.3,
        )

    pub next_none : TriesEntry k' now new Empty → SweepsNext k old new None
    next_none t =
        let t' : TriesEntry k now new Empty = subst (λ (x : ℕ). TriesEntry x now new Empty) same t in (
          works-both (λ said. SweepsNone said × (n ≤ many (is_pop k) said)) (λ said. SweepsNone said × (0 < many (is_seen_empty k) said)) (λ said. SweepsNone said × (0 < many (is_seen_empty k) said)) [] old now new d.works t'.0
              (λ x y p q. (none-append y x q.0 p.0, some-new (is_seen_empty k) y x q.1)),
          t'.1 ∙ d.notes,
        )

-- the sets in their order
pub one_less : (i : ℕ) → one_if (eqb (i % 2) 0) ≡ 1 - i % 2
one_less i = dite (ℕ_discrete (i % 2) 0) (λ e. rw (eq-eqb (i % 2) 0 e) (omega arith)) (λ d. rw (ne_eqb (i % 2) 0 d) (omega arith))

-- each unswept set is one of the 272
pub nth_is : (g k : ℕ) → k < 544 → is_swept_set g k ≡ false → (i : ℕ) × (i < 272) × (nth_unswept g i ≡ k)
nth_is g k l u = (2 * (k / 4) + (1 - (k / 2) % 2), omega arith, (let d = other_part in omega arith))
  where
    other_part : k % 2 ≡ (g / 2 + 1) % 2
    other_part = dite (ℕ_discrete (k % 2) ((g / 2) % 2)) (λ e. absurd (Rattle.std.proofs.Common.true≢false (sym (eq-eqb (k % 2) ((g / 2) % 2) e) ∙ u))) (λ d. omega arith)

pub saw_all : (g : ℕ) (said : List Entry) → SawSome g 272 said → SawAllEmpty g said
saw_all g said s k l u = let n = nth_is g k l u in subst (λ (x : ℕ). 0 < many (is_seen_empty x) said) n.2 (s n.0 n.1)

pub saw_more : (g n : ℕ) (xs ys : List Entry) → SawSome g n ys → 0 < many (is_seen_empty (nth_unswept g n)) xs → SawSome g (n + 1) (xs ++ ys)
saw_more g n xs ys s l i low = dite (ℕ_discrete i n)
    (λ e. some-new (is_seen_empty (nth_unswept g i)) xs ys (subst (λ (x : ℕ). 0 < many (is_seen_empty (nth_unswept g x)) xs) (sym e) l))
    (λ d. some-old (is_seen_empty (nth_unswept g i)) xs ys (s i (omega arith)))

-- the sets behind them were seen empty, too
pub saw_on : (g n to : ℕ) (xs ys : List Entry) → SawSome g n ys → SeesEmpty g n to xs → SawSome g to (xs ++ ys)
saw_on g n to xs ys s e i low = dite (dec_le n i)
    (λ l. some-new (is_seen_empty (nth_unswept g i)) xs ys (e.whole i l low))
    (λ l. some-old (is_seen_empty (nth_unswept g i)) xs ys (s i (omega arith)))

-- what is kept by looks
module _ (P : List Entry → Type 0) (grow : (xs ys : List Entry) → SweepsNone xs → P ys → P (xs ++ ys)) (old : Hand) (n : ℕ) (now : Hand) (d : HandSweeps [] (λ said. P said × SawSome old.worker.view.generation n said) old now) (w : Seen) where
  same_gen : now.worker.view.generation ≡ old.worker.view.generation
  same_gen = d.does.stays.generation

  -- all that were left are empty
  pub looks_past : FindsUnswept n now.worker w None → HandSweeps [] (λ said. P said × SawSome old.worker.view.generation 272 said) old (record now { worker = w })
  looks_past f = let g = now.worker.view.generation in let looks = empty_looks g f.0 f.1.only in
      works-both (λ said. P said × SawSome old.worker.view.generation n said) (λ s. s ≡ f.0) (λ said. P said × SawSome old.worker.view.generation 272 said) [] old now (record now { worker = w }) d
      (logs_works now f.0 w f.2 looks.sweeps looks.none.none d.popped)
      (λ x y p q. subst (λ (l : List Entry). P (l ++ x) × SawSome old.worker.view.generation 272 (l ++ x)) (sym q)
      (grow f.0 x looks.none p.0, saw_on old.worker.view.generation n 272 f.0 x p.1 (subst (λ (z : ℕ). SeesEmpty z n 272 f.0) same_gen f.1)))

  -- all up to one are empty
  pub looks_to : (i : ℕ) → FindsUnswept n now.worker w (Some i) → HandSweeps [] (λ said. P said × SawSome old.worker.view.generation i said) old (record now { worker = w })
  looks_to i f = let g = now.worker.view.generation in let j = nth_unswept g i in let looks = empty_looks g f.0 f.1.only in let e = Looked j f.4.0 f.4.1 in let said = e ∷ f.0 in let all = looks_more g e f.0 (looks_empty g j f.4.0 f.4.1 (nth_unswept_off g i)) looks in
      works-both (λ said. P said × SawSome old.worker.view.generation n said) (λ s. s ≡ said) (λ said. P said × SawSome old.worker.view.generation i said) [] old now (record now { worker = w }) d
      (logs_works now said w f.4.3 all.sweeps all.none.none d.popped)
      (λ x y p q. subst (λ (l : List Entry). P (l ++ x) × SawSome old.worker.view.generation i (l ++ x)) (sym q)
      (grow said x all.none p.0, λ k l. some-new-one k l x (saw_on old.worker.view.generation n i f.0 x p.1 (subst (λ (z : ℕ). SeesEmpty z n i f.0) same_gen f.1) k l)))
    where
      some-new-one : (k : ℕ) → k < i → (x : List Entry) → 0 < many (is_seen_empty (nth_unswept old.worker.view.generation k)) (f.0 ++ x) → 0 < many (is_seen_empty (nth_unswept old.worker.view.generation k)) (Looked (nth_unswept now.worker.view.generation i) f.4.0 f.4.1 ∷ (f.0 ++ x))
      some-new-one k l x m = omega arith

module _ (old : Hand) where
  pub finds_none : (now : Hand) → now.worker ≡ old.worker → now.notes.items ≡ old.notes.items → old.worker.view.own.popped ≡ [] → HandSweeps [] (λ said. SweepsNone said × SawSome old.worker.view.generation 0 said) old now
  finds_none now e m none = works-nothing (λ said. SweepsNone said × SawSome old.worker.view.generation 0 said) old now e m none (nothing-none, λ i l. absurd (omega arith))

  module _ (n : ℕ) (now new : Hand) (d : HandSweeps [] (λ said. SweepsNone said × SawSome old.worker.view.generation n said) old now) (k : ℕ) (same : k ≡ nth_unswept old.worker.view.generation n) where
    pub finds_more : SweepsNext k now new None → HandSweeps [] (λ said. SweepsNone said × SawSome old.worker.view.generation (n + 1) said) old new
    finds_more t = works-both (λ said. SweepsNone said × SawSome old.worker.view.generation n said) (λ said. SweepsNone said × (0 < many (is_seen_empty k) said)) (λ said. SweepsNone said × SawSome old.worker.view.generation (n + 1) said) [] old now new d t.0
        (λ x y p q. (none-append y x q.0 p.0, saw_more old.worker.view.generation n y x p.1 (subst (λ (z : ℕ). 0 < many (is_seen_empty z) y) same q.1)))

    pub one_swept : (note : SweepNote) → SweepsNext k now new (Some note) → SweepsOne old new (Ok (Swept note))
    one_swept note t = let g = old.worker.view.generation in let gen : now.worker.view.generation ≡ g = d.does.stays.generation in (
      t.0,
      t.1 ∙ ap (λ (m : ℕ). note_by (cycle_at m) t.0) gen,
      works-both (λ said. SweepsNone said × SawSome g n said) (λ said. SweepsSpan now.worker.view.generation t.0 said × (0 < many (is_pop k) said)) (SweepsSpan g t.0) [] old now new d t.2
          (λ x y p q. swept_more g t.0 y x (subst (λ (m : ℕ). SweepsSpan m t.0 y) gen q.0) p.0),
    )

  pub all_seen : (now : Hand) → HandSweeps [] (λ said. SweepsNone said × SawSome old.worker.view.generation 272 said) old now → SweepsOne old now (Ok NothingLeft)
  all_seen now w = works-as (λ said. SweepsNone said × SawSome old.worker.view.generation 272 said) (λ said. (sweepings said ≡ []) × IsPlain said × SawAllEmpty old.worker.view.generation said) [] old now w
      (λ s p. (p.0.none, p.0.plain, saw_all old.worker.view.generation s p.1))
