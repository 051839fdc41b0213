-- The run of two processors is closed: each cycle has its facts.
use Rattle.std.proofs.Common.{◌≡◌, ◌≢◌, ℕ, zero, suc, ◌+◌, ◌*◌, ◌<◌, ◌≤◌, true, false, ◌&&◌, ◌||◌, not, eqb, List, [], ◌∷◌, ◌++◌, None, refl, sym, ◌∙◌, ap, arith, ◌⊎◌, inl, inr}
use Rattle.std.proofs.lemmas.Bool.{eqb-true, ne_eqb, and_parts, or_cases, or_right}
use Rattle.page_bitmap.specs.declared.line.Line.{Line}
use Rattle.page_bitmap.specs.declared.line.Line.TheVariants.{Take}
use Rattle.size_classes.specs.Classes.{pages_of, slot_of, objects_of}
use Rattle.page_alloc.specs.Lists.{In, AllApart}
use Rattle.page_alloc.specs.Owners.{owner}
use Rattle.page_alloc.specs.Lives.{Life, life_of, open_lives}
use Rattle.page_alloc.specs.FreeRuns.{IsSpanSize, IsFirstFit}
use Rattle.page_alloc.specs.Journal.{Legal, cycle_of}
use Rattle.page_alloc.proofs.BlocksOut.{keeps-none, legal-more}
use Rattle.page_alloc.proofs.Lives.{within-false}
use Rattle.span_state.specs.Bits.{count_below}
use Rattle.span_state.specs.declared.sweep.SweepNote.{SweepNote}
use Rattle.cycle_history.specs.declared.Answer.TheVariants.{Placed}
use Rattle.cycle_history.specs.Needs.{Need}
use Rattle.cycle_history.specs.Objects.{Object}
use Rattle.sound_run.specs.Run.{count_for, Fits, Lasts}
use Rattle.sound_run.specs.Spans.{AreMarks}
use Rattle.cycle_history.proofs.Plain.{scavenged-roomy}
use Rattle.run_laws.specs.Lists.{ArePaired}
use Rattle.worker_log.specs.declared.Placing.{Placing}
use Rattle.worker_log.specs.declared.Sweeping.{Sweeping}
use Rattle.worker_log.specs.Logs.{Refusal, placings, sweepings, refusals}
use Rattle.run_laws.specs.CycleSoFar.{past_after}
use Rattle.run_laws.specs.SweepFacts.{Sweeps, Notes, TellsOf}
use Rattle.run_laws.specs.PlacingFacts.{Places, Holdings, Fills, IsPlacedAt, IsIn}
use Rattle.run_laws.specs.ObjectFacts.{Objects, IsPlacing, IsRefusal, missed_by}
use Rattle.run_laws.specs.Facts.{Writes, Facts, IsSweptEmpty}
use Rattle.cycle_history.specs.Profile.{placed_by}
use Rattle.run_laws.specs.Reached.{Began, Reached}
use Rattle.run_laws.proofs.Law.{cycle-law}
use Rattle.run_laws.proofs.Ends.{began-first, began-next}
use Rattle.run_laws_tests.specs.TwoWorkers.{All, marked, small, large, object, first, lines0, logs0, bits0, none, cycle0, Open0, lines1, logs1, marks1, bits1, second, note, notes1, cycle1, Open1}

-- ---- all items of a list

pub each : {X : Type 0} (P : X → Type 0) (xs : List X) → All P xs → (x : X) → In x xs → P x
each P [] all x h = absurd h
each P (y ∷ xs) all x h = elim h [ inl here ↦ rw (sym here) all.0 | inr there ↦ each P xs all.1 x there ]

-- ---- cycle 0

small_size : IsSpanSize 88 1
unfolding pages_of
small_size = ((λ two. ((omega arith, omega arith), refl)), λ less. absurd (omega arith))

large_size : IsSpanSize 1 5
large_size = ((λ two. absurd (omega arith)), λ less. omega arith)

fit0 : IsFirstFit 512 [] 0 1
fit0 = record { here = record { inside = omega arith; free = λ p low high. record { owner = refl; cached = refl } }; least = λ q lt. absurd (omega arith) }

fit1 : IsFirstFit 512 (Take 0 0 1 88 ∷ []) 1 1
fit1 = record {
  here = record { inside = omega arith; free = λ p low high. record { owner = rw (within-false p 0 1 (inr (omega arith))) refl; cached = refl } };
  least = λ q lt free. (let e : q ≡ 0 = omega arith in let h = (free.free q (omega arith) (omega arith)).owner in let h' : owner (Take 0 0 1 88 ∷ []) 0 ≡ None = rw e at h in cc);
}

fit2 : IsFirstFit 512 (Take 0 1 1 88 ∷ Take 0 0 1 88 ∷ []) 2 5
fit2 = record {
  here = record { inside = omega arith; free = λ p low high. record { owner = rw (within-false p 1 1 (inr (omega arith)), within-false p 0 1 (inr (omega arith))) refl; cached = refl } };
  least = λ q lt free. least q lt (free.free q (omega arith) (omega arith)).owner;
}
  where
    least : (q : ℕ) → q < 2 → owner (Take 0 1 1 88 ∷ Take 0 0 1 88 ∷ []) q ≡ None → ⊥
    least zero lt h = cc
    least (suc zero) lt h = cc
    least (suc (suc q)) lt h = omega arith

no_sweeps0 : (w : ℕ) (s : Sweeping) → In s (sweepings (logs0 w)) → ⊥
no_sweeps0 zero s h = h
no_sweeps0 (suc zero) s h = h
no_sweeps0 (suc (suc w)) s h = h

no_refusals0 : (w : ℕ) (x : Refusal) → In x (refusals (logs0 w)) → ⊥
no_refusals0 zero x h = h
no_refusals0 (suc zero) x h = h
no_refusals0 (suc (suc w)) x h = h

each0 : (P : (w : ℕ) → Placing → Type 0) → P 0 (record { page = 0; index = 0; number = 0; class = 88 }) → P 1 (record { page = 2; index = 0; number = 2; class = 1 })
    → P 1 (record { page = 1; index = 1; number = 1; class = 88 }) → P 1 (record { page = 1; index = 0; number = 1; class = 88 }) → (w : ℕ) (a : Placing) → In a (placings (logs0 w)) → P w a
each0 P p q r s zero a h = each (P 0) (placings (logs0 0)) (p, tt) a h
each0 P p q r s (suc zero) a h = each (P 1) (placings (logs0 1)) (q, (r, (s, tt))) a h
each0 P p q r s (suc (suc w)) a h = absurd h

pub lives0 : (P : Life → Type 0) → P (life_of 0 0 0 1 88) → P (life_of 1 0 1 1 88) → P (life_of 2 0 2 5 1) → (life : Life) → Open0 life → P life
lives0 P p q r life h = each P (open_lives (past_after cycle0)) (r, (q, (p, tt))) life h

legal0 : Legal 512 512 lines0
legal0 = ((large_size, fit2), omega arith, legal0_2, keeps-none 512 512 (Take 0 1 1 88 ∷ Take 0 0 1 88 ∷ []) (Take 0 2 5 1) legal0_2)
  where
    legal0_1 : Legal 512 512 (Take 0 0 1 88 ∷ [])
    legal0_1 = ((small_size, fit0), tt, tt, keeps-none 512 512 [] (Take 0 0 1 88) tt)

    legal0_2 : Legal 512 512 (Take 0 1 1 88 ∷ Take 0 0 1 88 ∷ [])
    legal0_2 = ((small_size, fit1), omega arith, legal0_1, keeps-none 512 512 (Take 0 0 1 88 ∷ []) (Take 0 1 1 88) legal0_1)

writes0 : Writes 512 512 cycle0
writes0 = record {
  legal = legal-more 0 64 512 512 lines0 (omega arith) legal0;
  now = each (λ (l : Line). cycle_of l ≡ 0) lines0 (refl, (refl, (refl, tt)));
  gives = tt;
}

places0 : Places cycle0 (open_lives (past_after cycle0))
unfolding objects_of
places0 = record {
  here = each0 (λ w a. (life : Life) × Open0 life × IsIn a life) (life_of 0 0 0 1 88, inr (inr (inl refl)), record { page = refl; class = refl }) (life_of 2 0 2 5 1, inl refl, record { page = refl; class = refl })
      (life_of 1 0 1 1 88, inr (inl refl), record { page = refl; class = refl }) (life_of 1 0 1 1 88, inr (inl refl), record { page = refl; class = refl });
  below = each0 (λ w a. a.index < count_for a.class) (omega arith) (omega arith) (omega arith) (omega arith);
  unmarked = λ w a h. refl;
  apart = apart;
  one_log = λ v w a b ha hb same. (let x = worker v a ha in let y = worker w b hb in omega arith);
}
  where
    apart : (w : ℕ) → AllApart (λ (a b : Placing). a.page ≡ b.page → a.index ≢ b.index) (placings (logs0 w))
    apart zero = ((λ y h. absurd h), tt)
    apart (suc zero) = (
      each (λ (b : Placing). 2 ≡ b.page → 0 ≢ b.index) (record { page = 1; index = 1; number = 1; class = 88 } ∷ record { page = 1; index = 0; number = 1; class = 88 } ∷ []) ((λ e. absurd (omega arith)), ((λ e. absurd (omega arith)), tt)),
      (each (λ (b : Placing). 1 ≡ b.page → 1 ≢ b.index) (record { page = 1; index = 0; number = 1; class = 88 } ∷ []) ((λ e s. (omega arith)), tt), ((λ y h. absurd h), tt)),
    )
    apart (suc (suc w)) = tt

    worker : (w : ℕ) (a : Placing) → In a (placings (logs0 w)) → ((w ≡ 0) × (a.page ≡ 0)) ⊎ ((w ≡ 1) × (1 ≤ a.page))
    worker = each0 (λ w a. ((w ≡ 0) × (a.page ≡ 0)) ⊎ ((w ≡ 1) × (1 ≤ a.page))) (inl (refl, refl)) (inr (refl, omega arith)) (inr (refl, omega arith)) (inr (refl, omega arith))

holdings0 : Holdings cycle0
holdings0 = record {
  from = λ life k h on. inr (lives0 (λ l. (k : ℕ) → bits0 l.page k ≡ true → IsPlacedAt logs0 l.page k)
      (λ k on. (0, _, inl refl, refl, sym (eqb-true k 0 on)))
      (λ k on. elim (or_cases (eqb k 0) (eqb k 1) on) [ inl is ↦ (1, _, inr (inr (inl refl)), refl, sym (eqb-true k 0 is)) | inr is ↦ (1, _, inr (inl refl), refl, sym (eqb-true k 1 is)) ])
      (λ k on. (1, _, inl refl, refl, sym (eqb-true k 0 on))) life h k on);
  marked = λ life k h on. cc;
  placed = each0 (λ w a. bits0 a.page a.index ≡ true) refl refl refl refl;
  some = lives0 (λ l. (k : ℕ) × (bits0 l.page k ≡ true)) (0, refl) (0, refl) (0, refl);
}

fills0 : (w : ℕ) → Fills none (placings (logs0 w))
fills0 zero = ((λ two. record { lowest = λ j lt. absurd (omega arith); left_full = λ b h. absurd h }), tt)
fills0 (suc zero) = (
  (λ two. absurd (omega arith)),
  (
    (λ two. record {
      lowest = λ j lt. (let e : 0 ≡ j = omega arith in inr (_, inl refl, refl, e));
      left_full = λ b h class other. elim h [ inl here ↦ absurd (other (ap (λ (x : Placing). x.page) (sym here))) | inr there ↦ absurd there ];
    }),
    (
      (λ two. record { lowest = λ j lt. absurd (omega arith); left_full = λ b h. absurd h }),
      tt,
    ),
  ),
)
fills0 (suc (suc w)) = tt

early : (id : ℕ) → (m : ℕ) → marked (suc m) id ≡ true → 0 ≡ m
early id m h = let e = eqb-true (suc m) 1 (and_parts (eqb (suc m) 1) (eqb id 0 || eqb id 2) h).0 in omega arith

small_fits : Fits small
unfolding slot_of objects_of
small_fits = record { some = omega arith; room = omega arith; slot = refl; count = refl }

large_fits : Fits large
large_fits = record { some = omega arith; room = omega arith; slot = refl; count = refl }

-- where the lives of a journal are numbered as their pages are, an object is placed in the life of the page
placing : (past : List Line) → ((life : Life) → In life (open_lives past) → life.number ≡ life.page) → (o : Object) (a : Placing) → a.page ≡ o.life → o.index ≡ a.index → o.need.class ≡ a.class
    → o.answer ≡ Placed (0xc000000000 + 8192 * a.page + o.need.slot * a.index) → IsPlacing past o a
placing past same o a l i c d = record { life = λ life h page. same life h ∙ page ∙ l; index = i; class = c; address = d }

placing0 : (o : Object) (a : Placing) → a.page ≡ o.life → o.index ≡ a.index → o.need.class ≡ a.class → o.answer ≡ Placed (0xc000000000 + 8192 * a.page + o.need.slot * a.index) → IsPlacing (past_after cycle0) o a
placing0 = placing (past_after cycle0) (lives0 (λ l. l.number ≡ l.page) refl refl refl)

objects0 : Objects marked [] cycle0
objects0 = record {
  now = each (λ (o : Object). o.cycle ≡ 0) first (refl, (refl, (refl, (refl, tt))));
  behind = λ o b h i. absurd i;
  order = (
    each (λ (o : Object). o.id < 3) (object 2 1 0 small 1 1 1 ∷ object 1 1 0 small 1 1 0 ∷ object 0 0 0 small 0 0 0 ∷ []) (omega arith, (omega arith, (omega arith, tt))),
    (
      each (λ (o : Object). o.id < 2) (object 1 1 0 small 1 1 0 ∷ object 0 0 0 small 0 0 0 ∷ []) (omega arith, (omega arith, tt)),
      (
        each (λ (o : Object). o.id < 1) (object 0 0 0 small 0 0 0 ∷ []) (omega arith, tt),
        ((λ o h. absurd h), tt),
      ),
    ),
  );
  lasts = each (Lasts marked) first (lasts 3 1 large 2 2 0, (lasts 2 1 small 1 1 1, (lasts 1 1 small 1 1 0, (lasts 0 0 small 0 0 0, tt))));
  fits = each (λ (o : Object). _ → Fits o.need) first ((λ p. large_fits), ((λ p. small_fits), ((λ p. small_fits), ((λ p. small_fits), tt))));
  placed = placed;
  missed = missed;
  pages = λ o life ho placed hl. each (λ (o : Object). (life : Life) → Open0 life → life.number ≡ o.life → life.pages ≡ o.need.pages) first (
    lives0 (λ l. l.number ≡ 2 → l.pages ≡ 5) (λ e. absurd (omega arith)) (λ e. absurd (omega arith)) (λ e. refl),
    (
      lives0 (λ l. l.number ≡ 1 → l.pages ≡ 1) (λ e. refl) (λ e. refl) (λ e. absurd (omega arith)),
      (
        lives0 (λ l. l.number ≡ 1 → l.pages ≡ 1) (λ e. refl) (λ e. refl) (λ e. absurd (omega arith)),
        (
          lives0 (λ l. l.number ≡ 0 → l.pages ≡ 1) (λ e. refl) (λ e. refl) (λ e. absurd (omega arith)),
          tt,
        ),
      ),
    ),
  ) o ho life hl;
}
  where
    lasts : (id proc : ℕ) (need : Need) (page life index : ℕ) → Lasts marked (object id proc 0 need page life index)
    lasts id proc need page life index = record { first = refl; next = λ m h. inl (early id m h) }

    placed : (w : ℕ) → ArePaired (IsPlacing (past_after cycle0)) (placed_by w first) (placings (logs0 w))
    placed zero = (placing0 _ _ refl refl refl refl, tt)
    placed (suc zero) = (placing0 _ _ refl refl refl refl, (placing0 _ _ refl refl refl refl, (placing0 _ _ refl refl refl refl, tt)))
    placed (suc (suc w)) = (let a : eqb 0 (suc (suc w)) ≡ false = ne_eqb 0 (suc (suc w)) (λ q. omega arith) in let b : eqb 1 (suc (suc w)) ≡ false = ne_eqb 1 (suc (suc w)) (λ q. omega arith) in rw (a, b) tt)

    missed : (w : ℕ) → ArePaired IsRefusal (missed_by w first) (refusals (logs0 w))
    missed zero = tt
    missed (suc zero) = tt
    missed (suc (suc w)) = (let a : eqb 0 (suc (suc w)) ≡ false = ne_eqb 0 (suc (suc w)) (λ q. omega arith) in let b : eqb 1 (suc (suc w)) ≡ false = ne_eqb 1 (suc (suc w)) (λ q. omega arith) in rw (a, b) tt)

facts0 : Facts marked 512 512 [] cycle0
facts0 = record {
  writes = writes0;
  sweeps = record { each = λ life h. absurd h; only = λ w s h. absurd (no_sweeps0 w s h); kept = λ w s life h. absurd (no_sweeps0 w s h); freed = λ w s life h. absurd (no_sweeps0 w s h) };
  notes = record { from = λ note h. absurd h; each = λ w s h. absurd (no_sweeps0 w s h); order = tt };
  marks = record { right = λ life h. absurd h; only = λ page k on. cc };
  places = places0;
  holdings = holdings0;
  fills = fills0;
  objects_are = objects0;
  misses = record { named = λ w x h. absurd (no_refusals0 w x h); apart = apart; one_log = λ v w x y h. absurd (no_refusals0 v x h) };
  scavenged = scavenged-roomy 512 512 (past_after cycle0) (omega arith);
}
  where
    apart : (w : ℕ) → AllApart (λ (x y : Refusal). x.number ≢ y.number) (refusals (logs0 w))
    apart zero = tt
    apart (suc zero) = tt
    apart (suc (suc w)) = tt

pub began1 : Began marked 512 512 1 lines0 first [] bits0
began1 = began-next marked 512 512 0 lines0 first [] bits0 (cycle-law marked 512 512 [] [] cycle0 (began-first marked 512 512 none) facts0)

-- ---- cycle 1

pub placings1 : (P : (w : ℕ) → Placing → Type 0) → P 1 (record { page = 1; index = 0; number = 1; class = 88 }) → (w : ℕ) (a : Placing) → In a (placings (logs1 w)) → P w a
placings1 P p zero a h = absurd h
placings1 P p (suc zero) a h = each (P 1) (placings (logs1 1)) (p, tt) a h
placings1 P p (suc (suc zero)) a h = absurd h
placings1 P p (suc (suc (suc w))) a h = absurd h

pub sweeps1 : (P : (w : ℕ) → Sweeping → Type 0) → P 0 (record { page = 0; pages = 1; kept = 1; freed = 0 }) → P 1 (record { page = 1; pages = 1; kept = 1; freed = 1 }) → P 2 (record { page = 2; pages = 1; kept = 0; freed = 1 })
    → (w : ℕ) (s : Sweeping) → In s (sweepings (logs1 w)) → P w s
sweeps1 P p q r zero s h = each (P 0) (sweepings (logs1 0)) (p, tt) s h
sweeps1 P p q r (suc zero) s h = each (P 1) (sweepings (logs1 1)) (q, tt) s h
sweeps1 P p q r (suc (suc zero)) s h = each (P 2) (sweepings (logs1 2)) (r, tt) s h
sweeps1 P p q r (suc (suc (suc w))) s h = absurd h

pub lives1 : (P : Life → Type 0) → P (life_of 0 0 0 1 88) → P (life_of 1 0 1 1 88) → (life : Life) → Open1 life → P life
lives1 P p q life h = each P (open_lives (past_after cycle1)) (q, (p, tt)) life h

no_refusals1 : (w : ℕ) (x : Refusal) → In x (refusals (logs1 w)) → ⊥
no_refusals1 zero x h = h
no_refusals1 (suc zero) x h = h
no_refusals1 (suc (suc zero)) x h = h
no_refusals1 (suc (suc (suc w))) x h = h

facts_sweeps1 : Sweeps cycle1
unfolding objects_of count_below
facts_sweeps1 = record {
  each = lives0 (λ l. (w : ℕ) × (s : Sweeping) × In s (sweepings (logs1 w)) × (s.page ≡ l.page)) (0, _, inl refl, refl) (1, _, inl refl, refl) (2, _, inl refl, refl);
  only = sweeps1 (λ w s. (life : Life) × In life (open_lives lines0) × (s.page ≡ life.page)) (_, inr (inr (inl refl)), refl) (_, inr (inl refl), refl) (_, inl refl, refl);
  kept = λ w s life h there. sweeps1 (λ w s. (life : Life) → Open0 life → s.page ≡ life.page → s.kept ≡ count_below (count_for life.class) (λ k. marks1 life.page k))
      (lives0 _ (λ e. refl) (λ e. absurd (omega arith)) (λ e. absurd (omega arith))) (lives0 _ (λ e. absurd (omega arith)) (λ e. refl) (λ e. absurd (omega arith)))
      (lives0 _ (λ e. absurd (omega arith)) (λ e. absurd (omega arith)) (λ e. refl)) w s h life there;
  freed = λ w s life h there. sweeps1 (λ w s. (life : Life) → Open0 life → s.page ≡ life.page → s.freed ≡ count_below (count_for life.class) (λ k. bits0 life.page k && not (marks1 life.page k)))
      (lives0 _ (λ e. refl) (λ e. absurd (omega arith)) (λ e. absurd (omega arith))) (lives0 _ (λ e. absurd (omega arith)) (λ e. refl) (λ e. absurd (omega arith)))
      (lives0 _ (λ e. absurd (omega arith)) (λ e. absurd (omega arith)) (λ e. refl)) w s h life there;
}

tells : (s : Sweeping) (n : SweepNote) → n.cycle ≡ 1 → n.page ≡ s.page → n.kept ≡ s.kept → n.freed ≡ s.freed → TellsOf 1 s n
tells s n c p k f = record { cycle = c; page = p; kept = k; freed = f }

facts_notes1 : Notes cycle1
facts_notes1 = record {
  from = each (λ (n : SweepNote). (w : ℕ) × (s : Sweeping) × In s (sweepings (logs1 w)) × TellsOf 1 s n) notes1
      ((2, record { page = 2; pages = 1; kept = 0; freed = 1 }, inl refl, tells _ _ refl refl refl refl), ((1, _, inl refl, tells _ _ refl refl refl refl), ((0, _, inl refl, tells _ _ refl refl refl refl), tt)));
  each = sweeps1 (λ w s. (n : SweepNote) × In n notes1 × TellsOf 1 s n) (_, inr (inr (inl refl)), tells _ _ refl refl refl refl) (_, inr (inl refl), tells _ _ refl refl refl refl) (_, inl refl, tells _ _ refl refl refl refl);
  order = (
    each (λ (n : SweepNote). n.page < 2) (note 1 1 1 ∷ note 0 1 0 ∷ []) (omega arith, (omega arith, tt)),
    (each (λ (n : SweepNote). n.page < 1) (note 0 1 0 ∷ []) (omega arith, tt), ((λ n h. absurd h), tt)),
  );
}

are_marks : (life : Life) → Open0 life → AreMarks marked 1 first life.number (λ k. marks1 life.page k)
are_marks = lives0 (λ l. AreMarks marked 1 first l.number (λ k. marks1 l.page k))
    (record {
      shown = λ o h p. each (λ (o : Object). marked 1 o.id ≡ true → o.life ≡ 0 → marks1 0 o.index ≡ true) first ((λ m e. cc), ((λ m e. absurd (omega arith)), ((λ m e. cc), ((λ m e. refl), tt)))) o h;
      from = λ k on. (object 0 0 0 small 0 0 0, inr (inr (inr (inl refl))), refl, refl, refl, sym (eqb-true k 0 on));
    })
    (record {
      shown = λ o h p. each (λ (o : Object). marked 1 o.id ≡ true → o.life ≡ 1 → marks1 1 o.index ≡ true) first ((λ m e. cc), ((λ m e. refl), ((λ m e. cc), ((λ m e. absurd (omega arith)), tt)))) o h;
      from = λ k on. (object 2 1 0 small 1 1 1, inr (inl refl), refl, refl, refl, sym (eqb-true k 1 on));
    })
    (record {
      shown = λ o h p. each (λ (o : Object). marked 1 o.id ≡ true → o.life ≡ 2 → marks1 2 o.index ≡ true) first ((λ m e. cc), ((λ m e. absurd (omega arith)), ((λ m e. cc), ((λ m e. absurd (omega arith)), tt)))) o h;
      from = λ k on. cc;
    })

marks_only : (page k : ℕ) → marks1 page k ≡ true → (life : Life) × In life (open_lives lines0) × (life.page ≡ page)
marks_only zero k on = (_, inr (inr (inl refl)), refl)
marks_only (suc zero) k on = (_, inr (inl refl), refl)
marks_only (suc (suc p)) k on = cc

places1 : Places cycle1 (open_lives (past_after cycle1))
unfolding objects_of
places1 = record {
  here = placings1 (λ w a. (life : Life) × Open1 life × IsIn a life) (life_of 1 0 1 1 88, inl refl, record { page = refl; class = refl });
  below = placings1 (λ w a. a.index < count_for a.class) (omega arith);
  unmarked = placings1 (λ w a. marks1 a.page a.index ≡ false) refl;
  apart = apart;
  one_log = λ v w a b ha hb same. (let x = placings1 (λ w a. w ≡ 1) refl v a ha in let y = placings1 (λ w a. w ≡ 1) refl w b hb in omega arith);
}
  where
    apart : (w : ℕ) → AllApart (λ (a b : Placing). a.page ≡ b.page → a.index ≢ b.index) (placings (logs1 w))
    apart zero = tt
    apart (suc zero) = ((λ y h. absurd h), tt)
    apart (suc (suc zero)) = tt
    apart (suc (suc (suc w))) = tt

holdings1 : Holdings cycle1
holdings1 = record {
  from = λ life k h on. lives1 (λ l. (k : ℕ) → bits1 l.page k ≡ true → (marks1 l.page k ≡ true) ⊎ IsPlacedAt logs1 l.page k)
      (λ k on. inl on)
      (λ k on. elim (or_cases (eqb k 0) (eqb k 1) on) [ inl is ↦ inr (1, _, inl refl, refl, sym (eqb-true k 0 is)) | inr is ↦ inl is ]) life h k on;
  marked = λ life k h on. lives1 (λ l. (k : ℕ) → marks1 l.page k ≡ true → bits1 l.page k ≡ true) (λ k on. on) (λ k on. or_right (eqb k 0) (eqb k 1) on) life h k on;
  placed = placings1 (λ w a. bits1 a.page a.index ≡ true) refl;
  some = lives1 (λ l. (k : ℕ) × (bits1 l.page k ≡ true)) (0, refl) (0, refl);
}

fills1 : (w : ℕ) → Fills marks1 (placings (logs1 w))
fills1 zero = tt
fills1 (suc zero) = ((λ two. record { lowest = λ j lt. absurd (omega arith); left_full = λ b h. absurd h }), tt)
fills1 (suc (suc zero)) = tt
fills1 (suc (suc (suc w))) = tt

objects1 : Objects marked first cycle1
objects1 = record {
  now = each (λ (o : Object). o.cycle ≡ 1) second (refl, tt);
  behind = λ o b h i. (let high = each (λ (o : Object). o.id ≡ 4) second (refl, tt) o h in let low = each (λ (o : Object). o.id < 4) first (omega arith, (omega arith, (omega arith, (omega arith, tt)))) b i in omega arith);
  order = ((λ o h. absurd h), tt);
  lasts = each (Lasts marked) second (record { first = refl; next = λ m h. (let never : false ≡ true = (and_parts (eqb (suc m) 1) (eqb 4 0 || eqb 4 2) h).1 in cc) }, tt);
  fits = each (λ (o : Object). _ → Fits o.need) second ((λ p. small_fits), tt);
  placed = placed;
  missed = missed;
  pages = λ o life ho placed hl. each (λ (o : Object). (life : Life) → Open1 life → life.number ≡ o.life → life.pages ≡ o.need.pages) second (lives1 (λ l. l.number ≡ 1 → l.pages ≡ 1) (λ e. refl) (λ e. refl), tt) o ho life hl;
}
  where
    placed : (w : ℕ) → ArePaired (IsPlacing (past_after cycle1)) (placed_by w second) (placings (logs1 w))
    placed zero = tt
    placed (suc zero) = (placing (past_after cycle1) (lives1 (λ l. l.number ≡ l.page) refl refl) _ _ refl refl refl refl, tt)
    placed (suc (suc zero)) = tt
    placed (suc (suc (suc w))) = (let a : eqb 0 (suc (suc (suc w))) ≡ false = ne_eqb 0 (suc (suc (suc w))) (λ q. omega arith) in let b : eqb 1 (suc (suc (suc w))) ≡ false = ne_eqb 1 (suc (suc (suc w))) (λ q. omega arith) in rw b tt)

    missed : (w : ℕ) → ArePaired IsRefusal (missed_by w second) (refusals (logs1 w))
    missed zero = tt
    missed (suc zero) = tt
    missed (suc (suc zero)) = tt
    missed (suc (suc (suc w))) = (let a : eqb 0 (suc (suc (suc w))) ≡ false = ne_eqb 0 (suc (suc (suc w))) (λ q. omega arith) in let b : eqb 1 (suc (suc (suc w))) ≡ false = ne_eqb 1 (suc (suc (suc w))) (λ q. omega arith) in rw b tt)

pub facts1 : Facts marked 512 512 first cycle1
facts1 = record {
  writes = record {
    legal = legal-more 0 64 512 512 (lines1 ++ lines0) (omega arith) ((life_of 2 0 2 5 1, inl refl, refl, refl), omega arith, legal0, keeps-none 512 512 _ _ legal0);
    now = each (λ (l : Line). cycle_of l ≡ 1) lines1 (refl, tt);
    gives = ((λ life h begins. lives0 (λ l. l.page ≡ 2 → (l.number < 3) × IsSweptEmpty logs1 2) (λ e. absurd (omega arith)) (λ e. absurd (omega arith)) (λ e. (omega arith, (2, _, inl refl, refl, refl))) life h begins), tt);
  };
  sweeps = facts_sweeps1;
  notes = facts_notes1;
  marks = record { right = are_marks; only = marks_only };
  places = places1;
  holdings = holdings1;
  fills = fills1;
  objects_are = objects1;
  misses = record { named = λ w x h. absurd (no_refusals1 w x h); apart = apart; one_log = λ v w x y h. absurd (no_refusals1 v x h) };
  scavenged = scavenged-roomy 512 512 (past_after cycle1) (omega arith);
}
  where
    apart : (w : ℕ) → AllApart (λ (x y : Refusal). x.number ≢ y.number) (refusals (logs1 w))
    apart zero = tt
    apart (suc zero) = tt
    apart (suc (suc zero)) = tt
    apart (suc (suc (suc w))) = tt

-- the run has reached the end of cycle 1
pub reached1 : Reached marked 512 512 1 (lines1 ++ lines0) (second ++ first) (notes1 ++ []) bits1
reached1 = cycle-law marked 512 512 first [] cycle1 began1 facts1
