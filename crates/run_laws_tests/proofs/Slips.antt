-- Each slip takes one fact from the cycle.
use Rattle.std.proofs.Common.{◌≡◌, ℕ, zero, suc, ◌<◌, ◌≤◌, ◌&&◌, eqb, List, [], ◌∷◌, ◌++◌, refl, arith, inl, inr}
use Rattle.size_classes.specs.Classes.{objects_of}
use Rattle.page_bitmap.specs.declared.line.Line.TheVariants.{Take, Miss}
use Rattle.page_alloc.specs.Lists
use Rattle.page_alloc.specs.Lists.{In}
use Rattle.page_alloc.specs.Lives.{Life, life_of, open_lives}
use Rattle.span_state.specs.Bits.{count_below}
use Rattle.span_state.specs.declared.sweep.SweepNote.{SweepNote}
use Rattle.worker_log.specs.declared.Entry.{Entry}
use Rattle.worker_log.specs.declared.Placing.{Placing}
use Rattle.worker_log.specs.declared.Sweeping.{Sweeping}
use Rattle.worker_log.specs.Logs.{placings, sweepings}
use Rattle.cycle_history.specs.Objects.{Object}
use Rattle.cycle_history.specs.Sound.{IsScavenged}
use Rattle.run_laws.specs.CycleSoFar.{past_after}
use Rattle.run_laws.specs.Reached.{Began}
use Rattle.run_laws.specs.SweepFacts.{Sweeps, Notes}
use Rattle.run_laws.specs.PlacingFacts.{Places, Holdings, Fills}
use Rattle.run_laws.specs.ObjectFacts.{Objects, Misses}
use Rattle.run_laws.specs.Facts.{Writes, Marks}
use Rattle.run_laws_tests.specs.TwoWorkers.{All, marked, small, object, at, first, lines0, lines1, bits0, bits1, logs_of, second, note, notes1, cycle1}
use Rattle.run_laws_tests.specs.Slips.{NoneHas, Begins, marked_again, wrong_lines, wrong_sweeps, wrong_notes, wrong_marks, wrong_places, wrong_bits, wrong_filling, wrong_objects, wrong_refusals}
use Rattle.run_laws_tests.proofs.TwoWorkers.{each, lives0, lives1, placings1, sweeps1}

-- the lives of cycle 0, by their pages
abbrev life0 : Life
life0 = life_of 0 0 0 1 88

abbrev life1 : Life
life1 = life_of 1 0 1 1 88

-- a sweep in one of three logs
swept-in : (P : Sweeping → Type 0) (a b c : List Entry) → All P (sweepings a) → All P (sweepings b) → All P (sweepings c) → (w : ℕ) (s : Sweeping) → In s (sweepings (logs_of a b c w)) → P s
swept-in P a b c pa pb pc zero s h = each P (sweepings a) pa s h
swept-in P a b c pa pb pc (suc zero) s h = each P (sweepings b) pb s h
swept-in P a b c pa pb pc (suc (suc zero)) s h = each P (sweepings c) pc s h
swept-in P a b c pa pb pc (suc (suc (suc w))) s h = absurd h

-- ---- lines

pub no-writes : NoneHas (Writes 512 512) wrong_lines
no-writes = (
  (λ w. (let free = w.legal.0.1.here.free 0 (omega arith) (omega arith) in cc)),
  (
    (λ w. (let e = w.now _ (inl refl) in absurd (omega arith))),
    (
      (λ w. (
          let empty = (w.gives.0 life1 (inl refl) refl).1 in
          let kept = empty.3 in
          let some = sweeps1 (λ w s. s.page ≡ 1 → 1 ≤ s.kept) (λ e. omega arith) (λ e. omega arith) (λ e. absurd (omega arith)) empty.0 empty.1 empty.2 empty.3 in
          let none = empty.4 in
          absurd (omega arith))),
      tt,
    ),
  ),
)

-- ---- sweeps

pub no-sweeps : NoneHas Sweeps wrong_sweeps
unfolding objects_of count_below
no-sweeps = (
  (λ s. (
      let at = s.each life0 (inr (inr (inl refl))) in
      let page = at.3 in
      let high = swept-in (λ x. 1 ≤ x.page) _ _ _ tt (omega arith, tt) (omega arith, tt) at.0 at.1 at.2 in
      absurd (omega arith))),
  (
    (λ s. (let at = s.only 0 _ (inl refl) in let page = at.2 in let low = lives0 (λ l. l.page ≤ 2) (omega arith) (omega arith) (omega arith) at.0 at.1 in absurd (omega arith))),
    (
      (λ s. (let e : 0 ≡ 1 = s.kept 0 _ life0 (inl refl) (inr (inr (inl refl))) refl in absurd (omega arith))),
      (
        (λ s. (let e : 0 ≡ 1 = s.freed 1 _ life1 (inl refl) (inr (inl refl)) refl in absurd (omega arith))),
        tt,
      ),
    ),
  ),
)

-- ---- notes

pub no-notes : NoneHas Notes wrong_notes
no-notes = (
  (λ n. (
      let at = n.from _ (inl refl) in
      let page = at.3.page in
      let low = sweeps1 (λ w s. s.page ≤ 2) (omega arith) (omega arith) (omega arith) at.0 at.1 at.2 in
      absurd (omega arith))),
  (
    (λ n. (
        let at = n.each 2 _ (inl refl) in
        let page = at.2.page in
        let low = each (λ (x : SweepNote). x.page ≤ 1) (note 1 1 1 ∷ note 0 1 0 ∷ []) (omega arith, (omega arith, tt)) at.0 at.1 in
        absurd (omega arith))),
    (
      (λ n. (let lt = n.order.0 _ (inl refl) in absurd (omega arith))),
      tt,
    ),
  ),
)

-- ---- marks

pub no-marks : NoneHas (Marks marked first) wrong_marks
no-marks = (
  (λ m. (let on = (m.right life0 (inr (inr (inl refl)))).shown _ (inr (inr (inr (inl refl)))) refl refl refl in cc)),
  (
    (λ m. (let at = m.only 7 0 refl in let page = at.2 in let low = lives0 (λ l. l.page ≤ 2) (omega arith) (omega arith) (omega arith) at.0 at.1 in absurd (omega arith))),
    tt,
  ),
)

-- ---- places

pub no-places : NoneHas (λ e. Places e (open_lives (past_after e))) wrong_places
unfolding objects_of
no-places = (
  (λ p. (let at = p.here 1 _ (inl refl) in let page = at.2.page in let low = lives1 (λ l. l.page ≤ 1) (omega arith) (omega arith) at.0 at.1 in absurd (omega arith))),
  (
    (λ p. (let lt : 2 < 2 = p.below 1 _ (inl refl) in absurd (omega arith))),
    (
      (λ p. (let off = p.unmarked 1 _ (inl refl) in cc)),
      (
        (λ p. (p.apart 1).0 _ (inl refl) refl refl),
        (
          (λ p. (let same = p.one_log 0 1 _ _ (inl refl) (inl refl) refl in absurd (omega arith))),
          tt,
        ),
      ),
    ),
  ),
)

-- ---- allocated indices

pub no-holdings : NoneHas Holdings wrong_bits
no-holdings = (
  (λ h. elim (h.from life0 1 (inr (inl refl)) refl) [
    | inl mark ↦ cc
    | inr placed ↦ (let page = placed.3 in let one = placings1 (λ w a. a.page ≡ 1) refl placed.0 placed.1 placed.2 in absurd (omega arith))
  ]),
  (
    (λ h. (let on = h.marked life1 1 (inl refl) refl in cc)),
    (
      (λ h. (let on = h.placed 1 _ (inl refl) in cc)),
      (
        (λ h. (let at = h.some (life_of 2 0 2 5 1) (inl refl) in let on = at.1 in cc)),
        tt,
      ),
    ),
  ),
)

-- ---- filling

pub no-fills : NoneHas (λ e. (w : ℕ) → Fills e.marks (placings (e.logs w))) wrong_filling
unfolding objects_of
no-fills = (
  (λ f. elim (((f 1).0 (omega arith)).lowest 0 (omega arith)) [
    | inl mark ↦ cc
    | inr older ↦ (let page = older.2 in let one = each (λ (a : Placing). a.page ≡ 1) (placings (at 1 0 1 88 ∷ [])) (refl, tt) older.0 older.1 in absurd (omega arith))
  ]),
  (
    (λ f. elim (((f 1).0 (omega arith)).left_full _ (inl refl) refl (λ e. absurd (omega arith)) 1 (omega arith)) [
      | inl mark ↦ cc
      | inr older ↦ (let index = older.3 in let one = each (λ (a : Placing). a.index ≡ 0) (placings (at 2 0 4 88 ∷ [])) (refl, tt) older.0 older.1 in absurd (omega arith))
    ]),
    tt,
  ),
)

-- ---- objects

pub no-objects : NoneHas (Objects marked first)
    wrong_objects
no-objects = (
  (λ o. (let e = o.now _ (inl refl) in absurd (omega arith))),
  (
    (λ o. (let lt = o.behind _ _ (inl refl) (inl refl) in absurd (omega arith))),
    (
      (λ o. (let lt = o.order.0 _ (inl refl) in absurd (omega arith))),
      (
        (λ o. (let le = (o.fits _ (inl refl) refl).room in absurd (omega arith))),
        (
          (λ o. (let e = (o.placed 1).0.life life1 (inl refl) refl in absurd (omega arith))),
          (
            (λ o. o.missed 1),
            (
              (λ o. (let e = o.pages _ life1 (inl refl) refl (inl refl) refl in absurd (omega arith))),
              tt,
            ),
          ),
        ),
      ),
    ),
  ),
)

pub no-lasting : ¬ Objects marked_again first cycle1
no-lasting o = elim ((o.lasts _ (inl refl)).next 2 refl) [
  | inl now ↦ absurd (omega arith)
  | inr then ↦ (let on = then.1 in cc)
]

-- ---- refusals

pub no-misses : NoneHas Misses wrong_refusals
no-misses = (
  (λ m. elim (m.named 1 _ (inl refl)) [
    | inl here ↦ (let line = here.1 in cc)
    | inr older ↦ elim older [
      | inl here ↦ (let number = here.0 in absurd (omega arith))
      | inr older ↦ elim older [
        | inl here ↦ (let number = here.0 in absurd (omega arith))
        | inr older ↦ elim older [ inl here ↦ (let number = here.0 in absurd (omega arith)) | inr none ↦ none ]
      ]
    ]
  ]),
  (
    (λ m. (m.apart 1).0 _ (inl refl) refl),
    (
      (λ m. (let same = m.one_log 0 1 _ _ (inl refl) (inl refl) refl in absurd (omega arith))),
      tt,
    ),
  ),
)

-- ---- scavenging

pub no-scavenged : ¬ IsScavenged 8 0 (past_after cycle1)
unfolding Lists.count_below
no-scavenged s = elim s [
  | inl few ↦ (let few' : 7 ≤ 0 = few in absurd (omega arith))
  | inr none ↦ none 3 (omega arith) (record { owner = refl; cached = refl }, refl)
]

-- ---- beginnings

pub no-unwanted : ¬ Begins (Take 0 7 1 88 ∷ lines0) first [] bits0
no-unwanted b =
    let at = b.wanted (life_of 3 0 7 1 88) (inl refl) in
    let life = at.3 in
    let low = each (λ (o : Object). o.life ≤ 2) first (omega arith, (omega arith, (omega arith, (omega arith, tt)))) at.0 at.1 in
    absurd (omega arith)

pub no-carried : ¬ Begins lines0 first [] (λ page k. bits0 page k && eqb k 0)
no-carried b = let on = (b.indices life1 (inr (inl refl))).shown (object 2 1 0 small 1 1 1) (inr (inl refl)) refl refl in cc

pub no-line : ¬ Begins (Miss 1 600 1 ∷ lines0) first [] bits0
no-line b = let lt = b.lines_older _ (inl refl) in absurd (omega arith)

pub no-object : ¬ Begins lines0 (second ++ first) [] bits0
no-object b = let lt = b.objects_older _ (inl refl) in absurd (omega arith)

pub no-note : ¬ Begins lines0 first (note 0 1 0 ∷ []) bits0
no-note b = let lt = b.notes_older _ (inl refl) in absurd (omega arith)

pub no-number : ¬ Begins lines0 (object 0 0 0 small 0 0 0 ∷ first) [] bits0
no-number b = b.distinct.0 (object 0 0 0 small 0 0 0) (inr (inr (inr (inl refl)))) refl

pub no-scavenged-before : ¬ Began marked 8 0 2 (lines1 ++ lines0) (second ++ first) (notes1 ++ []) bits1
no-scavenged-before b = no-scavenged (b.scavenged 1 (omega arith))
