-- Each slip breaks the run.
use Rattle.std.proofs.Common.{◌≡◌, ◌≢◌, ℕ, suc, ◌<◌, ◌≤◌, List, [], ◌∷◌, ◌++◌, refl, arith, inl, inr}
use Rattle.page_bitmap.specs.declared.line.Line.{Line}
use Rattle.page_bitmap.specs.declared.line.Line.TheVariants.{Miss}
use Rattle.page_alloc.specs.Lists.{In, IsNumber}
use Rattle.page_alloc.specs.Lives.{Life, life_of, open_lives}
use Rattle.page_alloc.specs.Journal.{at_end}
use Rattle.span_state.specs.declared.sweep.SweepNote.{SweepNote}
use Rattle.cycle_history.specs.Objects.{Object, IsHeld, kept, freed}
use Rattle.cycle_history.specs.Sweeps.{IsNote}
use Rattle.sound_run.specs.Notes.{IsNoted}
use Rattle.run_laws.specs.Reached.{Reached}
use Rattle.run_laws_tests.specs.TwoWorkers.{All, marked, small, large, object, first, lines0, lines1, bits1, second, note, notes1}
use Rattle.run_laws_tests.specs.Slips.{AllBreak, missed, marked_again, wrong_lines, wrong_sweeps, wrong_notes, wrong_marks, wrong_places, wrong_bits, wrong_filling, wrong_objects, wrong_refusals}
use Rattle.run_laws_tests.proofs.TwoWorkers.{each, lives0, lives1}
use Rattle.run_laws_tests.proofs.Slips.{no-scavenged}

abbrev life0 : Life
life0 = life_of 0 0 0 1 88

abbrev life1 : Life
life1 = life_of 1 0 1 1 88

abbrev life2 : Life
life2 = life_of 2 0 2 5 1

-- a note is of a life of cycle 0
told : (past : List Line) (objects : List Object) (n : SweepNote) → at_end 0 past ≡ lines0 → (m : ℕ) × (life : Life) × IsNoted marked 1 past objects n m life
    → (life : Life) × In life (open_lives lines0) × IsNote marked objects 1 life n
told past objects n cut at =
    let early = at.2.early in
    let start : at.0 ≡ 0 = omega arith in
    let alive : In at.1 (open_lives (at_end 0 past)) = rw start at at.2.alive in
    let right : IsNote marked objects (suc 0) at.1 n = rw start at at.2.right in
    (at.1, rw cut at alive, right)

-- ---- lines

pub writes-break : AllBreak wrong_lines
writes-break = (
  (λ r. (let free = r.run.journal.0.1.here.free 0 (omega arith) (omega arith) in cc)),
  (
    (λ r. (let lt = (r.noted.gives.0 life2 (inl refl) refl).0 in absurd (omega arith))),
    (
      (λ r. (let none : 1 ≡ 0 = (r.noted.gives.0 life1 (inl refl) refl).1 in absurd (omega arith))),
      tt,
    ),
  ),
)

-- ---- sweeps and notes

no-page-9 : (past : List Line) (objects : List Object) (k f : ℕ) → at_end 0 past ≡ lines0 → (m : ℕ) × (life : Life) × IsNoted marked 1 past objects (note 9 k f) m life → ⊥
no-page-9 past objects k f cut at =
    let is = told past objects (note 9 k f) cut at in
    let page = is.2.page in
    let low = lives0 (λ l. l.page ≤ 2) (omega arith) (omega arith) (omega arith) is.0 is.1 in
    absurd (omega arith)

pub sweeps-break : AllBreak wrong_sweeps
sweeps-break = (
  (λ r. (
      let done = (r.noted.done 0 (omega arith) life0 (inr (inr (inl refl)))).note in
      let page = done.2.page in
      let high = each (λ (n : SweepNote). 1 ≤ n.page) (note 2 0 1 ∷ note 1 1 1 ∷ []) (omega arith, (omega arith, tt)) done.0 done.1 in
      absurd (omega arith))),
  (
    (λ r. no-page-9 _ _ 0 0 refl (r.noted.noted _ (inl refl))),
    (
      (λ r. (
          let is = told _ _ _ refl (r.noted.noted (note 0 0 0) (inr (inr (inl refl)))) in
          lives0 (λ l. 0 ≡ l.page → 0 ≡ kept marked (second ++ first) 1 l.number → ⊥) (λ p e. (let none : 0 ≡ 1 = e in absurd (omega arith))) (λ p e. absurd (omega arith)) (λ p e. absurd (omega arith)) is.0 is.1 is.2.page is.2.kept)),
      (
        (λ r. (
            let is = told _ _ _ refl (r.noted.noted (note 1 1 0) (inr (inl refl))) in
            lives0 (λ l. 1 ≡ l.page → 0 ≡ freed marked (second ++ first) 1 l.number → ⊥) (λ p e. absurd (omega arith)) (λ p e. (let none : 0 ≡ 1 = e in absurd (omega arith))) (λ p e. absurd (omega arith)) is.0 is.1 is.2.page is.2.freed)),
        tt,
      ),
    ),
  ),
)

pub notes-break : AllBreak wrong_notes
notes-break = (
  (λ r. no-page-9 _ _ 0 1 refl (r.noted.noted _ (inl refl))),
  (
    (λ r. (
        let done = (r.noted.done 0 (omega arith) life2 (inl refl)).note in
        let page = done.2.page in
        let low = each (λ (n : SweepNote). n.page ≤ 1) (note 1 1 1 ∷ note 0 1 0 ∷ []) (omega arith, (omega arith, tt)) done.0 done.1 in
        absurd (omega arith))),
    (
      (λ r. elim (r.noted.order.0 (note 2 0 1) (inl refl)) [ inl cycle ↦ absurd (omega arith) | inr page ↦ (let lt = page.1 in absurd (omega arith)) ]),
      tt,
    ),
  ),
)

-- ---- marks

-- no object has this index of this life
abbrev NoneSits : List Object → ℕ → ℕ → Type 0
NoneSits objects n k = All (λ (o : Object). o.life ≡ n → o.index ≡ k → ⊥) objects

not-held : (objects : List Object) (before n k : ℕ) → NoneSits objects n k → IsHeld marked objects 1 before n k → ⊥
not-held objects before n k none held = each (λ (o : Object). o.life ≡ n → o.index ≡ k → ⊥) objects none held.0 held.1 held.2.life held.2.index

-- nor has one of cycle 0 here
first-free : (n k : ℕ) → 3 ≤ n → NoneSits first n k
first-free n k high = ((λ e i. absurd (omega arith)), ((λ e i. absurd (omega arith)), ((λ e i. absurd (omega arith)), ((λ e i. absurd (omega arith)), tt))))

pub marks-break : AllBreak wrong_marks
marks-break = (
  (λ r. (let none : 1 ≡ 0 = (r.noted.gives.0 life0 (inr (inl refl)) refl).1 in absurd (omega arith))),
  (
    (λ r. not-held ((object 5 1 1 small 7 3 1 ∷ second) ++ first) 5 3 0 ((λ e i. absurd (omega arith)), ((λ e i. absurd (omega arith)), first-free 3 0 (omega arith))) (r.run.filling.no_gap (object 5 1 1 small 7 3 1) (inl refl) (refl, omega arith) 0 (omega arith))),
    tt,
  ),
)

-- ---- places

apart : (a b : ℕ) → a < b → b ≢ a
apart a b lt e = omega arith

pub places-break : AllBreak wrong_places
places-break = (
  (λ r. (
      let seat = r.run.seats (object 4 1 1 small 9 9 0) (inl refl) refl in
      let number = seat.1.number in
      let low = lives1 (λ l. l.number ≤ 1) (omega arith) (omega arith) seat.0 (seat.1.stays 1 refl) in
      absurd (omega arith))),
  (
    (λ r. (let lt = (r.run.seats (object 4 1 1 small 1 1 2) (inl refl) refl).1.sits.index in absurd (omega arith))),
    (
      (λ r. r.run.distinct 1 (object 4 1 1 small 1 1 1) (object 2 1 0 small 1 1 1) (inl refl) (inr (inr (inl refl))) (apart 2 4 (omega arith)) refl refl refl refl),
      (
        (λ r. r.run.distinct 1 (object 5 1 1 small 1 1 0) (object 4 1 1 small 1 1 0) (inl refl) (inr (inl refl)) (apart 4 5 (omega arith)) refl refl refl refl),
        (
          (λ r. r.run.distinct 1 (object 5 0 1 small 1 1 0) (object 4 1 1 small 1 1 0) (inl refl) (inr (inl refl)) (apart 4 5 (omega arith)) refl refl refl refl),
          tt,
        ),
      ),
    ),
  ),
)

-- ---- allocated indices

pub holdings-break : AllBreak wrong_bits
holdings-break = (
  (λ r. (
      let at = (r.indices life0 (inr (inl refl))).from 1 refl in
      let life = at.3 in
      let index = at.4 in
      each (λ (o : Object). o.life ≡ 0 → o.index ≡ 1 → ⊥) (second ++ first)
      ((λ e i. absurd (omega arith)), ((λ e i. absurd (omega arith)), ((λ e i. absurd (omega arith)), ((λ e i. absurd (omega arith)), ((λ e i. absurd (omega arith)), tt))))) at.0 at.1 life index)),
  (
    (λ r. (let on = (r.indices life1 (inl refl)).shown (object 2 1 0 small 1 1 1) (inr (inr (inl refl))) refl refl in cc)),
    (
      (λ r. (let on = (r.indices life1 (inl refl)).shown (object 4 1 1 small 1 1 0) (inl refl) refl refl in cc)),
      (
        (λ r. elim ((r.noted.done 0 (omega arith) life2 (inl refl)).empty refl) [
          | inl gone ↦ gone (inl refl)
          | inr used ↦ each (λ (o : Object). o.life ≡ 2 → o.cycle ≡ 1 → ⊥) (second ++ first)
              ((λ e c. absurd (omega arith)), ((λ e c. absurd (omega arith)), ((λ e c. absurd (omega arith)), ((λ e c. absurd (omega arith)), ((λ e c. absurd (omega arith)), tt))))) used.0 used.1 used.2 used.3
        ]),
        tt,
      ),
    ),
  ),
)

-- ---- filling

pub fills-break : AllBreak wrong_filling
fills-break = (
  (λ r. not-held ((object 5 1 1 small 2 4 1 ∷ second) ++ first) 5 4 0 ((λ e i. absurd (omega arith)), ((λ e i. absurd (omega arith)), first-free 4 0 (omega arith))) (r.run.filling.no_gap (object 5 1 1 small 2 4 1) (inl refl) (refl, omega arith) 0 (omega arith))),
  (
    (λ r. not-held ((object 5 1 1 small 1 1 0 ∷ object 4 1 1 small 2 4 0 ∷ []) ++ first) 5 4 1 ((λ e i. absurd (omega arith)), ((λ e i. absurd (omega arith)), first-free 4 1 (omega arith)))
        (r.run.filling.full_first (object 4 1 1 small 2 4 0) (object 5 1 1 small 1 1 0) (inr (inl refl)) (inl refl) (refl, omega arith) (refl, omega arith) refl refl refl (omega arith) (apart 1 4 (omega arith)) 1 (omega arith))),
    tt,
  ),
)

-- ---- objects and refusals

-- line 3 is no Miss line
not-missed : IsNumber 3 (Miss 1 600 1) (lines1 ++ lines0) → ⊥
not-missed h = elim h [
  | inl here ↦ (let line = here.1 in cc)
  | inr older ↦ elim older [
    | inl here ↦ (let number = here.0 in absurd (omega arith))
    | inr older ↦ elim older [
      | inl here ↦ (let number = here.0 in absurd (omega arith))
      | inr older ↦ elim older [ inl here ↦ (let number = here.0 in absurd (omega arith)) | inr none ↦ none ]
    ]
  ]
]

pub objects-break : AllBreak wrong_objects
objects-break = (
  (λ r. r.run.distinct 0 (object 4 1 0 small 1 1 0) (object 1 1 0 small 1 1 0) (inl refl) (inr (inr (inr (inl refl)))) (apart 1 4 (omega arith)) refl refl refl refl),
  (
    (λ r. r.distinct.0 (object 3 1 0 large 2 2 0) (inl refl) refl),
    (
      (λ r. r.distinct.0 (object 4 1 1 small 1 1 0) (inl refl) refl),
      (
        (λ r. (let le = (r.run.fits _ (inl refl) refl).room in absurd (omega arith))),
        (
          (λ r. (let on = (r.indices life0 (inr (inl refl))).shown (object 4 1 1 small 0 0 1) (inl refl) refl refl in cc)),
          (
            (λ r. not-missed (r.run.misses.named (missed 5 1 3) (inl refl) 3 refl)),
            (
              (λ r. (
                  let seat = r.run.seats (object 4 1 1 (record small { pages = 2 }) 1 1 0) (inl refl) refl in
                  let pages = seat.1.sits.pages in
                  let one = lives1 (λ l. l.pages ≡ 1) refl refl seat.0 (seat.1.stays 1 refl) in
                  absurd (omega arith))),
              tt,
            ),
          ),
        ),
      ),
    ),
  ),
)

pub lasting-break : ¬ Reached marked_again 512 512 1 (lines1 ++ lines0) (second ++ first) (notes1 ++ []) bits1
lasting-break r = elim ((r.run.lasts (object 4 1 1 small 1 1 0) (inl refl)).next 2 refl) [
  | inl now ↦ absurd (omega arith)
  | inr then ↦ (let on = then.1 in cc)
]

pub misses-break : AllBreak wrong_refusals
misses-break = (
  (λ r. not-missed (r.run.misses.named (missed 5 1 3) (inl refl) 3 refl)),
  (
    (λ r. (let same = r.run.misses.once (missed 6 1 4) (missed 5 1 4) 4 (inl refl) (inr (inl refl)) refl refl in absurd (omega arith))),
    (
      (λ r. (let same = r.run.misses.once (missed 6 0 4) (missed 5 1 4) 4 (inl refl) (inr (inl refl)) refl refl in absurd (omega arith))),
      tt,
    ),
  ),
)

pub scavenged-break : ¬ Reached marked 8 0 1 (lines1 ++ lines0) (second ++ first) (notes1 ++ []) bits1
scavenged-break r = no-scavenged (r.scavenged 1 (omega arith))
