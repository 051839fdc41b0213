-- What a new object changes in the counts of sweeps, which is nothing, and what a marked one counts.
use Rattle.std.proofs.Common.{◌≡◌, ℕ, suc, ◌-◌, ◌<◌, ◌≤◌, true, false, ◌&&◌, ◌||◌, not, eqb, List, [], ◌∷◌, refl, sym, ◌∙◌, arith, inl, inr, zero-add}
use Rattle.std.proofs.lemmas.Bool.{ne_eqb, and_from, and_left, and_right, or_from, eq-eqb, false_from_ne_true}
use Rattle.page_bitmap.specs.declared.line.Line.{Line}
use Rattle.page_bitmap.specs.declared.line.Line.TheVariants.{Take, Miss, Give, Scav, Pull, Cut, Drop}
use Rattle.page_alloc.specs.Lists.{In, one_if}
use Rattle.page_alloc.specs.Lives.{Life}
use Rattle.page_alloc.specs.Journal.{IsBy}
use Rattle.span_state.specs.declared.sweep.SweepNote.{SweepNote}
use Rattle.cycle_history.specs.Requests.{Marking}
use Rattle.cycle_history.specs.Objects.{Object, is_placed, live, kept, freed}
use Rattle.cycle_history.specs.Sweeps.{IsNote, GivesWhenEmpty}
use Rattle.sound_run.specs.Run.{IsJournal, Lasts}
use Rattle.sound_run.proofs.Live.{marked-after, by-later}

-- an object isn't marked in its own cycle or before
pub unmarked : (marked : Marking) (o : Object) (m : ℕ) → Lasts marked o → m ≤ o.cycle → marked m o.id ≡ false
unmarked marked o m lasts le = false_from_ne_true (marked m o.id) (λ h. (let lt = marked-after marked o m lasts h in absurd (omega arith)))

-- an object that isn't marked doesn't count as kept
pub kept-same : (marked : Marking) (o : Object) (objects : List Object) (m n : ℕ) → marked m o.id ≡ false → kept marked (o ∷ objects) m n ≡ kept marked objects m n
kept-same marked o objects m n off =
    let e : (is_placed o.answer && (eqb o.life n && marked m o.id)) ≡ false = and_right (is_placed o.answer) (eqb o.life n && marked m o.id) (and_right (eqb o.life n) (marked m o.id) off) in
    rw e (zero-add (kept marked objects m n))

-- an object that didn't live before the mark end doesn't count as freed
pub freed-same : (marked : Marking) (o : Object) (objects : List Object) (m n : ℕ) → live marked (m - 1) o ≡ false → freed marked (o ∷ objects) m n ≡ freed marked objects m n
freed-same marked o objects m n off =
    let e : (eqb o.life n && (live marked (m - 1) o && not (marked m o.id))) ≡ false =
    and_right (eqb o.life n) (live marked (m - 1) o && not (marked m o.id)) (and_left (live marked (m - 1) o) (not (marked m o.id)) off) in
    rw e (zero-add (freed marked objects m n))

-- an object doesn't live before its own cycle
pub not_live : (marked : Marking) (o : Object) (m : ℕ) → Lasts marked o → m < o.cycle → live marked m o ≡ false
not_live marked o m lasts lt =
    let a : eqb o.cycle m ≡ false = ne_eqb o.cycle m (λ e. omega arith) in
    let b = unmarked marked o m lasts (omega arith) in
    and_right (is_placed o.answer) (eqb o.cycle m || marked m o.id) (or_from (eqb o.cycle m) (marked m o.id) a b)

-- a note stays right as a later object comes
pub note-same : (marked : Marking) (o : Object) (objects : List Object) (m : ℕ) (life : Life) (note : SweepNote) → Lasts marked o → m < o.cycle
    → IsNote marked objects (suc m) life note → IsNote marked (o ∷ objects) (suc m) life note
note-same marked o objects m life note lasts lt is =
    let k = kept-same marked o objects (suc m) life.number (unmarked marked o (suc m) lasts (omega arith)) in
    let less : suc m - 1 ≡ m = omega arith in
    let off : live marked (suc m - 1) o ≡ false = rw less (not_live marked o m lasts lt) in
    let f = freed-same marked o objects (suc m) life.number off in
    record { cycle = is.cycle; page = is.page; kept = is.kept ∙ sym k; freed = is.freed ∙ sym f }

-- and so do the Gives
pub gives-same : (marked : Marking) (region goal : ℕ) (o : Object) (objects : List Object) (past : List Line) → Lasts marked o → IsBy o.cycle past → IsJournal region goal past
    → GivesWhenEmpty marked objects past → GivesWhenEmpty marked (o ∷ objects) past
gives-same marked region goal o objects [] lasts by legal gives = tt
gives-same marked region goal o objects (Take cycle page pages class ∷ past) lasts by legal gives = gives-same marked region goal o objects past lasts (by-later cycle o.cycle past by legal.1) legal.2 gives
gives-same marked region goal o objects (Miss cycle pages class ∷ past) lasts by legal gives = gives-same marked region goal o objects past lasts (by-later cycle o.cycle past by legal.1) legal.2 gives
gives-same marked region goal o objects (Scav cycle page pages ∷ past) lasts by legal gives = gives-same marked region goal o objects past lasts (by-later cycle o.cycle past by legal.1) legal.2 gives
gives-same marked region goal o objects (Give cycle page pages ∷ past) lasts by legal gives = (
  (λ life h is. (let one = gives.0 life h is in (one.0, kept-same marked o objects cycle life.number (unmarked marked o cycle lasts by) ∙ one.1))),
  gives-same marked region goal o objects past lasts (by-later cycle o.cycle past by legal.1) legal.2 gives.1,
)
gives-same marked region goal o objects (Pull cycle proc page pages ∷ past) lasts by legal gives = gives-same marked region goal o objects past lasts (by-later cycle o.cycle past by legal.1) legal.2 gives
gives-same marked region goal o objects (Cut cycle proc page pages class ∷ past) lasts by legal gives = gives-same marked region goal o objects past lasts (by-later cycle o.cycle past by legal.1) legal.2 gives
gives-same marked region goal o objects (Drop cycle proc page pages ∷ past) lasts by legal gives = gives-same marked region goal o objects past lasts (by-later cycle o.cycle past by legal.1) legal.2 gives

-- an object that is marked counts as kept
pub kept-counts : (marked : Marking) (o : Object) (objects : List Object) (m n : ℕ) → In o objects → is_placed o.answer ≡ true → o.life ≡ n → marked m o.id ≡ true → 1 ≤ kept marked objects m n
kept-counts marked o [] m n h placed life mark = absurd h
kept-counts marked o (first ∷ objects) m n h placed life mark =
    elim h [
      | inl here ↦ (
          let e : (is_placed o.answer && (eqb o.life n && marked m o.id)) ≡ true = and_from (is_placed o.answer) (eqb o.life n && marked m o.id) placed (and_from (eqb o.life n) (marked m o.id) (eq-eqb o.life n life) mark) in
          let f : one_if (is_placed first.answer && (eqb first.life n && marked m first.id)) ≡ 1 = rw here (rw e refl) in
          omega arith)
      | inr there ↦ (let rest = kept-counts marked o objects m n there placed life mark in omega arith)
    ]
