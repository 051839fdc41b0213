-- Objects that answer the same requests with the same seats are counted alike, so they meet the rules 7 and 8 alike.
use Rattle.std.proofs.Common.{◌≡◌, ℕ, suc, ◌+◌, ◌-◌, ◌/◌, Bool, true, false, not, ◌&&◌, ◌||◌, eqb, List, [], ◌∷◌, refl, sym, ◌∙◌, ap, ap₂, inl, inr}
use Rattle.std.specs.List.{AllZip}
use Rattle.std.proofs.lemmas.Bool.{cases_Bool, and_left, and_right, and_parts}
use Rattle.page_bitmap.specs.declared.line.Line.{Line}
use Rattle.page_bitmap.specs.declared.line.Line.TheVariants.{Take, Miss, Give, Scav, Pull, Cut, Drop}
use Rattle.page_alloc.specs.Lists.{one_if, count}
use Rattle.page_alloc.specs.Lives.{Life}
use Rattle.span_state.specs.declared.sweep.SweepNote.{SweepNote}
use Rattle.cycle_history.specs.declared.Total.{Total}
use Rattle.cycle_history.specs.Needs.{Need}
use Rattle.cycle_history.specs.Requests.{Marking}
use Rattle.cycle_history.specs.Objects.{Object, is_placed, live, kept, freed}
use Rattle.cycle_history.specs.Sweeps.{IsNote, GivesWhenEmpty, AreSwept, is_placed_of, AreTotals}
use Rattle.sound_report_tests.proofs.Alike.{IsSame, from_right, from_left, live-like, need-like}

-- ---- counts

count-alike : (test : Object → Bool) (os cs : List Object) → ((o c : Object) → IsSame o c → test o ≡ test c) → AllZip IsSame os cs → count test os ≡ count test cs
count-alike test [] [] same all = refl
count-alike test [] (c ∷ cs) same all = absurd all
count-alike test (o ∷ os) [] same all = absurd all
count-alike test (o ∷ os) (c ∷ cs) same all = ap₂ (λ (b : Bool) (n : ℕ). one_if b + n) (same o c all.0) (count-alike test os cs same all.1)

-- a test of placed objects alone
placed-alike : (test : Object → Bool) (o c : Object) → IsSame o c → (is_placed o.answer ≡ true → test o ≡ test c) → (is_placed o.answer && test o) ≡ (is_placed c.answer && test c)
placed-alike test o c same when =
    let e : is_placed o.answer ≡ is_placed c.answer = ap is_placed same.like.answer in
    elim (cases_Bool (is_placed o.answer)) [
      | inl placed ↦ (let there : is_placed c.answer ≡ true = sym e ∙ placed in rw (placed, there) (when placed))
      | inr isnt ↦ (let there : is_placed c.answer ≡ false = sym e ∙ isnt in rw (isnt, there) refl)
    ]

kept-alike : (marked : Marking) (os cs : List Object) (m n : ℕ) → AllZip IsSame os cs → kept marked os m n ≡ kept marked cs m n
kept-alike marked os cs m n all =
    count-alike (λ o. is_placed o.answer && (eqb o.life n && marked m o.id)) os cs (λ o c same.
    placed-alike (λ x. eqb x.life n && marked m x.id) o c same (λ placed. (let e1 = same.life placed in let e2 = same.like.id in cc))) all

freed-test : (marked : Marking) (m n : ℕ) (o c : Object) → IsSame o c → (eqb o.life n && (live marked (m - 1) o && not (marked m o.id))) ≡ (eqb c.life n && (live marked (m - 1) c && not (marked m c.id)))
freed-test marked m n o c same =
    let e : live marked (m - 1) o ≡ live marked (m - 1) c = live-like marked (m - 1) o c same.like in
    elim (cases_Bool (live marked (m - 1) o)) [
      | inl lives ↦ (
          let placed = (and_parts (is_placed o.answer) (eqb o.cycle (m - 1) || marked (m - 1) o.id) lives).0 in
          let e1 = same.life placed in
          let e2 = same.like.id in
          let there : live marked (m - 1) c ≡ true = sym e ∙ lives in
          rw (lives, there, e1, e2) refl)
      | inr isnt ↦ (
          let there : live marked (m - 1) c ≡ false = sym e ∙ isnt in
          let left : (eqb o.life n && (live marked (m - 1) o && not (marked m o.id))) ≡ false = and_right (eqb o.life n) (live marked (m - 1) o && not (marked m o.id)) (and_left (live marked (m - 1) o) (not (marked m o.id)) isnt) in
          let right : (eqb c.life n && (live marked (m - 1) c && not (marked m c.id))) ≡ false = and_right (eqb c.life n) (live marked (m - 1) c && not (marked m c.id)) (and_left (live marked (m - 1) c) (not (marked m c.id)) there) in
          left ∙ sym right)
    ]

freed-alike : (marked : Marking) (os cs : List Object) (m n : ℕ) → AllZip IsSame os cs → freed marked os m n ≡ freed marked cs m n
freed-alike marked os cs m n all = count-alike (λ o. eqb o.life n && (live marked (m - 1) o && not (marked m o.id))) os cs (freed-test marked m n) all

-- ---- sweeps and totals

note-alike : (marked : Marking) (os cs : List Object) (m : ℕ) (life : Life) (note : SweepNote) → AllZip IsSame os cs → IsNote marked os m life note → IsNote marked cs m life note
note-alike marked os cs m life note all is = record {
  cycle = is.cycle;
  page = is.page;
  kept = is.kept ∙ kept-alike marked os cs m life.number all;
  freed = is.freed ∙ freed-alike marked os cs m life.number all;
}

gives-alike : (marked : Marking) (os cs : List Object) (past : List Line) → AllZip IsSame os cs → GivesWhenEmpty marked os past → GivesWhenEmpty marked cs past
gives-alike marked os cs [] all gives = tt
gives-alike marked os cs (Take cycle page pages class ∷ past) all gives = gives-alike marked os cs past all gives
gives-alike marked os cs (Miss cycle pages class ∷ past) all gives = gives-alike marked os cs past all gives
gives-alike marked os cs (Scav cycle page pages ∷ past) all gives = gives-alike marked os cs past all gives
gives-alike marked os cs (Give cycle page pages ∷ past) all gives = (
  (λ life i here. (let old = gives.0 life i here in (old.0, sym (kept-alike marked os cs cycle life.number all) ∙ old.1))),
  gives-alike marked os cs past all gives.1,
)
gives-alike marked os cs (Pull cycle proc page pages ∷ past) all gives = gives-alike marked os cs past all gives
gives-alike marked os cs (Cut cycle proc page pages class ∷ past) all gives = gives-alike marked os cs past all gives
gives-alike marked os cs (Drop cycle proc page pages ∷ past) all gives = gives-alike marked os cs past all gives

pub swept-alike : (marked : Marking) (last : ℕ) (past : List Line) (os cs : List Object) (sweeps : List SweepNote) → AllZip IsSame os cs → AreSwept marked last past os sweeps → AreSwept marked last past cs sweeps
swept-alike marked last past os cs sweeps all swept = record {
  order = swept.order;
  each = λ m life lt alive. (let old = swept.each m life lt alive in (old.0, old.1, note-alike marked os cs (suc m) life old.0 all old.2));
  no_other = λ note i. (let old = swept.no_other note i in (old.0, old.1, old.2, old.3, note-alike marked os cs (suc old.0) old.1 note all old.4));
  gives = gives-alike marked os cs past all swept.gives;
  empty = λ m life lt alive none. elim (swept.empty m life lt alive (kept-alike marked os cs (suc m) life.number all ∙ none)) [
    | inl gone ↦ inl gone
    | inr again ↦ (
        let c = from_left IsSame os cs all again.0 again.1 in
        let like = c.2.like in
        inr (c.0, c.1, sym (c.2.life again.4) ∙ again.2, sym like.cycle ∙ again.3, sym (ap is_placed like.answer) ∙ again.4))
  ];
}

class-alike : (o c : Object) → IsSame o c → is_placed o.answer ≡ true → o.need.class ≡ c.need.class
class-alike o c same placed = ap (λ (n : Need). n.class) (need-like o c same.like (sym (ap is_placed same.like.answer) ∙ placed))

placed_of-alike : (class : ℕ) (o c : Object) → IsSame o c → is_placed_of class o ≡ is_placed_of class c
placed_of-alike class o c same = placed-alike (λ x. eqb (x.need.class / 2) class) o c same (λ placed. ap (λ (k : ℕ). eqb (k / 2) class) (class-alike o c same placed))

pub totals-alike : (marked : Marking) (last : ℕ) (os cs : List Object) (totals : List Total) → AllZip IsSame os cs → AreTotals marked last os totals → AreTotals marked last cs totals
totals-alike marked last os cs totals all are = record {
  order = are.order;
  right = λ total i. (
      let old = are.right total i in
      record {
        some = old.some;
        mallocs = old.mallocs ∙ count-alike (is_placed_of total.class) os cs (placed_of-alike total.class) all;
        frees = old.frees ∙ count-alike (λ o. is_placed_of total.class o && not (live marked last o)) os cs (λ o c same.
            ap₂ (λ (a b : Bool). a && not b) (placed_of-alike total.class o c same) (live-like marked last o c same.like)) all;
      });
  each = λ c i placed. (
      let o = from_right IsSame os cs all c i in
      let was : is_placed o.0.answer ≡ true = ap is_placed o.2.like.answer ∙ placed in
      let old = are.each o.0 o.1 was in
      (old.0, old.1, old.2 ∙ ap (λ (k : ℕ). k / 2) (class-alike o.0 c o.2 was)));
}
