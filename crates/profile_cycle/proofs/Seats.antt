-- The views of all seats, where one seat steps, and what the driver knows where no other tally is out.
use Rattle.std.proofs.Common.{◌≡◌, ◌≢◌, ℕ, zero, suc, ◌%◌, ◌^◌, ◌<◌, ◌≤◌, ⊎_elim, Bool, true, false, true≢false, not, List, [], ◌∷◌, length, get_or, set, refl, sym, ap, subst, ◌∙◌, arith, inl, inr, get_or-set_same, get_or-set_other, length-set}
use Rattle.std.proofs.lemmas.Bool.{cases_eq}
use mathlib.Core.Option.{some, some-injective, some-ne-none}
use lib.ListN.{get_elem?}
use Rattle.atomic_table.specs.Table.{State}
use Rattle.atomic_table.proofs.Lists.{at_set, set_here, set_else}
use Rattle.profile_cycle.specs.declared.sight.Sight.{Sight}
use Rattle.profile_cycle.specs.declared.words.Kind.{Kind}
use Rattle.profile_cycle.specs.declared.words.Word.{Word}
use Rattle.profile_cycle.specs.declared.words.Word.TheVariants.{Waiting}
use Rattle.profile_cycle.specs.History.{one_if}
use Rattle.profile_cycle.specs.Rule.{has, stands, total, noted_for, spent_sight, Seated, Noted, Ruled, IsAlone}
use Rattle.profile_cycle.specs.Words.{IsWord, place}
use Rattle.profile_cycle.proofs.Parts.{none-part}
use Rattle.profile_cycle.proofs.Totals.{total-own, total-part, total-set}

pub bool-cases : (t : Bool) (P : Type 0) → (t ≡ true → P) → (t ≡ false → P) → P
bool-cases true P a b = a refl
bool-cases false P a b = b refl

one-none : (t : Bool) → one_if t ≤ 0 → t ≡ false
one-none true le = absurd (omega arith)
one-none false le = refl

-- a bucket stays noted where the seat that steps still has it
pub noted-kept : (odd : Bool) (b : ℕ) (vs : List Sight) (id : ℕ) (v w : Sight) → get_elem? vs id ≡ some v → (has b (noted_for odd v) ≡ true → has b (noted_for odd w) ≡ true) → id < length vs
    → Noted odd b vs → Noted odd b (set vs id w)
noted-kept odd b vs id v w at keeps low was = elim (cases_eq was.id id) [
  | inl own ↦ record {
    id = id;
    sight = w;
    is = set_here vs id w low;
    has_it = keeps (subst (λ (u : Sight). has b (noted_for odd u) ≡ true) (same own) was.has_it);
  }
  | inr other ↦ record { id = was.id; sight = was.sight; is = set_else vs id was.id w other ∙ was.is; has_it = was.has_it }
]
  where
    same : was.id ≡ id → was.sight ≡ v
    same own = some-injective was.sight v (sym was.is ∙ ap (get_elem? vs) own ∙ at)

pub at-low : {A : Type 0} (l : List A) (i : ℕ) (a : A) → get_elem? l i ≡ some a → i < length l
at-low [] i a e = absurd (some-ne-none a (sym e))
at-low (x ∷ xs) zero a e = omega arith
at-low (x ∷ xs) (suc i) a e = let rest = at-low xs i a e in omega arith

-- what a step of one seat leaves as it was
pub record Steps (v w : Sight) : Type 0 where
  pub drives : w.view.drives ≡ v.view.drives
  pub out : w.view.out ≡ v.view.out
  pub lent : w.lent ≡ v.lent
  pub stays : w.lent ≡ not w.view.drives

module _ (n : ℕ) (s : State (Unit {0}) Sight) (r : Ruled n s) (id : ℕ) (v : Sight) (at : get_elem? s.views id ≡ some v) where
  low : id < length s.views
  low = at-low s.views id v at

  not-both : (drives lent : Bool) → lent ≡ not drives → drives ≡ false → lent ≡ false → ⊥
  not-both true lent e off none = true≢false off
  not-both false lent e off none = true≢false (sym e ∙ none)

  -- a seat steps, and the word at a place becomes x
  pub stepped-rule : (w : Sight) (i x : ℕ) → Steps v w → i < length s.words
      → ((k : Word) → IsWord n k → place k ≡ i → x ≡ total (stands k) (set s.views id w) % 2 ^ 64)
      → ((k : Word) → IsWord n k → place k ≢ i → total (stands k) (set s.views id w) % 2 ^ 64 ≡ total (stands k) s.views % 2 ^ 64)
      → ((k : Kind) (odd : Bool) (b : ℕ) → b < n → get_or (set s.words i x) (place (Waiting k odd b)) 0 ≢ 0 → Noted odd b (set s.views id w))
      → Ruled n record { words = set s.words i x; homes = s.homes; views = set s.views id w }
  stepped-rule w i x steps inside here else noted = record {
    driver = r.driver;
    size = length-set s.words i x ∙ r.size;
    seats = λ j u e. ⊎_elim
        (λ (t : (j ≡ id) × (w ≡ u)). subst (λ (z : ℕ × Sight). Seated r.driver z.0 z.1) (λ z. (sym t.0 z, t.1 z)) record {
          drives = λ d. (r.seats id v at).drives (sym steps.drives ∙ d);
          out = λ d. steps.out ∙ (r.seats id v at).out (sym steps.drives ∙ d);
          spent = λ d none. absurd (not-both w.view.drives w.lent steps.stays d none);
        })
        (λ (t : (j ≢ id) × (get_elem? s.views j ≡ some u)). r.seats j u t.1)
        (at_set s.views id j w u e);
    out = (let a = total-set (λ u. u.view.out) s.views id v w at in
        let b = total-set (λ u. one_if u.lent) s.views id v w at in
        let same = ap one_if steps.lent in
        let was = r.out in
        let flat = steps.out in
        omega arith);
    words = λ k is. elim (cases_eq (place k) i) [
      | inl it ↦ ap (λ (p : ℕ). get_or (set s.words i x) p 0) it ∙ get_or-set_same s.words i x 0 inside ∙ here k is it
      | inr other ↦ get_or-set_other s.words i (place k) x 0 other ∙ r.words k is ∙ sym (else k is other)
    ];
    noted = noted;
  }

  -- ---- the driver

  module _ (drives : v.view.drives ≡ true) where
    drives-not : (j : ℕ) (u : Sight) → get_elem? s.views j ≡ some u → j ≢ id → u.view.drives ≡ false
    drives-not j u e other = bool-cases u.view.drives (u.view.drives ≡ false) (λ d. absurd (other ((r.seats j u e).drives d ∙ sym ((r.seats id v at).drives drives)))) (λ d. d)

    -- as many tallies are lent as the driver has out
    pub lent-out : total (λ u. one_if u.lent) s.views ≡ v.view.out
    lent-out = sym r.out ∙ total-own (λ u. u.view.out) s.views id v at (λ j u e other. (r.seats j u e).out (drives-not j u e other))

  -- ---- the driver alone

  module _ (alone : IsAlone v) where
    -- each other seat is spent
    pub others-spent : (j : ℕ) (u : Sight) → get_elem? s.views j ≡ some u → j ≢ id → u ≡ spent_sight
    others-spent j u e other = (r.seats j u e).spent (drives-not alone.drives j u e other)
        (one-none u.lent (let part = total-part (λ x. one_if x.lent) s.views j u e in let none = lent-out alone.drives in let out = alone.out in omega arith))

    stands-spent : (k : Word) → stands k spent_sight ≡ 0
    stands-spent k = none-part k spent_sight.view refl

    pub own-total : (k : Word) → total (stands k) s.views ≡ stands k v
    own-total k = total-own (stands k) s.views id v at (λ j u e other. ap (stands k) (others-spent j u e other) ∙ stands-spent k)

    pub own-next : (k : Word) (w : Sight) → total (stands k) (set s.views id w) ≡ stands k w
    own-next k w = let a = total-set (stands k) s.views id v w at in let b = own-total k in omega arith

    -- a bucket is noted by the driver, or by nobody
    pub own-noted : (odd : Bool) (b : ℕ) → Noted odd b s.views → has b (noted_for odd v) ≡ true
    own-noted odd b was = elim (cases_eq was.id id) [
      | inl own ↦ subst (λ (u : Sight). has b (noted_for odd u) ≡ true) (some-injective was.sight v (sym was.is ∙ ap (get_elem? s.views) own ∙ at)) was.has_it
      | inr other ↦ absurd (none odd (subst (λ (u : Sight). has b (noted_for odd u) ≡ true) (others-spent was.id was.sight was.is other) was.has_it))
    ]
      where
        none : (o : Bool) → has b (noted_for o spent_sight) ≡ true → ⊥
        none true e = true≢false (sym e)
        none false e = true≢false (sym e)
