-- Tallies come and go: the table at the start, a tally that is split off, and one that is joined.
use Rattle.std.proofs.Common.{◌≡◌, ◌≢◌, ℕ, zero, suc, ◌+◌, ◌%◌, ◌^◌, ⊎_elim, Bool, true, false, true≢false, ◌||◌, List, [], ◌∷◌, ◌++◌, length, get_or, set, replicate, refl, sym, ap, subst, ◌∙◌, arith, inl, inr}
use Rattle.std.proofs.lemmas.Bool.{cases_eq, cases_lt}
use Rattle.std.proofs.lemmas.List.{get_or-replicate, length-replicate}
use Rattle.std.proofs.Math.Dec.{eqb}
use Rattle.std.proofs.Math.ListN.{get_or-eq_default}
use mathlib.Core.Option.{some, some-injective, some-ne-none}
use lib.ListN.{get_elem?}
use Rattle.atomic_table.specs.Table.{Splits, Joins, opening}
use Rattle.atomic_table.proofs.Lists.{at_longer, at_set, at_snoc, set_here, set_else}
use Rattle.profile_cycle.specs.declared.sight.Sight.{Sight}
use Rattle.profile_cycle.specs.declared.words.Word.{Word}
use Rattle.profile_cycle.specs.declared.words.Word.TheVariants.{Published, Waiting}
use Rattle.profile_cycle.specs.History.{first_view, one_if, split_off}
use Rattle.profile_cycle.specs.Kept.{AreBy, AreCounting}
use Rattle.profile_cycle.specs.Rule.{has, stands, total, noted_for, first_sight, spent_sight, lent_sight, split_sight, joined_sight, Seated, Noted, Ruled}
use Rattle.profile_cycle.specs.Words.{by_row, is_odd, place, word_count}
use Rattle.profile_cycle.proofs.Allowed.{still}
use Rattle.profile_cycle.proofs.Parts.{joined-part, none-part}
use Rattle.profile_cycle.proofs.Seats.{at-low, lent-out, noted-kept}
use Rattle.profile_cycle.proofs.Totals.{total-part, total-set, total-snoc}

-- ---- the start

zero-at : (n b : ℕ) → ◌≡◌ {A = ℕ} (get_or (replicate n 0) b 0) 0
zero-at n b = elim (cases_lt b n) [
  | inl less ↦ get_or-replicate n b 0 0 less
  | inr ge ↦ (let zeros : List ℕ = replicate n 0 in let len : length zeros ≡ n = length-replicate n 0 in get_or-eq_default zeros 0 (omega arith))
]

first-seat : (i : ℕ) (v : Sight) → get_elem? (first_sight ∷ []) i ≡ some v → Seated 0 i v
first-seat zero v e = subst (λ (u : Sight). Seated 0 0 u) (some-injective first_sight v e) record { drives = λ on. refl; out = λ off. refl; spent = λ off. absurd (true≢false off) }
first-seat (suc i) v e = absurd (some-ne-none v (sym e))

pub start-rule : (n : ℕ) (ws : List ℕ) → ws ≡ replicate (word_count n) 0 → Ruled n (opening ws [] first_sight)
start-rule n ws e = let at : (p : ℕ) → get_or ws p 0 ≡ 0 = λ p. ap (λ (xs : List ℕ). get_or xs p 0) e ∙ zero-at (word_count n) p in record {
  driver = 0;
  size = ap length e ∙ length-replicate (word_count n) 0;
  seats = first-seat;
  out = refl;
  words = λ w is. at (place w) ∙ ap (λ (z : ℕ). (z + 0) % 2 ^ 64) (sym (none-part w first_view refl));
  noted = λ k odd b low more. absurd (more (at (place (Waiting k odd b))));
}

-- ---- a tally is split off

lent-stands : (w : Word) (v : Sight) → stands w (lent_sight v) ≡ stands w v
lent-stands (Published k b) v = refl
lent-stands (Waiting k o b) v = refl

split-stands : (w : Word) (v : Sight) → stands w (split_sight v) ≡ 0
split-stands w v = none-part w (split_off v.view) refl

noted-longer : (odd : Bool) (b : ℕ) (vs : List Sight) (w : Sight) → Noted odd b vs → Noted odd b (vs ++ w ∷ [])
noted-longer odd b vs w was = record { id = was.id; sight = was.sight; is = at_longer vs (w ∷ []) was.id was.sight was.is; has_it = was.has_it }

pub split-allowed : (n id : ℕ) (v : Sight) → v.view.drives ≡ true → Splits (Ruled n) id v (lent_sight v) (split_sight v)
split-allowed n id v drives s r at = let vs = set s.views id (lent_sight v) in record {
  driver = r.driver;
  size = r.size;
  seats = λ j x e. ⊎_elim
      (λ (t : get_elem? vs j ≡ some x). ⊎_elim
      (λ (y : (j ≡ id) × (lent_sight v ≡ x)). subst (λ (z : ℕ × Sight). Seated r.driver z.0 z.1) (λ i. (sym y.0 i, y.1 i)) record {
        drives = (r.seats id v at).drives;
        out = λ off. absurd (true≢false (sym drives ∙ off));
        spent = λ off. absurd (true≢false (sym drives ∙ off));
      })
      (λ (y : (j ≢ id) × (get_elem? s.views j ≡ some x)). r.seats j x y.1)
      (at_set s.views id j (lent_sight v) x t))
      (λ (t : split_sight v ≡ x). subst (λ (z : Sight). Seated r.driver j z) t record { drives = λ on. absurd (true≢false (sym on)); out = λ off. refl; spent = λ off none. absurd (true≢false none) })
      (at_snoc vs (split_sight v) x j e);
  out = (let a = total-snoc (λ u. u.view.out) vs (split_sight v) in let b = total-set (λ u. u.view.out) s.views id v (lent_sight v) at in
      let c = total-snoc (λ u. one_if u.lent) vs (split_sight v) in let d = total-set (λ u. one_if u.lent) s.views id v (lent_sight v) at in let was = r.out in omega arith);
  words = λ k is. (let a = total-snoc (stands k) vs (split_sight v) in let b = total-set (stands k) s.views id v (lent_sight v) at in
      let l = lent-stands k v in let z = split-stands k v in let same : total (stands k) s.views ≡ total (stands k) (vs ++ split_sight v ∷ []) = omega arith in
      r.words k is ∙ ap (λ (x : ℕ). x % 2 ^ 64) same);
  noted = λ k odd b low more. noted-longer odd b vs (split_sight v) (noted-kept odd b s.views id v (lent_sight v) at (λ h. h) (at-low s.views id v at) (r.noted k odd b low more));
}

-- ---- a tally is joined

or-left : (a b : Bool) → a ≡ true → (a || b) ≡ true
or-left true b e = refl
or-left false b e = absurd (true≢false (sym e))

or-right : (a b : Bool) → b ≡ true → (a || b) ≡ true
or-right true b e = refl
or-right false b e = e

or-more : (a b c : Bool) → (b ≡ true → c ≡ true) → (a || b) ≡ true → (a || c) ≡ true
or-more true b c f e = refl
or-more false b c f e = f e

pub has-left : (x : ℕ) (xs ys : List ℕ) → has x xs ≡ true → has x (xs ++ ys) ≡ true
has-left x [] ys e = absurd (true≢false (sym e))
has-left x (y ∷ xs) ys e = or-more (eqb y x) (has x xs) (has x (xs ++ ys)) (has-left x xs ys) e

pub has-right : (x : ℕ) (xs ys : List ℕ) → has x ys ≡ true → has x (xs ++ ys) ≡ true
has-right x [] ys e = e
has-right x (y ∷ xs) ys e = or-right (eqb y x) (has x (xs ++ ys)) (has-right x xs ys e)

row-left : (o odd : Bool) (x : ℕ) (l d l' d' : List ℕ) → has x (by_row o odd l d) ≡ true → has x (by_row o odd (l ++ l') (d ++ d')) ≡ true
row-left true true x l d l' d' e = has-left x l l' e
row-left true false x l d l' d' e = has-left x d d' e
row-left false true x l d l' d' e = has-left x d d' e
row-left false false x l d l' d' e = has-left x l l' e

row-right : (o odd : Bool) (x : ℕ) (l d l' d' : List ℕ) → has x (by_row o odd l' d') ≡ true → has x (by_row o odd (l ++ l') (d ++ d')) ≡ true
row-right true true x l d l' d' e = has-right x l l' e
row-right true false x l d l' d' e = has-right x d d' e
row-right false true x l d l' d' e = has-right x d d' e
row-right false false x l d l' d' e = has-right x l l' e

module _ (n id : ℕ) (v : Sight) (other : ℕ) (u : Sight) (drives : v.view.drives ≡ true) (off : u.view.drives ≡ false) (is_lent : u.lent ≡ true) (cycle : u.view.cycle ≡ v.view.cycle)
    (counting : AreCounting v.view.cycle u.view.calls) (by : AreBy v.view.cycle v.view.calls) (still_v : v.moved ≡ []) (still_u : u.moved ≡ []) where
  abbrev both : Sight
  both = joined_sight v u

  joined-stands : (k : Word) → stands k both ≡ stands k v + stands k u
  joined-stands k = still k both still_v ∙ joined-part v.view u.view cycle counting by k ∙ (λ i. sym (still k v still_v) i + sym (still k u still_u) i)

  pub join-allowed : Joins (Ruled n) id v other u both spent_sight
  join-allowed s r at apart there = let vs = set s.views id both in let was : get_elem? s.views other ≡ some u = sym (set_else s.views id other both apart) ∙ there in record {
    driver = r.driver;
    size = r.size;
    seats = λ j x e. ⊎_elim
        (λ (t : (j ≡ other) × (spent_sight ≡ x)). subst (λ (z : Sight). Seated r.driver j z) t.1 record { drives = λ on. absurd (true≢false (sym on)); out = λ no. refl; spent = λ no none. refl })
        (λ (t : (j ≢ other) × (get_elem? vs j ≡ some x)). ⊎_elim
        (λ (y : (j ≡ id) × (both ≡ x)). subst (λ (z : ℕ × Sight). Seated r.driver z.0 z.1) (λ i. (sym y.0 i, y.1 i)) record {
          drives = (r.seats id v at).drives;
          out = λ no. absurd (true≢false (sym drives ∙ no));
          spent = λ no. absurd (true≢false (sym drives ∙ no));
        })
        (λ (y : (j ≢ id) × (get_elem? s.views j ≡ some x)). r.seats j x y.1)
        (at_set s.views id j both x t.1))
        (at_set vs other j spent_sight x e);
    out = (let a = total-set (λ x. x.view.out) s.views id v both at in let b = total-set (λ x. x.view.out) vs other u spent_sight there in
        let c = total-set (λ x. one_if x.lent) s.views id v both at in let d = total-set (λ x. one_if x.lent) vs other u spent_sight there in
        let one = ap one_if is_lent in let none = (r.seats other u was).out off in let all = lent-out n s r id v at drives in
        let some_out = total-part (λ x. one_if x.lent) s.views other u was in let before = r.out in omega arith);
    words = λ k is. (let a = total-set (stands k) s.views id v both at in let b = total-set (stands k) vs other u spent_sight there in
        let l = joined-stands k in let z = none-part k spent_sight.view refl in let same : total (stands k) s.views ≡ total (stands k) (set vs other spent_sight) = omega arith in
        r.words k is ∙ ap (λ (x : ℕ). x % 2 ^ 64) same);
    noted = λ k odd b low more. joined-noted s.views at apart there was odd b (r.noted k odd b low more);
  }
    where
      joined-noted : (views : List Sight) → get_elem? views id ≡ some v → other ≢ id → get_elem? (set views id both) other ≡ some u → get_elem? views other ≡ some u
          → (odd : Bool) (b : ℕ) → Noted odd b views → Noted odd b (set (set views id both) other spent_sight)
      joined-noted views at apart there was odd b m = elim (cases_eq m.id other) [
        | inl theirs ↦ own (
            row-left odd (is_odd v.view.cycle) b u.later u.due v.later v.due
            (subst (λ (c : ℕ). has b (by_row odd (is_odd c) u.later u.due) ≡ true) cycle
            (subst (λ (x : Sight). has b (noted_for odd x) ≡ true) (some-injective m.sight u (sym m.is ∙ ap (get_elem? views) theirs ∙ was)) m.has_it)))
        | inr not_theirs ↦ elim (cases_eq m.id id) [
          | inl mine ↦ own (
              row-right odd (is_odd v.view.cycle) b u.later u.due v.later v.due
              (subst (λ (x : Sight). has b (noted_for odd x) ≡ true) (some-injective m.sight v (sym m.is ∙ ap (get_elem? views) mine ∙ at)) m.has_it))
          | inr not_mine ↦ record {
            id = m.id;
            sight = m.sight;
            is = set_else (set views id both) other m.id spent_sight not_theirs ∙ set_else views id m.id both not_mine ∙ m.is;
            has_it = m.has_it;
          }
        ]
      ]
        where
          own : has b (noted_for odd both) ≡ true → Noted odd b (set (set views id both) other spent_sight)
          own has_it = record {
            id = id;
            sight = both;
            is = set_else (set views id both) other id spent_sight (λ e. apart (sym e)) ∙ set_here views id both (at-low views id v at);
            has_it = has_it;
          }
