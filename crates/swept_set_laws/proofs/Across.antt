-- A page is named once in all swept partial sets together, and once in all swept full ones: its life has one span class. So the tails of the
-- swept sets add up to at most twice the pages.
use Rattle.std.proofs.Common.{◌≡◌, ℕ, zero, suc, ◌+◌, ◌*◌, ◌/◌, ◌%◌, ◌<◌, ◌≤◌, Bool, true, false, true≢false, eqb, eq-eqb, ne_eqb, List, [], ◌∷◌, length, get_or, sum, sym, refl, ap, subst, ◌∙◌, arith}
use mathlib.Core.Logic.{dite}
use mathlib.Core.Option.{some}
use native.Mathlib.Decide.{ℕ_discrete}
use lib.ListN.{get_elem?}
use Rattle.std.proofs.lemmas.List.Sums.{sum_by-cons}
use Rattle.std.specs.Prelude.{cond}
use Rattle.sweep_laws.specs.Named.{is_class}
use Rattle.sweep_laws.specs.Reading.{class_of_set, is_swept_set, no_set, set_of}
use Rattle.sweep_laws.specs.State.{CoreState, LifeState, SetState}
use Rattle.worker_log.specs.declared.Entry.{Entry}
use Rattle.worker_log.specs.SetNumbers.{is_full_set, swept_set}
use Rattle.swept_set_laws.specs.Entered.{EnteredIn, IsEntry}
use Rattle.swept_set_laws.specs.SweptTails.{AreOfKind, swept_tails, tails_of_kind}
use Rattle.swept_set_laws.proofs.Pigeons.{in_all, pigeons_in_rows}

pub eqb_is : (a b : ℕ) → eqb a b ≡ true → a ≡ b
eqb_is a b e = dite (ℕ_discrete a b) (λ z. z) (λ d. absurd (true≢false (sym e ∙ ne_eqb a b d)))

-- a life has one class
one_class : (p m n : ℕ) (ls : List LifeState) → is_class p m ls ≡ true → is_class p n ls ≡ true → m ≡ n
one_class p m n [] a b = absurd (true≢false (sym a))
one_class p m n (l ∷ ls) a b = by_page (eqb l.page p) a b (one_class p m n ls)
  where
    by_page : (here : Bool) → cond here (eqb l.class m) (is_class p m ls) ≡ true → cond here (eqb l.class n) (is_class p n ls) ≡ true → (is_class p m ls ≡ true → is_class p n ls ≡ true → m ≡ n) → m ≡ n
    by_page true a b later = sym (eqb_is l.class m a) ∙ eqb_is l.class n b
    by_page false a b later = later a b

-- a set in which cells were claimed is there
claimed_at : (ss : List SetState) (k i : ℕ) → i < (get_or ss k no_set).tail → get_elem? ss k ≡ some (get_or ss k no_set)
claimed_at [] k i low = absurd (omega arith)
claimed_at (s ∷ ss) zero i low = refl
claimed_at (s ∷ ss) (suc k) i low = claimed_at ss k i low

-- the kind of a set is one of its number's digits
same_kind : (k l : ℕ) → is_full_set k ≡ is_full_set l → (k / 2) % 2 ≡ (l / 2) % 2
same_kind k l e = dite (ℕ_discrete ((k / 2) % 2) 1)
    (λ z. z ∙ sym (eqb_is ((l / 2) % 2) 1 (sym e ∙ eq-eqb ((k / 2) % 2) 1 z)))
    (λ z. dite (ℕ_discrete ((l / 2) % 2) 1) (λ y. absurd (true≢false (sym (e ∙ eq-eqb ((l / 2) % 2) 1 y) ∙ ne_eqb ((k / 2) % 2) 1 z))) (λ y. omega arith))

same_part : (g k l : ℕ) → is_swept_set g k ≡ true → is_swept_set g l ≡ true → k % 2 ≡ l % 2
same_part g k l a b = eqb_is (k % 2) ((g / 2) % 2) a ∙ sym (eqb_is (l % 2) ((g / 2) % 2) b)

module _ (c : CoreState) (logs : List (List Entry)) (names : ℕ → ℕ → ℕ) (e : EnteredIn c logs names) where
  entry_at : (k i : ℕ) → is_swept_set c.generation k ≡ true → i < (set_of c k).tail → IsEntry c.generation (length c.words) c.words c.lives k (names k i)
  entry_at k i swept low = (e.sets_name k (set_of c k) (claimed_at c.sets k i low) swept).entry i low

  pub named_once : (k l i j : ℕ) → AreOfKind c k l i j → names k i ≡ names l j → (k ≡ l) × (i ≡ j)
  named_once k l i j a same =
      let one = one_class (names k i) (class_of_set k) (class_of_set l) c.lives (entry_at k i a.swept.0 a.claimed.0).class
      (subst (λ (q : ℕ). is_class q (class_of_set l) c.lives ≡ true) (sym same) (entry_at l j a.swept.1 a.claimed.1).class) in
      let kind = same_kind k l a.kind in let part = same_part c.generation k l a.swept.0 a.swept.1 in
      let set : k ≡ l = omega arith in
      let low : j < (set_of c k).tail = subst (λ (q : ℕ). j < (set_of c q).tail) (sym set) a.claimed.1 in
      (set, (e.sets_name k (set_of c k) (claimed_at c.sets k i a.claimed.0) a.swept.0).once i j a.claimed.0 low (same ∙ ap (λ (q : ℕ). names q j) (sym set)))

  -- a swept set of a span class
  is_swept : (n full : ℕ) → is_swept_set c.generation (swept_set c.generation n full) ≡ true
  is_swept n full = eq-eqb (swept_set c.generation n full % 2) ((c.generation / 2) % 2) (omega arith)

  is_kind : (n m full : ℕ) → full < 2 → is_full_set (swept_set c.generation n full) ≡ is_full_set (swept_set c.generation m full)
  is_kind n m full two = let z : (swept_set c.generation n full / 2) % 2 ≡ (swept_set c.generation m full / 2) % 2 = omega arith in ap (λ (y : ℕ). eqb y 1) z

  sum_kind : (full n : ℕ) → sum (tails_of_kind c full n) ≡ in_all (λ k. (set_of c (swept_set c.generation k full)).tail) n
  sum_kind full zero = refl
  sum_kind full (suc n) = let t = sum_kind full n in let u = sum_by-cons (λ (x : ℕ). x) (set_of c (swept_set c.generation n full)).tail (tails_of_kind c full n) in omega arith

  pub kind_fits : (full n : ℕ) → full < 2 → sum (tails_of_kind c full n) ≤ length c.words
  kind_fits full n two = let t = sum_kind full n in
      let few = pigeons_in_rows (λ k i. names (swept_set c.generation k full) i) (λ k. (set_of c (swept_set c.generation k full)).tail) n (length c.words)
      (λ k i low inside. (entry_at (swept_set c.generation k full) i (is_swept k full) inside).low)
      (λ k l i j low low' inside inside' same.
      let z = named_once (swept_set c.generation k full) (swept_set c.generation l full) i j
      (record { swept = (is_swept k full, is_swept l full); kind = is_kind k l full two; claimed = (inside, inside') }) same in
      let y = z.0 in (omega arith, z.1)) in omega arith

  -- the swept sets are the partial and the full one of each class
  both_kinds : (n : ℕ) → sum (swept_tails c (2 * n)) ≡ sum (tails_of_kind c 0 n) + sum (tails_of_kind c 1 n)
  both_kinds zero = refl
  both_kinds (suc n) =
      let t = both_kinds n in let g = c.generation in
      let partial : 2 * (2 * n) + (g / 2) % 2 ≡ swept_set g n 0 = omega arith in
      let full : 2 * suc (2 * n) + (g / 2) % 2 ≡ swept_set g n 1 = omega arith in
      let two : 2 * suc n ≡ suc (suc (2 * n)) = omega arith in
      let a : sum (swept_tails c (suc (suc (2 * n)))) ≡ (set_of c (2 * suc (2 * n) + (g / 2) % 2)).tail + sum (swept_tails c (suc (2 * n))) = sum_by-cons (λ (x : ℕ). x) (set_of c (2 * suc (2 * n) + (g / 2) % 2)).tail (swept_tails c (suc (2 * n))) in
      let b : sum (swept_tails c (suc (2 * n))) ≡ (set_of c (2 * (2 * n) + (g / 2) % 2)).tail + sum (swept_tails c (2 * n)) = sum_by-cons (λ (x : ℕ). x) (set_of c (2 * (2 * n) + (g / 2) % 2)).tail (swept_tails c (2 * n)) in
      let p : sum (tails_of_kind c 0 (suc n)) ≡ (set_of c (swept_set g n 0)).tail + sum (tails_of_kind c 0 n) = sum_by-cons (λ (x : ℕ). x) (set_of c (swept_set g n 0)).tail (tails_of_kind c 0 n) in
      let q : sum (tails_of_kind c 1 (suc n)) ≡ (set_of c (swept_set g n 1)).tail + sum (tails_of_kind c 1 n) = sum_by-cons (λ (x : ℕ). x) (set_of c (swept_set g n 1)).tail (tails_of_kind c 1 n) in
      let x = ap (λ (k : ℕ). (set_of c k).tail) partial in let y = ap (λ (k : ℕ). (set_of c k).tail) full in
      ap (λ (k : ℕ). sum (swept_tails c k)) two ∙ (let z : sum (swept_tails c (suc (suc (2 * n)))) ≡ sum (tails_of_kind c 0 (suc n)) + sum (tails_of_kind c 1 (suc n)) = omega arith in z)

  pub tails_fit : sum (swept_tails c 272) ≤ 2 * length c.words
  tails_fit = let t = both_kinds 136 in let a = kind_fits 0 136 (omega arith) in let b = kind_fits 1 136 (omega arith) in omega arith
