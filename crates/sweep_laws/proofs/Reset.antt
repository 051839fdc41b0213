-- One set and one hand change: what that does to the counts of a page, to the sets and to the claims.
use Rattle.std.proofs.Common.{◌≡◌, ◌≢◌, ℕ, ◌+◌, ◌<◌, ◌≤◌, ◌⊎◌, inl, inr, ⊎_elim, Bool, true, false, not, List, set, sym, ap, ◌∙◌, subst, arith}
use Rattle.std.specs.Prelude.{Some}
use mathlib.Core.Logic.{dite}
use mathlib.Core.Option.{some, some-injective}
use lib.ListN.{get_elem?}
use native.Mathlib.Decide.{ℕ_discrete}
use Rattle.sweep_laws.specs.declared.moves.Claimed.{Claimed}
use Rattle.sweep_laws.specs.State.{LifeState, SetState, HandState}
use Rattle.sweep_laws.specs.Reading.{cell_of, class_of_set, is_swept_set}
use Rattle.sweep_laws.specs.ChangesOfSets.{raise_head}
use Rattle.sweep_laws.specs.Counts.{times, total_from}
use Rattle.sweep_laws.specs.Named.{claimers, only, names_in, queued, unswept, unswept_own, is_class}
use Rattle.sweep_laws.specs.OwnedSets.{IsPage, ClaimFits, SetsFit}
use Rattle.sweep_laws.proofs.Totals.{total_from-set, part_from_le, gap_le, inside_at}
use Rattle.sweep_laws.proofs.Naming.{at_set, set_here, set_else}
use Rattle.sweep_laws.proofs.Turned.{claimers_kept}

abbrev Of : Type 0
Of = ℕ → SetState → ℕ

none_before : (j : ℕ) → 0 + j ≡ j
none_before j = omega arith

pub sets_set : (f : Of) (ss : List SetState) (j : ℕ) (s s' : SetState) → get_elem? ss j ≡ some s → total_from f 0 (set ss j s') + f j s ≡ total_from f 0 ss + f j s'
sets_set f ss j s s' at = subst (λ (i : ℕ). total_from f 0 (set ss j s') + f i s ≡ total_from f 0 ss + f i s') (none_before j) (total_from-set f 0 ss j s s' at)

pub sets_part : (f : Of) (ss : List SetState) (j : ℕ) (s : SetState) → get_elem? ss j ≡ some s → f j s ≤ total_from f 0 ss
sets_part f ss j s at = subst (λ (i : ℕ). f i s ≤ total_from f 0 ss) (none_before j) (part_from_le f 0 ss j s at)

pub sets_gap : (f g : Of) (ss : List SetState) → ((i : ℕ) (s : SetState) → f i s ≤ g i s) → (j : ℕ) (s : SetState) → get_elem? ss j ≡ some s → total_from f 0 ss + g j s ≤ total_from g 0 ss + f j s
sets_gap f g ss le j s at = subst (λ (i : ℕ). total_from f 0 ss + g i s ≤ total_from g 0 ss + f i s) (none_before j) (gap_le f g 0 ss le j s at)

only_le : (b : Bool) (x : ℕ) → only b x ≤ x
only_le true x = omega arith
only_le false x = omega arith

-- what one set names, by its part
pub record SetDeltas (g p : ℕ) (ls : List LifeState) (ss ss' : List SetState) (own : Bool) (swept : Bool) (s s' : SetState) : Type 0 where
  pub queue : queued g p ss' + only swept (names_in p s) ≡ queued g p ss + only swept (names_in p s')
  pub waiting : unswept g p ss' + only (not swept) (names_in p s) ≡ unswept g p ss + only (not swept) (names_in p s')
  pub mine : unswept_own g p ls ss' + only own (only (not swept) (names_in p s)) ≡ unswept_own g p ls ss + only own (only (not swept) (names_in p s'))
  pub gap : unswept_own g p ls ss + only (not swept) (names_in p s) ≤ unswept g p ss + only own (only (not swept) (names_in p s))
  pub part : only swept (names_in p s) ≤ queued g p ss

pub set_deltas : (g p : ℕ) (ls : List LifeState) (ss : List SetState) (j : ℕ) (s s' : SetState) (swept : Bool) → get_elem? ss j ≡ some s → is_swept_set g j ≡ swept
    → SetDeltas g p ls ss (set ss j s') (is_class p (class_of_set j) ls) swept s s'
set_deltas g p ls ss j s s' swept at is = subst (λ (b : Bool). SetDeltas g p ls ss (set ss j s') (is_class p (class_of_set j) ls) b s s') is record {
  queue = sets_set (λ k x. only (is_swept_set g k) (names_in p x)) ss j s s' at;
  waiting = sets_set (λ k x. only (not (is_swept_set g k)) (names_in p x)) ss j s s' at;
  mine = sets_set (λ k x. only (is_class p (class_of_set k) ls) (only (not (is_swept_set g k)) (names_in p x))) ss j s s' at;
  gap = sets_gap (λ k x. only (is_class p (class_of_set k) ls) (only (not (is_swept_set g k)) (names_in p x))) (λ k x. only (not (is_swept_set g k)) (names_in p x)) ss
      (λ k x. only_le (is_class p (class_of_set k) ls) (only (not (is_swept_set g k)) (names_in p x))) j s at;
  part = sets_part (λ k x. only (is_swept_set g k) (names_in p x)) ss j s at;
}

module _ (g pages : ℕ) (ls : List LifeState) (ss : List SetState) (hs hs' : List HandState) (j : ℕ) (s s' : SetState) (at : get_elem? ss j ≡ some s) where
  -- a claim in sets of which one changed, where the claimed cell is still blank and unpopped
  pub claim_reset : (x y : HandState) (d : Claimed) → ClaimFits g pages ls ss x d
      → (d.set ≡ j → s.head ≤ d.index → d.index < s.tail → cell_of s d.index ≡ 0 → (s'.head ≤ d.index) × (d.index < s'.tail) × (cell_of s' d.index ≡ 0))
      → 0 < times d.page y.held → ClaimFits g pages ls (set ss j s') y d
  claim_reset x y d c blank held = dite (ℕ_discrete d.set j)
      (λ e. let same : c.set_at ≡ s = some-injective c.set_at s (sym c.is_set ∙ ap (get_elem? ss) e ∙ at) in
      let b = blank e (subst (λ (z : SetState). z.head ≤ d.index) same c.from_head) (subst (λ (z : SetState). d.index < z.tail) same c.below_tail) (subst (λ (z : SetState). cell_of z d.index ≡ 0) same c.blank) in
      record {
        set_at = s';
        is_set = ap (get_elem? (set ss j s')) e ∙ set_here ss j s' (inside_at ss j s at);
        is_swept = c.is_swept;
        from_head = b.0;
        below_tail = b.1;
        blank = b.2;
        is_page = c.is_page;
        held = held;
        class = c.class;
      })
      (λ o. record {
        set_at = c.set_at;
        is_set = set_else ss j d.set s' o ∙ c.is_set;
        is_swept = c.is_swept;
        from_head = c.from_head;
        below_tail = c.below_tail;
        blank = c.blank;
        is_page = c.is_page;
        held = held;
        class = c.class;
      })

  -- the sets fit where the changed one and the claims do
  pub sets_reset : SetsFit g pages ls ss hs → s'.head ≤ s'.tail → ((i : ℕ) → s'.tail ≤ i → cell_of s' i ≡ 0)
      → (is_swept_set g j ≡ false → (i : ℕ) → s'.head ≤ i → i < s'.tail → IsPage pages (λ p. Unit {0}) (cell_of s' i))
      → (is_swept_set g j ≡ true → (i : ℕ) → s'.head ≤ i → i < s'.tail → IsPage pages (λ p. is_class p (class_of_set j) ls ≡ true) (cell_of s' i) ⊎ ((cell_of s' i ≡ 0) × (claimers j i hs' ≡ 1)))
      → ((k i : ℕ) → k ≢ j → claimers k i hs' ≡ claimers k i hs)
      → ((m : ℕ) (x : HandState) → get_elem? hs' m ≡ some x → (d : Claimed) → x.claimed ≡ Some d → ClaimFits g pages ls (set ss j s') x d)
      → SetsFit g pages ls (set ss j s') hs'
  sets_reset f order beyond unswept_cell swept_cell others claims = record {
    order = λ k x a. ⊎_elim (λ (t : (k ≡ j) × (s' ≡ x)). subst (λ (z : SetState). z.head ≤ z.tail) t.1 order) (λ (t : (k ≢ j) × (get_elem? ss k ≡ some x)). f.order k x t.1) (at_set ss j k s' x a);
    beyond = λ k x a. ⊎_elim (λ (t : (k ≡ j) × (s' ≡ x)). subst (λ (z : SetState). (i : ℕ) → z.tail ≤ i → cell_of z i ≡ 0) t.1 beyond) (λ (t : (k ≢ j) × (get_elem? ss k ≡ some x)). f.beyond k x t.1) (at_set ss j k s' x a);
    unswept_cell = λ k x a. ⊎_elim
        (λ (t : (k ≡ j) × (s' ≡ x)). subst (λ (z : ℕ × SetState). is_swept_set g z.0 ≡ false → (i : ℕ) → z.1.head ≤ i → i < z.1.tail → IsPage pages (λ p. Unit {0}) (cell_of z.1 i)) (λ i. (sym t.0 i, t.1 i)) unswept_cell)
        (λ (t : (k ≢ j) × (get_elem? ss k ≡ some x)). f.unswept_cell k x t.1) (at_set ss j k s' x a);
    swept_cell = λ k x a. ⊎_elim
        (λ (t : (k ≡ j) × (s' ≡ x)). subst (λ (z : ℕ × SetState). is_swept_set g z.0 ≡ true → (i : ℕ) → z.1.head ≤ i → i < z.1.tail
        → IsPage pages (λ p. is_class p (class_of_set z.0) ls ≡ true) (cell_of z.1 i) ⊎ ((cell_of z.1 i ≡ 0) × (claimers z.0 i hs' ≡ 1))) (λ i. (sym t.0 i, t.1 i)) swept_cell)
        (λ (t : (k ≢ j) × (get_elem? ss k ≡ some x)) e i l m. ⊎_elim
        (λ (c : IsPage pages (λ p. is_class p (class_of_set k) ls ≡ true) (cell_of x i)). inl c)
        (λ (c : (cell_of x i ≡ 0) × (claimers k i hs ≡ 1)). inr (c.0, others k i t.0 ∙ c.1))
        (f.swept_cell k x t.1 e i l m))
        (at_set ss j k s' x a);
    claim = claims;
  }

-- a head goes over a cell that is filled, and one hand keeps its claim and what it holds
pub head_raised : (g pages : ℕ) (ls : List LifeState) (ss : List SetState) (hs : List HandState) → SetsFit g pages ls ss hs
    → (n : ℕ) (h h' : HandState) → get_elem? hs n ≡ some h → h'.claimed ≡ h.claimed → ((p : ℕ) → times p h.held ≤ times p h'.held)
    → (j : ℕ) (s : SetState) → get_elem? ss j ≡ some s → s.head < s.tail → 0 < cell_of s s.head → SetsFit g pages ls (set ss j (raise_head s)) (set hs n h')
head_raised g pages ls ss hs f n h h' at same holds j s there more filled = sets_reset g pages ls ss hs (set hs n h') j s (raise_head s) there f (omega arith) (f.beyond j s there)
    (λ e i l m. f.unswept_cell j s there e i (omega arith) m)
    (λ e i l m. ⊎_elim (λ (c : IsPage pages (λ z. is_class z (class_of_set j) ls ≡ true) (cell_of s i)). inl c)
    (λ (c : (cell_of s i ≡ 0) × (claimers j i hs ≡ 1)). inr (c.0, claimers_kept j i hs n h h' at same ∙ c.1))
    (f.swept_cell j s there e i (omega arith) m))
    (λ x i o. claimers_kept x i hs n h h' at same)
    (λ m x a d e. ⊎_elim
    (λ (t : (m ≡ n) × (h' ≡ x)). let c = f.claim n h at d (sym same ∙ ap (λ (z : HandState). z.claimed) t.1 ∙ e) in
    subst (λ (z : HandState). ClaimFits g pages ls (set ss j (raise_head s)) z d) t.1 (claim_kept h h' d c (let held = c.held in let o = holds d.page in omega arith)))
    (λ (t : (m ≢ n) × (get_elem? hs m ≡ some x)). let c = f.claim m x t.1 d e in claim_kept x x d c c.held)
    (at_set hs n m h' x a))
  where
    claim_kept : (x y : HandState) (d : Claimed) → ClaimFits g pages ls ss x d → 0 < times d.page y.held → ClaimFits g pages ls (set ss j (raise_head s)) y d
    claim_kept x y d c held = claim_reset g pages ls ss hs (set hs n h') j s (raise_head s) there x y d c
        (λ e a b z. (dite (ℕ_discrete d.index s.head) (λ y. let w = ap (cell_of s) y in absurd (omega arith)) (λ o. omega arith), b, z)) held
