-- Lists of parts and hands, where one of them changes.
use Rattle.std.proofs.Common.{◌≡◌, ◌≢◌, ℕ, zero, suc, ◌+◌, ◌<◌, ◌≤◌, Bool, ◌||◌, true, false, List, [], ◌∷◌, ◌++◌, map, set, length, refl, sym, ap, ◌∙◌, arith, eqb, eq-eqb, ne_eqb}
use mathlib.Core.Logic.{dite}
use mathlib.Core.Option.{some, some-injective, some-ne-none}
use lib.ListN.{get_elem?}
use native.Mathlib.Decide.{ℕ_discrete}
use Rattle.sweep_laws.specs.Counts.{times, total}
use Rattle.sweep_laws.specs.Lists.{erase, has}
use Rattle.sweep_laws.specs.Named.{only}
use Rattle.sweep_laws.specs.Owned.{Owned}
use Rattle.sweep_laws.specs.Standing.{Standing, is_free, is_unswept, is_sweeping, is_swept, is_stale, is_cached, Tally, tally}
use Rattle.sweep_laws.specs.State.{CoreState, HandState}
use Rattle.sweep_laws.proofs.Forms.{kept_of}
use Rattle.sweep_laws.proofs.Totals.{part_le, two_parts_le}
use Rattle.span_laws.specs.declared.view.Part.{Part}
use Rattle.span_laws.specs.Bodies.{lends, is_claimed}
use Rattle.span_laws.specs.Views.{hand_state}

pub set_else : {A : Type 0} (l : List A) (i : ℕ) (a : A) (m : ℕ) → m ≢ i → get_elem? (set l i a) m ≡ get_elem? l m
set_else [] i a m d = refl
set_else (x ∷ l) zero a zero d = absurd (d refl)
set_else (x ∷ l) zero a (suc m) d = refl
set_else (x ∷ l) (suc i) a zero d = refl
set_else (x ∷ l) (suc i) a (suc m) d = set_else l i a m (λ e. d (ap suc e))

-- two places of a list, each set once
pub set_apart : {A : Type 0} (l : List A) (i m : ℕ) (a b : A) → m ≢ i → set (set l m b) i a ≡ set (set l i a) m b
set_apart [] i m a b d = refl
set_apart (x ∷ l) zero zero a b d = absurd (d refl)
set_apart (x ∷ l) zero (suc m) a b d = refl
set_apart (x ∷ l) (suc i) zero a b d = refl
set_apart (x ∷ l) (suc i) (suc m) a b d = ap (λ ys. x ∷ ys) (set_apart l i m a b (λ e. d (ap suc e)))

pub at_map : {A B : Type 0} (f : A → B) (l : List A) (n : ℕ) (a : A) → get_elem? l n ≡ some a → get_elem? (map f l) n ≡ some (f a)
at_map f [] n a e = absurd (some-ne-none a (sym e))
at_map f (x ∷ l) zero a e = ap (λ y. some (f y)) (some-injective x a e)
at_map f (x ∷ l) (suc n) a e = at_map f l n a e

pub only-le : (b : Bool) (n : ℕ) → only b n ≤ n
only-le true n = omega arith
only-le false n = omega arith

-- how often a part has a page in any way
abbrev pub has3 : ℕ → Part → ℕ
has3 p h = times p h.sweeping + times p h.held + times p h.cached

pub lends-le : (p : ℕ) (h : Part) → lends p h ≤ has3 p h
lends-le p h = let o = only-le (Rattle.std.proofs.Common.not (is_claimed p h.claimed)) (times p h.held) in omega arith

had_once : (g : ℕ) (t : Tally) → Standing g t → t.sweeping + t.held + t.cached ≤ 1
had_once g t (is_free w z) = omega arith
had_once g t (is_unswept w z o) = omega arith
had_once g t (is_sweeping w o z) = omega arith
had_once g t (is_swept w z o) = omega arith
had_once g t (is_stale w o z) = omega arith
had_once g t (is_cached w o z) = omega arith

-- one part has a page, so no other has it
pub alone : (c : CoreState) → Owned c → (ps : List Part) → c.hands ≡ map hand_state ps → (p : ℕ) → p < length c.words → (n : ℕ) (h : Part) → get_elem? ps n ≡ some h → 0 < has3 p h
    → (m : ℕ) (x : Part) → m ≢ n → get_elem? ps m ≡ some x → has3 p x ≡ 0
alone c o ps e p low n h at has m x d there =
    let one = had_once c.generation (tally c.generation c.words c.lives c.sets c.hands p) ((kept_of c o).page p low).standing in
    let a : get_elem? c.hands n ≡ some (hand_state h) = ap (λ (l : List HandState). get_elem? l n) e ∙ at_map hand_state ps n h at in
    let b : get_elem? c.hands m ≡ some (hand_state x) = ap (λ (l : List HandState). get_elem? l m) e ∙ at_map hand_state ps m x there in
    let s = two_parts_le (λ (y : HandState). times p y.sweeping) c.hands n m (hand_state h) (hand_state x) (λ z. d (sym z)) a b in
    let t = two_parts_le (λ (y : HandState). times p y.held) c.hands n m (hand_state h) (hand_state x) (λ z. d (sym z)) a b in
    let u = two_parts_le (λ (y : HandState). times p y.cached) c.hands n m (hand_state h) (hand_state x) (λ z. d (sym z)) a b in
    omega arith

-- nobody has a page, so no part has it
pub nobodys : (c : CoreState) (ps : List Part) → c.hands ≡ map hand_state ps → (p : ℕ)
    → total (λ (y : HandState). times p y.sweeping) c.hands + total (λ (y : HandState). times p y.held) c.hands + total (λ (y : HandState). times p y.cached) c.hands ≡ 0
    → (m : ℕ) (x : Part) → get_elem? ps m ≡ some x → has3 p x ≡ 0
nobodys c ps e p none m x there =
    let b : get_elem? c.hands m ≡ some (hand_state x) = ap (λ (l : List HandState). get_elem? l m) e ∙ at_map hand_state ps m x there in
    let s = part_le (λ (y : HandState). times p y.sweeping) c.hands m (hand_state x) b in
    let t = part_le (λ (y : HandState). times p y.held) c.hands m (hand_state x) b in
    let u = part_le (λ (y : HandState). times p y.cached) c.hands m (hand_state x) b in
    omega arith

pub has_none : (p : ℕ) (xs : List ℕ) → times p xs ≡ 0 → has p xs ≡ false
has_none p [] e = refl
has_none p (x ∷ xs) e = dite (ℕ_discrete x p) (λ s. let b = ap Rattle.sweep_laws.specs.Counts.one_if (eq-eqb x p s) in absurd (omega arith))
    (λ s. let b = ap Rattle.sweep_laws.specs.Counts.one_if (ne_eqb x p s) in rw (ne_eqb x p s) (has_none p xs (omega arith)))

pub has_end_here : (p : ℕ) (xs : List ℕ) → has p (xs ++ p ∷ []) ≡ true
has_end_here p [] = rw (eq-eqb p p refl) refl
has_end_here p (x ∷ xs) = or_right (eqb x p) (has p (xs ++ p ∷ [])) (has_end_here p xs)
  where
    or_right : (a b : Bool) → b ≡ true → (a || b) ≡ true
    or_right true b e = refl
    or_right false b e = e

pub has_end_else : (q p : ℕ) (xs : List ℕ) → q ≢ p → has q (xs ++ p ∷ []) ≡ has q xs
has_end_else q p [] d = rw (ne_eqb p q (λ e. d (sym e))) refl
has_end_else q p (x ∷ xs) d = ap (λ (b : Bool). eqb x q || b) (has_end_else q p xs d)

pub has_erase_else : (q p : ℕ) (xs : List ℕ) → q ≢ p → has q (erase p xs) ≡ has q xs
has_erase_else q p [] d = refl
has_erase_else q p (x ∷ xs) d = dite (ℕ_discrete x p)
    (λ s. rw (eq-eqb x p s, ne_eqb x q (λ z. d (sym z ∙ s))) refl)
    (λ s. rw (ne_eqb x p s) (ap (λ (b : Bool). eqb x q || b) (has_erase_else q p xs d)))

-- a part has a page in one way at most
pub own_once : (c : CoreState) → Owned c → (ps : List Part) → c.hands ≡ map hand_state ps → (p : ℕ) → p < length c.words → (n : ℕ) (h : Part) → get_elem? ps n ≡ some h → has3 p h ≤ 1
own_once c o ps e p low n h at =
    let one = had_once c.generation (tally c.generation c.words c.lives c.sets c.hands p) ((kept_of c o).page p low).standing in
    let a : get_elem? c.hands n ≡ some (hand_state h) = ap (λ (l : List HandState). get_elem? l n) e ∙ at_map hand_state ps n h at in
    let s = part_le (λ (y : HandState). times p y.sweeping) c.hands n (hand_state h) a in
    let t = part_le (λ (y : HandState). times p y.held) c.hands n (hand_state h) a in
    let u = part_le (λ (y : HandState). times p y.cached) c.hands n (hand_state h) a in
    omega arith
