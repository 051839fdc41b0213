-- What a claim and a pop ask, from what the worker's body tells.
use Rattle.std.proofs.Common.{◌≡◌, ℕ, zero, suc, ◌+◌, ◌<◌, ◌≤◌, Bool, not, eqb, eq-eqb, ne_eqb, true, false, true≢false, cond, List, [], ◌∷◌, length, refl, ap, sym, ◌∙◌, arith}
use Rattle.std.specs.Prelude.{None, Some, Option}
use Rattle.std.specs.List.{find, range_with_len}
use Rattle.std.specs.Option.{is_some}
use Rattle.std.proofs.lemmas.Bool.{eqb-true}
use mathlib.Core.Logic.{dite}
use native.Mathlib.Decide.{ℕ_discrete}
use Rattle.sweep_laws.specs.Lists.{has, least_outside}
use Rattle.sweep_laws.specs.Named.{begins, is_class}
use Rattle.sweep_laws.specs.Reading.{life_in}
use Rattle.sweep_laws.specs.State.{LifeState}
use Rattle.sweep_laws.proofs.NeedsMet.{not_true, some_none}
use Rattle.sweep_laws.proofs.Objects.{free_below}
use Rattle.swept_set_laws.specs.Entered.{is_full_life}

pub life_found : (p : ℕ) (ls : List LifeState) → begins p ls ≡ true → is_some (find (λ (l : LifeState). eqb l.page p) ls) ≡ true
life_found p [] b = absurd (true≢false (sym b))
life_found p (l ∷ ls) b = dite (ℕ_discrete l.page p) (λ s. rw (eq-eqb l.page p s) refl) (λ s. let a = ne_eqb l.page p s in let j : begins p ls ≡ true = rw a at b in rw a (life_found p ls j))

pub class_found : (p m : ℕ) (ls : List LifeState) → begins p ls ≡ true → (life_in p ls).class ≡ m → is_class p m ls ≡ true
class_found p m [] b e = absurd (true≢false (sym b))
class_found p m (l ∷ ls) b e = dite (ℕ_discrete l.page p)
    (λ s. let a = eq-eqb l.page p s in let x : l.class ≡ m = rw a at e in rw a (eq-eqb l.class m x))
    (λ s. let a = ne_eqb l.page p s in let j : begins p ls ≡ true = rw a at b in let x : (life_in p ls).class ≡ m = rw a at e in rw a (class_found p m ls j x))

pub class_is : (p m : ℕ) (ls : List LifeState) → is_class p m ls ≡ true → (life_in p ls).class ≡ m
class_is p m [] b = absurd (true≢false (sym b))
class_is p m (l ∷ ls) b = dite (ℕ_discrete l.page p)
    (λ s. let a = eq-eqb l.page p s in let x : eqb l.class m ≡ true = rw a at b in rw a (eqb-true l.class m x))
    (λ s. let a = ne_eqb l.page p s in let x : is_class p m ls ≡ true = rw a at b in rw a (class_is p m ls x))

-- an index of the list
pub some_in : (xs : List ℕ) (k : ℕ) → has k xs ≡ true → 0 < length xs
some_in [] k h = absurd (true≢false (sym h))
some_in (x ∷ xs) k h = omega arith

pub first_in : (xs : List ℕ) → 0 < length xs → (k : ℕ) × (has k xs ≡ true)
first_in [] l = absurd (omega arith)
first_in (x ∷ xs) l = (x, rw (eq-eqb x x refl) refl)

-- a search from a place on that would find, finds
found : (test : ℕ → Bool) (i n k : ℕ) → i ≤ k → k < i + n → test k ≡ true → is_some (find test (range_with_len i n)) ≡ true
found test i zero k a b t = absurd (omega arith)
found test i (suc n) k a b t = go (test i) refl (λ l. found test (i + 1) n k l (omega arith) t)
  where
    go : (x : Bool) → test i ≡ x → (i + 1 ≤ k → is_some (find test (range_with_len (i + 1) n)) ≡ true) → is_some (find test (range_with_len i (suc n))) ≡ true
    go true e rest = rw e refl
    go false e rest = rw e (rest (dite (ℕ_discrete i k) (λ s. absurd (true≢false (sym t ∙ ap test (sym s) ∙ e))) (λ d. omega arith)))

pub has_room : (l : LifeState) (k : ℕ) → k < l.count → has k l.allocated ≡ false → is_full_life l ≡ false
has_room l k low free = ap not (found (λ i. not (has i l.allocated)) 0 l.count k (omega arith) (omega arith) (ap not free))

pub is_full : (l : LifeState) → least_outside l.allocated l.count ≡ None → is_full_life l ≡ true
is_full l e = ap (λ (o : Option ℕ). not (is_some o)) e

some_same : (a b : ℕ) → Some a ≡ Some b → a ≡ b
some_same a b e = cc

find_passes : (test : ℕ → Bool) (xs : List ℕ) (k : ℕ) → find test xs ≡ Some k → test k ≡ true
find_passes test [] k f = absurd (some_none k (sym f))
find_passes test (x ∷ xs) k f = by (test x) refl f (find_passes test xs k)
  where
    by : (b : Bool) → test x ≡ b → cond b (Some x) (find test xs) ≡ Some k → (find test xs ≡ Some k → test k ≡ true) → test k ≡ true
    by true e f rest = ap test (sym (some_same x k f)) ∙ e
    by false e f rest = rest f

-- in a full life each index below the count is allocated
pub all_in : (l : LifeState) → is_full_life l ≡ true → (k : ℕ) → k < l.count → has k l.allocated ≡ true
all_in l full k low = go (has k l.allocated) refl
  where
    go : (b : Bool) → has k l.allocated ≡ b → has k l.allocated ≡ true
    go true e = e
    go false e = absurd (true≢false (sym full ∙ has_room l k low e))

-- in another one some index is free
pub free_in : (l : LifeState) → is_full_life l ≡ false → (k : ℕ) × (k < l.count) × (has k l.allocated ≡ false)
free_in l e = go (least_outside l.allocated l.count) refl
  where
    go : (o : Option ℕ) → least_outside l.allocated l.count ≡ o → (k : ℕ) × (k < l.count) × (has k l.allocated ≡ false)
    go None f = absurd (true≢false (sym (is_full l f) ∙ e))
    go (Some k) f = (k, free_below l.allocated l.count k f, not_true (has k l.allocated) (find_passes (λ i. not (has i l.allocated)) (range_with_len 0 l.count) k f))
