-- A table that tells which numbers a list has.
use Rattle.std.proofs.Common.{◌≡◌, ◌≢◌, ℕ, zero, suc, ◌+◌, ◌-◌, ◌<◌, ◌≤◌, ◌==◌, Bool, true, false, ◌||◌, eqb, eq-eqb, ne_eqb, List, [], ◌∷◌, length, get_or, set, take, drop, refl, sym, ap, ◌∙◌, arith, get_or-set_other, get_or-set_same}
use Rattle.std.specs.Bool.{beq}
use Rattle.std.specs.Prelude.{slice_range}
use Rattle.std.proofs.lemmas.Bool.{or_parts}
use Rattle.std.proofs.lemmas.List.{get_or-take, get_or-drop, length-take, length-drop}
use Rattle.std.proofs.lemmas.List.Folds.{list_any_more}
use mathlib.Core.Logic.{dite}
use native.Mathlib.Decide.{ℕ_discrete, dec_le}
use Rattle.sweep_laws.specs.Lists.{has, erase}
use Rattle.sweep_lists.specs.Tables.{TellsMembers}

-- one more item
has_more : (xs : List ℕ) (k d : ℕ) → k < length xs → (i : ℕ) → has i (take (k + 1) xs) ≡ (has i (take k xs) || eqb (get_or xs k d) i)
has_more xs k d low i = list_any_more (λ y. eqb y i) xs k d low

or_here : (a b c : Bool) → c ≡ true → true ≡ (a || (b || c))
or_here true b c e = refl
or_here false true c e = refl
or_here false false c e = sym e

or_else : (a b c : Bool) → c ≡ false → (a || b) ≡ (a || (b || c))
or_else true b c e = refl
or_else false true c e = refl
or_else false false c e = sym e

same_else : (xs : List ℕ) (k d : ℕ) → k < length xs → (a : Bool) (i : ℕ) → get_or xs k d ≢ i → (a || has i (take k xs)) ≡ (a || has i (take (k + 1) xs))
same_else xs k d low a i o = or_else a (has i (take k xs)) (eqb (get_or xs k d) i) (ne_eqb (get_or xs k d) i o) ∙ ap (λ b. a || b) (sym (has_more xs k d low i))

-- the table tells of one item more
pub told_more : (xs : List ℕ) (old seen : List Bool) (k d : ℕ) → k < length xs → ((i : ℕ) → i < length seen → get_or seen i false ≡ (get_or old i false || has i (take k xs)))
    → (i : ℕ) → i < length seen → get_or (set seen (get_or xs k d) true) i false ≡ (get_or old i false || has i (take (k + 1) xs))
told_more xs old seen k d low is i inside = dite (ℕ_discrete i (get_or xs k d))
    (λ e. ap (λ x. get_or (set seen x true) i false) (sym e) ∙ get_or-set_same seen i true false inside
    ∙ or_here (get_or old i false) (has i (take k xs)) (eqb (get_or xs k d) i) (eq-eqb (get_or xs k d) i (sym e)) ∙ ap (λ b. get_or old i false || b) (sym (has_more xs k d low i)))
    (λ o. get_or-set_other seen (get_or xs k d) i true false o ∙ is i inside ∙ same_else xs k d low (get_or old i false) i (λ e. o (sym e)))

-- the table does not reach one item more
pub beyond_more : (xs : List ℕ) (old seen : List Bool) (k d : ℕ) → k < length xs → length seen ≤ get_or xs k d → ((i : ℕ) → i < length seen → get_or seen i false ≡ (get_or old i false || has i (take k xs)))
    → (i : ℕ) → i < length seen → get_or seen i false ≡ (get_or old i false || has i (take (k + 1) xs))
beyond_more xs old seen k d low big is i inside = is i inside ∙ same_else xs k d low (get_or old i false) i (λ e. omega arith)

-- the first place of a number leaves: the others are there as before
has_erased : (i x : ℕ) (xs : List ℕ) → i ≢ x → has i xs ≡ has i (erase x xs)
has_erased i x [] o = refl
has_erased i x (y ∷ xs) o = dite (ℕ_discrete y x) here (there (has_erased i x xs o))
  where
    here : y ≡ x → has i (y ∷ xs) ≡ has i (erase x (y ∷ xs))
    here e = rw (eq-eqb y x e, ne_eqb y i (λ z. o (sym z ∙ e))) refl

    there : has i xs ≡ has i (erase x xs) → y ≢ x → has i (y ∷ xs) ≡ has i (erase x (y ∷ xs))
    there rest e = rw (ne_eqb y x e) (ap (λ b. (y == i) || b) rest)

-- a table that is told of a number anew tells of a list without it
pub tells_erased : (seen : List Bool) (xs : List ℕ) (x : ℕ) → TellsMembers seen xs → (b : Bool) → b ≡ has x (erase x xs) → (i : ℕ) → i < length seen → get_or (set seen x b) i false ≡ has i (erase x xs)
tells_erased seen xs x tells b is i inside = dite (ℕ_discrete i x)
    (λ e. ap (λ y. get_or (set seen y b) i false) (sym e) ∙ get_or-set_same seen i b false inside ∙ is ∙ ap (λ y. has y (erase x xs)) (sym e))
    (λ o. get_or-set_other seen x i b false o ∙ tells i inside ∙ has_erased i x xs o)

-- it tells nothing of a number beyond it
pub tells_beyond : (seen : List Bool) (xs : List ℕ) (x : ℕ) → TellsMembers seen xs → length seen ≤ x → TellsMembers seen (erase x xs)
tells_beyond seen xs x tells big i inside = tells i inside ∙ has_erased i x xs (λ e. omega arith)

-- a number that is not there leaves nothing behind
pub erased_absent : (x : ℕ) (xs : List ℕ) → has x xs ≡ false → xs ≡ erase x xs
erased_absent x [] e = refl
erased_absent x (y ∷ xs) e = let p = or_parts (y == x) (has x xs) e in rw p.0 (ap (λ ys. y ∷ ys) (erased_absent x xs p.1))

is_true : (b : Bool) → beq b false ≡ false → b ≡ true
is_true true e = refl
is_true false e = absurd (cc)

-- a stride of a table without a false place
pub stride_more : (seen : List Bool) (end : ℕ) → end + 32 ≤ length seen → ((i : ℕ) → i < end → get_or seen i false ≡ true)
    → ((k : ℕ) (d : Bool) → 0 ≤ k → k < length (slice_range seen end (end + 32)) → beq (get_or (slice_range seen end (end + 32)) k d) false ≡ false)
    → (i : ℕ) → i < end + 32 → get_or seen i false ≡ true
stride_more seen end inside told none i low = dite (dec_le end i)
    (λ s.
    let n : ℕ = (end + 32) - end in
    let k : ℕ = i - end in
    let e : end + k ≡ i = omega arith in
    let l : k < n = omega arith in
    let within : k < length (slice_range seen end (end + 32)) = omega (arith, length-take n (drop end seen), length-drop end seen) in
    ap (λ m. get_or seen m false) (sym e) ∙ sym (get_or-drop end seen k false) ∙ sym (get_or-take n (drop end seen) k false l) ∙ is_true _ (none k false (omega arith) within))
    (λ s. told i (omega arith))

-- numbers below a bound leave out all others
pub none_beyond : (bound : ℕ) (xs : List ℕ) → ((k : ℕ) → k < length xs → get_or xs k 0 < bound) → (i : ℕ) → bound ≤ i → has i xs ≡ false
none_beyond bound [] below i high = refl
none_beyond bound (x ∷ xs) below i high =
    let first : x < bound = below 0 (omega arith) in
    rw (ne_eqb x i (λ e. omega arith)) (none_beyond bound xs (λ k low. below (suc k) (omega arith)) i high)

-- a number that is not there is not there either once another leaves
pub gone_erased : (i x : ℕ) (xs : List ℕ) → has i xs ≡ false → has i (erase x xs) ≡ false
gone_erased i x [] e = refl
gone_erased i x (y ∷ xs) e = let p = or_parts (y == i) (has i xs) e in dite (ℕ_discrete y x)
    (λ s. rw (eq-eqb y x s) p.1)
    (λ o. rw (ne_eqb y x o, p.0) (gone_erased i x xs p.1))

-- the first number of the rest of a list leaves it
pub erased_first : (xs : List ℕ) (k d : ℕ) → k < length xs → erase (get_or (drop k xs) 0 d) (drop k xs) ≡ drop (suc k) xs
erased_first [] k d low = absurd (omega arith)
erased_first (x ∷ xs) zero d low = rw (eq-eqb x x refl) refl
erased_first (x ∷ xs) (suc k) d low = erased_first xs k d (omega arith)
