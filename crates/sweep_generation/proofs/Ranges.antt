-- Searches through numbers that follow one another, number by number.
use Rattle.std.proofs.Common.{◌≡◌, ◌≢◌, ℕ, zero, suc, ◌+◌, ◌<◌, ◌≤◌, ◌||◌, Bool, true, false, cond, List, [], ◌∷◌, ◌++◌, map, length, set, take, refl, sym, ap, ◌∙◌, subst, arith}
use Rattle.std.specs.Prelude.{Option, Some, None}
use Rattle.std.specs.List.{find, filter, list_any, range_with_len}
use Rattle.std.proofs.lemmas.List.Elements.{filter-append}
use mathlib.Core.Logic.{dite}
use native.Mathlib.Decide.{ℕ_discrete}
use Rattle.sweep_laws.proofs.PulledPages.{range_none, none_in_range}

some_not : (x : ℕ) → Some x ≡ None → ⊥
some_not x e = cc

-- one number more that does not pass
pub none_more : (test : ℕ → Bool) (a n : ℕ) → find test (range_with_len a n) ≡ None → test (a + n) ≡ false → find test (range_with_len a (suc n)) ≡ None
none_more test a n none fails = none_in_range test a (suc n)
    (λ q l m. dite (ℕ_discrete q (a + n)) (λ e. ap test e ∙ fails) (λ o. range_none test a n none q l (omega arith)))

-- the first number that passes
pub stops_at : (test : ℕ → Bool) (a k n : ℕ) → find test (range_with_len a k) ≡ None → test (a + k) ≡ true → k < n → find test (range_with_len a n) ≡ Some (a + k)
stops_at test a k zero none passes low = absurd (omega arith)
stops_at test a zero (suc n) none passes low =
    let at : a + 0 ≡ a = omega arith in let here : test a ≡ true = ap test (sym at) ∙ passes in
    rw here (ap (λ (x : ℕ). let z : Option ℕ = Some x in z) (sym at))
stops_at test a (suc k) (suc n) none passes low = go (test a) refl none (stops_at test (a + 1) k n)
  where
    at : a + 1 + k ≡ a + suc k
    at = omega arith

    go : (b : Bool) → test a ≡ b → cond b (Some a) (find test (range_with_len (a + 1) k)) ≡ None
        → (find test (range_with_len (a + 1) k) ≡ None → test (a + 1 + k) ≡ true → k < n → find test (range_with_len (a + 1) n) ≡ Some (a + 1 + k))
        → cond b (Some a) (find test (range_with_len (a + 1) n)) ≡ Some (a + suc k)
    go true s f rest = absurd (some_not a f)
    go false s f rest = rest f (ap test at ∙ passes) (omega arith) ∙ ap (λ (x : ℕ). let z : Option ℕ = Some x in z) at

-- one number more
range_more : (a n : ℕ) → range_with_len a (suc n) ≡ range_with_len a n ++ (a + n) ∷ []
range_more a zero = ap (λ (x : ℕ). x ∷ []) (let e : a ≡ a + 0 = omega arith in e)
range_more a (suc n) = ap (λ (xs : List ℕ). a ∷ xs) (range_more (a + 1) n ∙ ap (λ (x : ℕ). range_with_len (a + 1) n ++ x ∷ []) (let e : a + 1 + n ≡ a + suc n = omega arith in e))

take_put : (xs : List ℕ) (n x : ℕ) → n < length xs → take (suc n) (set xs n x) ≡ take n xs ++ x ∷ []
take_put [] n x low = absurd (omega arith)
take_put (y ∷ ys) zero x low = refl
take_put (y ∷ ys) (suc n) x low = ap (λ (zs : List ℕ). y ∷ zs) (take_put ys n x (omega arith))

-- the numbers that pass, with one more that does, put into a place, or with one more that does not
pub passes_more : (test : ℕ → Bool) (a n : ℕ) (xs : List ℕ) (k : ℕ) → k < length xs → take k xs ≡ filter test (range_with_len a n) → test (a + n) ≡ true
    → take (suc k) (set xs k (a + n)) ≡ filter test (range_with_len a (suc n))
passes_more test a n xs k low is passes =
    let one : filter test ((a + n) ∷ []) ≡ (a + n) ∷ [] = rw passes refl in
    take_put xs k (a + n) low ∙ ap (λ (ys : List ℕ). ys ++ (a + n) ∷ []) is ∙ ap (λ (ys : List ℕ). filter test (range_with_len a n) ++ ys) (sym one)
    ∙ sym (filter-append test (range_with_len a n) ((a + n) ∷ [])) ∙ ap (λ (ys : List ℕ). filter test ys) (sym (range_more a n))

pub passes_none : (test : ℕ → Bool) (a n : ℕ) → test (a + n) ≡ false → filter test (range_with_len a (suc n)) ≡ filter test (range_with_len a n)
passes_none test a n fails =
    let one : filter test ((a + n) ∷ []) ≡ [] = rw fails refl in
    ap (λ (ys : List ℕ). filter test ys) (range_more a n) ∙ filter-append test (range_with_len a n) ((a + n) ∷ [])
    ∙ ap (λ (ys : List ℕ). filter test (range_with_len a n) ++ ys) one ∙ append_nil (filter test (range_with_len a n))
  where
    append_nil : (ys : List ℕ) → ys ++ [] ≡ ys
    append_nil [] = refl
    append_nil (y ∷ ys) = ap (λ (zs : List ℕ). y ∷ zs) (append_nil ys)

-- the same, where numbers are counted by adding 1
pub none_next : (test : ℕ → Bool) (a n : ℕ) → find test (range_with_len a n) ≡ None → test (a + n) ≡ false → find test (range_with_len a (n + 1)) ≡ None
none_next test a n none fails = let e : suc n ≡ n + 1 = omega arith in subst (λ (m : ℕ). find test (range_with_len a m) ≡ None) e (none_more test a n none fails)

pub passes_next : (test : ℕ → Bool) (a n : ℕ) (xs : List ℕ) (k : ℕ) → k < length xs → take k xs ≡ filter test (range_with_len a n) → test (a + n) ≡ true
    → take (k + 1) (set xs k (a + n)) ≡ filter test (range_with_len a (n + 1))
passes_next test a n xs k low is passes = let e : suc n ≡ n + 1 = omega arith in let f : suc k ≡ k + 1 = omega arith in
    subst (λ (m : ℕ). take (k + 1) (set xs k (a + n)) ≡ filter test (range_with_len a m)) e
    (subst (λ (m : ℕ). take m (set xs k (a + n)) ≡ filter test (range_with_len a (suc n))) f (passes_more test a n xs k low is passes))

pub passes_on : (test : ℕ → Bool) (a n : ℕ) → test (a + n) ≡ false → filter test (range_with_len a (n + 1)) ≡ filter test (range_with_len a n)
passes_on test a n fails = let e : suc n ≡ n + 1 = omega arith in subst (λ (m : ℕ). filter test (range_with_len a m) ≡ filter test (range_with_len a n)) e (passes_none test a n fails)

-- numbers from 0 on
pub none_below : (test : ℕ → Bool) (n : ℕ) → find test (range_with_len 0 n) ≡ None → test n ≡ false → find test (range_with_len 0 (n + 1)) ≡ None
none_below test n none fails = none_next test 0 n none (let e : 0 + n ≡ n = omega arith in ap test e ∙ fails)

pub first_at : (test : ℕ → Bool) (k n : ℕ) → find test (range_with_len 0 k) ≡ None → test k ≡ true → k < n → Some k ≡ find test (range_with_len 0 n)
first_at test k n none passes low = let e : 0 + k ≡ k = omega arith in
    sym (stops_at test 0 k n none (ap test e ∙ passes) low ∙ ap (λ (x : ℕ). let z : Option ℕ = Some x in z) e)

-- a test of the items of a list seen through a function
pub any-map : {A B : Type 0} (v : A → B) (test : B → Bool) (xs : List A) → list_any test (map v xs) ≡ list_any (λ x. test (v x)) xs
any-map v test [] = refl
any-map v test (x ∷ xs) = ap (λ (b : Bool). test (v x) || b) (any-map v test xs)

pub taken_length : (n : ℕ) (xs : List ℕ) → n ≤ length xs → length (take n xs) ≡ n
taken_length zero xs low = refl
taken_length (suc n) [] low = absurd (omega arith)
taken_length (suc n) (x ∷ xs) low = ap suc (taken_length n xs (omega arith))
