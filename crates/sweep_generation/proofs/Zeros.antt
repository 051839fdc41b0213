-- Words that are all 0: told by one number that has the bits of all, and none of them unsettled.
use Rattle.std.proofs.Common.{◌≡◌, ℕ, zero, suc, ◌+◌, ◌<◌, ◌≤◌, ◌==◌, Bool, true, false, not, ◌&&◌, List, [], ◌∷◌, length, get_or, take, bit_or, cond, refl, sym, ap, ◌∙◌, arith}
use Rattle.std.specs.Prelude.{None, Some, slice_index}
use Rattle.std.specs.List.{find, list_all}
use Rattle.std.specs.Int.Bits.{or_zero_l}
use Rattle.std.proofs.lemmas.Bool.{eqb-true}
use Rattle.std.proofs.lemmas.Nat.{le_or_l, le_or_r}
use Rattle.std.proofs.lemmas.List.{take_all}
use Rattle.std.proofs.lemmas.List.Folds.{list_all_more}
use Rattle.sweep_laws.proofs.NeedsMet.{eqb-false}
use Rattle.sweep_laws.specs.Reading.{is_settled}

or_none : (a b : ℕ) → (bit_or a b == 0) ≡ ((a == 0) && (b == 0))
or_none a b = by_parts (a == 0) (b == 0) refl refl
  where
    by_parts : (p q : Bool) → (a == 0) ≡ p → (b == 0) ≡ q → (bit_or a b == 0) ≡ (p && q)
    by_parts true true e f = let x : a ≡ 0 = eqb-true a 0 e in let y : b ≡ 0 = eqb-true b 0 f in rw (x, y) refl
    by_parts true false e f = let low = le_or_r a b in let some = eqb-false b 0 f in let r : (bit_or a b == 0) ≡ false = grind arith in r
    by_parts false q e f = let low = le_or_l a b in let some = eqb-false a 0 e in let r : (bit_or a b == 0) ≡ false = grind arith in r

-- the bits of one word more
one_more : (xs : List ℕ) (i v : ℕ) → i < length xs → list_all (λ x. x == 0) (take i xs) ≡ (v == 0)
    → list_all (λ x. x == 0) (take (i + 1) xs) ≡ (bit_or v (get_or xs i 0) == 0)
one_more xs i v low e =
    list_all_more (λ (x : ℕ). x == 0) xs i 0 low ∙ ap (λ b. b && (get_or xs i 0 == 0)) e ∙ sym (or_none v (get_or xs i 0))

-- the bits of the first eight
abbrev pub bits_of : List ℕ → ℕ
bits_of xs = bit_or (bit_or (bit_or (bit_or (bit_or (bit_or (bit_or (get_or xs 0 0) (get_or xs 1 0)) (get_or xs 2 0)) (get_or xs 3 0)) (get_or xs 4 0)) (get_or xs 5 0)) (get_or xs 6 0)) (get_or xs 7 0)

pub eight_zeros : (xs : List ℕ) → length xs ≡ 8 → (bits_of xs == 0) ≡ list_all (λ x. x == 0) xs
eight_zeros xs eight =
    let e1 = one_more xs 0 0 (omega arith) refl in
    let e2 = one_more xs 1 _ (omega arith) (e1 ∙ ap (λ (v : ℕ). v == 0) (or_zero_l (get_or xs 0 0))) in
    let e3 = one_more xs 2 _ (omega arith) e2 in
    let e4 = one_more xs 3 _ (omega arith) e3 in
    let e5 = one_more xs 4 _ (omega arith) e4 in
    let e6 = one_more xs 5 _ (omega arith) e5 in
    let e7 = one_more xs 6 _ (omega arith) e6 in
    let e8 = one_more xs 7 _ (omega arith) e7 in
    let whole : take 8 xs ≡ xs = take_all 8 xs (omega arith) in
    sym e8 ∙ ap (λ (ys : List ℕ). list_all (λ x. x == 0) ys) whole

-- no unsettled word is among zeros
pub zeros_settled : (g : ℕ) (xs : List ℕ) → list_all (λ x. x == 0) xs ≡ true → find (λ word. not (is_settled g word)) xs ≡ None
zeros_settled g [] all = refl
zeros_settled g (x ∷ xs) all = by_first (x == 0) refl all (zeros_settled g xs)
  where
    by_first : (b : Bool) → (x == 0) ≡ b → (b && list_all (λ y. y == 0) xs) ≡ true
        → (list_all (λ y. y == 0) xs ≡ true → find (λ word. not (is_settled g word)) xs ≡ None) → find (λ word. not (is_settled g word)) (x ∷ xs) ≡ None
    by_first true e all rest = rw e (rest all)
    by_first false e all rest = cc

-- words that are all 0 are settled
all_settled : (g : ℕ) (xs : List ℕ) → ((page : ℕ) → slice_index xs page ≡ 0) → find (λ word. not (is_settled g word)) xs ≡ None
all_settled g [] none = refl
all_settled g (x ∷ xs) none = rw (none 0) (all_settled g xs (λ page. none (suc page)))

-- the first unsettled word is among those before the page from which on all are 0
pub used_alone : (g : ℕ) (xs : List ℕ) (end : ℕ) → ((page : ℕ) → end ≤ page → slice_index xs page ≡ 0)
    → find (λ word. not (is_settled g word)) (take end xs) ≡ find (λ word. not (is_settled g word)) xs
used_alone g xs zero none = sym (all_settled g xs (λ page. none page (omega arith)))
used_alone g [] (suc end) none = refl
used_alone g (x ∷ xs) (suc end) none =
    ap (λ found. cond (not (is_settled g x)) (Some x) found) (used_alone g xs end (λ page low. none (suc page) (omega arith)))
