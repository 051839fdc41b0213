-- Which pages are free, and what the pages of a block are.
use Rattle.std.proofs.Common.{◌≡◌, ◌≢◌, ℕ, zero, suc, ◌+◌, ◌-◌, ◌*◌, ◌/◌, ◌<◌, ◌≤◌, Bool, true, false, true≢false, cond, ◌||◌, eqb, ne_eqb, List, [], ◌∷◌, length, get_or, sym, refl, ap, ◌∙◌, arith, eq-eqb}
use Rattle.std.specs.Prelude.{Option, Some, None, min}
use Rattle.std.specs.List.{find, filter, range_with_len}
use Rattle.std.proofs.Math.Nat.{min-le_right}
use mathlib.Core.Logic.{dite}
use native.Mathlib.Decide.{ℕ_discrete, dec_le}
use Rattle.sweep_laws.specs.State.{HandState, CoreState}
use Rattle.sweep_laws.specs.Lists.{has, erase_run}
use Rattle.sweep_laws.specs.Reading.{is_pulled, is_free_in, is_free_page, least_free, block_start, block_length, free_with, free_block}
use Rattle.sweep_laws.specs.Counts.{one_if, times}
use Rattle.sweep_laws.specs.Named.{pullers}
use Rattle.sweep_laws.proofs.Totals.{other_one}
use Rattle.sweep_laws.proofs.Naming.{times_has, times_erase, times_erase_le, times_erase_else}
use Rattle.sweep_laws.proofs.NeedsMet.{some_none, both, not_true, none_there}

-- a search through numbers that finds nothing, and what one finds
pub range_none : (test : ℕ → Bool) (a n : ℕ) → find test (range_with_len a n) ≡ None → (q : ℕ) → a ≤ q → q < a + n → test q ≡ false
range_none test a zero e q l m = absurd (omega arith)
range_none test a (suc n) e q l m = go (test a) refl (range_none test (a + 1) n) e
  where
    go : (b : Bool) → test a ≡ b → (find test (range_with_len (a + 1) n) ≡ None → (x : ℕ) → a + 1 ≤ x → x < a + 1 + n → test x ≡ false)
        → cond b (Some a) (find test (range_with_len (a + 1) n)) ≡ None → test q ≡ false
    go true s rest f = absurd (some_none a f)
    go false s rest f = dite (ℕ_discrete q a) (λ e. ap test e ∙ s) (λ o. rest f q (omega arith) (omega arith))

pub none_in_range : (test : ℕ → Bool) (a n : ℕ) → ((q : ℕ) → a ≤ q → q < a + n → test q ≡ false) → find test (range_with_len a n) ≡ None
none_in_range test a zero h = refl
none_in_range test a (suc n) h = let s = h a (omega arith) (omega arith) in rw s (none_in_range test (a + 1) n (λ q l m. h q (omega arith) (omega arith)))

pub found_in_range : (test : ℕ → Bool) (a n q : ℕ) → find test (range_with_len a n) ≡ Some q → (a ≤ q) × (q < a + n) × (test q ≡ true)
found_in_range test a zero q e = absurd (some_none q (sym e))
found_in_range test a (suc n) q e = go (test a) refl (found_in_range test (a + 1) n q) e
  where
    same : (x y : ℕ) → Some x ≡ Some y → x ≡ y
    same x y s = cc

    go : (b : Bool) → test a ≡ b → (find test (range_with_len (a + 1) n) ≡ Some q → (a + 1 ≤ q) × (q < a + 1 + n) × (test q ≡ true))
        → cond b (Some a) (find test (range_with_len (a + 1) n)) ≡ Some q → (a ≤ q) × (q < a + suc n) × (test q ≡ true)
    go true s rest f = let t = same a q f in (omega arith, omega arith, ap test (sym t) ∙ s)
    go false s rest f = let t = rest f in let t₀ = t.0 in let t₁ = t.1 in (omega arith, omega arith, t.2)

-- whether a page is in a list, and how often
pub unnamed : (q : ℕ) (xs : List ℕ) → has q xs ≡ false → times q xs ≡ 0
unnamed q xs e = dite (dec_le 1 (times q xs)) (λ l. absurd (true≢false (sym (times_has q xs (omega arith)) ∙ e))) (λ l. omega arith)

pub named_never : (q : ℕ) (xs : List ℕ) → times q xs ≡ 0 → has q xs ≡ false
named_never q [] e = refl
named_never q (x ∷ xs) e = dite (ℕ_discrete x q)
    (λ s. let o = ap one_if (eq-eqb x q s) in absurd (omega arith))
    (λ d. rw (ne_eqb x q d) (named_never q xs (omega arith)))

-- neither of two tests holds
neither : (a b : Bool) → a || b ≡ false → (a ≡ false) × (b ≡ false)
neither true b e = absurd (true≢false e)
neither false b e = (refl, e)

-- a page that no hand has pulled is in no pulled list
pub unpulled : (q : ℕ) (hs : List HandState) → is_pulled hs q ≡ false → pullers q hs ≡ 0
unpulled q [] e = refl
unpulled q (h ∷ hs) e = let b = neither (has q h.pulled) (is_pulled hs q) e in let x = unnamed q h.pulled b.0 in let y = unpulled q hs b.1 in omega arith

pub pulled_by_none : (q : ℕ) (hs : List HandState) → pullers q hs ≡ 0 → is_pulled hs q ≡ false
pulled_by_none q [] e = refl
pulled_by_none q (h ∷ hs) e = rw (named_never q h.pulled (omega arith)) (pulled_by_none q hs (omega arith))

-- a free page has no owner and is in no pulled list
pub free_page : (os : List (Option ℕ)) (hs : List HandState) (q : ℕ) → is_free_in os hs q ≡ true → (get_or os q None ≡ None) × (pullers q hs ≡ 0)
free_page os hs q e = let b = both _ _ e in (none_there _ (not_true _ b.0), unpulled q hs (not_true _ b.1))

pub page_free : (os : List (Option ℕ)) (hs : List HandState) (q : ℕ) → get_or os q None ≡ None → pullers q hs ≡ 0 → is_free_in os hs q ≡ true
page_free os hs q a b = rw (a, pulled_by_none q hs b) refl

-- the items of a list that pass a test
filtered_le : (test : ℕ → Bool) (q : ℕ) (xs : List ℕ) → times q (filter test xs) ≤ times q xs
filtered_le test q [] = omega arith
filtered_le test q (x ∷ xs) = go (test x) (filtered_le test q xs)
  where
    go : (b : Bool) → times q (filter test xs) ≤ times q xs → times q (cond b (x ∷ filter test xs) (filter test xs)) ≤ one_if (eqb x q) + times q xs
    go true t = omega arith
    go false t = omega arith

filtered_passes : (test : ℕ → Bool) (q : ℕ) (xs : List ℕ) → 0 < times q (filter test xs) → test q ≡ true
filtered_passes test q [] h = absurd (omega arith)
filtered_passes test q (x ∷ xs) h = go (test x) refl (filtered_passes test q xs) h
  where
    go : (b : Bool) → test x ≡ b → (0 < times q (filter test xs) → test q ≡ true) → 0 < times q (cond b (x ∷ filter test xs) (filter test xs)) → test q ≡ true
    go true s rest f = dite (ℕ_discrete x q) (λ e. ap test (sym e) ∙ s) (λ d. let o = other_one x q d in rest (omega arith))
    go false s rest f = rest f

-- numbers that follow one another name each of them once
range_before : (a n q : ℕ) → q < a → times q (range_with_len a n) ≡ 0
range_before a zero q l = refl
range_before a (suc n) q l = let o = other_one a q (λ e. omega arith) in let t = range_before (a + 1) n q (omega arith) in omega arith

range_once : (a n q : ℕ) → times q (range_with_len a n) ≤ 1
range_once a zero q = omega arith
range_once a (suc n) q = dite (ℕ_discrete a q)
    (λ e. let o = ap one_if (eq-eqb a q e) in let t = range_before (a + 1) n q (omega arith) in omega arith)
    (λ d. let o = other_one a q d in let t = range_once (a + 1) n q in omega arith)

range_within : (a n q : ℕ) → 0 < times q (range_with_len a n) → q < a + n
range_within a zero q h = absurd (omega arith)
range_within a (suc n) q h = dite (ℕ_discrete a q)
    (λ e. omega arith)
    (λ d. let o = other_one a q d in let t = range_within (a + 1) n q (omega arith) in omega arith)

-- pages that are free, each named once
pub record FreeOnce (c : CoreState) (xs : List ℕ) : Type 0 where
  pub once : (q : ℕ) → times q xs ≤ 1
  pub free : (q : ℕ) → 0 < times q xs → (q < length c.words) × (is_free_page c q ≡ true)

block_inside : (pages p q : ℕ) → p < pages → q < block_start p + block_length pages p → q < pages
block_inside pages p q l h = let m = min-le_right 64 (pages - p / 64 * 64) in omega arith

-- so are the pages of a block that a Pull takes
pub block_free : (c : CoreState) → FreeOnce c (free_block c)
block_free c = go (least_free c) refl
  where
    go : (o : Option ℕ) → least_free c ≡ o → FreeOnce c (free_with c o)
    go None e = record { once = λ q. omega arith; free = λ q h. absurd (omega arith) }
    go (Some p) e = let s = found_in_range (is_free_page c) 0 (length c.words) p e in let low : p < length c.words = (let s₁ = s.1 in omega arith) in
        let a = block_start p in let n = block_length (length c.words) p in record {
          once = λ q. let f = filtered_le (is_free_page c) q (range_with_len a n) in let t = range_once a n q in omega arith;
          free = λ q h. let f = filtered_le (is_free_page c) q (range_with_len a n) in
              (block_inside (length c.words) p q low (range_within a n q (omega arith)), filtered_passes (is_free_page c) q (range_with_len a n) h);
        }

-- a list without the first places of a run of numbers
pub erased_else : (q p n : ℕ) (xs : List ℕ) → (p ≤ q → q < p + n → ⊥) → times q (erase_run p n xs) ≡ times q xs
erased_else q p zero xs out = refl
erased_else q p (suc n) xs out = times_erase_else q (p + n) (erase_run p n xs) (λ e. out (omega arith) (omega arith)) ∙ erased_else q p n xs (λ a b. out a (omega arith))

pub erased_here : (q p n : ℕ) (xs : List ℕ) → p ≤ q → q < p + n → 0 < times q xs → times q (erase_run p n xs) + 1 ≡ times q xs
erased_here q p zero xs a b h = absurd (omega arith)
erased_here q p (suc n) xs a b h = dite (ℕ_discrete q (p + n))
    (λ e. let t = erased_else q p n xs (λ x y. omega arith) in let s = times_erase (p + n) (erase_run p n xs) (let z = ap (λ (y : ℕ). times y (erase_run p n xs)) e in omega arith) in
    let z = ap (λ (y : ℕ). times y (erase_run p n xs)) e in let w = ap (λ (y : ℕ). times y (erase_run p (suc n) xs)) e in omega arith)
    (λ d. let s = times_erase_else q (p + n) (erase_run p n xs) d in let t = erased_here q p n xs a (omega arith) h in omega arith)

pub erased_le : (q p n : ℕ) (xs : List ℕ) → times q (erase_run p n xs) ≤ times q xs
erased_le q p zero xs = omega arith
erased_le q p (suc n) xs = dite (ℕ_discrete q (p + n))
    (λ e. let t = erased_le q p n xs in let s = times_erase_le (p + n) (erase_run p n xs) in
    let z = ap (λ (y : ℕ). times y (erase_run p n xs)) e in let w = ap (λ (y : ℕ). times y (erase_run p (suc n) xs)) e in omega arith)
    (λ d. let s = times_erase_else q (p + n) (erase_run p n xs) d in let t = erased_le q p n xs in omega arith)
