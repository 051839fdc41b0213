-- How calls of a ring are counted: laws over lists of calls alone.
use Rattle.std.proofs.Common.{◌≡◌, ℕ, ◌+◌, ◌≤◌, Bool, true, false, ◌&&◌, not, List, [], ◌∷◌, ◌++◌, refl, sym, ◌∙◌, arith, inl, inr, if◌then◌else◌}
use Rattle.std.proofs.Math.Dec.{leb}
use Rattle.std.proofs.lemmas.Bool.{cases_lt, le-leb, lt-leb}
use Rattle.profile_cycle.specs.declared.calls.What.{What}
use Rattle.profile_cycle.specs.declared.calls.What.TheVariants.{Allocated, Freed, NextCycle, AfterSweep}
use Rattle.profile_cycle.specs.declared.calls.Call.{Call}
use Rattle.profile_cycle.specs.History.{publishes, count, one_if, cycles_in, cycle_after, published_by, AreDated}
use Rattle.profile_cycle.specs.Kept.{AreBy, AreCounting}

-- ---- one call

-- a bound that is raised lets more calls pass
one-more : (t : Bool) (c m n : ℕ) → m ≤ n → one_if (t && leb c m) ≤ one_if (t && leb c n)
one-more false c m n le = omega arith
one-more true c m n le = elim (cases_lt m c) [
  | inl beyond ↦ (let a = lt-leb c m beyond in rw a (omega arith))
  | inr within ↦ (let a = le-leb c m within in let b = le-leb c n (omega arith) in rw (a, b) (omega arith))
]

one-all : (t : Bool) (c n : ℕ) → c ≤ n → one_if (t && leb c n) ≡ one_if t
one-all false c n le = refl
one-all true c n le = let a = le-leb c n le in rw a refl

one-none : (t : Bool) (c n : ℕ) → c ≤ n → one_if (t && not (leb c n)) ≡ 0
one-none false c n le = refl
one-none true c n le = let a = le-leb c n le in rw a refl

one-split : (t p : Bool) → one_if (t && p) + one_if (t && not p) ≡ one_if t
one-split false p = refl
one-split true true = refl
one-split true false = refl

-- ---- all calls

pub count-more : (test : What → Bool) (lead m n : ℕ) (calls : List Call) → m ≤ n → count (λ d. test d.what && leb (d.cycle + lead) m) calls ≤ count (λ d. test d.what && leb (d.cycle + lead) n) calls
count-more test lead m n [] le = omega arith
count-more test lead m n (c ∷ older) le =
    let rest = count-more test lead m n older le in
    let one = one-more (test c.what) (c.cycle + lead) m n le in
    omega arith

pub count-append : (test : Call → Bool) (xs ys : List Call) → count test (xs ++ ys) ≡ count test xs + count test ys
count-append test [] ys = omega arith
count-append test (c ∷ xs) ys = let rest = count-append test xs ys in omega arith

-- what is ripe, and what is not, is all
pub count-split : (test : What → Bool) (lead m : ℕ) (calls : List Call)
    → count (λ d. test d.what && leb (d.cycle + lead) m) calls + count (λ d. test d.what && not (leb (d.cycle + lead) m)) calls ≡ count (λ d. test d.what) calls
count-split test lead m [] = refl
count-split test lead m (c ∷ older) =
    let rest = count-split test lead m older in
    let one = one-split (test c.what) (leb (c.cycle + lead) m) in
    omega arith

-- calls by a cycle k lead to k + 2 at most
pub count-all : (test : What → Bool) (lead k : ℕ) (calls : List Call) → lead ≤ 2 → AreBy k calls → count (λ d. test d.what && leb (d.cycle + lead) (k + 1 + 1)) calls ≡ count (λ d. test d.what) calls
count-all test lead k [] le by = refl
count-all test lead k (c ∷ older) le by =
    let rest = count-all test lead k older le by.1 in
    let here = by.0 in
    let one = one-all (test c.what) (c.cycle + lead) (k + 1 + 1) (omega arith) in
    omega arith

pub count-none : (test : What → Bool) (lead k : ℕ) (calls : List Call) → lead ≤ 2 → AreBy k calls → count (λ d. test d.what && not (leb (d.cycle + lead) (k + 1 + 1))) calls ≡ 0
count-none test lead k [] le by = refl
count-none test lead k (c ∷ older) le by =
    let rest = count-none test lead k older le by.1 in
    let here = by.0 in
    let one = one-none (test c.what) (c.cycle + lead) (k + 1 + 1) (omega arith) in
    omega arith

-- ---- what is published

-- all that is published is ripe
pub published-ripe : (test : What → Bool) (lead k : ℕ) (calls : List Call) → AreBy k calls → published_by test lead calls ≤ count (λ d. test d.what && leb (d.cycle + lead) (k + 1)) calls
published-ripe test lead k [] by = omega arith
published-ripe test lead k (c ∷ older) by = by-kind (publishes c.what) (published-ripe test lead k older by.1)
  where
    by-kind : (p : Bool) → published_by test lead older ≤ count (λ d. test d.what && leb (d.cycle + lead) (k + 1)) older → (if p then count (λ d. test d.what && leb (d.cycle + lead) (c.cycle + 1)) older else published_by test lead older)
        ≤ one_if (test c.what && leb (c.cycle + lead) (k + 1)) + count (λ d. test d.what && leb (d.cycle + lead) (k + 1)) older
    by-kind true less = let here = by.0 in let more = count-more test lead (c.cycle + 1) (k + 1) older (omega arith) in omega arith
    by-kind false less = omega arith

pub published-append : (test : What → Bool) (lead k : ℕ) (xs ys : List Call) → AreCounting k xs → published_by test lead (xs ++ ys) ≡ published_by test lead ys
published-append test lead k [] ys are = refl
published-append test lead k (c ∷ xs) ys are = let off = are.0 in rw off (published-append test lead k xs ys are.2)

pub published-none : (test : What → Bool) (lead k : ℕ) (xs : List Call) → AreCounting k xs → published_by test lead xs ≡ 0
published-none test lead k [] are = refl
published-none test lead k (c ∷ xs) are = let off = are.0 in rw off (published-none test lead k xs are.2)

-- ---- cycles of calls

pub by-append : (k : ℕ) (xs ys : List Call) → AreBy k xs → AreBy k ys → AreBy k (xs ++ ys)
by-append k [] ys a b = b
by-append k (c ∷ xs) ys a b = (a.0, by-append k xs ys a.1 b)

pub by-later : (k m : ℕ) (xs : List Call) → k ≤ m → AreBy k xs → AreBy m xs
by-later k m [] le by = tt
by-later k m (c ∷ xs) le by = (let here = by.0 in omega arith, by-later k m xs le by.1)

cycle-same : (k : ℕ) (w : What) → publishes w ≡ false → cycle_after k w ≡ k
cycle-same k (Allocated b) off = refl
cycle-same k (Freed b) off = refl
cycle-same k NextCycle off = cc
cycle-same k AfterSweep off = refl

pub dated-append : (k : ℕ) (xs ys : List Call) → AreCounting k xs → AreDated ys × (cycles_in ys ≡ k) → AreDated (xs ++ ys) × (cycles_in (xs ++ ys) ≡ k)
dated-append k [] ys are dated = dated
dated-append k (c ∷ xs) ys are dated =
    let rest = dated-append k xs ys are.2 dated in
    ((are.1 ∙ sym rest.1, rest.0), cycle-same (cycles_in (xs ++ ys)) c.what are.0 ∙ rest.1)
