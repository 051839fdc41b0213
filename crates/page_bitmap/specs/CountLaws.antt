-- Laws of counts of the numbers that pass a test.
use Rattle.std.proofs.Common.{◌≡◌, ℕ, zero, suc, ◌+◌, ◌-◌, ◌<◌, ◌≤◌, Bool, true, false, refl, ap, arith, inl, inr, add-zero}
use Rattle.std.proofs.lemmas.Bool.{cases_Bool}
use Rattle.page_bitmap.specs.Counts.{one_if, count_below, count_run}

pub count_below-same : (n : ℕ) (f g : ℕ → Bool) → ((k : ℕ) → k < n → f k ≡ g k) → count_below n f ≡ count_below n g
unfolding count_below
count_below-same zero f g same = refl
count_below-same (suc n) f g same =
    let here : f n ≡ g n = same n (omega arith) in
    let rest : count_below n f ≡ count_below n g = count_below-same n f g (λ k lt. same k (omega arith)) in
    rw (here, rest) refl

pub count_below-le : (n : ℕ) (f : ℕ → Bool) → count_below n f ≤ n
unfolding count_below
count_below-le zero f = omega arith
count_below-le (suc n) f =
    let rest = count_below-le n f in
    elim (cases_Bool (f n)) [ inl is ↦ rw is (omega arith) | inr isnt ↦ rw isnt (omega arith) ]

pub count_below-all : (n : ℕ) (f : ℕ → Bool) → ((k : ℕ) → k < n → f k ≡ true) → count_below n f ≡ n
unfolding count_below
count_below-all zero f each = refl
count_below-all (suc n) f each =
    let here : f n ≡ true = each n (omega arith) in
    let rest : count_below n f ≡ n = count_below-all n f (λ k lt. each k (omega arith)) in
    rw (here, rest) (omega arith)

pub count_below-none : (n : ℕ) (f : ℕ → Bool) → ((k : ℕ) → k < n → f k ≡ false) → count_below n f ≡ 0
unfolding count_below
count_below-none zero f each = refl
count_below-none (suc n) f each =
    let here : f n ≡ false = each n (omega arith) in
    let rest : count_below n f ≡ 0 = count_below-none n f (λ k lt. each k (omega arith)) in
    rw (here, rest) (omega arith)

-- one test and the contrary one pass all together
pub count_below-not : (n : ℕ) (f g : ℕ → Bool) → ((k : ℕ) → k < n → one_if (f k) + one_if (g k) ≡ 1) → count_below n f + count_below n g ≡ n
unfolding count_below
count_below-not zero f g each = omega arith
count_below-not (suc n) f g each =
    let here = each n (omega arith) in
    let rest = count_below-not n f g (λ k lt. each k (omega arith)) in
    omega arith

pub count_below-split : (m n : ℕ) (f : ℕ → Bool) → count_below (m + n) f ≡ count_below m f + count_run m n f
unfolding count_below
count_below-split m zero f = rw add-zero (omega arith)
count_below-split m (suc n) f =
    let rest = count_below-split m n f in
    let step : m + suc n ≡ suc (m + n) = omega arith in
    rw step (omega arith)

-- two runs that follow one another are one
pub count_run-split : (first m n : ℕ) (f : ℕ → Bool) → count_run first (m + n) f ≡ count_run first m f + count_run (first + m) n f
count_run-split first m n f =
    let whole = count_below-split m n (λ k. f (first + k)) in
    let again : count_run m n (λ k. f (first + k)) ≡ count_run (first + m) n f = count_below-same n (λ k. f (first + (m + k))) (λ k. f (first + m + k)) (λ k lt. ap f (omega arith)) in
    omega arith

-- tests that differ in a run alone have counts that differ by the run's
pub count_below-run : (region page n : ℕ) (f g : ℕ → Bool) → page + n ≤ region
    → ((k : ℕ) → k < page → f k ≡ g k) → ((k : ℕ) → page + n ≤ k → f k ≡ g k)
    → count_below region g + count_run page n f ≡ count_below region f + count_run page n g
count_below-run region page n f g inside below above =
    let rest = region - (page + n) in
    let whole : region ≡ page + n + rest = omega arith in
    let of_f = count_below-split (page + n) rest f in
    let of_g = count_below-split (page + n) rest g in
    let front_f = count_below-split page n f in
    let front_g = count_below-split page n g in
    let low = count_below-same page f g below in
    let high : count_run (page + n) rest f ≡ count_run (page + n) rest g = count_below-same rest (λ k. f (page + n + k)) (λ k. g (page + n + k)) (λ k lt. above (page + n + k) (omega arith)) in
    rw whole (omega arith)

-- a run inside the region counts no more than the region
pub count_run-le : (region page n : ℕ) (f : ℕ → Bool) → page + n ≤ region → count_run page n f ≤ count_below region f
count_run-le region page n f inside =
    let rest = region - (page + n) in
    let whole : region ≡ page + n + rest = omega arith in
    let all = count_below-split (page + n) rest f in
    let front = count_below-split page n f in
    rw whole (omega arith)
