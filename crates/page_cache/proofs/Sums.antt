-- Laws of counts of the numbers that pass a test.
use Rattle.std.proofs.Common.{◌≡◌, ℕ, zero, suc, ◌+◌, ◌<◌, ◌≤◌, Bool, true, false, refl, arith, inl, inr}
use Rattle.std.proofs.lemmas.Bool.{cases_Bool, cases_eq}
use Rattle.page_cache.specs.Counts.{one_if, count_below}

pub count_below-same : (n : ℕ) (f g : ℕ → Bool) → ((k : ℕ) → k < n → f k ≡ g k) → count_below n f ≡ count_below n g
unfolding count_below
count_below-same zero f g same = refl
count_below-same (suc n) f g same =
    let here : f n ≡ g n = same n (omega arith) in
    let rest : count_below n f ≡ count_below n g = count_below-same n f g (λ k lt. same k (omega arith)) in
    rw (here, rest) refl

pub count_below-le : (n : ℕ) (f : ℕ → Bool) → count_below n f ≤ n
unfolding count_below
count_below-le zero f = omega arith
count_below-le (suc n) f =
    let rest = count_below-le n f in
    elim (cases_Bool (f n)) [ inl is ↦ rw is (omega arith) | inr isnt ↦ rw isnt (omega arith) ]

one_if-le : (a b : Bool) → (a ≡ true → b ≡ true) → one_if a ≤ one_if b
one_if-le true b more = rw (more refl) (omega arith)
one_if-le false b more = omega arith

-- a test that passes where another does passes no less often
count_below-more : (n : ℕ) (f g : ℕ → Bool) → ((k : ℕ) → g k ≡ true → f k ≡ true) → count_below n g ≤ count_below n f
unfolding count_below
count_below-more zero f g more = omega arith
count_below-more (suc n) f g more = omega (arith, count_below-more n f g more, one_if-le (g n) (f n) (more n))

-- and more often where it passes at one number more
pub count_below-less : (n : ℕ) (f g : ℕ → Bool) → ((k : ℕ) → g k ≡ true → f k ≡ true) → (at : ℕ) → at < n → f at ≡ true → g at ≡ false
    → count_below n g + 1 ≤ count_below n f
unfolding count_below
count_below-less zero f g more at low is isnt = absurd (omega arith)
count_below-less (suc n) f g more at low is isnt = elim (cases_eq at n) [
  | inl same ↦
      let one : f n ≡ true = rw (← same) is in
      let none : g n ≡ false = rw (← same) isnt in
      rw (one, none) (omega (arith, count_below-more n f g more))
  | inr other ↦
      omega (arith, count_below-less n f g more at (omega arith) is isnt, one_if-le (g n) (f n) (more n))
]
