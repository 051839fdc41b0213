-- Laws on how many indices below a bound a set has.
use Rattle.std.proofs.Common.{◌≡◌, ℕ, zero, suc, ◌+◌, ◌-◌, ◌<◌, ◌≤◌, Bool, true, false, eqb, refl, ◌∙◌, ap, arith, inl, inr, eq-eqb}
use Rattle.std.proofs.lemmas.Bool.{cases_eq, cases_Bool, ne_eqb}
use Rattle.span_state.specs.Bits.{count_below, with_bit}

-- sets that agree below the bound
pub count_below-same : (n : ℕ) (f g : ℕ → Bool) → ((k : ℕ) → k < n → f k ≡ g k) → count_below n f ≡ count_below n g
unfolding count_below
count_below-same zero f g h = refl
count_below-same (suc n) f g h =
    let here : f n ≡ g n = h n (omega arith) in
    let rest : count_below n f ≡ count_below n g = count_below-same n f g (λ k lt. h k (omega arith)) in
    rw (here, rest) refl

-- a set with no index below the bound
pub count_below-none : (n : ℕ) (f : ℕ → Bool) → ((k : ℕ) → k < n → f k ≡ false) → count_below n f ≡ 0
unfolding count_below
count_below-none zero f h = refl
count_below-none (suc n) f h =
    let here : f n ≡ false = h n (omega arith) in
    let rest = count_below-none n f (λ k lt. h k (omega arith)) in
    rw here (omega arith)

-- one more index
pub count_below-with : (n i : ℕ) (f : ℕ → Bool) → i < n → f i ≡ false → count_below n (with_bit i f) ≡ 1 + count_below n f
unfolding count_below
count_below-with zero i f lt off = absurd (omega arith)
count_below-with (suc n) i f lt off =
    elim (cases_eq n i) [
      | inl same ↦ (
          let on : eqb n i ≡ true = eq-eqb n i same in
          let off' : f n ≡ false = rw same off in
          let rest : count_below n (with_bit i f) ≡ count_below n f = count_below-same n (with_bit i f) f (λ k less. let ne : eqb k i ≡ false = ne_eqb k i (λ e. omega arith) in rw ne refl) in
          rw (on, off', rest) (omega arith))
      | inr other ↦ (
          let ne : eqb n i ≡ false = ne_eqb n i other in
          let rest = count_below-with n i f (omega arith) off in
          rw ne (omega arith))
    ]

-- the indices below m, and those of the next n
pub count_below-add : (m n : ℕ) (f : ℕ → Bool) → count_below (m + n) f ≡ count_below m f + count_below n (λ b. f (m + b))
unfolding count_below
count_below-add m zero f = let e : m + 0 ≡ m = omega arith in rw e (omega arith)
count_below-add m (suc n) f =
    let e : m + suc n ≡ suc (m + n) = omega arith in
    let rest = count_below-add m n f in
    rw e (omega arith)

-- where none are past m, only those below m count
pub count_below-past : (m n : ℕ) (f : ℕ → Bool) → m ≤ n → ((k : ℕ) → m ≤ k → f k ≡ false) → count_below n f ≡ count_below m f
count_below-past m n f le off =
    let e : n ≡ m + (n - m) = omega arith in
    let none = count_below-none (n - m) (λ b. f (m + b)) (λ k lt. off (m + k) (omega arith)) in
    let all = count_below-add m (n - m) f in
    ap (λ (x : ℕ). count_below x f) e ∙ omega arith

-- no more than there are indices
pub count_below-le : (n : ℕ) (f : ℕ → Bool) → count_below n f ≤ n
unfolding count_below
count_below-le zero f = omega arith
count_below-le (suc n) f =
    let rest = count_below-le n f in
    elim (cases_Bool (f n)) [ inl on ↦ rw on (omega arith) | inr off ↦ rw off (omega arith) ]
