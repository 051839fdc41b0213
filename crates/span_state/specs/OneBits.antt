-- How many bits of a number are set, as the count of a set.
use Rattle.std.proofs.Common.{◌≡◌, ℕ, zero, suc, ◌+◌, ◌/◌, ◌%◌, ◌^◌, ◌<◌, Bool, ◌==◌, refl, ◌∙◌, ap, arith}
use Rattle.std.proofs.lemmas.Nat.Bits.{bit_at-suc, bit_at_lowest, bit_at-lt}
use Rattle.std.proofs.Math.Nat.{pow-suc}
use Rattle.std.specs.Int.{bit_at}
use Rattle.std.specs.Int.Count.{ones, ones_step}
use Rattle.span_state.specs.Bits.{count_below, one_if}
use Rattle.span_state.specs.Counts.{count_below-same}

-- index 0, and the others
pub count_below-first : (n : ℕ) (f : ℕ → Bool) → count_below (suc n) f ≡ one_if (f 0) + count_below n (λ b. f (suc b))
unfolding count_below
count_below-first zero f = refl
count_below-first (suc n) f = let rest = count_below-first n f in omega arith

-- a bit as a number
one_if-bit : (d : ℕ) → d < 2 → one_if (d == 1) ≡ d
one_if-bit zero lt = refl
one_if-bit (suc zero) lt = refl
one_if-bit (suc (suc d)) lt = absurd (omega arith)

-- the set bits of a number are those that `count_ones` counts
pub ones-count : (d n : ℕ) → n < 2 ^ d → ones n ≡ count_below d (λ b. bit_at n b == 1)
unfolding count_below ones
ones-count zero n lt = let e : n ≡ 0 = omega arith in rw e refl
ones-count (suc d) n lt =
    let half : n / 2 < 2 ^ d = (let e = pow-suc 2 d in omega arith) in
    let rest : ones (n / 2) ≡ count_below d (λ b. bit_at (n / 2) b == 1) = ones-count d (n / 2) half in
    let low : one_if (bit_at n 0 == 1) ≡ n % 2 = one_if-bit (bit_at n 0) (bit_at-lt n 0) ∙ bit_at_lowest n in
    let high : count_below d (λ b. bit_at n (suc b) == 1) ≡ count_below d (λ b. bit_at (n / 2) b == 1) = count_below-same d _ _ (λ k less. ap (λ (x : ℕ). x == 1) (bit_at-suc n k)) in
    let first = count_below-first d (λ b. bit_at n b == 1) in
    let step = ones_step n in
    omega arith
