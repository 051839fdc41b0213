-- One bit of a word, any word and any place.
use Rattle.std.proofs.Common.{◌≡◌, ℕ, ◌+◌, ◌-◌, ◌*◌, ◌/◌, ◌%◌, ◌^◌, ◌<◌, ◌≤◌, ◌==◌, zero, suc, Bool, true, false, not, ◌&&◌, bit_and, sym, ap, arith, ◌∙◌, inl, inr}
use Rattle.std.specs.Int.{bit_at, bit_not, w64, trailing_zeros}
use Rattle.std.specs.Int.Count.{ones, ones-le, ones_cat, ones-ones}
use Rattle.std.proofs.lemmas.Nat.{and_le_l, div_below, pow_pos, shr-shr, shr_split, mod_below}
use Rattle.std.proofs.Math.Nat.{pow-suc}
use Rattle.std.proofs.lemmas.Bool.{cases_lt, true≢false, and_from, and_left, and_right, not_from_true, not_from_false}
use Rattle.std.proofs.lemmas.Nat.Bits.{bit_at_and, bit_at_not, bit_at-lt, bit_at-zero, bit_at_above, bit_at-trailing_zeros, ones_shr, ones_shl, bit_at_mask_inside, bit_at_mask_below, bit_at_ones, bit_at_ones_above, bit_at_cat_low}
use Rattle.page_cache.specs.Counts.{one_if, count_below}
use Rattle.page_cache.specs.Runs.{LosesRun}
use Rattle.page_cache.specs.Words.{has_bit}
use Rattle.page_cache.proofs.Sums.{count_below-same}

has_bit-one : (a k : ℕ) → bit_at a k ≡ 1 → has_bit a k ≡ true
unfolding has_bit
has_bit-one a k e = grind (arith, e)

has_bit-none : (a k : ℕ) → bit_at a k ≡ 0 → has_bit a k ≡ false
unfolding has_bit
has_bit-none a k e = grind (arith, e)

pub has_bit-zero : (k : ℕ) → has_bit 0 k ≡ false
has_bit-zero k = has_bit-none 0 k (bit_at-zero k)

-- a word of 64 bits has no one from place 64 on
has_bit-above : (a k : ℕ) → a < 2 ^ 64 → 64 ≤ k → has_bit a k ≡ false
has_bit-above a k fits above = has_bit-none a k (bit_at_above a 64 k fits above)

pub one_within : (a k : ℕ) → a < 2 ^ 64 → has_bit a k ≡ true → k < 64
one_within a k fits one = elim (cases_lt k 64) [
  | inl within ↦ within
  | inr above ↦ absurd (true≢false (sym one ∙ has_bit-above a k fits above))
]

pub has_bit-and : (a b k : ℕ) → has_bit (bit_and a b) k ≡ (has_bit a k && has_bit b k)
unfolding has_bit
has_bit-and a b k = grind (arith, bit_at_and a b k, bit_at-lt a k, bit_at-lt b k)

has_bit-not : (a k : ℕ) → a < 2 ^ 64 → k < 64 → has_bit (bit_not w64 a) k ≡ not (has_bit a k)
unfolding has_bit
has_bit-not a k fits within = grind (arith, bit_at_not w64 a k fits within, bit_at-lt a k)

pub has_bit-shr : (a s k : ℕ) → has_bit (a / 2 ^ s) k ≡ has_bit a (s + k)
unfolding has_bit
has_bit-shr a s k = rw (shr-shr a s k)

-- `trailing_zeros` is the lowest one
pub record IsLowest (a place : ℕ) : Type 0 where
  pub within : place < 64
  pub one : has_bit a place ≡ true
  pub lowest : (k : ℕ) → k < place → has_bit a k ≡ false

pub trailing_zeros-lowest : (a : ℕ) → 0 < a → a < 2 ^ 64 → IsLowest a (trailing_zeros w64 a)
trailing_zeros-lowest a some fits =
    let t = bit_at-trailing_zeros w64 a some fits in
    record {
      within = t.0;
      one = has_bit-one a (trailing_zeros w64 a) t.1;
      lowest = λ k below. has_bit-none a k (t.2 k below);
    }

-- the ones from `low` on, below `high`
abbrev pub mask : ℕ → ℕ → ℕ
mask low high = bit_and ((2 ^ 64 - 1) * 2 ^ low % 2 ^ 64) ((2 ^ 64 - 1) / 2 ^ (64 - high))

mask-inside : (low high k : ℕ) → high ≤ 64 → low ≤ k → k < high → has_bit (mask low high) k ≡ true
mask-inside low high k most above below =
    let same : 64 - (64 - high) ≡ high = omega arith in
    let front : has_bit ((2 ^ 64 - 1) * 2 ^ low % 2 ^ 64) k ≡ true = rw (ones_shl 64 low (omega arith)) (has_bit-one _ k (bit_at_mask_inside low 64 k above (omega arith))) in
    let back : has_bit ((2 ^ 64 - 1) / 2 ^ (64 - high)) k ≡ true = rw (ones_shr 64 (64 - high) (omega arith), same) (has_bit-one _ k (bit_at_ones high k below)) in
    has_bit-and _ _ k ∙ and_from _ _ front back

mask-below : (low high k : ℕ) → low ≤ 64 → k < low → has_bit (mask low high) k ≡ false
mask-below low high k most below =
    let front : has_bit ((2 ^ 64 - 1) * 2 ^ low % 2 ^ 64) k ≡ false = rw (ones_shl 64 low most) (has_bit-none _ k (bit_at_mask_below low 64 k below)) in
    has_bit-and _ _ k ∙ and_left _ _ front

mask-above : (low high k : ℕ) → high ≤ 64 → high ≤ k → has_bit (mask low high) k ≡ false
mask-above low high k most above =
    let same : 64 - (64 - high) ≡ high = omega arith in
    let back : has_bit ((2 ^ 64 - 1) / 2 ^ (64 - high)) k ≡ false = rw (ones_shr 64 (64 - high) (omega arith), same) (has_bit-none _ k (bit_at_ones_above high k above)) in
    has_bit-and _ _ k ∙ and_right _ _ back

and_one : (x y : Bool) → y ≡ true → (x && y) ≡ x
and_one true y e = e
and_one false y e = ap (λ (b : Bool). false) e

mask-fits : (low high : ℕ) → mask low high < 2 ^ 64
mask-fits low high = let most = and_le_l ((2 ^ 64 - 1) * 2 ^ low % 2 ^ 64) ((2 ^ 64 - 1) / 2 ^ (64 - high)) in omega arith

-- a word without a mask keeps the ones outside of it
pub without-mask : (word low n : ℕ) → word < 2 ^ 64 → low + n ≤ 64
    → LosesRun (has_bit word) (has_bit (bit_and word (bit_not w64 (mask low (low + n))))) low n
without-mask word low n fits inside = record {
  inside = λ k above below.
      has_bit-and _ _ k
      ∙ and_right _ _ (has_bit-not _ k (mask-fits low (low + n)) (omega arith) ∙ not_from_true _ (mask-inside low (low + n) k inside above below));
  below = λ k below.
      has_bit-and _ _ k
      ∙ and_one _ _ (has_bit-not _ k (mask-fits low (low + n)) (omega arith) ∙ not_from_false _ (mask-below low (low + n) k (omega arith) below));
  above = λ k above. elim (cases_lt k 64) [
    | inl within ↦
        has_bit-and _ _ k
        ∙ and_one _ _ (has_bit-not _ k (mask-fits low (low + n)) within ∙ not_from_false _ (mask-above low (low + n) k inside above))
    | inr beyond ↦
        let none : has_bit word k ≡ false = has_bit-above word k fits beyond in
        has_bit-and _ _ k ∙ and_left _ _ none ∙ sym none
  ];
}

-- `count_ones` counts the places with a one
pub ones-below : (k a : ℕ) → a < 2 ^ k → ones a ≡ count_below k (has_bit a)
unfolding count_below has_bit ones
ones-below zero a fits = let none = ones-le 0 a fits in omega arith
ones-below (suc k) a fits =
    let top : a / 2 ^ k < 2 = div_below a (2 ^ k) 2 (pow_pos k) (omega (arith, pow-suc 2 k)) in
    let rest : a % 2 ^ k < 2 ^ k = mod_below a (2 ^ k) (pow_pos k) in
    let whole = shr_split a k in
    let parts : ones a ≡ ones (a / 2 ^ k) + ones (a % 2 ^ k) = ap ones (sym whole) ∙ ones_cat k (a / 2 ^ k) (a % 2 ^ k) rest in
    let low : ones (a % 2 ^ k) ≡ count_below k (has_bit a) =
    ones-below k (a % 2 ^ k) rest
    ∙ count_below-same k (has_bit (a % 2 ^ k)) (has_bit a)
    (λ j below. ap (λ (x : ℕ). x == 1) (sym (bit_at_cat_low (a / 2 ^ k) k (a % 2 ^ k) j below) ∙ ap (λ (x : ℕ). bit_at x j) whole)) in
    let high : ones (a / 2 ^ k) ≡ one_if (has_bit a k) = elim (cases_lt (a / 2 ^ k) 1) [
      | inl less ↦
          let none : a / 2 ^ k ≡ 0 = omega arith in
          let zero_at : bit_at a k ≡ 0 = omega arith in
          ap ones none ∙ sym (ap one_if (has_bit-none a k zero_at))
      | inr some ↦
          let one : a / 2 ^ k ≡ 1 = omega arith in
          let one_at : bit_at a k ≡ 1 = omega arith in
          ap ones one ∙ ones-ones 1 ∙ sym (ap one_if (has_bit-one a k one_at))
    ] in
    omega arith
