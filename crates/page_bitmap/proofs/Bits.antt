-- One bit of a word, any word and any place.
use Rattle.std.proofs.Common.{◌≡◌, ℕ, ◌+◌, ◌-◌, ◌*◌, ◌/◌, ◌%◌, ◌^◌, ◌<◌, ◌≤◌, ◌==◌, zero, suc, Bool, true, false, not, ◌&&◌, ◌||◌, bit_and, bit_or, refl, sym, ap, arith, ◌∙◌, inl, inr}
use Rattle.std.specs.Int.{bit_at, bit_not, w64, trailing_zeros, trailing_ones, leading_zeros, leading_ones}
use Rattle.std.specs.Int.Count.{trailing_of_zero, leading_of_zero, ones, ones-le, ones_cat, ones-ones}
use Rattle.page_bitmap.specs.Counts.{one_if, count_below}
use Rattle.page_bitmap.specs.CountLaws.{count_below-same}
use Rattle.std.proofs.lemmas.Nat.{leading_top, div_below, le-div, pow_pos, shr-shr, shr_split, mod_below}
use Rattle.std.proofs.Math.Nat.{pow-suc}
use Rattle.std.proofs.lemmas.Bool.{not-true, not-false, cases_eq, cases_lt}
use Rattle.std.proofs.lemmas.Nat.Bits.{bit_at_and, bit_at_or, bit_at_not, bit_at-lt, bit_at-zero, bit_at_above, bit_at-trailing_zeros, ones_shr, ones_shl, bit_at_mask_inside, bit_at_mask_below, bit_at_ones, bit_at_ones_above, bit_at_cat_low}
use Rattle.page_bitmap.specs.Words.{has_bit}
use Rattle.page_bitmap.specs.WordRuns.{IsLowOnes, IsHighOnes}

pub has_bit-one : (a k : ℕ) → bit_at a k ≡ 1 → has_bit a k ≡ true
unfolding has_bit
has_bit-one a k e = grind (arith, e)

pub has_bit-none : (a k : ℕ) → bit_at a k ≡ 0 → has_bit a k ≡ false
unfolding has_bit
has_bit-none a k e = grind (arith, e)

pub has_bit-zero : (k : ℕ) → has_bit 0 k ≡ false
has_bit-zero k = has_bit-none 0 k (bit_at-zero k)

-- a word of 64 bits has no one from place 64 on
pub has_bit-above : (a k : ℕ) → a < 2 ^ 64 → 64 ≤ k → has_bit a k ≡ false
has_bit-above a k fits above = has_bit-none a k (bit_at_above a 64 k fits above)

pub has_bit-and : (a b k : ℕ) → has_bit (bit_and a b) k ≡ (has_bit a k && has_bit b k)
unfolding has_bit
has_bit-and a b k = grind (arith, bit_at_and a b k, bit_at-lt a k, bit_at-lt b k)

pub has_bit-or : (a b k : ℕ) → has_bit (bit_or a b) k ≡ (has_bit a k || has_bit b k)
unfolding has_bit
has_bit-or a b k = grind (arith, bit_at_or a b k, bit_at-lt a k, bit_at-lt b k)

pub has_bit-not : (a k : ℕ) → a < 2 ^ 64 → k < 64 → has_bit (bit_not w64 a) k ≡ not (has_bit a k)
unfolding has_bit
has_bit-not a k fits within = grind (arith, bit_at_not w64 a k fits within, bit_at-lt a k)

-- `trailing_zeros` is the lowest one
pub record IsLowest (a place : ℕ) : Type 0 where
  pub within : place < 64
  pub one : has_bit a place ≡ true
  pub lowest : (k : ℕ) → k < place → has_bit a k ≡ false

pub trailing_zeros-lowest : (a : ℕ) → 0 < a → a < 2 ^ 64 → IsLowest a (trailing_zeros w64 a)
trailing_zeros-lowest a some fits =
    let t = bit_at-trailing_zeros w64 a some fits in
    record {
      within = t.0;
      one = has_bit-one a (trailing_zeros w64 a) t.1;
      lowest = λ k below. has_bit-none a k (t.2 k below);
    }

-- `63 - leading_zeros` is the highest one
pub record IsHighest (a place : ℕ) : Type 0 where
  pub within : place < 64
  pub one : has_bit a place ≡ true
  pub highest : (k : ℕ) → place < k → has_bit a k ≡ false

top_bit : (a j : ℕ) → 2 ^ j ≤ a → a < 2 ^ suc j → bit_at a j ≡ 1
top_bit a j low high =
    let below : a / 2 ^ j < 2 = div_below a (2 ^ j) 2 (pow_pos j) (omega (arith, pow-suc 2 j)) in
    let above : 1 ≤ a / 2 ^ j = le-div 1 a (2 ^ j) (pow_pos j) (omega arith) in
    omega arith

pub leading_zeros-highest : (a : ℕ) → 0 < a → a < 2 ^ 64 → (leading_zeros w64 a ≤ 63) × IsHighest a (63 - leading_zeros w64 a)
leading_zeros-highest a some fits =
    let t = leading_top 64 a some fits in
    let place : 63 - leading_zeros w64 a ≡ t.0 = omega arith in (
      omega arith,
      record {
        within = omega arith;
        one = rw place (has_bit-one a t.0 (top_bit a t.0 t.2 t.3));
        highest = λ k above. has_bit-none a k (bit_at_above a (suc t.0) k t.3 (omega arith));
      },
    )

pub has_bit-shr : (a s k : ℕ) → has_bit (a / 2 ^ s) k ≡ has_bit a (s + k)
unfolding has_bit
has_bit-shr a s k = rw (shr-shr a s k)

-- `MAX << low` has the ones from `low` on
pub has_bit-high_inside : (low k : ℕ) → low ≤ k → k < 64 → has_bit ((2 ^ 64 - 1) * 2 ^ low % 2 ^ 64) k ≡ true
has_bit-high_inside low k above within =
    rw (ones_shl 64 low (omega arith)) (has_bit-one _ k (bit_at_mask_inside low 64 k above within))

pub has_bit-high_below : (low k : ℕ) → low ≤ 64 → k < low → has_bit ((2 ^ 64 - 1) * 2 ^ low % 2 ^ 64) k ≡ false
has_bit-high_below low k within below =
    rw (ones_shl 64 low within) (has_bit-none _ k (bit_at_mask_below low 64 k below))

-- `MAX >> (64 - high)` has the ones below `high`
pub has_bit-low_inside : (high k : ℕ) → high ≤ 64 → k < high → has_bit ((2 ^ 64 - 1) / 2 ^ (64 - high)) k ≡ true
has_bit-low_inside high k within below =
    let same : 64 - (64 - high) ≡ high = omega arith in
    rw (ones_shr 64 (64 - high) (omega arith), same) (has_bit-one _ k (bit_at_ones high k below))

pub has_bit-low_above : (high k : ℕ) → high ≤ 64 → high ≤ k → has_bit ((2 ^ 64 - 1) / 2 ^ (64 - high)) k ≡ false
has_bit-low_above high k within above =
    let same : 64 - (64 - high) ≡ high = omega arith in
    rw (ones_shr 64 (64 - high) (omega arith), same) (has_bit-none _ k (bit_at_ones_above high k above))

-- a place of the word is a one where the turned word has none, and the other way round
pub turned_one : (a k : ℕ) → a < 2 ^ 64 → k < 64 → has_bit (bit_not w64 a) k ≡ false → has_bit a k ≡ true
turned_one a k fits within e = not-false _ (sym (has_bit-not a k fits within) ∙ e)

pub turned_none : (a k : ℕ) → a < 2 ^ 64 → k < 64 → has_bit (bit_not w64 a) k ≡ true → has_bit a k ≡ false
turned_none a k fits within e = not-true _ (sym (has_bit-not a k fits within) ∙ e)

-- a word of ones alone
pub all_ones : (a k : ℕ) → bit_not w64 a ≡ 0 → a < 2 ^ 64 → k < 64 → has_bit a k ≡ true
all_ones a k e fits within = turned_one a k fits within (rw e (has_bit-zero k))

-- the word's lowest ones
pub trailing_ones-low : (a : ℕ) → a < 2 ^ 64 → IsLowOnes a (trailing_ones w64 a)
trailing_ones-low a fits = elim (cases_eq (bit_not w64 a) 0) [
  | inl none ↦
      let whole : trailing_ones w64 a ≡ 64 = ap (trailing_zeros w64) none ∙ trailing_of_zero 64 in
      record {
        within = omega arith;
        ones = λ place below. all_ones a place none fits (omega arith);
        stops = λ short. absurd (omega arith);
      }
  | inr some ↦
      let t = trailing_zeros-lowest (bit_not w64 a) (omega arith) (omega arith) in
      record {
        within = omega (arith, t.within);
        ones = λ place below. turned_one a place fits (omega (arith, t.within)) (t.lowest place below);
        stops = λ short. turned_none a (trailing_ones w64 a) fits short t.one;
      }
]

-- and its highest
pub leading_ones-high : (a : ℕ) → a < 2 ^ 64 → IsHighOnes a (leading_ones w64 a)
leading_ones-high a fits = elim (cases_eq (bit_not w64 a) 0) [
  | inl none ↦
      let whole : leading_ones w64 a ≡ 64 = ap (leading_zeros w64) none ∙ leading_of_zero 64 in
      record {
        within = omega arith;
        ones = λ place above below. all_ones a place none fits below;
        stops = λ short. absurd (omega arith);
      }
  | inr some ↦
      let t = leading_zeros-highest (bit_not w64 a) (omega arith) (omega arith) in
      record {
        within = omega (arith, t.0);
        ones = λ place above below. turned_one a place fits below (t.1.highest place (omega (arith, t.0)));
        stops = λ short. turned_none a (63 - leading_ones w64 a) fits (t.1.within) t.1.one;
      }
]

-- `or` with a word that has no one there, and `and` with one that has
pub or_none : (x y : Bool) → y ≡ false → (x || y) ≡ x
or_none true y e = refl
or_none false y e = e

pub and_one : (x y : Bool) → y ≡ true → (x && y) ≡ x
and_one true y e = e
and_one false y e = refl

pub one_and : (x y : Bool) → x ≡ true → (x && y) ≡ y
one_and true y e = refl
one_and false y e = cc

-- `count_ones` counts the places with a one
pub ones-below : (k a : ℕ) → a < 2 ^ k → ones a ≡ count_below k (has_bit a)
unfolding count_below has_bit ones
ones-below zero a fits = let none = ones-le 0 a fits in omega arith
ones-below (suc k) a fits =
    let top : a / 2 ^ k < 2 = div_below a (2 ^ k) 2 (pow_pos k) (omega (arith, pow-suc 2 k)) in
    let rest : a % 2 ^ k < 2 ^ k = mod_below a (2 ^ k) (pow_pos k) in
    let whole = shr_split a k in
    let parts : ones a ≡ ones (a / 2 ^ k) + ones (a % 2 ^ k) = ap ones (sym whole) ∙ ones_cat k (a / 2 ^ k) (a % 2 ^ k) rest in
    let low : ones (a % 2 ^ k) ≡ count_below k (has_bit a) =
    ones-below k (a % 2 ^ k) rest
    ∙ count_below-same k (has_bit (a % 2 ^ k)) (has_bit a)
    (λ j below. ap (λ (x : ℕ). x == 1) (sym (bit_at_cat_low (a / 2 ^ k) k (a % 2 ^ k) j below) ∙ ap (λ (x : ℕ). bit_at x j) whole)) in
    let high : ones (a / 2 ^ k) ≡ one_if (has_bit a k) = elim (cases_lt (a / 2 ^ k) 1) [
      | inl less ↦
          let none : a / 2 ^ k ≡ 0 = omega arith in
          let zero_at : bit_at a k ≡ 0 = omega arith in
          ap ones none ∙ sym (ap one_if (has_bit-none a k zero_at))
      | inr some ↦
          let one : a / 2 ^ k ≡ 1 = omega arith in
          let one_at : bit_at a k ≡ 1 = omega arith in
          ap ones one ∙ ones-ones 1 ∙ sym (ap one_if (has_bit-one a k one_at))
    ] in
    omega arith
