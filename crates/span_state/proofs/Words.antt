-- Bits in words of 64 bits.
use Rattle.std.proofs.Common.{◌≡◌, ◌≢◌, ℕ, ◌+◌, ◌-◌, ◌*◌, ◌/◌, ◌%◌, ◌^◌, ◌<◌, ◌≤◌, Bool, true, false, eqb, ltb, MatchOption, List, length, get_or, w64, refl, ◌∙◌, ap, arith, inl, inr, eq-eqb, get_or-set_same, get_or-set_other}
use Rattle.std.proofs.Math.ListN.{set}
use Rattle.std.proofs.lemmas.Bool.{cases_eq, cases_lt, ne_eqb, lt-ltb, le-ltb}
use Rattle.std.proofs.lemmas.Nat.Bits.{bit_at_set_same, bit_at_set_other, bit_at_ones, bit_at-trailing_ones}
use Rattle.std.specs.Bool.{then_some}
use Rattle.std.specs.Int.{bit_at, trailing_ones}
use Rattle.std.specs.Int.Bits.{bit_or}
use Rattle.std.specs.Int.Count.{trailing_of_zero, count_trailing_zeros}
use Rattle.span_state.specs.Bits.{bit_of, with_bit, HasFree, IsFull}

-- where a word and its bit show that an index is in the set
pub bit_of-at : (words : List ℕ) (k : ℕ) → bit_at (get_or words (k / 64) 0) (k % 64) ≡ 1 → bit_of words k ≡ true
bit_of-at words k e = eq-eqb _ 1 e

pub bit_of-off : (words : List ℕ) (k : ℕ) → bit_at (get_or words (k / 64) 0) (k % 64) ≡ 0 → bit_of words k ≡ false
bit_of-off words k e = rw e refl

-- an index is where its word and its bit are
pub same_place : (i k : ℕ) → k / 64 ≡ i / 64 → k % 64 ≡ i % 64 → k ≡ i
same_place i k e f = omega arith

-- to set a bit in its word adds its index to the set
pub bit_of-set : (words : List ℕ) (i k : ℕ) → i / 64 < length words
    → bit_of (set words (i / 64) (bit_or (get_or words (i / 64) 0) (1 * 2 ^ (i % 64) % 2 ^ 64))) k ≡ with_bit i (bit_of words) k
bit_of-set words i k lt =
    let within : i % 64 < 64 = omega arith in
    elim (cases_eq (k / 64) (i / 64)) [
      | inl word ↦ elim (cases_eq (k % 64) (i % 64)) [
        | inl bit ↦ (
            let here : k ≡ i = same_place i k word bit in
            let on : eqb k i ≡ true = eq-eqb k i here in
            let e = bit_at_set_same w64 (get_or words (i / 64) 0) (i % 64) within in
            rw (word, bit, get_or-set_same, e, on) refl)
        | inr other ↦ (
            let off : eqb k i ≡ false = ne_eqb k i (λ e. other (ap (λ n. n % 64) e)) in
            let e = bit_at_set_other w64 (get_or words (i / 64) 0) (i % 64) within (k % 64) other in
            rw (word, get_or-set_same, e, off) refl)
      ]
      | inr other ↦ (
          let off : eqb k i ≡ false = ne_eqb k i (λ e. other (ap (λ n. n / 64) e)) in
          rw (get_or-set_other, off) refl)
    ]

-- A word whose trailing ones are all of its bits has each bit set.
pub full_word : (n b : ℕ) → n < 2 ^ 64 → 64 ≤ trailing_ones w64 n → b < 64 → bit_at n b ≡ 1
full_word n b fits full lt =
    elim (cases_lt (n + 1) (2 ^ 64)) [
      | inl less ↦ absurd (let t = (bit_at-trailing_ones w64 n less).0 in omega arith)
      | inr top ↦ (let e : n ≡ 2 ^ 64 - 1 = omega arith in rw e (bit_at_ones 64 b lt))
    ]

-- A word with fewer trailing ones has a bit that is not set.
pub open_word : (n : ℕ) → n < 2 ^ 64 → trailing_ones w64 n < 64 → n + 1 < 2 ^ 64
open_word n fits open_ =
    elim (cases_lt (n + 1) (2 ^ 64)) [
      | inl less ↦ less
      | inr top ↦ absurd (
          let e : 2 ^ 64 - 1 - n ≡ 0 = omega arith in
          let z : trailing_ones w64 n ≡ 64 = ap (count_trailing_zeros 64) e ∙ trailing_of_zero 64 in
          omega arith)
    ]

-- The indices of whole words and of the lowest bits of the next word.
pub bits_more : (words : List ℕ) (w m : ℕ) → ((k : ℕ) → k < 64 * w → bit_of words k ≡ true)
    → ((b : ℕ) → b < m → bit_at (get_or words w 0) b ≡ 1) → m ≤ 64 → (k : ℕ) → k < 64 * w + m → bit_of words k ≡ true
bits_more words w m below word few k lt =
    elim (cases_lt k (64 * w)) [
      | inl less ↦ below k less
      | inr here ↦ (
          let e : k / 64 ≡ w = omega arith in
          let b : k % 64 < m = omega arith in
          bit_of-at words k (rw e (word (k % 64) b)))
    ]

-- The lowest bit of the next word that is not set is the lowest index that is not in the set.
pub bits_end : (words : List ℕ) (w m : ℕ) → bit_at (get_or words w 0) m ≡ 0 → m < 64 → bit_of words (64 * w + m) ≡ false
bits_end words w m off lt =
    let e : (64 * w + m) / 64 ≡ w = omega arith in
    let b : (64 * w + m) % 64 ≡ m = omega arith in
    bit_of-off words (64 * w + m) (rw (e, b) off)

-- a set with its lowest missing index added has each index up to that one
pub with_bit-below : (i : ℕ) (bits : ℕ → Bool) → ((j : ℕ) → j < i → bits j ≡ true) → (k : ℕ) → k < i + 1 → with_bit i bits k ≡ true
with_bit-below i bits below k lt =
    elim (cases_eq k i) [
      | inl here ↦ (let on : eqb k i ≡ true = eq-eqb k i here in rw on refl)
      | inr other ↦ (let off : eqb k i ≡ false = ne_eqb k i other in rw off (below k (omega arith)))
    ]

-- a set with an index added has another index where it had it before
pub with_bit-other : (i : ℕ) (bits : ℕ → Bool) (k : ℕ) → k ≢ i → with_bit i bits k ≡ bits k
with_bit-other i bits k other = let off : eqb k i ≡ false = ne_eqb k i other in rw off refl

pub with_bit-past : (i : ℕ) (bits : ℕ → Bool) (k : ℕ) → k ≢ i → bits k ≡ false → with_bit i bits k ≡ false
with_bit-past i bits k other off = with_bit-other i bits k other ∙ off

-- The lowest bit that is not set in the first word that has one: the lowest index that is not in the set, or else past the count.
pub free_answer : (words : List ℕ) (count w m : ℕ) → ((k : ℕ) → k < 64 * w → bit_of words k ≡ true) → get_or words w 0 < 2 ^ 64
    → m ≡ trailing_ones w64 (get_or words w 0) → m < 64
    → MatchOption (then_some (ltb (w * 64 + m) count) (w * 64 + m)) (IsFull count (bit_of words)) (HasFree count (bit_of words))
free_answer words count w m below fits is lt =
    let spare : get_or words w 0 + 1 < 2 ^ 64 = open_word (get_or words w 0) fits (omega arith) in
    let word = bit_at-trailing_ones w64 (get_or words w 0) spare in
    let on : (b : ℕ) → b < m → bit_at (get_or words w 0) b ≡ 1 = λ b less. word.2 b (omega arith) in
    let all : (k : ℕ) → k < 64 * w + m → bit_of words k ≡ true = bits_more words w m below on (omega arith) in
    let off : bit_at (get_or words w 0) m ≡ 0 = rw is word.1 in
    let end : bit_of words (64 * w + m) ≡ false = bits_end words w m off lt in
    let same : 64 * w + m ≡ w * 64 + m = omega arith in
    elim (cases_lt (w * 64 + m) count) [
      | inl less ↦ (let yes_ = lt-ltb (w * 64 + m) count less in rw yes_ (record { inside = less; free = rw same at end; lowest = λ j h. all j (omega arith) }))
      | inr past ↦ (let no_ = le-ltb (w * 64 + m) count past in rw no_ (λ k h. all k (omega arith)))
    ]

-- A word with all its bits set lets the next word begin.
pub word_more : (words : List ℕ) (w m : ℕ) → ((k : ℕ) → k < 64 * w → bit_of words k ≡ true) → get_or words w 0 < 2 ^ 64
    → m ≡ trailing_ones w64 (get_or words w 0) → 64 ≤ m → (k : ℕ) → k < 64 * (w + 1) → bit_of words k ≡ true
word_more words w m below fits is full k lt =
    bits_more words w 64 below (λ b less. full_word (get_or words w 0) b fits (omega arith) less) (omega arith) k (omega arith)
