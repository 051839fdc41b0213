-- The 64 pages of one word of a map.
use Rattle.std.proofs.Common.{◌≡◌, ◌≢◌, ℕ, ◌+◌, ◌*◌, ◌/◌, ◌%◌, ◌^◌, ◌<◌, Bool, true, false, not, ◌&&◌, ◌||◌, eqb, bit_and, bit_or, refl, sym, ap, ap₂, ◌∙◌, arith, inl, inr}
use Rattle.std.specs.Int.{bit_not, w64}
use Rattle.std.specs.Int.Count.{ones}
use Rattle.std.proofs.lemmas.Bool.{cases_eq, eq-eqb, ne_eqb}
use Rattle.std.proofs.lemmas.Nat.{and_le_l}
use Rattle.page_bitmap.specs.Words.{has_bit, in_word, IsWordOf}
use Rattle.page_bitmap.specs.Counts.{count_below, count_run}
use Rattle.page_bitmap.specs.CountLaws.{count_below-same}
use Rattle.page_bitmap.proofs.Bits.{has_bit-and, has_bit-not, has_bit-or, has_bit-zero, ones-below}

-- a place of the word of a map
pub word-at : (map : ℕ → Bool) (index word p : ℕ) → IsWordOf map index word → p / 64 ≡ index → has_bit word (p % 64) ≡ map p
word-at map index word p is here = (let same : 64 * index + p % 64 ≡ p = omega arith in is (p % 64) (omega arith) ∙ ap map same)

and-keeps : (x : Bool) → (x && true) ≡ x
and-keeps true = refl
and-keeps false = refl

and-none : (x : Bool) → (x && false) ≡ false
and-none true = refl
and-none false = refl

or-keeps : (x : Bool) → (x || false) ≡ x
or-keeps true = refl
or-keeps false = refl

-- the word is taken out of the map
pub takes-word : (old new : ℕ → Bool) (index p : ℕ) → ((p : ℕ) → p / 64 ≡ index → new p ≡ has_bit 0 (p % 64)) → ((p : ℕ) → p / 64 ≢ index → new p ≡ old p)
    → new p ≡ (old p && not (in_word index p))
takes-word old new index p inside others = elim (cases_eq (p / 64) index) [
  | inl here ↦ (let is : in_word index p ≡ true = eq-eqb (p / 64) index here in rw is (inside p here ∙ has_bit-zero (p % 64) ∙ sym (and-none (old p))))
  | inr there ↦ (let isnt : in_word index p ≡ false = ne_eqb (p / 64) index there in rw isnt (others p there ∙ sym (and-keeps (old p))))
]

-- the pages that a word has leave the map
pub leaves-word : (free old new : ℕ → Bool) (index a b p : ℕ) → a < 2 ^ 64 → IsWordOf free index a → IsWordOf old index b → ((p : ℕ) → p / 64 ≡ index → new p ≡ has_bit (bit_and b (bit_not w64 a)) (p % 64))
    → ((p : ℕ) → p / 64 ≢ index → new p ≡ old p) → new p ≡ (old p && not (in_word index p && free p))
leaves-word free old new index a b p fits is_free is_old inside others = elim (cases_eq (p / 64) index) [
  | inl here ↦ (
      let is : in_word index p ≡ true = eq-eqb (p / 64) index here in
      rw is (inside p here ∙ has_bit-and b _ (p % 64) ∙ ap₂ ◌&&◌ (word-at old index b p is_old here) (has_bit-not a (p % 64) fits (omega arith) ∙ ap not (word-at free index a p is_free here))))
  | inr there ↦ (let isnt : in_word index p ≡ false = ne_eqb (p / 64) index there in rw isnt (others p there ∙ sym (and-keeps (old p))))
]

-- the pages that a word has join the map
pub joins-word : (old new : ℕ → Bool) (index a b p : ℕ) → IsWordOf old index b → ((p : ℕ) → p / 64 ≡ index → new p ≡ has_bit (bit_or b a) (p % 64))
    → ((p : ℕ) → p / 64 ≢ index → new p ≡ old p) → new p ≡ (old p || (in_word index p && has_bit a (p % 64)))
joins-word old new index a b p is_old inside others = elim (cases_eq (p / 64) index) [
  | inl here ↦ (
      let is : in_word index p ≡ true = eq-eqb (p / 64) index here in
      rw is (inside p here ∙ has_bit-or b a (p % 64) ∙ ap (λ (x : Bool). x || has_bit a (p % 64)) (word-at old index b p is_old here)))
  | inr there ↦ (let isnt : in_word index p ≡ false = ne_eqb (p / 64) index there in rw isnt (others p there ∙ sym (or-keeps (old p))))
]

-- the pages that two words have
pub both-words : (f g : ℕ → Bool) (index a b : ℕ) → a < 2 ^ 64 → IsWordOf f index a → IsWordOf g index b → ones (bit_and a b) ≡ count_run (64 * index) 64 (λ p. f p && g p)
both-words f g index a b fits is_f is_g =
    ones-below 64 (bit_and a b) (let less = and_le_l a b in omega arith)
    ∙ count_below-same 64 (has_bit (bit_and a b)) (λ k. f (64 * index + k) && g (64 * index + k)) (λ k lt. has_bit-and a b k ∙ ap₂ ◌&&◌ (is_f k lt) (is_g k lt))
