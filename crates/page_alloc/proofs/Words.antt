-- The words of blocks: pages of a block and places of its word, and the two ways to count them.
use Rattle.std.proofs.Common.{◌≡◌, ℕ, zero, suc, ◌+◌, ◌-◌, ◌*◌, ◌/◌, ◌%◌, ◌<◌, ◌≤◌, Bool, true, false, ◌&&◌, not, leb, ltb, refl, sym, ◌∙◌, ap, arith, inl, inr}
use Rattle.std.proofs.lemmas.Bool.{cases_lt, le-leb, lt-leb, lt-ltb, le-ltb}
use Rattle.page_bitmap.specs.Counts.{one_if}
use Rattle.page_bitmap.specs.Words.{has_bit}
use Rattle.page_bitmap.specs.CountLaws.{count_below-le, count_below-same}
use Rattle.page_cache.specs.declared.block.Block.{Block}
use Rattle.page_cache.specs.Blocks.{has_page, page_count}
use Rattle.page_alloc.specs.Lists.{count_below}
use Rattle.page_alloc.specs.Owners.{within}
use Rattle.page_alloc.proofs.Lives.{within-true, within-false}

and-false : (b : Bool) → (b && false) ≡ false
and-false true = refl
and-false false = refl

and-true : (b : Bool) → (b && true) ≡ b
and-true true = refl
and-true false = refl

bit-alike : (word k : ℕ) → Rattle.page_cache.specs.Words.has_bit word k ≡ has_bit word k
unfolding has_bit Rattle.page_cache.specs.Words.has_bit
bit-alike word k = refl

one-alike : (b : Bool) → Rattle.page_cache.specs.Counts.one_if b ≡ one_if b
one-alike true = refl
one-alike false = refl

count-alike : (n : ℕ) (f : ℕ → Bool) → Rattle.page_cache.specs.Counts.count_below n f ≡ count_below n f
unfolding count_below Rattle.page_cache.specs.Counts.count_below
count-alike zero f = refl
count-alike (suc n) f = (let here = one-alike (f n) in let rest = count-alike n f in rw (here, rest) refl)

pub page_count-is : (block : Block) → page_count block ≡ count_below 64 (λ i. has_page block (block.page + i))
page_count-is block = count-alike 64 (λ i. has_page block (block.page + i))

-- a page of a block is a place of its word
pub page-is : (block : Block) (p : ℕ) → has_page block p ≡ (within p block.page 64 && has_bit block.free (p - block.page))
page-is block p =
    let bit = bit-alike block.free (p - block.page) in
    elim (cases_lt p block.page) [
      | inl low ↦ (let e : leb block.page p ≡ false = lt-leb block.page p low in rw e refl)
      | inr from ↦ (let e : leb block.page p ≡ true = le-leb block.page p from in rw (e, bit) refl)
    ]

pub page-inside : (block : Block) (p : ℕ) → has_page block p ≡ true → (block.page ≤ p) × (p < block.page + 64)
page-inside block p has =
    elim (cases_lt p block.page) [
      | inl low ↦ (let e : leb block.page p ≡ false = lt-leb block.page p low in let no : false ≡ true = rw e at has in cc)
      | inr from ↦ elim (cases_lt p (block.page + 64)) [
        | inl to ↦ (from, to)
        | inr above ↦ (let e : leb block.page p ≡ true = le-leb block.page p from in let d : ltb p (block.page + 64) ≡ false = le-ltb p (block.page + 64) above in let no : false ≡ true = rw (e, d) at has in cc)
      ]
    ]

-- the pages of a word of a map are the block's
pub pages-are : (map : ℕ → Bool) (block : Block) → ((k : ℕ) → k < 64 → has_bit block.free k ≡ map (block.page + k)) → (p : ℕ) → has_page block p ≡ (map p && within p block.page 64)
pages-are map block word p =
    page-is block p ∙ elim (cases_lt p block.page) [
      | inl low ↦ (let w : within p block.page 64 ≡ false = within-false p block.page 64 (inl low) in rw w (sym (and-false (map p))))
      | inr from ↦ elim (cases_lt p (block.page + 64)) [
        | inl to ↦ (
            let w : within p block.page 64 ≡ true = within-true p block.page 64 from to in
            let at : block.page + (p - block.page) ≡ p = omega arith in
            let bit : has_bit block.free (p - block.page) ≡ map p = word (p - block.page) (omega arith) ∙ ap map at in
            rw (w, bit) (sym (and-true (map p))))
        | inr above ↦ (let w : within p block.page 64 ≡ false = within-false p block.page 64 (inr above) in rw w (sym (and-false (map p))))
      ]
    ]

-- and there are as many
pub pages-count : (map : ℕ → Bool) (block : Block) → ((k : ℕ) → k < 64 → has_bit block.free k ≡ map (block.page + k)) → page_count block ≡ count_below 64 (λ i. map (block.page + i))
pages-count map block word =
    page_count-is block ∙ count_below-same 64 (λ i. has_page block (block.page + i)) (λ i. map (block.page + i)) (λ i lt. (
    let w : within (block.page + i) block.page 64 ≡ true = within-true (block.page + i) block.page 64 (omega arith) (omega arith) in
    pages-are map block word (block.page + i) ∙ rw w (and-true (map (block.page + i)))))

-- the places of an aligned block's word, by pages
pub word-pages : (block : Block) (p : ℕ) → block.page % 64 ≡ 0 → (within p block.page 64 && has_bit block.free (p % 64)) ≡ has_page block p
word-pages block p whole =
    elim (cases_lt p block.page) [
      | inl low ↦ (let w : within p block.page 64 ≡ false = within-false p block.page 64 (inl low) in page_is-off w)
      | inr from ↦ elim (cases_lt p (block.page + 64)) [
        | inl to ↦ (let at : p % 64 ≡ p - block.page = omega arith in rw at (sym (page-is block p)))
        | inr above ↦ (let w : within p block.page 64 ≡ false = within-false p block.page 64 (inr above) in page_is-off w)
      ]
    ]
  where
    page_is-off : within p block.page 64 ≡ false → (within p block.page 64 && has_bit block.free (p % 64)) ≡ has_page block p
    page_is-off w = rw w (sym (page-is block p ∙ rw w refl))

pub pages-few : (block : Block) → page_count block ≤ 64
pages-few block = rw (page_count-is block) (count_below-le 64 (λ i. has_page block (block.page + i)))
