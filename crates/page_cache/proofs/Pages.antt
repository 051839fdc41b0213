-- The pages of a block are the places of its word.
use Rattle.std.proofs.Common.{◌≡◌, ℕ, ◌+◌, ◌-◌, ◌<◌, ◌≤◌, ◌^◌, true, false, refl, sym, ap, arith, ◌∙◌, inl, inr}
use Rattle.std.proofs.lemmas.Bool.{cases_lt, true≢false}
use Rattle.std.specs.Int.Count.{ones}
use Rattle.page_cache.specs.declared.block.Block.{Block}
use Rattle.page_cache.specs.Blocks.{has_page, page_count}
use Rattle.page_cache.specs.Counts.{count_below}
use Rattle.page_cache.specs.Words.{has_bit}
use Rattle.page_cache.specs.Runs.{HasNoRun, IsRun, IsFirstRun, LosesRun}
use Rattle.page_cache.proofs.Bits.{ones-below}
use Rattle.page_cache.proofs.Sums.{count_below-same}

pub page-in : (block : Block) (page : ℕ) → block.page ≤ page → page < block.page + 64 → has_page block page ≡ has_bit block.free (page - block.page)
page-in block page above below = grind arith

pub page-at : (block : Block) (place : ℕ) → place < 64 → has_page block (block.page + place) ≡ has_bit block.free place
page-at block place within =
    let same : block.page + place - block.page ≡ place = omega arith in
    page-in block (block.page + place) (omega arith) (omega arith) ∙ ap (has_bit block.free) same

-- a page of the block is one of its 64
page-before : (block : Block) (page : ℕ) → page < block.page → has_page block page ≡ false
page-before block page low = grind arith

page-behind : (block : Block) (page : ℕ) → block.page + 64 ≤ page → has_page block page ≡ false
page-behind block page high = grind arith

page-above : (block : Block) (page : ℕ) → has_page block page ≡ true → block.page ≤ page
page-above block page has = elim (cases_lt page block.page) [
  | inl low ↦ absurd (true≢false (sym has ∙ page-before block page low))
  | inr above ↦ above
]

page-below : (block : Block) (page : ℕ) → has_page block page ≡ true → page < block.page + 64
page-below block page has = elim (cases_lt page (block.page + 64)) [
  | inl low ↦ low
  | inr high ↦ absurd (true≢false (sym has ∙ page-behind block page high))
]

pub page_count-bits : (block : Block) → page_count block ≡ count_below 64 (has_bit block.free)
page_count-bits block = count_below-same 64 (λ i. has_page block (block.page + i)) (has_bit block.free) (λ i low. page-at block i low)

pub page_count-ones : (block : Block) → block.free < 2 ^ 64 → ones block.free ≡ page_count block
page_count-ones block fits = ones-below 64 block.free fits ∙ sym (page_count-bits block)

-- a run of places is a run of pages, and the other way round
pub run-pages : (block : Block) (place n : ℕ) → place + n ≤ 64 → IsRun (has_bit block.free) place n → IsRun (has_page block) (block.page + place) n
run-pages block place n within run = λ k above below. page-in block k (omega arith) (omega arith) ∙ run (k - block.page) (omega arith) (omega arith)

pub run-places : (block : Block) (page n : ℕ) → 1 ≤ n → IsRun (has_page block) page n → (block.page ≤ page) × IsRun (has_bit block.free) (page - block.page) n
run-places block page n some run =
    let above : block.page ≤ page = page-above block page (run page (omega arith) (omega arith)) in
    let places : IsRun (has_bit block.free) (page - block.page) n = λ k after before.
    let has : has_page block (block.page + k) ≡ true = run (block.page + k) (omega arith) (omega arith) in
    let low = page-below block (block.page + k) has in
    sym (page-at block k (omega arith)) ∙ has in
    (above, places)

pub first-pages : (block : Block) (place n : ℕ) → 1 ≤ n → place + n ≤ 64 → IsFirstRun (has_bit block.free) n place → IsFirstRun (has_page block) n (block.page + place)
first-pages block place n some within first = record {
  run = run-pages block place n within first.run;
  least = λ other below run.
      let places = run-places block other n some run in
      let above = places.0 in
      first.least (other - block.page) (omega arith) places.1;
}

pub none-pages : (block : Block) (n : ℕ) → 1 ≤ n → HasNoRun (has_bit block.free) n → HasNoRun (has_page block) n
none-pages block n some none page run = none (page - block.page) ((run-places block page n some run).1)

-- a page stays where its bit stays
page-same : (block left : Block) (page : ℕ) → left.page ≡ block.page → (block.page ≤ page → has_bit left.free (page - block.page) ≡ has_bit block.free (page - block.page))
    → has_page left page ≡ has_page block page
page-same block left page same bit = elim (cases_lt page block.page) [
  | inl low ↦ page-before left page (omega arith) ∙ sym (page-before block page low)
  | inr above ↦ rw (same, bit above) refl
]

-- a block whose word has lost a run of places has lost a run of pages
pub loses-pages : (block left : Block) (place n : ℕ) → place + n ≤ 64 → left.page ≡ block.page → LosesRun (has_bit block.free) (has_bit left.free) place n
    → LosesRun (has_page block) (has_page left) (block.page + place) n
loses-pages block left place n within same lost = record {
  inside = λ page above below.
      let bit : has_bit left.free (page - left.page) ≡ false = lost.inside (page - left.page) (omega arith) (omega arith) in
      page-in left page (omega arith) (omega arith) ∙ bit;
  below = λ page below. page-same block left page same (λ after. lost.below (page - block.page) (omega arith));
  above = λ page above. page-same block left page same (λ after. lost.above (page - block.page) (omega arith));
}
