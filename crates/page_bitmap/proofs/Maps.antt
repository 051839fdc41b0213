-- The map that eight words hold, page by page.
use Rattle.std.proofs.Common.{◌≡◌, ℕ, ◌+◌, ◌-◌, ◌*◌, ◌/◌, ◌%◌, ◌^◌, ◌<◌, ◌≤◌, min, Bool, true, false, not, ◌&&◌, List, length, get_or, refl, sym, ◌∙◌, ap, ap₂, arith, subst, inl, inr, Option, None, Some, IfNone, get_or-set_other, get_or-set_same, bit_and}
use Rattle.std.proofs.Math.ListN.{set}
use Rattle.std.specs.Int.{bit_not, w64}
use Rattle.std.specs.Int.Count.{ones}
use Rattle.std.proofs.lemmas.Nat.{and_le_l}
use Rattle.std.proofs.lemmas.Bool.{and_right, and_parts, and_left, cases_lt, cases_eq, lt-ltb, le-ltb, ltb-true, true≢false}
use Rattle.page_bitmap.specs.Words.{has_bit, has_page}
use Rattle.page_bitmap.specs.Runs.{IsRun, SetsRun, IsTopRun, IsEmpty}
use Rattle.page_bitmap.specs.Counts.{count_below, count_run}
use Rattle.page_bitmap.specs.CountLaws.{count_below-split, count_run-split, count_below-none, count_below-same}
use Rattle.page_bitmap.proofs.Bits.{ones-below, has_bit-and, has_bit-not, all_ones, and_one}

-- page p is bit p % 64 of word p / 64
pub has_page-at : (words : List ℕ) (p : ℕ) → p < 512 → has_page words p ≡ has_bit (get_or words (p / 64) 0) (p % 64)
unfolding has_page
has_page-at words p within = simp (lt-ltb p 512 within) refl

pub has_page-past : (words : List ℕ) (p : ℕ) → 512 ≤ p → has_page words p ≡ false
unfolding has_page
has_page-past words p past = and_left _ _ (le-ltb p 512 past)

pub has_page-within : (words : List ℕ) (p : ℕ) → has_page words p ≡ true → p < 512
unfolding has_page
has_page-within words p one = ltb-true p 512 (and_parts _ _ one).0

-- place k of word i is page 64 * i + k
pub has_page-word : (words : List ℕ) (i k : ℕ) → i < 8 → k < 64 → has_page words (64 * i + k) ≡ has_bit (get_or words i 0) k
has_page-word words i k word place =
    let row : (64 * i + k) / 64 ≡ i = omega arith in
    let column : (64 * i + k) % 64 ≡ k = omega arith in
    has_page-at words (64 * i + k) (omega arith) ∙ rw (row, column)

-- after a write of word i, its pages are those of the new word, and the others are as they were
pub has_page-set_same : (words : List ℕ) (i word p : ℕ) → i < length words → i < 8 → p / 64 ≡ i → has_page (set words i word) p ≡ has_bit word (p % 64)
has_page-set_same words i word p fits small same =
    has_page-at (set words i word) p (omega arith) ∙ rw (same, get_or-set_same)

pub has_page-set_other : (words : List ℕ) (i word p : ℕ) → (p / 64 ≡ i → ⊥) → has_page (set words i word) p ≡ has_page words p
unfolding has_page
has_page-set_other words i word p other = rw get_or-set_other refl

was-word : (words : List ℕ) (i p : ℕ) → i < 8 → p / 64 ≡ i → has_bit (get_or words i 0) (p % 64) ≡ has_page words p
was-word words i p small same = rw (← same) (sym (has_page-at words p (omega arith)))

-- words of ones alone have every page
pub full_row : (words : List ℕ) → ((i : ℕ) → i < 8 → get_or words i 0 ≡ 2 ^ 64 - 1) → IsRun (has_page words) 0 512
full_row words ones = record {
  within = omega arith;
  each = λ p above below. has_page-at words p below ∙ rw (ones (p / 64) (omega arith)) (all_ones (2 ^ 64 - 1) (p % 64) refl (omega arith) (omega arith));
}

-- as `SetsRun`, of the pages below `done` alone
pub record SetsUpTo (old new : ℕ → Bool) (page n : ℕ) (value : Bool) (done : ℕ) : Type 0 where
  pub inside : (p : ℕ) → page ≤ p → p < page + n → p < done → new p ≡ value
  pub below : (p : ℕ) → p < page → new p ≡ old p
  pub above : (p : ℕ) → page + n ≤ p → new p ≡ old p
  pub ahead : (p : ℕ) → done ≤ p → new p ≡ old p

pub sets-none : (map : ℕ → Bool) (page n : ℕ) (value : Bool) (done : ℕ) → done ≤ page → SetsUpTo map map page n value done
sets-none map page n value done before = record {
  inside = λ p above below first. absurd (omega arith);
  below = λ p h. refl;
  above = λ p h. refl;
  ahead = λ p h. refl;
}

pub sets-all : (old new : ℕ → Bool) (page n : ℕ) (value : Bool) (done : ℕ) → SetsUpTo old new page n value done → page + n ≤ done → SetsRun old new page n value
sets-all old new page n value done known all = record {
  inside = λ p above below. known.inside p above below (omega arith);
  below = known.below;
  above = known.above;
}

-- one more word is set
pub sets-more : (old : ℕ → Bool) (words : List ℕ) (page n : ℕ) (value : Bool) (i word : ℕ) → i < length words → i < 8
    → SetsUpTo old (has_page words) page n value (64 * i)
    → ((k : ℕ) → page - 64 * i ≤ k → k < min (page + n - 64 * i) 64 → has_bit word k ≡ value)
    → ((k : ℕ) → k < page - 64 * i → has_bit word k ≡ has_bit (get_or words i 0) k)
    → ((k : ℕ) → min (page + n - 64 * i) 64 ≤ k → k < 64 → has_bit word k ≡ has_bit (get_or words i 0) k)
    → SetsUpTo old (has_page (set words i word)) page n value (64 * (i + 1))
sets-more old words page n value i word fits small known inside below above = record {
  inside = λ p after before done. elim (cases_eq (p / 64) i) [
    | inl same ↦ has_page-set_same words i word p fits small same ∙ inside (p % 64) (omega arith) (omega arith)
    | inr other ↦ has_page-set_other words i word p other ∙ known.inside p after before (omega arith)
  ];
  below = λ p before. elim (cases_eq (p / 64) i) [
    | inl same ↦
        has_page-set_same words i word p fits small same ∙ below (p % 64) (omega arith) ∙ was-word words i p small same ∙ known.below p before
    | inr other ↦ has_page-set_other words i word p other ∙ known.below p before
  ];
  above = λ p after. elim (cases_eq (p / 64) i) [
    | inl same ↦
        has_page-set_same words i word p fits small same ∙ above (p % 64) (omega arith) (omega arith) ∙ was-word words i p small same ∙ known.above p after
    | inr other ↦ has_page-set_other words i word p other ∙ known.above p after
  ];
  ahead = λ p after. has_page-set_other words i word p (λ e. omega arith) ∙ known.ahead p (omega arith);
}

-- the word i with the pages from `end` on cut off
pub cut-page : (words : List ℕ) (end i mask p : ℕ) → i < 8
    → ((k : ℕ) → 0 ≤ k → k < min (end - 64 * i) 64 → has_bit mask k ≡ true)
    → 64 * i ≤ p → p < end → p < 64 * i + 64 → has_bit (bit_and (get_or words i 0) mask) (p % 64) ≡ has_page words p
cut-page words end i mask p small inside above below near =
    has_bit-and _ _ (p % 64) ∙ and_one _ _ (inside (p % 64) (omega arith) (omega arith)) ∙ was-word words i p small (omega arith)

pub cut-one : (words : List ℕ) (end i mask k : ℕ) → i < 8 → k < 64
    → ((k : ℕ) → min (end - 64 * i) 64 ≤ k → has_bit mask k ≡ false)
    → has_bit (bit_and (get_or words i 0) mask) k ≡ true → (64 * i + k < end) × (has_page words (64 * i + k) ≡ true)
cut-one words end i mask k small place above one =
    let both : (has_bit (get_or words i 0) k ≡ true) × (has_bit mask k ≡ true) = and_parts _ _ (sym (has_bit-and _ _ k) ∙ one) in (
      elim (cases_lt (64 * i + k) end) [
        | inl within ↦ within
        | inr past ↦ absurd (true≢false (sym both.1 ∙ above k (omega arith)))
      ],
      has_page-word words i k small place ∙ both.0,
    )

-- a word without the pages of another
pub without-more : (words first other : List ℕ) (i : ℕ) → i < length words → i < 8 → get_or other i 0 < 2 ^ 64
    → ((p : ℕ) → p < 64 * i → has_page words p ≡ (has_page first p && not (has_page other p)))
    → ((p : ℕ) → 64 * i ≤ p → has_page words p ≡ has_page first p)
    → (p : ℕ) → p < 64 * (i + 1) → has_page (set words i (bit_and (get_or words i 0) (bit_not w64 (get_or other i 0)))) p ≡ (has_page first p && not (has_page other p))
without-more words first other i fits small word done ahead p below = elim (cases_eq (p / 64) i) [
  | inl same ↦
      has_page-set_same words i _ p fits small same
      ∙ has_bit-and _ _ (p % 64)
      ∙ ap₂ ◌&&◌ (was-word words i p small same ∙ ahead p (omega arith))
      (has_bit-not _ (p % 64) word (omega arith) ∙ ap not (was-word other i p small same))
  | inr more ↦ has_page-set_other words i _ p more ∙ done p (omega arith)
]

pub without-ahead : (words first : List ℕ) (i word : ℕ)
    → ((p : ℕ) → 64 * i ≤ p → has_page words p ≡ has_page first p)
    → (p : ℕ) → 64 * (i + 1) ≤ p → has_page (set words i word) p ≡ has_page first p
without-ahead words first i word ahead p after = has_page-set_other words i word p (λ e. omega arith) ∙ ahead p (omega arith)

-- no map has a page past the chunk
pub without-all : (words first other : List ℕ)
    → ((p : ℕ) → p < 512 → has_page words p ≡ (has_page first p && not (has_page other p)))
    → (p : ℕ) → has_page words p ≡ (has_page first p && not (has_page other p))
without-all words first other below p = elim (cases_lt p 512) [
  | inl within ↦ below p within
  | inr past ↦ has_page-past words p past ∙ sym (and_left _ _ (has_page-past first p past))
]

-- the pages that end with the highest page, cut to the limit
pub top-run : (words : List ℕ) (map : ℕ → Bool) (top start limit : ℕ) → ((p : ℕ) → has_page words p ≡ map p) → 1 ≤ limit
    → top < 512 → has_page words top ≡ true → ((p : ℕ) → top < p → p < 512 → has_page words p ≡ false)
    → start ≤ top → ((p : ℕ) → start ≤ p → p < top → has_page words p ≡ true) → (0 < start → has_page words (start - 1) ≡ false)
    → IsTopRun map limit (top + 1 - min (top + 1 - start) limit) (min (top + 1 - start) limit)
top-run words map top start limit same some within highest above order run stops = record {
  some = omega arith;
  limited = omega arith;
  run = record {
    within = omega arith;
    each = λ p after before. sym (same p) ∙ elim (cases_lt p top) [
      | inl below ↦ run p (omega arith) below
      | inr at ↦ let e : top ≡ p = omega arith in subst (λ (x : ℕ). has_page words x ≡ true) e highest
    ];
  };
  highest = λ p after. sym (same p) ∙ elim (cases_lt p 512) [
    | inl inside ↦ above p (omega arith) inside
    | inr past ↦ has_page-past words p past
  ];
  whole = λ less more.
      let e : start - 1 ≡ top + 1 - min (top + 1 - start) limit - 1 = omega arith in
      sym (same _) ∙ subst (λ (x : ℕ). has_page words x ≡ false) e (stops (omega arith));
}

pub none-left : (words : List ℕ) (map : ℕ → Bool) → ((p : ℕ) → has_page words p ≡ map p) → ((p : ℕ) → p < 512 → has_page words p ≡ false) → IsEmpty map
none-left words map same none p = sym (same p) ∙ elim (cases_lt p 512) [
  | inl inside ↦ none p inside
  | inr past ↦ has_page-past words p past
]

pub if-none : {T : Type 0} (r : Option T) (P : Type 0) → P → IfNone r P
if-none None P h = h
if-none (Some x) P h = tt

-- a test that passes only from `low` on, below `high`, counts what another test counts there
pub count-window : (g f : ℕ → Bool) (base low high : ℕ) → low ≤ high → high ≤ 64
    → ((k : ℕ) → k < low → g k ≡ false) → ((k : ℕ) → low ≤ k → k < high → g k ≡ f (base + k)) → ((k : ℕ) → high ≤ k → k < 64 → g k ≡ false)
    → count_below 64 g ≡ count_run (base + low) (high - low) f
count-window g f base low high order fits below inside above =
    let parts : 64 ≡ low + (64 - low) = omega arith in
    let rest : 64 - low ≡ (high - low) + (64 - high) = omega arith in
    let front = count_below-split low (64 - low) g in
    let back = count_run-split low (high - low) (64 - high) g in
    let none_below : count_below low g ≡ 0 = count_below-none low g below in
    let none_above : count_run (low + (high - low)) (64 - high) g ≡ 0 =
    count_below-none (64 - high) (λ k. g (low + (high - low) + k)) (λ k less. above (low + (high - low) + k) (omega arith) (omega arith)) in
    let same : count_run low (high - low) g ≡ count_run (base + low) (high - low) f =
    count_below-same (high - low) (λ k. g (low + k)) (λ k. f (base + low + k))
    (λ k less. inside (low + k) (omega arith) (omega arith) ∙ ap f (omega arith)) in
    ap (λ (n : ℕ). count_below n g) parts ∙ front ∙ ap (λ (n : ℕ). count_below low g + count_run low n g) rest ∙ omega arith

-- the ones of word i between the run's ends count the run's pages in that word
pub count-word : (words : List ℕ) (page n i mask : ℕ) → i < 8 → page / 64 ≤ i → 64 * i < page + n → get_or words i 0 < 2 ^ 64
    → ((k : ℕ) → page - 64 * i ≤ k → k < min (page + n - 64 * i) 64 → has_bit mask k ≡ true)
    → ((k : ℕ) → k < page - 64 * i → has_bit mask k ≡ false)
    → ((k : ℕ) → min (page + n - 64 * i) 64 ≤ k → has_bit mask k ≡ false)
    → count_run page (min (64 * i) (page + n) - page) (has_page words) + ones (bit_and (get_or words i 0) mask)
    ≡ count_run page (min (64 * (i + 1)) (page + n) - page) (has_page words)
count-word words page n i mask small from until fits inside below above =
    let word = get_or words i 0 in
    let low = page - 64 * i in
    let high = min (page + n - 64 * i) 64 in
    let done = min (64 * i) (page + n) - page in
    let bits : ones (bit_and word mask) ≡ count_below 64 (has_bit (bit_and word mask)) =
    ones-below 64 (bit_and word mask) (omega (arith, and_le_l word mask)) in
    let window : count_below 64 (has_bit (bit_and word mask)) ≡ count_run (64 * i + low) (high - low) (has_page words) =
    count-window (has_bit (bit_and word mask)) (has_page words) (64 * i) low high (omega arith) (omega arith)
    (λ k less. has_bit-and word mask k ∙ and_right _ _ (below k less))
    (λ k more less. has_bit-and word mask k ∙ and_one _ _ (inside k more less) ∙ sym (has_page-word words i k small (omega arith)))
    (λ k more less. has_bit-and word mask k ∙ and_right _ _ (above k more)) in
    let border : page + done ≡ 64 * i + low = omega arith in
    let all : min (64 * (i + 1)) (page + n) - page ≡ done + (high - low) = omega arith in
    let joined = count_run-split page done (high - low) (has_page words) in
    let moved : count_run (page + done) (high - low) (has_page words) ≡ count_run (64 * i + low) (high - low) (has_page words) =
    ap (λ (x : ℕ). count_run x (high - low) (has_page words)) border in
    let whole : count_run page (min (64 * (i + 1)) (page + n) - page) (has_page words) ≡ count_run page (done + (high - low)) (has_page words) =
    ap (λ (x : ℕ). count_run page x (has_page words)) all in
    omega arith
