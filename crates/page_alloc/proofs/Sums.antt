-- The levels of sums over the chunks of a region.
use Rattle.std.proofs.Common.{◌≡◌, ℕ, ◌+◌, ◌-◌, ◌*◌, ◌/◌, ◌%◌, ◌^◌, ◌<◌, ◌≤◌, Bool, true, false, List, length, get_or, Option, Some, None, IfSome, sym, ◌∙◌, ap, arith, ◌⊎◌, inl, inr}
use Rattle.std.proofs.lemmas.Bool.{cases_lt, cases_Bool, false≢true}
use Rattle.size_classes.specs.declared.TheConstants.{MAX_CHUNKS}
use Rattle.page_bitmap.specs.declared.chunk.Chunk.{Chunk}
use Rattle.page_bitmap.specs.Runs.{IsRun, HasNoRun, IsFirstRun, IsFrontRun, IsBackRun, IsLongestRun, SetsRun}
use Rattle.page_bitmap.specs.Pages.{is_free}
use Rattle.page_summary.specs.declared.sum.Sum.{Sum}
use Rattle.page_summary.specs.declared.search.Place.{Place}
use Rattle.page_summary.specs.declared.search.Place.TheVariants.{Page, Entry, Nowhere}
use Rattle.page_summary.specs.Runs.{IsSumOf, Fits}
use Rattle.page_summary.specs.Sums.{start_of, max_of, end_of, AreSums, AreSumsBut}
use Rattle.page_summary.specs.SumLaws.{sum-alike}
use Rattle.page_summary.specs.Places.{IsInside, IsPlaced, HasBlock}
use Rattle.page_alloc.specs.declared.levels.Levels.{Levels}
use Rattle.page_alloc.specs.Levels.{AreRight, AreRightBut}
use Rattle.page_alloc.specs.Region.{free_in, IsRunIn, HasNoRunIn, IsFirstRunIn, IsLongestRunIn}
use Rattle.page_alloc.proofs.Keeping.{set-outside}
use Rattle.page_alloc.proofs.Walks.{over-at, over-past, behind}

run-in : {map : ℕ → Bool} {page n : ℕ} → IsRun map page n → IsRunIn map 512 page n
run-in run = record { inside = run.within; each = run.each }

in-run : {map : ℕ → Bool} {page n : ℕ} → IsRunIn map 512 page n → IsRun map page n
in-run run = record { within = run.inside; each = run.each }

-- what a chunk answers is the sum of its pages
pub chunk-sum : {map : ℕ → Bool} {s m e : ℕ} → IsFrontRun map s → IsLongestRun map m → IsBackRun map e → IsSumOf map 512 s m e
chunk-sum {map} {s} {m} {e} front longest back = record {
  front = run-in front.run;
  front_stops = front.stops;
  longest = (longest.run.0, run-in longest.run.1);
  most = λ page n run. longest.longest page n (in-run run);
  back = run-in back.run;
  back_stops = λ lt. (let at : 512 - e - 1 ≡ 511 - e = omega arith in ap map at ∙ back.stops lt);
}

pub fits-more : {a b s m e : ℕ} → a < b → Fits a s m e → Fits b s m e
fits-more lt fits = (
    let most = fits.max_within in
    record { start_within = fits.start_within; end_within = fits.end_within; max_within = omega arith; whole = λ is. absurd (omega arith) })

-- the pages of a chunk of the region have the chunk's sum
pub chunk-entry : (chunks : List Chunk) (k : ℕ) (d : Chunk) (s m e : ℕ) → k < length chunks → IsSumOf (is_free (get_or chunks k d)) 512 s m e
    → IsSumOf (λ p. free_in chunks (512 * k + p)) 512 s m e
chunk-entry chunks k d s m e lt sum = sum-alike (λ p. free_in chunks (512 * k + p)) (is_free (get_or chunks k d)) 512 s m e (λ p low. over-at is_free chunks k p d lt low) sum

-- no pages have a sum of nothing
sum-empty : (map : ℕ → Bool) (pages : ℕ) → ((p : ℕ) → p < pages → map p ≡ false) → IsSumOf map pages 0 0 0
sum-empty map pages empty = record {
  front = record { inside = omega arith; each = λ p low high. absurd (omega arith) };
  front_stops = λ lt. empty 0 lt;
  longest = (0, record { inside = omega arith; each = λ p low high. absurd (omega arith) });
  most = λ page n run. elim (cases_lt 0 n) [
    | inr none ↦ none
    | inl some ↦ (
        let inside = run.inside in
        let is = run.each page (omega arith) (omega arith) in
        let not_there = empty page (omega arith) in
        absurd (false≢true (sym not_there ∙ is)))
  ];
  back = record { inside = omega arith; each = λ p low high. absurd (omega arith) };
  back_stops = λ lt. empty (pages - 0 - 1) (omega arith);
}

-- entries that cover no page of the region are right where they say nothing
pub empty-entries : (chunks : List Chunk) (pages high : ℕ) (level : List Sum) (nothing : Sum) → start_of nothing ≡ 0 → max_of nothing ≡ 0 → end_of nothing ≡ 0
    → ((k : ℕ) → high ≤ k → 512 * length chunks ≤ pages * k) → ((k : ℕ) (d : Sum) → k < length level → get_or level k d ≡ nothing)
    → AreSumsBut (free_in chunks) pages level 0 high
empty-entries chunks pages high level nothing start most end past each k d lt (inl below) = absurd (omega arith)
empty-entries chunks pages high level nothing start most end past each k d lt (inr above) =
    let beyond = past k above in
    let is = each k d lt in
    rw (is, start, most, end) (sum-empty (λ p. free_in chunks (pages * k + p)) pages (λ p low. over-past is_free chunks (pages * k + p) (omega arith)))

-- a page that is free is one of the region
inside-region : (chunks : List Chunk) (p : ℕ) → free_in chunks p ≡ true → p < 512 * length chunks
inside-region chunks p is =
    elim (cases_lt p (512 * length chunks)) [
      | inl lt ↦ lt
      | inr past ↦ absurd (let off = over-past is_free chunks p past in false≢true (sym off ∙ is))
    ]

-- the entry that has a run has its block of eight entries in the level below
pub has-block : (chunks : List Chunk) (pages n count : ℕ) (place : Place) → 1 ≤ n → ((k : ℕ) → pages * k < 512 * length chunks → 8 * k + 8 ≤ count)
    → IsPlaced (free_in chunks) (2 ^ 21) pages n place → HasBlock count place
has-block chunks pages n count (Page page) some fits placed = tt
has-block chunks pages n count Nowhere some fits placed = tt
has-block chunks pages n count (Entry k) some fits placed =
    let lt = inside-region chunks (pages * k + placed.run.0) (placed.run.1.each placed.run.0 (omega arith) (omega arith)) in
    fits k (omega arith)

-- the entry at the top has a run of so many pages
pub top-inside : (free : ℕ → Bool) (s m e n : ℕ) → IsSumOf free (2 ^ 21) s m e → n ≤ m → IsInside free (2 ^ 21) (8 * 2 ^ 18 * 0) (8 * 2 ^ 18) n
top-inside free s m e n sum le =
    let inside = sum.longest.1.inside in
    record {
      run = (
        sum.longest.0,
        record {
          inside = omega arith;
          each = λ p low high. (let here : 8 * 2 ^ 18 * 0 + p ≡ p = omega arith in ap free here ∙ sum.longest.1.each p low (omega arith));
        },
      );
      none = λ q lt run. absurd (omega arith);
    }

pub top-none : (free : ℕ → Bool) (s m e n region : ℕ) → IsSumOf free (2 ^ 21) s m e → m < n → region ≤ 2 ^ 21 → HasNoRunIn free region n
top-none free s m e n region sum lt few page run =
    let inside = run.inside in
    let most = sum.most page n (record { inside = omega arith; each = run.each }) in
    omega arith

-- runs of all pages that a sum covers are runs of the region
run-in_region : (chunks : List Chunk) (page n : ℕ) → 1 ≤ n → IsRunIn (free_in chunks) (2 ^ 21) page n → IsRunIn (free_in chunks) (512 * length chunks) page n
run-in_region chunks page n some run =
    let last = inside-region chunks (page + n - 1) (run.each (page + n - 1) (omega arith) (omega arith)) in
    record { inside = omega arith; each = run.each }

run-of_region : (chunks : List Chunk) (page n : ℕ) → length chunks ≤ MAX_CHUNKS → IsRunIn (free_in chunks) (512 * length chunks) page n → IsRunIn (free_in chunks) (2 ^ 21) page n
run-of_region chunks page n few run = (let inside = run.inside in record { inside = omega arith; each = run.each })

pub first-in_region : (chunks : List Chunk) (page n : ℕ) → length chunks ≤ MAX_CHUNKS → 1 ≤ n → IsFirstRunIn (free_in chunks) (2 ^ 21) n page
    → IsFirstRunIn (free_in chunks) (512 * length chunks) n page
first-in_region chunks page n few some first = record {
  here = run-in_region chunks page n some first.here;
  least = λ q less run. first.least q less (run-of_region chunks q n few run);
}

pub none-in_region : (chunks : List Chunk) (n : ℕ) → length chunks ≤ MAX_CHUNKS → HasNoRunIn (free_in chunks) (2 ^ 21) n → HasNoRunIn (free_in chunks) (512 * length chunks) n
none-in_region chunks n few none page run = none page (run-of_region chunks page n few run)

pub longest-in_region : (chunks : List Chunk) (s m e : ℕ) → length chunks ≤ MAX_CHUNKS → IsSumOf (free_in chunks) (2 ^ 21) s m e → IsLongestRunIn (free_in chunks) (512 * length chunks) m
longest-in_region chunks s m e few sum = record {
  here = elim (cases_lt 0 m) [
    | inl some ↦ (sum.longest.0, run-in_region chunks sum.longest.0 m (omega arith) sum.longest.1)
    | inr none ↦ (0, record { inside = omega arith; each = λ p low high. absurd (omega arith) })
  ];
  longest = λ page run. (let most = sum.most page (m + 1) (run-of_region chunks page (m + 1) few run) in omega arith);
}

-- the first run of the chunk that has the first one
pub chunk-first : (chunks : List Chunk) (k n page : ℕ) (d : Chunk) → k < length chunks → length chunks ≤ MAX_CHUNKS → IsInside (free_in chunks) (2 ^ 21) (512 * k) 512 n
    → IsFirstRun (is_free (get_or chunks k d)) n 0 page → IsFirstRunIn (free_in chunks) (2 ^ 21) n (512 * k + page)
chunk-first chunks k n page d lt few inside first =
    let within = first.run.within in
    record {
      here = record {
        inside = omega arith;
        each = λ p low high. behind (free_in chunks) (512 * k) p true (omega arith)
            (over-at is_free chunks k (p - 512 * k) d lt (omega arith) ∙ first.run.each (p - 512 * k) (omega arith) (omega arith));
      };
      least = λ q less run. elim (cases_lt q (512 * k)) [
        | inl before ↦ inside.none q before run
        | inr after ↦ first.least (q - 512 * k) (omega arith) (omega arith) (record {
          within = omega arith;
          each = λ p low high. sym (over-at is_free chunks k p d lt (omega arith)) ∙ run.each (512 * k + p) (omega arith) (omega arith);
        })
      ];
    }

pub chunk-some : (chunks : List Chunk) (k n : ℕ) (d : Chunk) → k < length chunks → IsInside (free_in chunks) (2 ^ 21) (512 * k) 512 n
    → HasNoRun (is_free (get_or chunks k d)) n 0 → ⊥
chunk-some chunks k n d lt inside none =
    let within = inside.run.1.inside in
    none inside.run.0 (omega arith) (record {
      within = within;
      each = λ p low high. sym (over-at is_free chunks k p d lt (omega arith)) ∙ inside.run.1.each p low high;
    })

-- sums of pages that stay as they are stay right
sums-but : (old new : ℕ → Bool) (pages low high page n : ℕ) (level : List Sum) → ((p : ℕ) → (p < page) ⊎ (page + n ≤ p) → new p ≡ old p)
    → ((k p : ℕ) → (k < low) ⊎ (high ≤ k) → p < pages → (pages * k + p < page) ⊎ (page + n ≤ pages * k + p))
    → AreSums old pages level → AreSumsBut new pages level low high
sums-but old new pages low high page n level same away sums k none lt out =
    sum-alike (λ p. new (pages * k + p)) (λ p. old (pages * k + p)) pages _ _ _ (λ p small. same (pages * k + p) (away k p out small)) (sums k none lt)

-- a change inside a run leaves the sums of the other chunks right
pub right-outside : (old new : ℕ → Bool) (chunks page n : ℕ) (levels : Levels) → 1 ≤ n → ((p : ℕ) → (p < page) ⊎ (page + n ≤ p) → new p ≡ old p) → AreRight old chunks levels
    → AreRightBut new chunks levels (page / 512) ((page + n - 1) / 512)
right-outside old new chunks page n levels some same right = record {
  cut = right.cut;
  sums_1 = sums-but old new (2 ^ 18) _ _ page n _ same (λ k p out small. elim out [ inl below ↦ inl (omega arith) | inr above ↦ inr (omega arith) ]) right.sums_1;
  sums_2 = sums-but old new (2 ^ 15) _ _ page n _ same (λ k p out small. elim out [ inl below ↦ inl (omega arith) | inr above ↦ inr (omega arith) ]) right.sums_2;
  sums_3 = sums-but old new (2 ^ 12) _ _ page n _ same (λ k p out small. elim out [ inl below ↦ inl (omega arith) | inr above ↦ inr (omega arith) ]) right.sums_3;
  sums_4 = sums-but old new (2 ^ 9) _ _ page n _ same (λ k p out small. elim out [ inl below ↦ inl (omega arith) | inr above ↦ inr (omega arith) ]) right.sums_4;
}

-- a change inside a block is one inside a chunk
pub right-block : (old new : ℕ → Bool) (chunks page : ℕ) (levels : Levels) → page % 64 ≡ 0 → ((p : ℕ) → (p < page) ⊎ (page + 64 ≤ p) → new p ≡ old p) → AreRight old chunks levels
    → AreRightBut new chunks levels (page / 512) (page / 512)
right-block old new chunks page levels whole same right =
    let last : (page + 64 - 1) / 512 ≡ page / 512 = omega arith in
    rw last at (right-outside old new chunks page 64 levels (omega arith) same right)

pub right-but : (old new : ℕ → Bool) (chunks page n : ℕ) (value : Bool) (levels : Levels) → 1 ≤ n → SetsRun old new page n value → AreRight old chunks levels
    → AreRightBut new chunks levels (page / 512) ((page + n - 1) / 512)
right-but old new chunks page n value levels some sets right = right-outside old new chunks page n levels some (λ p out. set-outside sets p out) right

-- no page below the search is free after a take: where the search rises, it was at the run's first page, or the run is of
-- one page, and then the first free one
pub search-after : (old new : ℕ → Bool) (region page n search search' : ℕ) → 1 ≤ n → page + n ≤ region → SetsRun old new page n false → ((p : ℕ) → p < search → old p ≡ false)
    → IsFirstRunIn old region n page → ((search' ≡ page + n) × ((n ≡ 1) ⊎ (page ≡ search))) ⊎ (search' ≡ search)
    → (p : ℕ) → p < search' → new p ≡ false
search-after old new region page n search search' some fits sets empty first how p lt =
    elim (cases_lt p page) [
      | inl before ↦ sets.below p before ∙ elim how [
        | inr same ↦ empty p (omega arith)
        | inl rises ↦ elim rises.1 [
          | inr here ↦ empty p (omega arith)
          | inl one ↦ one-first p before one
        ]
      ]
      | inr from ↦ elim (cases_lt p (page + n)) [
        | inl to ↦ sets.inside p from to
        | inr past ↦ sets.above p past ∙ elim how [
          | inr same ↦ empty p (omega arith)
          | inl rises ↦ (let e = rises.0 in absurd (omega arith))
        ]
      ]
    ]
  where
    one-first : (p : ℕ) → p < page → n ≡ 1 → old p ≡ false
    one-first p before one =
        elim (cases_Bool (old p)) [
          | inr off ↦ off
          | inl on ↦ absurd (first.least p before (record {
            inside = omega arith;
            each = λ q low high. (let here : q ≡ p = omega arith in rw here on);
          }))
        ]

-- the chunk that has a run is one of the region
pub entry-chunk : (chunks : List Chunk) (k n : ℕ) → 1 ≤ n → IsInside (free_in chunks) (2 ^ 21) (512 * k) 512 n → k < length chunks
entry-chunk chunks k n some inside =
    let lt = inside-region chunks (512 * k + inside.run.0) (inside.run.1.each inside.run.0 (omega arith) (omega arith)) in
    omega arith

pub if-first : (chunks : List Chunk) (n : ℕ) (found : Option ℕ) → length chunks ≤ MAX_CHUNKS → 1 ≤ n → IfSome found (IsFirstRunIn (free_in chunks) (2 ^ 21) n)
    → IfSome found (IsFirstRunIn (free_in chunks) (512 * length chunks) n)
if-first chunks n None few some first = tt
if-first chunks n (Some page) few some first = first-in_region chunks page n few some first

-- levels are right for each map of the same free pages
pub right-same : (old new : ℕ → Bool) (chunks : ℕ) (levels : Levels) → ((p : ℕ) → new p ≡ old p) → AreRight old chunks levels → AreRight new chunks levels
right-same old new chunks levels same right = record {
  cut = right.cut;
  top = sum-alike new old _ _ _ _ (λ p lt. same p) right.top;
  sums_1 = λ k none lt. sum-alike (λ p. new (2 ^ 18 * k + p)) (λ p. old (2 ^ 18 * k + p)) _ _ _ _ (λ p low. same _) (right.sums_1 k none lt);
  sums_2 = λ k none lt. sum-alike (λ p. new (2 ^ 15 * k + p)) (λ p. old (2 ^ 15 * k + p)) _ _ _ _ (λ p low. same _) (right.sums_2 k none lt);
  sums_3 = λ k none lt. sum-alike (λ p. new (2 ^ 12 * k + p)) (λ p. old (2 ^ 12 * k + p)) _ _ _ _ (λ p low. same _) (right.sums_3 k none lt);
  sums_4 = λ k none lt. sum-alike (λ p. new (2 ^ 9 * k + p)) (λ p. old (2 ^ 9 * k + p)) _ _ _ _ (λ p low. same _) (right.sums_4 k none lt);
}
