-- A search over the words of a map: what one more word tells.
use Rattle.std.proofs.Common.{◌≡◌, ℕ, ◌+◌, ◌-◌, ◌*◌, ◌%◌, ◌^◌, ◌<◌, ◌≤◌, max, List, get_or, bit_and, Bool, true, false, sym, ◌∙◌, arith, subst, inl, inr}
use Rattle.std.proofs.lemmas.Bool.{cases_lt, true≢false, and_parts, and_from, le-leb, lt-leb, leb-true, and_left, and_right}
use Rattle.page_bitmap.specs.Words.{has_bit, has_page}
use Rattle.page_bitmap.proofs.Bits.{has_bit-and, has_bit-high_below, has_bit-high_inside, and_one, one_and}
use Rattle.page_bitmap.proofs.Maps.{has_page-word}
use Rattle.page_bitmap.specs.Runs.{IsRun, IsFirstRun, HasNoRun, IsFrontRun, IsBackRun, IsLongestRun}
use Rattle.page_bitmap.specs.WordRuns.{IsBitRun, IsFirstBitRun, IsLowOnes, IsHighOnes}
use Rattle.page_bitmap.specs.Scans.{from_on, IsWordOf, IsSearched, IsMeasured}

-- the word has the page's bit
pub word-page : (map : ℕ → Bool) (base word p : ℕ) → IsWordOf map base word → base ≤ p → p < base + 64 → map p ≡ has_bit word (p - base)
word-page map base word p of above below =
    let same : base + (p - base) ≡ p = omega arith in
    subst (λ (x : ℕ). map x ≡ has_bit word (p - base)) same (of.each (p - base) (omega arith))

-- a run of ones of the word is a run of pages
pub run-from_bits : (map : ℕ → Bool) (base word k n : ℕ) → IsWordOf map base word → base + 64 ≤ 512 → IsBitRun word k n → IsRun map (base + k) n
run-from_bits map base word k n of fits run = record {
  within = omega (arith, run.within);
  each = λ p above below.
      word-page map base word p of (omega arith) (omega (arith, run.within)) ∙ run.each (p - base) (omega arith) (omega arith);
}

-- and a run of pages inside the word is a run of its ones
pub bits-from_run : (map : ℕ → Bool) (base word page n : ℕ) → IsWordOf map base word → IsRun map page n → base ≤ page → page + n ≤ base + 64 → IsBitRun word (page - base) n
bits-from_run map base word page n of run above below = record {
  within = omega arith;
  each = λ k after before.
      sym (of.each k (omega arith)) ∙ run.each (base + k) (omega arith) (omega arith);
}

-- a run ends before a page that the map hasn't
pub run-ends : (map : ℕ → Bool) (page n p : ℕ) → IsRun map page n → page ≤ p → map p ≡ false → page + n ≤ p
run-ends map page n p run above none = elim (cases_lt p (page + n)) [
  | inl inside ↦ absurd (true≢false (sym (run.each p above inside) ∙ none))
  | inr outside ↦ outside
]

-- the pages that reach the border go on through the word's lowest ones
reaches-low : (map : ℕ → Bool) (base word begin low : ℕ) → IsWordOf map base word → IsLowOnes word low
    → ((p : ℕ) → begin ≤ p → p < base → map p ≡ true) → (p : ℕ) → begin ≤ p → p < base + low → map p ≡ true
reaches-low map base word begin low of ones reaches p after before = elim (cases_lt p base) [
  | inl below ↦ reaches p after below
  | inr above ↦
      word-page map base word p of above (omega (arith, ones.within)) ∙ ones.ones (p - base) (omega arith)
]

-- the page that ends the word's lowest ones
low-end : (map : ℕ → Bool) (base word low : ℕ) → IsWordOf map base word → IsLowOnes word low → low < 64 → map (base + low) ≡ false
low-end map base word low of ones short = of.each low short ∙ ones.stops short

-- the pages of the word's highest ones
high-reaches : (map : ℕ → Bool) (base word high : ℕ) → IsWordOf map base word → IsHighOnes word high → (p : ℕ) → base + 64 - high ≤ p → p < base + 64 → map p ≡ true
high-reaches map base word high of ones p after before =
    word-page map base word p of (omega (arith, ones.within)) before ∙ ones.ones (p - base) (omega (arith, ones.within)) (omega arith)

-- a word with a place that is no one has fewer than 64 ones at its high end
high-short : (word low high : ℕ) → IsLowOnes word low → IsHighOnes word high → low < 64 → high < 64
high-short word low high ones tops short = elim (cases_lt high 64) [
  | inl less ↦ less
  | inr whole ↦ absurd (true≢false (sym (tops.ones low (omega arith) short) ∙ ones.stops short))
]

-- the page below the word's highest ones
high-end : (map : ℕ → Bool) (base word high : ℕ) → IsWordOf map base word → IsHighOnes word high → high < 64 → map (base + 64 - high - 1) ≡ false
high-end map base word high of ones short =
    let same : base + (63 - high) ≡ base + 64 - high - 1 = omega arith in
    subst (λ (x : ℕ). map x ≡ false) same (of.each (63 - high) (omega arith) ∙ ones.stops short)

-- the run that reaches the word is long enough
pub searched-run : (map : ℕ → Bool) (n base begin word low : ℕ) → IsWordOf map base word → IsSearched map n base begin → IsLowOnes word low
    → base + 64 ≤ 512 → begin + n ≤ base + low → IsFirstRun map n 0 begin
searched-run map n base begin word low of known ones fits enough = record {
  above = omega arith;
  run = record {
    within = omega (arith, ones.within);
    each = λ p above below. reaches-low map base word begin low of ones known.reaches p above (omega arith);
  };
  least = λ other above below. known.passed other below;
}

-- the whole word goes on with that run
pub searched-whole : (map : ℕ → Bool) (n base begin word low : ℕ) → IsWordOf map base word → IsSearched map n base begin → IsLowOnes word low
    → base + low < begin + n → low ≡ 64 → IsSearched map n (base + 64) begin
searched-whole map n base begin word low of known ones short whole = record {
  order = omega (arith, known.order);
  reaches = λ p above below. reaches-low map base word begin low of ones known.reaches p above (omega arith);
  passed = known.passed;
  short = omega arith;
}

-- no run of n pages begins at or below the page that ends the word's lowest ones
not-yet : (map : ℕ → Bool) (n base begin word low other : ℕ) → IsWordOf map base word → IsSearched map n base begin → IsLowOnes word low
    → base + low < begin + n → low < 64 → other ≤ base + low → ¬ IsRun map other n
not-yet map n base begin word low other of known ones short ends below run = elim (cases_lt other begin) [
  | inl before ↦ known.passed other before run
  | inr after ↦
      let end : other + n ≤ base + low = run-ends map other n (base + low) run below (low-end map base word low of ones ends) in
      omega arith
]

-- a run of n ones stands inside the word
pub searched-place : (map : ℕ → Bool) (n base begin word low place : ℕ) → IsWordOf map base word → IsSearched map n base begin → IsLowOnes word low
    → base + 64 ≤ 512 → base + low < begin + n → low < 64 → IsFirstBitRun word n place → IsFirstRun map n 0 (base + place)
searched-place map n base begin word low place of known ones fits short ends first = record {
  above = omega arith;
  run = run-from_bits map base word place n of fits first.run;
  least = λ other above below run. elim (cases_lt (base + low) other) [
    | inl after ↦
        first.least (other - base) (omega arith)
        (bits-from_run map base word other n of run (omega arith) (omega (arith, first.run.within)))
    | inr before ↦ not-yet map n base begin word low other of known ones short ends before run
  ];
}

-- none does, and the search goes on with the word's highest ones
pub searched-on : (map : ℕ → Bool) (n base begin word low high : ℕ) → IsWordOf map base word → IsSearched map n base begin → IsLowOnes word low → IsHighOnes word high
    → 1 ≤ n → base + low < begin + n → low < 64 → ((place : ℕ) → ¬ IsBitRun word place n) → IsSearched map n (base + 64) (base + 64 - high)
searched-on map n base begin word low high of known ones tops some short ends none =
    let less : high < 64 = high-short word low high ones tops ends in
    record {
      order = omega arith;
      reaches = high-reaches map base word high of tops;
      passed = λ page below run. elim (cases_lt (base + low) page) [
        | inl after ↦
            let end : page + n ≤ base + 64 - high - 1 =
            run-ends map page n (base + 64 - high - 1) run (omega arith) (high-end map base word high of tops less) in
            none (page - base) (bits-from_run map base word page n of run (omega arith) (omega arith))
        | inr before ↦ not-yet map n base begin word low page of known ones short ends before run
      ];
      short = elim (cases_lt high n) [
        | inl fewer ↦ omega arith
        | inr enough ↦ absurd (none (64 - high) (record {
          within = omega arith;
          each = λ k above below. tops.ones k above (omega arith);
        }))
      ];
    }

-- a run that goes past the border begins no lower than the pages that reach it
run-begins : (map : ℕ → Bool) (border begin longest page m : ℕ) → IsMeasured map border begin longest → IsRun map page m → border < page + m → begin ≤ page
run-begins map border begin longest page m known run past = elim (cases_lt page begin) [
  | inl before ↦
      absurd (true≢false (sym (run.each (begin - 1) (omega arith) (omega (arith, known.order))) ∙ known.closed (omega arith)))
  | inr after ↦ after
]

-- the pages that reach the border, with the word's lowest ones
low-run : (map : ℕ → Bool) (base word begin low longest : ℕ) → IsWordOf map base word → IsLowOnes word low → IsMeasured map base begin longest → base + 64 ≤ 512
    → (page : ℕ) × IsRun map page (max longest (base + low - begin))
low-run map base word begin low longest of ones known fits = elim (cases_lt longest (base + low - begin)) [
  | inl longer ↦ (
    begin,
    record {
      within = omega (arith, ones.within, known.order);
      each = λ p above below. reaches-low map base word begin low of ones known.reaches p above (omega arith);
    },
  )
  | inr short ↦
      let same : max longest (base + low - begin) ≡ longest = omega arith in
      rw same known.run
]

-- the whole word goes on with that run
pub measured-whole : (map : ℕ → Bool) (base begin longest word low : ℕ) → IsWordOf map base word → IsMeasured map base begin longest → IsLowOnes word low
    → base + 64 ≤ 512 → low ≡ 64 → IsMeasured map (base + 64) begin (max longest (base + low - begin))
measured-whole map base begin longest word low of known ones fits whole = record {
  order = omega (arith, known.order);
  reaches = λ p above below. reaches-low map base word begin low of ones known.reaches p above (omega arith);
  closed = known.closed;
  run = low-run map base word begin low longest of ones known fits;
  longest_of = λ page m run ends. elim (cases_lt base (page + m)) [
    | inl past ↦ let after = run-begins map base begin longest page m known run past in omega arith
    | inr before ↦ let h = known.longest_of page m run before in omega arith
  ];
}

-- the word has a page that the map hasn't: its own longest run counts, and its highest ones reach its end
pub measured-on : (map : ℕ → Bool) (base begin longest word low high found : ℕ) → IsWordOf map base word → IsMeasured map base begin longest → IsLowOnes word low → IsHighOnes word high
    → base + 64 ≤ 512 → low < 64 → max longest (base + low - begin) ≤ found → ((place n : ℕ) → IsBitRun word place n → n ≤ found)
    → (max longest (base + low - begin) < found → (place : ℕ) × IsBitRun word place found)
    → IsMeasured map (base + 64) (base + 64 - high) found
measured-on map base begin longest word low high found of known ones tops fits ends least bound attained =
    let less : high < 64 = high-short word low high ones tops ends in
    record {
      order = omega arith;
      reaches = high-reaches map base word high of tops;
      closed = λ some. high-end map base word high of tops less;
      run = elim (cases_lt (max longest (base + low - begin)) found) [
        | inl more ↦ let r = attained more in (base + r.0, run-from_bits map base word r.0 found of fits r.1)
        | inr same ↦
            let e : max longest (base + low - begin) ≡ found = omega arith in
            subst (λ (x : ℕ). (page : ℕ) × IsRun map page x) e (low-run map base word begin low longest of ones known fits)
      ];
      longest_of = λ page m run stops. elim (cases_lt base (page + m)) [
        | inl past ↦ elim (cases_lt page base) [
          | inl before ↦
              let after = run-begins map base begin longest page m known run past in
              let end : page + m ≤ base + low = run-ends map page m (base + low) run (omega arith) (low-end map base word low of ones ends) in
              omega arith
          | inr after ↦ bound (page - base) m (bits-from_run map base word page m of run after stops)
        ]
        | inr before ↦ let h = known.longest_of page m run before in omega arith
      ];
    }

-- before the first word nothing is known
pub measured-none : (map : ℕ → Bool) → IsMeasured map 0 0 0
measured-none map = record {
  order = omega arith;
  reaches = λ p above below. absurd (omega arith);
  closed = λ some. absurd (omega arith);
  run = (0, record { within = omega arith; each = λ p above below. absurd (omega arith) });
  longest_of = λ page m run ends. omega arith;
}

-- at the end of the chunk every run is measured
pub measured-all : (map : ℕ → Bool) (border begin longest : ℕ) → 512 ≤ border → IsMeasured map border begin longest → IsLongestRun map longest
measured-all map border begin longest end known = record {
  run = known.run;
  longest = λ page m run. known.longest_of page m run (omega (arith, run.within));
}

-- Before the first word with a page from `from` on, no run of such pages begins.
pub searched-none : (map : ℕ → Bool) (from n border : ℕ) → 1 ≤ n → border ≤ from → IsSearched (from_on map from) n border border
searched-none map from n border some below = record {
  order = omega arith;
  reaches = λ p above before. absurd (omega arith);
  passed = λ page before run.
      true≢false (sym (and_parts _ _ (run.each page (omega arith) (omega arith))).0 ∙ lt-leb from page (omega arith));
  short = omega arith;
}

-- a run at or above `from` is one of the pages from there on
pub run-from : (map : ℕ → Bool) (from page n : ℕ) → from ≤ page → IsRun map page n → IsRun (from_on map from) page n
run-from map from page n start run = record {
  within = run.within;
  each = λ p above below. and_from _ _ (le-leb from p (omega arith)) (run.each p above below);
}

-- a run of the pages from `from` on begins there or above
pub found-from : (map : ℕ → Bool) (from n page : ℕ) → 1 ≤ n → IsFirstRun (from_on map from) n 0 page → IsFirstRun map n from page
found-from map from n page some first = record {
  above = leb-true from page (and_parts _ _ (first.run.each page (omega arith) (omega arith))).0;
  run = record {
    within = first.run.within;
    each = λ p above below. (and_parts _ _ (first.run.each p above below)).1;
  };
  least = λ other above below run. first.least other (omega arith) below (run-from map from other n above run);
}

-- at the end of the chunk no run of n pages is left
pub searched-all : (map : ℕ → Bool) (from n border begin : ℕ) → 512 ≤ border → IsSearched (from_on map from) n border begin → HasNoRun map n from
searched-all map from n border begin end known page start run = elim (cases_lt page begin) [
  | inl before ↦ known.passed page before (run-from map from page n start run)
  | inr after ↦ let fits = run.within in let h = known.short in omega arith
]

-- the front of the map
pub front-found : (map : ℕ → Bool) (base word n : ℕ) → IsWordOf map base word → IsLowOnes word n → ((p : ℕ) → p < base → map p ≡ true) → base + 64 ≤ 512 → n < 64 → IsFrontRun map (base + n)
front-found map base word n of ones known fits short = record {
  run = record {
    within = omega arith;
    each = λ p above below. reaches-low map base word 0 n of ones (λ q start end. known q end) p above (omega arith);
  };
  stops = λ less. low-end map base word n of ones short;
}

pub front-more : (map : ℕ → Bool) (base word n : ℕ) → IsWordOf map base word → IsLowOnes word n → ((p : ℕ) → p < base → map p ≡ true) → 64 ≤ n → (p : ℕ) → p < base + 64 → map p ≡ true
front-more map base word n of ones known whole p below =
    reaches-low map base word 0 n of ones (λ q start end. known q end) p (omega arith) (omega arith)

-- and its back
pub back-found : (map : ℕ → Bool) (base word n : ℕ) → IsWordOf map base word → IsHighOnes word n → ((p : ℕ) → base + 64 ≤ p → p < 512 → map p ≡ true) → base + 64 ≤ 512 → n < 64
    → IsBackRun map (448 - base + n)
back-found map base word n of ones known fits short = record {
  run = record {
    within = omega arith;
    each = λ p above below. elim (cases_lt p (base + 64)) [
      | inl inside ↦ high-reaches map base word n of ones p (omega arith) inside
      | inr after ↦ known p after (omega arith)
    ];
  };
  stops = λ less.
      let same : base + 64 - n - 1 ≡ 511 - (448 - base + n) = omega arith in
      subst (λ (x : ℕ). map x ≡ false) same (high-end map base word n of ones short);
}

pub back-more : (map : ℕ → Bool) (base word n : ℕ) → IsWordOf map base word → IsHighOnes word n → ((p : ℕ) → base + 64 ≤ p → p < 512 → map p ≡ true) → 64 ≤ n → (p : ℕ) → base ≤ p → p < 512 → map p ≡ true
back-more map base word n of ones known whole p above below = elim (cases_lt p (base + 64)) [
  | inl inside ↦ high-reaches map base word n of ones p (omega (arith, ones.within)) inside
  | inr after ↦ known p after below
]

-- a word of the map
pub word-of : (words : List ℕ) (i : ℕ) → i < 8 → IsWordOf (has_page words) (64 * i) (get_or words i 0)
word-of words i small = record { each = λ k place. has_page-word words i k small place }

-- a word of the map without the pages below `from`
pub word-from : (words : List ℕ) (from i : ℕ) → i < 8 → from - 64 * i < 64
    → IsWordOf (from_on (has_page words) from) (64 * i) (bit_and (get_or words i 0) ((2 ^ 64 - 1) * 2 ^ (from - 64 * i) % 2 ^ 64))
word-from words from i small near = record {
  each = λ k place. elim (cases_lt (64 * i + k) from) [
    | inl below ↦
        and_left _ _ (lt-leb from (64 * i + k) below)
        ∙ sym (has_bit-and _ _ k ∙ and_right _ _ (has_bit-high_below (from - 64 * i) k (omega arith) (omega arith)))
    | inr above ↦
        one_and _ _ (le-leb from (64 * i + k) above)
        ∙ has_page-word words i k small place
        ∙ sym (has_bit-and _ _ k ∙ and_one _ _ (has_bit-high_inside (from - 64 * i) k (omega arith) place))
  ];
}
