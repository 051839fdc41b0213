-- The indices of one page among the pairs that words mark.
use Rattle.std.proofs.Common.{◌≡◌, ℕ, zero, suc, ltb, ◌+◌, ◌*◌, ◌<◌, ◌≤◌, true, false, cond, ◌==◌, eqb, List, [], ◌∷◌, ◌++◌, length, get_or, refl, sym, ◌∙◌, ap, arith, inl, inr, eq-eqb, append-nil, append_assoc}
use Rattle.std.proofs.lemmas.Bool.{cases_eq, cases_lt, cases_Bool, ne_eqb, lt-ltb, le-ltb}
use Rattle.std.proofs.lemmas.List.{get_or_past, length-append}
use Rattle.std.proofs.lemmas.List.Sums.{sum_by-cons}
use Rattle.std.proofs.lemmas.Nat.Bits.{bit_at-zero}
use Rattle.std.specs.Int.{bit_at}
use Rattle.span_state.specs.Groups.{group_pairs, page_pairs, grid_pairs, pairs_of, row_of, word_of}
use Rattle.span_state.specs.MarkSet.{indices_at, pairs_at}
use Rattle.span_state.proofs.Pairs.{without, no-pairs, lowest-first, pairs_at-page_more, pairs_at-page_pairs-other}

indices_at-append : (q : ℕ) (xs ys : List (ℕ × ℕ)) → indices_at q (xs ++ ys) ≡ indices_at q xs ++ indices_at q ys
indices_at-append q [] ys = refl
indices_at-append q (p ∷ xs) ys =
    let rest = indices_at-append q xs ys in
    elim (cases_Bool (p.0 == q)) [ inl on ↦ rw (on, rest) refl | inr off ↦ rw (off, rest) refl ]

-- a page has as many indices as pairs
pub length-indices_at : (q : ℕ) (xs : List (ℕ × ℕ)) → length (indices_at q xs) ≡ pairs_at xs q
length-indices_at q [] = refl
length-indices_at q (p ∷ xs) =
    let rest = length-indices_at q xs in
    let first : pairs_at (p ∷ xs) q ≡ cond (p.0 == q) 1 0 + pairs_at xs q = sum_by-cons (λ (p : ℕ × ℕ). cond (p.0 == q) 1 0) p xs in
    elim (cases_Bool (p.0 == q)) [
      | inl on ↦ (let first' = rw on at first in rw on (omega arith))
      | inr off ↦ (let first' = rw off at first in rw off (omega arith))
    ]

none-of : (xs : List ℕ) → length xs ≡ 0 → xs ≡ []
none-of [] none = refl
none-of (x ∷ xs) none = absurd (omega arith)

-- ---- the indices of a page's row

-- Of each page there are the indices that its own words mark.
indices_at-grid_pairs : (n : ℕ) (sizes : ℕ → ℕ) (words : ℕ → ℕ → ℕ) (q : ℕ) → indices_at q (grid_pairs n sizes words) ≡ cond (ltb q n) (indices_at q (page_pairs (sizes q) q (words q))) []
indices_at-grid_pairs zero sizes words q = let none : ltb q 0 ≡ false = le-ltb q 0 (omega arith) in rw none refl
indices_at-grid_pairs (suc n) sizes words q =
    let rest = indices_at-grid_pairs n sizes words q in
    let split = indices_at-append q (grid_pairs n sizes words) (page_pairs (sizes n) n (words n)) in
    elim (cases_eq n q) [
      | inr ne ↦ (
          let other : indices_at q (page_pairs (sizes n) n (words n)) ≡ [] =
          none-of _ (length-indices_at q (page_pairs (sizes n) n (words n)) ∙ pairs_at-page_pairs-other (sizes n) n (words n) q ne) in
          let bound : ltb q (suc n) ≡ ltb q n =
          elim (cases_lt q n) [
            | inl lt ↦ lt-ltb q (suc n) (omega arith) ∙ sym (lt-ltb q n lt)
            | inr le ↦ le-ltb q (suc n) (omega arith) ∙ sym (le-ltb q n le)
          ] in
          rw bound (split ∙ ap (λ (ys : List ℕ). indices_at q (grid_pairs n sizes words) ++ ys) other ∙ append-nil (indices_at q (grid_pairs n sizes words)) ∙ rest))
      | inl same ↦ (
          let before : ltb q n ≡ false = le-ltb q n (omega arith) in
          let now : ltb q (suc n) ≡ true = lt-ltb q (suc n) (omega arith) in
          let rest' : indices_at q (grid_pairs n sizes words) ≡ [] = rest ∙ rw before refl in
          let own : indices_at q (page_pairs (sizes n) n (words n)) ≡ indices_at q (page_pairs (sizes q) q (words q)) = ap (λ (p : ℕ). indices_at q (page_pairs (sizes p) p (words p))) same in
          rw now (split ∙ ap (λ (xs : List ℕ). xs ++ indices_at q (page_pairs (sizes n) n (words n))) rest' ∙ own))
    ]

indices_at-row : (rows : List (List ℕ)) (q : ℕ) → indices_at q (pairs_of rows) ≡ indices_at q (page_pairs (length (row_of rows q)) q (word_of rows q))
indices_at-row rows q =
    let all = indices_at-grid_pairs (length rows) (λ page. length (row_of rows page)) (word_of rows) q in
    elim (cases_lt q (length rows)) [
      | inl lt ↦ (let on : ltb q (length rows) ≡ true = lt-ltb _ _ lt in all ∙ rw on refl)
      | inr le ↦ (
          let off : ltb q (length rows) ≡ false = le-ltb _ _ le in
          all ∙ rw off (sym (ap (λ (row : List ℕ). indices_at q (page_pairs (length row) q (λ g. get_or row g 0))) (get_or_past rows q [] le))))
    ]

-- the indices of a page are those that its row marks
pub indices_at-marks : (rows : List (List ℕ)) (q : ℕ) (row : List ℕ) → row ≡ row_of rows q → indices_at q (page_pairs (length row) q (λ g. get_or row g 0)) ≡ indices_at q (pairs_of rows)
indices_at-marks rows q row is = ap (λ (r : List ℕ). indices_at q (page_pairs (length r) q (λ g. get_or r g 0))) is ∙ sym (indices_at-row rows q)

-- a page without a row has none
pub indices_at-none : (rows : List (List ℕ)) (q : ℕ) → row_of rows q ≡ [] → indices_at q (pairs_of rows) ≡ []
indices_at-none rows q none = indices_at-row rows q ∙ ap (λ (row : List ℕ). indices_at q (page_pairs (length row) q (λ g. get_or row g 0))) none

-- ---- indices pushed from set bit to set bit

-- a word with no bit has no indices
none-left : (page group word : ℕ) → word ≡ 0 → indices_at page (group_pairs ((page, group), word)) ≡ []
unfolding group_pairs
none-left page group word none = ap (indices_at page) (no-pairs 64 page group word (λ i lt. rw none (bit_at-zero i)))

-- the lowest bit's index comes first, and then come those of the word without it
pub lowest-index : (page group word k : ℕ) → k < 64 → bit_at word k ≡ 1 → ((i : ℕ) → i < k → bit_at word i ≡ 0)
    → indices_at page (group_pairs ((page, group), word)) ≡ (64 * group + k) ∷ indices_at page (group_pairs ((page, group), without word k))
unfolding group_pairs
lowest-index page group word k lt on below =
    let here : eqb page page ≡ true = eq-eqb page page refl in
    ap (indices_at page) (lowest-first 64 page group word k (omega arith) lt on below) ∙ rw here refl

-- with the lowest bit's index pushed, the indices of the bits left follow
pub pushed-index : (all indices new : List ℕ) (page group word k : ℕ) → k < 64 → bit_at word k ≡ 1 → ((i : ℕ) → i < k → bit_at word i ≡ 0)
    → indices ++ indices_at page (group_pairs ((page, group), word)) ≡ all → new ≡ indices ++ (64 * group + k) ∷ [] → new ++ indices_at page (group_pairs ((page, group), without word k)) ≡ all
pushed-index all indices new page group word k lt on below so_far push =
    ap (λ (xs : List ℕ). xs ++ indices_at page (group_pairs ((page, group), without word k))) push
    ∙ append_assoc indices ((64 * group + k) ∷ []) (indices_at page (group_pairs ((page, group), without word k)))
    ∙ ap (λ (xs : List ℕ). indices ++ xs) (sym (lowest-index page group word k lt on below)) ∙ so_far

-- where there is room for the indices of the bits left, there is room for the lowest
pub room-index : (old indices : List ℕ) (page group word left k room : ℕ) → k < 64 → bit_at left k ≡ 1 → ((i : ℕ) → i < k → bit_at left i ≡ 0)
    → indices ++ indices_at page (group_pairs ((page, group), left)) ≡ old ++ indices_at page (group_pairs ((page, group), word))
    → length old + length (indices_at page (group_pairs ((page, group), word))) ≤ room → length indices < room
room-index old indices page group word left k room lt on below so_far all =
    let long = ap (λ (xs : List ℕ). length xs) so_far in
    let now = length-append indices (indices_at page (group_pairs ((page, group), left))) in
    let first = length-append old (indices_at page (group_pairs ((page, group), word))) in
    let more = ap (λ (xs : List ℕ). length xs) (lowest-index page group left k lt on below) in
    omega arith

-- no bit is left
pub pushed-each : (all indices : List ℕ) (page group left : ℕ) → left ≡ 0 → indices ++ indices_at page (group_pairs ((page, group), left)) ≡ all → indices ≡ all
pushed-each all indices page group left none so_far =
    sym (append-nil indices) ∙ ap (λ (xs : List ℕ). indices ++ xs) (sym (none-left page group left none)) ∙ so_far

-- ---- the room for a row's indices

-- A row has as many indices on each page.
length-pages : (n p q : ℕ) (words : ℕ → ℕ) → pairs_at (page_pairs n p words) p ≡ pairs_at (page_pairs n q words) q
length-pages zero p q words = refl
length-pages (suc n) p q words =
    let rest = length-pages n p q words in
    let here = pairs_at-page_more n p words in
    let there = pairs_at-page_more n q words in
    omega arith

-- where there is room for the indices of a page, there is room for those of its row on each page
pub room-row : (rows : List (List ℕ)) (row : List ℕ) (page q room : ℕ) → row ≡ row_of rows page → length (indices_at page (pairs_of rows)) ≤ room
    → length (indices_at q (page_pairs (length row) q (λ g. get_or row g 0))) ≤ room
room-row rows row page q room is all =
    let own = ap (λ (xs : List ℕ). length xs) (indices_at-marks rows page row is) in
    let here = length-indices_at page (page_pairs (length row) page (λ g. get_or row g 0)) in
    let there = length-indices_at q (page_pairs (length row) q (λ g. get_or row g 0)) in
    let same = length-pages (length row) page q (λ g. get_or row g 0) in
    omega arith

-- the first groups have no more indices than all of them
length-first : (n m page : ℕ) (words : ℕ → ℕ) → n ≤ m → length (indices_at page (page_pairs n page words)) ≤ length (indices_at page (page_pairs m page words))
length-first n zero page words le = let is : n ≡ 0 = omega arith in rw is (omega arith)
length-first n (suc m) page words le =
    elim (cases_lt n (suc m)) [
      | inl lt ↦ (
          let rest = length-first n m page words (omega arith) in
          let next = ap (λ (xs : List ℕ). length xs) (indices_at-append page (page_pairs m page words) (group_pairs ((page, m), words m))) in
          let split = length-append (indices_at page (page_pairs m page words)) (indices_at page (group_pairs ((page, m), words m))) in
          omega arith)
      | inr ge ↦ (let is : n ≡ suc m = omega arith in rw is (omega arith))
    ]

-- where there is room for all groups of a row, there is room for the next
pub room-bits : (row : List ℕ) (group page word room : ℕ) (old indices : List ℕ) → group < length row → word ≡ get_or row group 0
    → indices ≡ old ++ indices_at page (page_pairs group page (λ g. get_or row g 0))
    → length old + length (indices_at page (page_pairs (length row) page (λ g. get_or row g 0))) ≤ room
    → length indices + length (indices_at page (group_pairs ((page, group), word))) ≤ room
room-bits row group page word room old indices lt is so_far all =
    let long = ap (λ (xs : List ℕ). length xs) so_far in
    let both = length-append old (indices_at page (page_pairs group page (λ g. get_or row g 0))) in
    let next = ap (λ (xs : List ℕ). length xs) (indices_at-append page (page_pairs group page (λ g. get_or row g 0)) (group_pairs ((page, group), get_or row group 0))) in
    let split = length-append (indices_at page (page_pairs group page (λ g. get_or row g 0))) (indices_at page (group_pairs ((page, group), get_or row group 0))) in
    let more = length-first (suc group) (length row) page (λ g. get_or row g 0) (omega arith) in
    rw is (omega arith)

-- one group more is pushed
pub pushed-bits : (row : List ℕ) (group next page word : ℕ) (old indices new : List ℕ) → next ≡ suc group → word ≡ get_or row group 0
    → indices ≡ old ++ indices_at page (page_pairs group page (λ g. get_or row g 0))
    → new ≡ indices ++ indices_at page (group_pairs ((page, group), word)) → new ≡ old ++ indices_at page (page_pairs next page (λ g. get_or row g 0))
pushed-bits row group next page word old indices new one is so_far push =
    push ∙ ap (λ (w : ℕ). indices ++ indices_at page (group_pairs ((page, group), w))) is
    ∙ ap (λ (xs : List ℕ). xs ++ indices_at page (group_pairs ((page, group), get_or row group 0))) so_far
    ∙ append_assoc old (indices_at page (page_pairs group page (λ g. get_or row g 0))) (indices_at page (group_pairs ((page, group), get_or row group 0)))
    ∙ ap (λ (xs : List ℕ). old ++ xs) (sym (indices_at-append page (page_pairs group page (λ g. get_or row g 0)) (group_pairs ((page, group), get_or row group 0))))
    ∙ ap (λ (n : ℕ). old ++ indices_at page (page_pairs n page (λ g. get_or row g 0))) (sym one)
