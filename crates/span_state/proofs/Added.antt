-- What one mark more changes, and one less.
use Rattle.std.proofs.Common.{◌≡◌, ℕ, ltb, length, get_or, ◌+◌, ◌*◌, ◌/◌, ◌%◌, ◌^◌, ◌<◌, Bool, true, false, cond, not, ◌==◌, ◌||◌, ◌&&◌, eqb, nat_eq, List, [], ◌∷◌, Some, w64, refl, sym, ◌∙◌, ap, arith, inl, inr, ◌⊎◌, eq-eqb}
use Rattle.std.proofs.lemmas.Bool.{cases_eq, cases_lt, cases_Bool, both_ways, ne_eqb, eqb-true, and_parts, and_from, or_parts, lt-ltb, le-ltb}
use Rattle.std.proofs.lemmas.Nat.{one_shl, pow_pos}
use Rattle.std.proofs.lemmas.Nat.Bits.{and_pow, bit_at-lt, bit_at-zero, bit_at_set_same, bit_at_set_other, bit_at_clear_same, bit_at_clear_other}
use Rattle.std.proofs.lemmas.List.{get_or_past}
use Rattle.std.proofs.lemmas.List.Sums.{sum_by-cons}
use Rattle.std.specs.Int.{bit_at}
use Rattle.std.specs.Int.Bits.{bit_and, bit_or}
use Rattle.std.specs.Map.{lookup, set_value}
use Rattle.span_state.specs.Bits.{with_bit}
use Rattle.span_state.specs.Groups.{clear_bit, page_pairs, pairs_of, row_of, word_of}
use Rattle.span_state.specs.MarkSet.{IsRising, has_pair, pairs_at}
use Rattle.span_state.proofs.Pairs.{or_false, has-grid_pairs, length-page_pairs-own, pairs_at-grid_pairs, rising-grid_pairs, rising-one}
use Rattle.span_state.proofs.Words.{same_place}

-- ---- a bit of a word

bit-cases : (n k : ℕ) → (bit_at n k ≡ 0) ⊎ (bit_at n k ≡ 1)
bit-cases n k = let lt = bit_at-lt n k in elim (cases_eq (bit_at n k) 0) [ inl off ↦ inl off | inr on ↦ inr (omega arith) ]

masked : (n k : ℕ) → k < 64 → bit_and n (1 * 2 ^ k % 2 ^ 64) ≡ bit_at n k * 2 ^ k
masked n k lt = ap (bit_and n) (one_shl k 64 lt) ∙ and_pow n k

-- the test `word & (1 << k) != 0`
pub bit_test : (n k : ℕ) → k < 64 → not (nat_eq (bit_and n (1 * 2 ^ k % 2 ^ 64)) 0) ≡ (bit_at n k == 1)
bit_test n k lt =
    let mask = masked n k lt in
    elim (bit-cases n k) [
      | inl off ↦ (
          let e : bit_and n (1 * 2 ^ k % 2 ^ 64) ≡ 0 = mask ∙ rw off (omega arith) in
          let f : nat_eq (bit_and n (1 * 2 ^ k % 2 ^ 64)) 0 ≡ true = eq-eqb _ 0 e in
          rw (f, off) refl)
      | inr on ↦ (
          let pos_ = pow_pos k in
          let e : bit_and n (1 * 2 ^ k % 2 ^ 64) ≡ 1 * 2 ^ k = mask ∙ rw on refl in
          let f : nat_eq (bit_and n (1 * 2 ^ k % 2 ^ 64)) 0 ≡ false = ne_eqb _ 0 (λ z. omega arith) in
          rw (f, on) refl)
    ]

pub bit_on : (n k : ℕ) → k < 64 → (bit_and n (1 * 2 ^ k % 2 ^ 64) ≡ 0 → ⊥) → bit_at n k ≡ 1
bit_on n k lt ne = elim (bit-cases n k) [ inl off ↦ absurd (ne (masked n k lt ∙ rw off (omega arith))) | inr on ↦ on ]

pub bit_off : (n k : ℕ) → k < 64 → bit_and n (1 * 2 ^ k % 2 ^ 64) ≡ 0 → bit_at n k ≡ 0
bit_off n k lt e =
    elim (bit-cases n k) [
      | inl off ↦ off
      | inr on ↦ absurd (let mask = masked n k lt in let pos_ = pow_pos k in let f : bit_at n k * 2 ^ k ≡ 1 * 2 ^ k = rw on refl in omega arith)
    ]

-- a word with its bit i set besides
abbrev pub set_bit : ℕ → ℕ → ℕ
set_bit n i = bit_or n (1 * 2 ^ i % 2 ^ 64)

bit_at-set_bit : (n i b : ℕ) → i < 64 → (bit_at (set_bit n i) b == 1) ≡ with_bit i (λ k. bit_at n k == 1) b
bit_at-set_bit n i b lt =
    elim (cases_eq b i) [
      | inl same ↦ (let on : eqb b i ≡ true = eq-eqb b i same in let e = bit_at_set_same w64 n i lt in rw (on, same, e) refl)
      | inr other ↦ (let off : eqb b i ≡ false = ne_eqb b i other in let e = bit_at_set_other w64 n i lt b other in rw (off, e) refl)
    ]

or_true : (b : Bool) → (b || true) ≡ true
or_true true = refl
or_true false = refl

-- ---- the pairs of rows

-- An index is marked where the word of its group has its bit.
pub has-pairs_of : (rows : List (List ℕ)) (q k : ℕ) → has_pair (pairs_of rows) q k ≡ (bit_at (word_of rows q (k / 64)) (k % 64) == 1)
has-pairs_of rows q k =
    let has = has-grid_pairs (length rows) (λ page. length (row_of rows page)) (word_of rows) q k (λ page group le. get_or_past (row_of rows page) group 0 le) in
    elim (cases_lt q (length rows)) [
      | inl lt ↦ (let on : ltb q (length rows) ≡ true = lt-ltb _ _ lt in has ∙ rw on refl)
      | inr le ↦ (
          let off : ltb q (length rows) ≡ false = le-ltb _ _ le in
          let none : word_of rows q (k / 64) ≡ 0 = ap (λ (row : List ℕ). get_or row (k / 64) 0) (get_or_past rows q [] le) ∙ get_or_past [] (k / 64) 0 (omega arith) in
          has ∙ rw (off, none, bit_at-zero) refl)
    ]

pub rising-pairs_of : (rows : List (List ℕ)) → IsRising (pairs_of rows)
rising-pairs_of rows = rising-grid_pairs (length rows) (λ page. length (row_of rows page)) (word_of rows)

-- rows with the same words mark the same pairs
pub pairs_of-same : (old new : List (List ℕ)) → ((q g : ℕ) → word_of new q g ≡ word_of old q g) → pairs_of new ≡ pairs_of old
pairs_of-same old new same =
    rising-one (pairs_of new) (pairs_of old) (rising-pairs_of new) (rising-pairs_of old)
    (λ q k. has-pairs_of new q k ∙ ap (λ (w : ℕ). bit_at w (k % 64) == 1) (same q (k / 64)) ∙ sym (has-pairs_of old q k))

-- a page has as many pairs as its row marks
pairs_at-row : (rows : List (List ℕ)) (q : ℕ) → pairs_at (pairs_of rows) q ≡ pairs_at (page_pairs (length (row_of rows q)) q (word_of rows q)) q
pairs_at-row rows q =
    let all = pairs_at-grid_pairs (length rows) (λ page. length (row_of rows page)) (word_of rows) q in
    elim (cases_lt q (length rows)) [
      | inl lt ↦ (let on : ltb q (length rows) ≡ true = lt-ltb _ _ lt in all ∙ rw on refl)
      | inr le ↦ (
          let off : ltb q (length rows) ≡ false = le-ltb _ _ le in
          all ∙ rw off (sym (ap (λ (row : List ℕ). pairs_at (page_pairs (length row) q (λ g. get_or row g 0)) q) (get_or_past rows q [] le))))
    ]

-- the pairs of a page are as many as its row marks
pub pairs_at-marks : (rows : List (List ℕ)) (q : ℕ) (row : List ℕ) → row ≡ row_of rows q → length (page_pairs (length row) q (λ g. get_or row g 0)) ≡ pairs_at (pairs_of rows) q
pairs_at-marks rows q row is =
    length-page_pairs-own (length row) q (λ g. get_or row g 0) ∙ ap (λ (r : List ℕ). pairs_at (page_pairs (length r) q (λ g. get_or r g 0)) q) is ∙ sym (pairs_at-row rows q)

-- a page without a row has none
pub pairs_at-none : (rows : List (List ℕ)) (q : ℕ) → row_of rows q ≡ [] → pairs_at (pairs_of rows) q ≡ 0
pairs_at-none rows q none = pairs_at-row rows q ∙ ap (λ (row : List ℕ). pairs_at (page_pairs (length row) q (λ g. get_or row g 0)) q) none

-- ---- one more pair

-- the words are the old ones, but for one
abbrev pub IsPut : List (List ℕ) → List (List ℕ) → ℕ → ℕ → ℕ → Type 0
IsPut old new page group word = (q g : ℕ) → word_of new q g ≡ cond (q == page && g == group) word (word_of old q g)

-- pairs of other groups differ
apart-groups : (q page k index : ℕ) → (q == page && k / 64 == index / 64) ≡ false → (q == page && k == index) ≡ false
apart-groups q page k index off =
    elim (cases_Bool (q == page && k == index)) [
      | inr isnt ↦ isnt
      | inl is ↦ absurd (
          let both = and_parts (q == page) (k == index) is in
          let places : k ≡ index = eqb-true k index both.1 in
          let groups : eqb (k / 64) (index / 64) ≡ true = eq-eqb (k / 64) (index / 64) (ap (λ (n : ℕ). n / 64) places) in
          let on : (q == page && k / 64 == index / 64) ≡ true = and_from (q == page) (k / 64 == index / 64) both.0 groups in
          both_ways _ off on)
    ]

-- With its bit set in its group's word, a pair is marked besides those that were.
pub has-added : (old new : List (List ℕ)) (page index word : ℕ)
    → ((b : ℕ) → b < 64 → (bit_at word b == 1) ≡ has_pair (pairs_of old) page (64 * (index / 64) + b)) → IsPut old new page (index / 64) (set_bit word (index % 64))
    → (q k : ℕ) → has_pair (pairs_of new) q k ≡ (has_pair (pairs_of old) q k || (q == page && k == index))
has-added old new page index word is put q k =
    let now = has-pairs_of new q k in
    let was = has-pairs_of old q k in
    let at = put q (k / 64) in
    let within : index % 64 < 64 = omega arith in
    let inside : k % 64 < 64 = omega arith in
    elim (cases_Bool (q == page && k / 64 == index / 64)) [
      | inl on ↦ (
          let both = and_parts (q == page) (k / 64 == index / 64) on in
          let pages : q ≡ page = eqb-true q page both.0 in
          let groups : k / 64 ≡ index / 64 = eqb-true (k / 64) (index / 64) both.1 in
          let here = both.0 in
          let place : 64 * (index / 64) + k % 64 ≡ k = omega arith in
          let at' : word_of new q (k / 64) ≡ set_bit word (index % 64) = at ∙ rw on refl in
          let now' : has_pair (pairs_of new) q k ≡ with_bit (index % 64) (λ b. bit_at word b == 1) (k % 64) =
          now ∙ ap (λ (w : ℕ). bit_at w (k % 64) == 1) at' ∙ bit_at-set_bit word (index % 64) (k % 64) within in
          let was' : has_pair (pairs_of old) q k ≡ (bit_at word (k % 64) == 1) =
          ap (λ (p : ℕ). has_pair (pairs_of old) p k) pages ∙ ap (λ (i : ℕ). has_pair (pairs_of old) page i) (sym place) ∙ sym (is (k % 64) inside) in
          elim (cases_eq (k % 64) (index % 64)) [
            | inl bits ↦ (
                let yes_ : eqb (k % 64) (index % 64) ≡ true = eq-eqb _ _ bits in
                let there : eqb k index ≡ true = eq-eqb k index (same_place index k groups bits) in
                now' ∙ rw (yes_, here, there) (sym (or_true _)))
            | inr other ↦ (
                let no_ : eqb (k % 64) (index % 64) ≡ false = ne_eqb _ _ other in
                let isnt : eqb k index ≡ false = ne_eqb k index (λ e. other (ap (λ n. n % 64) e)) in
                now' ∙ rw (no_, here, isnt) (sym was' ∙ sym (or_false _)))
          ])
      | inr off ↦ (
          let at' : word_of new q (k / 64) ≡ word_of old q (k / 64) = at ∙ rw off refl in
          let now' : has_pair (pairs_of new) q k ≡ has_pair (pairs_of old) q k = now ∙ ap (λ (w : ℕ). bit_at w (k % 64) == 1) at' ∙ sym was in
          now' ∙ rw (apart-groups q page k index off) (sym (or_false _)))
    ]

-- ---- one pair less

and_false : (b : Bool) → (b && false) ≡ false
and_false true = refl
and_false false = refl

and_true : (b : Bool) → (b && true) ≡ b
and_true true = refl
and_true false = refl

-- With its bit cleared in its group's word, a pair is not marked, and the others are as they were.
pub has-cleared : (old new : List (List ℕ)) (page index : ℕ) → IsPut old new page (index / 64) (clear_bit (word_of old page (index / 64)) (index % 64))
    → (q k : ℕ) → has_pair (pairs_of new) q k ≡ (has_pair (pairs_of old) q k && not (q == page && k == index))
has-cleared old new page index put q k =
    let now = has-pairs_of new q k in
    let was = has-pairs_of old q k in
    let at = put q (k / 64) in
    let within : index % 64 < 64 = omega arith in
    let inside : k % 64 < 64 = omega arith in
    elim (cases_Bool (q == page && k / 64 == index / 64)) [
      | inl on ↦ (
          let both = and_parts (q == page) (k / 64 == index / 64) on in
          let pages : q ≡ page = eqb-true q page both.0 in
          let groups : k / 64 ≡ index / 64 = eqb-true (k / 64) (index / 64) both.1 in
          let here = both.0 in
          let at' : word_of new q (k / 64) ≡ clear_bit (word_of old page (index / 64)) (index % 64) = at ∙ rw on refl in
          elim (cases_eq (k % 64) (index % 64)) [
            | inl bits ↦ (
                let there : eqb k index ≡ true = eq-eqb k index (same_place index k groups bits) in
                let bit : bit_at (word_of new q (k / 64)) (k % 64) ≡ 0 =
                ap (λ (w : ℕ). bit_at w (k % 64)) at' ∙ ap (bit_at (clear_bit (word_of old page (index / 64)) (index % 64))) bits
                ∙ bit_at_clear_same w64 (word_of old page (index / 64)) (index % 64) within in
                now ∙ rw (bit, here, there) (sym (and_false _)))
            | inr other ↦ (
                let isnt : eqb k index ≡ false = ne_eqb k index (λ e. other (ap (λ n. n % 64) e)) in
                let word : word_of old page (index / 64) ≡ word_of old q (k / 64) = (λ i. word_of old (sym pages i) (sym groups i)) in
                let bit : bit_at (word_of new q (k / 64)) (k % 64) ≡ bit_at (word_of old q (k / 64)) (k % 64) =
                ap (λ (w : ℕ). bit_at w (k % 64)) at' ∙ bit_at_clear_other w64 (word_of old page (index / 64)) (index % 64) within (k % 64) inside other
                ∙ ap (λ (w : ℕ). bit_at w (k % 64)) word in
                now ∙ ap (λ (n : ℕ). n == 1) bit ∙ sym was ∙ rw (here, isnt) (sym (and_true _)))
          ])
      | inr off ↦ (
          let at' : word_of new q (k / 64) ≡ word_of old q (k / 64) = at ∙ rw off refl in
          let now' : has_pair (pairs_of new) q k ≡ has_pair (pairs_of old) q k = now ∙ ap (λ (w : ℕ). bit_at w (k % 64) == 1) at' ∙ sym was in
          now' ∙ rw (apart-groups q page k index off) (sym (and_true _)))
    ]

-- ---- what the code asks

-- the word that the rows give
pub word-shows : (rows : List (List ℕ)) (page group word bit : ℕ) → word ≡ word_of rows page group → bit < 64 → (bit_at word bit == 1) ≡ has_pair (pairs_of rows) page (64 * group + bit)
word-shows rows page group word bit is lt =
    let g : (64 * group + bit) / 64 ≡ group = omega arith in
    let b : (64 * group + bit) % 64 ≡ bit = omega arith in
    let has = has-pairs_of rows page (64 * group + bit) in
    sym (has ∙ rw (g, b, is) refl)

-- a bit set in a word of a page's row marks one pair besides
pub has-set : (old new : List (List ℕ)) (page index : ℕ) → IsPut old new page (index / 64) (set_bit (word_of old page (index / 64)) (index % 64))
    → (q k : ℕ) → has_pair (pairs_of new) q k ≡ (has_pair (pairs_of old) q k || (q == page && k == index))
has-set old new page index put = has-added old new page index (word_of old page (index / 64)) (λ b less. word-shows old page (index / 64) _ b refl less) put

-- rows that mark a pair besides, which was marked, mark the same pairs
pub same-again : (old new : List (List ℕ)) (page index : ℕ) → has_pair (pairs_of old) page index ≡ true
    → ((q k : ℕ) → has_pair (pairs_of new) q k ≡ (has_pair (pairs_of old) q k || (q == page && k == index))) → pairs_of new ≡ pairs_of old
same-again old new page index on more =
    rising-one (pairs_of new) (pairs_of old) (rising-pairs_of new) (rising-pairs_of old)
    (λ q k. elim (cases_Bool (q == page && k == index)) [
      | inr isnt ↦ more q k ∙ rw isnt (or_false _)
      | inl both ↦ (
          let parts = and_parts (q == page) (k == index) both in
          let was : has_pair (pairs_of old) q k ≡ true = (λ i. has_pair (pairs_of old) (eqb-true q page parts.0 i) (eqb-true k index parts.1 i)) ∙ on in
          more q k ∙ rw was refl)
    ])

-- no word of a page without a row marks anything
pub word-none : (rows : List (List ℕ)) (page group : ℕ) → row_of rows page ≡ [] → 0 ≡ word_of rows page group
word-none rows page group none = sym (ap (λ (row : List ℕ). get_or row group 0) none ∙ get_or_past [] group 0 (omega arith))

-- a page with no pair has no marked index
pub none-marked : (pairs : List (ℕ × ℕ)) (page k : ℕ) → pairs_at pairs page ≡ 0 → has_pair pairs page k ≡ false
none-marked [] page k none = refl
none-marked (p ∷ pairs) page k none =
    let first : pairs_at (p ∷ pairs) page ≡ cond (p.0 == page) 1 0 + pairs_at pairs page = sum_by-cons (λ (p : ℕ × ℕ). cond (p.0 == page) 1 0) p pairs in
    elim (cases_Bool (p.0 == page)) [
      | inl is ↦ absurd (let one : ◌≡◌ {A = ℕ} (cond (p.0 == page) 1 0) 1 = rw is refl in omega arith)
      | inr isnt ↦ (
          let rest = none-marked pairs page k (omega arith) in
          rw isnt rest)
    ]

-- a page with no marked index has no pair
pub none-counted : (pairs : List (ℕ × ℕ)) (page : ℕ) → ((k : ℕ) → has_pair pairs page k ≡ false) → pairs_at pairs page ≡ 0
none-counted [] page none = refl
none-counted (p ∷ pairs) page none =
    let first : pairs_at (p ∷ pairs) page ≡ cond (p.0 == page) 1 0 + pairs_at pairs page = sum_by-cons (λ (p : ℕ × ℕ). cond (p.0 == page) 1 0) p pairs in
    elim (cases_Bool (p.0 == page)) [
      | inl is ↦ absurd (
          let here : eqb p.1 p.1 ≡ true = eq-eqb p.1 p.1 refl in
          let on : has_pair (p ∷ pairs) page p.1 ≡ true = rw (is, here) refl in
          both_ways _ (none p.1) on)
      | inr isnt ↦ (
          let nothing : ◌≡◌ {A = ℕ} (cond (p.0 == page) 1 0) 0 = rw isnt refl in
          let rest = none-counted pairs page (λ k. (or_parts (p.0 == page && p.1 == k) (has_pair pairs page k) (none k)).1) in
          omega arith)
    ]

-- a value written back over itself changes nothing
pub set_value-same : {K X : Type 0} (test : K → Bool) (es : List (K × X)) (v : X) → lookup test es ≡ Some v → set_value test es v ≡ es
set_value-same test [] v is = refl
set_value-same {K} {X} test (e ∷ es) v is = by (test e.0) is (set_value-same test es v)
  where
    by : (b : Bool) → cond b (Some e.1) (lookup test es) ≡ Some v → (lookup test es ≡ Some v → set_value test es v ≡ es)
        → cond b ((e.0, v) ∷ es) (e ∷ set_value test es v) ≡ e ∷ es
    by true same later = let w : v ≡ e.1 = cc in (λ i. (e.0, w i) ∷ es)
    by false same later = ap (λ (rest : List (K × X)). e ∷ rest) (later same)

-- a list of dead buckets written back over itself leaves the dead as they were
pub deaths-same : (test : ℕ → Bool) (old new : List (ℕ × List ℕ)) (was now : List ℕ) → new ≡ set_value test old now → now ≡ was → lookup test old ≡ Some was → new ≡ old
deaths-same test old new was now put same is = put ∙ ap (set_value test old) same ∙ set_value-same test old was is

-- a pair whose bit is set is marked
pub marked-already : (old : List (ℕ × ℕ)) (page index word : ℕ) → ((b : ℕ) → b < 64 → (bit_at word b == 1) ≡ has_pair old page (64 * (index / 64) + b)) → bit_at word (index % 64) ≡ 1
    → (q k : ℕ) → has_pair old q k ≡ (has_pair old q k || (q == page && k == index))
marked-already old page index word is on q k =
    elim (cases_Bool (q == page && k == index)) [
      | inr isnt ↦ rw isnt (sym (or_false _))
      | inl both ↦ (
          let parts = and_parts (q == page) (k == index) both in
          let pages : q ≡ page = eqb-true q page parts.0 in
          let places : k ≡ index = eqb-true k index parts.1 in
          let place : 64 * (index / 64) + index % 64 ≡ index = omega arith in
          let here : has_pair old page index ≡ true = ap (λ (i : ℕ). has_pair old page i) (sym place) ∙ sym (is (index % 64) (omega arith)) ∙ rw on refl in
          let yes_ : has_pair old q k ≡ true = (λ i. has_pair old (pages i) (places i)) ∙ here in
          rw yes_ refl)
    ]

-- a pair whose bit is not set is not marked
pub unmarked : (old : List (ℕ × ℕ)) (page index word : ℕ) → ((b : ℕ) → b < 64 → (bit_at word b == 1) ≡ has_pair old page (64 * (index / 64) + b)) → bit_at word (index % 64) ≡ 0 → has_pair old page index ≡ false
unmarked old page index word is off =
    let place : 64 * (index / 64) + index % 64 ≡ index = omega arith in
    ap (λ (i : ℕ). has_pair old page i) (sym place) ∙ sym (is (index % 64) (omega arith)) ∙ rw off refl
