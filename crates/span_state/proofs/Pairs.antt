-- The pairs that words mark.
use Rattle.std.proofs.Common.{◌≡◌, ℕ, zero, suc, ◌+◌, ◌-◌, ◌*◌, ◌/◌, ◌%◌, ◌^◌, ◌<◌, ◌≤◌, Bool, true, false, cond, ◌==◌, ◌||◌, ◌&&◌, eqb, ltb, List, [], ◌∷◌, ◌++◌, length, get_or, refl, sym, ◌∙◌, ap, subst, arith, inl, inr, eq-eqb, append-nil, append_assoc, w64, ◌⊎◌}
use Rattle.std.proofs.lemmas.Bool.{cases_eq, cases_lt, cases_Bool, both_ways, ne_eqb, lt-ltb, le-ltb, and_parts, eqb-true}
use Rattle.std.proofs.lemmas.Cmp.{then_total, on_total, nat_cmp_total, ranked}
use Rattle.std.proofs.lemmas.List.{length-append}
use Rattle.std.proofs.lemmas.List.Folds.{list_any-append}
use Rattle.std.proofs.lemmas.List.Sums.{sum_by-append}
use Rattle.std.proofs.lemmas.Map.Lookups.{CmpEqualImpliesEq, exact_pairs, exact_unsigned}
use Rattle.std.proofs.lemmas.Nat.{and_le_l}
use Rattle.std.proofs.lemmas.Nat.Bits.{bit_at-zero, bit_at-suc, bit_at_lowest, bit_at_and, bit_at_clear_same, bit_at_clear_other, bit_at_ones, same_from_bits_below}
use Rattle.std.specs.declared.cmp.Ordering.{Ordering}
use Rattle.std.specs.declared.cmp.Ordering.TheVariants.{Less, Equal, Greater}
use Rattle.std.specs.Cmp.{IsTotalOrder, nat_cmp_is}
use Rattle.std.specs.Int.{bit_at, bit_not}
use Rattle.std.specs.Int.Bits.{bit_and}
use Rattle.std.specs.List.{AllByRecursion}
use Rattle.std.specs.List.Sorted.{IsStrictlySortedBy}
use Rattle.std.specs.Ordering.{nat_cmp}
use Rattle.std.specs.Int.Count.{ones}
use Rattle.span_state.specs.Bits.{count_below, one_if}
use Rattle.span_state.specs.OneBits.{ones-count}
use Rattle.span_state.specs.Groups.{word_pairs, group_pairs, page_pairs, grid_pairs, pairs_of, row_of, word_of}
use Rattle.span_state.specs.MarkSet.{pair_cmp, IsRising, has_pair, pairs_at}

-- ---- the order of pairs

pub or_false : (b : Bool) → (b || false) ≡ b
or_false true = refl
or_false false = refl

pub pair_cmp_total : IsTotalOrder pair_cmp
pair_cmp_total = then_total (on_total (λ p. p.0) nat_cmp_total) (on_total (λ p. p.1) nat_cmp_total)

pub pair_cmp_exact : CmpEqualImpliesEq pair_cmp
pair_cmp_exact = exact_pairs nat_cmp nat_cmp exact_unsigned exact_unsigned

-- a pair of a lower page comes first
pub pair_cmp-page : (x y : ℕ × ℕ) → x.0 < y.0 → pair_cmp x y ≡ Less
pair_cmp-page x y lt = let e : nat_cmp x.0 y.0 ≡ Less = sym (nat_cmp_is x.0 y.0 Less lt) in rw e refl

-- of one page, the pair of the lower index comes first
pub pair_cmp-index : (x y : ℕ × ℕ) → x.0 ≡ y.0 → x.1 < y.1 → pair_cmp x y ≡ Less
pair_cmp-index x y same lt =
    let e : nat_cmp x.0 y.0 ≡ Equal = sym (nat_cmp_is x.0 y.0 Equal same) in
    let f : nat_cmp x.1 y.1 ≡ Less = sym (nat_cmp_is x.1 y.1 Less lt) in
    rw (e, f) refl

-- what the order says
pub pair_cmp-Less : (x y : ℕ × ℕ) → pair_cmp x y ≡ Less → (x.0 < y.0) ⊎ ((x.0 ≡ y.0) × (x.1 < y.1))
pair_cmp-Less x y e =
    elim (cases_lt x.0 y.0) [
      | inl lt ↦ inl lt
      | inr le ↦ elim (cases_eq x.0 y.0) [
        | inr ne ↦ (let g : nat_cmp x.0 y.0 ≡ Greater = sym (nat_cmp_is x.0 y.0 Greater (omega arith)) in let bad = rw g at e in cc)
        | inl same ↦ (
            let g : nat_cmp x.0 y.0 ≡ Equal = sym (nat_cmp_is x.0 y.0 Equal same) in
            let second : nat_cmp x.1 y.1 ≡ Less = rw g at e in
            inr (same, ranked x.1 y.1 Less (sym second)))
      ]
    ]

-- ---- the pairs of one word

-- the pair that bit n of a word marks, if it does
bit_pair : ℕ → ℕ → ℕ → ℕ → List (ℕ × ℕ)
bit_pair page group word n = cond (bit_at word n == 1) ((page, 64 * group + n) ∷ []) []

-- a word of another group marks no index of this one
pub has-word_pairs-other : (n page group word q k : ℕ) → (page ≡ q → k / 64 ≡ group → ⊥) → n ≤ 64 → has_pair (word_pairs n page group word) q k ≡ false
has-word_pairs-other zero page group word q k apart few = refl
has-word_pairs-other (suc n) page group word q k apart few =
    let rest = has-word_pairs-other n page group word q k apart (omega arith) in
    let off : (page == q && 64 * group + n == k) ≡ false =
    elim (cases_eq page q) [
      | inr ne ↦ (let f : eqb page q ≡ false = ne_eqb page q ne in rw f refl)
      | inl same ↦ (
          let f : eqb page q ≡ true = eq-eqb page q same in
          let g : eqb (64 * group + n) k ≡ false = ne_eqb (64 * group + n) k (λ e. apart same (omega arith)) in
          rw (f, g) refl)
    ] in
    rw (list_any-append, rest)
    (elim (cases_Bool (bit_at word n == 1)) [ inl on ↦ rw (on, off) refl | inr none ↦ rw none refl ])

-- a word marks an index of its group where it has its bit
pub has-word_pairs : (n page group word k : ℕ) → k / 64 ≡ group → n ≤ 64 → has_pair (word_pairs n page group word) page k ≡ (ltb (k % 64) n && (bit_at word (k % 64) == 1))
has-word_pairs zero page group word k here few = let none : ltb (k % 64) 0 ≡ false = le-ltb (k % 64) 0 (omega arith) in rw none refl
has-word_pairs (suc n) page group word k here few =
    let rest = has-word_pairs n page group word k here (omega arith) in
    let f : eqb page page ≡ true = eq-eqb page page refl in
    elim (cases_eq (k % 64) n) [
      | inl same ↦ (
          let g : eqb (64 * group + n) k ≡ true = eq-eqb (64 * group + n) k (omega arith) in
          let before : ltb (k % 64) n ≡ false = le-ltb (k % 64) n (omega arith) in
          let now : ltb (k % 64) (suc n) ≡ true = lt-ltb (k % 64) (suc n) (omega arith) in
          let bit : bit_at word (k % 64) ≡ bit_at word n = ap (bit_at word) same in
          rw (list_any-append, rest, before, now, bit)
          (elim (cases_Bool (bit_at word n == 1)) [ inl on ↦ rw (on, f, g) refl | inr none ↦ rw none refl ]))
      | inr other ↦ (
          let g : eqb (64 * group + n) k ≡ false = ne_eqb (64 * group + n) k (λ e. other (omega arith)) in
          let same : ltb (k % 64) (suc n) ≡ ltb (k % 64) n =
          elim (cases_lt (k % 64) n) [
            | inl lt ↦ lt-ltb (k % 64) (suc n) (omega arith) ∙ sym (lt-ltb (k % 64) n lt)
            | inr le ↦ le-ltb (k % 64) (suc n) (omega arith) ∙ sym (le-ltb (k % 64) n le)
          ] in
          rw (list_any-append, rest, same)
          (elim (cases_Bool (ltb (k % 64) n && (bit_at word (k % 64) == 1))) [
            | inl on ↦ rw on refl
            | inr off ↦ rw off (elim (cases_Bool (bit_at word n == 1)) [ inl on ↦ rw (on, f, g) refl | inr none ↦ rw none refl ])
          ]))
    ]

pub has-group_pairs-other : (e : (ℕ × ℕ) × ℕ) (q k : ℕ) → (e.0 ≡ (q, k / 64) → ⊥) → has_pair (group_pairs e) q k ≡ false
unfolding group_pairs
has-group_pairs-other e q k apart = has-word_pairs-other 64 e.0.0 e.0.1 e.1 q k (λ p g. apart (λ i. (p i, sym g i))) (omega arith)

pub has-group_pairs : (e : (ℕ × ℕ) × ℕ) (q k : ℕ) → e.0 ≡ (q, k / 64) → has_pair (group_pairs e) q k ≡ (bit_at e.1 (k % 64) == 1)
unfolding group_pairs
has-group_pairs e q k here =
    let page : e.0.0 ≡ q = ap (λ (p : ℕ × ℕ). p.0) here in
    let group : k / 64 ≡ e.0.1 = sym (ap (λ (p : ℕ × ℕ). p.1) here) in
    let inside : ltb (k % 64) 64 ≡ true = lt-ltb (k % 64) 64 (omega arith) in
    rw (sym page) (has-word_pairs 64 e.0.0 e.0.1 e.1 k group (omega arith) ∙ rw inside refl)

-- ---- the pairs of a page

-- An index is among the pairs of a page's first n groups where its group is, and the group's word has its bit.
pub has-page_pairs : (n page : ℕ) (words : ℕ → ℕ) (q k : ℕ) → has_pair (page_pairs n page words) q k ≡ (eqb page q && (ltb (k / 64) n && (bit_at (words (k / 64)) (k % 64) == 1)))
has-page_pairs zero page words q k =
    let none : ltb (k / 64) 0 ≡ false = le-ltb (k / 64) 0 (omega arith) in
    elim (cases_Bool (eqb page q)) [ inl on ↦ rw (on, none) refl | inr off ↦ rw off refl ]
has-page_pairs (suc n) page words q k =
    let rest = has-page_pairs n page words q k in
    elim (cases_eq page q) [
      | inr ne ↦ (
          let f : eqb page q ≡ false = ne_eqb page q ne in
          let rest' : has_pair (page_pairs n page words) q k ≡ false = rest ∙ rw f refl in
          let other : has_pair (group_pairs ((page, n), words n)) q k ≡ false = has-group_pairs-other ((page, n), words n) q k (λ here. ne (ap (λ (p : ℕ × ℕ). p.0) here)) in
          rw (list_any-append, rest', other, f) refl)
      | inl same ↦ (
          let f : eqb page q ≡ true = eq-eqb page q same in
          elim (cases_eq (k / 64) n) [
            | inl here ↦ (
                let before : ltb (k / 64) n ≡ false = le-ltb (k / 64) n (omega arith) in
                let now : ltb (k / 64) (suc n) ≡ true = lt-ltb (k / 64) (suc n) (omega arith) in
                let rest' : has_pair (page_pairs n page words) q k ≡ false = rest ∙ rw (f, before) refl in
                let group : has_pair (group_pairs ((page, n), words n)) q k ≡ (bit_at (words n) (k % 64) == 1) = has-group_pairs ((page, n), words n) q k (λ i. (same i, sym here i)) in
                let word : words (k / 64) ≡ words n = ap words here in
                rw (list_any-append, rest', group, f, now, word) refl)
            | inr other ↦ (
                let off : has_pair (group_pairs ((page, n), words n)) q k ≡ false = has-group_pairs-other ((page, n), words n) q k (λ here. other (sym (ap (λ (p : ℕ × ℕ). p.1) here))) in
                let bound : ltb (k / 64) (suc n) ≡ ltb (k / 64) n =
                elim (cases_lt (k / 64) n) [
                  | inl lt ↦ lt-ltb (k / 64) (suc n) (omega arith) ∙ sym (lt-ltb (k / 64) n lt)
                  | inr le ↦ le-ltb (k / 64) (suc n) (omega arith) ∙ sym (le-ltb (k / 64) n le)
                ] in
                rw (list_any-append, rest, off, bound) (or_false _))
          ])
    ]

-- ---- the pairs of all pages

-- no word past a page's groups marks anything
abbrev pub AreClosed : (ℕ → ℕ) → (ℕ → ℕ → ℕ) → Type 0
AreClosed sizes words = (page group : ℕ) → sizes page ≤ group → words page group ≡ 0

-- An index is among the pairs of the first n pages where its page is, and its group's word has its bit.
pub has-grid_pairs : (n : ℕ) (sizes : ℕ → ℕ) (words : ℕ → ℕ → ℕ) (q k : ℕ) → AreClosed sizes words
    → has_pair (grid_pairs n sizes words) q k ≡ (ltb q n && (bit_at (words q (k / 64)) (k % 64) == 1))
has-grid_pairs zero sizes words q k closed = let none : ltb q 0 ≡ false = le-ltb q 0 (omega arith) in rw none refl
has-grid_pairs (suc n) sizes words q k closed =
    let rest = has-grid_pairs n sizes words q k closed in
    let page = has-page_pairs (sizes n) n (words n) q k in
    elim (cases_eq n q) [
      | inr ne ↦ (
          let f : eqb n q ≡ false = ne_eqb n q ne in
          let off : has_pair (page_pairs (sizes n) n (words n)) q k ≡ false = page ∙ rw f refl in
          let bound : ltb q (suc n) ≡ ltb q n =
          elim (cases_lt q n) [
            | inl lt ↦ lt-ltb q (suc n) (omega arith) ∙ sym (lt-ltb q n lt)
            | inr le ↦ le-ltb q (suc n) (omega arith) ∙ sym (le-ltb q n le)
          ] in
          rw (list_any-append, rest, off, bound) (or_false _))
      | inl same ↦ (
          let f : eqb n q ≡ true = eq-eqb n q same in
          let before : ltb q n ≡ false = le-ltb q n (omega arith) in
          let now : ltb q (suc n) ≡ true = lt-ltb q (suc n) (omega arith) in
          let rest' : has_pair (grid_pairs n sizes words) q k ≡ false = rest ∙ rw before refl in
          let own : has_pair (page_pairs (sizes n) n (words n)) q k ≡ (bit_at (words n (k / 64)) (k % 64) == 1) =
          elim (cases_lt (k / 64) (sizes n)) [
            | inl lt ↦ (let on : ltb (k / 64) (sizes n) ≡ true = lt-ltb _ _ lt in page ∙ rw (f, on) refl)
            | inr le ↦ (
                let off : ltb (k / 64) (sizes n) ≡ false = le-ltb _ _ le in
                let none : words n (k / 64) ≡ 0 = closed n (k / 64) le in
                page ∙ rw (f, off, none, bit_at-zero) refl)
          ] in
          let word : words q (k / 64) ≡ words n (k / 64) = ap (λ (p : ℕ). words p (k / 64)) (sym same) in
          rw (list_any-append, rest', own, now, word) refl)
    ]

-- ---- how many pairs a page has

pairs_at-append : (xs ys : List (ℕ × ℕ)) (q : ℕ) → pairs_at (xs ++ ys) q ≡ pairs_at xs q + pairs_at ys q
pairs_at-append xs ys q = sum_by-append (λ (p : ℕ × ℕ). cond (p.0 == q) 1 0) xs ys

-- a word's pairs are of its page, and as many as its set bits
pub pairs_at-word_pairs : (n page group word q : ℕ) → pairs_at (word_pairs n page group word) q ≡ cond (page == q) (count_below n (λ b. bit_at word b == 1)) 0
unfolding count_below bit_pair
pairs_at-word_pairs zero page group word q = elim (cases_Bool (page == q)) [ inl on ↦ rw on refl | inr off ↦ rw off refl ]
pairs_at-word_pairs (suc n) page group word q =
    let rest = pairs_at-word_pairs n page group word q in
    let split = pairs_at-append (word_pairs n page group word) (bit_pair page group word n) q in
    let step : pairs_at (bit_pair page group word n) q ≡ cond (page == q) (one_if (bit_at word n == 1)) 0 =
    elim (cases_Bool (bit_at word n == 1)) [
      | inl on ↦ rw on (elim (cases_Bool (page == q)) [ inl is ↦ rw is refl | inr isnt ↦ rw isnt refl ])
      | inr off ↦ rw off (elim (cases_Bool (page == q)) [ inl is ↦ rw is refl | inr isnt ↦ rw isnt refl ])
    ] in
    elim (cases_Bool (page == q)) [
      | inl is ↦ (let rest' = rw is at rest in let step' = rw is at step in rw is (omega arith))
      | inr isnt ↦ (let rest' = rw isnt at rest in let step' = rw isnt at step in rw isnt (omega arith))
    ]

pub pairs_at-group_pairs : (page group word q : ℕ) → pairs_at (group_pairs ((page, group), word)) q ≡ cond (page == q) (count_below 64 (λ b. bit_at word b == 1)) 0
unfolding group_pairs
pairs_at-group_pairs page group word q = pairs_at-word_pairs 64 page group word q

-- a page's pairs are of no other page
pub pairs_at-page_pairs-other : (n page : ℕ) (words : ℕ → ℕ) (q : ℕ) → (page ≡ q → ⊥) → pairs_at (page_pairs n page words) q ≡ 0
pairs_at-page_pairs-other zero page words q ne = refl
pairs_at-page_pairs-other (suc n) page words q ne =
    let rest = pairs_at-page_pairs-other n page words q ne in
    let f : (page == q) ≡ false = ne_eqb page q ne in
    let group : pairs_at (group_pairs ((page, n), words n)) q ≡ 0 = pairs_at-group_pairs page n (words n) q ∙ rw f refl in
    let split = pairs_at-append (page_pairs n page words) (group_pairs ((page, n), words n)) q in
    omega arith

-- one group more
pub pairs_at-page_more : (n page : ℕ) (words : ℕ → ℕ) → pairs_at (page_pairs (suc n) page words) page ≡ pairs_at (page_pairs n page words) page + count_below 64 (λ b. bit_at (words n) b == 1)
pairs_at-page_more n page words =
    let f : (page == page) ≡ true = eq-eqb page page refl in
    let group : pairs_at (group_pairs ((page, n), words n)) page ≡ count_below 64 (λ b. bit_at (words n) b == 1) = pairs_at-group_pairs page n (words n) page ∙ rw f refl in
    let split = pairs_at-append (page_pairs n page words) (group_pairs ((page, n), words n)) page in
    omega arith

-- Of each page there are as many pairs as its own words mark.
pub pairs_at-grid_pairs : (n : ℕ) (sizes : ℕ → ℕ) (words : ℕ → ℕ → ℕ) (q : ℕ) → pairs_at (grid_pairs n sizes words) q ≡ cond (ltb q n) (pairs_at (page_pairs (sizes q) q (words q)) q) 0
pairs_at-grid_pairs zero sizes words q = let none : ltb q 0 ≡ false = le-ltb q 0 (omega arith) in rw none refl
pairs_at-grid_pairs (suc n) sizes words q =
    let rest = pairs_at-grid_pairs n sizes words q in
    let split = pairs_at-append (grid_pairs n sizes words) (page_pairs (sizes n) n (words n)) q in
    elim (cases_eq n q) [
      | inr ne ↦ (
          let other = pairs_at-page_pairs-other (sizes n) n (words n) q ne in
          let bound : ltb q (suc n) ≡ ltb q n =
          elim (cases_lt q n) [
            | inl lt ↦ lt-ltb q (suc n) (omega arith) ∙ sym (lt-ltb q n lt)
            | inr le ↦ le-ltb q (suc n) (omega arith) ∙ sym (le-ltb q n le)
          ] in
          rw bound (let sum : pairs_at (grid_pairs (suc n) sizes words) q ≡ pairs_at (grid_pairs n sizes words) q = omega arith in sum ∙ rest))
      | inl same ↦ (
          let before : ltb q n ≡ false = le-ltb q n (omega arith) in
          let now : ltb q (suc n) ≡ true = lt-ltb q (suc n) (omega arith) in
          let rest' : pairs_at (grid_pairs n sizes words) q ≡ 0 = rest ∙ rw before refl in
          let own : pairs_at (page_pairs (sizes n) n (words n)) q ≡ pairs_at (page_pairs (sizes q) q (words q)) q = ap (λ (p : ℕ). pairs_at (page_pairs (sizes p) p (words p)) q) same in
          rw now (omega arith))
    ]

-- ---- the pairs rise

AllByRecursion-append : {X : Type 0} (P : X → Type 0) (xs ys : List X) → AllByRecursion P xs → AllByRecursion P ys → AllByRecursion P (xs ++ ys)
AllByRecursion-append P [] ys all rest = rest
AllByRecursion-append P (x ∷ xs) ys all rest = (all.0, AllByRecursion-append P xs ys all.1 rest)

AllByRecursion-map : {X : Type 0} (P Q : X → Type 0) → ((x : X) → P x → Q x) → (xs : List X) → AllByRecursion P xs → AllByRecursion Q xs
AllByRecursion-map P Q f [] all = tt
AllByRecursion-map P Q f (x ∷ xs) all = (f x all.0, AllByRecursion-map P Q f xs all.1)

-- two lists rise together where each rises, and each pair of the first stands before each of the second
rising-append : (xs ys : List (ℕ × ℕ)) → IsRising xs → IsRising ys → AllByRecursion (λ x. AllByRecursion (λ y. pair_cmp x y ≡ Less) ys) xs → IsRising (xs ++ ys)
unfolding IsStrictlySortedBy
rising-append [] ys first second before = second
rising-append (x ∷ xs) ys first second before =
    (AllByRecursion-append (λ y. pair_cmp x y ≡ Less) xs ys first.0 before.0, rising-append xs ys first.1 second before.1)

-- the pairs of a group are those of its page with indices from 64 times its number on, below a bound
InGroup : ℕ → ℕ → ℕ → ℕ × ℕ → Type 0
InGroup n page group p = (p.0 ≡ page) × (64 * group ≤ p.1) × (p.1 < 64 * group + n)

in_group : (n page group word : ℕ) → AllByRecursion (InGroup n page group) (word_pairs n page group word)
unfolding InGroup
in_group zero page group word = tt
in_group (suc n) page group word =
    let before = AllByRecursion-map (InGroup n page group) (InGroup (suc n) page group) (λ p at. (at.0, at.1, omega arith)) (word_pairs n page group word) (in_group n page group word) in
    elim (cases_Bool (bit_at word n == 1)) [
      | inl on ↦ rw on (AllByRecursion-append (InGroup (suc n) page group) (word_pairs n page group word) ((page, 64 * group + n) ∷ []) before ((refl, omega arith, omega arith), tt))
      | inr off ↦ rw off (AllByRecursion-append (InGroup (suc n) page group) (word_pairs n page group word) [] before tt)
    ]

rising-word_pairs : (n page group word : ℕ) → IsRising (word_pairs n page group word)
unfolding IsStrictlySortedBy InGroup
rising-word_pairs zero page group word = tt
rising-word_pairs (suc n) page group word =
    let rest = rising-word_pairs n page group word in
    elim (cases_Bool (bit_at word n == 1)) [
      | inl on ↦ rw on (rising-append (word_pairs n page group word) ((page, 64 * group + n) ∷ []) rest (tt, tt)
          (AllByRecursion-map (InGroup n page group) _ (λ p at. (pair_cmp-index p (page, 64 * group + n) at.0 (omega arith), tt)) (word_pairs n page group word) (in_group n page group word)))
      | inr off ↦ rw off (rising-append (word_pairs n page group word) [] rest tt (AllByRecursion-map (InGroup n page group) _ (λ p at. tt) (word_pairs n page group word) (in_group n page group word)))
    ]

-- the pairs of a page's first n groups have its number and indices below 64 times n
in_page : (n page : ℕ) (words : ℕ → ℕ) → AllByRecursion (λ p. (p.0 ≡ page) × (p.1 < 64 * n)) (page_pairs n page words)
unfolding group_pairs InGroup
in_page zero page words = tt
in_page (suc n) page words =
    AllByRecursion-append (λ p. (p.0 ≡ page) × (p.1 < 64 * suc n)) (page_pairs n page words) (group_pairs ((page, n), words n))
    (AllByRecursion-map _ (λ p. (p.0 ≡ page) × (p.1 < 64 * suc n)) (λ p at. (at.0, (let lt = at.1 in omega arith))) (page_pairs n page words) (in_page n page words))
    (AllByRecursion-map (InGroup 64 page n) (λ p. (p.0 ≡ page) × (p.1 < 64 * suc n)) (λ p at. (at.0, (let lt = at.2 in omega arith))) (group_pairs ((page, n), words n)) (in_group 64 page n (words n)))

rising-page_pairs : (n page : ℕ) (words : ℕ → ℕ) → IsRising (page_pairs n page words)
unfolding group_pairs IsStrictlySortedBy InGroup
rising-page_pairs zero page words = tt
rising-page_pairs (suc n) page words =
    rising-append (page_pairs n page words) (group_pairs ((page, n), words n)) (rising-page_pairs n page words) (rising-word_pairs 64 page n (words n))
    (AllByRecursion-map (λ p. (p.0 ≡ page) × (p.1 < 64 * n)) _
    (λ p at. AllByRecursion-map (InGroup 64 page n) (λ y. pair_cmp p y ≡ Less) (λ y there. pair_cmp-index p y (at.0 ∙ sym there.0) (let lt = at.1 in let le = there.1 in omega arith)) (group_pairs ((page, n), words n)) (in_group 64 page n (words n)))
    (page_pairs n page words) (in_page n page words))

in_grid : (n : ℕ) (sizes : ℕ → ℕ) (words : ℕ → ℕ → ℕ) → AllByRecursion (λ p. p.0 < n) (grid_pairs n sizes words)
in_grid zero sizes words = tt
in_grid (suc n) sizes words =
    AllByRecursion-append (λ p. p.0 < suc n) (grid_pairs n sizes words) (page_pairs (sizes n) n (words n))
    (AllByRecursion-map (λ p. p.0 < n) (λ p. p.0 < suc n) (λ p lt. omega arith) (grid_pairs n sizes words) (in_grid n sizes words))
    (AllByRecursion-map (λ p. (p.0 ≡ n) × (p.1 < 64 * sizes n)) (λ p. p.0 < suc n) (λ p at. (let is = at.0 in omega arith)) (page_pairs (sizes n) n (words n)) (in_page (sizes n) n (words n)))

-- The pairs of all pages rise.
pub rising-grid_pairs : (n : ℕ) (sizes : ℕ → ℕ) (words : ℕ → ℕ → ℕ) → IsRising (grid_pairs n sizes words)
unfolding IsStrictlySortedBy
rising-grid_pairs zero sizes words = tt
rising-grid_pairs (suc n) sizes words =
    rising-append (grid_pairs n sizes words) (page_pairs (sizes n) n (words n)) (rising-grid_pairs n sizes words) (rising-page_pairs (sizes n) n (words n))
    (AllByRecursion-map (λ p. p.0 < n) _
    (λ p lt. AllByRecursion-map (λ y. (y.0 ≡ n) × (y.1 < 64 * sizes n)) (λ y. pair_cmp p y ≡ Less) (λ y at. pair_cmp-page p y (let is = at.0 in omega arith)) (page_pairs (sizes n) n (words n)) (in_page (sizes n) n (words n)))
    (grid_pairs n sizes words) (in_grid n sizes words))

-- ---- pairs that rise are known by which they are

-- a pair that stands before each of a list isn't among them
not-after : (x : ℕ × ℕ) (ys : List (ℕ × ℕ)) → AllByRecursion (λ y. pair_cmp x y ≡ Less) ys → has_pair ys x.0 x.1 ≡ false
not-after x [] all = refl
not-after x (y ∷ ys) all =
    let rest = not-after x ys all.1 in
    let off : (y.0 == x.0 && y.1 == x.1) ≡ false = elim (pair_cmp-Less x y all.0) [
      | inl page ↦ (let f : eqb y.0 x.0 ≡ false = ne_eqb y.0 x.0 (λ e. omega arith) in rw f refl)
      | inr index ↦ (
          let lt = index.1 in
          let g : eqb y.1 x.1 ≡ false = ne_eqb y.1 x.1 (λ e. omega arith) in
          elim (cases_Bool (eqb y.0 x.0)) [ inl on ↦ rw (on, g) refl | inr f ↦ rw f refl ])
    ] in
    rw (off, rest) refl

-- a pair that stands before another stands before all that the other stands before
before-after : (x y : ℕ × ℕ) (zs : List (ℕ × ℕ)) → pair_cmp x y ≡ Less → AllByRecursion (λ z. pair_cmp y z ≡ Less) zs → AllByRecursion (λ z. pair_cmp x z ≡ Less) zs
before-after x y zs first all =
    AllByRecursion-map (λ z. pair_cmp y z ≡ Less) (λ z. pair_cmp x z ≡ Less)
    (λ z second. elim (pair_cmp-Less x y first) [
      | inl a ↦ elim (pair_cmp-Less y z second) [ inl b ↦ pair_cmp-page x z (omega arith) | inr b ↦ (let e = b.0 in pair_cmp-page x z (omega arith)) ]
      | inr a ↦ (
          let e = a.0 in
          let lt = a.1 in
          elim (pair_cmp-Less y z second) [ inl b ↦ pair_cmp-page x z (omega arith) | inr b ↦ (let lt' = b.1 in pair_cmp-index x z (e ∙ b.0) (omega arith)) ])
    ])
    zs all

-- a list's first pair is among its pairs
has-first : (x : ℕ × ℕ) (xs : List (ℕ × ℕ)) → has_pair (x ∷ xs) x.0 x.1 ≡ true
has-first x xs = let f : eqb x.0 x.0 ≡ true = eq-eqb x.0 x.0 refl in let g : eqb x.1 x.1 ≡ true = eq-eqb x.1 x.1 refl in rw (f, g) refl

-- where the first of a rising list stands before that of another, it isn't among the other's
not-in : (x y : ℕ × ℕ) (xs ys : List (ℕ × ℕ)) → pair_cmp x y ≡ Less → AllByRecursion (λ z. pair_cmp y z ≡ Less) ys → ((q k : ℕ) → has_pair (x ∷ xs) q k ≡ has_pair (y ∷ ys) q k) → ⊥
not-in x y xs ys less all same =
    let off : has_pair (y ∷ ys) x.0 x.1 ≡ false = not-after x (y ∷ ys) (less, before-after x y ys less all) in
    both_ways _ off (sym (same x.0 x.1) ∙ has-first x xs)

-- where the first pairs are the same, so are the pairs behind them
tails : (x : ℕ × ℕ) (xs ys : List (ℕ × ℕ)) → AllByRecursion (λ z. pair_cmp x z ≡ Less) xs → AllByRecursion (λ z. pair_cmp x z ≡ Less) ys
    → ((q k : ℕ) → has_pair (x ∷ xs) q k ≡ has_pair (x ∷ ys) q k) → (q k : ℕ) → has_pair xs q k ≡ has_pair ys q k
tails x xs ys first second same q k =
    elim (cases_Bool (x.0 == q && x.1 == k)) [
      | inl on ↦ (
          let parts = and_parts (x.0 == q) (x.1 == k) on in
          let page : x.0 ≡ q = eqb-true x.0 q parts.0 in
          let index : x.1 ≡ k = eqb-true x.1 k parts.1 in
          let a : has_pair xs q k ≡ false = sym (λ i. has_pair xs (page i) (index i)) ∙ not-after x xs first in
          let b : has_pair ys q k ≡ false = sym (λ i. has_pair ys (page i) (index i)) ∙ not-after x ys second in
          a ∙ sym b)
      | inr off ↦ (let h = same q k in rw off at h)
    ]

-- a pair after another is one that the other stands before
flipped : (x y : ℕ × ℕ) → pair_cmp x y ≡ Greater → pair_cmp y x ≡ Less
flipped x y is =
    elim (cases_lt y.0 x.0) [
      | inl lt ↦ pair_cmp-page y x lt
      | inr le ↦ elim (cases_eq x.0 y.0) [
        | inr ne ↦ (let less : pair_cmp x y ≡ Less = pair_cmp-page x y (omega arith) in cc)
        | inl page ↦ elim (cases_lt y.1 x.1) [
          | inl lt ↦ pair_cmp-index y x (sym page) lt
          | inr le' ↦ elim (cases_eq x.1 y.1) [
            | inr ne ↦ (let less : pair_cmp x y ≡ Less = pair_cmp-index x y page (omega arith) in cc)
            | inl index ↦ (
                let e : nat_cmp x.0 y.0 ≡ Equal = sym (nat_cmp_is x.0 y.0 Equal page) in
                let f : nat_cmp x.1 y.1 ≡ Equal = sym (nat_cmp_is x.1 y.1 Equal index) in
                let equal : pair_cmp x y ≡ Equal = rw (e, f) refl in
                cc)
          ]
        ]
      ]
    ]

-- Two rising lists with the same pairs are the same.
pub rising-one : (xs ys : List (ℕ × ℕ)) → IsRising xs → IsRising ys → ((q k : ℕ) → has_pair xs q k ≡ has_pair ys q k) → xs ≡ ys
unfolding IsStrictlySortedBy
rising-one [] [] first second same = refl
rising-one [] (y ∷ ys) first second same = absurd (both_ways _ (sym (same y.0 y.1)) (has-first y ys))
rising-one (x ∷ xs) [] first second same = absurd (both_ways _ (same x.0 x.1) (has-first x xs))
rising-one (x ∷ xs) (y ∷ ys) first second same = by (pair_cmp x y) refl (rising-one xs ys first.1 second.1)
  where
    by : (r : Ordering) → pair_cmp x y ≡ r → (((q k : ℕ) → has_pair xs q k ≡ has_pair ys q k) → xs ≡ ys) → x ∷ xs ≡ y ∷ ys
    by Less is rest = absurd (not-in x y xs ys is second.0 same)
    by Greater is rest = absurd (not-in y x ys xs (flipped x y is) first.0 (λ q k. sym (same q k)))
    by Equal is rest =
        let e : x ≡ y = pair_cmp_exact x y is in
        let all : xs ≡ ys = rest (tails x xs ys first.0 (subst (λ (p : ℕ × ℕ). AllByRecursion (λ z. pair_cmp p z ≡ Less) ys) (sym e) second.0)
        (λ q k. same q k ∙ ap (λ (p : ℕ × ℕ). has_pair (p ∷ ys) q k) (sym e))) in
        (λ i. e i ∷ all i)

-- ---- pairs pushed from set bit to set bit

-- a word without its bit k
abbrev pub without : ℕ → ℕ → ℕ
without word k = bit_and word (bit_not w64 (1 * 2 ^ k % 2 ^ 64))

-- bits that are all off mark nothing
pub no-pairs : (n page group word : ℕ) → ((i : ℕ) → i < n → bit_at word i ≡ 0) → word_pairs n page group word ≡ []
no-pairs zero page group word off = refl
no-pairs (suc n) page group word off =
    let rest = no-pairs n page group word (λ i lt. off i (omega arith)) in
    let b : (bit_at word n == 1) ≡ false = rw (off n (omega arith)) refl in
    rw (rest, b) refl

-- the lowest bit's pair comes first, and then come those of the word without it
pub lowest-first : (n page group word k : ℕ) → n ≤ 64 → k < n → bit_at word k ≡ 1 → ((i : ℕ) → i < k → bit_at word i ≡ 0)
    → word_pairs n page group word ≡ (page, 64 * group + k) ∷ word_pairs n page group (without word k)
lowest-first zero page group word k few lt on below = absurd (omega arith)
lowest-first (suc n) page group word k few lt on below =
    elim (cases_eq n k) [
      | inl same ↦ (
          let none = no-pairs n page group word (λ i less. below i (omega arith)) in
          let left = no-pairs n page group (without word k) (λ i less. bit_at_clear_other w64 word k (omega arith) i (omega arith) (λ e. omega arith) ∙ below i (omega arith)) in
          let gone : bit_at (without word k) n ≡ 0 = rw same (bit_at_clear_same w64 word k (omega arith)) in
          let b : (bit_at word n == 1) ≡ true = rw (same, on) refl in
          let c : (bit_at (without word k) n == 1) ≡ false = rw gone refl in
          rw (none, left, b, c, same) refl)
      | inr other ↦ (
          let rest = lowest-first n page group word k (omega arith) (omega arith) on below in
          let kept : bit_at (without word k) n ≡ bit_at word n = bit_at_clear_other w64 word k (omega arith) n (omega arith) other in
          rw (rest, kept) refl)
    ]

-- with the lowest bit's pair pushed, the pairs of the bits left follow
pub pushed-lowest : (all pairs new : List (ℕ × ℕ)) (page group word k : ℕ) → k < 64 → bit_at word k ≡ 1 → ((i : ℕ) → i < k → bit_at word i ≡ 0)
    → pairs ++ group_pairs ((page, group), word) ≡ all → new ≡ pairs ++ (page, 64 * group + k) ∷ [] → new ++ group_pairs ((page, group), without word k) ≡ all
unfolding group_pairs
pushed-lowest all pairs new page group word k lt on below so_far push =
    let first = lowest-first 64 page group word k (omega arith) lt on below in
    ap (λ (ps : List (ℕ × ℕ)). ps ++ word_pairs 64 page group (without word k)) push
    ∙ append_assoc pairs ((page, 64 * group + k) ∷ []) (word_pairs 64 page group (without word k))
    ∙ ap (λ (ps : List (ℕ × ℕ)). pairs ++ ps) (sym first) ∙ so_far

-- no pair is left
pub pushed-all : (all pairs left : List (ℕ × ℕ)) → length left ≡ 0 → pairs ++ left ≡ all → pairs ≡ all
pushed-all all pairs [] none so_far = sym (append-nil pairs) ∙ so_far
pushed-all all pairs (p ∷ left) none so_far = absurd (omega arith)

-- the lowest bit's pair is one more than those of the word without it
pub length-lowest : (page group word k : ℕ) → k < 64 → bit_at word k ≡ 1 → ((i : ℕ) → i < k → bit_at word i ≡ 0)
    → length (group_pairs ((page, group), word)) ≡ suc (length (group_pairs ((page, group), without word k)))
unfolding group_pairs
length-lowest page group word k lt on below = ap (λ (ps : List (ℕ × ℕ)). length ps) (lowest-first 64 page group word k (omega arith) lt on below)

-- a word with no bit has no pairs
length-none : (page group word : ℕ) → word ≡ 0 → length (group_pairs ((page, group), word)) ≡ 0
unfolding group_pairs
length-none page group word none = ap (λ (ps : List (ℕ × ℕ)). length ps) (no-pairs 64 page group word (λ i lt. rw none (bit_at-zero i)))

-- a word with pairs has a bit
pub some-bit : (page group word : ℕ) → 0 < length (group_pairs ((page, group), word)) → 0 < word
some-bit page group word some =
    elim (cases_eq word 0) [
      | inl none ↦ (let nothing = length-none page group word none in omega arith)
      | inr bit ↦ omega arith
    ]

-- a word has as many pairs as set bits
length-word_pairs : (n page group word : ℕ) → length (word_pairs n page group word) ≡ count_below n (λ b. bit_at word b == 1)
unfolding count_below bit_pair
length-word_pairs zero page group word = refl
length-word_pairs (suc n) page group word =
    let rest = length-word_pairs n page group word in
    let split = length-append (word_pairs n page group word) (bit_pair page group word n) in
    elim (cases_Bool (bit_at word n == 1)) [
      | inl on ↦ (let split' = rw on at split in rw on (omega arith))
      | inr off ↦ (let split' = rw off at split in rw off (omega arith))
    ]

pub length-group_pairs : (page group word : ℕ) → word < 2 ^ 64 → length (group_pairs ((page, group), word)) ≡ ones word
unfolding group_pairs
length-group_pairs page group word fits = length-word_pairs 64 page group word ∙ sym (ones-count 64 word fits)

-- all pairs of a page's words are of the page
pub length-page_pairs-own : (n page : ℕ) (words : ℕ → ℕ) → length (page_pairs n page words) ≡ pairs_at (page_pairs n page words) page
unfolding group_pairs
length-page_pairs-own zero page words = refl
length-page_pairs-own (suc n) page words =
    let rest = length-page_pairs-own n page words in
    let split = length-append (page_pairs n page words) (group_pairs ((page, n), words n)) in
    let more = pairs_at-page_more n page words in
    let here = length-word_pairs 64 page n (words n) in
    omega arith

-- the first pages and groups have no more pairs than all of them
pub length-page_pairs : (n m page : ℕ) (words : ℕ → ℕ) → n ≤ m → length (page_pairs n page words) ≤ length (page_pairs m page words)
length-page_pairs n zero page words le = let is : n ≡ 0 = omega arith in rw is (omega arith)
length-page_pairs n (suc m) page words le =
    elim (cases_lt n (suc m)) [
      | inl lt ↦ (
          let rest = length-page_pairs n m page words (omega arith) in
          let split = length-append (page_pairs m page words) (group_pairs ((page, m), words m)) in
          omega arith)
      | inr ge ↦ (let is : n ≡ suc m = omega arith in rw is (omega arith))
    ]

pub length-grid_pairs : (n m : ℕ) (sizes : ℕ → ℕ) (words : ℕ → ℕ → ℕ) → n ≤ m → length (grid_pairs n sizes words) ≤ length (grid_pairs m sizes words)
length-grid_pairs n zero sizes words le = let is : n ≡ 0 = omega arith in rw is (omega arith)
length-grid_pairs n (suc m) sizes words le =
    elim (cases_lt n (suc m)) [
      | inl lt ↦ (
          let rest = length-grid_pairs n m sizes words (omega arith) in
          let split = length-append (grid_pairs m sizes words) (page_pairs (sizes m) m (words m)) in
          omega arith)
      | inr ge ↦ (let is : n ≡ suc m = omega arith in rw is (omega arith))
    ]

-- ---- a word with all bits set

-- each bit marks one pair more
pub all-more : (n page group : ℕ) → n < 64 → word_pairs (suc n) page group (2 ^ 64 - 1) ≡ word_pairs n page group (2 ^ 64 - 1) ++ (page, 64 * group + n) ∷ []
all-more n page group lt =
    let on : (bit_at (2 ^ 64 - 1) n == 1) ≡ true = rw (bit_at_ones 64 n lt) refl in
    rw on refl

length-all-to : (n page group : ℕ) → n ≤ 64 → length (word_pairs n page group (2 ^ 64 - 1)) ≡ n
length-all-to zero page group few = refl
length-all-to (suc n) page group few =
    let rest = length-all-to n page group (omega arith) in
    let more = ap (λ (ps : List (ℕ × ℕ)). length ps) (all-more n page group (omega arith)) in
    let split = length-append (word_pairs n page group (2 ^ 64 - 1)) ((page, 64 * group + n) ∷ []) in
    omega arith

pub length-all : (page group : ℕ) → length (group_pairs ((page, group), 2 ^ 64 - 1)) ≡ 64
unfolding group_pairs
length-all page group = length-all-to 64 page group (omega arith)

-- the pair of the next bit is pushed
pub pushed-bit : (old pairs new : List (ℕ × ℕ)) (n page group : ℕ) → n < 64 → pairs ≡ old ++ word_pairs n page group (2 ^ 64 - 1) → new ≡ pairs ++ (page, 64 * group + n) ∷ []
    → new ≡ old ++ word_pairs (n + 1) page group (2 ^ 64 - 1)
pushed-bit old pairs new n page group lt so_far push =
    let next : n + 1 ≡ suc n = omega arith in
    push ∙ ap (λ (ps : List (ℕ × ℕ)). ps ++ (page, 64 * group + n) ∷ []) so_far ∙ append_assoc old (word_pairs n page group (2 ^ 64 - 1)) ((page, 64 * group + n) ∷ [])
    ∙ ap (λ (ps : List (ℕ × ℕ)). old ++ ps) (sym (all-more n page group lt)) ∙ ap (λ (m : ℕ). old ++ word_pairs m page group (2 ^ 64 - 1)) (sym next)

-- the pairs of all bits are pushed
pub pushed-bits : (old pairs : List (ℕ × ℕ)) (n page group : ℕ) → n ≡ 64 → pairs ≡ old ++ word_pairs n page group (2 ^ 64 - 1) → pairs ≡ old ++ group_pairs ((page, group), 2 ^ 64 - 1)
unfolding group_pairs
pushed-bits old pairs n page group all so_far = so_far ∙ ap (λ (m : ℕ). old ++ word_pairs m page group (2 ^ 64 - 1)) all

-- there is room for the next
pub room-bit : (old pairs : List (ℕ × ℕ)) (n page group room : ℕ) → n < 64 → pairs ≡ old ++ word_pairs n page group (2 ^ 64 - 1) → length old + 64 ≤ room → length pairs < room
room-bit old pairs n page group room lt so_far all =
    let long = ap (λ (ps : List (ℕ × ℕ)). length ps) so_far in
    let split = length-append old (word_pairs n page group (2 ^ 64 - 1)) in
    let few = length-all-to n page group (omega arith) in
    omega arith

-- ---- a word less one

-- bits from the lowest set one on
minus-at : (k word : ℕ) → bit_at word k ≡ 1 → ((i : ℕ) → i < k → bit_at word i ≡ 0) → bit_at (word - 1) k ≡ 0
minus-at zero word on below =
    let odd : word % 2 ≡ 1 = sym (bit_at_lowest word) ∙ on in
    let left : (word - 1) % 2 ≡ 0 = omega arith in
    bit_at_lowest (word - 1) ∙ left
minus-at (suc k) word on below =
    let even : word % 2 ≡ 0 = sym (bit_at_lowest word) ∙ below 0 (omega arith) in
    let half : (word - 1) / 2 ≡ word / 2 - 1 = omega arith in
    bit_at-suc (word - 1) k ∙ ap (λ (n : ℕ). bit_at n k) half
    ∙ minus-at k (word / 2) (sym (bit_at-suc word k) ∙ on) (λ i lt. sym (bit_at-suc word i) ∙ below (suc i) (omega arith))

minus-above : (k i word : ℕ) → bit_at word k ≡ 1 → ((j : ℕ) → j < k → bit_at word j ≡ 0) → k < i → bit_at (word - 1) i ≡ bit_at word i
minus-above k zero word on below lt = absurd (omega arith)
minus-above zero (suc i) word on below lt =
    let odd : word % 2 ≡ 1 = sym (bit_at_lowest word) ∙ on in
    let half : (word - 1) / 2 ≡ word / 2 = omega arith in
    bit_at-suc (word - 1) i ∙ ap (λ (n : ℕ). bit_at n i) half ∙ sym (bit_at-suc word i)
minus-above (suc k) (suc i) word on below lt =
    let even : word % 2 ≡ 0 = sym (bit_at_lowest word) ∙ below 0 (omega arith) in
    let half : (word - 1) / 2 ≡ word / 2 - 1 = omega arith in
    bit_at-suc (word - 1) i ∙ ap (λ (n : ℕ). bit_at n i) half
    ∙ minus-above k i (word / 2) (sym (bit_at-suc word k) ∙ on) (λ j less. sym (bit_at-suc word j) ∙ below (suc j) (omega arith)) (omega arith)
    ∙ sym (bit_at-suc word i)

-- the bits that a word has in common with the number before it are all but the lowest set one
pub without-lowest : (word k : ℕ) → word < 2 ^ 64 → k < 64 → bit_at word k ≡ 1 → ((i : ℕ) → i < k → bit_at word i ≡ 0) → bit_and word (word - 1) ≡ without word k
without-lowest word k fits lt on below =
    let small = and_le_l word (word - 1) in
    let small' = and_le_l word (bit_not w64 (1 * 2 ^ k % 2 ^ 64)) in
    same_from_bits_below 64 (bit_and word (word - 1)) (without word k) (omega arith) (omega arith) (λ i inside. (
    let both = bit_at_and word (word - 1) i in
    elim (cases_eq i k) [
      | inl same ↦ (
          let off : bit_at (word - 1) i ≡ 0 = ap (λ (n : ℕ). bit_at (word - 1) n) same ∙ minus-at k word on below in
          let gone : bit_at (without word k) i ≡ 0 = ap (λ (n : ℕ). bit_at (without word k) n) same ∙ bit_at_clear_same w64 word k lt in
          omega arith)
      | inr other ↦ (
          let kept : bit_at (without word k) i ≡ bit_at word i = bit_at_clear_other w64 word k lt i inside other in
          elim (cases_lt i k) [
            | inl less ↦ (let off = below i less in omega arith)
            | inr past ↦ (let same = minus-above k i word on below (omega arith) in omega arith)
          ])
    ]))

-- ---- how many there are, and the room for them

-- one group more is counted
pub marks-more : (row : List ℕ) (group page marks word : ℕ) → marks ≡ length (page_pairs group page (λ g. get_or row g 0)) → word ≡ get_or row group 0 → word < 2 ^ 64
    → marks + ones word ≡ length (page_pairs (group + 1) page (λ g. get_or row g 0))
marks-more row group page marks word so_far is fits =
    let next : group + 1 ≡ suc group = omega arith in
    let more = length-group_pairs page group word fits in
    let same : length (group_pairs ((page, group), word)) ≡ length (group_pairs ((page, group), get_or row group 0)) = ap (λ (w : ℕ). length (group_pairs ((page, group), w))) is in
    let split = length-append (page_pairs group page (λ g. get_or row g 0)) (group_pairs ((page, group), get_or row group 0)) in
    rw next (omega arith)

-- where there is room for all groups of a page, there is room for the next
pub room-group : (row : List ℕ) (group page word room : ℕ) (old pairs : List (ℕ × ℕ)) → group < length row → word ≡ get_or row group 0 → pairs ≡ old ++ page_pairs group page (λ g. get_or row g 0)
    → length old + length (page_pairs (length row) page (λ g. get_or row g 0)) ≤ room → length pairs + length (group_pairs ((page, group), word)) ≤ room
room-group row group page word room old pairs lt is so_far all =
    let more = length-page_pairs (suc group) (length row) page (λ g. get_or row g 0) (omega arith) in
    let split = length-append (page_pairs group page (λ g. get_or row g 0)) (group_pairs ((page, group), get_or row group 0)) in
    let long = ap (λ (ps : List (ℕ × ℕ)). length ps) so_far in
    let both = length-append old (page_pairs group page (λ g. get_or row g 0)) in
    rw is (omega arith)

-- one group more is pushed
pub pushed-group : (row : List ℕ) (group next page word : ℕ) (old pairs new : List (ℕ × ℕ)) → next ≡ suc group → word ≡ get_or row group 0 → pairs ≡ old ++ page_pairs group page (λ g. get_or row g 0)
    → new ≡ pairs ++ group_pairs ((page, group), word) → new ≡ old ++ page_pairs next page (λ g. get_or row g 0)
pushed-group row group next page word old pairs new one is so_far push =
    push ∙ ap (λ (w : ℕ). pairs ++ group_pairs ((page, group), w)) is ∙ ap (λ (ps : List (ℕ × ℕ)). ps ++ group_pairs ((page, group), get_or row group 0)) so_far
    ∙ append_assoc old (page_pairs group page (λ g. get_or row g 0)) (group_pairs ((page, group), get_or row group 0))
    ∙ ap (λ (n : ℕ). old ++ page_pairs n page (λ g. get_or row g 0)) (sym one)

-- where there is room for all pages, there is room for the next
pub room-page : (rows : List (List ℕ)) (row : List ℕ) (page room : ℕ) (pairs : List (ℕ × ℕ)) → page < length rows → row ≡ row_of rows page
    → pairs ≡ grid_pairs page (λ q. length (row_of rows q)) (word_of rows) → length (pairs_of rows) ≤ room → length pairs + length (page_pairs (length row) page (λ g. get_or row g 0)) ≤ room
room-page rows row page room pairs lt is so_far all =
    let more = length-grid_pairs (suc page) (length rows) (λ q. length (row_of rows q)) (word_of rows) (omega arith) in
    let split = length-append (grid_pairs page (λ q. length (row_of rows q)) (word_of rows)) (page_pairs (length (row_of rows page)) page (word_of rows page)) in
    let long = ap (λ (ps : List (ℕ × ℕ)). length ps) so_far in
    rw is (omega arith)
