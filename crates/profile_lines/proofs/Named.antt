-- Buckets with different numbers are different.
use Rattle.std.proofs.Common.{◌≡◌, ℕ, zero, suc, ◌<◌, true, false, List, [], ◌∷◌, length, get_or, Some, refl, sym, ◌∙◌, ap, arith, inl, inr}
use Rattle.std.specs.Prelude.{fold, position}
use Rattle.std.specs.List.{list_any, position_or_len}
use Rattle.std.proofs.Math.Dec.{eqb}
use Rattle.std.proofs.lemmas.Bool.{cases_Bool, cases_eq, eq-eqb, ne_eqb, lt-ltb}
use Rattle.page_alloc.specs.Lists.{In}
use Rattle.profile_cycle.specs.declared.buckets.Bucket.{Bucket}
use Rattle.profile_cycle.specs.Naming.{buckets_of, is_same, named}
use Rattle.run_laws.proofs.Lists.{apart-append}
use Rattle.profile_lines.specs.Read.{AreDifferent, no_bucket, bucket_at}
use Rattle.profile_lines.proofs.Reading.{in-at}

-- ---- the test of two buckets

eqb-swap : (x y : ℕ) → eqb x y ≡ eqb y x
eqb-swap x y = elim (cases_eq x y) [
  | inl same ↦ eq-eqb x y same ∙ sym (eq-eqb y x (sym same))
  | inr other ↦ ne_eqb x y other ∙ sym (ne_eqb y x (λ e. other (sym e)))
]

pub same-swap : (a b : Bucket) → is_same a b ≡ is_same b a
same-swap a b = let stack = eqb-swap a.stack b.stack in let slot = eqb-swap a.slot b.slot in rw (stack, slot) refl

pub same-itself : (a : Bucket) → is_same a a ≡ true
same-itself a = let stack = eq-eqb a.stack a.stack refl in let slot = eq-eqb a.slot a.slot refl in rw (stack, slot) refl

-- ---- the buckets of a trace

none-same : (p : Bucket) (known : List Bucket) → list_any (is_same p) known ≡ false → (a : Bucket) → In a known → is_same p a ≡ false
none-same p [] none a h = absurd h
none-same p (b ∷ known) none a h = elim (cases_Bool (is_same p b)) [
  | inl on ↦ (let no : list_any (is_same p) (b ∷ known) ≡ true = rw on refl in cc)
  | inr off ↦ elim h [
    | inl here ↦ (let e = ap (λ (x : Bucket). is_same p x) here in sym e ∙ off)
    | inr there ↦ none-same p known (let rest : list_any (is_same p) (b ∷ known) ≡ list_any (is_same p) known = rw off refl in sym rest ∙ none) a there
  ]
]

named-differ : (known : List Bucket) (p : Bucket) → AreDifferent known → AreDifferent (named known p)
named-differ known p apart = elim (cases_Bool (list_any (is_same p) known)) [
  | inl on ↦ rw on apart
  | inr off ↦ rw off (apart-append (λ (a b : Bucket). is_same a b ≡ false) known (p ∷ []) apart ((λ y h. absurd h), tt)
      (λ a b ha hb. elim hb [
        | inl here ↦ ap (λ (x : Bucket). is_same a x) (sym here) ∙ same-swap a p ∙ none-same p known off a ha
        | inr none ↦ absurd none
      ]))
]

fold-differ : (pairs known : List Bucket) → AreDifferent known → AreDifferent (fold named known pairs)
fold-differ [] known apart = apart
fold-differ (p ∷ pairs) known apart = fold-differ pairs (named known p) (named-differ known p apart)

pub all-differ : (pairs : List Bucket) → AreDifferent (buckets_of pairs)
all-differ pairs = fold-differ pairs [] tt

-- ---- numbers

pub differ-at : (buckets : List Bucket) (i j : ℕ) → AreDifferent buckets → i < j → j < length buckets → is_same (bucket_at buckets i) (bucket_at buckets j) ≡ false
differ-at [] i j apart less lt = absurd (omega arith)
differ-at (b ∷ buckets) zero zero apart less lt = absurd (omega arith)
differ-at (b ∷ buckets) zero (suc j) apart less lt = apart.0 (get_or buckets j no_bucket) (in-at buckets j no_bucket (omega arith))
differ-at (b ∷ buckets) (suc i) zero apart less lt = absurd (omega arith)
differ-at (b ∷ buckets) (suc i) (suc j) apart less lt = differ-at buckets i j apart.1 (omega arith) (omega arith)

first-place : (p : Bucket) (buckets : List Bucket) (n : ℕ) → n < length buckets → is_same p (bucket_at buckets n) ≡ true → ((j : ℕ) → j < n → is_same p (bucket_at buckets j) ≡ false)
    → position_or_len (is_same p) buckets ≡ n
first-place p [] n lt is others = absurd (omega arith)
first-place p (b ∷ buckets) zero lt is others = rw is refl
first-place p (b ∷ buckets) (suc n) lt is others =
    let off : is_same p b ≡ false = others 0 (omega arith) in
    let rest = first-place p buckets n (omega arith) is (λ j less. others (suc j) (omega arith)) in
    rw off (omega arith)

-- the number of a bucket is its place
pub number-at : (buckets : List Bucket) (n : ℕ) → AreDifferent buckets → n < length buckets → position (is_same (bucket_at buckets n)) buckets ≡ Some n
number-at buckets n apart lt =
    let at = first-place (bucket_at buckets n) buckets n lt (same-itself (bucket_at buckets n)) (λ j less. (same-swap (bucket_at buckets n) (bucket_at buckets j) ∙ differ-at buckets j n apart less lt)) in
    let inside = lt-ltb n (length buckets) lt in
    rw (at, inside) refl
