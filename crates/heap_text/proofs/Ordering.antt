-- The lines of the buckets, sorted, stand in their order; and they may be the lines of a text.
use Rattle.std.proofs.Common.{◌≡◌, ◌≢◌, ℕ, zero, suc, ◌+◌, ◌-◌, ◌*◌, ◌^◌, ◌<◌, ◌≤◌, Bool, true, false, eqb, nat_lt, List, [], ◌∷◌, ◌++◌, map, length, take, get_or, add-one, refl, sym, ◌∙◌, ap, arith, ◌⊎◌, inl, inr, subst}
use Rattle.std.specs.List.{AllByRecursion, sum_by}
use Rattle.std.specs.List.Sorted.{IsPermutation, IsSortedByKey}
use Rattle.std.specs.declared.cmp.Ordering.{Ordering}
use Rattle.std.specs.Ordering.{nat_cmp, ordering_then, is_lt}
use Rattle.std.proofs.lemmas.Bool.{cases_lt, cases_eq, lt-ltb, le-ltb, eq-eqb, ne_eqb}
use Rattle.std.proofs.lemmas.Cmp.{nat_cmp_total, on_total, then_total}
use Rattle.std.proofs.lemmas.List.Sums.{sum_by-cons}
use Rattle.std.proofs.lemmas.List.Sorted.{IsPermutation-sym, sum_by-IsPermutation, sorted_far, ranks_by}
use Rattle.page_alloc.specs.Lists.{In, AllApart, one_if}
use Rattle.profile_cycle.specs.declared.buckets.Bucket.{Bucket}
use Rattle.profile_cycle.specs.declared.counts.Count.{Count}
use Rattle.cycle_history.proofs.InLists.{from-in, from-permutation, in-map, from-map, map-apart, from-places, in-more, in-front, in-last}
use Rattle.heap_text.specs.declared.order.Ranked.{Ranked}
use Rattle.heap_text.specs.declared.text.HeapLine.{HeapLine}
use Rattle.heap_text.specs.Lawful.{AreFalling, AreLawful, IsLawfulLine}
use Rattle.heap_text.specs.Counting.{IsLimitedBucket, count_at, no_count, ranked_to}
use Rattle.heap_text.specs.Published.{AreOrdered, IsBefore, bucket_at, told_of}

-- ---- numbers that no two items share

abbrev many-at : ℕ → List Ranked → ℕ
many-at p xs = sum_by (λ (x : Ranked). one_if (eqb x.number p)) xs

some-at : (xs : List Ranked) (y : Ranked) → In y xs → 1 ≤ many-at y.number xs
some-at [] y h = absurd h
some-at (x ∷ xs) y h =
    let split = sum_by-cons (λ (z : Ranked). one_if (eqb z.number y.number)) x xs in
    elim h [
      | inl here ↦ (let one : one_if (eqb x.number y.number) ≡ 1 = ap one_if (eq-eqb x.number y.number (ap (λ (z : Ranked). z.number) here)) in omega arith)
      | inr there ↦ (let rest = some-at xs y there in omega arith)
    ]

apart-at : (xs : List Ranked) → ((p : ℕ) → many-at p xs ≤ 1) → AllApart (λ (a b : Ranked). a.number ≢ b.number) xs
apart-at [] few = tt
apart-at (x ∷ xs) few = (
  (λ y h e. (
      let split = sum_by-cons (λ (z : Ranked). one_if (eqb z.number y.number)) x xs in
      let one : one_if (eqb x.number y.number) ≡ 1 = ap one_if (eq-eqb x.number y.number e) in
      let more = some-at xs y h in
      let most = few y.number in
      omega arith)),
  apart-at xs (λ p. (let split = sum_by-cons (λ (z : Ranked). one_if (eqb z.number p)) x xs in let most = few p in omega arith)),
)

-- ---- the lines in the order of their buckets' numbers

record IsRanked (line : ℕ → HeapLine) (n : ℕ) (x : Ranked) : Type 0 where
  below : x.number < n
  some : 1 ≤ (line x.number).all_objects
  is : x.line ≡ line x.number

from-ranked : (line : ℕ → HeapLine) (n : ℕ) (x : Ranked) → In x (ranked_to line n) → IsRanked line n x
from-ranked line zero x h = absurd h
from-ranked line (suc n) x h = at (λ i. from-ranked line n x i) (nat_lt 0 (line n).all_objects) refl where
  older : IsRanked line n x → IsRanked line (suc n) x
  older r = record { below = (let lt = r.below in omega arith); some = r.some; is = r.is }

  at : (In x (ranked_to line n) → IsRanked line n x) → (b : Bool) → nat_lt 0 (line n).all_objects ≡ b → IsRanked line (suc n) x
  at from false off = older (from (rw off at h))
  at from true on =
      let here : In x (ranked_to line n ++ record { line = line n; number = n } ∷ []) = rw on at h in
      elim (in-more x (record { line = line n; number = n }) (ranked_to line n) here) [
        | inl old ↦ older (from old)
        | inr new ↦ subst (IsRanked line (suc n)) new (record { below = omega arith; some = Rattle.std.proofs.lemmas.Bool.ltb-true 0 (line n).all_objects on; is = refl })
      ]

to-ranked : (line : ℕ → HeapLine) (n k : ℕ) → k < n → 1 ≤ (line k).all_objects → In (record { line = line k; number = k }) (ranked_to line n)
to-ranked line zero k lt some = absurd (omega arith)
to-ranked line (suc n) k lt some = at (λ less. to-ranked line n k less some) (nat_lt 0 (line n).all_objects) refl (cases_lt k n) where
  at : (k < n → In (record { line = line k; number = k }) (ranked_to line n)) → (b : Bool) → nat_lt 0 (line n).all_objects ≡ b → (k < n) ⊎ (n ≤ k) → In (record { line = line k; number = k }) (ranked_to line (suc n))
  at to false off (inl less) = rw off (to less)
  at to false off (inr ge) = (let same : k ≡ n = omega arith in let on : nat_lt 0 (line n).all_objects ≡ true = ap (λ (j : ℕ). nat_lt 0 (line j).all_objects) (sym same) ∙ lt-ltb 0 (line k).all_objects some in let clash : true ≡ false = sym on ∙ off in absurd cc)
  at to true on (inl less) = rw on (in-front (record { line = line k; number = k }) (record { line = line n; number = n }) (ranked_to line n) (to less))
  at to true on (inr ge) =
      let same : n ≡ k = omega arith in
      rw on (subst (λ (j : ℕ). In (record { line = line j; number = j }) (ranked_to line n ++ record { line = line n; number = n } ∷ [])) same (in-last (record { line = line n; number = n }) (ranked_to line n)))

few-ranked : (line : ℕ → HeapLine) (n p : ℕ) → many-at p (ranked_to line n) ≤ one_if (nat_lt p n)
few-ranked line zero p = omega arith
few-ranked line (suc n) p = at (few-ranked line n p) (nat_lt 0 (line n).all_objects) refl where
  wider : one_if (nat_lt p n) ≤ one_if (nat_lt p (suc n))
  wider = elim (cases_lt p n) [
    | inl less ↦ (let a = ap one_if (lt-ltb p n less) in let b = ap one_if (lt-ltb p (suc n) (omega arith)) in omega arith)
    | inr ge ↦ (let a = ap one_if (le-ltb p n ge) in omega arith)
  ]

  at : many-at p (ranked_to line n) ≤ one_if (nat_lt p n) → (b : Bool) → nat_lt 0 (line n).all_objects ≡ b → many-at p (ranked_to line (suc n)) ≤ one_if (nat_lt p (suc n))
  at old false off = (let e : ranked_to line (suc n) ≡ ranked_to line n = rw off refl in let f = ap (λ (xs : List Ranked). many-at p xs) e in let w = wider in omega arith)
  at old true on =
      let e : ranked_to line (suc n) ≡ ranked_to line n ++ record { line = line n; number = n } ∷ [] = rw on refl in
      let f = ap (λ (xs : List Ranked). many-at p xs) e in
      let g = Rattle.std.proofs.lemmas.List.Sums.sum_by_push (λ (x : Ranked). one_if (eqb x.number p)) (ranked_to line n) (record { line = line n; number = n }) in
      elim (cases_eq n p) [
        | inl same ↦ (
            let one : one_if (eqb n p) ≡ 1 = ap one_if (eq-eqb n p same) in
            let none = ap one_if (le-ltb p n (omega arith)) in
            let yes = ap one_if (lt-ltb p (suc n) (omega arith)) in
            omega arith)
        | inr other ↦ (let none : one_if (eqb n p) ≡ 0 = ap one_if (ne_eqb n p other) in let w = wider in omega arith)
      ]

one-at-most : (b : Bool) → one_if b ≤ 1
one-at-most true = omega arith
one-at-most false = omega arith

-- ---- sorted

abbrev pub key : Ranked → ℕ × ℕ
key x = (2 ^ 64 - 1 - x.line.bytes, x.number)

abbrev pub pair_cmp : ℕ × ℕ → ℕ × ℕ → Ordering
pair_cmp x y = ordering_then (nat_cmp x.0 y.0) (nat_cmp x.1 y.1)

not-less : (a b x y : ℕ) → is_lt (ordering_then (nat_cmp x a) (nat_cmp y b)) ≡ false → (a < x) ⊎ ((a ≡ x) × (b ≤ y))
not-less a b x y isnt = elim (cases_lt x a) [
  | inl less ↦ (let on = lt-ltb x a less in let yes : is_lt (ordering_then (nat_cmp x a) (nat_cmp y b)) ≡ true = rw on refl in let clash : true ≡ false = sym yes ∙ isnt in absurd cc)
  | inr ge ↦ elim (cases_eq x a) [
    | inl same ↦ elim (cases_lt y b) [
      | inl less ↦ (
          let off = le-ltb x a ge in
          let eq = eq-eqb x a same in
          let on = lt-ltb y b less in
          let yes : is_lt (ordering_then (nat_cmp x a) (nat_cmp y b)) ≡ true = rw (off, eq, on) refl in
          let clash : true ≡ false = sym yes ∙ isnt in
          absurd cc)
      | inr le ↦ inr (sym same, le)
    ]
    | inr other ↦ inl (elim (cases_lt a x) [ inl lt ↦ lt | inr le ↦ absurd (other (omega arith)) ])
  ]
]

map-number : (xs : List Ranked) (line : ℕ → HeapLine) → ((x : Ranked) → In x xs → x.line ≡ line x.number) → map (λ (x : Ranked). x.line) xs ≡ map line (map (λ (x : Ranked). x.number) xs)
map-number [] line each = refl
map-number (x ∷ xs) line each = Rattle.std.proofs.Common.ap₂ (λ (l : HeapLine) (ls : List HeapLine). l ∷ ls) (each x (inl refl)) (map-number xs line (λ y h. each y (inr h)))

pub in-order : (line : ℕ → HeapLine) (n : ℕ) (sorted : List Ranked) → ((k : ℕ) → k < n → (line k).bytes < 2 ^ 64) → IsPermutation (ranked_to line n) sorted → IsSortedByKey key pair_cmp sorted → AreOrdered n line (map (λ (x : Ranked). x.line) sorted)
in-order line n sorted small same up =
    let at : (x : Ranked) → In x sorted → IsRanked line n x = λ x h. from-ranked line n x (from-permutation (ranked_to line n) sorted x same h) in
    let total = then_total (on_total (λ (p : ℕ × ℕ). p.0) nat_cmp_total) (on_total (λ (p : ℕ × ℕ). p.1) nat_cmp_total) in
    let weak = ranks_by total key in
    let apart = apart-at sorted (λ p. (let e = sum_by-IsPermutation (λ (z : Ranked). one_if (eqb z.number p)) (ranked_to line n) sorted same in let few = few-ranked line n p in let one = one-at-most (nat_lt p n) in omega arith)) in
    let rises : AllApart (λ (x y : Ranked). is_lt (pair_cmp (key y) (key x)) ≡ false) sorted = from-places (λ (x y : Ranked). is_lt (pair_cmp (key y) (key x)) ≡ false) sorted
    (λ i j d less lt. sorted_far (λ (x y : Ranked). is_lt (pair_cmp (key x) (key y))) weak sorted up i j d (omega arith) lt) in
    record {
      order = map (λ (x : Ranked). x.number) sorted;
      within = λ k h. (let x = from-map (λ (r : Ranked). r.number) sorted k h in let r = at x.0 x.1 in subst (λ (j : ℕ). (j < n) × (1 ≤ (line j).all_objects)) x.2 (r.below, r.some));
      all = λ k lt some. in-map (λ (x : Ranked). x.number) sorted (record { line = line k; number = k }) (from-permutation sorted (ranked_to line n) (record { line = line k; number = k }) (IsPermutation-sym (ranked_to line n) sorted same) (to-ranked line n k lt some));
      rising = map-apart (λ (x : Ranked). x.number) (IsBefore line) sorted (rise sorted at rises apart);
      are = map-number sorted line (λ x h. (at x h).is);
    }
  where
    rise : (xs : List Ranked) → ((x : Ranked) → In x xs → IsRanked line n x) → AllApart (λ (x y : Ranked). is_lt (pair_cmp (key y) (key x)) ≡ false) xs → AllApart (λ (a b : Ranked). a.number ≢ b.number) xs
        → AllApart (λ (a b : Ranked). IsBefore line a.number b.number) xs
    rise [] at rises apart = tt
    rise (x ∷ xs) at rises apart = (
      (λ y h. (
          let here = at x (inl refl) in
          let there = at y (inr h) in
          let hb = ap (λ (l : HeapLine). l.bytes) here.is in
          let tb = ap (λ (l : HeapLine). l.bytes) there.is in
          let hs = small x.number here.below in
          let ts = small y.number there.below in
          let differ = apart.0 y h in
          elim (not-less (2 ^ 64 - 1 - x.line.bytes) x.number (2 ^ 64 - 1 - y.line.bytes) y.number (rises.0 y h)) [
            | inl less ↦ inl (omega arith)
            | inr tied ↦ (let e = tied.0 in let le = tied.1 in inr ((omega arith), (elim (cases_lt x.number y.number) [ inl lt ↦ lt | inr ge ↦ absurd (differ (omega arith)) ])))
          ])),
      rise xs (λ z i. at z (inr i)) rises.1 apart.1,
    )

-- ---- lawful

abbrev pub line_by : List Bucket → List Count → ℕ → HeapLine
line_by buckets counts n = told_of (bucket_at buckets n) (count_at counts n).allocs (count_at counts n).frees

pub falling : (line : ℕ → HeapLine) (n : ℕ) (lines : List HeapLine) → AreOrdered n line lines → AreFalling lines
falling line n lines is = subst AreFalling (sym is.are) (map-apart line (λ (a b : HeapLine). b.bytes ≤ a.bytes) is.order (weaker is.order is.rising)) where
  weaker : (xs : List ℕ) → AllApart (IsBefore line) xs → AllApart (λ (a b : ℕ). (line b).bytes ≤ (line a).bytes) xs
  weaker [] apart = tt
  weaker (x ∷ xs) apart = ((λ y h. elim (apart.0 y h) [ inl less ↦ omega arith | inr tied ↦ (let e = tied.0 in omega arith) ]), weaker xs apart.1)

-- ---- one bucket more

pub ranked-none : (line : ℕ → HeapLine) (n : ℕ) → (line n).all_objects ≡ 0 → ranked_to line (n + 1) ≡ ranked_to line n
ranked-none line n none =
    let off : nat_lt 0 (line n).all_objects ≡ false = le-ltb 0 (line n).all_objects (omega arith) in
    let more : ranked_to line (suc n) ≡ ranked_to line n = rw off refl in
    ap (λ (k : ℕ). ranked_to line k) (add-one n) ∙ more

pub ranked-some : (line : ℕ → HeapLine) (n : ℕ) → 0 < (line n).all_objects → ranked_to line (n + 1) ≡ ranked_to line n ++ record { line = line n; number = n } ∷ []
ranked-some line n some =
    let on : nat_lt 0 (line n).all_objects ≡ true = lt-ltb 0 (line n).all_objects some in
    let more : ranked_to line (suc n) ≡ ranked_to line n ++ record { line = line n; number = n } ∷ [] = rw on refl in
    ap (λ (k : ℕ). ranked_to line k) (add-one n) ∙ more

all-of : {X : Type 0} (P : X → Type 0) (xs : List X) (n : ℕ) (d : X) → n < length xs → AllByRecursion P xs → P (get_or xs n d)
all-of P [] n d lt all = absurd (omega arith)
all-of P (y ∷ ys) zero d lt all = all.0
all-of P (y ∷ ys) (suc n) d lt all = all-of P ys n d (omega arith) all.1

pub limited-at : (buckets : List Bucket) (n : ℕ) → n < length buckets → AllByRecursion IsLimitedBucket buckets → IsLimitedBucket (bucket_at buckets n)
limited-at buckets n lt all = all-of IsLimitedBucket buckets n (record { stack = 0; slot = 0 }) lt all

pub freed-at : (counts : List Count) (n : ℕ) (d : Count) → n < length counts → AllByRecursion (λ (c : Count). c.frees ≤ c.allocs) counts → (get_or counts n d).frees ≤ (get_or counts n d).allocs
freed-at counts n d lt all = all-of (λ (c : Count). c.frees ≤ c.allocs) counts n d lt all

pub few-at : (counts : List Count) (n : ℕ) (d : Count) → n < length counts → (get_or counts n d).allocs ≤ sum_by (λ (c : Count). c.allocs) counts
few-at counts n d lt = Rattle.std.proofs.lemmas.List.Sums.get_or-le-sum_by (λ (c : Count). c.allocs) counts n d lt

-- ---- sums

ranked-sum : (line : ℕ → HeapLine) (counts : List Count) (n : ℕ) → n ≤ length counts → ((k : ℕ) → (line k).all_objects ≡ (count_at counts k).allocs)
    → sum_by (λ (x : Ranked). x.line.all_objects) (ranked_to line n) ≤ sum_by (λ (c : Count). c.allocs) (take n counts)
ranked-sum line counts zero le is = omega arith
ranked-sum line counts (suc n) le is = at (ranked-sum line counts n (omega arith) is) (nat_lt 0 (line n).all_objects) refl where
  more : sum_by (λ (c : Count). c.allocs) (take (suc n) counts) ≡ sum_by (λ (c : Count). c.allocs) (take n counts) + (count_at counts n).allocs
  more = ap (λ (k : ℕ). sum_by (λ (c : Count). c.allocs) (take k counts)) (sym (add-one n)) ∙ Rattle.std.proofs.lemmas.List.Sums.sum_by_more (λ (c : Count). c.allocs) counts n no_count (omega arith)

  at : sum_by (λ (x : Ranked). x.line.all_objects) (ranked_to line n) ≤ sum_by (λ (c : Count). c.allocs) (take n counts) → (b : Bool) → nat_lt 0 (line n).all_objects ≡ b
      → sum_by (λ (x : Ranked). x.line.all_objects) (ranked_to line (suc n)) ≤ sum_by (λ (c : Count). c.allocs) (take (suc n) counts)
  at old false off =
      let e : ranked_to line (suc n) ≡ ranked_to line n = rw off refl in
      let f = ap (λ (xs : List Ranked). sum_by (λ (x : Ranked). x.line.all_objects) xs) e in
      let m = more in
      omega arith
  at old true on =
      let e : ranked_to line (suc n) ≡ ranked_to line n ++ record { line = line n; number = n } ∷ [] = rw on refl in
      let f = ap (λ (xs : List Ranked). sum_by (λ (x : Ranked). x.line.all_objects) xs) e in
      let g = Rattle.std.proofs.lemmas.List.Sums.sum_by_push (λ (x : Ranked). x.line.all_objects) (ranked_to line n) (record { line = line n; number = n }) in
      let m = more in
      let same = is n in
      omega arith

-- a sum of numbers that are each at most so many times others
sum-most : (f g : HeapLine → ℕ) (k : ℕ) (lines : List HeapLine) → AllByRecursion (λ (x : HeapLine). f x ≤ k * g x) lines → sum_by f lines ≤ k * sum_by g lines
sum-most f g k [] all = omega arith
sum-most f g k (x ∷ xs) all =
    let split = sum_by-cons f x xs in
    let other = sum_by-cons g x xs in
    let rest = sum-most f g k xs all.1 in
    let here = all.0 in
    let turn : k * sum_by g (x ∷ xs) ≡ k * g x + k * sum_by g xs = ap (λ (n : ℕ). k * n) other ∙ Rattle.std.proofs.Math.Nat.mul-add k (g x) (sum_by g xs) in
    omega arith

sum-map : (f : HeapLine → ℕ) (xs : List Ranked) → sum_by f (map (λ (x : Ranked). x.line) xs) ≡ sum_by (λ (x : Ranked). f x.line) xs
sum-map f [] = refl
sum-map f (x ∷ xs) =
    let left = sum_by-cons f x.line (map (λ (y : Ranked). y.line) xs) in
    let right = sum_by-cons (λ (y : Ranked). f y.line) x xs in
    let rest = sum-map f xs in
    omega arith

-- the line of a bucket within the limits
line-lawful : (b : Bucket) (allocs frees : ℕ) → IsLimitedBucket b → 1 ≤ allocs → IsLawfulLine (told_of b allocs frees)
line-lawful b allocs frees limited some = record { some = some; used = omega arith; slot = (b.slot, record { some = limited.some; bytes = refl; all_bytes = refl }); stack = limited.stack }

line-bytes : (b : Bucket) (allocs frees : ℕ) → IsLimitedBucket b → ((told_of b allocs frees).bytes ≤ 2 ^ 41 * allocs) × ((told_of b allocs frees).all_bytes ≤ 2 ^ 41 * allocs)
line-bytes b allocs frees limited =
    let high = limited.slot in
    let all : allocs * b.slot ≤ allocs * 2 ^ 41 = Rattle.std.proofs.Math.Nat.mul-le-mul_left allocs high in
    let part : (allocs - frees) * b.slot ≤ allocs * b.slot = Rattle.std.proofs.Math.Nat.mul-le-mul_right b.slot (omega arith) in
    (omega arith, omega arith)

pub all-lawful : (buckets : List Bucket) (counts : List Count) (sorted : List Ranked) → AllByRecursion IsLimitedBucket buckets → length counts ≡ length buckets → sum_by (λ (c : Count). c.allocs) counts ≤ 1000000
    → IsPermutation (ranked_to (line_by buckets counts) (length buckets)) sorted → AreOrdered (length buckets) (line_by buckets counts) (map (λ (x : Ranked). x.line) sorted) → AreLawful (map (λ (x : Ranked). x.line) sorted)
all-lawful buckets counts sorted limited size few same ordered =
    let line = line_by buckets counts in
    let n = length buckets in
    let lines = map (λ (x : Ranked). x.line) sorted in
    let each : (l : HeapLine) → In l lines → (k : ℕ) × (k < n) × (1 ≤ (line k).all_objects) × (l ≡ line k) = λ l h. (
    let x = from-map (λ (r : Ranked). r.line) sorted l h in
    let r = from-ranked line n x.0 (from-permutation (ranked_to line n) sorted x.0 same x.1) in
    (x.0.number, r.below, r.some, sym x.2 ∙ r.is)) in
    let total : sum_by (λ (x : Ranked). x.line.all_objects) (ranked_to line n) ≤ sum_by (λ (c : Count). c.allocs) (take n counts) = ranked-sum line counts n (omega arith) (λ k. refl) in
    let front = Rattle.std.proofs.lemmas.List.Sums.sum_by-take-le (λ (c : Count). c.allocs) counts n in
    let turned = sum_by-IsPermutation (λ (x : Ranked). x.line.all_objects) (ranked_to line n) sorted same in
    let all_objects = sum-map (λ (l : HeapLine). l.all_objects) sorted in
    let objects = sum-most (λ (l : HeapLine). l.objects) (λ (l : HeapLine). l.all_objects) 1 lines
    (from-in (λ (l : HeapLine). l.objects ≤ 1 * l.all_objects) lines (λ l h. (let k = each l h in subst (λ (m : HeapLine). m.objects ≤ 1 * m.all_objects) (sym k.3) (omega arith)))) in
    let bytes = sum-most (λ (l : HeapLine). l.bytes) (λ (l : HeapLine). l.all_objects) (2 ^ 41) lines
    (from-in (λ (l : HeapLine). l.bytes ≤ 2 ^ 41 * l.all_objects) lines (λ l h. (let k = each l h in subst (λ (m : HeapLine). m.bytes ≤ 2 ^ 41 * m.all_objects) (sym k.3) (line-bytes (bucket_at buckets k.0) (count_at counts k.0).allocs (count_at counts k.0).frees (limited-at buckets k.0 k.1 limited)).0))) in
    let all_bytes = sum-most (λ (l : HeapLine). l.all_bytes) (λ (l : HeapLine). l.all_objects) (2 ^ 41) lines
    (from-in (λ (l : HeapLine). l.all_bytes ≤ 2 ^ 41 * l.all_objects) lines (λ l h. (let k = each l h in subst (λ (m : HeapLine). m.all_bytes ≤ 2 ^ 41 * m.all_objects) (sym k.3) (line-bytes (bucket_at buckets k.0) (count_at counts k.0).allocs (count_at counts k.0).frees (limited-at buckets k.0 k.1 limited)).1))) in
    record {
      each = from-in IsLawfulLine lines (λ l h. (let k = each l h in subst IsLawfulLine (sym k.3) (line-lawful (bucket_at buckets k.0) (count_at counts k.0).allocs (count_at counts k.0).frees (limited-at buckets k.0 k.1 limited) k.2)));
      order = falling line n lines ordered;
      sums = record { objects = omega arith; bytes = omega arith; all_objects = omega arith; all_bytes = omega arith };
    }

-- no line has more bytes than 64 bits
pub bytes-small : (buckets : List Bucket) (counts : List Count) (k : ℕ) → AllByRecursion IsLimitedBucket buckets → length counts ≡ length buckets → sum_by (λ (c : Count). c.allocs) counts ≤ 1000000 → k < length buckets → (line_by buckets counts k).bytes < 2 ^ 64
bytes-small buckets counts k limited size few lt =
    let b = (line-bytes (bucket_at buckets k) (count_at counts k).allocs (count_at counts k).frees (limited-at buckets k lt limited)).0 in
    let f = few-at counts k no_count (omega arith) in
    omega arith
