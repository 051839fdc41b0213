-- What the calls of a tally publish is what they counted, cycle by cycle.
use Rattle.std.proofs.Common.{◌≡◌, ◌≢◌, ℕ, zero, suc, ◌+◌, ◌-◌, ◌<◌, Bool, true, false, ◌&&◌, not, eqb, ◌⊎◌, List, [], ◌∷◌, ◌++◌, length, Option, None, Some, refl, sym, ◌∙◌, ap, subst, arith, inl, inr}
use Rattle.std.specs.Prelude.{position}
use Rattle.std.proofs.Math.Dec.{leb, ltb}
use Rattle.std.proofs.lemmas.Bool.{cases_lt, cases_eq, le-leb, lt-leb, le-ltb, eq-eqb, ne_eqb, and_right}
use Rattle.page_alloc.specs.Lists.{In}
use Rattle.profile_cycle.specs.declared.buckets.Bucket.{Bucket}
use Rattle.profile_cycle.specs.declared.calls.What.{What}
use Rattle.profile_cycle.specs.declared.calls.What.TheVariants.{Allocated, Freed, NextCycle, AfterSweep}
use Rattle.profile_cycle.specs.declared.calls.Call.{Call}
use Rattle.profile_cycle.specs.declared.calls.View.{View}
use Rattle.profile_cycle.specs.History.{allocates, frees, publishes, one_if, count, published_by, published_allocs, published_frees, noted}
use Rattle.profile_cycle.specs.Naming.{is_same}
use Rattle.cycle_history.specs.Requests.{Marking}
use Rattle.cycle_history.specs.Objects.{Object}
use Rattle.sound_run.specs.Run.{Lasts}
use Rattle.run_laws.specs.Profile.{Calls, AreCalls, sum_below}
use Rattle.cycle_history.specs.Profile.{Samples, is_sample}
use Rattle.run_laws.proofs.Lists.{in-cases}
use Rattle.run_laws.proofs.Profile.{count-none, calls-later, published-right}
use Rattle.sample_laws.specs.Counted.{of_number}
use Rattle.profile_lines.specs.Read.{AreDifferent, bucket_at}
use Rattle.profile_lines.specs.Counted.{made_in, by_bucket, AreMadeIn, IsCounting, ShowsMarkEnd, HasCounted}
use Rattle.profile_lines.proofs.Named.{number-at}

-- ---- counts of calls

count-split : (f g h : Call → Bool) (calls : List Call) → ((d : Call) → one_if (f d) + one_if (g d) ≡ one_if (h d)) → count f calls + count g calls ≡ count h calls
count-split f g h [] each = refl
count-split f g h (d ∷ calls) each = let here = each d in let rest = count-split f g h calls each in omega arith

count-zero : (f : Call → Bool) (calls : List Call) → ((d : Call) → In d calls → f d ≡ false) → count f calls ≡ 0
count-zero f [] none = refl
count-zero f (d ∷ calls) none = let e = none d (inl refl) in let rest = count-zero f calls (λ x h. none x (inr h)) in rw e (omega arith)

pub made-append : (test : What → Bool) (k : ℕ) (xs ys : List Call) → made_in test k (xs ++ ys) ≡ made_in test k xs + made_in test k ys
made-append test k [] ys = omega arith
made-append test k (c ∷ xs) ys = let rest = made-append test k xs ys in omega arith

pub made-none : (test : What → Bool) (k : ℕ) (calls : List Call) → ((d : Call) → In d calls → d.cycle ≢ k) → made_in test k calls ≡ 0
made-none test k calls none = count-zero (λ (d : Call). test d.what && eqb d.cycle k) calls (λ d h. and_right (test d.what) (eqb d.cycle k) (ne_eqb d.cycle k (none d h)))

-- ---- those of the cycles below a bound

one-more : (t : Bool) (k n : ℕ) → one_if (t && eqb k n) + one_if (t && leb (k + 1) n) ≡ one_if (t && leb (k + 1) (suc n))
one-more false k n = refl
one-more true k n = elim (cases_lt k n) [
  | inl less ↦ (
      let a = le-leb (k + 1) n (omega arith) in
      let b = le-leb (k + 1) (suc n) (omega arith) in
      let e = ne_eqb k n (λ q. omega arith) in
      rw (a, b, e) refl)
  | inr ge ↦ elim (cases_eq k n) [
    | inl same ↦ (
        let a = lt-leb (k + 1) n (omega arith) in
        let b = le-leb (k + 1) (suc n) (omega arith) in
        let e = eq-eqb k n same in
        rw (a, b, e) refl)
    | inr other ↦ (
        let a = lt-leb (k + 1) n (omega arith) in
        let b = lt-leb (k + 1) (suc n) (omega arith) in
        let e = ne_eqb k n other in
        rw (a, b, e) refl)
  ]
]

sum-below : (test : What → Bool) (calls : List Call) (n : ℕ) → count (λ (d : Call). test d.what && leb (d.cycle + 1) n) calls ≡ sum_below n (λ k. made_in test k calls)
sum-below test calls zero = count-zero (λ (d : Call). test d.what && leb (d.cycle + 1) 0) calls (λ d h. and_right (test d.what) (leb (d.cycle + 1) 0) (lt-leb (d.cycle + 1) 0 (omega arith)))
sum-below test calls (suc n) =
    let rest = sum-below test calls n in
    let split = count-split (λ (d : Call). test d.what && eqb d.cycle n) (λ (d : Call). test d.what && leb (d.cycle + 1) n) (λ (d : Call). test d.what && leb (d.cycle + 1) (suc n)) calls
    (λ d. one-more (test d.what) d.cycle n) in
    omega arith

count-same : (f g : Call → Bool) (calls : List Call) → ((d : Call) → f d ≡ g d) → count f calls ≡ count g calls
count-same f g [] same = refl
count-same f g (d ∷ calls) same = let here = ap one_if (same d) in let rest = count-same f g calls same in omega arith

leb-suc : (a b : ℕ) → leb (a + 2) (b + 1) ≡ leb (a + 1) b
leb-suc a b = elim (cases_lt a b) [
  | inl less ↦ (let x = le-leb (a + 2) (b + 1) (omega arith) in let y = le-leb (a + 1) b (omega arith) in x ∙ sym y)
  | inr ge ↦ (let x = lt-leb (a + 2) (b + 1) (omega arith) in let y = lt-leb (a + 1) b (omega arith) in x ∙ sym y)
]

sum-equal : (n : ℕ) (f g : ℕ → ℕ) → ((k : ℕ) → f k ≡ g k) → sum_below n f ≡ sum_below n g
sum-equal zero f g same = refl
sum-equal (suc n) f g same = let here = same n in let rest = sum-equal n f g same in omega arith

-- what is published right behind a call that publishes
pub allocs-behind : (n : ℕ) (p : Call) (calls : List Call) → publishes p.what ≡ true → published_allocs n (p ∷ calls) ≡ sum_below p.cycle (λ k. made_in (allocates n) k calls)
allocs-behind n p calls is =
    let same = count-same (λ (d : Call). allocates n d.what && leb (d.cycle + 2) (p.cycle + 1)) (λ (d : Call). allocates n d.what && leb (d.cycle + 1) p.cycle) calls
    (λ d. ap (λ (b : Bool). allocates n d.what && b) (leb-suc d.cycle p.cycle)) in
    let sum = sum-below (allocates n) calls p.cycle in
    rw is (same ∙ sum)

pub frees-behind : (n : ℕ) (p : Call) (calls : List Call) → publishes p.what ≡ true → published_frees n (p ∷ calls) ≡ sum_below (suc p.cycle) (λ k. made_in (frees n) k calls)
frees-behind n p calls is =
    let one : p.cycle + 1 ≡ suc p.cycle = omega arith in
    let sum = ap (λ (l : ℕ). count (λ (d : Call). frees n d.what && leb (d.cycle + 1) l) calls) one ∙ sum-below (frees n) calls (suc p.cycle) in
    rw is sum

-- and where no call publishes
pub published-none : (test : What → Bool) (lead : ℕ) (calls : List Call) → ((d : Call) → In d calls → publishes d.what ≡ false) → published_by test lead calls ≡ 0
published-none test lead [] none = refl
published-none test lead (d ∷ calls) none = let e = none d (inl refl) in rw e (published-none test lead calls (λ x h. none x (inr h)))

-- ---- by bucket

number-same : (f g : ℕ → ℕ) (o : Option ℕ) → ((n : ℕ) → f n ≡ g n) → of_number f o ≡ of_number g o
number-same f g None same = refl
number-same f g (Some n) same = same n

by-number : (f : ℕ → ℕ) (buckets : List Bucket) (n : ℕ) → AreDifferent buckets → n < length buckets → of_number f (position (is_same (bucket_at buckets n)) buckets) ≡ f n
by-number f buckets n apart lt = ap (λ (o : Option ℕ). of_number f o) (number-at buckets n apart lt)

-- calls that count the same
calls-same : (marked : Marking) (s : Samples) (objects : List Object) (a b : Calls) (c : ℕ) → ((x : Bucket) → b.allocated c x ≡ a.allocated c x) → ((x : Bucket) → b.freed c x ≡ a.freed c x)
    → AreCalls marked s objects a c → AreCalls marked s objects b c
calls-same marked s objects a b c allocated freed are = record {
  allocated = λ x. allocated x ∙ are.allocated x;
  first = λ x is. freed x ∙ are.first x is;
  freed = λ x m is. freed x ∙ are.freed x m is;
}

by-same : (marked : Marking) (s : Samples) (objects : List Object) (buckets : List Bucket) (xs ys : List Call) (c : ℕ) → ((test : What → Bool) → ((what : What) → publishes what ≡ true → test what ≡ false) → made_in test c ys ≡ made_in test c xs)
    → AreCalls marked s objects (by_bucket buckets xs) c → AreCalls marked s objects (by_bucket buckets ys) c
by-same marked s objects buckets xs ys c same are =
    calls-same marked s objects (by_bucket buckets xs) (by_bucket buckets ys) c
    (λ x. number-same (λ n. made_in (allocates n) c ys) (λ n. made_in (allocates n) c xs) (position (is_same x) buckets) (λ n. same (allocates n) (not-alloc n)))
    (λ x. number-same (λ n. made_in (frees n) c ys) (λ n. made_in (frees n) c xs) (position (is_same x) buckets) (λ n. same (frees n) (not-free n))) are
  where
    not-alloc : (n : ℕ) (what : What) → publishes what ≡ true → allocates n what ≡ false
    not-alloc n (Allocated b) is = cc
    not-alloc n (Freed b) is = cc
    not-alloc n NextCycle is = refl
    not-alloc n AfterSweep is = refl

    not-free : (n : ℕ) (what : What) → publishes what ≡ true → frees n what ≡ false
    not-free n (Allocated b) is = cc
    not-free n (Freed b) is = cc
    not-free n NextCycle is = refl
    not-free n AfterSweep is = refl

-- ---- the laws

shows-behind : (marked : Marking) (s : Samples) (buckets : List Bucket) (c : ℕ) (objects : List Object) (v : View) (p : Call) → AreDifferent buckets → ((o : Object) → In o objects → Lasts marked o)
    → HasCounted marked s buckets c objects v → p.cycle ≡ c → publishes p.what ≡ true → ShowsMarkEnd marked s buckets c objects (p ∷ v.calls)
shows-behind marked s buckets c objects v p apart lasts counted at is = record {
  allocs = λ n lt. (
      let b = bucket_at buckets n in
      let less : suc c - 1 ≡ c = omega arith in
      let numbers = published-right marked s objects (by_bucket buckets v.calls) b c lasts counted.ended in
      let sums = sum-equal c (λ k. made_in (allocates n) k v.calls) (λ k. (by_bucket buckets v.calls).allocated k b) (λ k. sym (by-number (λ i. made_in (allocates i) k v.calls) buckets n apart lt)) in
      allocs-behind n p v.calls is ∙ ap (λ (l : ℕ). sum_below l (λ k. made_in (allocates n) k v.calls)) at ∙ sums
      ∙ ap (λ (l : ℕ). sum_below l (λ k. (by_bucket buckets v.calls).allocated k b)) (sym less) ∙ numbers.0);
  frees = λ n lt. (
      let b = bucket_at buckets n in
      let numbers = published-right marked s objects (by_bucket buckets v.calls) b c lasts counted.ended in
      let sums = sum-equal (suc c) (λ k. made_in (frees n) k v.calls) (λ k. (by_bucket buckets v.calls).freed k b) (λ k. sym (by-number (λ i. made_in (frees i) k v.calls) buckets n apart lt)) in
      frees-behind n p v.calls is ∙ ap (λ (l : ℕ). sum_below (suc l) (λ k. made_in (frees n) k v.calls)) at ∙ sums ∙ numbers.1);
}

-- a call that publishes counts nothing
same-behind : (marked : Marking) (s : Samples) (buckets : List Bucket) (objects : List Object) (calls : List Call) (p : Call) (k : ℕ) → publishes p.what ≡ true
    → AreCalls marked s objects (by_bucket buckets calls) k → AreCalls marked s objects (by_bucket buckets (p ∷ calls)) k
same-behind marked s buckets objects calls p k is are =
    by-same marked s objects buckets calls (p ∷ calls) k (λ test none. (let off = none p.what is in let e : one_if (test p.what && eqb p.cycle k) ≡ 0 = rw off refl in omega arith)) are

pub sweep-shows : (marked : Marking) (s : Samples) (buckets : List Bucket) (c : ℕ) (objects : List Object) (v : View) → AreDifferent buckets → ((o : Object) → In o objects → Lasts marked o)
    → HasCounted marked s buckets c objects v → HasCounted marked s buckets c objects (noted v AfterSweep) × ShowsMarkEnd marked s buckets c objects (noted v AfterSweep).calls
sweep-shows marked s buckets c objects v apart lasts counted =
    let p : Call = record { cycle = v.cycle; what = AfterSweep } in (
      record {
        cycle = counted.cycle;
        past = λ d h. elim h [ inl here ↦ (let e = ap (λ (x : Call). x.cycle) here in let f = counted.cycle in omega arith) | inr there ↦ counted.past d there ];
        ended = λ k le. same-behind marked s buckets objects v.calls p k refl (counted.ended k le);
      },
      shows-behind marked s buckets c objects v p apart lasts counted counted.cycle refl,
    )

pub mark-end-begins : (marked : Marking) (s : Samples) (buckets : List Bucket) (c : ℕ) (objects : List Object) (v : View) → AreDifferent buckets → ((o : Object) → In o objects → Lasts marked o)
    → HasCounted marked s buckets c objects v → IsCounting marked s buckets (suc c) objects (noted v NextCycle) × ShowsMarkEnd marked s buckets c objects (noted v NextCycle).calls
mark-end-begins marked s buckets c objects v apart lasts counted =
    let p : Call = record { cycle = v.cycle; what = NextCycle } in (
      record {
        cycle = (let e = counted.cycle in omega arith);
        past = λ d h. elim h [
          | inl here ↦ (let e = ap (λ (x : Call). x.cycle) here in let f = counted.cycle in omega arith)
          | inr there ↦ (let le = counted.past d there in omega arith)
        ];
        ended = λ k lt. same-behind marked s buckets objects v.calls p k refl (counted.ended k (omega arith));
      },
      shows-behind marked s buckets c objects v p apart lasts counted counted.cycle refl,
    )

pub cycle-counted : (marked : Marking) (s : Samples) (buckets : List Bucket) (c : ℕ) (objects news : List Object) (v w : View) (made : List Call) → AreDifferent buckets
    → IsCounting marked s buckets c objects v → w.cycle ≡ c → w.calls ≡ made ++ v.calls → AreMadeIn c made → ((o : Object) → In o news → (o.cycle ≡ c) × Lasts marked o)
    → AreCalls marked s (news ++ objects) (by_bucket buckets made) c
    → HasCounted marked s buckets c (news ++ objects) w × (c ≡ 0 → ShowsMarkEnd marked s buckets 0 (news ++ objects) w.calls)
cycle-counted marked s buckets c objects news v w made apart counting cycle calls are_made later are =
    let both : (test : What → Bool) (k : ℕ) → made_in test k w.calls ≡ made_in test k made + made_in test k v.calls =
    λ test k. ap (λ (l : List Call). made_in test k l) calls ∙ made-append test k made v.calls in
    let where_from : (d : Call) → In d w.calls → In d made ⊎ In d v.calls = λ d h. in-cases made v.calls d (subst (λ (l : List Call). In d l) calls h) in (
      record {
        cycle = cycle;
        past = λ d h. elim (where_from d h) [
          | inl here ↦ (let e = (are_made d here).0 in omega arith)
          | inr there ↦ (let lt = counting.past d there in omega arith)
        ];
        ended = λ k le. elim (cases_eq k c) [
          | inl same ↦ subst (λ (l : ℕ). AreCalls marked s (news ++ objects) (by_bucket buckets w.calls) l) (sym same)
              (by-same marked s (news ++ objects) buckets made w.calls c (λ test none. (
              let old = made-none test c v.calls (λ d h e. (let lt = counting.past d h in omega arith)) in
              let sum = both test c in
              omega arith)) are)
          | inr other ↦ by-same marked s (news ++ objects) buckets v.calls w.calls k (λ test none. (
              let new = made-none test k made (λ d h e. (let f = (are_made d h).0 in other (sym e ∙ f))) in
              let sum = both test k in
              omega arith))
              (calls-later marked s news objects (by_bucket buckets v.calls) k (λ o h. (let e = (later o h).0 in omega arith)) (λ o h. (later o h).1) (counting.ended k (omega arith)))
        ];
      },
      (λ first. (
          let none : (d : Call) → In d w.calls → publishes d.what ≡ false = λ d h. elim (where_from d h) [
            | inl here ↦ (are_made d here).1
            | inr there ↦ (let lt = counting.past d there in absurd (omega arith))
          ] in
          record {
            allocs = λ n lt. published-none (allocates n) 2 w.calls none ∙ sym (count-none (λ o. is_sample s (bucket_at buckets n) o && ltb o.cycle 0) (news ++ objects) (λ o h. and_right (is_sample s (bucket_at buckets n) o) (ltb o.cycle 0) (le-ltb o.cycle 0 (omega arith))));
            frees = λ n lt. published-none (frees n) 1 w.calls none ∙ sym (count-none (λ o. is_sample s (bucket_at buckets n) o && (ltb o.cycle 0 && not (marked 0 o.id))) (news ++ objects)
                (λ o h. and_right (is_sample s (bucket_at buckets n) o) _ (let e = le-ltb o.cycle 0 (omega arith) in rw e refl)));
          })),
    )
