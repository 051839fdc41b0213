-- What the lines tell that are read where the ring shows a mark end.
use Rattle.std.proofs.Common.{◌≡◌, ℕ, zero, suc, ◌-◌, ◌^◌, ◌<◌, ◌≤◌, Bool, true, false, ◌&&◌, not, eqb, ◌⊎◌, List, [], ◌∷◌, ◌++◌, length, map, refl, sym, ◌∙◌, ap, subst, arith, inl, inr}
use Rattle.std.specs.Prelude.{if◌then◌else◌}
use Rattle.std.proofs.Math.Dec.{ltb}
use Rattle.std.proofs.lemmas.Bool.{cases_lt, cases_eq, cases_Bool, lt-ltb, le-ltb, eq-eqb, ne_eqb, eqb-true, ltb-true, and_right}
use Rattle.page_alloc.specs.Lists.{In, AllApart, count, one_if}
use Rattle.profile_cycle.specs.declared.buckets.Bucket.{Bucket}
use Rattle.profile_cycle.specs.declared.calls.Call.{Call}
use Rattle.profile_cycle.specs.declared.counts.Count.{Count}
use Rattle.profile_cycle.specs.History.{published_allocs}
use Rattle.cycle_history.specs.declared.Prof.{Prof}
use Rattle.cycle_history.specs.Requests.{Marking}
use Rattle.cycle_history.specs.Objects.{Object, is_placed}
use Rattle.cycle_history.specs.Orders.{IsProfBefore, AreRisingProfile}
use Rattle.cycle_history.specs.Profile.{Samples, is_sample, allocs_at, frees_at, bucket_of, IsProf, IsChanged, IsOf, IsProfile, IsProfileOfEach}
use Rattle.run_laws.proofs.Lists.{in-left, in-right, in-cases, apart-append}
use Rattle.run_laws.proofs.Profile.{count-none, count-old}
use Rattle.profile_lines.specs.Read.{bucket_at, IsBefore, IsOrder, count_of, is_same_count, AreFew, line_of, all_lines, changed_lines}
use Rattle.profile_lines.specs.Counted.{ShowsMarkEnd, AreNamed}
use Rattle.profile_lines.specs.Told.{count_at, counts_at, AreLinesBelow, HasTold}

-- ---- counts of objects

both-true : (x y : Bool) → (x && y) ≡ true → (x ≡ true) × (y ≡ true)
both-true true y e = (refl, e)
both-true false y e = cc

count-some : (f : Object → Bool) (objects : List Object) → 1 ≤ count f objects → (o : Object) × In o objects × (f o ≡ true)
count-some f [] some = absurd (omega arith)
count-some f (o ∷ objects) some = elim (cases_Bool (f o)) [
  | inl on ↦ (o, inl refl, on)
  | inr off ↦ (
      let none : one_if (f o) ≡ 0 = ap one_if off in
      let rest = count-some f objects (omega arith) in
      (rest.0, inr rest.1, rest.2))
]

count-le : (f g : Object → Bool) (objects : List Object) → ((o : Object) → one_if (f o) ≤ one_if (g o)) → count f objects ≤ count g objects
count-le f g [] le = omega arith
count-le f g (o ∷ objects) le = let here = le o in let rest = count-le f g objects le in omega arith

one-most : (b : Bool) → one_if b ≤ 1
one-most true = omega arith
one-most false = omega arith

count-length : (f : Object → Bool) (objects : List Object) → count f objects ≤ length objects
count-length f [] = omega arith
count-length f (o ∷ objects) = let here = one-most (f o) in let rest = count-length f objects in omega arith

and-less : (x y z : Bool) → one_if (x && (y && z)) ≤ one_if (x && y)
and-less true true true = omega arith
and-less true true false = omega arith
and-less true false z = omega arith
and-less false y z = omega arith

before-more : (x : Bool) (c k : ℕ) → one_if (x && ltb c k) ≤ one_if (x && ltb c (suc k))
before-more false c k = omega arith
before-more true c k = elim (cases_lt c k) [
  | inl less ↦ (let a = lt-ltb c k less in let b = lt-ltb c (suc k) (omega arith) in rw (a, b) (omega arith))
  | inr ge ↦ (let a = le-ltb c k ge in rw a (omega arith))
]

frees-few : (marked : Marking) (s : Samples) (objects : List Object) (m : ℕ) (b : Bucket) → frees_at marked s objects m b ≤ allocs_at s objects m b
frees-few marked s objects m b =
    count-le (λ o. is_sample s b o && (ltb o.cycle m && not (marked m o.id))) (λ o. is_sample s b o && ltb o.cycle m) objects (λ o. and-less (is_sample s b o) (ltb o.cycle m) (not (marked m o.id)))

allocs-rise : (s : Samples) (objects : List Object) (k : ℕ) (b : Bucket) → allocs_at s objects k b ≤ allocs_at s objects (suc k) b
allocs-rise s objects k b = count-le (λ o. is_sample s b o && ltb o.cycle k) (λ o. is_sample s b o && ltb o.cycle (suc k)) objects (λ o. before-more (is_sample s b o) o.cycle k)

none-at-first : (s : Samples) (objects : List Object) (b : Bucket) → allocs_at s objects 0 b ≡ 0
none-at-first s objects b = count-none (λ o. is_sample s b o && ltb o.cycle 0) objects (λ o h. and_right (is_sample s b o) (ltb o.cycle 0) (le-ltb o.cycle 0 (omega arith)))

-- where a number changed there are samples
changed-some : (marked : Marking) (s : Samples) (objects : List Object) (k : ℕ) (b : Bucket) → IsChanged marked s objects k b → 1 ≤ allocs_at s objects (suc k) b
changed-some marked s objects k b changed = elim (cases_lt 0 (allocs_at s objects (suc k) b)) [
  | inl some ↦ some
  | inr none ↦ (
      let a = allocs-rise s objects k b in
      let f = frees-few marked s objects k b in
      let g = frees-few marked s objects (suc k) b in
      elim changed [ inl other ↦ absurd (other (omega arith)) | inr other ↦ absurd (other (omega arith)) ])
]

-- a sample's bucket has a number
bucket-named : (s : Samples) (buckets : List Bucket) (objects : List Object) (m : ℕ) (b : Bucket) → AreNamed s buckets objects → 1 ≤ allocs_at s objects m b
    → (n : ℕ) × (n < length buckets) × (bucket_at buckets n ≡ b)
bucket-named s buckets objects m b named some =
    let at = count-some (λ o. is_sample s b o && ltb o.cycle m) objects some in
    let o = at.0 in
    let sample = (both-true (is_sample s b o) (ltb o.cycle m) at.2).0 in
    let placed = both-true (is_placed o.answer) (s.sampled o.id && (eqb (s.stack o.id) b.stack && eqb o.need.slot b.slot)) sample in
    let is = both-true (s.sampled o.id) (eqb (s.stack o.id) b.stack && eqb o.need.slot b.slot) placed.1 in
    let both = both-true (eqb (s.stack o.id) b.stack) (eqb o.need.slot b.slot) is.1 in
    let stack = eqb-true (s.stack o.id) b.stack both.0 in
    let slot = eqb-true o.need.slot b.slot both.1 in
    let number = named o at.1 placed.0 is.0 in
    let same : record { stack = s.stack o.id; slot = o.need.slot } ≡ b = λ i. record { stack = stack i; slot = slot i } in
    (number.0, number.1, number.2 ∙ same)

-- ---- numbers that are shown

shown : (marked : Marking) (s : Samples) (buckets : List Bucket) (m : ℕ) (objects : List Object) (calls : List Call) (n : ℕ) → ShowsMarkEnd marked s buckets m objects calls → n < length buckets
    → count_of calls n ≡ count_at marked s objects m (bucket_at buckets n)
shown marked s buckets m objects calls n shows lt = let a = shows.allocs n lt in let b = shows.frees n lt in λ i. record { allocs = a i; frees = b i }

pub few-shown : (marked : Marking) (s : Samples) (buckets : List Bucket) (m : ℕ) (objects : List Object) (calls : List Call) → ShowsMarkEnd marked s buckets m objects calls → length objects < 2 ^ 64
    → AreFew (length buckets) calls
few-shown marked s buckets m objects calls shows few n lt =
    let b = bucket_at buckets n in
    let a = shows.allocs n lt in
    let f = shows.frees n lt in
    let x = count-length (λ o. is_sample s b o && ltb o.cycle m) objects in
    let y = frees-few marked s objects m b in
    (omega arith, omega arith)

same-itself : (a : Count) → is_same_count a a ≡ true
same-itself a = let x = eq-eqb a.allocs a.allocs refl in let y = eq-eqb a.frees a.frees refl in rw (x, y) refl

-- numbers differ where they changed
differ-changed : (marked : Marking) (s : Samples) (objects : List Object) (m : ℕ) (b : Bucket) → not (is_same_count (count_at marked s objects (m - 1) b) (count_at marked s objects m b)) ≡ true
    → (k : ℕ) × (m ≡ suc k) × IsChanged marked s objects k b
differ-changed marked s objects zero b differ =
    let same = ap (λ (x : Bool). not x) (same-itself (count_at marked s objects 0 b)) in
    cc
differ-changed marked s objects (suc k) b differ =
    let less : suc k - 1 ≡ k = omega arith in
    let differ' : not (is_same_count (count_at marked s objects k b) (count_at marked s objects (suc k) b)) ≡ true =
    subst (λ (j : ℕ). not (is_same_count (count_at marked s objects j b) (count_at marked s objects (suc k) b)) ≡ true) less differ in (
      k,
      refl,
      elim (cases_eq (allocs_at s objects k b) (allocs_at s objects (suc k) b)) [
        | inl a ↦ elim (cases_eq (frees_at marked s objects k b) (frees_at marked s objects (suc k) b)) [
          | inl f ↦ (
              let x = eq-eqb (allocs_at s objects k b) (allocs_at s objects (suc k) b) a in
              let y = eq-eqb (frees_at marked s objects k b) (frees_at marked s objects (suc k) b) f in
              let same : is_same_count (count_at marked s objects k b) (count_at marked s objects (suc k) b) ≡ true = rw (x, y) refl in
              let off = ap (λ (z : Bool). not z) same in
              cc)
          | inr f ↦ inr (λ e. f (sym e))
        ]
        | inr a ↦ inl (λ e. a (sym e))
      ],
    )

changed-differ : (marked : Marking) (s : Samples) (objects : List Object) (k : ℕ) (b : Bucket) → IsChanged marked s objects k b
    → not (is_same_count (count_at marked s objects (suc k - 1) b) (count_at marked s objects (suc k) b)) ≡ true
changed-differ marked s objects k b changed =
    let less : k ≡ suc k - 1 = omega arith in
    subst (λ (j : ℕ). not (is_same_count (count_at marked s objects j b) (count_at marked s objects (suc k) b)) ≡ true) less (
    elim changed [
      | inl a ↦ (let x = ne_eqb (allocs_at s objects k b) (allocs_at s objects (suc k) b) (λ e. a (sym e)) in rw x refl)
      | inr f ↦ (
          let x = ne_eqb (frees_at marked s objects k b) (frees_at marked s objects (suc k) b) (λ e. f (sym e)) in
          let off = and_right (eqb (allocs_at s objects k b) (allocs_at s objects (suc k) b)) (eqb (frees_at marked s objects k b) (frees_at marked s objects (suc k) b)) x in
          ap (λ (z : Bool). not z) off)
    ])

-- ---- the lines of some numbers

abbrev picked : (ℕ → Bool) → (ℕ → Prof) → List ℕ → List Prof
picked test line [] = []
picked test line (n ∷ order) = if test n then line n ∷ picked test line order else picked test line order

from-picked : (test : ℕ → Bool) (line : ℕ → Prof) (order : List ℕ) (l : Prof) → In l (picked test line order) → (n : ℕ) × In n order × (test n ≡ true) × (line n ≡ l)
from-picked test line [] l h = absurd h
from-picked test line (n ∷ order) l h = elim (cases_Bool (test n)) [
  | inl on ↦ (
      let h' : (line n ≡ l) ⊎ In l (picked test line order) = rw on at h in
      elim h' [
        | inl here ↦ (n, inl refl, on, here)
        | inr there ↦ (let at = from-picked test line order l there in (at.0, inr at.1, at.2, at.3))
      ])
  | inr off ↦ (
      let h' : In l (picked test line order) = rw off at h in
      let at = from-picked test line order l h' in
      (at.0, inr at.1, at.2, at.3))
]

to-picked : (test : ℕ → Bool) (line : ℕ → Prof) (order : List ℕ) (n : ℕ) → In n order → test n ≡ true → In (line n) (picked test line order)
to-picked test line [] n h is = absurd h
to-picked test line (k ∷ order) n h is = elim (cases_Bool (test k)) [
  | inl on ↦ rw on (elim h [ inl here ↦ inl (ap line here) | inr there ↦ inr (to-picked test line order n there is) ])
  | inr off ↦ rw off (elim h [
    | inl here ↦ (let e : test k ≡ test n = ap test here in let none : ⊥ = cc in absurd none)
    | inr there ↦ to-picked test line order n there is
  ])
]

picked-rise : (test : ℕ → Bool) (buckets : List Bucket) (mark : ℕ) (now : ℕ → Count) (order : List ℕ) → AllApart (λ a b. IsBefore (bucket_at buckets a) (bucket_at buckets b)) order
    → AreRisingProfile (picked test (λ n. line_of buckets mark n (now n)) order)
picked-rise test buckets mark now [] rising = tt
picked-rise test buckets mark now (n ∷ order) rising =
    let rest = picked-rise test buckets mark now order rising.1 in
    elim (cases_Bool (test n)) [
      | inl on ↦ rw on (
        (λ l h. (
            let at = from-picked test (λ k. line_of buckets mark k (now k)) order l h in
            subst (λ (x : Prof). IsProfBefore (line_of buckets mark n (now n)) x) at.3 (inr (refl, rising.0 at.0 at.1)))),
        rest,
      )
      | inr off ↦ rw off rest
    ]

all-picked : (buckets : List Bucket) (calls : List Call) (mark : ℕ) (order : List ℕ)
    → all_lines buckets calls mark order ≡ picked (λ n. ltb 0 (published_allocs n calls)) (λ n. line_of buckets mark n (count_of calls n)) order
all-picked buckets calls mark [] = refl
all-picked buckets calls mark (n ∷ order) =
    let rest = all-picked buckets calls mark order in
    elim (cases_Bool (ltb 0 (published_allocs n calls))) [
      | inl on ↦ rw on (ap (λ (l : List Prof). line_of buckets mark n (count_of calls n) ∷ l) rest)
      | inr off ↦ rw off rest
    ]

changed-picked : (buckets : List Bucket) (calls : List Call) (mark : ℕ) (was : ℕ → Count) (order : List ℕ)
    → changed_lines buckets calls mark order (map was order) ≡ picked (λ n. not (is_same_count (was n) (count_of calls n))) (λ n. line_of buckets mark n (count_of calls n)) order
changed-picked buckets calls mark was [] = refl
changed-picked buckets calls mark was (n ∷ order) =
    let rest = changed-picked buckets calls mark was order in
    elim (cases_Bool (is_same_count (was n) (count_of calls n))) [
      | inl on ↦ rw on rest
      | inr off ↦ rw off (ap (λ (l : List Prof). line_of buckets mark n (count_of calls n) ∷ l) rest)
    ]

-- ---- the lines of a mark end

line-right : (marked : Marking) (s : Samples) (buckets : List Bucket) (m : ℕ) (objects : List Object) (calls : List Call) (n : ℕ) → ShowsMarkEnd marked s buckets m objects calls → n < length buckets
    → 1 ≤ published_allocs n calls → IsProf marked s objects (line_of buckets m n (count_of calls n))
line-right marked s buckets m objects calls n shows lt some = record { some = some; allocs = shows.allocs n lt; frees = shows.frees n lt }

-- each line of all is right
all-right : (marked : Marking) (s : Samples) (buckets : List Bucket) (order : List ℕ) (m : ℕ) (objects : List Object) (calls : List Call) (l : Prof) → IsOrder buckets order → ShowsMarkEnd marked s buckets m objects calls
    → In l (all_lines buckets calls m order) → (l.mark ≡ m) × (1 ≤ m) × IsProf marked s objects l
all-right marked s buckets order m objects calls l is shows h =
    let h' = subst (λ (x : List Prof). In l x) (all-picked buckets calls m order) h in
    let at = from-picked (λ n. ltb 0 (published_allocs n calls)) (λ n. line_of buckets m n (count_of calls n)) order l h' in
    let lt = is.within at.0 at.1 in
    let some : 0 < published_allocs at.0 calls = ltb-true 0 (published_allocs at.0 calls) at.2 in
    let right = line-right marked s buckets m objects calls at.0 shows lt (omega arith) in
    let late : 1 ≤ m = elim (cases_lt 0 m) [
      | inl above ↦ above
      | inr not_above ↦ (
          let zero_is : m ≡ 0 = omega arith in
          let none = ap (λ (j : ℕ). allocs_at s objects j (bucket_at buckets at.0)) zero_is ∙ none-at-first s objects (bucket_at buckets at.0) in
          let same = shows.allocs at.0 lt in
          absurd (omega arith))
    ] in
    subst (λ (x : Prof). (x.mark ≡ m) × (1 ≤ m) × IsProf marked s objects x) at.3 (refl, late, right)

-- and each bucket with samples has one
all-each : (marked : Marking) (s : Samples) (buckets : List Bucket) (order : List ℕ) (m : ℕ) (objects : List Object) (calls : List Call) (b : Bucket) → AreNamed s buckets objects → IsOrder buckets order
    → ShowsMarkEnd marked s buckets m objects calls → 1 ≤ allocs_at s objects m b → (l : Prof) × In l (all_lines buckets calls m order) × IsOf m b l
all-each marked s buckets order m objects calls b named is shows some =
    let at = bucket-named s buckets objects m b named some in
    let number = shows.allocs at.0 at.1 ∙ ap (λ (x : Bucket). allocs_at s objects m x) at.2 in
    let on : ltb 0 (published_allocs at.0 calls) ≡ true = lt-ltb 0 (published_allocs at.0 calls) (omega arith) in
    let there = to-picked (λ n. ltb 0 (published_allocs n calls)) (λ n. line_of buckets m n (count_of calls n)) order at.0 (is.all at.0 at.1) on in (
      line_of buckets m at.0 (count_of calls at.0),
      subst (λ (x : List Prof). In (line_of buckets m at.0 (count_of calls at.0)) x) (sym (all-picked buckets calls m order)) there,
      record { mark = refl; stack = ap (λ (x : Bucket). x.stack) at.2; size = ap (λ (x : Bucket). x.slot) at.2 },
    )

all-rise : (buckets : List Bucket) (calls : List Call) (m : ℕ) (order : List ℕ) → IsOrder buckets order → AreRisingProfile (all_lines buckets calls m order)
all-rise buckets calls m order is =
    subst (λ (x : List Prof). AreRisingProfile x) (sym (all-picked buckets calls m order)) (picked-rise (λ n. ltb 0 (published_allocs n calls)) buckets m (λ n. count_of calls n) order is.rising)

pub tell-last : (marked : Marking) (s : Samples) (buckets : List Bucket) (order : List ℕ) (m : ℕ) (objects : List Object) (calls : List Call) → AreNamed s buckets objects → IsOrder buckets order
    → ShowsMarkEnd marked s buckets m objects calls → IsProfile marked s m objects (all_lines buckets calls m order)
tell-last marked s buckets order m objects calls named is shows = record {
  order = all-rise buckets calls m order is;
  right = λ l h. (let at = all-right marked s buckets order m objects calls l is shows h in (at.0, at.2));
  each = λ b some. all-each marked s buckets order m objects calls b named is shows some;
}

pub tell-each : (marked : Marking) (s : Samples) (buckets : List Bucket) (order : List ℕ) (m : ℕ) (objects : List Object) (calls : List Call) (before : List Count) (lines : List Prof) → AreNamed s buckets objects
    → IsOrder buckets order → ShowsMarkEnd marked s buckets m objects calls → HasTold marked s buckets order m objects before lines
    → IsProfileOfEach marked s m objects (lines ++ all_lines buckets calls m order)
tell-each marked s buckets order m objects calls before lines named is shows told =
    let new = all_lines buckets calls m order in
    record {
      order = apart-append IsProfBefore lines new told.told.order (all-rise buckets calls m order is)
          (λ a b ha hb. (let early = (told.told.right a ha).1 in let at = (all-right marked s buckets order m objects calls b is shows hb).0 in inl (omega arith)));
      right = λ l h. elim (in-cases lines new l h) [
        | inl old ↦ (let at = told.told.right l old in (at.0, (let lt = at.1 in omega arith), at.2))
        | inr fresh ↦ (let at = all-right marked s buckets order m objects calls l is shows fresh in ((let e = at.0 in let some = at.1 in omega arith), (let e = at.0 in omega arith), at.2))
      ];
      changed = λ k l h at less. elim (in-cases lines new l h) [
        | inl old ↦ told.told.changed k l old at
        | inr fresh ↦ (let e = (all-right marked s buckets order m objects calls l is shows fresh).0 in absurd (omega arith))
      ];
      each = λ k b less changed. (let at = told.told.each k b less changed in (at.0, in-left lines new at.0 at.1, at.2));
      last_each = λ b some. (let at = all-each marked s buckets order m objects calls b named is shows some in (at.0, in-right lines new at.0 at.1, at.2));
    }

-- ---- mark end by mark end

map-same : (f g : ℕ → Count) (xs : List ℕ) → ((n : ℕ) → In n xs → f n ≡ g n) → map f xs ≡ map g xs
map-same f g [] same = refl
map-same f g (x ∷ xs) same = ap (λ (y : Count). y ∷ map f xs) (same x (inl refl)) ∙ ap (λ (l : List Count). g x ∷ l) (map-same f g xs (λ n h. same n (inr h)))

-- each line of a bucket whose numbers changed is right
fresh-right : (marked : Marking) (s : Samples) (buckets : List Bucket) (order : List ℕ) (m : ℕ) (objects : List Object) (calls : List Call) (l : Prof) → IsOrder buckets order → ShowsMarkEnd marked s buckets m objects calls
    → In l (picked (λ n. not (is_same_count (count_at marked s objects (m - 1) (bucket_at buckets n)) (count_of calls n))) (λ n. line_of buckets m n (count_of calls n)) order)
    → (l.mark ≡ m) × IsProf marked s objects l × ((k : ℕ) × (m ≡ suc k) × IsChanged marked s objects k (bucket_of l))
fresh-right marked s buckets order m objects calls l is shows h =
    let at = from-picked (λ n. not (is_same_count (count_at marked s objects (m - 1) (bucket_at buckets n)) (count_of calls n))) (λ n. line_of buckets m n (count_of calls n)) order l h in
    let n = at.0 in
    let lt = is.within n at.1 in
    let differ : not (is_same_count (count_at marked s objects (m - 1) (bucket_at buckets n)) (count_at marked s objects m (bucket_at buckets n))) ≡ true =
    subst (λ (x : Count). not (is_same_count (count_at marked s objects (m - 1) (bucket_at buckets n)) x) ≡ true) (shown marked s buckets m objects calls n shows lt) at.2 in
    let changed = differ-changed marked s objects m (bucket_at buckets n) differ in
    let more = changed-some marked s objects changed.0 (bucket_at buckets n) changed.2 in
    let more' : 1 ≤ allocs_at s objects m (bucket_at buckets n) = subst (λ (j : ℕ). 1 ≤ allocs_at s objects j (bucket_at buckets n)) (sym changed.1) more in
    let some : 1 ≤ published_allocs n calls = subst (λ (j : ℕ). 1 ≤ j) (sym (shows.allocs n lt)) more' in
    subst (λ (x : Prof). (x.mark ≡ m) × IsProf marked s objects x × ((k : ℕ) × (m ≡ suc k) × IsChanged marked s objects k (bucket_of x))) at.3
    (refl, line-right marked s buckets m objects calls n shows lt some, (changed.0, changed.1, changed.2))

pub go-on : (marked : Marking) (s : Samples) (buckets : List Bucket) (order : List ℕ) (m : ℕ) (objects : List Object) (calls : List Call) (before : List Count) (lines : List Prof) → AreNamed s buckets objects
    → IsOrder buckets order → ShowsMarkEnd marked s buckets m objects calls → HasTold marked s buckets order m objects before lines
    → HasTold marked s buckets order (suc m) objects (map (count_of calls) order) (lines ++ changed_lines buckets calls m order before)
go-on marked s buckets order m objects calls before lines named is shows told =
    let was : ℕ → Count = λ n. count_at marked s objects (m - 1) (bucket_at buckets n) in
    let new = picked (λ n. not (is_same_count (was n) (count_of calls n))) (λ n. line_of buckets m n (count_of calls n)) order in
    let same : changed_lines buckets calls m order before ≡ new = ap (λ (l : List Count). changed_lines buckets calls m order l) told.numbers ∙ changed-picked buckets calls m was order in
    let right : (l : Prof) → In l new → (l.mark ≡ m) × IsProf marked s objects l × ((k : ℕ) × (m ≡ suc k) × IsChanged marked s objects k (bucket_of l)) =
    λ l h. fresh-right marked s buckets order m objects calls l is shows h in
    let lines_are : AreLinesBelow marked s (suc m) objects (lines ++ new) = record {
      order = apart-append IsProfBefore lines new told.told.order (picked-rise (λ n. not (is_same_count (was n) (count_of calls n))) buckets m (λ n. count_of calls n) order is.rising)
          (λ a b ha hb. (let early = (told.told.right a ha).1 in let at = (right b hb).0 in inl (omega arith)));
      right = λ l h. elim (in-cases lines new l h) [
        | inl old ↦ (let at = told.told.right l old in (at.0, (let lt = at.1 in omega arith), at.2))
        | inr fresh ↦ (let at = right l fresh in ((let e = at.0 in let f = at.2.1 in omega arith), (let e = at.0 in omega arith), at.1))
      ];
      changed = λ k l h at. elim (in-cases lines new l h) [
        | inl old ↦ told.told.changed k l old at
        | inr fresh ↦ (
            let is_right = right l fresh in
            let one : is_right.2.0 ≡ k = (let e = is_right.0 in let f = is_right.2.1 in omega arith) in
            subst (λ (j : ℕ). IsChanged marked s objects j (bucket_of l)) one is_right.2.2)
      ];
      each = λ k b less changed. elim (cases_lt (suc k) m) [
        | inl early ↦ (let at = told.told.each k b early changed in (at.0, in-left lines new at.0 at.1, at.2))
        | inr late ↦ (
            let here : suc k ≡ m = omega arith in
            let at = bucket-named s buckets objects (suc k) b named (changed-some marked s objects k b changed) in
            let n = at.0 in
            let differ : not (is_same_count (count_at marked s objects (suc k - 1) b) (count_at marked s objects (suc k) b)) ≡ true = changed-differ marked s objects k b changed in
            let differ-here : not (is_same_count (count_at marked s objects (m - 1) b) (count_at marked s objects m b)) ≡ true =
            subst (λ (j : ℕ). not (is_same_count (count_at marked s objects (j - 1) b) (count_at marked s objects j b)) ≡ true) here differ in
            let differ-named : not (is_same_count (was n) (count_at marked s objects m (bucket_at buckets n))) ≡ true =
            subst (λ (x : Bucket). not (is_same_count (count_at marked s objects (m - 1) x) (count_at marked s objects m x)) ≡ true) (sym at.2) differ-here in
            let on : not (is_same_count (was n) (count_of calls n)) ≡ true =
            subst (λ (x : Count). not (is_same_count (was n) x) ≡ true) (sym (shown marked s buckets m objects calls n shows at.1)) differ-named in
            let there = to-picked (λ i. not (is_same_count (was i) (count_of calls i))) (λ i. line_of buckets m i (count_of calls i)) order n (is.all n at.1) on in (
              line_of buckets m n (count_of calls n),
              in-right lines new (line_of buckets m n (count_of calls n)) there,
              record { mark = sym here; stack = ap (λ (x : Bucket). x.stack) at.2; size = ap (λ (x : Bucket). x.slot) at.2 },
            ))
      ];
    } in
    let less : m ≡ suc m - 1 = omega arith in
    record {
      told = subst (λ (l : List Prof). AreLinesBelow marked s (suc m) objects (lines ++ l)) (sym same) lines_are;
      numbers = map-same (count_of calls) (λ n. count_at marked s objects m (bucket_at buckets n)) order (λ n h. shown marked s buckets m objects calls n shows (is.within n h))
          ∙ ap (λ (j : ℕ). counts_at marked s objects j buckets order) less;
    }

-- ---- later objects

allocs-stay : (s : Samples) (news objects : List Object) (j : ℕ) (b : Bucket) → ((o : Object) → In o news → j ≤ o.cycle) → allocs_at s (news ++ objects) j b ≡ allocs_at s objects j b
allocs-stay s news objects j b later = count-old (λ o. is_sample s b o && ltb o.cycle j) news objects (λ o h. and_right (is_sample s b o) (ltb o.cycle j) (le-ltb o.cycle j (later o h)))

frees-stay : (marked : Marking) (s : Samples) (news objects : List Object) (j : ℕ) (b : Bucket) → ((o : Object) → In o news → j ≤ o.cycle)
    → frees_at marked s (news ++ objects) j b ≡ frees_at marked s objects j b
frees-stay marked s news objects j b later = count-old (λ o. is_sample s b o && (ltb o.cycle j && not (marked j o.id))) news objects
    (λ o h. and_right (is_sample s b o) (ltb o.cycle j && not (marked j o.id)) (let off = le-ltb o.cycle j (later o h) in rw off refl))

changed-back : (marked : Marking) (s : Samples) (news objects : List Object) (k : ℕ) (b : Bucket) → ((o : Object) → In o news → suc k ≤ o.cycle) → IsChanged marked s (news ++ objects) k b → IsChanged marked s objects k b
changed-back marked s news objects k b later changed =
    let a = allocs-stay s news objects k b (λ o h. (let le = later o h in omega arith)) in
    let a' = allocs-stay s news objects (suc k) b later in
    let f = frees-stay marked s news objects k b (λ o h. (let le = later o h in omega arith)) in
    let f' = frees-stay marked s news objects (suc k) b later in
    elim changed [ inl other ↦ inl (λ e. other (a' ∙ e ∙ sym a)) | inr other ↦ inr (λ e. other (f' ∙ e ∙ sym f)) ]

changed-stays : (marked : Marking) (s : Samples) (news objects : List Object) (k : ℕ) (b : Bucket) → ((o : Object) → In o news → suc k ≤ o.cycle) → IsChanged marked s objects k b → IsChanged marked s (news ++ objects) k b
changed-stays marked s news objects k b later changed =
    let a = allocs-stay s news objects k b (λ o h. (let le = later o h in omega arith)) in
    let a' = allocs-stay s news objects (suc k) b later in
    let f = frees-stay marked s news objects k b (λ o h. (let le = later o h in omega arith)) in
    let f' = frees-stay marked s news objects (suc k) b later in
    elim changed [ inl other ↦ inl (λ e. other (sym a' ∙ e ∙ a)) | inr other ↦ inr (λ e. other (sym f' ∙ e ∙ f)) ]

pub stay : (marked : Marking) (s : Samples) (buckets : List Bucket) (order : List ℕ) (m : ℕ) (objects news : List Object) (before : List Count) (lines : List Prof) → ((o : Object) → In o news → m ≤ o.cycle)
    → HasTold marked s buckets order m objects before lines → HasTold marked s buckets order m (news ++ objects) before lines
stay marked s buckets order m objects news before lines later told = record {
  told = record {
    order = told.told.order;
    right = λ l h. (
        let at = told.told.right l h in
        let early : (o : Object) → In o news → l.mark ≤ o.cycle = λ o i. (let le = later o i in let lt = at.1 in omega arith) in (
          at.0,
          at.1,
          record {
            some = at.2.some;
            allocs = at.2.allocs ∙ sym (allocs-stay s news objects l.mark (bucket_of l) early);
            frees = at.2.frees ∙ sym (frees-stay marked s news objects l.mark (bucket_of l) early);
          },
        ));
    changed = λ k l h at. changed-stays marked s news objects k (bucket_of l) (λ o i. (let le = later o i in let lt = (told.told.right l h).1 in omega arith)) (told.told.changed k l h at);
    each = λ k b less changed. told.told.each k b less (changed-back marked s news objects k b (λ o i. (let le = later o i in omega arith)) changed);
  };
  numbers = told.numbers ∙ map-same (λ n. count_at marked s objects (m - 1) (bucket_at buckets n)) (λ n. count_at marked s (news ++ objects) (m - 1) (bucket_at buckets n)) order (λ n h. (
      let early : (o : Object) → In o news → m - 1 ≤ o.cycle = λ o i. (let le = later o i in omega arith) in
      let a = sym (allocs-stay s news objects (m - 1) (bucket_at buckets n) early) in
      let f = sym (frees-stay marked s news objects (m - 1) (bucket_at buckets n) early) in
      λ i. record { allocs = a i; frees = f i }));
}
