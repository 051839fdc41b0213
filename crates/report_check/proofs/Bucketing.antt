-- The places of the samples' buckets, and how many are of a bucket and before a mark end.
use Rattle.std.proofs.Common.{◌≡◌, ℕ, zero, suc, ◌+◌, ◌^◌, ◌<◌, ◌≤◌, Bool, true, false, ◌&&◌, not, eqb, leb, ltb, List, [], ◌∷◌, ◌++◌, map, take, length, get_or, Some, None, IsPermutation, refl, sym, ◌∙◌, ap, subst, arith, inl, inr}
use Rattle.std.specs.List.{slice_get}
use Rattle.std.proofs.lemmas.Bool.{cases_Bool, cases_eq, cases_lt, cases_order, eqb-true, eq-eqb, le-leb, leb-true, lt-ltb, le-ltb, ltb-true, lt-leb, and_parts, and_from}
use Rattle.std.proofs.lemmas.List.{take_all}
use Rattle.std.proofs.lemmas.Option.{slice_get_within}
use Rattle.page_alloc.specs.Lists.{count, one_if}
use Rattle.trace_reader.specs.declared.trace.Event.{Event}
use Rattle.trace_reader.specs.declared.trace.Trace.{Trace}
use Rattle.trace_reader.specs.Limits.{events_of}
use Rattle.cycle_history.specs.declared.Report.{Report}
use Rattle.cycle_history.specs.Requests.{marked_by}
use Rattle.cycle_history.specs.Objects.{Object, is_placed}
use Rattle.cycle_history.specs.Profile.{Bucket, allocs_at, frees_at, is_sample, samples_in}
use Rattle.cycle_history.specs.Sampled.{stack_of}
use Rattle.report_check.specs.declared.items.Item.{Item}
use Rattle.report_check.specs.Items.{object_of, objects_of}
use Rattle.report_check.specs.Known.{AreKnownItems}
use Rattle.report_check.specs.Lasts.{last_at}
use Rattle.report_check.specs.Order.{place_of}
use Rattle.report_check.specs.Sampling.{FitTheirTypes, AreFlags, ArePlacesBy, flag_at, is_before}
use Rattle.report_check.proofs.Counting.{count-permutation}
use Rattle.report_check.proofs.Numbered.{item-of}
use Rattle.report_check.proofs.Tallying.{bool-same, count-same, count-snoc, front-more}

-- ---- places, one more at a time

-- the places of the first n items
pub record ArePlaced (items : List Item) (flags : List Bool) (stacks cycles : List ℕ) (n : ℕ) (list : List ℕ) : Type 0 where
  pub places : ArePlacesBy flags stacks cycles (objects_of (take n items)) list
  pub few : FitTheirTypes items stacks cycles n

pub placed-first : (items : List Item) (flags : List Bool) (stacks cycles list : List ℕ) → list ≡ [] → ArePlaced items flags stacks cycles 0 list
placed-first items flags stacks cycles list e = record {
  places = λ test. ap (λ (xs : List ℕ). count test xs) e;
  few = λ i item lt. absurd (omega arith);
}

few-more : (items : List Item) (stacks cycles : List ℕ) (n : ℕ) (item : Item) → slice_get items n ≡ Some item → get_or stacks n 0 < 2 ^ 32 → item.slot < 2 ^ 64 → get_or cycles n 0 < 2 ^ 32
    → FitTheirTypes items stacks cycles n → FitTheirTypes items stacks cycles (n + 1)
few-more items stacks cycles n item at a b c are i x lt there = elim (cases_eq i n) [
  | inl same ↦ (
      let e : item ≡ x = (let there' : slice_get items n ≡ Some x = subst (λ (k : ℕ). slice_get items k ≡ Some x) same there in cc) in
      (rw same a, subst (λ (y : Item). y.slot < 2 ^ 64) e b, rw same c))
  | inr before ↦ are i x (omega arith) there
]

pub placed-more : (items : List Item) (flags : List Bool) (stacks cycles list : List ℕ) (n place : ℕ) (item : Item) → slice_get items n ≡ Some item → flag_at flags n ≡ true
    → place ≡ place_of (get_or stacks n 0) item.slot (get_or cycles n 0) → get_or stacks n 0 < 2 ^ 32 → item.slot < 2 ^ 64 → get_or cycles n 0 < 2 ^ 32
    → ArePlaced items flags stacks cycles n list → ArePlaced items flags stacks cycles (n + 1) (list ++ place ∷ [])
placed-more items flags stacks cycles list n place item at on is a b c are = record {
  places = λ test. (
      let s = count-snoc test list place in
      let more = ap (λ (os : List Object). count (λ o. flag_at flags o.id && test (place_of (get_or stacks o.id 0) o.need.slot (get_or cycles o.id 0))) os) (front-more items n item at) in
      let o : one_if (flag_at flags n && test (place_of (get_or stacks n 0) item.slot (get_or cycles n 0))) ≡ one_if (test place) = rw on (ap (λ (k : ℕ). one_if (test k)) (sym is)) in
      let was = are.places test in
      omega arith);
  few = few-more items stacks cycles n item at a b c are.few;
}

pub placed-skip : (items : List Item) (flags : List Bool) (stacks cycles list : List ℕ) (n : ℕ) (item : Item) → slice_get items n ≡ Some item → flag_at flags n ≡ false
    → get_or stacks n 0 < 2 ^ 32 → item.slot < 2 ^ 64 → get_or cycles n 0 < 2 ^ 32
    → ArePlaced items flags stacks cycles n list → ArePlaced items flags stacks cycles (n + 1) list
placed-skip items flags stacks cycles list n item at off a b c are = record {
  places = λ test. (
      let more = ap (λ (os : List Object). count (λ o. flag_at flags o.id && test (place_of (get_or stacks o.id 0) o.need.slot (get_or cycles o.id 0))) os) (front-more items n item at) in
      let o : one_if (flag_at flags n && test (place_of (get_or stacks n 0) item.slot (get_or cycles n 0))) ≡ 0 = rw off refl in
      let was = are.places test in
      omega arith);
  few = few-more items stacks cycles n item at a b c are.few;
}

pub placed-all : (items : List Item) (flags : List Bool) (stacks cycles list : List ℕ) (n : ℕ) → length items ≤ n → n ≤ length items → ArePlaced items flags stacks cycles n list
    → ArePlacesBy flags stacks cycles (objects_of items) list × FitTheirTypes items stacks cycles (length items)
placed-all items flags stacks cycles list n all le are =
    let whole : take n items ≡ items = take_all n items all in
    (subst (λ (xs : List Item). ArePlacesBy flags stacks cycles (objects_of xs) list) whole are.places, subst (λ (k : ℕ). FitTheirTypes items stacks cycles k) (let e : n ≡ length items = omega arith in e) are.few)

-- ---- places of a bucket

pub place-low : (stack slot mark : ℕ) → place_of stack slot 0 ≤ place_of stack slot mark
unfolding place_of
place-low stack slot mark = omega arith

-- numbers of types have one place
pub place-one : (s l m s' l' m' : ℕ) → l < 2 ^ 64 → m < 2 ^ 32 → l' < 2 ^ 64 → m' < 2 ^ 32 → place_of s l m ≡ place_of s' l' m' → (s ≡ s') × (l ≡ l') × (m ≡ m')
unfolding place_of
place-one s l m s' l' m' ll lm ll' lm' e = elim (cases_order s s') [
  | inl same ↦ elim (cases_order l l') [
    | inl slot ↦ (same, slot, omega arith)
    | inr order ↦ elim order [ inl lt ↦ absurd (omega arith) | inr gt ↦ absurd (omega arith) ]
  ]
  | inr order ↦ elim order [ inl lt ↦ absurd (omega arith) | inr gt ↦ absurd (omega arith) ]
]

before-here : (b : Bucket) (m l s c : ℕ) → l < 2 ^ 64 → c < 2 ^ 32 → b.slot < 2 ^ 64 → m < 2 ^ 32 → place_of b.stack b.slot 0 ≤ place_of s l c → place_of s l c < place_of b.stack b.slot m → (s ≡ b.stack) × (l ≡ b.slot) × (c < m)
unfolding place_of
before-here b m l s c ll lc lb lm low high = elim (cases_order s b.stack) [
  | inl same ↦ elim (cases_order l b.slot) [
    | inl slot ↦ (same, slot, omega arith)
    | inr order ↦ elim order [ inl lt ↦ absurd (omega arith) | inr gt ↦ absurd (omega arith) ]
  ]
  | inr order ↦ elim order [ inl lt ↦ absurd (omega arith) | inr gt ↦ absurd (omega arith) ]
]

before-there : (b : Bucket) (m l s c : ℕ) → s ≡ b.stack → l ≡ b.slot → c < m → (place_of b.stack b.slot 0 ≤ place_of s l c) × (place_of s l c < place_of b.stack b.slot m)
unfolding place_of
before-there b m l s c es el lt = (omega arith, omega arith)

-- a place is one of the bucket's before the mark end where the stack and the slot are its own, and the cycle is before
pub is_before-place : (b : Bucket) (m s l c : ℕ) → l < 2 ^ 64 → c < 2 ^ 32 → b.slot < 2 ^ 64 → m < 2 ^ 32 → is_before b m (place_of s l c) ≡ (eqb s b.stack && (eqb l b.slot && ltb c m))
is_before-place b m s l c ll lc lb lm = bool-same (is_before b m (place_of s l c)) (eqb s b.stack && (eqb l b.slot && ltb c m))
    (λ on. (
    let p = and_parts (leb (place_of b.stack b.slot 0) (place_of s l c)) (ltb (place_of s l c) (place_of b.stack b.slot m)) on in
    let r = before-here b m l s c ll lc lb lm (leb-true (place_of b.stack b.slot 0) (place_of s l c) p.0) (ltb-true (place_of s l c) (place_of b.stack b.slot m) p.1) in
    and_from (eqb s b.stack) (eqb l b.slot && ltb c m) (eq-eqb s b.stack r.0) (and_from (eqb l b.slot) (ltb c m) (eq-eqb l b.slot r.1) (lt-ltb c m r.2))))
    (λ on. (
    let p = and_parts (eqb s b.stack) (eqb l b.slot && ltb c m) on in
    let q = and_parts (eqb l b.slot) (ltb c m) p.1 in
    let r = before-there b m l s c (eqb-true s b.stack p.0) (eqb-true l b.slot q.0) (ltb-true c m q.1) in
    and_from (leb (place_of b.stack b.slot 0) (place_of s l c)) (ltb (place_of s l c) (place_of b.stack b.slot m)) (le-leb (place_of b.stack b.slot 0) (place_of s l c) r.0) (lt-ltb (place_of s l c) (place_of b.stack b.slot m) r.1)))

-- how many are between two bounds
pub between : (low high : ℕ) (xs : List ℕ) → low ≤ high → count (λ x. ltb x high) xs ≡ count (λ x. ltb x low) xs + count (λ x. leb low x && ltb x high) xs
between low high [] le = refl
between low high (x ∷ xs) le =
    let r = between low high xs le in
    let one : one_if (ltb x high) ≡ one_if (ltb x low) + one_if (leb low x && ltb x high) = elim (cases_lt x low) [
      | inl lt ↦ (
          let a : ltb x low ≡ true = lt-on x low lt in
          let b : ltb x high ≡ true = lt-on x high (omega arith) in
          let c : leb low x ≡ false = lt-leb low x lt in
          rw (a, b, c) refl)
      | inr ge ↦ (
          let a : ltb x low ≡ false = lt-off x low ge in
          let c : leb low x ≡ true = le-leb low x ge in
          let none = ap one_if a in
          let all : one_if (leb low x && ltb x high) ≡ one_if (ltb x high) = rw c refl in
          omega arith)
    ] in
    omega arith
  where
    lt-on : (x y : ℕ) → x < y → ltb x y ≡ true
    lt-on x y lt = lt-ltb x y lt

    lt-off : (x y : ℕ) → y ≤ x → ltb x y ≡ false
    lt-off x y le = le-ltb x y le

-- ---- what the places count

pub stack-at : (events : List Event) (i : ℕ) → get_or (map (λ (e : Event). e.stack) events) i 0 ≡ stack_of (slice_get events i)
stack-at [] zero = refl
stack-at [] (suc i) = refl
stack-at (e ∷ events) zero = refl
stack-at (e ∷ events) (suc i) = stack-at events i

cycle-at : (items : List Item) (i : ℕ) (item : Item) → slice_get items i ≡ Some item → get_or (map (λ (x : Item). x.cycle) items) i 0 ≡ item.cycle
cycle-at [] i item at = absurd (let e : None ≡ Some item = at in cc)
cycle-at (x ∷ items) zero item at = (let e : Some x ≡ Some item = at in cc)
cycle-at (x ∷ items) (suc i) item at = cycle-at items i item at

-- a flagged object of the bucket that passes a test is a sample of it that does
flagged-sample : (t : Trace) (flags : List Bool) (b : Bucket) (o : Object) (s : ℕ) (x : Bool) → (flag_at flags o.id ≡ true → is_placed o.answer ≡ true) → s ≡ stack_of (slice_get (events_of t) o.id)
    → (flag_at flags o.id && (eqb s b.stack && (eqb o.need.slot b.slot && x))) ≡ (is_sample (samples_in t (flag_at flags)) b o && x)
flagged-sample t flags b o s x placed e = elim (cases_Bool (flag_at flags o.id)) [
  | inl on ↦ (
      let p = placed on in
      rw (on, p, sym e) (assoc (eqb s b.stack) (eqb o.need.slot b.slot) x))
  | inr off ↦ rw off (none (is_placed o.answer) x)
]
  where
    assoc : (a c d : Bool) → (a && (c && d)) ≡ ((a && c) && d)
    assoc true c d = refl
    assoc false c d = refl

    none : (a d : Bool) → false ≡ ((a && false) && d)
    none true d = refl
    none false d = refl

-- an object is placed before a mark end that doesn't mark it exactly where its last cycle is before
pub freed-when : (t : Trace) (report : Report) (items : List Item) (lasts : List ℕ) (i m : ℕ) (item : Item) → AreKnownItems t report items lasts → slice_get items i ≡ Some item
    → (ltb item.cycle m && not (marked_by t m i)) ≡ ltb (last_at lasts i) m
freed-when t report items lasts i m item known at =
    let own = known.until.own i item at in
    let marked = known.until.marked i m item at in
    bool-same (ltb item.cycle m && not (marked_by t m i)) (ltb (last_at lasts i) m)
    (λ on. (
    let p = and_parts (ltb item.cycle m) (not (marked_by t m i)) on in
    let lt = ltb-true item.cycle m p.0 in
    elim (cases_lt (last_at lasts i) m) [
      | inl before ↦ lt-ltb (last_at lasts i) m before
      | inr ge ↦ absurd (not-both (marked_by t m i) (marked.1 (lt, ge)) p.1)
    ]))
    (λ on. (
    let lt = ltb-true (last_at lasts i) m on in
    and_from (ltb item.cycle m) (not (marked_by t m i)) (lt-ltb item.cycle m (omega arith)) (elim (cases_Bool (marked_by t m i)) [
      | inl yes' ↦ (let w = marked.0 yes' in let up = w.1 in absurd (omega arith))
      | inr no' ↦ rw no' refl
    ])))
  where
    not-both : (b : Bool) → b ≡ true → not b ≡ true → ⊥
    not-both true h n = cc
    not-both false h n = cc

-- what is known of the lists that the places were made of
pub record AreMade (t : Trace) (items : List Item) (flags : List Bool) (stacks cycles places sorted : List ℕ) : Type 0 where
  pub flagged : AreFlags t items flags (objects_of items)
  pub stacked : stacks ≡ map (λ (e : Event). e.stack) (events_of t)
  pub placed : ArePlacesBy flags stacks cycles (objects_of items) places
  pub few : FitTheirTypes items stacks cycles (length items)
  pub same : IsPermutation places sorted

made-count : (t : Trace) (items : List Item) (flags : List Bool) (stacks cycles places sorted : List ℕ) (b : Bucket) (m : ℕ) (when : Object → Bool) → AreMade t items flags stacks cycles places sorted → b.slot < 2 ^ 64 → m < 2 ^ 32
    → ((i : ℕ) (item : Item) → slice_get items i ≡ Some item → ltb (get_or cycles i 0) m ≡ when (object_of i item))
    → count (is_before b m) sorted ≡ count (λ o. is_sample (samples_in t (flag_at flags)) b o && when o) (objects_of items)
made-count t items flags stacks cycles places sorted b m when made lb lm same =
    count-permutation (is_before b m) places sorted made.same ∙ (made.placed (is_before b m)
    ∙ count-same (λ o. flag_at flags o.id && is_before b m (place_of (get_or stacks o.id 0) o.need.slot (get_or cycles o.id 0))) (λ o. is_sample (samples_in t (flag_at flags)) b o && when o) (objects_of items)
    (λ o among. (
    let f = item-of items o among in
    let i = f.number in
    let item = f.item in
    let bounds = made.few i item (slice_get_within items i item f.at) f.at in
    let one : (flag_at flags i && is_before b m (place_of (get_or stacks i 0) item.slot (get_or cycles i 0))) ≡ (flag_at flags i && (eqb (get_or stacks i 0) b.stack && (eqb item.slot b.slot && when (object_of i item)))) =
    ap (λ (x : Bool). flag_at flags i && x) (is_before-place b m (get_or stacks i 0) item.slot (get_or cycles i 0) bounds.1 bounds.2 lb lm ∙ ap (λ (x : Bool). eqb (get_or stacks i 0) b.stack && (eqb item.slot b.slot && x)) (same i item f.at)) in
    let two = flagged-sample t flags b (object_of i item) (get_or stacks i 0) (when (object_of i item)) (made.flagged.placed i item f.at) (ap (λ (xs : List ℕ). get_or xs i 0) made.stacked ∙ stack-at (events_of t) i) in
    subst (λ (x : Object). (flag_at flags x.id && is_before b m (place_of (get_or stacks x.id 0) x.need.slot (get_or cycles x.id 0))) ≡ (is_sample (samples_in t (flag_at flags)) b x && when x)) (sym f.is) (one ∙ two))))

pub made-allocs : (t : Trace) (items : List Item) (flags : List Bool) (stacks cycles places sorted : List ℕ) (b : Bucket) (m : ℕ) → AreMade t items flags stacks cycles places sorted → cycles ≡ map (λ (x : Item). x.cycle) items → b.slot < 2 ^ 64 → m < 2 ^ 32
    → count (is_before b m) sorted ≡ allocs_at (samples_in t (flag_at flags)) (objects_of items) m b
made-allocs t items flags stacks cycles places sorted b m made own lb lm = made-count t items flags stacks cycles places sorted b m (λ o. ltb o.cycle m) made lb lm
    (λ i item at. ap (λ (k : ℕ). ltb k m) (ap (λ (xs : List ℕ). get_or xs i 0) own ∙ cycle-at items i item at))

pub made-frees : (t : Trace) (report : Report) (items : List Item) (lasts : List ℕ) (flags : List Bool) (stacks places sorted : List ℕ) (b : Bucket) (m : ℕ) → AreKnownItems t report items lasts → AreMade t items flags stacks lasts places sorted → b.slot < 2 ^ 64 → m < 2 ^ 32
    → count (is_before b m) sorted ≡ frees_at (marked_by t) (samples_in t (flag_at flags)) (objects_of items) m b
made-frees t report items lasts flags stacks places sorted b m known made lb lm = made-count t items flags stacks lasts places sorted b m (λ o. ltb o.cycle m && not (marked_by t m o.id)) made lb lm
    (λ i item at. sym (freed-when t report items lasts i m item known at))
