-- Which items are samples, one more at a time.
use Rattle.std.proofs.Common.{◌≡◌, ◌≢◌, ℕ, zero, suc, ◌+◌, ◌<◌, ◌≤◌, Bool, true, false, ◌&&◌, eqb, List, [], ◌∷◌, ◌++◌, map, take, length, get_or, Some, None, refl, sym, ◌∙◌, ap, subst, arith, ◌⊎◌, inl, inr}
use Rattle.std.specs.List.{slice_get}
use Rattle.std.proofs.lemmas.Bool.{cases_Bool, cases_eq, cases_lt, eq-eqb, ne_eqb}
use Rattle.std.proofs.lemmas.List.{take_all}
use Rattle.page_alloc.specs.Lists.{In}
use Rattle.profile_cycle.specs.Sampling.{Countdown, behind, countdown, is_sample, sampled}
use Rattle.trace_reader.specs.declared.trace.Header.{Header}
use Rattle.trace_reader.specs.declared.trace.Trace.{Trace}
use Rattle.cycle_history.specs.Objects.{Object, is_placed}
use Rattle.cycle_history.specs.Sampled.{passing, placed_by}
use Rattle.report_check.specs.declared.items.Item.{Item}
use Rattle.report_check.specs.Items.{object_of, objects_of}
use Rattle.report_check.specs.Sampling.{AreCountdowns, AreFlags, flag_at}
use Rattle.report_check.proofs.Tallying.{front-more, front-of}

-- ---- one more of a list

pub snoc-get : {X : Type 0} (xs : List X) (x y : X) (p : ℕ) → slice_get (xs ++ x ∷ []) p ≡ Some y → (slice_get xs p ≡ Some y) ⊎ ((p ≡ length xs) × (x ≡ y))
snoc-get [] x y zero at = inr (refl, (let e : Some x ≡ Some y = at in cc))
snoc-get [] x y (suc p) at = absurd (let e : None ≡ Some y = at in cc)
snoc-get (z ∷ xs) x y zero at = inl at
snoc-get (z ∷ xs) x y (suc p) at = elim (snoc-get xs x y p at) [ inl old ↦ inl old | inr new ↦ inr (ap suc new.0, new.1) ]

snoc-old : {X : Type 0} (xs : List X) (x d : X) (p : ℕ) → p < length xs → get_or (xs ++ x ∷ []) p d ≡ get_or xs p d
snoc-old [] x d p lt = absurd (omega arith)
snoc-old (z ∷ xs) x d zero lt = refl
snoc-old (z ∷ xs) x d (suc p) lt = snoc-old xs x d p (omega arith)

snoc-new : {X : Type 0} (xs : List X) (x d : X) → get_or (xs ++ x ∷ []) (length xs) d ≡ x
snoc-new [] x d = refl
snoc-new (z ∷ xs) x d = snoc-new xs x d

snoc-none : (xs : List Bool) (p : ℕ) → get_or (xs ++ false ∷ []) p false ≡ get_or xs p false
snoc-none [] zero = refl
snoc-none [] (suc p) = refl
snoc-none (z ∷ xs) zero = refl
snoc-none (z ∷ xs) (suc p) = snoc-none xs p

map-in : {X Y : Type 0} (f g : X → Y) (xs : List X) → ((x : X) → In x xs → f x ≡ g x) → map f xs ≡ map g xs
map-in f g [] same = refl
map-in {X} {Y} f g (x ∷ xs) same = ap (λ (y : Y). y ∷ map f xs) (same x (inl refl)) ∙ ap (λ (ys : List Y). g x ∷ ys) (map-in f g xs (λ y i. same y (inr i)))

passing-in : {X : Type 0} (test : X → Bool) (xs : List X) (x : X) → In x (passing test xs) → In x xs
passing-in test [] x i = absurd i
passing-in {X} test (y ∷ xs) x i = elim (cases_Bool (test y)) [
  | inl on ↦ (
      let e : passing test (y ∷ xs) ≡ y ∷ passing test xs = rw on refl in
      elim (subst (λ (zs : List X). In x zs) e i) [ inl here ↦ inl here | inr there ↦ inr (passing-in test xs x there) ])
  | inr off ↦ (
      let e : passing test (y ∷ xs) ≡ passing test xs = rw off refl in
      inr (passing-in test xs x (subst (λ (zs : List X). In x zs) e i)))
]

-- ---- a processor's placed objects

placed-here : (p : ℕ) (o : Object) (os : List Object) → o.proc ≡ p → is_placed o.answer ≡ true → placed_by p (o ∷ os) ≡ o ∷ placed_by p os
placed-here p o os e placed = rw (eq-eqb o.proc p e, placed) refl

placed-other : (p : ℕ) (o : Object) (os : List Object) → o.proc ≢ p → placed_by p (o ∷ os) ≡ placed_by p os
placed-other p o os e = rw (ne_eqb o.proc p e) refl

placed-none : (p : ℕ) (o : Object) (os : List Object) → is_placed o.answer ≡ false → placed_by p (o ∷ os) ≡ placed_by p os
placed-none p o os off = elim (cases_Bool (eqb o.proc p)) [ inl on ↦ rw (on, off) refl | inr other ↦ rw other refl ]

-- ---- countdowns

-- the countdowns of all processors before any object
pub record AreFirst (h : Header) (n : ℕ) (states : List Countdown) : Type 0 where
  pub size : length states ≡ n
  pub counts : AreCountdowns h [] states

pub first-none : (h : Header) (counts : List Countdown) → counts ≡ [] → AreFirst h 0 counts
first-none h counts e = record { size = ap (λ (xs : List Countdown). length xs) e; counts = λ p c at. absurd (let n : slice_get [] p ≡ Some c = subst (λ (xs : List Countdown). slice_get xs p ≡ Some c) e at in let m : None ≡ Some c = n in cc) }

pub first-more : (h : Header) (n : ℕ) (counts : List Countdown) (c : Countdown) → c ≡ countdown h.rate h.seed n [] → AreFirst h n counts → AreFirst h (n + 1) (counts ++ c ∷ [])
first-more h n counts c is are = record {
  size = (let e = Rattle.std.proofs.Common.length-append counts (c ∷ []) in let s = are.size in omega arith);
  counts = λ p d at. elim (snoc-get counts c d p at) [
    | inl old ↦ are.counts p d old
    | inr new ↦ sym new.1 ∙ (is ∙ ap (λ (k : ℕ). countdown h.rate h.seed k []) (sym are.size ∙ sym new.0))
  ];
}

-- ---- flags

-- the first n items have their flags, and the countdowns are behind their objects
pub record IsFlagged (t : Trace) (items : List Item) (n : ℕ) (states : List Countdown) (list : List Bool) : Type 0 where
  pub size : length list ≡ n
  pub procs : length states ≡ t.header.procs
  pub counts : AreCountdowns t.header (objects_of (take n items)) states
  pub flags : AreFlags t items list (objects_of (take n items))

pub flagged-none : (t : Trace) (items : List Item) (counts : List Countdown) (flags : List Bool) → flags ≡ [] → length counts ≡ t.header.procs → AreCountdowns t.header [] counts → IsFlagged t items 0 counts flags
flagged-none t items counts flags e procs are = record {
  size = ap (λ (xs : List Bool). length xs) e;
  procs = procs;
  counts = are;
  flags = record { sampled = λ p. refl; placed = λ i item at on. absurd (off-on (flag_at flags i) (ap (λ (xs : List Bool). flag_at xs i) e ∙ none i) on) };
}
  where
    off-on : (b : Bool) → b ≡ false → b ≡ true → ⊥
    off-on b off on = cc

    none : (i : ℕ) → flag_at [] i ≡ false
    none zero = refl
    none (suc i) = refl

-- the flags of older objects stay
flags-stay : (items : List Item) (n p : ℕ) (flags : List Bool) (flag : Bool) → length flags ≡ n
    → map (λ (o : Object). flag_at (flags ++ flag ∷ []) o.id) (placed_by p (objects_of (take n items))) ≡ map (λ (o : Object). flag_at flags o.id) (placed_by p (objects_of (take n items)))
flags-stay items n p flags flag size = map-in (λ (o : Object). flag_at (flags ++ flag ∷ []) o.id) (λ (o : Object). flag_at flags o.id) (placed_by p (objects_of (take n items)))
    (λ o i. (
    let f = front-of items n o (passing-in (λ (x : Object). eqb x.proc p && is_placed x.answer) (objects_of (take n items)) o i) in
    let lt = f.before in
    let id : o.id ≡ f.number = ap (λ (x : Object). x.id) f.is in
    snoc-old flags flag false o.id (omega arith)))

abbrev Slots : List Object → List ℕ
Slots os = map (λ (o : Object). o.need.slot) os

-- what each processor's objects say stays, where one comes that isn't its own
samples-stay : (t : Trace) (items : List Item) (n p : ℕ) (flags : List Bool) (flag : Bool) (o : Object) → length flags ≡ n → placed_by p (o ∷ objects_of (take n items)) ≡ placed_by p (objects_of (take n items))
    → map (λ (x : Object). flag_at flags x.id) (placed_by p (objects_of (take n items))) ≡ sampled t.header.rate t.header.seed p (Slots (placed_by p (objects_of (take n items))))
    → map (λ (x : Object). flag_at (flags ++ flag ∷ []) x.id) (placed_by p (o ∷ objects_of (take n items))) ≡ sampled t.header.rate t.header.seed p (Slots (placed_by p (o ∷ objects_of (take n items))))
samples-stay t items n p flags flag o size same was =
    ap (λ (os : List Object). map (λ (x : Object). flag_at (flags ++ flag ∷ []) x.id) os) same
    ∙ (flags-stay items n p flags flag size ∙ (was ∙ ap (λ (os : List Object). sampled t.header.rate t.header.seed p (Slots os)) (sym same)))

placed-stay : (items : List Item) (n : ℕ) (item : Item) (flags : List Bool) (flag : Bool) → length flags ≡ n → slice_get items n ≡ Some item → (flag ≡ true → is_placed item.answer ≡ true)
    → ((i : ℕ) (x : Item) → slice_get items i ≡ Some x → flag_at flags i ≡ true → is_placed x.answer ≡ true)
    → (i : ℕ) (x : Item) → slice_get items i ≡ Some x → flag_at (flags ++ flag ∷ []) i ≡ true → is_placed x.answer ≡ true
placed-stay items n item flags flag size at here was i x there on = elim (cases_lt i (length flags)) [
  | inl old ↦ was i x there (sym (snoc-old flags flag false i old) ∙ on)
  | inr ge ↦ elim (cases_eq i n) [
    | inl same ↦ (
        let e : i ≡ length flags = omega arith in
        let f : flag ≡ true = sym (snoc-new flags flag false) ∙ (ap (λ (k : ℕ). flag_at (flags ++ flag ∷ []) k) (sym e) ∙ on) in
        let g : item ≡ x = (let there' : slice_get items n ≡ Some x = subst (λ (k : ℕ). slice_get items k ≡ Some x) same there in cc) in
        subst (λ (y : Item). is_placed y.answer ≡ true) g (here f))
    | inr behind ↦ (
        let e = snoc-past flags flag i (omega arith) in
        absurd (off-on (flag_at (flags ++ flag ∷ []) i) e on))
  ]
]
  where
    off-on : (b : Bool) → b ≡ false → b ≡ true → ⊥
    off-on b off on = cc

    snoc-past : (xs : List Bool) (b : Bool) (k : ℕ) → length xs < k → flag_at (xs ++ b ∷ []) k ≡ false
    snoc-past [] b zero lt = absurd (omega arith)
    snoc-past [] b (suc zero) lt = refl
    snoc-past [] b (suc (suc k)) lt = refl
    snoc-past (z ∷ xs) b zero lt = absurd (omega arith)
    snoc-past (z ∷ xs) b (suc k) lt = snoc-past xs b k (omega arith)

size-more : (flags : List Bool) (flag : Bool) (n : ℕ) → length flags ≡ n → length (flags ++ flag ∷ []) ≡ n + 1
size-more flags flag n e = (let a = Rattle.std.proofs.Common.length-append flags (flag ∷ []) in omega arith)

pub flagged-other : (t : Trace) (items : List Item) (n : ℕ) (item : Item) (counts new : List Countdown) (flags : List Bool) (flag : Bool) → slice_get items n ≡ Some item → is_placed item.answer ≡ false
    → flag ≡ false → new ≡ counts → IsFlagged t items n counts flags → IsFlagged t items (n + 1) new (flags ++ flag ∷ [])
flagged-other t items n item counts new flags flag at off none same are =
    let more = front-more items n item at in
    let os = objects_of (take n items) in
    let o = object_of n item in
    record {
      size = size-more flags flag n are.size;
      procs = ap (λ (xs : List Countdown). length xs) same ∙ are.procs;
      counts = λ p c there. (
          let e = placed-none p o os off in
          are.counts p c (subst (λ (xs : List Countdown). slice_get xs p ≡ Some c) same there)
          ∙ ap (λ (xs : List Object). countdown t.header.rate t.header.seed p (Slots xs)) (sym e ∙ ap (λ (xs : List Object). placed_by p xs) (sym more)));
      flags = record {
        sampled = λ p. subst (λ (xs : List Object). map (λ (x : Object). flag_at (flags ++ flag ∷ []) x.id) (placed_by p xs) ≡ sampled t.header.rate t.header.seed p (Slots (placed_by p xs))) (sym more)
            (samples-stay t items n p flags flag o are.size (placed-none p o os off) (are.flags.sampled p));
        placed = placed-stay items n item flags flag are.size at (λ on. absurd (off-on flag none on)) are.flags.placed;
      };
    }
  where
    off-on : (b : Bool) → b ≡ false → b ≡ true → ⊥
    off-on b off on = cc

pub flagged-placed : (t : Trace) (items : List Item) (n : ℕ) (item : Item) (c : Countdown) (counts new : List Countdown) (flags : List Bool) (flag : Bool) → slice_get items n ≡ Some item → is_placed item.answer ≡ true
    → slice_get counts item.proc ≡ Some c → flag ≡ is_sample c item.slot → length new ≡ length counts → slice_get new item.proc ≡ Some (behind c item.slot) → ((p : ℕ) → p ≢ item.proc → slice_get new p ≡ slice_get counts p)
    → IsFlagged t items n counts flags → IsFlagged t items (n + 1) new (flags ++ flag ∷ [])
flagged-placed t items n item c counts new flags flag at on here is long there others are =
    let more = front-more items n item at in
    let os = objects_of (take n items) in
    let o = object_of n item in
    let now : c ≡ countdown t.header.rate t.header.seed item.proc (Slots (placed_by item.proc os)) = are.counts item.proc c here in
    record {
      size = size-more flags flag n are.size;
      procs = long ∙ are.procs;
      counts = λ p d got. subst (λ (xs : List Object). d ≡ countdown t.header.rate t.header.seed p (Slots (placed_by p xs))) (sym more) (elim (cases_eq item.proc p) [
        | inl same ↦ (
            let got' : slice_get new item.proc ≡ Some d = subst (λ (k : ℕ). slice_get new k ≡ Some d) (sym same) got in
            let e : d ≡ behind c item.slot = some-same (sym got' ∙ there) in
            let f : placed_by item.proc (o ∷ os) ≡ o ∷ placed_by item.proc os = placed-here item.proc o os refl on in
            subst (λ (k : ℕ). d ≡ countdown t.header.rate t.header.seed k (Slots (placed_by k (o ∷ os)))) same
            (e ∙ (ap (λ (x : Countdown). behind x item.slot) now ∙ ap (λ (xs : List Object). countdown t.header.rate t.header.seed item.proc (Slots xs)) (sym f))))
        | inr other ↦ (
            let e = placed-other p o os other in
            let was = are.counts p d (sym (others p (λ (q : p ≡ item.proc). other (sym q))) ∙ got) in
            was ∙ ap (λ (xs : List Object). countdown t.header.rate t.header.seed p (Slots xs)) (sym e))
      ]);
      flags = record {
        sampled = λ p. subst (λ (xs : List Object). map (λ (x : Object). flag_at (flags ++ flag ∷ []) x.id) (placed_by p xs) ≡ sampled t.header.rate t.header.seed p (Slots (placed_by p xs))) (sym more)
            (elim (cases_eq item.proc p) [
              | inl same ↦ subst (λ (k : ℕ). map (λ (x : Object). flag_at (flags ++ flag ∷ []) x.id) (placed_by k (o ∷ os)) ≡ sampled t.header.rate t.header.seed k (Slots (placed_by k (o ∷ os)))) same (
                  let f : placed_by item.proc (o ∷ os) ≡ o ∷ placed_by item.proc os = placed-here item.proc o os refl on in
                  let first : flag_at (flags ++ flag ∷ []) n ≡ is_sample (countdown t.header.rate t.header.seed item.proc (Slots (placed_by item.proc os))) item.slot =
                  ap (λ (k : ℕ). flag_at (flags ++ flag ∷ []) k) (sym are.size) ∙ (snoc-new flags flag false ∙ (is ∙ ap (λ (x : Countdown). is_sample x item.slot) now)) in
                  let rest = flags-stay items n item.proc flags flag are.size ∙ are.flags.sampled item.proc in
                  ap (λ (xs : List Object). map (λ (x : Object). flag_at (flags ++ flag ∷ []) x.id) xs) f
                  ∙ (ap (λ (b : Bool). b ∷ map (λ (x : Object). flag_at (flags ++ flag ∷ []) x.id) (placed_by item.proc os)) first
                  ∙ (ap (λ (bs : List Bool). is_sample (countdown t.header.rate t.header.seed item.proc (Slots (placed_by item.proc os))) item.slot ∷ bs) rest
                  ∙ ap (λ (xs : List Object). sampled t.header.rate t.header.seed item.proc (Slots xs)) (sym f))))
              | inr other ↦ samples-stay t items n p flags flag o are.size (placed-other p o os other) (are.flags.sampled p)
            ]);
        placed = placed-stay items n item flags flag are.size at (λ _. on) are.flags.placed;
      };
    }
  where
    some-same : {x y : Countdown} → Some x ≡ Some y → x ≡ y
    some-same h = cc

pub flagged-all : (t : Trace) (items : List Item) (n : ℕ) (counts : List Countdown) (flags : List Bool) → length items ≤ n → n ≤ length items → IsFlagged t items n counts flags
    → AreFlags t items flags (objects_of items) × (length flags ≡ length items)
flagged-all t items n counts flags all le are =
    let whole : take n items ≡ items = take_all n items all in
    (subst (λ (xs : List Item). AreFlags t items flags (objects_of xs)) whole are.flags, (let e = are.size in omega arith))
