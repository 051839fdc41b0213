-- The buckets of a trace: no two are the same, each is of an event, and each event has one.
use Rattle.std.proofs.Common.{◌≡◌, ℕ, zero, suc, ◌+◌, ◌*◌, ◌/◌, ◌^◌, ◌<◌, ◌≤◌, Bool, true, false, eqb, List, [], ◌∷◌, ◌++◌, length, map, get_or, Some, refl, sym, ◌∙◌, ap, subst, arith, ◌⊎◌, inl, inr}
use Rattle.std.specs.Prelude.{fold}
use Rattle.std.specs.List.{AllByRecursion, list_any, slice_get}
use Rattle.std.specs.Option.{option_map}
use Rattle.std.proofs.lemmas.Bool.{cases_Bool, cases_eq, cases_lt, eq-eqb, ne_eqb, eqb-true}
use Rattle.std.proofs.lemmas.List.{length-map}
use Rattle.std.proofs.lemmas.Option.{slice_get-get_or, slice_get-map}
use Rattle.page_alloc.specs.Lists.{In, AllApart}
use Rattle.trace_reader.specs.declared.trace.Event.{Event}
use Rattle.trace_reader.specs.declared.trace.Trace.{Trace}
use Rattle.trace_reader.specs.Limits.{EventFits, events_of}
use Rattle.trace_reader.proofs.Digits.{AllByRecursion-push}
use Rattle.profile_cycle.specs.declared.buckets.Bucket.{Bucket}
use Rattle.profile_cycle.specs.Naming.{buckets_of, is_same, named, pairs_of, slot_for}
use Rattle.cycle_history.specs.declared.Answer.{Answer}
use Rattle.cycle_history.specs.declared.Answer.TheVariants.{Zero}
use Rattle.cycle_history.specs.Requests.{Request, requests_from}
use Rattle.cycle_history.specs.Objects.{is_placed}
use Rattle.cycle_history.specs.Counted.{AreZeros}
use Rattle.heap_text.specs.declared.asked.Asked.{Asked}
use Rattle.heap_text.specs.Counting.{AreDifferent, IsLimitedBucket, request_of}
use Rattle.profile_cycle.proofs.Named.{slot-large}
use Rattle.heap_text.proofs.SlotSizes.{small-slot}
use Rattle.heap_text.proofs.Sampling.{event-at, requests-length}

eqb-swap : (x y : ℕ) → eqb x y ≡ eqb y x
eqb-swap x y = elim (cases_eq x y) [
  | inl same ↦ eq-eqb x y same ∙ sym (eq-eqb y x (sym same))
  | inr other ↦ ne_eqb x y other ∙ sym (ne_eqb y x (λ e. other (sym e)))
]

same-swap : (a b : Bucket) → is_same a b ≡ is_same b a
same-swap a b = let stack = eqb-swap a.stack b.stack in let slot = eqb-swap a.slot b.slot in rw (stack, slot) refl

same-itself : (a : Bucket) → is_same a a ≡ true
same-itself a = let stack = eq-eqb a.stack a.stack refl in let slot = eq-eqb a.slot a.slot refl in rw (stack, slot) refl

-- ---- no two are the same

none-same : (p : Bucket) (known : List Bucket) → list_any (is_same p) known ≡ false → (a : Bucket) → In a known → is_same p a ≡ false
none-same p [] none a h = absurd h
none-same p (b ∷ known) none a h = elim (cases_Bool (is_same p b)) [
  | inl on ↦ (let no_ : list_any (is_same p) (b ∷ known) ≡ true = rw on refl in let clash : true ≡ false = sym no_ ∙ none in absurd cc)
  | inr off ↦ elim h [
    | inl here ↦ (let e = ap (λ (x : Bucket). is_same p x) here in sym e ∙ off)
    | inr there ↦ none-same p known (let rest : list_any (is_same p) (b ∷ known) ≡ list_any (is_same p) known = rw off refl in sym rest ∙ none) a there
  ]
]

apart-more : (known : List Bucket) (p : Bucket) → AreDifferent known → ((a : Bucket) → In a known → is_same a p ≡ false) → AreDifferent (known ++ p ∷ [])
apart-more [] p apart each = ((λ y h. absurd h), tt)
apart-more (b ∷ known) p apart each =
    ((λ y h. elim (in-more y p known h) [ inl old ↦ apart.0 y old | inr new ↦ subst (λ (x : Bucket). is_same b x ≡ false) new (each b (inl refl)) ]), apart-more known p apart.1 (λ a h. each a (inr h)))
  where
    in-more : (x y : Bucket) (xs : List Bucket) → In x (xs ++ y ∷ []) → In x xs ⊎ (y ≡ x)
    in-more x y [] i = elim i [ inl same ↦ inr same | inr none ↦ absurd none ]
    in-more x y (z ∷ zs) i = elim i [ inl same ↦ inl (inl same) | inr more ↦ elim (in-more x y zs more) [ inl here ↦ inl (inr here) | inr last ↦ inr last ] ]

named-differ : (known : List Bucket) (p : Bucket) → AreDifferent known → AreDifferent (named known p)
named-differ known p apart = elim (cases_Bool (list_any (is_same p) known)) [
  | inl on ↦ rw on apart
  | inr off ↦ rw off (apart-more known p apart (λ a h. same-swap a p ∙ none-same p known off a h))
]

fold-differ : (pairs known : List Bucket) → AreDifferent known → AreDifferent (fold named known pairs)
fold-differ [] known apart = apart
fold-differ (p ∷ pairs) known apart = fold-differ pairs (named known p) (named-differ known p apart)

pub all-differ : (pairs : List Bucket) → AreDifferent (buckets_of pairs)
all-differ pairs = fold-differ pairs [] tt

-- ---- each is of an event

named-all : (P : Bucket → Type 0) (known : List Bucket) (p : Bucket) → AllByRecursion P known → P p → AllByRecursion P (named known p)
named-all P known p all here = elim (cases_Bool (list_any (is_same p) known)) [ inl on ↦ rw on all | inr off ↦ rw off (AllByRecursion-push P known p all here) ]

fold-all : (P : Bucket → Type 0) (pairs known : List Bucket) → AllByRecursion P known → AllByRecursion P pairs → AllByRecursion P (fold named known pairs)
fold-all P [] known all pairs = all
fold-all P (p ∷ ps) known all pairs = fold-all P ps (named known p) (named-all P known p all pairs.0) pairs.1

slot-some : (size : ℕ) → 1 ≤ size → size ≤ 2 ^ 40 → (1 ≤ slot_for size) × (slot_for size ≤ 2 ^ 41)
slot-some size some most = elim (cases_lt 32768 size) [
  | inl large ↦ (let e = slot-large size ((size + 8191) / 8192) large refl in (omega arith, omega arith))
  | inr small ↦ small-slot size some small
]

pairs-limited : (procs : ℕ) (events : List Event) → AllByRecursion (EventFits procs) events → AllByRecursion IsLimitedBucket (pairs_of events)
pairs-limited procs [] all = tt
pairs-limited procs (e ∷ es) all = elim (cases_Bool (eqb e.size 0)) [
  | inl on ↦ rw on (pairs-limited procs es all.1)
  | inr off ↦ rw off (
      let some : 1 ≤ e.size = elim (cases_lt 0 e.size) [ inl lt ↦ lt | inr none ↦ (let zero_is : e.size ≡ 0 = omega arith in let on = eq-eqb e.size 0 zero_is in let clash : true ≡ false = sym on ∙ off in absurd cc) ] in
      let slot = slot-some e.size some all.0.size in
      let stack = all.0.stack in
      (record { some = slot.0; slot = slot.1; stack = omega arith }, pairs-limited procs es all.1))
]

pub buckets-limited : (procs : ℕ) (t : Trace) → AllByRecursion (EventFits procs) (events_of t) → AllByRecursion IsLimitedBucket (buckets_of (pairs_of (events_of t)))
buckets-limited procs t all = fold-all IsLimitedBucket (pairs_of (events_of t)) [] tt (pairs-limited procs (events_of t) all)

-- ---- each event has one

pair-any : (events : List Event) (i : ℕ) (e : Event) → slice_get events i ≡ Some e → 1 ≤ e.size → list_any (is_same (record { stack = e.stack; slot = slot_for e.size })) (pairs_of events) ≡ true
pair-any [] i e at some = absurd cc
pair-any (x ∷ events) zero e at some =
    let same : x ≡ e = cc in
    let off : eqb x.size 0 ≡ false = ne_eqb x.size 0 (λ q. (let f = ap (λ (y : Event). y.size) same in omega arith)) in
    let pair : Bucket = record { stack = e.stack; slot = slot_for e.size } in
    let on : is_same pair (record { stack = x.stack; slot = slot_for x.size }) ≡ true =
    subst (λ (y : Event). is_same pair (record { stack = y.stack; slot = slot_for y.size }) ≡ true) (sym same) (same-itself pair) in
    rw (off, on) refl
pair-any (x ∷ events) (suc i) e at some =
    let rest = pair-any events i e at some in
    let pair : Bucket = record { stack = e.stack; slot = slot_for e.size } in
    elim (cases_Bool (eqb x.size 0)) [
      | inl none ↦ rw none rest
      | inr one ↦ rw one (elim (cases_Bool (is_same pair (record { stack = x.stack; slot = slot_for x.size }))) [ inl on ↦ rw on refl | inr off ↦ rw off rest ])
    ]

pub named-any : ((events : List Event) (pair : Bucket) → list_any (is_same pair) (buckets_of (pairs_of events)) ≡ list_any (is_same pair) (pairs_of events)) → (t : Trace) (n : ℕ) (e : Event) → slice_get (events_of t) n ≡ Some e → 1 ≤ e.size
    → list_any (is_same (record { stack = e.stack; slot = slot_for e.size })) (buckets_of (pairs_of (events_of t))) ≡ true
named-any names t n e at some = names (events_of t) (record { stack = e.stack; slot = slot_for e.size }) ∙ pair-any (events_of t) n e at some

-- ---- what is asked for

pub request-at : (t : Trace) (asked : List Asked) (n : ℕ) (d : Asked) → map request_of asked ≡ requests_from 0 t.cycles → n < length asked → slice_get (requests_from 0 t.cycles) n ≡ Some (request_of (get_or asked n d))
request-at t asked n d are lt =
    ap (λ (rs : List Request). slice_get rs n) (sym are) ∙ slice_get-map request_of asked n ∙ ap (λ (o : Rattle.std.proofs.Common.Option Asked). option_map request_of o) (slice_get-get_or asked n d lt)

pub asked-length : (t : Trace) (asked : List Asked) → map request_of asked ≡ requests_from 0 t.cycles → length asked ≡ length (events_of t)
asked-length t asked are = sym (length-map asked request_of) ∙ ap (λ (rs : List Request). length rs) are ∙ requests-length t

all-get : {X : Type 0} (P : X → Type 0) (xs : List X) (n : ℕ) (x : X) → AllByRecursion P xs → slice_get xs n ≡ Some x → P x
all-get P [] n x all at = absurd cc
all-get P (y ∷ ys) zero x all at = let same : y ≡ x = cc in subst P same all.0
all-get P (y ∷ ys) (suc n) x all at = all-get P ys n x all.1 at

pub event-fits : (t : Trace) (n : ℕ) (r : Request) → AllByRecursion (EventFits t.header.procs) (events_of t) → slice_get (requests_from 0 t.cycles) n ≡ Some r → EventFits t.header.procs r.event
event-fits t n r all at = all-get (EventFits t.header.procs) (events_of t) n r.event all (event-at t n r at)

pub placed-some : (t : Trace) (answers : List Answer) (n : ℕ) (r : Request) (a : Answer) → AreZeros t answers → slice_get (requests_from 0 t.cycles) n ≡ Some r → slice_get answers n ≡ Some a → is_placed a ≡ true → 1 ≤ r.event.size
placed-some t answers n r a zeros at-r at-a on = elim (cases_lt 0 r.event.size) [
  | inl lt ↦ lt
  | inr none ↦ (
      let is_zero : slice_get answers n ≡ Some Zero = (zeros n r.event (event-at t n r at-r)).1 (omega arith) in
      let same : a ≡ Zero = cc in
      let off : is_placed a ≡ false = ap is_placed same in
      absurd cc)
]
