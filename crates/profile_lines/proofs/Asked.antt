-- The buckets of objects are those that the trace names.
use Rattle.std.proofs.Common.{◌≡◌, ℕ, zero, suc, ◌<◌, ◌≤◌, Bool, true, false, eqb, List, [], ◌∷◌, length, Option, Some, refl, sym, ◌∙◌, ap, subst, arith, inl, inr}
use Rattle.std.specs.List.{list_any, slice_get}
use Rattle.std.proofs.lemmas.Bool.{cases_Bool, and_parts, eqb-true, ne_eqb}
use Rattle.trace_reader.specs.declared.trace.Trace.{Trace}
use Rattle.trace_reader.specs.declared.trace.Event.{Event}
use Rattle.trace_reader.specs.Limits.{events_of}
use Rattle.profile_cycle.specs.declared.buckets.Bucket.{Bucket}
use Rattle.profile_cycle.specs.Naming.{buckets_of, is_same, pairs_of, slot_for}
use Rattle.cycle_history.specs.declared.Answer.{Answer}
use Rattle.cycle_history.specs.Objects.{Object}
use Rattle.cycle_history.specs.Before.{AreObjectsBefore}
use Rattle.cycle_history.specs.Sampled.{samples_in, stack_of}
use Rattle.cycle_history.proofs.OfObjects.{known}
use Rattle.sample_laws.proofs.Slots.{need-slot}
use Rattle.profile_lines.specs.Read.{bucket_at}
use Rattle.profile_lines.specs.Counted.{AreNamed}
use Rattle.profile_lines.proofs.Named.{same-itself}

same-is : (a b : Bucket) → is_same a b ≡ true → b ≡ a
same-is a b e =
    let both = and_parts (eqb a.stack b.stack) (eqb a.slot b.slot) e in
    let stack = sym (eqb-true a.stack b.stack both.0) in
    let slot = sym (eqb-true a.slot b.slot both.1) in
    λ i. record { stack = stack i; slot = slot i }

-- a bucket that is one of the list's has a number
place-named : (p : Bucket) (buckets : List Bucket) → list_any (is_same p) buckets ≡ true → (n : ℕ) × (n < length buckets) × (bucket_at buckets n ≡ p)
place-named p [] any = cc
place-named p (b ∷ buckets) any = elim (cases_Bool (is_same p b)) [
  | inl on ↦ (0, omega arith, same-is p b on)
  | inr off ↦ (
      let any' : list_any (is_same p) buckets ≡ true = rw off at any in
      let at = place-named p buckets any' in
      (suc at.0, (let lt = at.1 in omega arith), at.2))
]

-- the pair of an event is one of all pairs
pair-any : (events : List Event) (i : ℕ) (e : Event) → slice_get events i ≡ Some e → 1 ≤ e.size → list_any (is_same (record { stack = e.stack; slot = slot_for e.size })) (pairs_of events) ≡ true
pair-any [] i e at some = cc
pair-any (x ∷ events) zero e at some =
    let same : x ≡ e = cc in
    let off : eqb x.size 0 ≡ false = ne_eqb x.size 0 (λ q. (let f = ap (λ (y : Event). y.size) same in omega arith)) in
    let pair : Bucket = record { stack = e.stack; slot = slot_for e.size } in
    let on : is_same pair (record { stack = x.stack; slot = slot_for x.size }) ≡ true =
    subst (λ (y : Event). is_same pair (record { stack = y.stack; slot = slot_for y.size }) ≡ true) (sym same) (same-itself pair) in
    rw (off, on) refl
pair-any (x ∷ events) (suc i) e at some =
    let rest = pair-any events i e at some in
    let pair : Bucket = record { stack = e.stack; slot = slot_for e.size } in
    elim (cases_Bool (eqb x.size 0)) [
      | inl none ↦ rw none rest
      | inr one ↦ rw one (elim (cases_Bool (is_same pair (record { stack = x.stack; slot = slot_for x.size }))) [ inl on ↦ rw on refl | inr off ↦ rw off rest ])
    ]

pub samples-named : ((events : List Event) (pair : Bucket) → list_any (is_same pair) (buckets_of (pairs_of events)) ≡ list_any (is_same pair) (pairs_of events)) → (t : Trace) (which : ℕ → Bool) (m : ℕ) (answers : List Answer) (objects : List Object) → AreObjectsBefore t m answers objects
    → AreNamed (samples_in t which) (buckets_of (pairs_of (events_of t))) objects
samples-named names t which m answers objects are o h placed sampled =
    let is = known t m answers objects o are h placed in
    let e = is.request.event in
    let pair : Bucket = record { stack = e.stack; slot = slot_for e.size } in
    let any = names (events_of t) pair ∙ pair-any (events_of t) o.id e is.asked is.some in
    let at = place-named pair (buckets_of (pairs_of (events_of t))) any in
    let stack : e.stack ≡ stack_of (slice_get (events_of t) o.id) = ap (λ (x : Option Event). stack_of x) (sym is.asked) in
    let slot : slot_for e.size ≡ o.need.slot = sym (need-slot e.size e.scan o.need is.some is.fits) in
    let same : pair ≡ record { stack = stack_of (slice_get (events_of t) o.id); slot = o.need.slot } = λ i. record { stack = stack i; slot = slot i } in
    (at.0, at.1, at.2 ∙ same)
