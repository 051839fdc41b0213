-- How the samplers and the counts of the buckets go on with one more object.
use Rattle.std.proofs.Common.{◌≡◌, ◌≢◌, ℕ, zero, suc, ◌+◌, ◌*◌, ◌^◌, ◌<◌, ◌≤◌, Bool, true, false, ◌&&◌, not, eqb, nat_lt, List, [], ◌∷◌, ◌++◌, length, map, reverse, replicate, Option, Some, refl, sym, ◌∙◌, ap, subst, arith, ◌⊎◌, inl, inr, ◌↔◌}
use Rattle.std.specs.List.{AllByRecursion, slice_get, sum_by}
use Rattle.std.proofs.lemmas.Bool.{cases_Bool, cases_eq, cases_lt, eq-eqb, ne_eqb}
use Rattle.std.proofs.lemmas.List.{length-map, take_all}
use Rattle.page_alloc.specs.Lists.{count, one_if}
use Rattle.trace_reader.specs.declared.trace.Trace.{Trace}
use Rattle.trace_reader.specs.declared.trace.Event.{Event}
use Rattle.trace_reader.specs.Limits.{events_of}
use Rattle.profile_cycle.specs.declared.buckets.Bucket.{Bucket}
use Rattle.profile_cycle.specs.declared.counts.Count.{Count}
use Rattle.profile_cycle.specs.Naming.{is_same, slot_for}
use Rattle.profile_cycle.specs.Sampling.{Countdown, behind, countdown, is_sample, sampled}
use Rattle.profile_cycle.proofs.Named.{slot-large, slot-small}
use Rattle.cycle_history.specs.declared.Answer.{Answer}
use Rattle.cycle_history.specs.declared.Answer.TheVariants.{Zero}
use Rattle.cycle_history.specs.Needs.{Need, IsNeed}
use Rattle.cycle_history.specs.Requests.{Request, requests_from, marked_by, last_cycle}
use Rattle.cycle_history.specs.Objects.{Object, is_placed}
use Rattle.cycle_history.specs.Rules.{IsObject, AreAnswered}
use Rattle.cycle_history.specs.Profile.{SamplesBy, allocs_at, frees_at, is_sample as is_sample_of, placed_by, samples_in}
use Rattle.cycle_history.specs.Counted.{AreFirstOf, AreObjectsOf}
use Rattle.cycle_history.proofs.OfObjects.{requests-events}
use Rattle.cycle_history.proofs.Counted.{newest-of}
use Rattle.heap_text.specs.Counting.{AreBehind, AreCounted, AreFirst, CountsOne, count_at, no_count}
use Rattle.heap_text.specs.Published.{buckets_in}

-- ---- samples

abbrev Slots : List Object → List ℕ
Slots os = map (λ (o : Object). o.need.slot) os

placed-here : (p : ℕ) (o : Object) (os : List Object) → o.proc ≡ p → is_placed o.answer ≡ true → placed_by p (o ∷ os) ≡ o ∷ placed_by p os
placed-here p o os e placed = rw (eq-eqb o.proc p e, placed) refl

placed-other : (p : ℕ) (o : Object) (os : List Object) → o.proc ≢ p → placed_by p (o ∷ os) ≡ placed_by p os
placed-other p o os e = rw (ne_eqb o.proc p e) refl

placed-none : (p : ℕ) (o : Object) (os : List Object) → is_placed o.answer ≡ false → placed_by p (o ∷ os) ≡ placed_by p os
placed-none p o os off = elim (cases_Bool (eqb o.proc p)) [ inl on ↦ rw (on, off) refl | inr other ↦ rw other refl ]

tail-same : {X : Type 0} (x y : X) (xs ys : List X) → x ∷ xs ≡ y ∷ ys → (x ≡ y) × (xs ≡ ys)
tail-same x y xs ys e = (cc, cc)

-- the samples of older objects, and whether the newest one is
samples-older : (rate seed : ℕ) (which : ℕ → Bool) (o : Object) (os : List Object) → SamplesBy rate seed which (o ∷ os) → SamplesBy rate seed which os
samples-older rate seed which o os samples p = elim (cases_Bool (is_placed o.answer)) [
  | inr off ↦ subst (λ (xs : List Object). map (λ (x : Object). which x.id) xs ≡ sampled rate seed p (Slots xs)) (placed-none p o os off) (samples p)
  | inl on ↦ elim (cases_eq o.proc p) [
    | inr other ↦ subst (λ (xs : List Object). map (λ (x : Object). which x.id) xs ≡ sampled rate seed p (Slots xs)) (placed-other p o os other) (samples p)
    | inl same ↦ (
        let e = subst (λ (xs : List Object). map (λ (x : Object). which x.id) xs ≡ sampled rate seed p (Slots xs)) (placed-here p o os same on) (samples p) in
        (tail-same _ _ _ _ e).1)
  ]
]

newest-sampled : (rate seed : ℕ) (which : ℕ → Bool) (o : Object) (os : List Object) → SamplesBy rate seed which (o ∷ os) → is_placed o.answer ≡ true
    → which o.id ≡ is_sample (countdown rate seed o.proc (Slots (placed_by o.proc os))) o.need.slot
newest-sampled rate seed which o os samples on =
    let e = subst (λ (xs : List Object). map (λ (x : Object). which x.id) xs ≡ sampled rate seed o.proc (Slots xs)) (placed-here o.proc o os refl on) (samples o.proc) in
    (tail-same _ _ _ _ e).0

-- the slot of an object is that of its size
need-slot : (size : ℕ) (scan : Bool) (need : Need) → 1 ≤ size → IsNeed size scan need → need.slot ≡ slot_for size
need-slot size scan need some is = elim (cases_lt 32768 size) [
  | inl large ↦ (let big = is.large large in big.slot ∙ slot-large size need.pages large big.pages)
  | inr small ↦ (let s = is.small small in s.2.slot ∙ slot-small size s.0 some small s.1)
]

-- ---- the samplers

pub behind-none : (t : Trace) (answers : List Answer) (states : List Countdown) → AreFirst t.header states → AreBehind t answers 0 states
behind-none t answers states first [] p c of at = first p c at
behind-none t answers states first (o ∷ objects) p c of at = absurd of.asked

pub behind-other : (t : Trace) (answers : List Answer) (n : ℕ) (r : Request) (a : Answer) (states : List Countdown) → slice_get (requests_from 0 t.cycles) n ≡ Some r → slice_get answers n ≡ Some a → is_placed a ≡ false
    → AreBehind t answers n states → AreBehind t answers (n + 1) states
behind-other t answers n r a states at-r at-a off are objects p c of at =
    let new = newest-of t answers n r a objects at-r at-a of in
    let none = placed-none p new.newest new.older (ap is_placed new.answered ∙ off) in
    are new.older p c new.first at ∙ ap (λ (os : List Object). countdown t.header.rate t.header.seed p (Slots os)) (sym none ∙ ap (λ (os : List Object). placed_by p os) (sym new.are))

some-same : {X : Type 0} (x y : X) → Some x ≡ Some y → x ≡ y
some-same x y e = cc

placed-size : (r : Request) (n : ℕ) (o : Object) → IsObject r n o → is_placed o.answer ≡ true → 1 ≤ r.event.size
placed-size r n o is on = elim (cases_lt 0 r.event.size) [
  | inl lt ↦ lt
  | inr none ↦ (let zero_is : o.answer ≡ Zero = is.zero.1 (omega arith) in let off : is_placed o.answer ≡ false = ap is_placed zero_is in absurd cc)
]

placed-slot : (r : Request) (n : ℕ) (o : Object) → IsObject r n o → is_placed o.answer ≡ true → o.need.slot ≡ slot_for r.event.size
placed-slot r n o is on = let some = placed-size r n o is on in need-slot r.event.size r.event.scan o.need some (is.need some)

pub behind-placed : (t : Trace) (answers : List Answer) (n : ℕ) (r : Request) (a : Answer) (old new : List Countdown) (c : Countdown) → slice_get (requests_from 0 t.cycles) n ≡ Some r → slice_get answers n ≡ Some a → is_placed a ≡ true
    → slice_get old r.event.proc ≡ Some c → slice_get new r.event.proc ≡ Some (behind c (slot_for r.event.size)) → ((p : ℕ) → p ≢ r.event.proc → slice_get new p ≡ slice_get old p)
    → AreBehind t answers n old → AreBehind t answers (n + 1) new
behind-placed t answers n r a old new c at-r at-a on here there others are objects p d of at =
    let one = newest-of t answers n r a objects at-r at-a of in
    let o = one.newest in
    let placed : is_placed o.answer ≡ true = ap is_placed one.answered ∙ on in
    let slot = placed-slot r n o one.asked placed in
    let proc : o.proc ≡ r.event.proc = one.asked.proc in
    elim (cases_eq r.event.proc p) [
      | inl same ↦ (
          let got : slice_get new r.event.proc ≡ Some d = subst (λ (k : ℕ). slice_get new k ≡ Some d) (sym same) at in
          let e : d ≡ behind c (slot_for r.event.size) = some-same _ _ (sym got ∙ there) in
          let was = are one.older p c one.first (subst (λ (k : ℕ). slice_get old k ≡ Some c) same here) in
          let first = placed-here p o one.older (proc ∙ same) placed in
          e ∙ ap (λ (x : Countdown). behind x (slot_for r.event.size)) was ∙ ap (λ (k : ℕ). behind (countdown t.header.rate t.header.seed p (Slots (placed_by p one.older))) k) (sym slot)
          ∙ ap (λ (os : List Object). countdown t.header.rate t.header.seed p (Slots os)) (sym first ∙ ap (λ (os : List Object). placed_by p os) (sym one.are)))
      | inr other ↦ (
          let was = are one.older p d one.first (sym (others p (λ (q : p ≡ r.event.proc). other (sym q))) ∙ at) in
          let none = placed-other p o one.older (λ q. other (sym proc ∙ q)) in
          was ∙ ap (λ (os : List Object). countdown t.header.rate t.header.seed p (Slots os)) (sym none ∙ ap (λ (os : List Object). placed_by p os) (sym one.are)))
    ]

-- ---- the counts

zeros-sum : (n : ℕ) → sum_by (λ (c : Count). c.allocs) (replicate n no_count) ≡ 0
zeros-sum zero = refl
zeros-sum (suc n) = (let split = Rattle.std.proofs.lemmas.List.Sums.sum_by-cons (λ (c : Count). c.allocs) no_count (replicate n no_count) in let rest = zeros-sum n in omega arith)

zeros-freed : (n : ℕ) → AllByRecursion (λ (c : Count). c.frees ≤ c.allocs) (replicate n no_count)
zeros-freed zero = tt
zeros-freed (suc n) = (omega arith, zeros-freed n)

zeros-at : (n k : ℕ) → count_at (replicate n no_count) k ≡ no_count
zeros-at zero zero = refl
zeros-at zero (suc k) = refl
zeros-at (suc n) zero = refl
zeros-at (suc n) (suc k) = zeros-at n k

zeros-length : (n : ℕ) → length (replicate n no_count) ≡ n
zeros-length zero = refl
zeros-length (suc n) = ap suc (zeros-length n)

none-of : (t : Trace) (answers : List Answer) (objects : List Object) → AreFirstOf t answers 0 objects → objects ≡ []
none-of t answers [] of = refl
none-of t answers (o ∷ objects) of = absurd of.asked

pub counted-none : (t : Trace) (answers : List Answer) (counts : List Count) (n : ℕ) → counts ≡ replicate n no_count → n ≡ length (buckets_in t) → AreCounted t answers 0 counts
counted-none t answers counts n is size = subst (AreCounted t answers 0) (sym is) (record {
  size = zeros-length n ∙ size;
  few = (let e = zeros-sum n in omega arith);
  freed = zeros-freed n;
  allocs = λ objects which k b of samples at. (let none = none-of t answers objects of in ap (λ (c : Count). c.allocs) (zeros-at n k) ∙ ap (λ (os : List Object). allocs_at (samples_in t which) os (last_cycle t) b) (sym none));
  frees = λ objects which k b of samples at. (let none = none-of t answers objects of in ap (λ (c : Count). c.frees) (zeros-at n k) ∙ ap (λ (os : List Object). frees_at (marked_by t) (samples_in t which) os (last_cycle t) b) (sym none));
})

-- an object that is not counted: it isn't placed, or is no sample, or comes behind the last mark end
passed : (test : Object → Bool) (o : Object) (os : List Object) → test o ≡ false → count test (o ∷ os) ≡ count test os
passed test o os out = rw out (omega arith)

and-off : (a b c : Bool) → (a && b) ≡ false → (a && (b && c)) ≡ false
and-off true true c e = absurd cc
and-off true false c e = refl
and-off false b c e = refl

counted-on : (t : Trace) (answers : List Answer) (n : ℕ) (r : Request) (a : Answer) (counts : List Count) → slice_get (requests_from 0 t.cycles) n ≡ Some r → slice_get answers n ≡ Some a
    → ((which : ℕ → Bool) (o : Object) (os : List Object) → AreFirstOf t answers n os → IsObject r n o → o.answer ≡ a → SamplesBy t.header.rate t.header.seed which (o ∷ os) → (b : Bucket)
    → (is_sample_of (samples_in t which) b o && nat_lt o.cycle (last_cycle t)) ≡ false)
    → AreCounted t answers n counts → AreCounted t answers (n + 1) counts
counted-on t answers n r a counts at-r at-a out old = record {
  size = old.size;
  few = (let f = old.few in omega arith);
  freed = old.freed;
  allocs = λ objects which k b of samples at. (
      let one = newest-of t answers n r a objects at-r at-a of in
      let both : SamplesBy t.header.rate t.header.seed which (one.newest ∷ one.older) = subst (λ (os : List Object). SamplesBy t.header.rate t.header.seed which os) one.are samples in
      let test = λ (o : Object). is_sample_of (samples_in t which) b o && nat_lt o.cycle (last_cycle t) in
      old.allocs one.older which k b one.first (samples-older t.header.rate t.header.seed which one.newest one.older both) at
      ∙ sym (passed test one.newest one.older (out which one.newest one.older one.first one.asked one.answered both b)) ∙ ap (λ (os : List Object). count test os) (sym one.are));
  frees = λ objects which k b of samples at. (
      let one = newest-of t answers n r a objects at-r at-a of in
      let both : SamplesBy t.header.rate t.header.seed which (one.newest ∷ one.older) = subst (λ (os : List Object). SamplesBy t.header.rate t.header.seed which os) one.are samples in
      let test = λ (o : Object). is_sample_of (samples_in t which) b o && (nat_lt o.cycle (last_cycle t) && not (marked_by t (last_cycle t) o.id)) in
      let off = and-off (is_sample_of (samples_in t which) b one.newest) (nat_lt one.newest.cycle (last_cycle t)) (not (marked_by t (last_cycle t) one.newest.id)) (out which one.newest one.older one.first one.asked one.answered both b) in
      old.frees one.older which k b one.first (samples-older t.header.rate t.header.seed which one.newest one.older both) at
      ∙ sym (passed test one.newest one.older off) ∙ ap (λ (os : List Object). count test os) (sym one.are));
}

pub counted-other : (t : Trace) (answers : List Answer) (n : ℕ) (r : Request) (a : Answer) (counts : List Count) → slice_get (requests_from 0 t.cycles) n ≡ Some r → slice_get answers n ≡ Some a → is_placed a ≡ false
    → AreCounted t answers n counts → AreCounted t answers (n + 1) counts
counted-other t answers n r a counts at-r at-a off old = counted-on t answers n r a counts at-r at-a (λ which o os of is answered samples b. (let p : is_placed o.answer ≡ false = ap is_placed answered ∙ off in rw p refl)) old

-- whether the newest object is a sample, by its processor's countdown
sample-same : (t : Trace) (answers : List Answer) (n : ℕ) (r : Request) (a : Answer) (states : List Countdown) (c : Countdown) (flag : Bool) → is_placed a ≡ true → slice_get states r.event.proc ≡ Some c → flag ≡ is_sample c (slot_for r.event.size)
    → AreBehind t answers n states → (which : ℕ → Bool) (o : Object) (os : List Object) → AreFirstOf t answers n os → IsObject r n o → o.answer ≡ a → SamplesBy t.header.rate t.header.seed which (o ∷ os) → which o.id ≡ flag
sample-same t answers n r a states c flag on at is are which o os of asked answered samples =
    let placed : is_placed o.answer ≡ true = ap is_placed answered ∙ on in
    let slot = placed-slot r n o asked placed in
    let now = are os r.event.proc c of at in
    newest-sampled t.header.rate t.header.seed which o os samples placed
    ∙ ap (λ (p : ℕ). is_sample (countdown t.header.rate t.header.seed p (Slots (placed_by p os))) o.need.slot) asked.proc
    ∙ ap (λ (x : Countdown). is_sample x o.need.slot) (sym now) ∙ ap (λ (k : ℕ). is_sample c k) slot ∙ sym is

pub counted-unsampled : (t : Trace) (answers : List Answer) (n : ℕ) (r : Request) (a : Answer) (states : List Countdown) (c : Countdown) (flag : Bool) (counts : List Count) → slice_get (requests_from 0 t.cycles) n ≡ Some r → slice_get answers n ≡ Some a
    → is_placed a ≡ true → slice_get states r.event.proc ≡ Some c → flag ≡ is_sample c (slot_for r.event.size) → AreBehind t answers n states → (flag && nat_lt r.cycle (last_cycle t)) ≡ false
    → AreCounted t answers n counts → AreCounted t answers (n + 1) counts
counted-unsampled t answers n r a states c flag counts at-r at-a on at is are off old =
    counted-on t answers n r a counts at-r at-a (λ which o os of asked answered samples b. (
    let same = sample-same t answers n r a states c flag on at is are which o os of asked answered samples in
    let placed : is_placed o.answer ≡ true = ap is_placed answered ∙ on in
    let cycle : nat_lt o.cycle (last_cycle t) ≡ nat_lt r.cycle (last_cycle t) = ap (λ (k : ℕ). nat_lt k (last_cycle t)) asked.cycle in
    rw (placed, same, cycle) (off-on flag _ (nat_lt r.cycle (last_cycle t)) off))) old
  where
    off-on : (x y z : Bool) → (x && z) ≡ false → ((x && y) && z) ≡ false
    off-on true true true e = absurd cc
    off-on true true false e = refl
    off-on true false z e = refl
    off-on false y z e = refl

pub event-at : (t : Trace) (n : ℕ) (r : Request) → slice_get (requests_from 0 t.cycles) n ≡ Some r → slice_get (events_of t) n ≡ Some r.event
event-at t n r at =
    ap (λ (es : List Event). slice_get es n) (sym (requests-events 0 t.cycles)) ∙ Rattle.std.proofs.lemmas.Option.slice_get-map (λ (x : Request). x.event) (requests_from 0 t.cycles) n
    ∙ ap (λ (o : Option Request). Rattle.std.specs.Option.option_map (λ (x : Request). x.event) o) at

-- the test of a bucket at the newest object, where it is a sample before the last mark end
sample-test : (t : Trace) (n : ℕ) (r : Request) (which : ℕ → Bool) (o : Object) (b : Bucket) → slice_get (requests_from 0 t.cycles) n ≡ Some r → IsObject r n o → is_placed o.answer ≡ true → which o.id ≡ true
    → is_sample_of (samples_in t which) b o ≡ is_same (record { stack = r.event.stack; slot = slot_for r.event.size }) b
sample-test t n r which o b at-r asked placed on =
    let stack : (samples_in t which).stack o.id ≡ r.event.stack = ap (λ (k : ℕ). (samples_in t which).stack k) asked.id ∙ ap (λ (e : Option Event). Rattle.cycle_history.specs.Sampled.stack_of e) (event-at t n r at-r) in
    let slot = placed-slot r n o asked placed in
    rw (placed, on, stack, slot) refl

pub counted-sample : (t : Trace) (answers : List Answer) (n : ℕ) (r : Request) (a : Answer) (states : List Countdown) (c : Countdown) (marked : Bool) (old new : List Count)
    → slice_get (requests_from 0 t.cycles) n ≡ Some r → slice_get answers n ≡ Some a
    → is_placed a ≡ true → slice_get states r.event.proc ≡ Some c → is_sample c (slot_for r.event.size) ≡ true → AreBehind t answers n states → nat_lt r.cycle (last_cycle t) ≡ true
    → marked ≡ marked_by t (last_cycle t) n → CountsOne (buckets_in t) (record { stack = r.event.stack; slot = slot_for r.event.size }) marked old new
    → AreCounted t answers n old → AreCounted t answers (n + 1) new
counted-sample t answers n r a states c marked old new at-r at-a on at flag are early mark counts before = record {
  size = counts.size ∙ before.size;
  few = (let f = before.few in let s = counts.sum in omega arith);
  freed = counts.freed;
  allocs = λ objects which k b of samples there. (
      let one = newest-of t answers n r a objects at-r at-a of in
      let both : SamplesBy t.header.rate t.header.seed which (one.newest ∷ one.older) = subst (λ (os : List Object). SamplesBy t.header.rate t.header.seed which os) one.are samples in
      let placed : is_placed one.newest.answer ≡ true = ap is_placed one.answered ∙ on in
      let yes = sample-same t answers n r a states c true on at (sym flag) are which one.newest one.older one.first one.asked one.answered both in
      let cycle : nat_lt one.newest.cycle (last_cycle t) ≡ true = ap (λ (x : ℕ). nat_lt x (last_cycle t)) one.asked.cycle ∙ early in
      let test = λ (o : Object). is_sample_of (samples_in t which) b o && nat_lt o.cycle (last_cycle t) in
      let key = is_same (record { stack = r.event.stack; slot = slot_for r.event.size }) b in
      let is : test one.newest ≡ key = ap (λ (x : Bool). x && nat_lt one.newest.cycle (last_cycle t)) (sample-test t n r which one.newest b at-r one.asked placed yes) ∙ ap (λ (x : Bool). key && x) cycle ∙ and-true key in
      counts.allocs k b there ∙ ap (λ (x : ℕ). one_if key + x) (before.allocs one.older which k b one.first (samples-older t.header.rate t.header.seed which one.newest one.older both) there)
      ∙ ap (λ (x : Bool). one_if x + count test one.older) (sym is) ∙ ap (λ (os : List Object). count test os) (sym one.are));
  frees = λ objects which k b of samples there. (
      let one = newest-of t answers n r a objects at-r at-a of in
      let both : SamplesBy t.header.rate t.header.seed which (one.newest ∷ one.older) = subst (λ (os : List Object). SamplesBy t.header.rate t.header.seed which os) one.are samples in
      let placed : is_placed one.newest.answer ≡ true = ap is_placed one.answered ∙ on in
      let yes = sample-same t answers n r a states c true on at (sym flag) are which one.newest one.older one.first one.asked one.answered both in
      let cycle : nat_lt one.newest.cycle (last_cycle t) ≡ true = ap (λ (x : ℕ). nat_lt x (last_cycle t)) one.asked.cycle ∙ early in
      let test = λ (o : Object). is_sample_of (samples_in t which) b o && (nat_lt o.cycle (last_cycle t) && not (marked_by t (last_cycle t) o.id)) in
      let key = is_same (record { stack = r.event.stack; slot = slot_for r.event.size }) b in
      let m : marked_by t (last_cycle t) one.newest.id ≡ marked = ap (λ (i : ℕ). marked_by t (last_cycle t) i) one.asked.id ∙ sym mark in
      let is : test one.newest ≡ (key && not marked) = ap (λ (x : Bool). x && (nat_lt one.newest.cycle (last_cycle t) && not (marked_by t (last_cycle t) one.newest.id))) (sample-test t n r which one.newest b at-r one.asked placed yes)
      ∙ ap (λ (x : Bool). key && (x && not (marked_by t (last_cycle t) one.newest.id))) cycle ∙ ap (λ (x : Bool). key && not x) m in
      counts.frees k b there ∙ ap (λ (x : ℕ). one_if (key && not marked) + x) (before.frees one.older which k b one.first (samples-older t.header.rate t.header.seed which one.newest one.older both) there)
      ∙ ap (λ (x : Bool). one_if x + count test one.older) (sym is) ∙ ap (λ (os : List Object). count test os) (sym one.are));
}
  where
    and-true : (x : Bool) → (x && true) ≡ x
    and-true true = refl
    and-true false = refl

-- ---- all objects

pub all-first : (t : Trace) (answers : List Answer) (n : ℕ) (objects : List Object) → length (requests_from 0 t.cycles) ≤ n → length answers ≤ n → AreObjectsOf t answers objects → AreFirstOf t answers n objects
all-first t answers n objects all few of = record {
  asked = subst (λ (rs : List Request). AreAnswered (reverse rs) objects) (sym (take_all n (requests_from 0 t.cycles) all)) of.asked;
  printed = of.printed ∙ ap (λ (xs : List Answer). reverse xs) (sym (take_all n answers few));
}

pub requests-length : (t : Trace) → length (requests_from 0 t.cycles) ≡ length (events_of t)
requests-length t = sym (length-map (requests_from 0 t.cycles) (λ (r : Request). r.event)) ∙ ap (λ (es : List Event). length es) (requests-events 0 t.cycles)
