-- What a run's lists of flags and numbers tell of its objects.
use Rattle.std.proofs.Common.{◌≡◌, ℕ, zero, suc, ◌+◌, ◌<◌, ◌≤◌, Bool, true, false, ◌&&◌, eqb, List, [], ◌∷◌, ◌++◌, map, reverse, take, drop, length, get_or, Option, Some, None, refl, sym, ◌∙◌, ap, subst, arith, inl, inr}
use Rattle.std.specs.Prelude.{position}
use Rattle.std.specs.List.{AllByRecursion, flat_map, slice_get, position_or_len}
use Rattle.std.proofs.lemmas.Bool.{cases_Bool, eqb-true, eq-eqb, and_right}
use Rattle.std.proofs.lemmas.List.{length-append, length-map, length-reverse, get_or_append_left, get_or_push, append_assoc, reverse-append, take-append-drop}
use Rattle.std.proofs.lemmas.List.Concat.{flat_map-append}
use Rattle.std.proofs.lemmas.Option.{slice_get-get_or, slice_get_within, get_or_from_slice_get, same_Some}
use Rattle.page_alloc.specs.Lists.{In}
use Rattle.trace_reader.specs.declared.trace.Trace.{Trace}
use Rattle.trace_reader.specs.declared.trace.Cycle.{Cycle}
use Rattle.trace_reader.specs.declared.trace.Event.{Event}
use Rattle.trace_reader.specs.Limits.{events_of}
use Rattle.cycle_history.specs.declared.Answer.{Answer}
use Rattle.cycle_history.specs.Before.{AreObjectsBefore}
use Rattle.cycle_history.specs.Objects.{Object, is_placed}
use Rattle.cycle_history.specs.Profile.{samples_in, is_sample}
use Rattle.cycle_history.specs.Sampled.{stack_of}
use Rattle.cycle_history.proofs.OfObjects.{known}
use Rattle.cycle_history.proofs.Plain.{request_in}
use Rattle.profile_cycle.specs.declared.buckets.Bucket.{Bucket}
use Rattle.profile_cycle.specs.Naming.{is_same}
use Rattle.run_laws.specs.Asked.{AreAnsweredFrom}
use Rattle.run_laws.specs.CycleCalls.{KnowsSamples}
use Rattle.sample_laws.specs.Counted.{Flags, Knows, events_before}
use Rattle.sample_laws.specs.Numbers.{IsNamed, number_of, pair_of}
use Rattle.sample_laws.proofs.Numbered.{at-number, named-place, number-is, number-none}
use Rattle.sample_laws.proofs.Slots.{need-slot}

-- what holds of all events holds of each
all-at : (P : Event → Type 0) (xs : List Event) (i : ℕ) (e : Event) → AllByRecursion P xs → slice_get xs i ≡ Some e → P e
all-at P [] i e all at = absurd (let lt = slice_get_within [] i e at in omega arith)
all-at P (x ∷ xs) zero e all at = subst P (same_Some x e at) all.0
all-at P (x ∷ xs) (suc i) e all at = all-at P xs i e all.1 at

-- the events before a mark end are the first
events-first : (t : Trace) (m i : ℕ) (e : Event) → i < length (events_before t m) → slice_get (events_of t) i ≡ Some e → get_or (events_before t m) i e ≡ e
events-first t m i e lt at =
    let whole : events_of t ≡ events_before t m ++ flat_map (λ (c : Cycle). c.events) (drop m t.cycles) =
    ap (λ (cs : List Cycle). flat_map (λ (c : Cycle). c.events) cs) (sym (take-append-drop m t.cycles)) ∙ flat_map-append (λ (c : Cycle). c.events) (take m t.cycles) (drop m t.cycles) in
    let there : get_or (events_of t) i e ≡ get_or (events_before t m) i e = ap (λ (l : List Event). get_or l i e) whole ∙ get_or_append_left (events_before t m) (flat_map (λ (c : Cycle). c.events) (drop m t.cycles)) e i lt in
    sym there ∙ get_or_from_slice_get (events_of t) i e e at

-- What a run knows of the objects before a mark end.
pub record KnowsObjects (t : Trace) (m : ℕ) (answers : List Answer) (objects : List Object) (names : List Bucket) (sampled : List Bool) (numbers : List ℕ) (which : ℕ → Bool) : Type 0 where
  pub asked : AreObjectsBefore t m answers objects
  pub named : AllByRecursion (IsNamed names) (events_of t)
  pub flags : length sampled ≡ length answers
  pub numbers_are : numbers ≡ map (number_of names) (events_before t m)
  pub which_is : Flags sampled which
  pub long : length answers ≡ length (events_before t m)

module _ (t : Trace) (m : ℕ) (answers : List Answer) (objects : List Object) (names : List Bucket) (sampled : List Bool) (numbers : List ℕ) (which : ℕ → Bool) (k : KnowsObjects t m answers objects names sampled numbers which) where
  -- What is known of one placed object.
  record OfOne (o : Object) : Type 0 where
    event : Event
    some : 1 ≤ event.size
    named : IsNamed names event
    slot : o.need.slot ≡ (pair_of event).slot
    stack : (samples_in t which).stack o.id ≡ event.stack
    within : o.id < length answers
    number : get_or numbers o.id 0 ≡ number_of names event

  of-one : (o : Object) → In o objects → is_placed o.answer ≡ true → OfOne o
  of-one o h placed =
      let at = known t m answers objects o k.asked h placed in
      let e = at.request.event in
      let within : o.id < length answers = slice_get_within answers o.id _ at.answered in
      let inside : o.id < length (events_before t m) = (let l = k.long in omega arith) in
      record {
        event = e;
        some = at.some;
        named = all-at (IsNamed names) (events_of t) o.id e k.named at.asked;
        slot = need-slot e.size e.scan o.need at.some at.fits;
        stack = ap (λ (x : Option Event). stack_of x) at.asked;
        within = within;
        number = ap (λ (l : List ℕ). get_or l o.id 0) k.numbers_are ∙ mapped (events_before t m) o.id e inside ∙ ap (number_of names) (events-first t m o.id e inside at.asked);
      }
    where
      mapped : (xs : List Event) (i : ℕ) (d : Event) → i < length xs → get_or (map (number_of names) xs) i 0 ≡ number_of names (get_or xs i d)
      mapped [] i d lt = absurd (omega arith)
      mapped (x ∷ xs) zero d lt = refl
      mapped (x ∷ xs) (suc i) d lt = mapped xs i d (omega arith)

  same-pair : (o : Object) (one : OfOne o) (b : Bucket) → is_same (pair_of one.event) b ≡ true → ((samples_in t which).stack o.id ≡ b.stack) × (o.need.slot ≡ b.slot)
  same-pair o one b is =
      let both = at-number (pair_of one.event) b is in
      (one.stack ∙ both.0, one.slot ∙ both.1)

  pair-same : (o : Object) (one : OfOne o) (b : Bucket) → (samples_in t which).stack o.id ≡ b.stack → o.need.slot ≡ b.slot → is_same (pair_of one.event) b ≡ true
  pair-same o one b stack slot = rw (eq-eqb one.event.stack b.stack (sym one.stack ∙ stack), eq-eqb (pair_of one.event).slot b.slot (sym one.slot ∙ slot)) refl

  -- the search for the marks of the mark end knows the samples of a bucket by its number
  pub knows-samples : (b : Bucket) (n : ℕ) → position (is_same b) names ≡ Some n → KnowsSamples (samples_in t which) objects sampled numbers b n
  knows-samples b n found = record {
    which = λ o h placed. (
        let one = of-one o h placed in
        let lt : o.id < length sampled = (let w = one.within in let f = k.flags in omega arith) in
        let is : which o.id ≡ get_or sampled o.id false = k.which_is o.id lt in (
          (λ on. is ∙ get_or_from_slice_get sampled o.id true false on),
          (λ on. slice_get-get_or sampled o.id false lt ∙ ap Some (sym is ∙ on)),
        ));
    numbered = λ o h placed on. (
        let one = of-one o h placed in
        let same = number-is names b n one.event found one.named one.some in (
          (λ (at : get_or numbers o.id 0 ≡ n). same-pair o one b (sym same ∙ eq-eqb (number_of names one.event) n (sym one.number ∙ at))),
          (λ pair. one.number ∙ eqb-true (number_of names one.event) n (same ∙ pair-same o one b pair.0 pair.1)),
        ));
  }

  -- each sample has a bucket
  pub are-named : (o : Object) → In o objects → is_placed o.answer ≡ true → which o.id ≡ true
      → (n : ℕ) × (n < length names) × ((d : Bucket) → get_or names n d ≡ record { stack = (samples_in t which).stack o.id; slot = o.need.slot })
  are-named o h placed on =
      let one = of-one o h placed in
      let at = named-place names one.event one.some one.named in
      (position_or_len (is_same (pair_of one.event)) names, at.0, λ d. at.1 d ∙ (λ i. record { stack = sym one.stack i; slot = sym one.slot i }))

  -- a pair that is no bucket has no samples
  pub none-sampled : (b : Bucket) → position (is_same b) names ≡ None → (o : Object) → In o objects → is_sample (samples_in t which) b o ≡ false
  none-sampled b none o h = elim (cases_Bool (is_placed o.answer)) [
    | inl placed ↦ (
        let one = of-one o h placed in
        let off = number-none names b one.event none one.named one.some in
        let pair : is_same (pair_of one.event) b ≡ (eqb ((samples_in t which).stack o.id) b.stack && eqb o.need.slot b.slot) =
        ap (λ (x : ℕ). eqb x b.stack && eqb (pair_of one.event).slot b.slot) (sym one.stack) ∙ ap (λ (x : ℕ). eqb ((samples_in t which).stack o.id) b.stack && eqb x b.slot) (sym one.slot) in
        and_right (is_placed o.answer) (which o.id && (eqb ((samples_in t which).stack o.id) b.stack && eqb o.need.slot b.slot))
        (and_right (which o.id) (eqb ((samples_in t which).stack o.id) b.stack && eqb o.need.slot b.slot) (sym pair ∙ sym off)))
    | inr isnt ↦ rw isnt refl
  ]

-- ---- the objects of a cycle

-- the flag and the stack of each new object; all lists have the newest first but for the flags
pub cycle-knows : (t : Trace) (cycle n : ℕ) (which : ℕ → Bool) (olds : List Bool) (events : List Event) (given : List Bool) (news : List Object) → length olds ≡ n → length given ≡ length events
    → AreAnsweredFrom n (map (request_in cycle) events) news → ((i : ℕ) → i < length events → which (n + i) ≡ get_or (olds ++ reverse given) (n + i) false)
    → ((i : ℕ) (e : Event) → i < length events → slice_get (events_of t) (n + i) ≡ Some (get_or (reverse events) i e)) → Knows (samples_in t which) events given news
cycle-knows t cycle n which olds [] given [] long size asked which_is at = tt
cycle-knows t cycle n which olds [] given (o ∷ news) long size asked which_is at = absurd asked
cycle-knows t cycle n which olds (e ∷ events) given [] long size asked which_is at = tt
cycle-knows t cycle n which olds (e ∷ events) [] (o ∷ news) long size asked which_is at = absurd (omega arith)
cycle-knows t cycle n which olds (e ∷ events) (f ∷ given) (o ∷ news) long size asked which_is at =
    let k = length events in
    let rs = length-reverse given in
    let re = length-reverse events in
    let id : o.id ≡ n + k = asked.0.id ∙ ap (λ (x : ℕ). x + n) (length-map events (request_in cycle)) ∙ omega arith in
    let turned : reverse (f ∷ given) ≡ reverse given ++ f ∷ [] = reverse-append (f ∷ []) given in
    let turned_events : reverse (e ∷ events) ≡ reverse events ++ e ∷ [] = reverse-append (e ∷ []) events in
    let flag_at : get_or (olds ++ reverse (f ∷ given)) (n + k) false ≡ f =
    ap (λ (l : List Bool). get_or l (n + k) false) (ap (λ (l : List Bool). olds ++ l) turned ∙ sym (append_assoc olds (reverse given) (f ∷ [])))
    ∙ get_or_push (olds ++ reverse given) f false (n + k) (let l = length-append olds (reverse given) in omega arith) in
    let event_at : get_or (reverse (e ∷ events)) k e ≡ e = ap (λ (l : List Event). get_or l k e) turned_events ∙ get_or_push (reverse events) e e k re in
    let stack_at : slice_get (events_of t) (n + k) ≡ Some e = at k e (omega arith) ∙ ap Some event_at in
    let older_flag : (i : ℕ) → i < length events → get_or (olds ++ reverse (f ∷ given)) (n + i) false ≡ get_or (olds ++ reverse given) (n + i) false = λ i lt.
    ap (λ (l : List Bool). get_or l (n + i) false) (ap (λ (l : List Bool). olds ++ l) turned ∙ sym (append_assoc olds (reverse given) (f ∷ [])))
    ∙ get_or_append_left (olds ++ reverse given) (f ∷ []) false (n + i) (let l = length-append olds (reverse given) in omega arith) in
    let older_event : (i : ℕ) (d : Event) → i < length events → get_or (reverse (e ∷ events)) i d ≡ get_or (reverse events) i d = λ i d lt.
    ap (λ (l : List Event). get_or l i d) turned_events ∙ get_or_append_left (reverse events) (e ∷ []) d i (omega arith) in (
      ap which id ∙ which_is k (omega arith) ∙ flag_at,
      ap (λ (i : ℕ). stack_of (slice_get (events_of t) i)) id ∙ ap (λ (x : Option Event). stack_of x) stack_at,
      cycle-knows t cycle n which olds events given news long (omega arith) asked.1 (λ i lt. which_is i (omega arith) ∙ older_flag i lt) (λ i d lt. at i d (omega arith) ∙ ap Some (older_event i d lt)),
    )
