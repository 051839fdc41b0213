-- The sizes in a growing base: those of riders are 0, and the others are as if each tiny object had a block of its own.
use Rattle.std.proofs.Common.{◌≡◌, ℕ, zero, suc, ◌+◌, ◌-◌, ◌<◌, ◌≤◌, Bool, true, false, cond, List, [], ◌∷◌, ◌++◌, map, length, Option, Some, None, refl, sym, ◌∙◌, ap, subst, arith, ◌⊎◌, inl, inr}
use Rattle.std.specs.List.{slice_get}
use Rattle.std.proofs.lemmas.Bool.{cases_lt}
use Rattle.std.proofs.lemmas.List.{append-nil}
use Rattle.std.proofs.lemmas.Option.{slice_get-get_or, slice_get_within}
use Rattle.trace_reader.specs.declared.trace.Trace.{Trace}
use Rattle.trace_reader.specs.declared.trace.Cycle.{Cycle}
use Rattle.trace_reader.specs.declared.trace.Event.{Event}
use Rattle.trace_reader.specs.Limits.{events_of}
use Rattle.cycle_history.specs.declared.Answer.{Answer}
use Rattle.cycle_history.specs.declared.Answer.TheVariants.{Zero}
use Rattle.cycle_history.specs.Requests.{Request, requests_from}
use Rattle.cycle_history.specs.Before.{IsLimited}
use Rattle.cycle_history.proofs.Counted.{get-split}
use Rattle.cycle_history.proofs.Found.{get-front}
use Rattle.cycle_history.proofs.OfObjects.{requests-events}
use Rattle.tiny_alloc.specs.declared.block.Seat.{Seat}
use Rattle.tiny_alloc.specs.declared.part.Part.{Part}
use Rattle.tiny_alloc.specs.declared.part.Part.TheVariants.{Other, Lead, Ride}
use Rattle.tiny_alloc.specs.Blocks.{seat_in}
use Rattle.tiny_alloc.specs.Riders.{Tried, block_before, is_tiny, object_at, part_at, part_in}
use Rattle.tiny_alloc.specs.Base.{as_version_2, based_event, based_events}
use Rattle.tiny_alloc.specs.Parts.{AreParts}
use Rattle.tiny_alloc.specs.Growing.{IsGrowing, lone_event, lone_part, lone_part_of, part_so_far}
use Rattle.tiny_alloc.proofs.Alone.{events-flat, events_in}
use Rattle.tiny_alloc.proofs.Grown.{so-far-in, so-far-past}
use Rattle.tiny_alloc.proofs.Law.{object-is}
use Rattle.tiny_alloc.proofs.Rides.{get-behind}
use Rattle.tiny_alloc.proofs.Underway.{cut, growing-based}

-- ---- lists

get-based : (part : ℕ → Part) (n : ℕ) (es : List Event) (i : ℕ) (d : Event) → slice_get (based_events part n es) i ≡ Some d
    → (e : Event) × (slice_get es i ≡ Some e) × (d ≡ based_event (part (n + i)) e)
get-based part n [] i d h = absurd cc
get-based part n (x ∷ es) zero d h =
    let same : based_event (part n) x ≡ d = cc in
    let at : n ≡ n + 0 = omega arith in
    (x, refl, sym same ∙ ap (λ (k : ℕ). based_event (part k) x) at)
get-based part n (x ∷ es) (suc i) d h =
    let rest = get-based part (n + 1) es i d h in
    let at : n + 1 + i ≡ n + suc i = omega arith in
    (rest.0, rest.1, rest.2 ∙ ap (λ (k : ℕ). based_event (part k) rest.0) at)

get-more : (xs ys : List Event) (i : ℕ) (e : Event) → slice_get xs i ≡ Some e → slice_get (xs ++ ys) i ≡ Some e
get-more xs ys i e h = get-front xs ys i (slice_get_within xs i e h) ∙ h

cut-get : (c : ℕ) (cs : List Cycle) (i : ℕ) (e : Event) → slice_get (events_in (cut c cs)) i ≡ Some e → slice_get (events_in cs) i ≡ Some e
cut-get c [] i e h = h
cut-get zero (x ∷ cs) i e h = get-more x.events (events_in cs) i e (ap (λ (es : List Event). slice_get es i) (sym (append-nil x.events)) ∙ h)
cut-get (suc c) (x ∷ cs) i e h = elim (get-split x.events (events_in (cut c cs)) i e h) [
  | inl here ↦ get-more x.events (events_in cs) i e here
  | inr there ↦ (
      let k = i - length x.events in
      let le = there.0 in
      let at : i ≡ length x.events + k = omega arith in
      ap (λ (j : ℕ). slice_get (x.events ++ events_in cs) j) at ∙ get-behind x.events (events_in cs) k ∙ cut-get c cs k e there.1)
]

get-map : (f : Request → Event) (rs : List Request) (i : ℕ) (e : Event) → slice_get (map f rs) i ≡ Some e → (r : Request) × (slice_get rs i ≡ Some r) × (f r ≡ e)
get-map f [] i e h = absurd cc
get-map f (r ∷ rs) zero e h = (let same : f r ≡ e = cc in (r, refl, same))
get-map f (r ∷ rs) (suc i) e h = get-map f rs i e h

-- ---- parts

-- an object rides, or it has the part that it has alone
abbrev IsPlain : Event → Part → Type 0
IsPlain e part = (part ≡ lone_part e) ⊎ ((lead : ℕ) × (offset : ℕ) × (part ≡ Ride lead offset))

plain : (e : Event) (tiny : Bool) (seat : Option Seat) → tiny ≡ is_tiny e → IsPlain e (cond tiny (part_in seat) Other)
plain e true None same = inl (ap (λ (b : Bool). cond b Lead Other) same)
plain e false None same = inl (ap (λ (b : Bool). cond b Lead Other) same)
plain e true (Some seat) same = inr (seat.start, seat.offset, refl)
plain e false (Some seat) same = inl (ap (λ (b : Bool). cond b Lead Other) same)

part-plain : (t : Trace) (answers : List Answer) (i : ℕ) (e : Event) → i < length answers → slice_get (events_of t) i ≡ Some e → IsPlain e (part_at t answers i)
part-plain t answers i e lt at =
    let r = get-map (λ (x : Request). x.event) (requests_from 0 t.cycles) i e (ap (λ (es : List Event). slice_get es i) (requests-events 0 t.cycles) ∙ at) in
    let o = object_at t answers i in
    let tiny : o.tiny ≡ is_tiny e = ap (λ (x : Tried). x.tiny) (object-is t answers i r.0 _ r.1 (slice_get-get_or answers i Zero lt)) ∙ ap is_tiny r.2 in
    plain e o.tiny (seat_in (block_before (object_at t answers) o.proc o.cycle i) o.size) tiny

size-plain : (e d : Event) (part : Part) → d ≡ based_event part e → IsPlain e part → (d.size ≡ 0) ⊎ (d ≡ lone_event e)
size-plain e d part is plain = elim plain [
  | inl own ↦ inr (is ∙ ap (λ (p : Part). based_event p e) own)
  | inr ride ↦ inl (ap (λ (x : Event). x.size) is ∙ ap (λ (p : Part). (based_event p e).size) ride.2)
]

-- each event of a growing base has size 0, or is as if its object had a block of its own
pub growing-event : (t u : Trace) (c : ℕ) (answers : List Answer) (parts : List Part) (i : ℕ) (d : Event) → IsLimited (as_version_2 t) → IsGrowing t c parts u → AreParts t answers parts
    → length parts ≤ length answers → slice_get (events_of u) i ≡ Some d → (e : Event) × (slice_get (events_of t) i ≡ Some e) × ((d.size ≡ 0) ⊎ (d ≡ lone_event e))
growing-event t u c answers parts i d limited is are le at =
    let part = part_so_far t parts in
    let flat = events-flat part 0 (cut c t.cycles) u.cycles (growing-based t u c parts limited is) in
    let own = get-based part 0 (events_in (cut c t.cycles)) i d (ap (λ (es : List Event). slice_get es i) (sym flat) ∙ at) in
    let e = own.0 in
    let asked = cut-get c t.cycles i e own.1 in
    let to : 0 + i ≡ i = omega arith in
    let kind : IsPlain e (part i) = elim (cases_lt i (length parts)) [
      | inl lt ↦ subst (λ (p : Part). IsPlain e p) (sym (so-far-in t parts i lt ∙ are i lt)) (part-plain t answers i e (omega arith) asked)
      | inr past ↦ inl (so-far-past t parts i past ∙ ap lone_part_of asked)
    ] in
    (e, asked, size-plain e d (part i) (own.2 ∙ ap (λ (k : ℕ). based_event (part k) e) to) kind)
