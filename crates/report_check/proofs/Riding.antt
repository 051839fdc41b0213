-- Rule 10, one rider after the other.
use Rattle.std.proofs.Common.{◌≡◌, ℕ, zero, suc, ◌+◌, ◌-◌, ◌<◌, ◌≤◌, Bool, true, false, eqb, MatchBool, List, [], ◌∷◌, ◌++◌, length, get_or, Option, Some, None, refl, sym, ◌∙◌, ap, subst, arith, inl, inr, length-append}
use Rattle.std.specs.List.{slice_get}
use Rattle.std.proofs.lemmas.Bool.{cases_lt, eqb-true, eqb-false}
use Rattle.std.proofs.lemmas.List.{get_or_default}
use Rattle.std.proofs.lemmas.Option.{slice_get_past}
use Rattle.trace_reader.specs.declared.trace.Trace.{Trace}
use Rattle.cycle_history.specs.declared.Answer.{Answer}
use Rattle.cycle_history.specs.declared.Answer.TheVariants.{Placed, Zero, Missed}
use Rattle.cycle_history.specs.Requests.{requests_from}
use Rattle.report_check.specs.Lines.{IsLeast}
use Rattle.tiny_alloc.specs.declared.part.Part.{Part}
use Rattle.tiny_alloc.specs.declared.part.Part.TheVariants.{Other, Lead, Ride}
use Rattle.tiny_alloc.specs.declared.part.Rider.{Rider}
use Rattle.tiny_alloc.specs.Riders.{object_at, part_at}
use Rattle.tiny_alloc.specs.Base.{rider_of, riders_below}
use Rattle.tiny_alloc.specs.Sound.{AreRiding}
use Rattle.tiny_alloc.proofs.Leaders.{rider}
use Rattle.tiny_alloc.proofs.Parted.{never-tiny}
use Rattle.report_check.specs.Versions.{BreaksRiding, IsRidingAt, address_of, placed_at}

-- ---- the riders of a list

abbrev rider_at : ℕ → ℕ → ℕ → Rider
rider_at object lead offset = record { object = object; lead = lead; offset = offset }

get-front : (xs ys : List Rider) (k : ℕ) (d : Rider) → k < length xs → get_or (xs ++ ys) k d ≡ get_or xs k d
get-front [] ys k d lt = absurd (omega arith)
get-front (x ∷ xs) ys zero d lt = refl
get-front (x ∷ xs) ys (suc k) d lt = get-front xs ys k d (omega arith)

get-last : (xs : List Rider) (x d : Rider) → get_or (xs ++ x ∷ []) (length xs) d ≡ x
get-last [] x d = refl
get-last (y ∷ xs) x d = get-last xs x d

-- a rider stands in the list
pub record Listed (riders : List Rider) (below object lead offset : ℕ) : Type 0 where
  pub place : ℕ
  pub inside : place < below
  pub is : (d : Rider) → get_or riders place d ≡ rider_at object lead offset

all-listed : (part : ℕ → Part) (n i lead offset : ℕ) → i < n → part i ≡ Ride lead offset → Listed (riders_below part n) (length (riders_below part n)) i lead offset
all-listed part zero i lead offset lt is = absurd (omega arith)
all-listed part (suc n) i lead offset lt is =
    let front = riders_below part n in
    let size = length-append front (rider_of n (part n)) in
    elim (cases_lt i n) [
      | inl below ↦ (
          let old = all-listed part n i lead offset below is in
          let inside = old.inside in
          record { place = old.place; inside = omega arith; is = λ d. get-front front (rider_of n (part n)) old.place d inside ∙ old.is d })
      | inr top ↦ (
          let e : i ≡ n = omega arith in
          let here : rider_of n (part n) ≡ rider_at n lead offset ∷ [] = ap (λ (x : Part). rider_of n x) (ap part (sym e) ∙ is) in
          let one : length (rider_of n (part n)) ≡ 1 = ap (λ (xs : List Rider). length xs) here in
          record {
            place = length front;
            inside = omega arith;
            is = λ d. ap (λ (xs : List Rider). get_or (front ++ xs) (length front) d) here ∙ get-last front (rider_at n lead offset) d ∙ ap (λ (k : ℕ). rider_at k lead offset) (sym e);
          })
    ]

-- the rider at a place rides, and all that ride and come before it stand before it
pub record IsPlacedRider (part : ℕ → Part) (riders : List Rider) (k : ℕ) (r : Rider) : Type 0 where
  pub rides : part r.object ≡ Ride r.lead r.offset
  pub before : (i lead offset : ℕ) → i < r.object → part i ≡ Ride lead offset → Listed riders k i lead offset

more-listed : (riders more : List Rider) (k i lead offset : ℕ) → k ≤ length riders → Listed riders k i lead offset → Listed (riders ++ more) k i lead offset
more-listed riders more k i lead offset le old =
    let inside = old.inside in
    record { place = old.place; inside = inside; is = λ d. get-front riders more old.place d (omega arith) ∙ old.is d }

pub placed-rider : (part : ℕ → Part) (n k : ℕ) (d : Rider) → k < length (riders_below part n) → IsPlacedRider part (riders_below part n) k (get_or (riders_below part n) k d)
placed-rider part zero k d lt = absurd (omega arith)
placed-rider part (suc n) k d lt = elim (cases_lt k (length (riders_below part n))) [
  | inl less ↦ (
      let front = riders_below part n in
      let more = rider_of n (part n) in
      let known = placed-rider part n k d less in
      subst (λ (r : Rider). IsPlacedRider part (front ++ more) k r) (sym (get-front front more k d less)) (record {
        rides = known.rides;
        before = λ i lead offset below is. more-listed front more k i lead offset (omega arith) (known.before i lead offset below is);
      }))
  | inr past ↦ last (part n) refl past
]
  where
    none : (x : Part) → part n ≡ x → rider_of n x ≡ [] → length (riders_below part n) ≤ k → ⊥
    none x e empty past =
        let size = length-append (riders_below part n) (rider_of n (part n)) in
        let zero' : length (rider_of n (part n)) ≡ 0 = ap (λ (y : Part). length (rider_of n y)) e ∙ ap (λ (xs : List Rider). length xs) empty in
        omega arith

    last : (x : Part) → part n ≡ x → length (riders_below part n) ≤ k
        → IsPlacedRider part (riders_below part n ++ rider_of n (part n)) k (get_or (riders_below part n ++ rider_of n (part n)) k d)
    last Other e past = absurd (none Other e refl past)
    last Lead e past = absurd (none Lead e refl past)
    last (Ride lead offset) e past =
        let front = riders_below part n in
        let here : rider_of n (part n) ≡ rider_at n lead offset ∷ [] = ap (λ (x : Part). rider_of n x) e in
        let one : length (rider_of n (part n)) ≡ 1 = ap (λ (xs : List Rider). length xs) here in
        let size = length-append front (rider_of n (part n)) in
        let at : length front ≡ k = omega arith in
        let is : get_or (front ++ rider_of n (part n)) k d ≡ rider_at n lead offset =
        ap (λ (xs : List Rider). get_or (front ++ xs) k d) here ∙ ap (λ (j : ℕ). get_or (front ++ rider_at n lead offset ∷ []) j d) (sym at) ∙ get-last front (rider_at n lead offset) d in
        subst (λ (r : Rider). IsPlacedRider part (front ++ rider_of n (part n)) k r) (sym is) (record {
          rides = e;
          before = λ i l o below ride. (
              let found = all-listed part n i l o below ride in
              more-listed front (rider_of n (part n)) k i l o (omega arith) (record { place = found.place; inside = (let less = found.inside in omega arith); is = found.is }));
        })

-- ---- one rider

address-is : (a : Option Answer) (x : ℕ) → address_of a ≡ Some x → a ≡ Some (Placed x)
address-is None x h = cc
address-is (Some (Placed y)) x h = let e : y ≡ x = cc in ap (λ (z : ℕ). Some (Placed z)) e
address-is (Some Zero) x h = cc
address-is (Some (Missed line)) x h = cc

pub riding-from : (answers : List Answer) (i lead offset x y : ℕ) → placed_at answers lead ≡ Some x → placed_at answers i ≡ Some y → y ≡ x + offset → IsRidingAt answers i lead offset
riding-from answers i lead offset x y begins stands e = record {
  address = x;
  begins = address-is (slice_get answers lead) x begins;
  stands = address-is (slice_get answers i) y stands ∙ ap (λ (z : ℕ). Some (Placed z)) e;
}

pub riding-places : (answers : List Answer) (i lead offset : ℕ) → IsRidingAt answers i lead offset
    → (x : ℕ) × (placed_at answers lead ≡ Some x) × (placed_at answers i ≡ Some (x + offset))
riding-places answers i lead offset is = (is.address, ap address_of is.begins, ap address_of is.stands)

-- an object whose lead has no address doesn't ride, nor does one that has none, or a lower one
pub unled : (answers : List Answer) (i lead offset : ℕ) → placed_at answers lead ≡ None → ¬ IsRidingAt answers i lead offset
unled answers i lead offset none is = let at = (riding-places answers i lead offset is).1 in absurd cc

pub unplaced : (answers : List Answer) (i lead offset : ℕ) → placed_at answers i ≡ None → ¬ IsRidingAt answers i lead offset
unplaced answers i lead offset none is = let at = (riding-places answers i lead offset is).2 in absurd cc

at-offset : (answers : List Answer) (i lead offset x y : ℕ) → placed_at answers lead ≡ Some x → placed_at answers i ≡ Some y → IsRidingAt answers i lead offset → y ≡ x + offset
at-offset answers i lead offset x y begins stands is =
    let places = riding-places answers i lead offset is in
    let a = places.1 in
    let b = places.2 in
    let start : places.0 ≡ x = cc in
    let own : places.0 + offset ≡ y = cc in
    omega arith

pub too-low : (answers : List Answer) (i lead offset x y : ℕ) → placed_at answers lead ≡ Some x → placed_at answers i ≡ Some y → y < x → ¬ IsRidingAt answers i lead offset
too-low answers i lead offset x y begins stands lt is = let e = at-offset answers i lead offset x y begins stands is in absurd (omega arith)

pub decides-riding : (answers : List Answer) (i lead offset x y : ℕ) → placed_at answers lead ≡ Some x → placed_at answers i ≡ Some y → x ≤ y
    → MatchBool (eqb (y - x) offset) (IsRidingAt answers i lead offset) (¬ IsRidingAt answers i lead offset)
decides-riding answers i lead offset x y begins stands le = split (eqb (y - x) offset) refl
  where
    split : (b : Bool) → eqb (y - x) offset ≡ b → MatchBool b (IsRidingAt answers i lead offset) (¬ IsRidingAt answers i lead offset)
    split true e = (let same = eqb-true (y - x) offset e in riding-from answers i lead offset x y begins stands (omega arith))
    split false e = λ is. (let same = at-offset answers i lead offset x y begins stands is in eqb-false (y - x) offset e (omega arith))

-- ---- all riders

-- a rider has an answer
rider-answered : (t : Trace) (answers : List Answer) (i lead offset : ℕ) → part_at t answers i ≡ Ride lead offset → i < length answers
rider-answered t answers i lead offset is = elim (cases_lt i (length answers)) [
  | inl lt ↦ lt
  | inr past ↦ (
      let tiny = (rider (object_at t answers) i lead offset is).tiny in
      let off = never-tiny (slice_get (requests_from 0 t.cycles) i) (slice_get answers i) (slice_get_past answers i past) in
      absurd cc)
]

-- the first riders of a list stand where they ride
pub record AreRidingTo (answers : List Answer) (riders : List Rider) (n : ℕ) : Type 0 where
  pub each : (k : ℕ) (d : Rider) → k < n → IsRidingAt answers (get_or riders k d).object (get_or riders k d).lead (get_or riders k d).offset

abbrev AreThose : Trace → List Answer → List Rider → Type 0
AreThose t answers riders = riders ≡ riders_below (part_at t answers) (length answers)

listed-riding : (answers : List Answer) (riders : List Rider) (n i lead offset : ℕ) → AreRidingTo answers riders n → Listed riders n i lead offset → IsRidingAt answers i lead offset
listed-riding answers riders n i lead offset are found =
    subst (λ (r : Rider). IsRidingAt answers r.object r.lead r.offset) (found.is (rider_at 0 0 0)) (are.each found.place (rider_at 0 0 0) found.inside)

pub riding-all : (t : Trace) (answers : List Answer) (riders : List Rider) (n : ℕ) → AreRidingTo answers riders n → length riders ≤ n → AreThose t answers riders → AreRiding t answers
riding-all t answers riders n are all those i lead offset is =
    let part = part_at t answers in
    let lt = rider-answered t answers i lead offset is in
    let found = all-listed part (length answers) i lead offset lt is in
    let there : Listed riders (length riders) i lead offset = subst (λ (xs : List Rider). Listed xs (length xs) i lead offset) (sym those) found in
    let inside = there.inside in
    let riding = listed-riding answers riders n i lead offset are (record { place = there.place; inside = omega arith; is = there.is }) in
    (riding.address, riding.begins, riding.stands)

pub riding-first : (t : Trace) (answers : List Answer) (riders : List Rider) (n line : ℕ) (d : Rider) → AreRidingTo answers riders n → n < length riders
    → ¬ IsRidingAt answers (get_or riders n d).object (get_or riders n d).lead (get_or riders n d).offset → line ≡ (get_or riders n d).object + 1 → AreThose t answers riders → IsLeast (BreaksRiding t answers) line
riding-first t answers riders n line d are lt wrong at those =
    let part = part_at t answers in
    let r = get_or riders n d in
    let here : IsPlacedRider part riders n r = subst (λ (xs : List Rider). IsPlacedRider part xs n (get_or xs n d)) (sym those)
    (placed-rider part (length answers) n d (let size = ap (λ (xs : List Rider). length xs) those in omega arith)) in
    record {
      here = record { object = r.object; lead = r.lead; offset = r.offset; rides = here.rides; wrong = wrong; stands = at };
      least = λ m less breaks. (
          let stands = breaks.stands in
          breaks.wrong (listed-riding answers riders n breaks.object breaks.lead breaks.offset are (here.before breaks.object breaks.lead breaks.offset (omega arith) breaks.rides)));
    }

pub riding-none : (answers : List Answer) (riders : List Rider) → AreRidingTo answers riders 0
riding-none answers riders = record { each = λ k d lt. absurd (omega arith) }

pub riding-more : (answers : List Answer) (riders : List Rider) (n : ℕ) (d : Rider) → n < length riders → AreRidingTo answers riders n
    → IsRidingAt answers (get_or riders n d).object (get_or riders n d).lead (get_or riders n d).offset → AreRidingTo answers riders (n + 1)
riding-more answers riders n d lt old is = record {
  each = λ k e less. elim (cases_lt k n) [
    | inl below ↦ old.each k e below
    | inr top ↦ (
        let at : n ≡ k = omega arith in
        let same : get_or riders n d ≡ get_or riders k e = get_or_default riders n d e lt ∙ ap (λ (j : ℕ). get_or riders j e) at in
        subst (λ (r : Rider). IsRidingAt answers r.object r.lead r.offset) same is)
  ];
}

-- a report whose riders stand where they ride has no line that breaks the rule
pub riding-unbroken : (t : Trace) (answers : List Answer) (line : ℕ) → AreRiding t answers → ¬ BreaksRiding t answers line
riding-unbroken t answers line are breaks =
    let is = are breaks.object breaks.lead breaks.offset breaks.rides in
    breaks.wrong (record { address = is.0; begins = is.1; stands = is.2 })
