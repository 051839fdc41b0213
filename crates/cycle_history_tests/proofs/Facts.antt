-- The example is within the limits, its answers are places of which no two that live are the same, and they are zero where a size is 0.
use Rattle.std.proofs.Common.{◌≡◌, ℕ, zero, suc, ◌+◌, ◌*◌, ◌/◌, ◌^◌, ◌<◌, ◌≤◌, ◌↔◌, true, cond, eqb, List, [], ◌∷◌, length, drop, take, Some, refl, sym, ◌∙◌, ap, subst, arith, ◌⊎◌, inl, inr}
use Rattle.std.specs.List.{slice_get}
use Rattle.std.proofs.lemmas.List.{length-take}
use Rattle.std.proofs.lemmas.Option.{slice_get_within}
use Rattle.size_classes.specs.Classes.{slot_of, pages_of, objects_of, span_class_of}
use Rattle.size_classes.proofs.Steps.{least, serves}
use Rattle.trace_reader.specs.declared.trace.Event.{Event}
use Rattle.trace_reader.specs.Limits.{AreCycles, EventFits, HeaderFits, IsMarked, events_of}
use Rattle.cycle_history.specs.declared.Answer.{Answer}
use Rattle.cycle_history.specs.declared.Answer.TheVariants.{Placed, Zero, Missed}
use Rattle.cycle_history.specs.Requests.{last_cycle}
use Rattle.cycle_history.specs.Places.{IsPlace, LiesAt}
use Rattle.cycle_history.specs.Marked.{LieApart, LivedBefore}
use Rattle.cycle_history.specs.Before.{ArePlaces, IsLimited, objects_before}
use Rattle.cycle_history.specs.Counted.{AreZeros}
use Rattle.cycle_history.proofs.Found.{lies-more}
use Rattle.cycle_history.proofs.Settled.{lies-one}
use Rattle.cycle_history_tests.specs.Example.{answers, event_of_size, example, first, second, third, span}

fits : (size : ℕ) → size ≤ 2 ^ 40 → EventFits 1 (event_of_size size)
fits size le = record { proc = omega arith; size = le; stack = omega arith }

first_marks : (i : ℕ) → IsMarked (span 0 0 ∷ span 2 3 ∷ []) i → ⊥ ⊎ ((0 ≤ i) × (i < 0 + 5))
first_marks i h = inr (
  (omega arith),
  elim h [
    | inl a ↦ (let y = a.1 in omega arith)
    | inr b ↦ elim b [ inl a ↦ (let y = a.1 in omega arith) | inr none ↦ absurd none ]
  ],
)

second_marks : (i : ℕ) → IsMarked (span 0 0 ∷ span 6 7 ∷ []) i → IsMarked (span 0 0 ∷ span 2 3 ∷ []) i ⊎ ((0 + 5 ≤ i) × (i < 0 + 5 + 3))
second_marks i h = elim h [
  | inl a ↦ inl (inl a)
  | inr b ↦ elim b [ inl a ↦ (let x = a.0 in let y = a.1 in inr ((omega arith), (omega arith))) | inr none ↦ absurd none ]
]

cycles : AreCycles 0 (λ _. ⊥) (first ∷ second ∷ third ∷ [])
cycles = (
  (omega arith),
  (omega arith),
  ((omega arith), (omega arith), (omega arith), ((omega arith), (omega arith), (omega arith), tt)),
  first_marks,
  ((omega arith), (omega arith), ((omega arith), (omega arith), (omega arith), ((omega arith), (omega arith), (omega arith), tt)), second_marks, refl),
)

header : HeaderFits (record { version = 1; chunks = 1; procs = 1; rate = 0; seed = 1; goal = 512 })
header = record {
  version = ((omega arith), (omega arith));
  chunks = ((omega arith), (omega arith));
  procs = ((omega arith), (omega arith));
  rate = omega arith;
  seed = omega arith;
  goal = omega arith;
}

pub limited : IsLimited example
limited = record {
  header = header;
  events = (
    fits 16 (omega arith),
    (fits 16 (omega arith), (fits 0 (omega arith), (fits 1400 (omega arith), (fits 40000 (omega arith), (fits 16 (omega arith), (fits 3000000 (omega arith), (fits 24 (omega arith), (fits 32768 (omega arith), tt)))))))),
  );
  cycles = cycles;
  objects = omega arith;
  mark_ends = omega arith;
}

-- ---- places

small_place : (low high size class page k address : ℕ) → low < size → size ≤ high → size ≤ 32768 → serves low high class ≡ true → k < objects_of class
    → address ≡ 0xc000000000 + 8192 * page + slot_of class * k → IsPlace size address page k
small_place low high size class page k address above within small served inside start = record {
  some = omega arith;
  scan = true;
  need = record { class = span_class_of class true; pages = pages_of class; slot = slot_of class; count = objects_of class };
  fits = record {
    small = λ le. (class, least low high size class above within served, record { class = refl; pages = refl; slot = refl; count = refl });
    large = λ lt. absurd (omega arith);
  };
  slot = record { index = inside; start = start };
}

large_place : (size page address : ℕ) → 32768 < size → address ≡ 0xc000000000 + 8192 * page → IsPlace size address page 0
large_place size page address large start = record {
  some = omega arith;
  scan = true;
  need = record { class = span_class_of 0 true; pages = (size + 8191) / 8192; slot = 8192 * ((size + 8191) / 8192); count = 1 };
  fits = record { small = λ le. absurd (omega arith); large = λ lt. record { class = refl; pages = refl; slot = refl; count = refl } };
  slot = record { index = omega arith; start = omega arith };
}

-- an answer that is an address is a place of its event's size
abbrev PlaceOf : Event → Answer → Type 0
PlaceOf e (Placed address) = (page : ℕ) × (k : ℕ) × (page < 512) × IsPlace e.size address page k
PlaceOf e Zero = Unit {0}
PlaceOf e (Missed line) = Unit {0}

abbrev PlacesOf : List Event → List Answer → Type 0
PlacesOf es [] = Unit {0}
PlacesOf [] (a ∷ all) = ⊥
PlacesOf (e ∷ es) (a ∷ all) = PlaceOf e a × PlacesOf es all

place-at : (es : List Event) (all : List Answer) (i address : ℕ) → PlacesOf es all → slice_get all i ≡ Some (Placed address) → (e : Event) × (slice_get es i ≡ Some e) × PlaceOf e (Placed address)
place-at es [] i address h at = cc
place-at [] (a ∷ all) i address h at = absurd h
place-at (e ∷ es) (a ∷ all) zero address h at = (let same : a ≡ Placed address = cc in (e, refl, subst (λ (x : Answer). PlaceOf e x) same h.0))
place-at (e ∷ es) (a ∷ all) (suc i) address h at = place-at es all i address h.1 at

are-places : (all : List Answer) → PlacesOf (events_of example) all → ArePlaces example all
are-places all h i address at =
    let x = place-at (events_of example) all i address h at in
    (x.2.0, x.2.1, x.2.2, record { event = x.0; address = address; asked = x.1; answered = at; place = x.2.3 })

five : PlacesOf (events_of example) (take 5 answers)
unfolding slot_of objects_of
five = (
  (0, 0, (omega arith), small_place 8 16 16 2 0 0 0xc000000000 (omega arith) (omega arith) (omega arith) refl (omega arith) refl),
  (
    (0, 1, (omega arith), small_place 8 16 16 2 0 1 0xc000000010 (omega arith) (omega arith) (omega arith) refl (omega arith) refl),
    (
      tt,
      (
        (3, 8, (omega arith), small_place 1280 1408 1400 35 3 8 0xc000008c00 (omega arith) (omega arith) (omega arith) refl (omega arith) refl),
        ((5, 0, (omega arith), large_place 40000 5 0xc00000a000 (omega arith) refl), tt),
      ),
    ),
  ),
)

eight : PlacesOf (events_of example) (take 8 answers)
unfolding slot_of objects_of
eight = (
  (0, 0, (omega arith), small_place 8 16 16 2 0 0 0xc000000000 (omega arith) (omega arith) (omega arith) refl (omega arith) refl),
  (
    (0, 1, (omega arith), small_place 8 16 16 2 0 1 0xc000000010 (omega arith) (omega arith) (omega arith) refl (omega arith) refl),
    (
      tt,
      (
        (3, 8, (omega arith), small_place 1280 1408 1400 35 3 8 0xc000008c00 (omega arith) (omega arith) (omega arith) refl (omega arith) refl),
        (
          (5, 0, (omega arith), large_place 40000 5 0xc00000a000 (omega arith) refl),
          (
            (0, 1, (omega arith), small_place 8 16 16 2 0 1 0xc000000010 (omega arith) (omega arith) (omega arith) refl (omega arith) refl),
            (
              tt,
              ((10, 340, (omega arith), small_place 16 24 24 3 10 340 0xc000015fe0 (omega arith) (omega arith) (omega arith) refl (omega arith) refl), tt),
            ),
          ),
        ),
      ),
    ),
  ),
)

-- ---- no two at one place

-- where the placed objects lie
small_at : (i low high size class page k address : ℕ) → slice_get (events_of example) i ≡ Some (event_of_size size) → slice_get answers i ≡ Some (Placed address) → low < size → size ≤ high → size ≤ 32768
    → serves low high class ≡ true → k < objects_of class → address ≡ 0xc000000000 + 8192 * page + slot_of class * k → LiesAt example answers i page k
small_at i low high size class page k address asked answered above within small served inside start = record {
  event = event_of_size size;
  address = address;
  asked = asked;
  answered = answered;
  place = small_place low high size class page k address above within small served inside start;
}

object-0 : LiesAt example answers 0 0 0
unfolding slot_of objects_of
object-0 = small_at 0 8 16 16 2 0 0 0xc000000000 refl refl (omega arith) (omega arith) (omega arith) refl (omega arith) refl

object-1 : LiesAt example answers 1 0 1
unfolding slot_of objects_of
object-1 = small_at 1 8 16 16 2 0 1 0xc000000010 refl refl (omega arith) (omega arith) (omega arith) refl (omega arith) refl

object-3 : LiesAt example answers 3 3 8
unfolding slot_of objects_of
object-3 = small_at 3 1280 1408 1400 35 3 8 0xc000008c00 refl refl (omega arith) (omega arith) (omega arith) refl (omega arith) refl

object-4 : LiesAt example answers 4 5 0
object-4 = record { event = event_of_size 40000; address = 0xc00000a000; asked = refl; answered = refl; place = large_place 40000 5 0xc00000a000 (omega arith) refl }

object-5 : LiesAt example answers 5 0 1
unfolding slot_of objects_of
object-5 = small_at 5 8 16 16 2 0 1 0xc000000010 refl refl (omega arith) (omega arith) (omega arith) refl (omega arith) refl

object-7 : LiesAt example answers 7 10 340
unfolding slot_of objects_of
object-7 = small_at 7 16 24 24 3 10 340 0xc000015fe0 refl refl (omega arith) (omega arith) (omega arith) refl (omega arith) refl

-- an object that lies at a place is told by the place
told : (who : ℕ → ℕ → ℕ) (i page k p j : ℕ) → LiesAt example answers i page k → LiesAt example answers i p j → who p j ≡ i → i ≡ who page k
told who i page k p j lies own is = (let one = lies-one example answers i p page j k own lies in sym is ∙ (λ n. who (one.0 n) (one.1 n)))

-- of those before mark end 1
abbrev of_first : ℕ → ℕ → ℕ
of_first page k = cond (eqb page 0) k (cond (eqb page 3) 3 4)

first-told : (i page k : ℕ) → i < 5 → LiesAt example answers i page k → i ≡ of_first page k
first-told zero page k lt lies = told of_first 0 page k 0 0 lies object-0 refl
first-told (suc zero) page k lt lies = told of_first 1 page k 0 1 lies object-1 refl
first-told (suc (suc zero)) page k lt lies = (let none = lies.answered in cc)
first-told (suc (suc (suc zero))) page k lt lies = told of_first 3 page k 3 8 lies object-3 refl
first-told (suc (suc (suc (suc zero)))) page k lt lies = told of_first 4 page k 5 0 lies object-4 refl
first-told (suc (suc (suc (suc (suc i))))) page k lt lies = absurd (omega arith)

-- of those before mark end 2 that lived in the cycle before it
abbrev of_second : ℕ → ℕ → ℕ
of_second page k = cond (eqb page 0) (cond (eqb k 0) 0 5) (cond (eqb page 3) 3 7)

second-told : (i page k : ℕ) → i < 8 → LivedBefore example 2 i → LiesAt example answers i page k → i ≡ of_second page k
second-told zero page k lt lived lies = told of_second 0 page k 0 0 lies object-0 refl
second-told (suc zero) page k lt lived lies = absurd (elim lived [ inl late ↦ omega arith | inr marked ↦ cc ])
second-told (suc (suc zero)) page k lt lived lies = (let none = lies.answered in cc)
second-told (suc (suc (suc zero))) page k lt lived lies = told of_second 3 page k 3 8 lies object-3 refl
second-told (suc (suc (suc (suc zero)))) page k lt lived lies = absurd (elim lived [ inl late ↦ omega arith | inr marked ↦ cc ])
second-told (suc (suc (suc (suc (suc zero))))) page k lt lived lies = told of_second 5 page k 0 1 lies object-5 refl
second-told (suc (suc (suc (suc (suc (suc zero)))))) page k lt lived lies = (let none = lies.answered in cc)
second-told (suc (suc (suc (suc (suc (suc (suc zero))))))) page k lt lived lies = told of_second 7 page k 10 340 lies object-7 refl
second-told (suc (suc (suc (suc (suc (suc (suc (suc i)))))))) page k lt lived lies = absurd (omega arith)

within : (count i page k : ℕ) → LiesAt example (take count answers) i page k → i < count
within count i page k lies =
    let lt = slice_get_within (take count answers) i (Placed lies.address) lies.answered in
    let few = length-take count answers in
    omega arith

first-apart : LieApart example 1 (take 5 answers)
first-apart i j page k a b lies other =
    first-told i page k (within 5 i page k lies) (lies-more example (take 5 answers) (drop 5 answers) i page k lies)
    ∙ sym (first-told j page k (within 5 j page k other) (lies-more example (take 5 answers) (drop 5 answers) j page k other))

second-apart : LieApart example 2 (take 8 answers)
second-apart i j page k a b lies other =
    second-told i page k (within 8 i page k lies) a (lies-more example (take 8 answers) (drop 8 answers) i page k lies)
    ∙ sym (second-told j page k (within 8 j page k other) b (lies-more example (take 8 answers) (drop 8 answers) j page k other))

-- what the search for the marks of a mark end asks
pub record IsReady (mark count : ℕ) : Type 0 where
  pub first : 1 ≤ mark
  pub last : mark ≤ last_cycle example
  pub before : count ≡ objects_before example mark
  pub few : count ≤ 8
  pub places : ArePlaces example (take count answers)
  pub apart : LieApart example mark (take count answers)

pub ready : (mark count : ℕ) → ((mark ≡ 1) × (count ≡ 5)) ⊎ ((mark ≡ 2) × (count ≡ 8)) → IsReady mark count
ready mark count h =
    elim h [
      | inl one ↦ rw (one.0, one.1) (record { first = omega arith; last = omega arith; before = refl; few = omega arith; places = are-places (take 5 answers) five; apart = first-apart })
      | inr two ↦ rw (two.0, two.1) (record { first = omega arith; last = omega arith; before = refl; few = omega arith; places = are-places (take 8 answers) eight; apart = second-apart })
    ]

-- ---- zeros

abbrev ZerosOf : List Event → List Answer → Type 0
ZerosOf es [] = Unit {0}
ZerosOf [] (a ∷ all) = ⊥
ZerosOf (e ∷ es) (a ∷ all) = ((a ≡ Zero) ↔ (e.size ≡ 0)) × ZerosOf es all

zero-at : (es : List Event) (all : List Answer) (i : ℕ) (e : Event) → length es ≤ length all → ZerosOf es all → slice_get es i ≡ Some e → (slice_get all i ≡ Some Zero) ↔ (e.size ≡ 0)
zero-at [] all i e le h at = cc
zero-at (x ∷ es) [] i e le h at = absurd (omega arith)
zero-at (x ∷ es) (a ∷ all) zero e le h at =
    let same : x ≡ e = cc in
    let size : x.size ≡ e.size = ap (λ (y : Event). y.size) same in
    ((λ z. (let z' : a ≡ Zero = cc in sym size ∙ h.0.0 z')), (λ z. ap Some (h.0.1 (size ∙ z))))
zero-at (x ∷ es) (a ∷ all) (suc i) e le h at = zero-at es all i e (omega arith) h.1 at

placed : (size address : ℕ) → 1 ≤ size → (Placed address ≡ Zero) ↔ (size ≡ 0)
placed size address some = ((λ h. cc), (λ h. absurd (omega arith)))

missed : (size line : ℕ) → 1 ≤ size → (Missed line ≡ Zero) ↔ (size ≡ 0)
missed size line some = ((λ h. cc), (λ h. absurd (omega arith)))

nine : ZerosOf (events_of example) answers
nine = (
  placed 16 0xc000000000 (omega arith),
  (
    placed 16 0xc000000010 (omega arith),
    (
      ((λ h. refl), (λ h. refl)),
      (
        placed 1400 0xc000008c00 (omega arith),
        (
          placed 40000 0xc00000a000 (omega arith),
          (placed 16 0xc000000010 (omega arith), (missed 3000000 4 (omega arith), (placed 24 0xc000015fe0 (omega arith), (placed 32768 0xc000028000 (omega arith), tt)))),
        ),
      ),
    ),
  ),
)

pub zeros : AreZeros example answers
zeros i e at = zero-at (events_of example) answers i e (omega arith) nine at
