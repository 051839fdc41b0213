-- A test of rule 6.
use Rattle.std.proofs.Common.{◌≡◌, ◌≢◌, ℕ, zero, suc, ◌≤◌, ◌<◌, Bool, true, false, leb, ltb, eqb, List, refl, arith, Decides, ◌⊎◌, inl, inr}
use Rattle.std.proofs.lemmas.Bool.{cases_eq}
use Rattle.std.proofs.lemmas.Bool.Decides.{Decides-like, Decides-eqb, Decides-ltb}
use Rattle.page_alloc.specs.Lists.{In}
use Rattle.cycle_history.specs.Requests.{Marking}
use Rattle.cycle_history.specs.Objects.{Object, is_placed, Holds, IsHeld}
use Rattle.cycle_history.specs.Rules.{IsSmall, AreFilled}
use Rattle.sound_report_tests.proofs.Tests.{Decides-then, Decides-else, Decides-implies, all_in, any_in, all_below, Decides-all, Decides-any, Decides-below}
use Rattle.sound_report_tests.proofs.Journals.{Decides-leb}

abbrev pub is_small : Object → Bool
is_small o = elim (is_placed o.answer) [ true ↦ leb 2 o.need.class | false ↦ false ]

Decides-small : (o : Object) → Decides (is_small o) (IsSmall o)
Decides-small o = Decides-then (is_placed o.answer) (leb 2 o.need.class) (λ h. h, λ h. h) (Decides-leb 2 o.need.class)

-- ---- what holds an index

abbrev pub is_earlier : ℕ → ℕ → Object → Bool
is_earlier c before o = elim (eqb o.cycle c) [ true ↦ ltb o.id before | false ↦ false ]

abbrev pub is_known : Marking → ℕ → ℕ → Object → Bool
is_known marked c before o = elim (is_earlier c before o) [ true ↦ true | false ↦ marked c o.id ]

abbrev pub holds : Marking → ℕ → ℕ → ℕ → ℕ → Object → Bool
holds marked c before n k o = elim (eqb o.index k) [ true ↦ elim (eqb o.life n) [ true ↦ elim (is_placed o.answer) [ true ↦ is_known marked c before o | false ↦ false ] | false ↦ false ] | false ↦ false ]

Decides-holds : (marked : Marking) (c before n k : ℕ) (o : Object) → Decides (holds marked c before n k o) (Holds marked c before n k o)
Decides-holds marked c before n k o =
    Decides-like (holds marked c before n k o)
    (λ (h : (o.index ≡ k) × ((o.life ≡ n) × ((is_placed o.answer ≡ true) × (((o.cycle ≡ c) × (o.id < before)) ⊎ (marked c o.id ≡ true))))).
    record { placed = h.1.1.0; life = h.1.0; index = h.0; when = elim h.1.1.1 [ inl early ↦ inr early | inr mark ↦ inl mark ] })
    (λ h. (h.index, (h.life, (h.placed, elim h.when [ inl mark ↦ inr mark | inr early ↦ inl early ]))))
    (Decides-then (eqb o.index k) (elim (eqb o.life n) [ true ↦ elim (is_placed o.answer) [ true ↦ is_known marked c before o | false ↦ false ] | false ↦ false ]) (Decides-eqb o.index k)
    (Decides-then (eqb o.life n) (elim (is_placed o.answer) [ true ↦ is_known marked c before o | false ↦ false ]) (Decides-eqb o.life n)
    (Decides-then (is_placed o.answer) (is_known marked c before o) (λ h. h, λ h. h)
    (Decides-else (is_earlier c before o) (marked c o.id) (Decides-then (eqb o.cycle c) (ltb o.id before) (Decides-eqb o.cycle c) (Decides-ltb o.id before)) (λ h. h, λ h. h)))))

abbrev pub are_held : Marking → List Object → ℕ → ℕ → ℕ → ℕ → Bool
are_held marked objects c before n count = all_below (λ j. any_in (holds marked c before n j) objects) count

Decides-held : (marked : Marking) (objects : List Object) (c before n count : ℕ) → Decides (are_held marked objects c before n count) ((j : ℕ) → j < count → IsHeld marked objects c before n j)
Decides-held marked objects c before n count =
    Decides-below (λ j. any_in (holds marked c before n j) objects) (IsHeld marked objects c before n)
    (λ j. Decides-any (holds marked c before n j) (Holds marked c before n j) objects (λ o i. Decides-holds marked c before n j o)) count

-- ---- one processor

abbrev pub same_place : Object → Object → Bool
same_place a b = elim (eqb a.life b.life) [ true ↦ eqb a.cycle b.cycle | false ↦ false ]

abbrev pub one_proc : Object → Object → Bool
one_proc a b = elim (is_small b) [ true ↦ elim (same_place a b) [ true ↦ eqb a.proc b.proc | false ↦ true ] | false ↦ true ]

abbrev OneProc : Object → Object → Type 0
OneProc a b = IsSmall b → (a.life ≡ b.life) × (a.cycle ≡ b.cycle) → a.proc ≡ b.proc

abbrev pub one_processor : List Object → Bool
one_processor objects = all_in (λ a. elim (is_small a) [ true ↦ all_in (one_proc a) objects | false ↦ true ]) objects

Decides-one_processor : (objects : List Object) → Decides (one_processor objects) ((a : Object) → In a objects → IsSmall a → (b : Object) → In b objects → OneProc a b)
Decides-one_processor objects =
    Decides-all (λ a. elim (is_small a) [ true ↦ all_in (one_proc a) objects | false ↦ true ]) (λ a. IsSmall a → (b : Object) → In b objects → OneProc a b) objects (λ a i.
    Decides-implies (is_small a) (all_in (one_proc a) objects) (Decides-small a) (Decides-all (one_proc a) (OneProc a) objects (λ b j.
    Decides-implies (is_small b) (elim (same_place a b) [ true ↦ eqb a.proc b.proc | false ↦ true ]) (Decides-small b)
    (Decides-implies (same_place a b) (eqb a.proc b.proc) (Decides-then (eqb a.life b.life) (eqb a.cycle b.cycle) (Decides-eqb a.life b.life) (Decides-eqb a.cycle b.cycle)) (Decides-eqb a.proc b.proc)))))

-- ---- no gap: the index right below is an earlier object's of this cycle, for which the same was asked; or each index is looked for

-- object d is small, has this index of the life in this cycle, and comes before
abbrev pub takes : ℕ → ℕ → ℕ → ℕ → Object → Bool
takes c before n k d = elim (eqb d.index k) [ true ↦ elim (eqb d.life n) [ true ↦ elim (is_earlier c before d) [ true ↦ is_small d | false ↦ false ] | false ↦ false ] | false ↦ false ]

pub record Takes (c before n k : ℕ) (d : Object) : Type 0 where
  pub index : d.index ≡ k
  pub life : d.life ≡ n
  pub cycle : d.cycle ≡ c
  pub early : d.id < before
  pub small : IsSmall d

Decides-takes : (c before n k : ℕ) (d : Object) → Decides (takes c before n k d) (Takes c before n k d)
Decides-takes c before n k d =
    Decides-like (takes c before n k d)
    (λ (h : (d.index ≡ k) × ((d.life ≡ n) × (((d.cycle ≡ c) × (d.id < before)) × IsSmall d))). record { index = h.0; life = h.1.0; cycle = h.1.1.0.0; early = h.1.1.0.1; small = h.1.1.1 })
    (λ h. (h.index, (h.life, ((h.cycle, h.early), h.small))))
    (Decides-then (eqb d.index k) (elim (eqb d.life n) [ true ↦ elim (is_earlier c before d) [ true ↦ is_small d | false ↦ false ] | false ↦ false ]) (Decides-eqb d.index k)
    (Decides-then (eqb d.life n) (elim (is_earlier c before d) [ true ↦ is_small d | false ↦ false ]) (Decides-eqb d.life n)
    (Decides-then (is_earlier c before d) (is_small d) (Decides-then (eqb d.cycle c) (ltb d.id before) (Decides-eqb d.cycle c) (Decides-ltb d.id before)) (Decides-small d))))

-- some object takes the last of the indices below count
abbrev pub last_taken : List Object → ℕ → ℕ → ℕ → ℕ → Bool
last_taken objects c before n zero = true
last_taken objects c before n (suc k) = any_in (takes c before n k) objects

abbrev LastTaken : List Object → ℕ → ℕ → ℕ → ℕ → Type 0
LastTaken objects c before n zero = Unit {0}
LastTaken objects c before n (suc k) = (d : Object) × In d objects × Takes c before n k d

Decides-last_taken : (objects : List Object) (c before n count : ℕ) → Decides (last_taken objects c before n count) (LastTaken objects c before n count)
Decides-last_taken objects c before n zero = (λ h. tt, λ h. refl)
Decides-last_taken objects c before n (suc k) = Decides-any (takes c before n k) (Takes c before n k) objects (λ d i. Decides-takes c before n k d)

-- all indices below count are held, or an object takes the last of them
abbrev pub are_held_quickly : Marking → List Object → ℕ → ℕ → ℕ → ℕ → Bool
are_held_quickly marked objects c before n count = elim (last_taken objects c before n count) [ true ↦ true | false ↦ are_held marked objects c before n count ]

abbrev HeldQuickly : Marking → List Object → ℕ → ℕ → ℕ → ℕ → Type 0
HeldQuickly marked objects c before n count = LastTaken objects c before n count ⊎ ((j : ℕ) → j < count → IsHeld marked objects c before n j)

Decides-held_quickly : (marked : Marking) (objects : List Object) (c before n count : ℕ) → Decides (are_held_quickly marked objects c before n count) (HeldQuickly marked objects c before n count)
Decides-held_quickly marked objects c before n count =
    Decides-else (last_taken objects c before n count) (are_held marked objects c before n count) (Decides-last_taken objects c before n count) (Decides-held marked objects c before n count)

abbrev NoGapQuickly : Marking → List Object → Type 0
NoGapQuickly marked objects = (o : Object) → In o objects → IsSmall o → HeldQuickly marked objects o.cycle o.id o.life o.index

abbrev NoGap : Marking → List Object → Type 0
NoGap marked objects = (o : Object) → In o objects → IsSmall o → (j : ℕ) → j < o.index → IsHeld marked objects o.cycle o.id o.life j

taken-holds : (marked : Marking) (c before n k : ℕ) (d : Object) → Takes c before n k d → Holds marked c before n k d
taken-holds marked c before n k d h = record { placed = h.small.0; life = h.life; index = h.index; when = inr (h.cycle, h.early) }

-- what an earlier object saw is seen later in the cycle
seen-later : (marked : Marking) (objects : List Object) (c before later n k : ℕ) → before ≤ later → IsHeld marked objects c before n k → IsHeld marked objects c later n k
seen-later marked objects c before later n k le held =
    let h = held.2 in
    (held.0, held.1, record { placed = h.placed; life = h.life; index = h.index; when = elim h.when [ inl mark ↦ inl mark | inr early ↦ inr (early.0, omega (arith, early.1)) ] })

-- where an object takes the last index and its own lower indices are held, all are held
all-held : (marked : Marking) (objects : List Object) (c before n count : ℕ)
    → ((d : Object) → In d objects → IsSmall d → d.index < count → (j : ℕ) → j < d.index → IsHeld marked objects d.cycle d.id d.life j)
    → LastTaken objects c before n count → (j : ℕ) → j < count → IsHeld marked objects c before n j
all-held marked objects c before n zero lower last j lt = absurd (omega arith)
all-held marked objects c before n (suc k) lower last j lt =
    let d = last.0 in
    let h = last.2 in
    elim (cases_eq j k) [
      | inl same ↦ rw same (d, last.1, taken-holds marked c before n k d h)
      | inr other ↦ (
          let e1 = h.index in
          let e2 = h.cycle in
          let e3 = h.life in
          let e4 = h.early in
          let under = lower d last.1 h.small (omega arith) j (omega arith) in
          let here : IsHeld marked objects c d.id n j = rw (e2, e3) at under in
          seen-later marked objects c d.id before n j (omega arith) here)
    ]

-- by the size of the index
no-gap-below : (marked : Marking) (objects : List Object) → NoGapQuickly marked objects → (n : ℕ) (o : Object) → In o objects → IsSmall o → o.index < n → (j : ℕ) → j < o.index → IsHeld marked objects o.cycle o.id o.life j
no-gap-below marked objects quick zero o i small le j lt = absurd (omega arith)
no-gap-below marked objects quick (suc n) o i small le j lt = elim (quick o i small) [
  | inl last ↦ all-held marked objects o.cycle o.id o.life o.index (λ d di ds dl. no-gap-below marked objects quick n d di ds (omega arith)) last j lt
  | inr held ↦ held j lt
]

abbrev pub no_gap : Marking → List Object → Bool
no_gap marked objects = all_in (λ o. elim (is_small o) [ true ↦ are_held_quickly marked objects o.cycle o.id o.life o.index | false ↦ true ]) objects

Decides-no_gap : (marked : Marking) (objects : List Object) → Decides (no_gap marked objects) (NoGap marked objects)
Decides-no_gap marked objects =
    Decides-like (no_gap marked objects)
    (λ (quick : NoGapQuickly marked objects). λ o i small j lt. no-gap-below marked objects quick (suc o.index) o i small (omega arith) j lt)
    (λ h. λ o i small. inr (h o i small))
    (Decides-all (λ o. elim (is_small o) [ true ↦ are_held_quickly marked objects o.cycle o.id o.life o.index | false ↦ true ]) (λ o. IsSmall o → HeldQuickly marked objects o.cycle o.id o.life o.index) objects (λ o i.
    Decides-implies (is_small o) (are_held_quickly marked objects o.cycle o.id o.life o.index) (Decides-small o) (Decides-held_quickly marked objects o.cycle o.id o.life o.index)))

-- ---- a life is full before the next

abbrev pub goes_on : Object → Object → Bool
goes_on a b = elim (eqb a.life b.life) [ true ↦ false | false ↦ elim (ltb a.id b.id) [ true ↦ elim (eqb a.cycle b.cycle) [ true ↦ elim (eqb a.proc b.proc) [ true ↦ eqb a.need.class b.need.class | false ↦ false ] | false ↦ false ] | false ↦ false ] ]

pub record GoesOn (a b : Object) : Type 0 where
  pub life : a.life ≢ b.life
  pub early : a.id < b.id
  pub cycle : a.cycle ≡ b.cycle
  pub proc : a.proc ≡ b.proc
  pub class : a.need.class ≡ b.need.class

Decides-unless : {P Q : Type 0} (a b : Bool) → Decides a P → Decides b Q → Decides (elim a [ true ↦ false | false ↦ b ]) ((¬ P) × Q)
Decides-unless true b da db = (λ h. let none : ⊥ = cc in absurd none, λ h. absurd (h.0 (da.0 refl)))
Decides-unless false b da db = (λ h. ((λ p. let e = da.1 p in cc), db.0 h), λ h. db.1 h.1)

Decides-goes_on : (a b : Object) → Decides (goes_on a b) (GoesOn a b)
Decides-goes_on a b =
    Decides-like (goes_on a b)
    (λ (h : (a.life ≢ b.life) × ((a.id < b.id) × ((a.cycle ≡ b.cycle) × ((a.proc ≡ b.proc) × (a.need.class ≡ b.need.class))))). record { life = h.0; early = h.1.0; cycle = h.1.1.0; proc = h.1.1.1.0; class = h.1.1.1.1 })
    (λ h. (h.life, (h.early, (h.cycle, (h.proc, h.class)))))
    (Decides-unless (eqb a.life b.life) (elim (ltb a.id b.id) [ true ↦ elim (eqb a.cycle b.cycle) [ true ↦ elim (eqb a.proc b.proc) [ true ↦ eqb a.need.class b.need.class | false ↦ false ] | false ↦ false ] | false ↦ false ]) (Decides-eqb a.life b.life)
    (Decides-then (ltb a.id b.id) (elim (eqb a.cycle b.cycle) [ true ↦ elim (eqb a.proc b.proc) [ true ↦ eqb a.need.class b.need.class | false ↦ false ] | false ↦ false ]) (Decides-ltb a.id b.id)
    (Decides-then (eqb a.cycle b.cycle) (elim (eqb a.proc b.proc) [ true ↦ eqb a.need.class b.need.class | false ↦ false ]) (Decides-eqb a.cycle b.cycle)
    (Decides-then (eqb a.proc b.proc) (eqb a.need.class b.need.class) (Decides-eqb a.proc b.proc) (Decides-eqb a.need.class b.need.class)))))

abbrev pub left_full : Marking → List Object → Object → Object → Bool
left_full marked objects a b = elim (is_small b) [ true ↦ elim (goes_on a b) [ true ↦ are_held_quickly marked objects a.cycle b.id a.life a.need.count | false ↦ true ] | false ↦ true ]

abbrev LeftFull : Marking → List Object → Object → Object → Type 0
LeftFull marked objects a b = IsSmall b → GoesOn a b → HeldQuickly marked objects a.cycle b.id a.life a.need.count

abbrev pub full_first : Marking → List Object → Bool
full_first marked objects = all_in (λ a. elim (is_small a) [ true ↦ all_in (left_full marked objects a) objects | false ↦ true ]) objects

abbrev FullFirst : Marking → List Object → Type 0
FullFirst marked objects = (a : Object) → In a objects → IsSmall a → (b : Object) → In b objects → LeftFull marked objects a b

Decides-full_first : (marked : Marking) (objects : List Object) → Decides (full_first marked objects) (FullFirst marked objects)
Decides-full_first marked objects =
    Decides-all (λ a. elim (is_small a) [ true ↦ all_in (left_full marked objects a) objects | false ↦ true ]) (λ a. IsSmall a → (b : Object) → In b objects → LeftFull marked objects a b) objects (λ a i.
    Decides-implies (is_small a) (all_in (left_full marked objects a) objects) (Decides-small a) (Decides-all (left_full marked objects a) (LeftFull marked objects a) objects (λ b j.
    Decides-implies (is_small b) (elim (goes_on a b) [ true ↦ are_held_quickly marked objects a.cycle b.id a.life a.need.count | false ↦ true ]) (Decides-small b)
    (Decides-implies (goes_on a b) (are_held_quickly marked objects a.cycle b.id a.life a.need.count) (Decides-goes_on a b) (Decides-held_quickly marked objects a.cycle b.id a.life a.need.count)))))

-- ---- the rule

abbrev pub are_filled : Marking → List Object → Bool
are_filled marked objects = elim (one_processor objects) [ true ↦ elim (no_gap marked objects) [ true ↦ full_first marked objects | false ↦ false ] | false ↦ false ]

pub Decides-filled : (marked : Marking) (objects : List Object) → Decides (are_filled marked objects) (AreFilled marked objects)
Decides-filled marked objects =
    Decides-like (are_filled marked objects)
    (λ (h : ((a : Object) → In a objects → IsSmall a → (b : Object) → In b objects → OneProc a b) × (NoGap marked objects × FullFirst marked objects)). record {
      one_processor = λ a b ha hb sa sb cycle life. h.0 a ha sa b hb sb (life, cycle);
      no_gap = h.1.0;
      full_first = λ a b ha hb sa sb cycle proc class before life j lt.
          elim (h.1.1 a ha sa b hb sb (record { life = life; early = before; cycle = cycle; proc = proc; class = class })) [
            | inl last ↦ all-held marked objects a.cycle b.id a.life a.need.count (λ d di ds dl. h.1.0 d di ds) last j lt
            | inr held ↦ held j lt
          ];
    })
    (λ h. (
      λ a ha sa b hb sb place. h.one_processor a b ha hb sa sb place.1 place.0,
      (h.no_gap, λ a ha sa b hb sb on. inr (h.full_first a b ha hb sa sb on.cycle on.proc on.class on.early on.life)),
    ))
    (Decides-then (one_processor objects) (elim (no_gap marked objects) [ true ↦ full_first marked objects | false ↦ false ]) (Decides-one_processor objects)
    (Decides-then (no_gap marked objects) (full_first marked objects) (Decides-no_gap marked objects) (Decides-full_first marked objects)))
