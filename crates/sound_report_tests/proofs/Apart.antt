-- A test of rule 5.
use Rattle.std.proofs.Common.{◌≡◌, ◌≢◌, ℕ, ◌+◌, ◌≤◌, ◌<◌, Bool, true, false, leb, eqb, List, refl, arith, Decides, ◌⊎◌, inl, inr}
use Rattle.std.proofs.lemmas.Bool.{cases_lt, cases_eq}
use Rattle.std.proofs.lemmas.Bool.Decides.{Decides-like, Decides-eqb}
use Rattle.page_alloc.specs.Lists.{In}
use Rattle.cycle_history.specs.declared.Answer.{Answer}
use Rattle.cycle_history.specs.declared.Answer.TheVariants.{Placed, Zero, Missed}
use Rattle.cycle_history.specs.Requests.{Marking}
use Rattle.cycle_history.specs.Objects.{Object, live, IsApart}
use Rattle.cycle_history.specs.Rules.{AreApart}
use Rattle.sound_report_tests.proofs.Tests.{Decides-else, Decides-when, all_in, all_below, Decides-all, Decides-below}
use Rattle.sound_report_tests.proofs.Journals.{Decides-leb}
use Rattle.sound_report_tests.proofs.Places.{IsBounded}

abbrev pub ends_before : ℕ → ℕ → ℕ → ℕ → Bool
ends_before x s y u = elim (leb (x + s) y) [ true ↦ true | false ↦ leb (y + u) x ]

abbrev pub is_clear_of : ℕ → ℕ → Answer → ℕ → Bool
is_clear_of x s (Placed y) u = ends_before x s y u
is_clear_of x s Zero u = true
is_clear_of x s (Missed line) u = true

abbrev pub are_clear : Answer → ℕ → Answer → ℕ → Bool
are_clear (Placed x) s b u = is_clear_of x s b u
are_clear Zero s b u = true
are_clear (Missed line) s b u = true

abbrev Clear : Answer → ℕ → Answer → ℕ → Type 0
Clear a s b u = (x y : ℕ) → a ≡ Placed x → b ≡ Placed y → (x + s ≤ y) ⊎ (y + u ≤ x)

abbrev Ends : ℕ → ℕ → ℕ → ℕ → Type 0
Ends x s y u = (x + s ≤ y) ⊎ (y + u ≤ x)

Decides-clear : (a : Answer) (s : ℕ) (b : Answer) (u : ℕ) → Decides (are_clear a s b u) (Clear a s b u)
Decides-clear Zero s b u = (λ h x y ea eb. let none : ⊥ = cc in absurd none, λ f. refl)
Decides-clear (Missed line) s b u = (λ h x y ea eb. let none : ⊥ = cc in absurd none, λ f. refl)
Decides-clear (Placed x) s Zero u = (λ h x' y ea eb. let none : ⊥ = cc in absurd none, λ f. refl)
Decides-clear (Placed x) s (Missed line) u = (λ h x' y ea eb. let none : ⊥ = cc in absurd none, λ f. refl)
Decides-clear (Placed x) s (Placed y) u =
    Decides-like (ends_before x s y u)
    (λ (h : Ends x s y u). λ x' y' ea eb. (let e1 : x ≡ x' = cc in let e2 : y ≡ y' = cc in elim h [ inl p ↦ inl (omega arith) | inr q ↦ inr (omega arith) ]))
    (λ f. f x y refl refl)
    (Decides-else (leb (x + s) y) (leb (y + u) x) (Decides-leb (x + s) y) (Decides-leb (y + u) x))

abbrev pub is_apart : Object → Object → Bool
is_apart a b = elim (eqb a.id b.id) [ true ↦ true | false ↦ are_clear a.answer a.need.slot b.answer b.need.slot ]

Decides-apart : (a b : Object) → Decides (is_apart a b) (a.id ≢ b.id → IsApart a b)
Decides-apart a b =
    Decides-like (is_apart a b)
    (λ (h : (a.id ≡ b.id) ⊎ IsApart a b). λ ne. elim h [ inl same ↦ absurd (ne same) | inr apart ↦ apart ])
    (λ f. elim (cases_eq a.id b.id) [ inl same ↦ inl same | inr ne ↦ inr (f ne) ])
    (Decides-else (eqb a.id b.id) (are_clear a.answer a.need.slot b.answer b.need.slot) (Decides-eqb a.id b.id) (Decides-clear a.answer a.need.slot b.answer b.need.slot))

abbrev pub are_apart_from : Marking → ℕ → List Object → Object → Bool
are_apart_from marked c objects a = all_in (λ b. elim (live marked c b) [ true ↦ is_apart a b | false ↦ true ]) objects

abbrev pub are_apart_in : Marking → List Object → ℕ → Bool
are_apart_in marked objects c = all_in (λ a. elim (live marked c a) [ true ↦ are_apart_from marked c objects a | false ↦ true ]) objects

abbrev pub are_apart : Marking → ℕ → List Object → Bool
are_apart marked bound objects = all_below (are_apart_in marked objects) bound

abbrev ApartFrom : Marking → ℕ → List Object → Object → Type 0
ApartFrom marked c objects a = (b : Object) → In b objects → live marked c b ≡ true → a.id ≢ b.id → IsApart a b

abbrev ApartIn : Marking → List Object → ℕ → Type 0
ApartIn marked objects c = (a : Object) → In a objects → live marked c a ≡ true → ApartFrom marked c objects a

Decides-apart_in : (marked : Marking) (objects : List Object) (c : ℕ) → Decides (are_apart_in marked objects c) (ApartIn marked objects c)
Decides-apart_in marked objects c =
    Decides-all (λ a. elim (live marked c a) [ true ↦ are_apart_from marked c objects a | false ↦ true ]) (λ a. live marked c a ≡ true → ApartFrom marked c objects a) objects (λ a i.
    Decides-when (live marked c a) (are_apart_from marked c objects a) (λ la.
    Decides-all (λ b. elim (live marked c b) [ true ↦ is_apart a b | false ↦ true ]) (λ b. live marked c b ≡ true → a.id ≢ b.id → IsApart a b) objects (λ b j.
    Decides-when (live marked c b) (is_apart a b) (λ lb. Decides-apart a b))))

pub Decides-are_apart : (marked : Marking) (bound : ℕ) (objects : List Object) → ((o : Object) → In o objects → IsBounded marked bound o) → Decides (are_apart marked bound objects) (AreApart marked objects)
Decides-are_apart marked bound objects bounded =
    Decides-like (are_apart marked bound objects)
    (λ (h : (c : ℕ) → c < bound → ApartIn marked objects c). λ c a b ha hb ne la lb. elim (cases_lt c bound) [
      | inl early ↦ h c early a ha la b hb lb ne
      | inr late ↦ (let dead = (bounded a ha).late c late in let none : ⊥ = cc in absurd none)
    ])
    (λ h. λ c lt a ha la b hb lb ne. h c a b ha hb ne la lb)
    (Decides-below (are_apart_in marked objects) (ApartIn marked objects) (Decides-apart_in marked objects) bound)
