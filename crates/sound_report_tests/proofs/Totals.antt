-- A test of rule 8.
use Rattle.std.proofs.Common.{◌≡◌, ℕ, ◌/◌, ◌≤◌, Bool, true, false, not, ◌&&◌, eqb, leb, ltb, List, Decides}
use Rattle.std.proofs.lemmas.Bool.Decides.{Decides-like, Decides-eqb, Decides-ltb}
use Rattle.page_alloc.specs.Lists.{In, count}
use Rattle.cycle_history.specs.declared.Total.{Total}
use Rattle.cycle_history.specs.Requests.{Marking}
use Rattle.cycle_history.specs.Objects.{Object, is_placed, live}
use Rattle.cycle_history.specs.Orders.{IsTotalBefore, AreRisingTotals}
use Rattle.cycle_history.specs.Sweeps.{is_placed_of, IsTotal, AreTotals}
use Rattle.sound_report_tests.proofs.Tests.{Decides-then, Decides-when, all_in, any_in, all_apart, Decides-all, Decides-any, Decides-apart}
use Rattle.sound_report_tests.proofs.Journals.{Decides-leb}

abbrev pub mallocs_of : List Object → ℕ → ℕ
mallocs_of objects class = count (is_placed_of class) objects

abbrev pub frees_of : Marking → ℕ → List Object → ℕ → ℕ
frees_of marked last objects class = count (λ o. is_placed_of class o && not (live marked last o)) objects

abbrev pub is_total : Marking → ℕ → List Object → Total → Bool
is_total marked last objects total = elim (leb 1 total.mallocs) [ true ↦ elim (eqb total.mallocs (mallocs_of objects total.class)) [ true ↦ eqb total.frees (frees_of marked last objects total.class) | false ↦ false ] | false ↦ false ]

Decides-total : (marked : Marking) (last : ℕ) (objects : List Object) (total : Total) → Decides (is_total marked last objects total) (IsTotal marked last objects total)
Decides-total marked last objects total =
    Decides-like (is_total marked last objects total)
    (λ (h : (1 ≤ total.mallocs) × ((total.mallocs ≡ mallocs_of objects total.class) × (total.frees ≡ frees_of marked last objects total.class))). record { some = h.0; mallocs = h.1.0; frees = h.1.1 })
    (λ h. (h.some, (h.mallocs, h.frees)))
    (Decides-then (leb 1 total.mallocs) (elim (eqb total.mallocs (mallocs_of objects total.class)) [ true ↦ eqb total.frees (frees_of marked last objects total.class) | false ↦ false ]) (Decides-leb 1 total.mallocs)
    (Decides-then (eqb total.mallocs (mallocs_of objects total.class)) (eqb total.frees (frees_of marked last objects total.class)) (Decides-eqb total.mallocs (mallocs_of objects total.class)) (Decides-eqb total.frees (frees_of marked last objects total.class))))

abbrev pub has_total : List Total → Object → Bool
has_total totals o = elim (is_placed o.answer) [ true ↦ any_in (λ (total : Total). eqb total.class (o.need.class / 2)) totals | false ↦ true ]

abbrev HasTotal : List Total → Object → Type 0
HasTotal totals o = is_placed o.answer ≡ true → (total : Total) × In total totals × (total.class ≡ o.need.class / 2)

Decides-has_total : (totals : List Total) (o : Object) → Decides (has_total totals o) (HasTotal totals o)
Decides-has_total totals o =
    Decides-when (is_placed o.answer) (any_in (λ (total : Total). eqb total.class (o.need.class / 2)) totals) (λ placed.
    Decides-any (λ (total : Total). eqb total.class (o.need.class / 2)) (λ (total : Total). total.class ≡ o.need.class / 2) totals (λ total i. Decides-eqb total.class (o.need.class / 2)))

abbrev pub are_totals : Marking → ℕ → List Object → List Total → Bool
are_totals marked last objects totals = elim (all_apart (λ (a b : Total). ltb a.class b.class) totals) [ true ↦ elim (all_in (is_total marked last objects) totals) [ true ↦ all_in (has_total totals) objects | false ↦ false ] | false ↦ false ]

pub Decides-totals : (marked : Marking) (last : ℕ) (objects : List Object) (totals : List Total) → Decides (are_totals marked last objects totals) (AreTotals marked last objects totals)
Decides-totals marked last objects totals =
    Decides-like (are_totals marked last objects totals)
    (λ (h : AreRisingTotals totals × (((total : Total) → In total totals → IsTotal marked last objects total) × ((o : Object) → In o objects → HasTotal totals o))). record { order = h.0; right = h.1.0; each = h.1.1 })
    (λ h. (h.order, (h.right, h.each)))
    (Decides-then (all_apart (λ (a b : Total). ltb a.class b.class) totals) (elim (all_in (is_total marked last objects) totals) [ true ↦ all_in (has_total totals) objects | false ↦ false ])
    (Decides-apart (λ (a b : Total). ltb a.class b.class) IsTotalBefore (λ a b. Decides-ltb a.class b.class) totals)
    (Decides-then (all_in (is_total marked last objects) totals) (all_in (has_total totals) objects)
    (Decides-all (is_total marked last objects) (IsTotal marked last objects) totals (λ total i. Decides-total marked last objects total))
    (Decides-all (has_total totals) (HasTotal totals) objects (λ o i. Decides-has_total totals o))))
