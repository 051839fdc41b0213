-- The place of a code gives the code back.
use Rattle.std.proofs.Common.{◌≡◌, ℕ, ◌-◌, ◌/◌, ◌%◌, ◌^◌, eqb, Option, Some, None, sym, ◌∙◌, ap, inl, inr}
use Rattle.std.proofs.lemmas.Bool.{cases_eq, cond-true, cond-false, eq-eqb, ne_eqb}
use Rattle.std.proofs.lemmas.Nat.{div-add-mod'}
use Rattle.cycle_history.specs.declared.places.Place.{Place}
use Rattle.cycle_history.specs.Packed.{packed, unpacked}

-- the place of a code below the last
abbrev some : ℕ → Option Place
some code = Some (record { page = code / 1024; index = code % 1024 })

pub packed-of : (code : ℕ) → packed (unpacked code) ≡ code
packed-of code =
    elim (cases_eq code (2 ^ 32 - 1)) [
      | inl same ↦ ap packed (cond-true (eqb code (2 ^ 32 - 1)) None (some code) (eq-eqb code (2 ^ 32 - 1) same)) ∙ sym same
      | inr other ↦ ap packed (cond-false (eqb code (2 ^ 32 - 1)) None (some code) (ne_eqb code (2 ^ 32 - 1) other)) ∙ div-add-mod' code 1024
    ]
