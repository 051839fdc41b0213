-- The numbers of sets.
use Rattle.std.proofs.Common.{◌≡◌, ℕ, ◌/◌, ◌%◌, ◌<◌, ◌≤◌, Bool, eq-eqb, ne_eqb, true, false, arith}
use Rattle.page_bitmap.specs.Counts.{one_if}
use Rattle.sweep_laws.specs.Reading.{class_of_set, is_swept_set}
use Rattle.worker_log.specs.SetNumbers.{is_full_set, swept_set, unswept_set}

pub few : (b : Bool) → one_if b ≤ 1
few true = omega arith
few false = omega arith

module _ (g k f : ℕ) (small : f ≤ 1) where
  pub swept_low : k < 136 → swept_set g k f < 544
  swept_low l = omega arith

  pub unswept_low : k < 136 → unswept_set g k f < 544
  unswept_low l = omega arith

  pub swept_is : is_swept_set g (swept_set g k f) ≡ true
  swept_is = eq-eqb (swept_set g k f % 2) ((g / 2) % 2) (omega arith)

  pub unswept_is : is_swept_set g (unswept_set g k f) ≡ false
  unswept_is = ne_eqb (unswept_set g k f % 2) ((g / 2) % 2) (λ e. omega arith)

  pub class_is : class_of_set (swept_set g k f) ≡ k
  class_is = omega arith

pub full_is : (g k : ℕ) → is_full_set (swept_set g k 1) ≡ true
full_is g k = eq-eqb ((swept_set g k 1 / 2) % 2) 1 (omega arith)

pub partial_is : (g k : ℕ) → is_full_set (swept_set g k 0) ≡ false
partial_is g k = ne_eqb ((swept_set g k 0 / 2) % 2) 1 (λ e. omega arith)
