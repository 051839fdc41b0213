-- A new state of span ownership shows the first cycle.
use Rattle.std.proofs.Common.{◌≡◌, ℕ, zero, suc, false, List, [], ◌∷◌, map, refl, ◌∙◌, ap}
use Rattle.std.specs.Prelude.{slice_index}
use Rattle.std.specs.List.{range_with_len}
use Rattle.std.proofs.lemmas.List.{length-map}
use Rattle.std.proofs.lemmas.List.FromFn.{length-range_with_len}
use Rattle.sweep_laws.specs.Start.{new_state}
use Rattle.run_laws.specs.Shown.{is_waiting, waits_of}
use Rattle.run_laws.specs.ShowsCycle.{ShowsCycle, first_cycle}
use Rattle.run_laws.proofs.Steps.{fresh-underway}
use Rattle.run_laws.proofs.Whole.{underway-alike}

zero-word : (xs : List ℕ) (p : ℕ) → slice_index (map (λ _. 0) xs) p ≡ 0
zero-word [] p = refl
zero-word (x ∷ xs) zero = refl
zero-word (x ∷ xs) (suc p) = zero-word xs p

none-waits : (region workers p : ℕ) → waits_of (new_state region workers) p ≡ false
none-waits region workers p = ap (λ (w : ℕ). is_waiting 4 w) (zero-word (range_with_len 0 region) p)

pub new-shows : (region goal workers : ℕ) → ShowsCycle region goal (new_state region workers) first_cycle
new-shows region goal workers = record {
  under = underway-alike region goal first_cycle (λ p. false) (waits_of (new_state region workers)) first_cycle.bits
      (fresh-underway region goal first_cycle record { legal = tt; no_lines = refl; known = λ p. refl; no_entries = λ w. refl; as_before = λ n k. refl; marks_of_lives = λ p k on. (let none : ⊥ = cc in absurd none) })
      (λ p k. refl) (λ p. none-waits region workers p);
  bits = λ p k. refl;
  marks = λ p k is. refl;
  lives = record { begin = λ p. refl; same = λ life h. absurd h };
  room = λ w a j h lt off. absurd h;
  tell = record { old = λ w page on. (let none : ⊥ = cc in absurd none); took = λ w x h. absurd h };
  size = length-map (range_with_len 0 region) (λ _. 0) ∙ length-range_with_len 0 region;
  by = tt;
}
