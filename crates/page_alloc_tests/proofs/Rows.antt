-- Lists of sums.
use Rattle.std.proofs.Common.{◌≡◌, ℕ, List, [], ◌∷◌, ◌++◌, length, get_or, length-append, arith, inl, inr}
use Rattle.std.proofs.Math.ListN.{get_or-append}
use Rattle.std.proofs.Math.Seq.{get_or-append_seam}
use Rattle.std.proofs.lemmas.Bool.{cases_lt}
use Rattle.page_summary.specs.declared.sum.Sum.{Sum}
use Rattle.page_summary.specs.Runs.{Fits}
use Rattle.page_summary.specs.Sums.{start_of, max_of, end_of, AllFit}

-- a sum that fits is added to others that do
pub fit-push : (pages : ℕ) (sums : List Sum) (sum : Sum) → AllFit pages sums → Fits pages (start_of sum) (max_of sum) (end_of sum) → AllFit pages (sums ++ sum ∷ [])
fit-push pages sums sum all fits k none lt =
    let long = length-append sums (sum ∷ []) in
    elim (cases_lt k (length sums)) [
      | inl before ↦ (
          let at : get_or (sums ++ sum ∷ []) k none ≡ get_or sums k none = get_or-append sums (sum ∷ []) none k before in
          rw at (all k none before))
      | inr after ↦ (
          let here : k ≡ length sums = omega arith in
          let at : get_or (sums ++ sum ∷ []) (length sums) none ≡ sum = get_or-append_seam sums sum [] none in
          rw (here, at) fits)
    ]
