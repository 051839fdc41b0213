-- A cell is put into a list of cells.
use Rattle.std.proofs.Common.{◌≡◌, ℕ, zero, suc, ◌-◌, ◌<◌, ◌≤◌, List, [], ◌∷◌, ◌++◌, length, set, replicate, refl, ap, ◌∙◌, arith}
use Rattle.sweep_laws.specs.Lists.{put_cell}

pub put-within : (xs : List ℕ) (i x : ℕ) → i < length xs → put_cell xs i x ≡ set xs i x
put-within [] i x low = absurd (omega arith)
put-within (y ∷ ys) zero x low = refl
put-within (y ∷ ys) (suc i) x low = ap (λ zs. y ∷ zs) (put-within ys i x (omega arith))

put-none : (i x : ℕ) → put_cell [] i x ≡ replicate i 0 ++ x ∷ []
put-none zero x = refl
put-none (suc i) x = ap (λ zs. 0 ∷ zs) (put-none i x)

pub put-beyond : (xs : List ℕ) (i x : ℕ) → length xs ≤ i → put_cell xs i x ≡ (xs ++ replicate (i - length xs) 0) ++ x ∷ []
put-beyond [] i x high = put-none i x ∙ ap (λ n. replicate n 0 ++ x ∷ []) (omega arith)
put-beyond (y ∷ ys) zero x high = absurd (omega arith)
put-beyond (y ∷ ys) (suc i) x high = ap (λ zs. y ∷ zs) (put-beyond ys i x (omega arith) ∙ ap (λ n. (ys ++ replicate n 0) ++ x ∷ []) (omega arith))
