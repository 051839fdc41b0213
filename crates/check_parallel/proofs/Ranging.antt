-- What pieces answer, by their numbers.
use Rattle.std.proofs.Common.{◌≡◌, ℕ, zero, suc, ◌+◌, List, [], ◌∷◌, length, Some, refl, ap, subst, arith}
use Rattle.std.specs.List.{AllZip, range_with_len, slice_get}

some-same : {X : Type 0} {x y : X} → Some x ≡ Some y → x ≡ y
some-same h = cc

-- the answers to the numbers from `first` on, one to each
pub ranged : {X : Type 0} (P : ℕ → X → Type 0) (first n : ℕ) (xs : List X) → AllZip P (range_with_len first n) xs → (length xs ≡ n) × ((k : ℕ) (x : X) → slice_get xs k ≡ Some x → P (first + k) x)
ranged P first zero [] all = (refl, λ k x at. cc)
ranged P first zero (y ∷ xs) all = absurd all
ranged P first (suc n) [] all = absurd all
ranged {X} P first (suc n) (y ∷ xs) all =
    let rest = ranged P (first + 1) n xs all.1 in
    (ap suc rest.0, each rest.1)
  where
    each : ((k : ℕ) (x : X) → slice_get xs k ≡ Some x → P (first + 1 + k) x) → (k : ℕ) (x : X) → slice_get (y ∷ xs) k ≡ Some x → P (first + k) x
    each more zero x at =
        let e : first ≡ first + 0 = omega arith in
        let s : y ≡ x = some-same at in
        subst (λ (z : X). P (first + 0) z) s (subst (λ (m : ℕ). P m y) e all.0)
    each more (suc k) x at = (let e : first + 1 + k ≡ first + suc k = omega arith in subst (λ (m : ℕ). P m x) e (more k x at))
