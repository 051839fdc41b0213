-- Sums over the views of all seats, and where the words stand.
use Rattle.std.proofs.Common.{◌≡◌, ◌≢◌, ℕ, zero, suc, ◌+◌, ◌<◌, ◌≤◌, true, false, List, [], ◌∷◌, ◌++◌, set, refl, sym, ap, arith}
use mathlib.Core.Option.{some, some-injective, some-ne-none}
use lib.ListN.{get_elem?}
use Rattle.profile_cycle.specs.declared.sight.Sight.{Sight}
use Rattle.profile_cycle.specs.declared.words.Kind.TheVariants.{Allocs, Frees}
use Rattle.profile_cycle.specs.declared.words.Word.{Word}
use Rattle.profile_cycle.specs.declared.words.Word.TheVariants.{Published, Waiting}
use Rattle.profile_cycle.specs.Rule.{total}
use Rattle.profile_cycle.specs.Words.{IsWord, place, word_count}

module _ (f : Sight → ℕ) where
  pub total-set : (vs : List Sight) (i : ℕ) (v w : Sight) → get_elem? vs i ≡ some v → total f (set vs i w) + f v ≡ total f vs + f w
  total-set [] i v w e = absurd (some-ne-none v (sym e))
  total-set (x ∷ xs) zero v w e = let same : f x ≡ f v = ap f (some-injective x v e) in omega arith
  total-set (x ∷ xs) (suc i) v w e = let rest = total-set xs i v w e in omega arith

  pub total-snoc : (vs : List Sight) (w : Sight) → total f (vs ++ w ∷ []) ≡ total f vs + f w
  total-snoc [] w = omega arith
  total-snoc (x ∷ xs) w = let rest = total-snoc xs w in omega arith

  pub total-part : (vs : List Sight) (i : ℕ) (v : Sight) → get_elem? vs i ≡ some v → f v ≤ total f vs
  total-part [] i v e = absurd (some-ne-none v (sym e))
  total-part (x ∷ xs) zero v e = let same : f x ≡ f v = ap f (some-injective x v e) in omega arith
  total-part (x ∷ xs) (suc i) v e = let rest = total-part xs i v e in omega arith

  total-none : (vs : List Sight) → ((j : ℕ) (u : Sight) → get_elem? vs j ≡ some u → f u ≡ 0) → total f vs ≡ 0
  total-none [] none = refl
  total-none (x ∷ xs) none = let here = none 0 x refl in let rest = total-none xs (λ j u e. none (suc j) u e) in omega arith

  -- where all others have nothing, the sum is one's own
  pub total-own : (vs : List Sight) (i : ℕ) (v : Sight) → get_elem? vs i ≡ some v → ((j : ℕ) (u : Sight) → get_elem? vs j ≡ some u → j ≢ i → f u ≡ 0) → total f vs ≡ f v
  total-own [] i v e none = absurd (some-ne-none v (sym e))
  total-own (x ∷ xs) zero v e none =
      let same : f x ≡ f v = ap f (some-injective x v e) in
      let rest = total-none xs (λ j u at. none (suc j) u at (λ z. omega arith)) in
      omega arith
  total-own (x ∷ xs) (suc i) v e none =
      let here = none 0 x refl (λ z. omega arith) in
      let rest = total-own xs i v e (λ j u at other. none (suc j) u at (λ z. other (omega arith))) in
      omega arith

-- ---- places

pub place-low : (n : ℕ) (w : Word) → IsWord n w → place w < word_count n
place-low n (Published Allocs b) low = omega arith
place-low n (Published Frees b) low = omega arith
place-low n (Waiting Allocs true b) low = omega arith
place-low n (Waiting Allocs false b) low = omega arith
place-low n (Waiting Frees true b) low = omega arith
place-low n (Waiting Frees false b) low = omega arith

pub place-some : (w : Word) → place w ≢ 0
place-some (Published k b) e = omega arith
place-some (Waiting k odd b) e = omega arith

-- a word at a place is of a bucket below n where the place is of the table
pub place-of : (n : ℕ) (w : Word) → place w < word_count n → IsWord n w
place-of n (Published Allocs b) low = omega arith
place-of n (Published Frees b) low = omega arith
place-of n (Waiting Allocs true b) low = omega arith
place-of n (Waiting Allocs false b) low = omega arith
place-of n (Waiting Frees true b) low = omega arith
place-of n (Waiting Frees false b) low = omega arith

-- different words have different places
pub place-once : (w x : Word) → place w ≡ place x → w ≡ x
place-once (Published Allocs b) (Published Allocs c) e = ap (λ (b : ℕ). Published Allocs b) (omega arith)
place-once (Published Allocs b) (Published Frees c) e = absurd (omega arith)
place-once (Published Allocs b) (Waiting Allocs true c) e = absurd (omega arith)
place-once (Published Allocs b) (Waiting Allocs false c) e = absurd (omega arith)
place-once (Published Allocs b) (Waiting Frees true c) e = absurd (omega arith)
place-once (Published Allocs b) (Waiting Frees false c) e = absurd (omega arith)
place-once (Published Frees b) (Published Allocs c) e = absurd (omega arith)
place-once (Published Frees b) (Published Frees c) e = ap (λ (b : ℕ). Published Frees b) (omega arith)
place-once (Published Frees b) (Waiting Allocs true c) e = absurd (omega arith)
place-once (Published Frees b) (Waiting Allocs false c) e = absurd (omega arith)
place-once (Published Frees b) (Waiting Frees true c) e = absurd (omega arith)
place-once (Published Frees b) (Waiting Frees false c) e = absurd (omega arith)
place-once (Waiting Allocs true b) (Published Allocs c) e = absurd (omega arith)
place-once (Waiting Allocs true b) (Published Frees c) e = absurd (omega arith)
place-once (Waiting Allocs true b) (Waiting Allocs true c) e = ap (λ (b : ℕ). Waiting Allocs true b) (omega arith)
place-once (Waiting Allocs true b) (Waiting Allocs false c) e = absurd (omega arith)
place-once (Waiting Allocs true b) (Waiting Frees true c) e = absurd (omega arith)
place-once (Waiting Allocs true b) (Waiting Frees false c) e = absurd (omega arith)
place-once (Waiting Allocs false b) (Published Allocs c) e = absurd (omega arith)
place-once (Waiting Allocs false b) (Published Frees c) e = absurd (omega arith)
place-once (Waiting Allocs false b) (Waiting Allocs true c) e = absurd (omega arith)
place-once (Waiting Allocs false b) (Waiting Allocs false c) e = ap (λ (b : ℕ). Waiting Allocs false b) (omega arith)
place-once (Waiting Allocs false b) (Waiting Frees true c) e = absurd (omega arith)
place-once (Waiting Allocs false b) (Waiting Frees false c) e = absurd (omega arith)
place-once (Waiting Frees true b) (Published Allocs c) e = absurd (omega arith)
place-once (Waiting Frees true b) (Published Frees c) e = absurd (omega arith)
place-once (Waiting Frees true b) (Waiting Allocs true c) e = absurd (omega arith)
place-once (Waiting Frees true b) (Waiting Allocs false c) e = absurd (omega arith)
place-once (Waiting Frees true b) (Waiting Frees true c) e = ap (λ (b : ℕ). Waiting Frees true b) (omega arith)
place-once (Waiting Frees true b) (Waiting Frees false c) e = absurd (omega arith)
place-once (Waiting Frees false b) (Published Allocs c) e = absurd (omega arith)
place-once (Waiting Frees false b) (Published Frees c) e = absurd (omega arith)
place-once (Waiting Frees false b) (Waiting Allocs true c) e = absurd (omega arith)
place-once (Waiting Frees false b) (Waiting Allocs false c) e = absurd (omega arith)
place-once (Waiting Frees false b) (Waiting Frees true c) e = absurd (omega arith)
place-once (Waiting Frees false b) (Waiting Frees false c) e = ap (λ (b : ℕ). Waiting Frees false b) (omega arith)
