-- Used cells take a block for each 512 of them, and at most one more in each set.
use Rattle.std.proofs.Common.{◌≡◌, ℕ, ◌+◌, ◌*◌, ◌≤◌, List, [], ◌∷◌, length, sum, arith}
use Rattle.std.proofs.lemmas.List.Sums.{sum_by-cons}
use Rattle.set_blocks.specs.Blocks.{blocks_below, blocks_for}

one_set : (tail : ℕ) → 512 * blocks_below tail ≤ tail + 511
one_set tail = omega arith

pub all_sets : (tails : List ℕ) → 512 * blocks_for tails ≤ sum tails + 511 * length tails
all_sets [] = omega arith
all_sets (tail ∷ tails) =
    let blocks : blocks_for (tail ∷ tails) ≡ blocks_below tail + blocks_for tails = sum_by-cons blocks_below tail tails in
    let cells : sum (tail ∷ tails) ≡ tail + sum tails = sum_by-cons (λ (x : ℕ). x) tail tails in
    omega (arith, one_set tail, all_sets tails)
