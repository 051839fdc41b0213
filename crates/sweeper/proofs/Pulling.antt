-- Pulls of blocks: steps that pull none, and pulls that come behind cuts.
use Rattle.std.proofs.Common.{◌≡◌, ℕ, ◌≤◌, List, [], ◌∷◌, ◌++◌, arith}
use Rattle.worker_log.specs.declared.Entry.{Entry}
use Rattle.worker_log.specs.declared.Entry.TheVariants.{Looked, LookedEmptyCell, Popped, Pushed, Swept, Took, Missed, Gave, Allocated, Found, Read, Added, Pulled, NoPage, Cut as CutEntry, NoCut, Settled}
use Rattle.worker_log.specs.Entries.{many}
use Rattle.worker_log.proofs.Logs.{many-append}
use Rattle.span_set.specs.Blocks.{is_of_block}
use Rattle.sweeper.specs.Entries.{is_bare_cut, is_pulling}
use Rattle.sweeper.specs.Work.{KeepsBlock, PullsBehind}

-- a pull is something that is done to the block
pulls-few : (xs : List Entry) → many is_pulling xs ≤ many is_of_block xs
pulls-few [] = omega arith
pulls-few (Looked s h t ∷ xs) = let r = pulls-few xs in omega arith
pulls-few (LookedEmptyCell s i ∷ xs) = let r = pulls-few xs in omega arith
pulls-few (Popped s p ∷ xs) = let r = pulls-few xs in omega arith
pulls-few (Pushed s p ∷ xs) = let r = pulls-few xs in omega arith
pulls-few (Swept s ∷ xs) = let r = pulls-few xs in omega arith
pulls-few (Took m line ∷ xs) = let r = pulls-few xs in omega arith
pulls-few (Missed m line ∷ xs) = let r = pulls-few xs in omega arith
pulls-few (Gave p m ∷ xs) = let r = pulls-few xs in omega arith
pulls-few (Allocated a ∷ xs) = let r = pulls-few xs in omega arith
pulls-few (Found p w ∷ xs) = let r = pulls-few xs in omega arith
pulls-few (Read w v ∷ xs) = let r = pulls-few xs in omega arith
pulls-few (Added w v ∷ xs) = let r = pulls-few xs in omega arith
pulls-few (Pulled number line ∷ xs) = let r = pulls-few xs in omega arith
pulls-few (NoPage ∷ xs) = let r = pulls-few xs in omega arith
pulls-few (CutEntry page pages class ∷ xs) = let r = pulls-few xs in omega arith
pulls-few (NoCut pages left ∷ xs) = let r = pulls-few xs in omega arith
pulls-few (Settled number ∷ xs) = let r = pulls-few xs in omega arith

-- so none is pulled where nothing is done to the block
pub pulls-none : (xs : List Entry) → KeepsBlock xs → many is_pulling xs ≡ 0
pulls-none xs k = let few = pulls-few xs in omega arith

pub behind-none : (n : ℕ) (xs : List Entry) → many is_pulling xs ≡ 0 → PullsBehind n xs
behind-none n [] h = tt
behind-none n (x ∷ xs) h = (omega arith, behind-none n xs (omega arith))

behind-all : (n : ℕ) (xs : List Entry) → PullsBehind n xs → many is_pulling xs ≤ many (is_bare_cut n) xs
behind-all n [] h = omega arith
behind-all n (x ∷ xs) h = h.0

pub behind-both : (n : ℕ) (xs ys : List Entry) → PullsBehind n xs → PullsBehind n ys → PullsBehind n (xs ++ ys)
behind-both n [] ys a b = b
behind-both n (x ∷ xs) ys a b =
    let pulls = many-append is_pulling (x ∷ xs) ys in let cuts = many-append (is_bare_cut n) (x ∷ xs) ys in
    let new = a.0 in let old = behind-all n ys b in (omega arith, behind-both n xs ys a.1 b)
