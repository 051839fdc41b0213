use Rattle.std.proofs.Common.{◌^◌, arith}
use Rattle.page_summary.specs.Places.{IsPlaced}
use Rattle.page_summary.specs.SumLaws.{sums-fit}
use Rattle.page_alloc.specs.Region.{free_in}
use Rattle.page_alloc.proofs.Sums.{top-inside, top-none, has-block}
use Rattle.page_alloc.proofs.levels.Levels.find.Goals as goal

pub returns-then-max-n-clause-none : goal.returns-then-max-n-clause-none
returns-then-max-n-clause-none c = top-none (free_in c.args.chunks.now) _ _ _ c.args.n _ c.requires.levels.top (omega arith) (omega arith)

pub descend-place-requires-clause-fit : goal.descend-place-requires-clause-fit
descend-place-requires-clause-fit c = sums-fit (free_in c.args.chunks.now) 262144 _ (rw c.as_slice.ensures.value c.requires.levels.sums_1)

pub descend-place-requires-2-clause-fit : goal.descend-place-requires-2-clause-fit
descend-place-requires-2-clause-fit c = sums-fit (free_in c.args.chunks.now) 32768 _ (rw c.as_slice-2.ensures.value c.requires.levels.sums_2)

pub descend-place-requires-2-clause-block : goal.descend-place-requires-2-clause-block
descend-place-requires-2-clause-block c =
    let place1 : IsPlaced (free_in c.args.chunks.now) (2 ^ 21) (2 ^ 18) c.args.n c.descend-place.result = c.descend-place.ensures.found (free_in c.args.chunks.now) (rw c.as_slice.ensures.value c.requires.levels.sums_1) (λ p lt. c.requires.taken p (omega arith)) (top-inside (free_in c.args.chunks.now) _ _ _ c.args.n c.requires.levels.top (omega arith)) in
    rw c.as_slice-2.ensures.value (has-block c.args.chunks.now 262144 c.args.n _ _ c.requires.some (λ k lt. let entries = c.requires.levels.cut.entries_2 in omega arith) place1)

pub find_below-requires-clause-placed : goal.find_below-requires-clause-placed
find_below-requires-clause-placed c =
    let place1 : IsPlaced (free_in c.args.chunks.now) (2 ^ 21) (2 ^ 18) c.args.n c.descend-place.result = c.descend-place.ensures.found (free_in c.args.chunks.now) (rw c.as_slice.ensures.value c.requires.levels.sums_1) (λ p lt. c.requires.taken p (omega arith)) (top-inside (free_in c.args.chunks.now) _ _ _ c.args.n c.requires.levels.top (omega arith)) in
    c.descend-place-2.ensures.found (free_in c.args.chunks.now) (rw c.as_slice-2.ensures.value c.requires.levels.sums_2) (λ p lt. c.requires.taken p (omega arith)) place1
