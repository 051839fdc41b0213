use Rattle.std.proofs.Common.{◌^◌, arith}
use Rattle.page_summary.specs.Places.{IsPlaced}
use Rattle.page_summary.specs.SumLaws.{sums-fit}
use Rattle.page_alloc.specs.Region.{free_in}
use Rattle.page_alloc.proofs.Sums.{has-block, entry-chunk, if-first, first-in_region, none-in_region}
use Rattle.page_alloc.proofs.levels.Levels.find_below.Goals as goal

pub descend-place-requires-clause-fit : goal.descend-place-requires-clause-fit
descend-place-requires-clause-fit c = sums-fit (free_in c.args.chunks.now) 4096 _ (rw c.as_slice.ensures.value c.requires.levels.sums_3)

pub descend-place-requires-clause-block : goal.descend-place-requires-clause-block
descend-place-requires-clause-block c =
    rw c.as_slice.ensures.value (has-block c.args.chunks.now 32768 c.args.n _ _ c.requires.some (λ k lt. let entries = c.requires.levels.cut.entries_3 in omega arith) c.requires.placed)

pub descend-place-requires-2-clause-fit : goal.descend-place-requires-2-clause-fit
descend-place-requires-2-clause-fit c = sums-fit (free_in c.args.chunks.now) 512 _ (rw c.as_slice-2.ensures.value c.requires.levels.sums_4)

pub descend-place-requires-2-clause-block : goal.descend-place-requires-2-clause-block
descend-place-requires-2-clause-block c =
    let place3 : IsPlaced (free_in c.args.chunks.now) (2 ^ 21) (2 ^ 12) c.args.n c.descend-place.result = c.descend-place.ensures.found (free_in c.args.chunks.now) (rw c.as_slice.ensures.value c.requires.levels.sums_3) (λ p lt. c.requires.taken p (omega arith)) c.requires.placed in
    rw c.as_slice-2.ensures.value (has-block c.args.chunks.now 4096 c.args.n _ _ c.requires.some (λ k lt. let entries = c.requires.levels.cut.entries_4 in omega arith) place3)

pub first_run-requires-clause-chunk : goal.first_run-requires-clause-chunk
first_run-requires-clause-chunk c =
    let place3 : IsPlaced (free_in c.args.chunks.now) (2 ^ 21) (2 ^ 12) c.args.n c.descend-place.result = c.descend-place.ensures.found (free_in c.args.chunks.now) (rw c.as_slice.ensures.value c.requires.levels.sums_3) (λ p lt. c.requires.taken p (omega arith)) c.requires.placed in
    entry-chunk c.args.chunks.now c.in-Entry.index c.args.n c.requires.some (c.in-Entry.ensures.found (free_in c.args.chunks.now) (rw c.as_slice-2.ensures.value c.requires.levels.sums_4) (λ p lt. c.requires.taken p (omega arith)) place3)

pub first_run-requires-clause-inside : goal.first_run-requires-clause-inside
first_run-requires-clause-inside c =
    let place3 : IsPlaced (free_in c.args.chunks.now) (2 ^ 21) (2 ^ 12) c.args.n c.descend-place.result = c.descend-place.ensures.found (free_in c.args.chunks.now) (rw c.as_slice.ensures.value c.requires.levels.sums_3) (λ p lt. c.requires.taken p (omega arith)) c.requires.placed in
    c.in-Entry.ensures.found (free_in c.args.chunks.now) (rw c.as_slice-2.ensures.value c.requires.levels.sums_4) (λ p lt. c.requires.taken p (omega arith)) place3

pub returns-in-Page-clause-found : goal.returns-in-Page-clause-found
returns-in-Page-clause-found c =
    let place3 : IsPlaced (free_in c.args.chunks.now) (2 ^ 21) (2 ^ 12) c.args.n c.descend-place.result = c.descend-place.ensures.found (free_in c.args.chunks.now) (rw c.as_slice.ensures.value c.requires.levels.sums_3) (λ p lt. c.requires.taken p (omega arith)) c.requires.placed in
    first-in_region c.args.chunks.now c.in-Page.page c.args.n c.requires.few c.requires.some (c.in-Page.ensures.found (free_in c.args.chunks.now) (rw c.as_slice-2.ensures.value c.requires.levels.sums_4) (λ p lt. c.requires.taken p (omega arith)) place3)

pub returns-in-Entry-clause-found : goal.returns-in-Entry-clause-found
returns-in-Entry-clause-found c = if-first c.args.chunks.now c.args.n _ c.requires.few c.requires.some c.first_run.ensures.found

pub returns-in-Nowhere-clause-none : goal.returns-in-Nowhere-clause-none
returns-in-Nowhere-clause-none c =
    let place3 : IsPlaced (free_in c.args.chunks.now) (2 ^ 21) (2 ^ 12) c.args.n c.descend-place.result = c.descend-place.ensures.found (free_in c.args.chunks.now) (rw c.as_slice.ensures.value c.requires.levels.sums_3) (λ p lt. c.requires.taken p (omega arith)) c.requires.placed in
    none-in_region c.args.chunks.now c.args.n c.requires.few (c.in-Nowhere.ensures.found (free_in c.args.chunks.now) (rw c.as_slice-2.ensures.value c.requires.levels.sums_4) (λ p lt. c.requires.taken p (omega arith)) place3)
