use Rattle.std.proofs.Common.{arith}
use Rattle.page_bitmap.proofs.ScansLemmas.{measured-whole, measured-on}
use Rattle.page_bitmap.proofs.search.measure_word.Goals as goal

pub returns-then-low-eq64 : goal.returns-then-low-eq64
returns-then-low-eq64 c = λ map of known.
    rw c.max-longest.ensures (measured-whole map _ _ _ _ _ of known c.low_ones-low.ensures (omega arith) (omega arith))

pub returns-else-low-eq64 : goal.returns-else-low-eq64
returns-else-low-eq64 c = λ map of known.
    let clauses = rw c.max-longest.ensures at c.longest_run.ensures in
    measured-on map _ _ _ _ _ _ _ of known c.low_ones-low.ensures c.high_ones.ensures (omega arith)
    (omega (arith, c.low_ones-low.ensures.within)) clauses.least clauses.longest clauses.run
