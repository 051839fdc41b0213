use Rattle.std.proofs.Common.{arith}
use Rattle.page_bitmap.proofs.ScansLemmas.{searched-run, searched-whole, searched-place, searched-on}
use Rattle.page_bitmap.proofs.search.scan_word.Goals as goal

pub returns-then-begin-n : goal.returns-then-begin-n
returns-then-begin-n c = λ map of known.
    searched-run map _ _ _ _ _ of known c.low_ones-low.ensures (omega arith) (omega arith)

pub returns-then-low-eq64 : goal.returns-then-low-eq64
returns-then-low-eq64 c = λ map of known.
    searched-whole map _ _ _ _ _ of known c.low_ones-low.ensures (omega arith) (omega arith)

pub returns-in-Some : goal.returns-in-Some
returns-in-Some c = λ map of known.
    searched-place map _ _ _ _ _ _ of known c.low_ones-low.ensures (omega arith) (omega arith)
    (omega (arith, c.low_ones-low.ensures.within)) c.in-Some.ensures.found

pub returns-in-None : goal.returns-in-None
returns-in-None c = λ map of known.
    searched-on map _ _ _ _ _ _ of known c.low_ones-low.ensures c.high_ones.ensures (omega arith) (omega arith)
    (omega (arith, c.low_ones-low.ensures.within)) c.in-None.ensures.none
