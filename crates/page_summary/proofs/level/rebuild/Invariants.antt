use Rattle.std.proofs.Common.{ℕ, ◌+◌, ◌*◌, ◌^◌, Bool}
use Rattle.page_summary.specs.Sums.{AreSums, AreSumsBut}
use Rattle.page_summary.proofs.level.rebuild.Given as goal

abbrev pub invariant-loop-index : goal.invariant-loop-index
invariant-loop-index l = (map : ℕ → Bool) → AreSums map (2 ^ l.log_pages) l.below →
    AreSumsBut map (8 * 2 ^ l.log_pages) l.initial.level l.first (l.last + 1) → AreSumsBut map (8 * 2 ^ l.log_pages) l.level l.index (l.last + 1)
