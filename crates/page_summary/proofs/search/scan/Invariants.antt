use Rattle.std.proofs.Common.{◌≡◌, ℕ, ◌+◌, ◌*◌, ◌<◌, ◌≤◌, Bool, false}
use Rattle.page_summary.specs.Sums.{AreSums}
use Rattle.page_summary.proofs.Walks.{Walked}
use Rattle.page_summary.proofs.search.scan.Given as goal

abbrev pub invariant-loop-index : goal.invariant-loop-index
invariant-loop-index l = record {
  back_low : l.back ≤ l.pages * l.index;
  counted : l.initial.steps ≤ l.steps;
  counted_most : l.steps + l.skip ≤ l.initial.steps + l.index;
  walked : (map : ℕ → Bool) → AreSums map l.pages l.block → ((p : ℕ) → p < l.pages * l.skip → map p ≡ false) → Walked map l.n (l.pages * l.index) l.back;
}
