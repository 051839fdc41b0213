use Rattle.std.proofs.Common.{◌≡◌, ◌^◌, length}
use Rattle.page_summary.specs.Sums.{AllFit}
use Rattle.page_alloc_tests.proofs.tests.merged.Given as goal

abbrev pub invariant-loop-triple : goal.invariant-loop-triple
invariant-loop-triple g l = record {
  pages_are : l.pages ≡ 2 ^ l.log_pages;
  long : length l.sums.items ≡ l.triple-index;
  fit : AllFit (2 ^ l.log_pages) l.sums.items;
}
