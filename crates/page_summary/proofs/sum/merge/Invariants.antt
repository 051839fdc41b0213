use Rattle.std.proofs.Common.{◌≡◌, ℕ, ◌*◌, ◌^◌, Bool}
use Rattle.page_summary.specs.Runs.{Fits, IsSumOf}
use Rattle.page_summary.specs.Sums.{AreSums}
use Rattle.page_summary.proofs.sum.merge.Given as goal

abbrev pub invariant-loop-sum : goal.invariant-loop-sum
invariant-loop-sum l = record {
  pages_is : l.pages ≡ 2 ^ l.log_pages;
  done_is : l.done ≡ 2 ^ l.log_pages * l.sum-index;
  fits : Fits l.done l.whole.start l.whole.max l.whole.end;
  joined : (map : ℕ → Bool) → AreSums map (2 ^ l.log_pages) l.sums → IsSumOf map l.done l.whole.start l.whole.max l.whole.end;
}
