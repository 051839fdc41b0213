use Rattle.std.proofs.Common.{◌≡◌, ◌*◌, ◌+◌, ◌-◌, min}
use Rattle.page_bitmap.specs.Counts.{count_run}
use Rattle.page_bitmap.specs.Words.{has_page}
use Rattle.page_bitmap.proofs.bitmap.Bitmap.count_run.Given as goal

abbrev pub invariant-loop-i : goal.invariant-loop-i
invariant-loop-i l = l.count ≡ count_run l.page (min (64 * l.i) (l.page + l.n) - l.page) (has_page l.self.words)
