use Rattle.std.proofs.Common.{◌*◌}
use Rattle.page_bitmap.specs.Words.{has_page}
use Rattle.page_bitmap.specs.Scans.{IsMeasured}
use Rattle.page_bitmap.proofs.bitmap.Bitmap.longest_run.Given as goal

abbrev pub invariant-loop-i : goal.invariant-loop-i
invariant-loop-i l = IsMeasured (has_page l.self.words) (64 * l.i) l.begin l.longest
