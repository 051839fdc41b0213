use Rattle.std.proofs.Common.{◌*◌}
use Rattle.page_bitmap.specs.Words.{has_page}
use Rattle.page_bitmap.specs.Scans.{from_on, IsSearched}
use Rattle.page_bitmap.proofs.bitmap.Bitmap.first_run.Given as goal

abbrev pub invariant-loop-i : goal.invariant-loop-i
invariant-loop-i l = IsSearched (from_on (has_page l.self.words) l.from) l.n (64 * l.i) l.begin
