use Rattle.std.proofs.Common.{◌*◌}
use Rattle.page_bitmap.specs.Words.{has_page}
use Rattle.page_bitmap.proofs.Maps.{SetsUpTo}
use Rattle.page_bitmap.proofs.bitmap.Bitmap.set_run.Given as goal

abbrev pub invariant-loop-i : goal.invariant-loop-i
invariant-loop-i l = SetsUpTo (has_page l.fn.self.words) (has_page l.self.words) l.page l.n l.value (64 * l.i)
