use Rattle.std.proofs.Common.{ℕ, ◌*◌, ◌<◌, ◌≡◌, true}
use Rattle.page_bitmap.specs.Words.{has_page}
use Rattle.page_bitmap.proofs.bitmap.Bitmap.front_run.Given as goal

abbrev pub invariant-loop-i : goal.invariant-loop-i
invariant-loop-i l = (p : ℕ) → p < 64 * l.i → has_page l.self.words p ≡ true
