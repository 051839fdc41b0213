use Rattle.std.proofs.Common.{ℕ, ◌*◌, ◌≤◌, ◌<◌, ◌≡◌, false}
use Rattle.page_bitmap.specs.Words.{has_page}
use Rattle.page_bitmap.proofs.bitmap.Bitmap.last_below.Given as goal

abbrev pub invariant-loop-i : goal.invariant-loop-i
invariant-loop-i l = (p : ℕ) → 64 * l.i ≤ p → p < l.end → has_page l.self.words p ≡ false
