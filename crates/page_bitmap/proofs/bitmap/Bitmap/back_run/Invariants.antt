use Rattle.std.proofs.Common.{ℕ, ◌*◌, ◌<◌, ◌≤◌, ◌≡◌, true}
use Rattle.page_bitmap.specs.Words.{has_page}
use Rattle.page_bitmap.proofs.bitmap.Bitmap.back_run.Given as goal

abbrev pub invariant-loop-i : goal.invariant-loop-i
invariant-loop-i l = (p : ℕ) → 64 * l.i ≤ p → p < 512 → has_page l.self.words p ≡ true
