use Rattle.std.proofs.Common.{ℕ, ◌*◌, ◌≤◌, ◌<◌, ◌≡◌, ◌&&◌, not, length}
use Rattle.page_bitmap.specs.Words.{has_page}
use Rattle.page_bitmap.proofs.bitmap.Bitmap.without.Given as goal

abbrev pub invariant-loop-i : goal.invariant-loop-i
invariant-loop-i l = record {
  fits : length l.words ≡ 8;
  done : (p : ℕ) → p < 64 * l.i → has_page l.words p ≡ (has_page l.self.words p && not (has_page l.other.words p));
  ahead : (p : ℕ) → 64 * l.i ≤ p → has_page l.words p ≡ has_page l.self.words p;
}
