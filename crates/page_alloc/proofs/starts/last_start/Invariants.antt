use Rattle.std.proofs.Common.{◌≡◌, ℕ, ◌+◌, ◌*◌, ◌≤◌, false}
use Rattle.page_alloc.specs.Region.{pages_in}
use Rattle.page_alloc.proofs.starts.last_start.Given as goal

abbrev pub invariant-loop-index : goal.invariant-loop-index
invariant-loop-index l = record {
  some : 1 ≤ l.end;
  few : l.end ≤ 512;
  low : 512 * l.index + l.end ≤ l.page + 513;
  none : (p : ℕ) → 512 * l.index + l.end ≤ p + 512 → p ≤ l.page → pages_in l.starts p ≡ false;
}
