use Rattle.std.proofs.Common.{◌≡◌, ℕ, ◌*◌, ◌<◌, ◌≤◌, false, length}
use Rattle.page_alloc.specs.Region.{loose_in}
use Rattle.page_alloc.proofs.runs.top_run.Given as goal

abbrev pub invariant-loop-index : goal.invariant-loop-index
invariant-loop-index l = (p : ℕ) → 512 * l.index ≤ p → p < 512 * length l.chunks → loose_in l.chunks p ≡ false
