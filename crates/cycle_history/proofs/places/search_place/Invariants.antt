use Rattle.std.proofs.Common.{◌≡◌, ℕ, ◌+◌, ◌*◌, ◌/◌, ◌<◌, ◌≤◌}
use Rattle.cycle_history.proofs.places.search_place.Given as goal

-- the page stands between the span's first page and the object's own
abbrev pub invariant-loop-index : goal.invariant-loop-index
invariant-loop-index l = record {
  own : l.page ≤ l.behind / 8192;
  not_past : (page k : ℕ) → k < l.count → l.behind ≡ 8192 * page + l.slot * k → page ≤ l.page;
}

abbrev pub decreases-loop-index : goal.decreases-loop-index
decreases-loop-index l = l.page
