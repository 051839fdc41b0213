use Rattle.std.proofs.Common.{◌≡◌, ◌≤◌, ◌<◌, ℕ, None, get_or, drop, map}
use Rattle.std.specs.List.{position}
use Rattle.std.specs.Prelude.{vec_len}
use Rattle.sweep_lists.specs.There.{begins, place_view, told}
use Rattle.sweep_lists.proofs.places.tell_places.Given as goal

abbrev pub invariant-loop-k : goal.invariant-loop-k
invariant-loop-k l = record {
  inside : l.k ≤ vec_len l.places;
  long : vec_len l.starts ≡ vec_len l.initial.starts;
  tells : (p : ℕ) → p < vec_len l.initial.starts → get_or l.starts.items p None ≡ told l.k (get_or l.initial.starts.items p None) (position (begins p) (drop l.k (map place_view l.places.items)));
}

abbrev pub decreases-loop-k : goal.decreases-loop-k
decreases-loop-k l = l.k
