use Rattle.std.proofs.Common.{◌≡◌, ◌<◌, ◌≤◌, ℕ, Option, map, length, get_or}
use Rattle.std.specs.List.{All}
use Rattle.std.specs.Option.{IfSome}
use Rattle.sweep_lists.specs.declared.life.Life.{Life}
use Rattle.sweep_laws.specs.ChangesOfLives.{marks_at}
use Rattle.sweep_lists.specs.There.{place_view, PlaceRoom}
use Rattle.sweep_lists.proofs.places.reserve_marked.Given as goal

abbrev pub invariant-loop-k : goal.invariant-loop-k
invariant-loop-k l = record {
  same : map place_view l.places ≡ map place_view l.initial.places;
  done : (j : ℕ) (d : Option Life) → j < l.k → IfSome (get_or l.places j d) (λ (life : Life). length (marks_at life.page l.marks.pairs) ≤ life.kept.space);
  room : All PlaceRoom l.initial.places → All PlaceRoom l.places;
}
