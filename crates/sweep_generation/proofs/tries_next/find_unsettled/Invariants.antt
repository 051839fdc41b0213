use Rattle.std.proofs.Common.{◌≡◌, ◌*◌, not, take, None}
use Rattle.std.specs.List.{find}
use Rattle.sweep_laws.specs.Reading.{is_settled}
use Rattle.sweep_generation.proofs.tries_next.find_unsettled.Given as goal

abbrev pub invariant-loop-k : goal.invariant-loop-k
invariant-loop-k l = find (λ word. not (is_settled l.generation word)) (take (8 * l.k) l.words) ≡ None
