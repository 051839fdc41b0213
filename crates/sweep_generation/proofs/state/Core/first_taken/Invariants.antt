use Rattle.std.proofs.Common.{◌≡◌, not}
use Rattle.std.specs.Prelude.{None}
use Rattle.std.specs.List.{find, range_with_len}
use Rattle.sweep_laws.specs.Reading.{is_free_page}
use Rattle.sweep_generation.proofs.state.Core.first_taken.Given as goal

abbrev pub invariant-loop-k : goal.invariant-loop-k
invariant-loop-k l = find (λ p. not (is_free_page l.self p)) (range_with_len l.page l.k) ≡ None
