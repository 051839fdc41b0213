use Rattle.std.proofs.Common.{◌≡◌, not}
use Rattle.std.specs.Prelude.{None}
use Rattle.std.specs.List.{find, range_with_len}
use Rattle.sweep_laws.specs.Lists.{has}
use Rattle.sweep_generation.proofs.pulled.first_missing.Given as goal

abbrev pub invariant-loop-k : goal.invariant-loop-k
invariant-loop-k l = find (λ p. not (has p l.pulled.items)) (range_with_len l.page l.k) ≡ None
