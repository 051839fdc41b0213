use Rattle.std.proofs.Common.{◌≡◌}
use Rattle.std.specs.Prelude.{None}
use Rattle.std.specs.List.{find, range_with_len}
use Rattle.sweep_laws.specs.Reading.{is_free_page}
use Rattle.sweep_generation.proofs.state.Core.least_free.Given as goal

abbrev pub invariant-loop-page : goal.invariant-loop-page
invariant-loop-page l = find (is_free_page l.self) (range_with_len 0 l.page) ≡ None
