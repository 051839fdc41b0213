use Rattle.std.proofs.Common.{◌*◌}
use Rattle.span_table_tests.proofs.Driving.{starts}
use Rattle.span_table_tests.proofs.turns.start.Goals as goal

pub returns-clause-free : goal.returns-clause-free
returns-clause-free c = starts c.in_ok-shared.shared (512 * c.args.chunks) c.args.goal 0 c.in_ok-shared.w c.in_ok-shared.ensures
