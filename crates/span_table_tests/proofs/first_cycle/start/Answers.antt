use Rattle.std.proofs.Common.{ap}
use Rattle.span_laws.specs.Views.{Seen}
use Rattle.span_table_tests.proofs.Starting.{first_driver}
use Rattle.span_table_tests.proofs.first_cycle.start.Goals as goal

pub returns : goal.returns
returns c = (first_driver c.in_ok-shared.shared 512 c.args.goal 0 c.in_ok-shared.driver c.in_ok-shared.ensures, ap (λ (k : Seen). k.away) c.in_ok-shared.ensures)
