use Rattle.std.proofs.Common.{length}
use Rattle.report_text_tests.proofs.tests.order.+rises.Given as goal

abbrev pub decreases-rises : goal.decreases-rises
decreases-rises g l = length l.items.now
