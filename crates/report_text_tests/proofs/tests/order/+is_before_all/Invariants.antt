use Rattle.std.proofs.Common.{length}
use Rattle.report_text_tests.proofs.tests.order.+is_before_all.Given as goal

abbrev pub decreases-is_before_all : goal.decreases-is_before_all
decreases-is_before_all g l = length l.others.now
