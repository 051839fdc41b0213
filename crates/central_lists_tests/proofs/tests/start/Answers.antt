use Rattle.std.proofs.Common.{◌∙◌}
use Rattle.central_lists_tests.proofs.Ready.{first_ready}
use Rattle.central_lists_tests.proofs.tests.start.Goals as goal

pub returns : goal.returns
returns c = first_ready c.in_ok-shared.shared c.in_ok-ring.ring c.empty.result 512 512 0 70 c.in_ok-shared.driver c.new-3.result c.empty.ensures.pairs c.empty.ensures.dead c.in_ok-shared.ensures c.new-3.ensures.worker (c.new-3.ensures.tally ∙ c.in_ok-ring.ensures.tally)
