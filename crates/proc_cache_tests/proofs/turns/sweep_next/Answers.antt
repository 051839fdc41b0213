use Rattle.proc_cache_tests.proofs.Kept.{sweep_grows, sweep_ready}
use Rattle.proc_cache_tests.proofs.turns.sweep_next.Goals as goal

pub returns-clause-ready : goal.returns-clause-ready
returns-clause-ready g c = sweep_ready c.args.shop.now.shared.now c.args.shop.now.ring.now c.args.shop.now.marks.now c.args.hand.now c.sweep_one.new.hand c.args.proc.now c.sweep_one.result c.requires.ready c.sweep_one.ensures.did c.sweep_one.ensures.tally

pub returns-clause-grows : goal.returns-clause-grows
returns-clause-grows g c = sweep_grows c.args.hand.now c.sweep_one.new.hand c.sweep_one.result c.sweep_one.ensures.did
