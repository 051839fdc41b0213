use Rattle.proc_cache_tests.proofs.Kept.{finish_grows, finish_ready, finish_swept}
use Rattle.proc_cache_tests.proofs.Living.{grows-trans}
use Rattle.proc_cache_tests.proofs.turns.sweep_all.Goals as goal

pub returns-clause-ready : goal.returns-clause-ready
returns-clause-ready g c = finish_ready c.args.shop.now.shared.now c.args.shop.now.ring.now c.args.shop.now.marks.now c.flush_now.new.hand c.finish.new.driver c.flush_now.new.proc c.finish.result c.flush_now.ensures.ready c.finish.ensures.did c.finish.ensures.tally

pub returns-clause-grows : goal.returns-clause-grows
returns-clause-grows g c = grows-trans c.args.hand.now.worker c.flush_now.new.hand.worker c.finish.new.driver.worker c.flush_now.ensures.grows (finish_grows c.flush_now.new.hand c.finish.new.driver c.finish.result c.finish.ensures.did)

pub returns-clause-swept : goal.returns-clause-swept
returns-clause-swept g c = finish_swept c.args.shop.now.shared.now c.args.shop.now.ring.now c.args.shop.now.marks.now c.flush_now.new.hand c.finish.new.driver c.flush_now.new.proc c.finish.result c.in_ok-flush_now.ensures.flushed c.finish.ensures.did
