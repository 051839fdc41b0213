use Rattle.proc_cache_tests.proofs.Kept.{reclaim_grows, reclaim_ready}
use Rattle.proc_cache_tests.proofs.turns.reclaim_pages.Goals as goal

pub returns-clause-ready : goal.returns-clause-ready
returns-clause-ready g c = reclaim_ready c.args.shop.now.shared.now c.args.shop.now.ring.now c.args.shop.now.marks.now c.args.pages c.args.hand.now c.reclaim.new.hand c.args.proc.now c.reclaim.result c.requires.ready c.reclaim.ensures.did c.reclaim.ensures.tally

pub returns-clause-grows : goal.returns-clause-grows
returns-clause-grows g c = reclaim_grows c.args.pages c.args.hand.now c.reclaim.new.hand c.reclaim.result c.reclaim.ensures.did
