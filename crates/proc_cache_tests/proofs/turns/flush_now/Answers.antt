use Rattle.proc_cache_tests.proofs.Kept.{flush_grows, flush_ready, flush_stamp}
use Rattle.proc_cache_tests.proofs.turns.flush_now.Goals as goal

pub returns-clause-ready : goal.returns-clause-ready
returns-clause-ready g c = let e = c.flush.ensures in
    flush_ready c.args.shop.now.shared.now c.args.shop.now.ring.now c.args.shop.now.marks.now c.args.hand.now c.flush.new.hand c.args.proc.now c.flush.new.proc c.flush.result c.requires.ready e.flushes e.serves (e.used c.requires.ready.served.used) e.tally

pub returns-clause-grows : goal.returns-clause-grows
returns-clause-grows g c = flush_grows c.args.hand.now c.flush.new.hand c.args.proc.now c.flush.new.proc c.flush.result c.flush.ensures.flushes

pub returns-clause-flushed : goal.returns-clause-flushed
returns-clause-flushed g c = flush_stamp c.args.shop.now.shared.now c.args.shop.now.ring.now c.args.shop.now.marks.now c.args.hand.now c.flush.new.hand c.args.proc.now c.flush.new.proc c.flush.result c.flush.ensures.flushes
