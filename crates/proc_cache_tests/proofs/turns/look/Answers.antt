use Rattle.proc_cache_tests.proofs.Kept.{look_grows, look_ready}
use Rattle.proc_cache_tests.proofs.turns.look.Goals as goal

pub returns-clause-ready : goal.returns-clause-ready
returns-clause-ready c = look_ready c.args.shop.now.shared.now c.args.shop.now.ring.now c.args.shop.now.marks.now c.args.class c.args.hand.now c.cache_span.new.hand c.args.proc.now c.cache_span.result c.requires.ready c.cache_span.ensures.caches c.cache_span.ensures.tally

pub returns-clause-grows : goal.returns-clause-grows
returns-clause-grows c = look_grows c.args.class c.args.hand.now c.cache_span.new.hand c.cache_span.result c.cache_span.ensures.caches
