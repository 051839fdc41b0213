use Rattle.proc_cache_tests.proofs.Kept.{counted_ready, large_grows, large_ready}
use Rattle.proc_cache_tests.proofs.Living.{grows-same, grows-trans}
use Rattle.proc_cache_tests.proofs.turns.put_large.Goals as goal

pub returns-in_err-addr-clause-ready : goal.returns-in_err-addr-clause-ready
returns-in_err-addr-clause-ready g c = large_ready c.args.shop.now.shared.now c.args.shop.now.ring.now c.args.shop.now.marks.now c.args.shop.now.pages c.args.shop.now.distance c.args.pages 1 c.args.hand.now c.alloc_large.new.hand c.args.proc.now c.alloc_large.result c.requires.ready c.alloc_large.ensures.did c.alloc_large.ensures.tally

pub returns-in_err-addr-clause-grows : goal.returns-in_err-addr-clause-grows
returns-in_err-addr-clause-grows g c = large_grows c.args.shop.now.pages c.args.shop.now.distance c.args.pages 1 c.args.hand.now c.alloc_large.new.hand c.alloc_large.result c.alloc_large.ensures.did

pub returns-clause-ready : goal.returns-clause-ready
returns-clause-ready g c = let e = c.count_placed-sampled.ensures in
    counted_ready c.args.shop.now.shared.now c.args.shop.now.ring.now c.args.shop.now.marks.now c.count_placed-sampled.result c.args.bucket c.alloc_large.new.hand c.count_placed-sampled.new.hand c.args.proc.now c.count_placed-sampled.new.proc _
    (large_ready c.args.shop.now.shared.now c.args.shop.now.ring.now c.args.shop.now.marks.now c.args.shop.now.pages c.args.shop.now.distance c.args.pages 1 c.args.hand.now c.alloc_large.new.hand c.args.proc.now c.alloc_large.result c.requires.ready c.alloc_large.ensures.did c.alloc_large.ensures.tally) e.cache e.worker e.tally

pub returns-clause-grows : goal.returns-clause-grows
returns-clause-grows g c = grows-trans c.args.hand.now.worker c.alloc_large.new.hand.worker c.count_placed-sampled.new.hand.worker
    (large_grows c.args.shop.now.pages c.args.shop.now.distance c.args.pages 1 c.args.hand.now c.alloc_large.new.hand c.alloc_large.result c.alloc_large.ensures.did)
    (grows-same c.alloc_large.new.hand.worker c.count_placed-sampled.new.hand.worker c.count_placed-sampled.ensures.worker)

pub count_placed-sampled-requires-clause-ring : goal.count_placed-sampled-requires-clause-ring
count_placed-sampled-requires-clause-ring g c = (large_ready c.args.shop.now.shared.now c.args.shop.now.ring.now c.args.shop.now.marks.now c.args.shop.now.pages c.args.shop.now.distance c.args.pages 1 c.args.hand.now c.alloc_large.new.hand c.args.proc.now c.alloc_large.result c.requires.ready c.alloc_large.ensures.did c.alloc_large.ensures.tally).works.counts.ring
