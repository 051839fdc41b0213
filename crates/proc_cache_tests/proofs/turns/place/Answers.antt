use Rattle.proc_cache_tests.proofs.Kept.{small_grows, small_placed, small_ready}
use Rattle.proc_cache_tests.proofs.turns.place.Goals as goal

pub returns-clause-ready : goal.returns-clause-ready
returns-clause-ready g c = let e = c.alloc.ensures in
    small_ready c.args.shop.now.shared.now c.args.shop.now.ring.now c.args.shop.now.marks.now c.args.shop.now.pages c.args.shop.now.distance _ c.args.bucket c.args.hand.now c.alloc.new.hand c.args.proc.now c.alloc.new.proc c.alloc.result c.requires.ready e.allocates.2 e.serves e.used e.counted e.frees

pub returns-clause-grows : goal.returns-clause-grows
returns-clause-grows g c = small_grows c.args.shop.now.pages c.args.shop.now.distance _ c.args.hand.now c.alloc.new.hand c.args.proc.now c.alloc.new.proc c.alloc.result c.alloc.ensures.allocates.2

pub returns-clause-placed : goal.returns-clause-placed
returns-clause-placed g c = let a = c.alloc.ensures.allocates in
    small_placed c.args.shop.now.pages c.args.shop.now.distance c.args.event.size a.0 c.args.event.scan c.args.hand.now c.alloc.new.hand c.args.proc.now c.alloc.new.proc c.alloc.result a.1 a.2
