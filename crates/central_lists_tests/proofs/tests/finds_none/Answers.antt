use Rattle.central_lists_tests.proofs.Ready.{ready_after}
use Rattle.central_lists_tests.proofs.tests.finds_none.Goals as goal

pub returns : goal.returns
returns g c = let e = rw c.in-NeedFresh.is at c.in_ok-swept.ensures.caches in
    ready_after c.args.shop.now.shared.now c.args.shop.now.ring.now c.args.shop.now.marks.now _ _ _ _ _ _ c.args.hand.now c.cache_span.new.hand e.1 c.cache_span.ensures.tally c.requires.ready
