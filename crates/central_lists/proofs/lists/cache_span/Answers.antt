use Rattle.central_lists.proofs.Glancing.{caches_at, looked_caches}
use Rattle.central_lists.proofs.Joining.{same_generation}
use Rattle.span_set.proofs.Asks.{keeps_works}
use Rattle.span_set.proofs.Tallies.{frees-both}
use Rattle.central_lists.proofs.lists.cache_span.Goals as goal

pub search_sets-requires-clause-works : goal.search_sets-requires-clause-works
search_sets-requires-clause-works c = keeps_works c.args.shop.now.shared.now c.args.shop.now.ring.now c.args.shop.now.marks.now c.args.hand.now c.sees_none.new.hand c.in-None.ensures.none.keeps c.sees_none.ensures.tally c.requires.works

pub returns-in-None-clause-caches : goal.returns-in-None-clause-caches
returns-in-None-clause-caches c = let a = c.args.hand.now in let b = c.sees_none.new.hand in let x = c.in-None.ensures.none in
    looked_caches a.worker.view.generation c.args.class a b c.search_sets.new.hand c.search_sets.result x
    (caches_at b.worker.view.generation a.worker.view.generation c.args.class b c.search_sets.new.hand c.search_sets.result (same_generation a.worker b.worker x.keeps) c.search_sets.ensures.caches)

pub returns-in-None-clause-tally : goal.returns-in-None-clause-tally
returns-in-None-clause-tally c = frees-both c.args.shop.now.marks.now c.args.hand.now c.sees_none.new.hand c.search_sets.new.hand c.sees_none.ensures.tally c.search_sets.ensures.tally
