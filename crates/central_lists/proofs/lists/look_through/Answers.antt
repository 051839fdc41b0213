use Rattle.page_bitmap.specs.Counts.{one_if}
use Rattle.span_set.proofs.Asks.{keeps_works}
use Rattle.span_set.proofs.Tallies.{frees-both}
use Rattle.central_lists.proofs.Joining.{all_at, looked_all, looked_then, same_generation}
use Rattle.central_lists.proofs.lists.look_through.Goals as goal

pub try_all-requires-clause-works : goal.try_all-requires-clause-works
try_all-requires-clause-works c = keeps_works c.args.shop.now.shared.now c.args.shop.now.ring.now c.args.shop.now.marks.now c.args.hand.now c.sees_empty.new.hand c.sees_empty.ensures.looked.keeps c.sees_empty.ensures.tally c.requires.works

pub returns-then-sees_empty-clause-tries : goal.returns-then-sees_empty-clause-tries
returns-then-sees_empty-clause-tries c = looked_all c.args.hand.now.worker.view.generation c.args.class (one_if c.args.full) c.args.before c.args.hand.now c.sees_empty.new.hand c.requires.before (c.sees_empty.ensures.empty c.if-sees_empty.true)

pub returns-clause-tries : goal.returns-clause-tries
returns-clause-tries c = let a = c.args.hand.now in let g = a.worker.view.generation in let b = c.sees_empty.new.hand in let x = c.sees_empty.ensures.looked in
    looked_then g c.args.class (one_if c.args.full) c.args.before a b c.try_all.new.hand c.try_all.result x
    (all_at b.worker.view.generation g c.args.class (one_if c.args.full) c.args.before b c.try_all.new.hand c.try_all.result (same_generation a.worker b.worker x.keeps) c.try_all.ensures.tries)

pub returns-clause-tally : goal.returns-clause-tally
returns-clause-tally c = frees-both c.args.shop.now.marks.now c.args.hand.now c.sees_empty.new.hand c.try_all.new.hand c.sees_empty.ensures.tally c.try_all.ensures.tally
