use Rattle.std.proofs.Common.{◌≡◌}
use Rattle.central_lists.proofs.Joining.{all_at, same_generation, then_search}
use Rattle.span_set.proofs.Asks.{keeps_works}
use Rattle.span_set.proofs.Tallies.{frees-both}
use Rattle.central_lists.proofs.lists.search_unswept.Goals as goal

pub look_through-requires-in-Ok-NotFound-clause-works : goal.look_through-requires-in-Ok-NotFound-clause-works
look_through-requires-in-Ok-NotFound-clause-works c = let d = rw c.in-Ok-NotFound.field-0-is at c.in-Ok-NotFound.ensures.tries in
    keeps_works c.args.shop.now.shared.now c.args.shop.now.ring.now c.args.shop.now.marks.now c.args.hand.now c.look_through.new.hand d.2.keeps c.look_through.ensures.tally c.requires.works

pub returns-in-Ok-NotFound-clause-searches : goal.returns-in-Ok-NotFound-clause-searches
returns-in-Ok-NotFound-clause-searches c = let a = c.args.hand.now in let g = a.worker.view.generation in let b = c.look_through.new.hand in let e = c.look_through-in-Ok-NotFound in
    let d = rw c.in-Ok-NotFound.field-0-is at c.in-Ok-NotFound.ensures.tries in
    let same : b.worker.view.generation ≡ g = same_generation a.worker b.worker d.2.keeps in
    let h = all_at b.worker.view.generation g c.args.class 1 c.in-Ok-NotFound.tried b e.new.hand e.result same e.ensures.tries in
    then_search g c.args.class c.in-Ok-NotFound.tried a b e.new.hand c.if-tried-lt-TRIES.true d e.result h

pub returns-in-Ok-NotFound-clause-tally : goal.returns-in-Ok-NotFound-clause-tally
returns-in-Ok-NotFound-clause-tally c = frees-both c.args.shop.now.marks.now c.args.hand.now c.look_through.new.hand c.look_through-in-Ok-NotFound.new.hand c.look_through.ensures.tally c.look_through-in-Ok-NotFound.ensures.tally
