use Rattle.std.proofs.Common.{refl}
use Rattle.page_bitmap.specs.Counts.{one_if}
use Rattle.span_set.specs.Sets.{unswept_of}
use Rattle.span_set.proofs.Numbers.{few, unswept_is}
use Rattle.sweeper.proofs.Popping.{still_untouched, tried_empty, tried_gone, tried_swept}
use Rattle.sweeper.proofs.sweep.try_entry.Goals as goal

pub returns-in-Empty-clause-did : goal.returns-in-Empty-clause-did
returns-in-Empty-clause-did g c = let h = c.args.hand.now in let g = h.worker.view.generation in
    tried_empty (unswept_of g c.args.set) h (unswept_is g c.args.set.class (one_if c.args.set.full) (few c.args.set.full)) c.requires.unpopped c.in-Empty.head c.in-Empty.tail c.pop_unswept.new.w c.in-Empty.ensures

pub settle-requires-clause-untouched : goal.settle-requires-clause-untouched
settle-requires-clause-untouched g c = still_untouched c.in-Popped.page c.pop_unswept.new.w c.acquire.new.w c.in-Got.body c.in-Got.ensures

pub returns-in-Got-clause-did : goal.returns-in-Got-clause-did
returns-in-Got-clause-did g c = let h = c.args.hand.now in let g = h.worker.view.generation in
    tried_swept (unswept_of g c.args.set) h (unswept_is g c.args.set.class (one_if c.args.set.full) (few c.args.set.full)) c.requires.unpopped c.in-Popped.page c.pop_unswept.new.w c.in-Popped.ensures
    c.args.shop.now.marks.now c.in-Got.body (record { worker = c.acquire.new.w; notes = h.notes; tally = h.tally }) c.settle.new.hand c.settle.result refl c.in-Got.ensures c.settle.ensures.did c.requires.unclaimed

pub returns-in-Other-clause-did : goal.returns-in-Other-clause-did
returns-in-Other-clause-did g c = let h = c.args.hand.now in let g = h.worker.view.generation in
    tried_gone (unswept_of g c.args.set) h (unswept_is g c.args.set.class (one_if c.args.set.full) (few c.args.set.full)) c.requires.unpopped c.in-Popped.page c.pop_unswept.new.w c.in-Popped.ensures
    c.in-Other.field-0 c.acquire.new.w c.in-Other.ensures
