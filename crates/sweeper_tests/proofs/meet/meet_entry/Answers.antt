use Rattle.span_set.specs.Sets.{unswept_of}
use Rattle.sweeper.proofs.Popping.{still_untouched}
use Rattle.sweeper_tests.proofs.Meeting.{ready_empty, ready_popped_got, ready_popped_other, ready_settled}
use Rattle.sweeper_tests.proofs.meet.meet_entry.Goals as goal

pub returns-in-Empty : goal.returns-in-Empty
returns-in-Empty g c = let s = c.args.shop.now in let h = c.args.hand.now in
    ready_empty s.shared.now s.ring.now s.marks.now h c.requires.ready (unswept_of h.worker.view.generation c.args.set) c.in-Empty.head c.in-Empty.tail c.pop_unswept.new.w c.in-Empty.ensures

pub settle-requires-clause-untouched : goal.settle-requires-clause-untouched
settle-requires-clause-untouched g c = still_untouched c.in-Popped.page c.pop_unswept.new.w c.acquire.new.w c.in-Got.body c.in-Got.ensures

pub returns-in-Got : goal.returns-in-Got
returns-in-Got g c = let s = c.args.shop.now in let h = c.args.hand.now in
    ready_settled s.shared.now s.ring.now s.marks.now c.in-Got.body (record { worker = c.acquire.new.w; notes = h.notes; tally = h.tally }) c.settle.new.hand c.settle.result
    (ready_popped_got s.shared.now s.ring.now s.marks.now h c.requires.ready (unswept_of h.worker.view.generation c.args.set) c.in-Popped.page c.pop_unswept.new.w c.in-Popped.ensures c.in-Got.body c.acquire.new.w c.in-Got.ensures)
    c.settle.ensures.tally c.settle.ensures.did

pub returns-in-Other : goal.returns-in-Other
returns-in-Other g c = let s = c.args.shop.now in let h = c.args.hand.now in
    ready_popped_other s.shared.now s.ring.now s.marks.now h c.requires.ready (unswept_of h.worker.view.generation c.args.set) c.in-Popped.page c.pop_unswept.new.w c.in-Popped.ensures c.in-Other.word c.acquire.new.w c.in-Other.ensures
