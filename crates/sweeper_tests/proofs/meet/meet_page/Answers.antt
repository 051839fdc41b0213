use Rattle.sweeper.proofs.Popping.{still_untouched}
use Rattle.sweeper_tests.proofs.Meeting.{ready_got, ready_other, ready_settled}
use Rattle.sweeper_tests.proofs.meet.meet_page.Goals as goal

pub settle-requires-clause-untouched : goal.settle-requires-clause-untouched
settle-requires-clause-untouched g c = still_untouched c.args.page c.args.hand.now.worker c.acquire.new.w c.in-Got.body c.in-Got.ensures

pub returns-in-Got : goal.returns-in-Got
returns-in-Got g c = let s = c.args.shop.now in let h = c.args.hand.now in
    ready_settled s.shared.now s.ring.now s.marks.now c.in-Got.body (record { worker = c.acquire.new.w; notes = h.notes; tally = h.tally }) c.settle.new.hand c.settle.result
    (ready_got s.shared.now s.ring.now s.marks.now h c.requires.ready c.args.page c.in-Got.body c.acquire.new.w c.in-Got.ensures) c.settle.ensures.tally c.settle.ensures.did

pub returns-in-Other : goal.returns-in-Other
returns-in-Other g c = let s = c.args.shop.now in
    ready_other s.shared.now s.ring.now s.marks.now c.args.hand.now c.requires.ready c.args.page c.in-Other.word c.acquire.new.w c.in-Other.ensures
