use Rattle.span_set.proofs.Tallies.{frees-both, frees-none}
use Rattle.std.proofs.Common.{ap}
use Rattle.sweeper.proofs.Again.{stays_works}
use Rattle.sweeper.proofs.Making.{made, made_then, reclaim_wanted, wanted}
use Rattle.sweeper.proofs.spans.new_span.Goals as goal

pub returns-in-Ok-Some-clause-did : goal.returns-in-Ok-Some-clause-did
returns-in-Ok-Some-clause-did g c = made c.args.n c.args.class c.in-Ok.field-0 c.args.hand.now c.reclaim.new.hand c.in-Ok.ensures.did c.cut_or_take.new.hand c.in-Ok-Some.body (rw c.in-Ok-Some.field-0-is at c.in-Ok-Some.ensures.did)

pub returns-in-Ok-None-clause-did : goal.returns-in-Ok-None-clause-did
returns-in-Ok-None-clause-did g c = made_then c.args.n c.args.class c.in-Ok.field-0 c.args.hand.now c.reclaim.new.hand c.in-Ok.ensures.did c.cut_or_take.new.hand (rw c.in-Ok-None.field-0-is at c.in-Ok-None.ensures.did) c.sweep_and_take.new.hand c.sweep_and_take.result c.sweep_and_take.ensures.did

pub returns-in-Err-clause-did : goal.returns-in-Err-clause-did
returns-in-Err-clause-did g c = wanted c.args.n c.args.class c.in-Ok.field-0 c.args.hand.now c.reclaim.new.hand c.in-Ok.ensures.did c.cut_or_take.new.hand _ c.in-Err.ensures.did

pub sweep_and_take-requires-clause-works : goal.sweep_and_take-requires-clause-works
sweep_and_take-requires-clause-works g c = let d = rw c.in-Ok-None.field-0-is at c.in-Ok-None.ensures.did in
    let e = c.cut_or_take.ensures in
    stays_works c.args.shop.now.shared.now c.args.shop.now.ring.now c.args.shop.now.marks.now c.reclaim.new.hand c.cut_or_take.new.hand d.does.stays
    (frees-none c.args.shop.now.marks.now c.reclaim.new.hand c.cut_or_take.new.hand (ap (λ r. r.items) e.notes) e.tally)
    (stays_works c.args.shop.now.shared.now c.args.shop.now.ring.now c.args.shop.now.marks.now c.args.hand.now c.reclaim.new.hand c.in-Ok.ensures.did.does.stays c.reclaim.ensures.tally c.requires.works)

pub returns-in-Ok-None-clause-tally : goal.returns-in-Ok-None-clause-tally
returns-in-Ok-None-clause-tally g c = let m = c.args.shop.now.marks.now in let h = c.args.hand.now in let e = c.cut_or_take.ensures in let d = c.cut_or_take.new.hand in
    frees-both m h d c.sweep_and_take.new.hand (frees-both m h c.reclaim.new.hand d c.reclaim.ensures.tally (frees-none m c.reclaim.new.hand d (ap (λ r. r.items) e.notes) e.tally)) c.sweep_and_take.ensures.tally

pub returns-in_default-clause-did : goal.returns-in_default-clause-did
returns-in_default-clause-did g c = reclaim_wanted c.args.n c.args.class c.args.hand.now c.reclaim.new.hand _ c.in_default.ensures.did
