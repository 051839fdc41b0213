use Rattle.std.proofs.Common.{◌∙◌, ap}
use Rattle.proc_cache.proofs.Filling.{find_serves, find_used, refill_done, refill_refused, used_but}
use Rattle.proc_cache.proofs.Leaving.{leaves_works}
use Rattle.span_set.proofs.Tallies.{frees-both, frees-none}
use Rattle.proc_cache.proofs.refills.refill.Goals as goal

pub returns-in-Err-clause-refills : goal.returns-in-Err-clause-refills
returns-in-Err-clause-refills g c = refill_refused c.args.shop.now.pages c.args.shop.now.distance c.args.class c.args.proc.now c.leave_full.new.proc c.args.hand.now c.leave_full.new.hand c.leave_full.ensures.leaves c.find_span.new.hand c.in-Err.refused c.in-Err.ensures.finds

pub returns-in-Err-clause-serves : goal.returns-in-Err-clause-serves
returns-in-Err-clause-serves g c = find_serves c.args.shop.now.pages c.args.shop.now.distance c.args.class c.leave_full.new.hand c.find_span.new.hand c.find_span.result c.find_span.ensures.finds c.leave_full.new.proc c.leave_full.ensures.serves

pub returns-in-Err-clause-used : goal.returns-in-Err-clause-used
returns-in-Err-clause-used g c = used_but c.args.class c.find_span.new.hand.worker.view.generation c.find_span.new.hand.worker.view.own c.leave_full.new.proc
    (find_serves c.args.shop.now.pages c.args.shop.now.distance c.args.class c.leave_full.new.hand c.find_span.new.hand c.find_span.result c.find_span.ensures.finds c.leave_full.new.proc c.leave_full.ensures.serves)
    (find_used c.args.shop.now.pages c.args.shop.now.distance c.args.class c.leave_full.new.hand c.find_span.new.hand c.find_span.result c.find_span.ensures.finds c.leave_full.ensures.used)

pub keep_span-requires-clause-serves : goal.keep_span-requires-clause-serves
keep_span-requires-clause-serves g c = find_serves c.args.shop.now.pages c.args.shop.now.distance c.args.class c.leave_full.new.hand c.find_span.new.hand c.find_span.result c.find_span.ensures.finds c.leave_full.new.proc c.leave_full.ensures.serves

pub returns-in-Ok-clause-refills : goal.returns-in-Ok-clause-refills
returns-in-Ok-clause-refills g c = refill_done c.args.shop.now.pages c.args.shop.now.distance c.args.class c.args.proc.now c.leave_full.new.proc c.args.hand.now c.leave_full.new.hand c.leave_full.ensures.leaves c.find_span.new.hand c.keep_span.new.hand c.keep_span.new.proc
    c.in-Ok.body c.in-Ok.from c.in-Ok.ensures.finds c.keep_span.ensures.keeps

pub returns-in-Ok-clause-used : goal.returns-in-Ok-clause-used
returns-in-Ok-clause-used g c = c.keep_span.ensures.used (find_used c.args.shop.now.pages c.args.shop.now.distance c.args.class c.leave_full.new.hand c.find_span.new.hand c.find_span.result c.find_span.ensures.finds c.leave_full.ensures.used)

pub find_span-requires-clause-works : goal.find_span-requires-clause-works
find_span-requires-clause-works g c = let l = c.leave_full.ensures in
    leaves_works c.args.shop.now.shared.now c.args.shop.now.ring.now c.args.shop.now.marks.now c.args.hand.now c.leave_full.new.hand l.leaves.2.0 l.leaves.2.1
    (frees-none c.args.shop.now.marks.now c.args.hand.now c.leave_full.new.hand (ap (λ r. r.items) l.leaves.1) l.counted) c.requires.works

pub returns-in-Err-clause-tally : goal.returns-in-Err-clause-tally
returns-in-Err-clause-tally g c = frees-both c.args.shop.now.marks.now c.args.hand.now c.leave_full.new.hand c.find_span.new.hand (frees-none c.args.shop.now.marks.now c.args.hand.now c.leave_full.new.hand (ap (λ r. r.items) c.leave_full.ensures.leaves.1) c.leave_full.ensures.counted) c.find_span.ensures.tally

pub returns-in-Ok-clause-tally : goal.returns-in-Ok-clause-tally
returns-in-Ok-clause-tally g c = frees-both c.args.shop.now.marks.now c.args.hand.now c.find_span.new.hand c.keep_span.new.hand (frees-both c.args.shop.now.marks.now c.args.hand.now c.leave_full.new.hand c.find_span.new.hand (frees-none c.args.shop.now.marks.now c.args.hand.now c.leave_full.new.hand (ap (λ r. r.items) c.leave_full.ensures.leaves.1) c.leave_full.ensures.counted) c.find_span.ensures.tally) (frees-none c.args.shop.now.marks.now c.find_span.new.hand c.keep_span.new.hand (ap (λ r. r.items) c.keep_span.ensures.notes) c.keep_span.ensures.counted)

pub returns-in-Ok-clause-countdown : goal.returns-in-Ok-clause-countdown
returns-in-Ok-clause-countdown g c = c.keep_span.ensures.countdown ∙ c.leave_full.ensures.countdown
