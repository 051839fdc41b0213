use Rattle.std.proofs.Common.{◌∙◌, refl}
use Rattle.std.proofs.lemmas.Result.{err_from_is_err_and}
use Rattle.proc_cache.proofs.Placing.{missed_refill, not_missing, placing_used, refilled_hit, refused_used}
use Rattle.span_set.proofs.Tallies.{frees-both, frees-none}
use Rattle.proc_cache.proofs.allocs.alloc_missed.Goals as goal

pub returns-in_err-refill-clause-allocates : goal.returns-in_err-refill-clause-allocates
returns-in_err-refill-clause-allocates g c =
    let p = err_from_is_err_and c.from_residual.result c.from_residual.ensures.1 in
    rw (p.1, p.2) (missed_refill c.args.shop.now.pages c.args.shop.now.distance c.args.class c.args.proc.now c.refill.new.proc c.args.hand.now c.refill.new.hand c.requires.flushed c.in_err-refill.field-0.0 c.in_err-refill.ensures.refills)

pub returns-in_err-refill-clause-used : goal.returns-in_err-refill-clause-used
returns-in_err-refill-clause-used g c = refused_used c.args.shop.now.pages c.args.shop.now.distance c.args.class c.args.proc.now c.refill.new.proc c.args.hand.now c.refill.new.hand c.in_err-refill.field-0.0 c.in_err-refill.ensures.refills c.refill.ensures.serves c.refill.ensures.used

pub unreachable-requires : goal.unreachable-requires
unreachable-requires g c = let r = c.in_ok-refill.ensures.refills in not_missing c.args.class r.0 c.refill.new.proc r.2 r.3 c.in-Miss.ensures.hits.0

pub returns-clause-allocates : goal.returns-clause-allocates
returns-clause-allocates g c = refilled_hit c.args.shop.now.pages c.args.shop.now.distance c.args.class c.args.proc.now c.refill.new.proc c.args.hand.now c.refill.new.hand c.requires.flushed c.in_ok-refill.field-0 c.in_ok-refill.ensures.refills c.refill.ensures.serves
    c.in-At.addr c.alloc_hit.new.proc c.alloc_hit.new.w c.in-At.ensures.hits

pub returns-clause-used : goal.returns-clause-used
returns-clause-used g c = placing_used c.args.class c.in-At.addr c.refill.new.proc c.alloc_hit.new.proc c.refill.new.hand c.alloc_hit.new.w c.in_ok-refill.ensures.refills.4.1.idle c.refill.ensures.serves c.in-At.ensures.hits c.refill.ensures.used

pub returns-clause-countdown : goal.returns-clause-countdown
returns-clause-countdown g c = c.alloc_hit.ensures.countdown ∙ c.refill.ensures.countdown

pub returns-clause-tally : goal.returns-clause-tally
returns-clause-tally g c = frees-both c.args.shop.now.marks.now c.args.hand.now c.refill.new.hand (record c.refill.new.hand { worker = c.alloc_hit.new.w }) c.refill.ensures.tally (frees-none c.args.shop.now.marks.now c.refill.new.hand (record c.refill.new.hand { worker = c.alloc_hit.new.w }) refl refl)
