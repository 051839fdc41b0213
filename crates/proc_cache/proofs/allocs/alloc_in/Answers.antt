use Rattle.std.proofs.Common.{◌∙◌, refl, subst}
use Rattle.span_laws.specs.Views.{Seen}
use Rattle.span_set.specs.declared.hand.Hand.{Hand}
use Rattle.proc_cache.specs.Allocs.{AllocatesIn}
use Rattle.proc_cache.specs.Cache.{Cache}
use Rattle.proc_cache.proofs.Leaving.{leaves_works}
use Rattle.proc_cache.proofs.Placing.{flush_refused, flushed_hit, flushed_then}
use Rattle.span_set.proofs.Asks.{moved_works}
use Rattle.span_set.proofs.Tallies.{frees-both, frees-none}
use Rattle.proc_cache.proofs.allocs.alloc_in.Goals as goal

pub returns-in_default-clause-allocates : goal.returns-in_default-clause-allocates
returns-in_default-clause-allocates g c = flush_refused c.args.shop.now.pages c.args.shop.now.distance c.args.class c.args.proc.now c.flush.new.proc c.args.hand.now c.flush.new.hand c.in_default.field-0 c.in_default.ensures.flushes

pub returns-in-At-clause-allocates : goal.returns-in-At-clause-allocates
returns-in-At-clause-allocates g c = flushed_hit c.args.shop.now.pages c.args.shop.now.distance c.args.class c.args.proc.now c.flush.new.proc c.args.hand.now c.flush.new.hand c.in-Ok.ensures.flushes c.flush.ensures.serves
    c.in-At.addr c.alloc_hit.new.proc c.alloc_hit.new.w c.in-At.ensures.hits

pub returns-in-Miss-clause-allocates : goal.returns-in-Miss-clause-allocates
returns-in-Miss-clause-allocates g c =
    let h = c.in-Miss.ensures.hits in let pages = c.args.shop.now.pages in let distance = c.args.shop.now.distance in let k = c.args.class in
    let d = c.alloc_missed.new.proc in let new = c.alloc_missed.new.hand in let r = c.alloc_missed.result in
    let mid : Hand = c.flush.new.hand in
    let a = subst (λ (z : Cache). AllocatesIn pages distance k z d (record mid { worker = c.alloc_hit.new.w }) new r) h.1 c.alloc_missed.ensures.allocates in
    let b = subst (λ (w : Seen). AllocatesIn pages distance k c.flush.new.proc d (record mid { worker = w }) new r) h.2 a in
    flushed_then pages distance k c.args.proc.now c.flush.new.proc c.args.hand.now mid c.in-Ok.ensures.flushes d new r b

pub alloc_missed-requires-clause-works : goal.alloc_missed-requires-clause-works
alloc_missed-requires-clause-works g c = let f = c.in-Ok.ensures.flushes.1 in
    moved_works c.args.shop.now.shared.now c.args.shop.now.ring.now c.args.shop.now.marks.now c.flush.new.hand c.alloc_hit.new.w c.flush.new.hand.worker c.in-Miss.ensures.hits.2 refl refl refl
    (leaves_works c.args.shop.now.shared.now c.args.shop.now.ring.now c.args.shop.now.marks.now c.args.hand.now c.flush.new.hand f.said f.leaves c.flush.ensures.tally c.requires.works)

pub returns-in-At-clause-countdown : goal.returns-in-At-clause-countdown
returns-in-At-clause-countdown g c = c.alloc_hit.ensures.countdown ∙ c.flush.ensures.countdown

pub returns-in-At-clause-tally : goal.returns-in-At-clause-tally
returns-in-At-clause-tally g c = frees-both c.args.shop.now.marks.now c.args.hand.now c.flush.new.hand (record c.flush.new.hand { worker = c.alloc_hit.new.w }) c.flush.ensures.tally (frees-none c.args.shop.now.marks.now c.flush.new.hand (record c.flush.new.hand { worker = c.alloc_hit.new.w }) refl refl)

pub returns-in-Miss-clause-countdown : goal.returns-in-Miss-clause-countdown
returns-in-Miss-clause-countdown g c = c.alloc_missed.ensures.countdown ∙ c.alloc_hit.ensures.countdown ∙ c.flush.ensures.countdown

pub returns-in-Miss-clause-tally : goal.returns-in-Miss-clause-tally
returns-in-Miss-clause-tally g c = frees-both c.args.shop.now.marks.now c.args.hand.now (record c.flush.new.hand { worker = c.alloc_hit.new.w }) c.alloc_missed.new.hand (frees-both c.args.shop.now.marks.now c.args.hand.now c.flush.new.hand (record c.flush.new.hand { worker = c.alloc_hit.new.w }) c.flush.ensures.tally (frees-none c.args.shop.now.marks.now c.flush.new.hand (record c.flush.new.hand { worker = c.alloc_hit.new.w }) refl refl)) c.alloc_missed.ensures.tally
