use Rattle.proc_cache.proofs.Finding.{from_here, from_partial, looked_holds, no_memory, then_made, then_refused}
use Rattle.span_set.proofs.Asks.{keeps_works}
use Rattle.span_set.proofs.Tallies.{frees-both}
use Rattle.proc_cache.proofs.refills.take_span.Goals as goal

pub new_span-requires-clause-unpopped : goal.new_span-requires-clause-unpopped
new_span-requires-clause-unpopped g c = (looked_holds c.args.class c.args.hand.now c.cache_span.new.hand c.requires.class c.requires.idle c.in-Ok-NeedFresh.swept c.in-Ok-NeedFresh.tried (rw c.in-Ok-NeedFresh.field-0-is at c.in-Ok-NeedFresh.ensures.caches)).popped

pub returns-in-Err-new_span-clause-comes : goal.returns-in-Err-new_span-clause-comes
returns-in-Err-new_span-clause-comes g c = then_refused c.args.class c.args.hand.now c.cache_span.new.hand c.requires.class c.requires.idle c.in-Ok-NeedFresh.swept c.in-Ok-NeedFresh.tried (rw c.in-Ok-NeedFresh.field-0-is at c.in-Ok-NeedFresh.ensures.caches)
    c.args.pages c.requires.pages c.new_span.new.hand c.in-Err-new_span.refused c.in-Err-new_span.ensures.did

pub returns-in-Ok-SweptPartial-clause-comes : goal.returns-in-Ok-SweptPartial-clause-comes
returns-in-Ok-SweptPartial-clause-comes g c = from_partial c.args.class c.args.hand.now c.cache_span.new.hand c.requires.class c.requires.idle c.in-Ok-SweptPartial.body (rw c.in-Ok-SweptPartial.field-0-is at c.in-Ok-SweptPartial.ensures.caches)

pub returns-in-Ok-SweptHere-clause-comes : goal.returns-in-Ok-SweptHere-clause-comes
returns-in-Ok-SweptHere-clause-comes g c = from_here c.args.class c.args.hand.now c.cache_span.new.hand c.requires.class c.requires.idle c.in-Ok-SweptHere.body (rw c.in-Ok-SweptHere.field-0-is at c.in-Ok-SweptHere.ensures.caches)

pub returns-in-Ok-clause-comes : goal.returns-in-Ok-clause-comes
returns-in-Ok-clause-comes g c = then_made c.args.class c.args.hand.now c.cache_span.new.hand c.requires.class c.requires.idle c.in-Ok-NeedFresh.swept c.in-Ok-NeedFresh.tried (rw c.in-Ok-NeedFresh.field-0-is at c.in-Ok-NeedFresh.ensures.caches)
    c.args.pages c.requires.pages c.new_span.new.hand c.in-Ok.body c.in-Ok.ensures.did

pub returns-in-Err-clause-comes : goal.returns-in-Err-clause-comes
returns-in-Err-clause-comes g c = no_memory c.args.class c.args.hand.now c.cache_span.new.hand c.requires.class c.requires.idle _ c.in-Err.ensures.caches

pub new_span-requires-clause-works : goal.new_span-requires-clause-works
new_span-requires-clause-works g c = let d = rw c.in-Ok-NeedFresh.field-0-is at c.in-Ok-NeedFresh.ensures.caches in
    keeps_works c.args.shop.now.shared.now c.args.shop.now.ring.now c.args.shop.now.marks.now c.args.hand.now c.cache_span.new.hand d.1.keeps c.cache_span.ensures.tally c.requires.works

pub returns-in-Err-new_span-clause-tally : goal.returns-in-Err-new_span-clause-tally
returns-in-Err-new_span-clause-tally g c = frees-both c.args.shop.now.marks.now c.args.hand.now c.cache_span.new.hand c.new_span.new.hand c.cache_span.ensures.tally c.new_span.ensures.tally

pub returns-in-Ok-clause-tally : goal.returns-in-Ok-clause-tally
returns-in-Ok-clause-tally g c = frees-both c.args.shop.now.marks.now c.args.hand.now c.cache_span.new.hand c.new_span.new.hand c.cache_span.ensures.tally c.new_span.ensures.tally
