use Rattle.std.proofs.Common.{refl}
use Rattle.proc_cache.proofs.Flushing.{span_flushed}
use Rattle.span_set.proofs.Tallies.{frees-both, frees-none}
use Rattle.proc_cache.proofs.flushes.flush_span.Goals as goal

pub returns-clause-flushes : goal.returns-clause-flushes
returns-clause-flushes g c = span_flushed c.args.shop.now.marks.now c.args.body c.args.hand.now c.settle.new.hand c.uncache.new.w c.settle.result c.requires.idle c.in-Stale.ensures.1 c.settle.ensures.did

pub returns-clause-tally : goal.returns-clause-tally
returns-clause-tally g c = frees-both c.args.shop.now.marks.now c.args.hand.now (record c.args.hand.now { worker = c.uncache.new.w }) c.settle.new.hand (frees-none c.args.shop.now.marks.now c.args.hand.now (record c.args.hand.now { worker = c.uncache.new.w }) refl refl) c.settle.ensures.tally
