use Rattle.std.proofs.Common.{refl, sym, ◌∙◌, inr}
use Rattle.span_set.specs.declared.hand.Hand.{Hand}
use Rattle.heap_run.proofs.OwnBlocks.{block-settles, has-cache, settles-acted, settles-caching}
use Rattle.heap_run.proofs.lanes.settle.Goals as goal

pub returns-clause-acted : goal.returns-clause-acted
returns-clause-acted g c =
    let a = c.args.hand.now in
    let b : Hand = record { worker = c.settle.new.w; notes = a.notes; tally = a.tally } in
    settles-acted a b c.settle.ensures.settles refl c.requires.idle

pub returns-clause-caching : goal.returns-clause-caching
returns-clause-caching g c =
    let a = c.args.hand.now in
    let b : Hand = record { worker = c.settle.new.w; notes = a.notes; tally = a.tally } in
    settles-caching a b c.settle.ensures.settles

pub returns-clause-settled : goal.returns-clause-settled
returns-clause-settled g c =
    let k = has-cache _ _ c.in-Some.field-0 (sym c.cached_pages.ensures.pages ∙ c.in-Some.is) in
    inr (block-settles c.args.hand.now.worker c.settle.new.w k.0 k.1 c.settle.ensures.settles)
