use Rattle.std.proofs.Common.{◌∙◌, ◌<◌, ◌++◌, [], ◌∷◌, List, false, length, get_or, ap, arith}
use Rattle.std.proofs.lemmas.List.{get_or_default}
use Rattle.trace_reader.specs.declared.trace.Event.{Event}
use Rattle.heap_run.proofs.Queued.{parts-more}
use Rattle.heap_run.proofs.queues.parts_of.Goals as goal

pub loop-at-preserved : goal.loop-at-preserved
loop-at-preserved g c =
    let d : Event = record { proc = 0; size = 0; scan = false; stack = 0 } in
    let e = get_or c.args.events.now c.loop-at.at d in
    let i = c.loop-at.invariant in
    let below = c.requires.below c.loop-at.at d c.loop-at-test.true in
    let inside : e.proc < length c.loop-at.lists.items = (let l = i.long in omega (arith, c.loop-at.lists.ok.0)) in
    let here = get_or_default c.args.events.now c.loop-at.at d e c.loop-at-test.true in
    record {
      long = i.long;
      each = λ w. parts-more c.loop-at.lists.items c.push.new.self c.args.events.now c.args.items.now c.loop-at.at e c.index-items-at.result c.loop-at-test.true c.requires.sizes here c.index-items-at.is inside i.each
          (c.in_ok-push.ensures.ok ∙ ap (λ (l : List _). l ++ c.index-items-at.result ∷ []) (c.index_mut.ensures.value ∙ get_or_default c.loop-at.lists.items e.proc _ [] inside)) w;
    }
