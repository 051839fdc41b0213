use Rattle.std.proofs.Common.{◌≡◌, ℕ, ◌∙◌, List, [], reverse, get_or, refl, ap, subst}
use Rattle.trace_reader.specs.declared.trace.Event.{Event}
use Rattle.heap_run.specs.Gains.{behind}
use Rattle.heap_run.specs.Lanes.{AnswersTurn}
use Rattle.heap_run.specs.Riding.{asked_of, given_of}
use Rattle.span_set.specs.declared.hand.Hand.{Hand}
use Rattle.heap_run.specs.declared.lanes.Turn.{Turn}
use Rattle.heap_run.proofs.Counting.{counts-as}
use Rattle.heap_run.proofs.OwnBlocks.{first-settled, settled-then}
use Rattle.heap_run.proofs.lanes.Turn.run.Goals as goal

pub returns : goal.returns
returns g c =
    let m = c.args.shop.now.marks.now in
    let old = c.args.self.now in
    let new : Turn = record { proc = c.answer_all.new.proc; answers = c.answer_all.new.answers; sampled = c.answer_all.new.sampled } in
    let queue = get_or c.args.queues.now.events old.proc.number [] in
    let events : c.of-events.result.now ≡ queue = c.of-events.ensures ∙ ap (λ (k : ℕ). get_or c.args.queues.now.events k []) c.number-number.ensures in
    let buckets : c.of-buckets.result.now ≡ get_or c.args.queues.now.buckets old.proc.number [] = c.of-buckets.ensures ∙ ap (λ (k : ℕ). get_or c.args.queues.now.buckets k []) c.number-number.ensures in
    let did = c.in_ok-answer_all.ensures in
    let turned = reverse c.of-events.result.now in
    let got = reverse (behind old.answers new.answers) in
    let asked = asked_of c.args.queues.now.riding turned got in
    let told = given_of c.args.queues.now.riding turned got in
    let last = c.settle.ensures in
    let mid : Hand = c.answer_all.new.hand in
    let end : Hand = c.settle.new.hand in
    let ran : AnswersTurn c.args.queues.now.riding m c.of-events.result.now c.of-buckets.result.now c.args.hand.now end old new = record {
      acted = settled-then asked told c.args.hand.now mid end did.acted last.acted;
      riders = did.riders;
      caching = last.caching c.args.hand.now.worker.view.generation new.proc did.caching;
      number = did.number;
      sampled = did.sampled;
      spent_is = did.spent;
      counts = counts-as m _ c.args.hand.now mid c.args.hand.now end did.counts refl refl (ap (λ n. n.items) last.same.0) last.same.1;
      flushed = first-settled asked old.proc new.proc c.args.hand.now mid end did.flushed last.acted;
      settled = last.settled;
      kept = did.kept.0;
      kept_too = did.kept.1;
    } in
    subst (λ (l : List ℕ). AnswersTurn c.args.queues.now.riding m queue l c.args.hand.now end old new) buckets
    (subst (λ (l : List Event). AnswersTurn c.args.queues.now.riding m l c.of-buckets.result.now c.args.hand.now end old new) events ran)
