use Rattle.heap_run.specs.Turns.{SaysNone}
use Rattle.heap_run.proofs.Acted.{acted-as, works-acted}
use Rattle.heap_run.proofs.Counting.{frees-counts}
use Rattle.heap_run.proofs.lanes.sweep.Goals as goal

pub returns : goal.returns
returns g c =
    let works = works-acted _ c.args.hand.now c.finish.new.driver c.in_ok-finish.ensures.did (λ said p. p.0.takes_none.unmissed) c.requires.idle in
    record {
      acted = acted-as _ SaysNone c.args.hand.now c.finish.new.driver works (λ said p. p.0);
      cached = c.in_ok-finish.ensures.did.does.stays.cached;
      counts = frees-counts c.args.shop.now.marks.now c.args.hand.now c.finish.new.driver c.in_ok-finish.ensures.tally;
    }
