use Rattle.std.proofs.Common.{ap, refl}
use Rattle.span_laws.specs.Views.{Seen}
use Rattle.span_set.specs.declared.hand.Hand.{Hand}
use Rattle.heap_run.proofs.Counting.{counts-none}
use Rattle.heap_run.proofs.Settling.{known-acted}
use Rattle.heap_run.proofs.lanes.scavenge.Goals as goal

pub returns : goal.returns
returns g c =
    let new : Hand = record { worker = c.scavenge_to.new.w; notes = c.args.hand.now.notes; tally = c.args.hand.now.tally } in
    record {
      acted = known-acted c.args.hand.now new c.scavenge_to.ensures.same refl c.requires.idle;
      cached = ap (λ (w : Seen). w.view.own.cached) c.scavenge_to.ensures.same;
      counts = counts-none c.args.shop.now.marks.now c.args.hand.now new refl refl;
    }
