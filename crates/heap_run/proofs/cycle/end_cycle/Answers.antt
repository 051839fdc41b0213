use Rattle.std.proofs.Common.{◌∙◌, ◌≤◌, ap, length, refl, sym, arith}
use Rattle.span_laws.specs.Views.{Seen}
use Rattle.span_set.specs.declared.hand.Hand.{Hand}
use Rattle.sweeper.proofs.Again.{stays_works}
use Rattle.heap_run.specs.Counts.{Counts, no_counts}
use Rattle.heap_run.proofs.Counting.{counts-as, counts-drives, counts-may, counts-then, frees-counts}
use Rattle.heap_run.proofs.Settling.{HasFlushedAll, IsToldIn, driver-idle, drives-driver, driving-now, ends-room, ends-swept, may-settle, settled, swept-all, told-ends}
use Rattle.heap_run.proofs.cycle.end_cycle.Goals as goal

pub finish-requires-clause-unclaimed : goal.finish-requires-clause-unclaimed
finish-requires-clause-unclaimed g c = (driver-idle c.args.driver.now.worker c.args.procs.now.items c.args.driver.now c.requires.parts c.requires.driving).claimed

pub finish-requires-clause-unpopped : goal.finish-requires-clause-unpopped
finish-requires-clause-unpopped g c = (driver-idle c.args.driver.now.worker c.args.procs.now.items c.args.driver.now c.requires.parts c.requires.driving).popped

pub flush_processors-requires-clause-driving : goal.flush_processors-requires-clause-driving
flush_processors-requires-clause-driving g c =
    let few : length c.args.procs.now.items ≤ 64 = (let f = c.requires.few in omega (arith, c.args.procs.now.ok.0)) in
    let all = swept-all c.args.driver.now.worker c.args.procs.now.items c.args.driver.now c.finish.new.driver c.requires.parts few c.requires.driving c.requires.collecting c.in_ok-finish.ensures.did in
    driving-now c.args.driver.now.worker c.args.procs.now.items c.finish.new.driver all.driving

pub flush_processors-requires-clause-collecting : goal.flush_processors-requires-clause-collecting
flush_processors-requires-clause-collecting g c =
    let few : length c.args.procs.now.items ≤ 64 = (let f = c.requires.few in omega (arith, c.args.procs.now.ok.0)) in
    let all = swept-all c.args.driver.now.worker c.args.procs.now.items c.args.driver.now c.finish.new.driver c.requires.parts few c.requires.driving c.requires.collecting c.in_ok-finish.ensures.did in
    all.collecting

pub end_cycle-requires-clause-may : goal.end_cycle-requires-clause-may
end_cycle-requires-clause-may g c =
    let few : length c.args.procs.now.items ≤ 64 = (let f = c.requires.few in omega (arith, c.args.procs.now.ok.0)) in
    let d1 = c.finish.new.driver in
    let d2 = c.flush_processors.new.driver in
    let procs = c.flush_processors.new.procs.items in
    let f = c.in_ok-flush_processors.ensures in
    let swept = swept-all c.args.driver.now.worker c.args.procs.now.items c.args.driver.now d1 c.requires.parts few c.requires.driving c.requires.collecting c.in_ok-finish.ensures.did in
    let flushed : HasFlushedAll procs d1 d2 = record {
      driving = f.driving;
      collecting = f.collecting;
      keeps = f.keeps;
      flushed = λ i lt. f.flushed i (omega (arith, c.flush_processors.new.procs.ok.0));
      own = f.own;
    } in
    let ends2 = ends-swept c.args.driver.now.worker c.args.procs.now.items procs c.args.driver.now d1 d2 swept flushed in
    let room = ends-room c.args.driver.now.worker procs c.args.driver.now d2 c.requires.parts ends2 in
    let d3 : Hand = record { worker = c.scavenge_to.new.w; notes = d2.notes; tally = d2.tally } in
    let told : IsToldIn d2 d3 = record { worker = c.scavenge_to.ensures.same; notes = refl } in
    let ends3 = told-ends c.args.driver.now.worker procs c.args.driver.now d2 d3 ends2 told in
    may-settle c.args.driver.now.worker procs d3 (ends-room c.args.driver.now.worker procs c.args.driver.now d3 c.requires.parts ends3).0 ends3.driving ends3.flushed

pub returns : goal.returns
returns g c =
    let few : length c.args.procs.now.items ≤ 64 = (let f = c.requires.few in omega (arith, c.args.procs.now.ok.0)) in
    let d1 = c.finish.new.driver in
    let d2 = c.flush_processors.new.driver in
    let procs = c.flush_processors.new.procs.items in
    let f = c.in_ok-flush_processors.ensures in
    let swept = swept-all c.args.driver.now.worker c.args.procs.now.items c.args.driver.now d1 c.requires.parts few c.requires.driving c.requires.collecting c.in_ok-finish.ensures.did in
    let flushed : HasFlushedAll procs d1 d2 = record {
      driving = f.driving;
      collecting = f.collecting;
      keeps = f.keeps;
      flushed = λ i lt. f.flushed i (omega (arith, c.flush_processors.new.procs.ok.0));
      own = f.own;
    } in
    let ends2 = ends-swept c.args.driver.now.worker c.args.procs.now.items procs c.args.driver.now d1 d2 swept flushed in
    let room = ends-room c.args.driver.now.worker procs c.args.driver.now d2 c.requires.parts ends2 in
    let d3 : Hand = record { worker = c.scavenge_to.new.w; notes = d2.notes; tally = d2.tally } in
    let told : IsToldIn d2 d3 = record { worker = c.scavenge_to.ensures.same; notes = refl } in
    let ends3 = told-ends c.args.driver.now.worker procs c.args.driver.now d2 d3 ends2 told in
    let room3 = ends-room c.args.driver.now.worker procs c.args.driver.now d3 c.requires.parts ends3 in
    let d4 : Hand = record { worker = c.end_cycle.new.driver; notes = d2.notes; tally = d2.tally } in
    let told4 : IsToldIn d3 d4 = record { worker = c.end_cycle.ensures.2 ∙ ap (λ (w : Seen). record d3.worker { journal = w.journal }) (sym c.end_cycle.ensures.2); notes = refl } in
    let ends4 = told-ends c.args.driver.now.worker procs c.args.driver.now d3 d4 ends3 told4 in
    let counts1 : Counts c.args.shop.now.marks.now no_counts c.args.driver.now d1 = frees-counts c.args.shop.now.marks.now c.args.driver.now d1 c.in_ok-finish.ensures.tally in
    let counts2 : Counts c.args.shop.now.marks.now no_counts c.args.driver.now d2 = counts-then c.args.shop.now.marks.now no_counts no_counts no_counts c.args.driver.now d1 d2 counts1 f.counts (λ k. refl) in
    record {
      driving = ends4.driving;
      procs = f.procs;
      collecting = ends4.collecting;
      keeps = ends4.keeps;
      flushed = ends4.flushed;
      countdowns = f.countdowns;
      counts = counts-as c.args.shop.now.marks.now no_counts c.args.driver.now d2 c.args.driver.now d4 counts2 refl refl refl refl;
      settled = settled c.scavenge_to.new.w c.end_cycle.new.driver (c.in_ok-scavenge_to.ensures.scavenged (drives-driver d2.worker ends2.driving.number)) c.end_cycle.ensures;
    }

pub flush_processors-requires-clause-works : goal.flush_processors-requires-clause-works
flush_processors-requires-clause-works g c = let e = c.in_ok-finish.ensures in stays_works c.args.shop.now.shared.now c.args.shop.now.ring.now c.args.shop.now.marks.now c.args.driver.now c.finish.new.driver e.did.does.stays e.tally c.requires.works

pub flush_processors-requires-clause-drives : goal.flush_processors-requires-clause-drives
flush_processors-requires-clause-drives g c = counts-drives c.args.shop.now.marks.now no_counts c.args.driver.now c.finish.new.driver (frees-counts c.args.shop.now.marks.now c.args.driver.now c.finish.new.driver c.in_ok-finish.ensures.tally) ∙ c.requires.drives
