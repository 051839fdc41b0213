use Rattle.std.proofs.Common.{◌∙◌, sym, add-zero, arith}
use Rattle.heap_run.specs.Counts.{no_counts}
use Rattle.heap_run.specs.Gains.{gains}
use Rattle.heap_run.proofs.Counting.{counts-drives, counts-may, counts-then}
use Rattle.heap_run.proofs.Sampling.{sampled-keeps}
use Rattle.heap_run.proofs.Settling.{driving-from, driving-now}
use Rattle.heap_run.proofs.Working.{same-works}
use Rattle.heap_run.proofs.cycle.run_workers.Goals as goal

pub end_cycle-requires-clause-works : goal.end_cycle-requires-clause-works
end_cycle-requires-clause-works g c = let e = c.in_ok-run_beside.ensures in same-works c.args.shop.now.shared.now c.args.shop.now.ring.now c.args.shop.now.marks.now _ c.args.driver.now c.run_beside.new.driver e.driving.same e.counts c.requires.works

pub end_cycle-requires-clause-parts : goal.end_cycle-requires-clause-parts
end_cycle-requires-clause-parts g c = c.in_ok-run_beside.ensures.driving.same.parts ∙ c.requires.parts

pub end_cycle-requires-clause-driving : goal.end_cycle-requires-clause-driving
end_cycle-requires-clause-driving g c = driving-now c.args.driver.now.worker c.run_beside.new.procs.items c.run_beside.new.driver c.in_ok-run_beside.ensures.driving

pub end_cycle-requires-clause-drives : goal.end_cycle-requires-clause-drives
end_cycle-requires-clause-drives g c = counts-drives c.args.shop.now.marks.now _ c.args.driver.now c.run_beside.new.driver c.in_ok-run_beside.ensures.counts ∙ c.requires.drives

pub returns-clause-ran : goal.returns-clause-ran
returns-clause-ran g c =
    let mid = c.in_ok-run_beside.ensures in
    let e = c.in_ok-end_cycle.ensures in
    record {
      driving = driving-from c.args.driver.now.worker c.run_beside.new.driver.worker c.end_cycle.new.procs.items c.end_cycle.new.driver mid.driving.same e.driving;
      collecting = e.collecting;
      answered = λ w. e.keeps w _ _ (mid.answered w);
      riders = mid.riders;
      flushed = e.flushed;
      settled = e.settled;
    }

pub returns-clause-sampled : goal.returns-clause-sampled
returns-clause-sampled g c =
    sampled-keeps c.args.queues.riding c.args.queues.events (gains c.args.given.now.answers.items c.run_beside.new.given.answers.items) (gains c.args.given.now.sampled.items c.run_beside.new.given.sampled.items) c.args.procs.now.items c.run_beside.new.procs.items c.end_cycle.new.procs.items
    c.in_ok-run_beside.ensures.sampled (let n = c.in_ok-run_beside.ensures.procs in omega (arith, c.args.procs.now.ok.0, c.run_beside.new.procs.ok.0)) c.in_ok-end_cycle.ensures.countdowns

pub returns-clause-counts : goal.returns-clause-counts
returns-clause-counts g c =
    counts-then c.args.shop.now.marks.now _ no_counts _ c.args.driver.now c.run_beside.new.driver c.end_cycle.new.driver c.in_ok-run_beside.ensures.counts c.in_ok-end_cycle.ensures.counts (λ k. sym (add-zero _))
