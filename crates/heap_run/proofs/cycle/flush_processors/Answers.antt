use Rattle.std.proofs.Common.{◌≡◌, ◌∙◌, ◌<◌, length, get_or, refl, arith}
use Rattle.std.proofs.lemmas.List.{get_or_default}
use Rattle.heap_run.specs.Counts.{no_counts}
use Rattle.heap_run.specs.Turns.{SaysNone, TookTurn, no_cache}
use Rattle.heap_run.proofs.Counting.{counts-drives, counts-may, counts-none, counts-then}
use Rattle.heap_run.proofs.Sampling.{keeps-more}
use Rattle.heap_run.proofs.Driving.{collecting-turn, driving-turn, flushed-more, keeps-trans, keeps-turn, placed-caching, placed-turn, proc-caching, proc-number}
use Rattle.heap_run.proofs.Working.{same-works}
use Rattle.heap_run.proofs.cycle.flush_processors.Goals as goal

pub loop-p-init : goal.loop-p-init
loop-p-init g c = record {
  driving = c.requires.driving;
  long = refl;
  collecting = c.requires.collecting;
  keeps = λ w events answers was. was;
  flushed = λ i low. absurd (omega arith);
  countdowns = λ w. refl;
  counts = counts-none c.args.shop.now.marks.now c.args.driver.now c.args.driver.now refl refl;
  own = refl;
}

pub flush_processor-requires-clause-works : goal.flush_processor-requires-clause-works
flush_processor-requires-clause-works g c = let i = c.loop-p.invariant in same-works c.args.shop.now.shared.now c.args.shop.now.ring.now c.args.shop.now.marks.now no_counts c.args.driver.now c.loop-p.driver i.driving.same i.counts c.requires.works

pub flush_processor-requires-clause-drives : goal.flush_processor-requires-clause-drives
flush_processor-requires-clause-drives g c = counts-drives c.args.shop.now.marks.now no_counts c.args.driver.now c.loop-p.driver c.loop-p.invariant.counts ∙ c.requires.drives

pub flush_processor-requires-clause-caching : goal.flush_processor-requires-clause-caching
flush_processor-requires-clause-caching g c =
    let i = c.loop-p.invariant in
    let inside : c.loop-p.p < length c.loop-p.procs.items = (let l = i.long in let t = c.loop-p-test.true in omega (arith, c.loop-p.procs.ok.0)) in
    let is : c.index_mut.result.now ≡ get_or c.loop-p.procs.items c.loop-p.p no_cache = c.index_mut.ensures.value ∙ get_or_default c.loop-p.procs.items c.loop-p.p _ no_cache inside in
    proc-caching c.args.driver.now.worker c.loop-p.procs.items c.loop-p.driver c.index_mut.result.now c.loop-p.p i.driving inside is

pub loop-p-preserved : goal.loop-p-preserved
loop-p-preserved g c =
    let i = c.loop-p.invariant in
    let inside : c.loop-p.p < length c.loop-p.procs.items = (let l = i.long in let t = c.loop-p-test.true in omega (arith, c.loop-p.procs.ok.0)) in
    let is : c.index_mut.result.now ≡ get_or c.loop-p.procs.items c.loop-p.p no_cache = c.index_mut.ensures.value ∙ get_or_default c.loop-p.procs.items c.loop-p.p _ no_cache inside in
    let number = proc-number c.args.driver.now.worker c.loop-p.procs.items c.loop-p.driver c.index_mut.result.now c.loop-p.p i.driving inside is in
    let turn : TookTurn c.loop-p.p SaysNone c.loop-p.driver c.flush_processor.new.driver
    = placed-turn SaysNone c.args.driver.now.worker c.loop-p.procs.items c.loop-p.driver c.flush_processor.new.driver c.index_mut.result.now c.loop-p.p i.driving inside is c.in_ok-flush_processor.ensures.turn in
    let caching = placed-caching c.args.driver.now.worker c.loop-p.procs.items c.loop-p.driver c.flush_processor.new.driver c.index_mut.result.now c.flush_processor.new.proc c.loop-p.p i.driving inside is c.in_ok-flush_processor.ensures.caching in
    record {
      driving = driving-turn SaysNone c.args.driver.now.worker c.loop-p.procs.items c.loop-p.p c.flush_processor.new.proc c.loop-p.driver c.flush_processor.new.driver i.driving turn inside
          (c.in_ok-flush_processor.ensures.number ∙ number) caching;
      long = i.long;
      collecting = collecting-turn SaysNone c.loop-p.p c.loop-p.driver c.flush_processor.new.driver turn i.collecting;
      keeps = keeps-trans c.args.driver.now.worker c.loop-p.driver.worker c.flush_processor.new.driver.worker i.keeps (keeps-turn c.loop-p.p c.loop-p.driver c.flush_processor.new.driver turn);
      flushed = flushed-more c.loop-p.procs.items c.args.driver.now.worker.view.generation c.loop-p.p c.flush_processor.new.proc inside i.flushed (c.in_ok-flush_processor.ensures.flushed ∙ i.driving.same.generation);
      countdowns = keeps-more c.args.procs.now.items c.loop-p.procs.items c.loop-p.p c.index_mut.result.now c.flush_processor.new.proc inside is c.in_ok-flush_processor.ensures.countdown i.countdowns;
      counts = counts-then c.args.shop.now.marks.now no_counts no_counts no_counts c.args.driver.now c.loop-p.driver c.flush_processor.new.driver i.counts c.in_ok-flush_processor.ensures.counts (λ k. refl);
      own = turn.others 69 (λ q. (let f = c.requires.few in let l = i.long in let t = c.loop-p-test.true in omega arith)) ∙ i.own;
    }

pub returns-clause-countdowns : goal.returns-clause-countdowns
returns-clause-countdowns g c = λ w low. c.loop-p.invariant.countdowns w
