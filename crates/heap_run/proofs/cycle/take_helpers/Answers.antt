use Rattle.std.proofs.Common.{◌≡◌, ℕ, ◌+◌, true, false, List, ◌∷◌, length, refl, ap, subst, arith}
use Rattle.std.proofs.lemmas.List.{length_push}
use Rattle.heap_run.specs.Out.{HasOut, RisesFrom, helpers}
use Rattle.heap_run.proofs.Stacks.{of-none, of-split, rises-helpers, rises-low}
use Rattle.heap_run.proofs.Taken.{back-joins, taken-help}
use Rattle.heap_run.proofs.cycle.take_helpers.Goals as goal

pub loop-back-init : goal.loop-back-init
loop-back-init c = record {
  many = omega arith;
  taken = c.requires.taken;
  is = helpers c.args.background;
  outs = c.requires.out;
  still = c.requires.lanes;
  high = rises-helpers c.args.background c.requires.few;
}

pub unreachable-requires : goal.unreachable-requires
unreachable-requires c =
    let i = c.loop-back.invariant in
    let t = c.loop-back-test.true in
    let m = i.many in
    let f : false ≡ true = c.in_default.ensures.variant.1 (omega (arith, c.args.lanes.ok.0, c.loop-back.lanes.ok.0)) in
    cc

pub take_in-requires-clause-back : goal.take_in-requires-clause-back
take_in-requires-clause-back c held =
    let s = c.args.start.now in
    let i = c.loop-back.invariant in
    let split = of-split _ i.is c.loop-back.lanes.items c.pop.new.self.items c.in-Some.lane i.still c.in-Some.ensures.items in
    back-joins c.args.queues.now.riding c.args.shop.now.shared.now c.args.shop.now.ring.now c.args.shop.now.marks.now s c.args.queues.now.events c.args.queues.now.buckets (length s.procs.value.items) split.0 c.args.procs.now.items c.args.given.now c.in-Some.lane c.loop-back.driver c.requires.starts i.taken split.3 held

pub loop-back-preserved : goal.loop-back-preserved
loop-back-preserved c =
    let s = c.args.start.now in
    let i = c.loop-back.invariant in
    let split = of-split _ i.is c.loop-back.lanes.items c.pop.new.self.items c.in-Some.lane i.still c.in-Some.ensures.items in
    let n = split.0 in
    let rest = split.1 in
    let high : RisesFrom 64 (n ∷ rest) = subst (λ (l : List ℕ). RisesFrom 64 l) split.2 i.high in
    let outs : HasOut s.driver.value (n ∷ rest) c.loop-back.driver = subst (λ (l : List ℕ). HasOut s.driver.value l c.loop-back.driver) split.2 i.outs in
    let both = taken-help c.args.queues.now.riding c.args.shop.now.shared.now c.args.shop.now.ring.now c.args.shop.now.marks.now s c.args.queues.now.events c.args.queues.now.buckets (length s.procs.value.items) n rest c.args.procs.now.items c.args.given.now c.in-Some.lane c.loop-back.driver c.take_in.new.driver
    c.requires.starts i.taken outs refl (let f = c.requires.starts.few in let h = high.0 in omega arith) split.3 c.in_ok-take_in.ensures.ran c.in_ok-take_in.ensures.taken in
    record {
      many = (let m = i.many in let l = ap (λ (l : List _). length l) c.in-Some.ensures.items in let k = length_push c.pop.new.self.items c.in-Some.lane in omega arith);
      taken = both.0;
      is = rest;
      outs = both.1;
      still = split.4;
      high = rises-low 64 (n + 1) rest (let h = high.0 in omega arith) high.1;
    }

pub returns-clause-out : goal.returns-clause-out
returns-clause-out c =
    let i = c.loop-back.invariant in
    let t = c.loop-back-test.false in
    let m = i.many in
    let none = of-none _ i.is c.loop-back.lanes.items i.still (omega (arith, c.args.lanes.ok.0)) in
    subst (λ (l : List ℕ). HasOut c.args.start.now.driver.value l c.loop-back.driver) none i.outs

pub returns-clause-taken : goal.returns-clause-taken
returns-clause-taken c = c.loop-back.invariant.taken
