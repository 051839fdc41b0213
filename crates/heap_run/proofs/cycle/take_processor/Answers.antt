use Rattle.std.proofs.Common.{◌≡◌, true, false, List, length, refl, sym, ◌∙◌, ap, arith}
use Rattle.std.specs.Prelude.{◌==◌}
use Rattle.heap_run.proofs.Taken.{back-joins, back-next, back-rest, back-task, next-back, some-back, some-rest}
use Rattle.heap_run.proofs.cycle.take_processor.Goals as goal

pub unreachable-requires : goal.unreachable-requires
unreachable-requires c =
    let none = ap (λ (l : List _). length l == 0) (sym c.of.ensures) ∙ sym c.is_empty.ensures ∙ c.if-is_empty.true in
    let some = some-rest c.args.queues.now.riding c.args.shop.now.marks.now c.args.start.now c.args.queues.now.events c.args.queues.now.buckets c.args.background c.args.number c.args.out.now.lanes.items c.args.out.now.resting.items c.args.procs.now.items c.args.given.now c.args.driver.now c.requires.out c.requires.number none in
    let f : false ≡ true = c.in_default.ensures.variant.1 (omega (arith, c.args.out.now.resting.ok.0)) in
    cc

pub returns-then-is_empty : goal.returns-then-is_empty
returns-then-is_empty c =
    let none = ap (λ (l : List _). length l == 0) (sym c.of.ensures) ∙ sym c.is_empty.ensures ∙ c.if-is_empty.true in
    record {
      out = back-rest c.args.queues.now.riding c.args.shop.now.shared.now c.args.shop.now.ring.now c.args.shop.now.marks.now c.args.start.now c.args.queues.now.events c.args.queues.now.buckets c.args.background c.args.number c.args.out.now.lanes.items c.args.out.now.resting.items c.pop.new.self.items c.args.procs.now.items c.push.new.self.items c.args.given.now c.in-Some.proc c.args.driver.now
          c.requires.starts c.requires.out c.requires.number none c.in-Some.ensures.items c.in_ok-push.ensures.items;
    }

pub unreachable-requires-in_default-pop : goal.unreachable-requires-in_default-pop
unreachable-requires-in_default-pop c =
    let busy = ap (λ (l : List _). length l == 0) (sym c.of.ensures) ∙ sym c.is_empty.ensures ∙ c.if-is_empty.false in
    let some = some-back c.args.queues.now.riding c.args.shop.now.marks.now c.args.start.now c.args.queues.now.events c.args.queues.now.buckets c.args.background c.args.number c.args.out.now.lanes.items c.args.out.now.resting.items c.args.procs.now.items c.args.given.now c.args.driver.now c.requires.out c.requires.number busy in
    let f : false ≡ true = c.in_default-pop.ensures.variant.1 (omega (arith, c.args.out.now.lanes.ok.0)) in
    cc

pub take_in-requires-clause-back : goal.take_in-requires-clause-back
take_in-requires-clause-back c held =
    let busy = ap (λ (l : List _). length l == 0) (sym c.of.ensures) ∙ sym c.is_empty.ensures ∙ c.if-is_empty.false in
    let s = c.args.start.now in
    let next = next-back c.args.queues.now.riding c.args.shop.now.marks.now s c.args.queues.now.events c.args.queues.now.buckets c.args.background c.args.number c.args.out.now.lanes.items c.pop-2.new.self.items c.args.out.now.resting.items c.args.procs.now.items c.args.given.now c.in-Some-pop.lane c.args.driver.now c.requires.out c.requires.number busy c.in-Some-pop.ensures.items in
    back-joins c.args.queues.now.riding c.args.shop.now.shared.now c.args.shop.now.ring.now c.args.shop.now.marks.now s c.args.queues.now.events c.args.queues.now.buckets c.args.number c.args.number c.args.procs.now.items c.args.given.now c.in-Some-pop.lane c.args.driver.now c.requires.starts c.requires.out.taken next.0 held

pub unreachable-requires-in_default-task : goal.unreachable-requires-in_default-task
unreachable-requires-in_default-task c =
    let busy = ap (λ (l : List _). length l == 0) (sym c.of.ensures) ∙ sym c.is_empty.ensures ∙ c.if-is_empty.false in
    let s = c.args.start.now in
    let next = next-back c.args.queues.now.riding c.args.shop.now.marks.now s c.args.queues.now.events c.args.queues.now.buckets c.args.background c.args.number c.args.out.now.lanes.items c.pop-2.new.self.items c.args.out.now.resting.items c.args.procs.now.items c.args.given.now c.in-Some-pop.lane c.args.driver.now c.requires.out c.requires.number busy c.in-Some-pop.ensures.items in
    let task = back-task c.args.queues.now.riding s c.args.shop.now.marks.now c.args.queues.now.events c.args.queues.now.buckets c.args.number c.in-Some-pop.lane next.0 c.requires.number c.in_ok-task.ensures.ran in
    c.in_default-task.not-Allocate task.0 (c.in_ok-task.ensures.task ∙ task.1)

pub returns : goal.returns
returns c =
    let busy = ap (λ (l : List _). length l == 0) (sym c.of.ensures) ∙ sym c.is_empty.ensures ∙ c.if-is_empty.false in
    let s = c.args.start.now in
    record {
      out = back-next c.args.queues.now.riding c.args.shop.now.shared.now c.args.shop.now.ring.now c.args.shop.now.marks.now s c.args.queues.now.events c.args.queues.now.buckets c.args.background c.args.number c.args.out.now.lanes.items c.pop-2.new.self.items c.args.out.now.resting.items c.args.procs.now.items c.push-2.new.self.items c.args.given.now _
          c.in-Some-pop.lane c.in-Allocate.turn c.args.driver.now c.take_in.new.driver c.requires.starts c.requires.out c.requires.number busy c.in-Some-pop.ensures.items c.in_ok-task.ensures.ran (sym c.in_ok-task.ensures.task ∙ c.in-Allocate.is) c.in_ok-task.ensures.taken c.in_ok-push-2.ensures.items refl refl;
    }
