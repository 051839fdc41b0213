use Rattle.std.proofs.Common.{◌≡◌, ℕ, length, subst, arith}
use Rattle.heap_run.specs.Out.{AreStillOut}
use Rattle.heap_run.proofs.cycle.take_processors.Goals as goal

pub take_processor-requires-clause-number : goal.take_processor-requires-clause-number
take_processor-requires-clause-number c =
    let t = c.loop-number-test.true in
    let l = c.requires.out.taken.lists in
    let a = c.requires.starts.answers in
    omega (arith, c.args.given.now.answers.ok.0)

pub returns : goal.returns
returns c =
    let t = c.loop-number-test.false in
    let e = c.loop-number.auto.number-end in
    let l = c.requires.out.taken.lists in
    let a = c.requires.starts.answers in
    let all : c.loop-number.number ≡ length c.args.start.now.procs.value.items = omega (arith, c.args.given.now.answers.ok.0) in
    record { out = subst (λ (n : ℕ). AreStillOut c.args.queues.now.riding c.args.start.now c.args.shop.now.marks.now c.args.queues.now.events c.args.queues.now.buckets c.args.background n c.loop-number.out.lanes.items c.loop-number.out.resting.items c.loop-number.procs.items c.loop-number.given c.loop-number.driver) all c.loop-number.invariant }
