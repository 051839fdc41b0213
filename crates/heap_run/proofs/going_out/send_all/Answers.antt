use Rattle.std.proofs.Common.{◌≡◌, ℕ, ◌+◌, ◌-◌, length, ap, subst, arith}
use Rattle.heap_run.specs.Out.{AreSent}
use Rattle.heap_run.proofs.Sending.{sent-all}
use Rattle.heap_run.proofs.going_out.send_all.Goals as goal

pub loop-sent-init : goal.loop-sent-init
loop-sent-init c =
    sent-all c.args.start.now c.args.queues.now.events c.args.background (c.len-count.result - 0) c.args.procs.now.items c.args.given.now c.send_helpers.new.driver c.send_helpers.new.lanes.items c.new.result.items c.new.ensures.items
    (let p = ap (λ (v : _). v.items) c.requires.procs in p) c.requires.given (let p = ap (λ (v : _). length v.items) c.requires.procs in let l = c.len-count.ensures in omega (arith, c.args.procs.now.ok.0)) c.in_ok-send_helpers.ensures.sent c.in_ok-send_helpers.ensures.lanes

pub send_processor-requires-clause-number : goal.send_processor-requires-clause-number
send_processor-requires-clause-number c =
    let n = ap (λ (v : _). length v.items) c.requires.procs in
    let t = c.loop-sent-test.true in
    omega (arith, c.args.procs.now.ok.0)

pub send_processor-requires-clause-sent : goal.send_processor-requires-clause-sent
send_processor-requires-clause-sent c =
    let t = c.loop-sent-test.true in
    let k : c.len-count.result - c.loop-sent.sent ≡ c.len-count.result - 1 - c.loop-sent.sent + 1 = omega arith in
    subst (λ (n : ℕ). AreSent c.args.start.now c.args.queues.now.events c.args.background n c.loop-sent.out.lanes.items c.loop-sent.out.resting.items c.loop-sent.procs.items c.loop-sent.given c.loop-sent.driver) k c.loop-sent.invariant

pub loop-sent-preserved : goal.loop-sent-preserved
loop-sent-preserved c =
    let t = c.loop-sent-test.true in
    let k : c.len-count.result - 1 - c.loop-sent.sent ≡ c.len-count.result - (c.loop-sent.sent + 1) = omega arith in
    subst (λ (n : ℕ). AreSent c.args.start.now c.args.queues.now.events c.args.background n c.send_processor.new.out.lanes.items c.send_processor.new.out.resting.items c.send_processor.new.procs.items c.send_processor.new.given c.send_processor.new.driver) k c.in_ok-send_processor.ensures.sent

pub returns : goal.returns
returns c =
    let t = c.loop-sent-test.false in
    let k : c.len-count.result - c.loop-sent.sent ≡ 0 = omega arith in
    record { sent = subst (λ (n : ℕ). AreSent c.args.start.now c.args.queues.now.events c.args.background n c.loop-sent.out.lanes.items c.loop-sent.out.resting.items c.loop-sent.procs.items c.loop-sent.given c.loop-sent.driver) k c.loop-sent.invariant }
