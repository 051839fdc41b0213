use Rattle.std.proofs.Common.{◌≡◌, ℕ, ◌+◌, ◌-◌, ◌++◌, List, length, refl, sym, ◌∙◌, ap, arith}
use Rattle.std.specs.Prelude.{◌==◌}
use Rattle.heap_run.specs.Out.{busy, helpers}
use Rattle.heap_run.proofs.Sending.{goes-one, sent-home, sent-procs, stays-one}
use Rattle.heap_run.proofs.Stacks.{rises-busy, rises-helpers, rises-low}
use Rattle.heap_run.proofs.going_out.send_processor.Goals as goal

pub send-requires-clause-home : goal.send-requires-clause-home
send-requires-clause-home c =
    let n : ℕ = length c.args.start.now.procs.value.items in
    let q : ℕ = c.args.number + 1 in
    let low = c.requires.number in
    let few = c.requires.starts.few in
    let all : q + (n - q) ≡ n = omega arith in
    let high = rises-low n 64 (helpers c.args.background) (omega arith) (rises-helpers c.args.background c.requires.few) in
    sent-home c.args.start.now.driver.value c.args.driver.now (busy c.args.queues.now.events (n - q) q ++ helpers c.args.background) c.args.number q c.requires.sent.sent c.requires.starts.works.works.1 (omega arith)
    (rises-busy c.args.queues.now.events (n - q) q (helpers c.args.background) (rw all high))

pub send-requires-clause-caching : goal.send-requires-clause-caching
send-requires-clause-caching c on =
    let n : ℕ = length c.args.start.now.procs.value.items in
    let q : ℕ = c.args.number + 1 in
    let low = c.requires.number in
    let few = c.requires.starts.few in
    let many = c.requires.caching on in
    let same = sent-procs c.args.start.now.driver.value c.args.driver.now (busy c.args.queues.now.events (n - q) q ++ helpers c.args.background) c.requires.sent.sent in
    (omega arith, omega arith)

pub returns-then-is_empty : goal.returns-then-is_empty
returns-then-is_empty c =
    let none = ap (λ (l : List _). length l == 0) (sym c.of.ensures) ∙ sym c.is_empty.ensures ∙ c.if-is_empty.true in
    record {
      sent = stays-one c.args.start.now c.args.queues.now.events c.args.background c.args.number (c.args.number + 1) c.args.out.now.lanes.items c.args.out.now.resting.items c.push.new.self.items c.args.procs.now.items c.pop.new.self.items c.args.given.now c.args.driver.now c.in-Some.proc
          c.requires.sent refl c.requires.number c.in-Some.ensures.items none c.in_ok-push.ensures.items;
    }

pub returns : goal.returns
returns c =
    let some = ap (λ (l : List _). length l == 0) (sym c.of.ensures) ∙ sym c.is_empty.ensures ∙ c.if-is_empty.false in
    let lane = c.in_ok-send.ensures.lane in
    record {
      sent = goes-one c.args.start.now c.args.queues.now.events c.args.background c.args.number (c.args.number + 1) c.args.out.now.lanes.items c.send.new.lanes.items c.args.out.now.resting.items c.args.procs.now.items c.pop.new.self.items c.args.given.now c.lend_lists-turn.new.given c.args.driver.now c.send.new.driver lane.0 c.in-Some.proc c.lend_lists-turn.result
          c.requires.sent refl c.requires.number c.requires.starts.few c.in-Some.ensures.items some c.lend_lists-turn.ensures.turn c.lend_lists-turn.ensures.answers c.lend_lists-turn.ensures.sampled lane.1 lane.3 c.in_ok-send.ensures.away c.in_ok-send.ensures.notes c.in_ok-send.ensures.tally;
    }
