use Rattle.std.proofs.Common.{◌≡◌, ℕ, ◌+◌, ◌-◌, [], ◌∷◌, ◌++◌, List, length, sym, ◌∙◌, ap, subst, arith}
use Rattle.span_set.specs.declared.hand.Hand.{Hand}
use Rattle.heap_run.specs.Out.{AreOf, HasSent, IsSent, rising}
use Rattle.heap_run.proofs.Sending.{first-sent, sent-home, sent-more, sent-out}
use Rattle.heap_run.proofs.Stacks.{of-push, rises-rising, rising-next}
use Rattle.heap_run.proofs.going_out.send_helpers.Goals as goal

pub send-requires-clause-table : goal.send-requires-clause-table
send-requires-clause-table c = ap (λ (d : Hand). d.worker.table) c.requires.driver ∙ c.requires.starts.works.works.0

pub send-requires-clause-driver : goal.send-requires-clause-driver
send-requires-clause-driver c = ap (λ (d : Hand). d.worker.number) c.requires.driver ∙ c.requires.starts.driving.number

pub send-requires-clause-home : goal.send-requires-clause-home
send-requires-clause-home c = sent-home c.args.start.now.driver.value c.args.driver.now [] 68 69 (first-sent c.args.start.now c.args.driver.now c.requires.driver) c.requires.starts.works.works.1 (omega arith) tt

pub send-requires-clause-part : goal.send-requires-clause-part
send-requires-clause-part c = (let p = c.requires.starts.parts in let e = ap (λ (d : Hand). length d.worker.view.parts) c.requires.driver in omega arith)

pub send-requires-clause-ring : goal.send-requires-clause-ring
send-requires-clause-ring c = ap (λ (d : Hand). d.tally.ring) c.requires.driver ∙ c.requires.starts.works.counts.ring

pub send-requires-clause-drives : goal.send-requires-clause-drives
send-requires-clause-drives c = ap (λ (d : Hand). d.tally.view.drives) c.requires.driver ∙ c.requires.starts.drives

pub loop-sent-init : goal.loop-sent-init
loop-sent-init c =
    let start = c.args.start.now.driver.value in
    let first = first-sent c.args.start.now c.args.driver.now c.requires.driver in
    let lane = c.in_ok-send.ensures.lane in
    record {
      sent = sent-more start c.args.driver.now c.send.new.driver [] 68 first c.in_ok-send.ensures.away c.in_ok-send.ensures.notes c.in_ok-send.ensures.tally;
      lanes = of-push (IsSent c.args.start.now) 68 [] c.args.lanes.now.items c.send.new.lanes.items _ c.requires.none
          (record { low = omega arith; out = sent-out start c.args.driver.now lane.0 [] 68 first lane.1; bare = lane.2; task = (let f = c.requires.starts.few in omega arith) }) lane.3;
    }

pub send-requires-in-loop-sent-clause-home : goal.send-requires-in-loop-sent-clause-home
send-requires-in-loop-sent-clause-home c =
    let q : ℕ = 64 + c.args.background - c.loop-sent.sent in
    let t = c.loop-sent-test.true in
    let f = c.requires.few in
    sent-home c.args.start.now.driver.value c.loop-sent.driver (rising c.loop-sent.sent q ++ 68 ∷ []) (64 + c.args.background - 1 - c.loop-sent.sent) q c.loop-sent.invariant.sent c.requires.starts.works.works.1 (omega arith) (rises-rising c.loop-sent.sent q (omega arith))

pub loop-sent-preserved : goal.loop-sent-preserved
loop-sent-preserved c =
    let start = c.args.start.now.driver.value in
    let k = c.loop-sent.sent in
    let q : ℕ = 64 + c.args.background - k in
    let p : ℕ = 64 + c.args.background - 1 - k in
    let t = c.loop-sent-test.true in
    let f = c.requires.few in
    let is : List ℕ = rising k q ++ 68 ∷ [] in
    let i = c.loop-sent.invariant in
    let lane = c.in_ok-send-2.ensures.lane in
    let to : ℕ = 64 + c.args.background - (k + 1) in
    let at : p ≡ to = omega arith in
    let up : to + 1 ≡ q = omega arith in
    let next : p ∷ is ≡ rising (k + 1) to ++ 68 ∷ [] = ap (λ (n : ℕ). n ∷ is) at ∙ ap (λ (l : List ℕ). l ++ 68 ∷ []) (sym (rising-next k to q up)) in
    record {
      sent = subst (λ (l : List ℕ). HasSent start l c.send-in-loop-sent.new.driver) next (sent-more start c.loop-sent.driver c.send-in-loop-sent.new.driver is p i.sent c.in_ok-send-2.ensures.away c.in_ok-send-2.ensures.notes c.in_ok-send-2.ensures.tally);
      lanes = subst (λ (l : List ℕ). AreOf (IsSent c.args.start.now) l c.send-in-loop-sent.new.lanes.items) next (of-push (IsSent c.args.start.now) p is c.loop-sent.lanes.items c.send-in-loop-sent.new.lanes.items _ i.lanes
          (record { low = omega arith; out = sent-out start c.loop-sent.driver lane.0 is p i.sent lane.1; bare = lane.2; task = (let w = c.requires.starts.few in omega arith) }) lane.3);
    }

pub returns-clause-sent : goal.returns-clause-sent
returns-clause-sent c =
    let t = c.loop-sent-test.false in
    let e = c.loop-sent.auto.sent-end in
    let all : c.loop-sent.sent ≡ c.args.background = omega arith in
    let from : 64 + c.args.background - c.loop-sent.sent ≡ 64 = omega arith in
    let same : rising c.loop-sent.sent (64 + c.args.background - c.loop-sent.sent) ++ 68 ∷ [] ≡ rising c.args.background 64 ++ 68 ∷ [] =
    ap (λ (q : ℕ). rising c.loop-sent.sent q ++ 68 ∷ []) from ∙ ap (λ (k : ℕ). rising k 64 ++ 68 ∷ []) all in
    subst (λ (l : List ℕ). HasSent c.args.start.now.driver.value l c.loop-sent.driver) same c.loop-sent.invariant.sent

pub returns-clause-lanes : goal.returns-clause-lanes
returns-clause-lanes c =
    let t = c.loop-sent-test.false in
    let e = c.loop-sent.auto.sent-end in
    let all : c.loop-sent.sent ≡ c.args.background = omega arith in
    let from : 64 + c.args.background - c.loop-sent.sent ≡ 64 = omega arith in
    let same : rising c.loop-sent.sent (64 + c.args.background - c.loop-sent.sent) ++ 68 ∷ [] ≡ rising c.args.background 64 ++ 68 ∷ [] =
    ap (λ (q : ℕ). rising c.loop-sent.sent q ++ 68 ∷ []) from ∙ ap (λ (k : ℕ). rising k 64 ++ 68 ∷ []) all in
    subst (λ (l : List ℕ). AreOf (IsSent c.args.start.now) l c.loop-sent.lanes.items) same c.loop-sent.invariant.lanes
