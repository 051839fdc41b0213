use Rattle.std.proofs.Common.{◌≡◌, ℕ, ◌<◌, Some, arith, inl, refl, subst}
use Rattle.page_bitmap.specs.declared.line.Run.{Run}
use Rattle.scavenger.specs.declared.scavenge.Reason.TheVariants.{TurnsSpent}
use Rattle.scavenger.specs.Scavenges.{IsReason}
use Rattle.scavenger.proofs.Released.{scavenged}
use Rattle.scavenger.proofs.Turns.{none-of, some-of, spent, spent-apart, step-same, stopped, stopped-apart, turns, turns-apart}
use Rattle.scavenger.proofs.scavenge.scavenge_to.Goals as goal

pub loop-turn-init : goal.loop-turn-init
loop-turn-init g c = record { same = refl; steps = λ d. inl (refl, refl); apart = λ d. inl (refl, refl) }

pub returns-then-is_none-clause-same : goal.returns-then-is_none-clause-same
returns-then-is_none-clause-same g c = step-same c.args.w.now c.loop-turn.w c.scavenge_step.new.w c.in_ok-step.step c.loop-turn.invariant.same c.in_ok-step.ensures

pub returns-then-is_none-clause-steps : goal.returns-then-is_none-clause-steps
returns-then-is_none-clause-steps g c d =
    let few : c.loop-turn._turn < c.args.w.now.view.region = (let region = c.region-region.ensures.region in let test = c.loop-turn-test.true in omega arith) in
    let R : ℕ → Type 0 = λ n. IsReason c.in_ok-step.step.backed n c.reason_of-reason.result in
    stopped c.loop-turn._turn c.loop-turn.backed c.args.w.now c.loop-turn.w c.scavenge_step.new.w c.in_ok-step.step c.reason_of-reason.result d (c.loop-turn.invariant.steps d) few
    (none-of c.in_ok-step.step.run c.if-is_none.ensures) c.in_ok-step.ensures (subst R c.goal-goal.ensures c.reason_of-reason.ensures)

pub returns-then-is_none-clause-scavenged : goal.returns-then-is_none-clause-scavenged
returns-then-is_none-clause-scavenged g c d = scavenged c.args.w.now c.scavenge_step.new.w _ (returns-then-is_none-clause-steps g c d)

pub returns-then-is_none-clause-apart : goal.returns-then-is_none-clause-apart
returns-then-is_none-clause-apart g c d =
    let few : c.loop-turn._turn < c.args.w.now.view.region = (let region = c.region-region.ensures.region in let test = c.loop-turn-test.true in omega arith) in
    let R : ℕ → Type 0 = λ n. IsReason c.in_ok-step.step.backed n c.reason_of-reason.result in
    stopped-apart c.loop-turn._turn c.loop-turn.backed c.args.w.now c.loop-turn.w c.scavenge_step.new.w c.in_ok-step.step c.reason_of-reason.result d (c.loop-turn.invariant.apart d) few
    (none-of c.in_ok-step.step.run c.if-is_none.ensures) c.in_ok-step.ensures (subst R c.goal-goal.ensures c.reason_of-reason.ensures)

pub loop-turn-preserved : goal.loop-turn-preserved
loop-turn-preserved g c =
    let some : (run : Run) × (c.in_ok-step.step.run ≡ Some run) = some-of c.in_ok-step.step.run c.if-is_none.ensures in
    record {
      same = step-same c.args.w.now c.loop-turn.w c.scavenge_step.new.w c.in_ok-step.step c.loop-turn.invariant.same c.in_ok-step.ensures;
      steps = λ d. turns c.loop-turn._turn c.loop-turn.backed c.args.w.now c.loop-turn.w c.scavenge_step.new.w c.in_ok-step.step some.0 d (c.loop-turn.invariant.steps d) some.1 c.in_ok-step.ensures;
      apart = λ d. turns-apart c.loop-turn._turn c.loop-turn.backed c.args.w.now c.loop-turn.w c.scavenge_step.new.w c.in_ok-step.step some.0 d (c.loop-turn.invariant.apart d) some.1 c.in_ok-step.ensures;
    }

pub returns-clause-steps : goal.returns-clause-steps
returns-clause-steps g c d =
    let region = c.region-region.ensures.region in
    let some = c.region-region.ensures.some in
    let test = c.loop-turn-test.false in
    let end = c.loop-turn.auto._turn-end in
    spent c.loop-turn._turn c.loop-turn.backed c.args.w.now c.loop-turn.w (c.loop-turn.invariant.steps d) (omega arith) (omega arith)

pub returns-clause-scavenged : goal.returns-clause-scavenged
returns-clause-scavenged g c d = scavenged c.args.w.now c.loop-turn.w (record { backed = c.loop-turn.backed; reason = TurnsSpent }) (returns-clause-steps g c d)

pub returns-clause-apart : goal.returns-clause-apart
returns-clause-apart g c d =
    let region = c.region-region.ensures.region in
    let some = c.region-region.ensures.some in
    let test = c.loop-turn-test.false in
    let end = c.loop-turn.auto._turn-end in
    spent-apart c.loop-turn._turn c.loop-turn.backed c.args.w.now c.loop-turn.w (c.loop-turn.invariant.apart d) (omega arith) (omega arith)
