use Rattle.std.proofs.Common.{ℕ, ◌+◌, refl, ap}
use Rattle.report_check.proofs.Riding.{riding-all, riding-first, riding-more, riding-none}
use Rattle.report_check.proofs.tiny.riders.judge_riding.Goals as goal

pub loop-rider-init : goal.loop-rider-init
loop-rider-init c = riding-none c.args.answers.now c.args.riders.now

pub loop-rider-preserved : goal.loop-rider-preserved
loop-rider-preserved c =
    riding-more c.args.answers.now c.args.riders.now c.loop-rider.rider-index _ c.loop-rider-test.true c.loop-rider.invariant c.if-not-is_riding.ensures

pub returns-clause-riding : goal.returns-clause-riding
returns-clause-riding c = λ t those. riding-all t c.args.answers.now c.args.riders.now c.loop-rider.rider-index c.loop-rider.invariant c.loop-rider-test.false those

pub returns-then-not-is_riding-clause-fault : goal.returns-then-not-is_riding-clause-fault
returns-then-not-is_riding-clause-fault c = λ t those. (
  refl,
  riding-first t c.args.answers.now c.args.riders.now c.loop-rider.rider-index _ _ c.loop-rider.invariant c.loop-rider-test.true c.if-not-is_riding.ensures (ap (λ (k : ℕ). k + 1) c.from.ensures) those,
)
