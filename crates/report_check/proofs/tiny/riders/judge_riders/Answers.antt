use Rattle.std.proofs.Common.{List, subst}
use Rattle.cycle_history.specs.declared.Answer.{Answer}
use Rattle.report_check.specs.declared.fault.CheckFault.{CheckFault}
use Rattle.report_check.specs.Fault.{IsFaultOf}
use Rattle.report_check.proofs.Faults.{err-map}
use Rattle.tiny_alloc.specs.Sound.{AreRiding}
use Rattle.report_check.specs.Versions.{BreaksRiding, IsFaultTiny}
use Rattle.report_check.proofs.Judged.{base-riding, base-sound, on-map, riders-judged, those-riders}
use Rattle.report_check.proofs.tiny.riders.judge_riders.Goals as goal

pub returns : goal.returns
returns c = λ t is met.
    let riders = those-riders t c.args.report.now c.args.base.now c.as_slice.result.now c.as_slice-2.result.now is c.as_slice.ensures c.as_slice-2.ensures in
    riders-judged t c.args.report.now c.judge_riding.result
    (on-map c.judge_riding.result
    (λ (riding : AreRiding t c.as_slice.result.now). base-sound t c.args.report.now c.args.base.now is met (subst (λ (xs : List Answer). AreRiding t xs) c.as_slice.ensures riding))
    (c.judge_riding.ensures.riding t riders))
    (err-map c.judge_riding.result (IsFaultOf 10 (BreaksRiding t c.as_slice.result.now)) (IsFaultTiny t c.args.report.now)
    (λ (fault : CheckFault) broken. base-riding t c.args.report.now c.args.base.now fault is met (subst (λ (xs : List Answer). IsFaultOf 10 (BreaksRiding t xs) fault) c.as_slice.ensures broken))
    (c.judge_riding.ensures.fault t riders))
