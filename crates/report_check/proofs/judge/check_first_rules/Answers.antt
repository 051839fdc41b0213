use Rattle.std.proofs.Common.{arith, subst}
use Rattle.cycle_history.specs.declared.Report.{Report}
use Rattle.report_check.specs.Items.{objects_of}
use Rattle.report_check.specs.Known.{AreSettledItems}
use Rattle.report_check.proofs.judge.check_first_rules.Goals as goal

pub returns-clause-met : goal.returns-clause-met
returns-clause-met c =
    let items = c.in_ok-settled.field-0.items in
    let settled = subst (λ (report : Report). AreSettledItems c.args.trace.now report items) c.of.ensures c.in_ok-settled.ensures.settled in (
      objects_of items,
      record {
        answers = λ le. settled.answers;
        journal = λ le. settled.journal;
        misses = λ le. settled.misses;
        places = λ le. settled.places;
        apart = λ le. absurd (omega arith);
        filling = λ le. absurd (omega arith);
        sweeps = λ le. absurd (omega arith);
        totals = λ le. absurd (omega arith);
        profile = λ le. absurd (omega arith);
      },
    )
