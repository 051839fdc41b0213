use Rattle.cycle_history.proofs.PlainJournals.{plain-meets}
use Rattle.cycle_history.proofs.laws.a_plain_journal_meets_rule_2.Goals as goal

pub returns : goal.returns
returns c = plain-meets
