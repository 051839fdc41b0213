use Rattle.report_text.proofs.Forms.{cache_or_none}
use Rattle.report_text.proofs.parse.change_of.Goals as goal

pub returns : goal.returns
returns c = cache_or_none c.cache_change.result _ _ _ c.in_ok-cycle.ensures c.in_default.ensures c.cache_change.ensures
