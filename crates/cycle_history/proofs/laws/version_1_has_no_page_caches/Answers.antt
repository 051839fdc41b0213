use Rattle.cycle_history.proofs.PlainJournals.{version-1}
use Rattle.cycle_history.proofs.laws.version_1_has_no_page_caches.Goals as goal

pub returns : goal.returns
returns c = version-1
