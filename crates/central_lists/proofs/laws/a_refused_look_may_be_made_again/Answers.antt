use Rattle.std.proofs.Common.{ap}
use Rattle.span_set.proofs.Asks.{may_again}
use Rattle.central_lists.proofs.laws.a_refused_look_may_be_made_again.Goals as goal

pub returns : goal.returns
returns c = λ t r m class old new e may x f. let k = x.2.keeps in may_again t r m old new k.table k.away (ap (λ v. v.marks) k.view) k.claimed f may
