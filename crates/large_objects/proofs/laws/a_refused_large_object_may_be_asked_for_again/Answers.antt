use Rattle.large_objects.proofs.Again.{large_again}
use Rattle.large_objects.proofs.laws.a_refused_large_object_may_be_asked_for_again.Goals as goal

pub returns : goal.returns
returns c = λ t r m pages distance n k old new e may x f. large_again t r m pages distance n k old new e may x f
