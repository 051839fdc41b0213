use Rattle.std.proofs.Common.{◌≡◌, [], sym, subst}
use Rattle.span_set.specs.Asks.{MaySearch}
use Rattle.span_set.specs.declared.hand.Hand.{Hand}
use Rattle.sweeper.proofs.Again.{made_again, works_again}
use Rattle.sweeper.proofs.laws.a_refused_sweep_may_be_made_again.Goals as goal

pub returns-clause-sweep_one : goal.returns-clause-sweep_one
returns-clause-sweep_one c = λ t r m old new e may none same f. subst (λ (h : Hand). MaySearch t r m h × (h.worker.view.own.popped ≡ [])) (sym same) (may, none)

pub returns-clause-pay : goal.returns-clause-pay
returns-clause-pay c = λ t r m pages distance bytes credit old new e may x f. works_again t r m old new may f [] _ x

pub returns-clause-finish : goal.returns-clause-finish
returns-clause-finish c = λ t r m old new e may x f. works_again t r m old new may f [] _ x

pub returns-clause-reclaim : goal.returns-clause-reclaim
returns-clause-reclaim c = λ t r m asked old new e may x f. works_again t r m old new may f [] _ x

pub returns-clause-new_span : goal.returns-clause-new_span
returns-clause-new_span c = λ t r m n class old new e may x f. made_again t r m old new may f n class e x
