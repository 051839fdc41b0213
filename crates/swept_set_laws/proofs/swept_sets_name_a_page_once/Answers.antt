use Rattle.swept_set_laws.proofs.Across.{named_once, kind_fits, tails_fit}
use Rattle.swept_set_laws.proofs.swept_sets_name_a_page_once.Goals as goal

pub returns-clause-once : goal.returns-clause-once
returns-clause-once c = λ s logs names k l i j e. named_once s logs names e k l i j

pub returns-clause-kinds : goal.returns-clause-kinds
returns-clause-kinds c = λ s logs names full e two. kind_fits s logs names e full 136 two

pub returns-clause-all : goal.returns-clause-all
returns-clause-all c = λ s logs names e. tails_fit s logs names e
