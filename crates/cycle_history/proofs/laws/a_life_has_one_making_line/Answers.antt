use Rattle.cycle_history.proofs.Making.{lives-of, made-by}
use Rattle.cycle_history.proofs.laws.a_life_has_one_making_line.Goals as goal

pub returns : goal.returns
returns c = λ past life. (made-by past life, λ made. lives-of past life made.line made.number made.makes)
