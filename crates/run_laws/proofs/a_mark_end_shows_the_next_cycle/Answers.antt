use Rattle.run_laws.proofs.Turns.{next-shows}
use Rattle.run_laws.proofs.a_mark_end_shows_the_next_cycle.Goals as goal

pub returns : goal.returns
returns c = λ region goal c e marks now blocks o met none. next-shows region goal c e now blocks none o marks met
