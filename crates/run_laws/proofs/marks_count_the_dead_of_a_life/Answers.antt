use Rattle.run_laws.proofs.Deaths.{dead-right}
use Rattle.run_laws.proofs.marks_count_the_dead_of_a_life.Goals as goal

pub returns : goal.returns
returns c t s region goal m past objects answers sampled buckets marks b n life inside run are marks-are knows is-open =
    dead-right t s region goal m past objects answers sampled buckets marks b n life inside run are marks-are knows is-open
