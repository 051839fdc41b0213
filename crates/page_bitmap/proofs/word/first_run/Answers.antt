use Rattle.page_bitmap.proofs.WordRunsLemmas.{first-found, first-none}
use Rattle.page_bitmap.proofs.word.first_run.Goals as goal

pub returns-then-n-le64-clause-found : goal.returns-then-n-le64-clause-found
returns-then-n-le64-clause-found c =
    first-found c.args.word c.args.n c.run_starts.result c.lowest_one.result c.run_starts.ensures c.lowest_one.ensures.one c.lowest_one.ensures.lowest

pub returns-then-n-le64-clause-none : goal.returns-then-n-le64-clause-none
returns-then-n-le64-clause-none c =
    first-none c.args.word c.args.n c.run_starts.result c.lowest_one.result c.run_starts.ensures c.lowest_one.ensures.none
