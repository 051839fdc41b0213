use Rattle.page_alloc.proofs.Sums.{chunk-first, chunk-some}
use Rattle.page_alloc.proofs.levels.first_run.Goals as goal

pub returns-in_err-page-clause-some : goal.returns-in_err-page-clause-some
returns-in_err-page-clause-some c = absurd (chunk-some c.args.chunks.now c.args.index c.args.n _ c.requires.chunk c.requires.inside c.in_err-page.ensures.none)

pub returns-clause-found : goal.returns-clause-found
returns-clause-found c = chunk-first c.args.chunks.now c.args.index c.args.n c.in_ok-page.page _ c.requires.chunk c.requires.few c.requires.inside c.in_ok-page.ensures.found
