use Rattle.std.proofs.Common.{arith}
use Rattle.page_bitmap.specs.Pages.{can_scavenge, is_free, is_scavenged}
use Rattle.page_bitmap.proofs.Maps.{top-run, none-left, if-none}
use Rattle.page_bitmap.proofs.chunk.Chunk.scavenge_candidate.Goals as goal

pub returns-in_err-top-clause-none : goal.returns-in_err-top-clause-none
unfolding is_free is_scavenged
returns-in_err-top-clause-none c =
    if-none c.from_residual.result _ (none-left _ (can_scavenge c.args.self.now) c.without-backed.ensures c.in_err-top.ensures.none)

pub returns-clause-found : goal.returns-clause-found
unfolding is_free is_scavenged
returns-clause-found c =
    rw c.min-pages.ensures
    (top-run _ (can_scavenge c.args.self.now) c.in_ok-top.top c.run_below.result c.args.max c.without-backed.ensures (omega arith)
    c.in_ok-top.ensures.page.0 c.in_ok-top.ensures.page.1 c.in_ok-top.ensures.last c.run_below.ensures.order
    c.run_below.ensures.run c.run_below.ensures.stops)
