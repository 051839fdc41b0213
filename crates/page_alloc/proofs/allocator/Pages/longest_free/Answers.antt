use Rattle.page_alloc.proofs.Keeping.{longest-free}
use Rattle.page_alloc.proofs.Sums.{longest-in_region}
use Rattle.page_alloc.proofs.allocator.Pages.longest_free.Goals as goal

pub returns : goal.returns
returns c = rw (← c.self.view_is, c.longest.ensures) (longest-free c.self.invariant.kept (longest-in_region c.self.inside.chunks.items _ _ _ c.self.invariant.few_chunks c.self.invariant.levels.top))
