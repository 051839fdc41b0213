use Rattle.page_alloc.proofs.Keeping.{some-fit, none-fit}
use Rattle.page_alloc.proofs.allocator.Pages.find.Goals as goal

pub returns-clause-found : goal.returns-clause-found
returns-clause-found c = rw (← c.self.view_is) (some-fit _ c.self.invariant.kept _ (rw c.as_slice.ensures.value at c.find.ensures.found))

pub returns-clause-none : goal.returns-clause-none
returns-clause-none c = rw (← c.self.view_is) (none-fit _ c.self.invariant.kept _ (rw c.as_slice.ensures.value at c.find.ensures.none))
