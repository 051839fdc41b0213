use Rattle.std.proofs.Common.{◌≡◌, ℕ, sym, subst}
use Rattle.page_alloc.specs.Heap.{PageHeap}
use Rattle.page_alloc.specs.Journal.{AreAllowed, LegalFor}
use Rattle.page_alloc.specs.Kept.{region_of, past_in}
use Rattle.page_alloc.proofs.BlocksOut.{legal-for}
use Rattle.page_alloc.proofs.allocator.Pages.journal.Goals as goal

pub returns-clause-legal : goal.returns-clause-legal
returns-clause-legal c =
    let P : PageHeap → Type 0 = λ h. (procs : ℕ) → AreAllowed procs h.past → LegalFor procs h.region h.goal h.past in
    subst P c.self.view_is (λ procs allowed. legal-for c.self.invariant.kept.procs procs (region_of c.self.inside) c.self.inside.goal (past_in c.self.inside) allowed c.self.invariant.kept.legal)
