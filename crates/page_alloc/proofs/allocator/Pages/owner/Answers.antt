use Rattle.std.proofs.Common.{◌≡◌, ◌<◌, length, ◌∙◌, sym, ap, arith}
use Rattle.std.proofs.lemmas.List.{get_or_read}
use Rattle.page_alloc.specs.Owners.{owner}
use Rattle.page_alloc.specs.Heap.{PageHeap}
use Rattle.page_alloc.specs.Kept.{region_of}
use Rattle.page_alloc.proofs.Keeping.{owner-none, owner-past, owner-some}
use Rattle.page_alloc.proofs.allocator.Pages.owner.Goals as goal

pub returns-in_err-first : goal.returns-in_err-first
returns-in_err-first c =
    c.from_residual.ensures ∙ sym (ap (λ (h : PageHeap). owner h.past c.args.page) (sym c.self.view_is)
    ∙ owner-none c.self.invariant.kept (λ q le. rw c.as_slice.ensures.value at c.in_err-first.ensures.none q le))

pub returns-then-page-first : goal.returns-then-page-first
returns-then-page-first c =
    let region : region_of c.self.inside ≡ c.args.self.now.region = ap (λ (h : PageHeap). h.region) c.self.view_is in
    let inside : c.args.page < region_of c.self.inside = omega arith in
    let last = rw c.as_slice.ensures.value at c.in_ok-first.ensures.found in
    let low = last.low in
    let lt : c.in_ok-first.first < length c.self.inside.lengths.items = (let n = c.self.invariant.numbers in omega arith) in
    let read = get_or_read c.self.inside.lengths.items _ _ lt c.index.ensures 0 in
    sym (ap (λ (h : PageHeap). owner h.past c.args.page) (sym c.self.view_is) ∙ owner-some c.self.invariant.kept inside last (omega arith))

pub returns-else-page-first : goal.returns-else-page-first
returns-else-page-first c =
    let region : region_of c.self.inside ≡ c.args.self.now.region = ap (λ (h : PageHeap). h.region) c.self.view_is in
    let inside : c.args.page < region_of c.self.inside = omega arith in
    let last = rw c.as_slice.ensures.value at c.in_ok-first.ensures.found in
    let low = last.low in
    let lt : c.in_ok-first.first < length c.self.inside.lengths.items = (let n = c.self.invariant.numbers in omega arith) in
    let read = get_or_read c.self.inside.lengths.items _ _ lt c.index.ensures 0 in
    sym (ap (λ (h : PageHeap). owner h.past c.args.page) (sym c.self.view_is) ∙ owner-past c.self.invariant.kept inside last (omega arith))
