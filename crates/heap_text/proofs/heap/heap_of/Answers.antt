use Rattle.std.proofs.Common.{◌≡◌, List, length, refl, sym, ap, subst, ◌∙◌}
use Rattle.std.specs.List.{AllByRecursion}
use Rattle.profile_cycle.specs.declared.buckets.Bucket.{Bucket}
use Rattle.profile_cycle.specs.declared.counts.Count.{Count}
use Rattle.cycle_history.specs.declared.Answer.{Answer}
use Rattle.heap_text.specs.Counting.{AreCounted, IsLimitedBucket}
use Rattle.heap_text.specs.Published.{AreOrdered}
use Rattle.heap_text.proofs.Naming.{buckets-limited}
use Rattle.heap_text.proofs.OneHeap.{heap-by}
use Rattle.heap_text.proofs.Ordering.{line_by}
use Rattle.heap_text.proofs.heap.heap_of.Goals as goal

pub lines_of-requires-clause-buckets : goal.lines_of-requires-clause-buckets
lines_of-requires-clause-buckets c =
    let t = c.args.trace.now in
    subst (λ (bs : List Bucket). AllByRecursion IsLimitedBucket bs) (sym c.in_ok-buckets.ensures) (buckets-limited t.header.procs t c.requires.limited.events)

pub returns-clause-heap : goal.returns-clause-heap
returns-clause-heap c =
    let t = c.args.trace.now in
    let counts = c.in_ok-counts.counts.items in
    let lines = c.in_ok-lines.lines in
    let counted : AreCounted t c.args.answers.now (length c.args.answers.now) counts =
    subst (λ (xs : List Answer). AreCounted t xs (length xs) counts) c.as_slice.ensures c.in_ok-counts.ensures in
    let ordered = subst (λ (xs : List Count). AreOrdered (length c.in_ok-buckets.buckets) (line_by c.in_ok-buckets.buckets xs) lines) c.as_slice-2.ensures.value c.in_ok-lines.ensures.ordered in
    heap-by t c.args.answers.now counts _ c.requires.answers counted refl (subst (λ (bs : List Bucket). AreOrdered (length bs) (line_by bs counts) lines) c.in_ok-buckets.ensures ordered)
