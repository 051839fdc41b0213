use Rattle.std.proofs.Common.{List, get_or, sym, subst, rules}
use Rattle.std.specs.List.Sorted.{IsNonDecreasingBy}
use Rattle.std.proofs.lemmas.List.{get_or_default}
use Rattle.std.proofs.lemmas.List.Sorted.{IsNonDecreasingBy-from_sort, answers_always}
use Rattle.trace_reader.specs.declared.span.Span.{Span}
use Rattle.tiny_alloc.specs.Base.{AreBasedMarks, AreSpaced}
use Rattle.tiny_alloc.specs.Marks.{AreFair, HaveSame}
use Rattle.tiny_alloc.specs.Parts.{part_by}
use Rattle.tiny_alloc.proofs.Leads.{based-marks, leads-more, ok-both}
use Rattle.tiny_alloc.proofs.Spans.{fair-permuted, same-permuted}
use Rattle.tiny_alloc.proofs.marks.based_marks.Goals as goal

abbrev no_span : Span
no_span = record { lo = 0; hi = 0 }

pub loop-span-preserved : goal.loop-span-preserved
loop-span-preserved c =
    let marks = c.args.marks.now in
    let k = c.loop-span.span-index in
    let lt = c.loop-span-test.true in
    let s = get_or marks k no_span in
    record {
      fair = c.in_ok-add_leads.ensures.fair;
      leads = leads-more (part_by c.args.parts.now) marks k s marks c.loop-span.kept.items c.add_leads.new.kept.items lt (get_or_default marks k no_span s lt) c.loop-span.invariant.leads c.in_ok-add_leads.ensures.leads;
    }

pub join-requires-clause-fair : goal.join-requires-clause-fair
join-requires-clause-fair c =
    subst AreFair (sym c.as_slice.ensures.value) (fair-permuted c.loop-span.kept.items c.sort_unstable_by_key.new.self.items c.sort_unstable_by_key.ensures.permutation c.loop-span.invariant.fair)

pub join-requires-clause-order : goal.join-requires-clause-order
join-requires-clause-order c =
    let k = λ (span : Span). span.lo in
    let sorted = IsNonDecreasingBy-from_sort k c.sort_unstable_by_key.new.self.items (c.sort_unstable_by_key.ensures.sorted k (answers_always _ _ _ (λ f a r g h. search rules))) in
    subst (λ (xs : List Span). IsNonDecreasingBy k xs) (sym c.as_slice.ensures.value) sorted

pub returns : goal.returns
returns c =
    let sorted = c.sort_unstable_by_key.new.self.items in
    let same = subst (λ (xs : List Span). HaveSame c.loop-span.kept.items xs) (sym c.as_slice.ensures.value) (same-permuted c.loop-span.kept.items sorted c.sort_unstable_by_key.ensures.permutation) in
    ok-both c.join.result (AreSpaced 0) (HaveSame c.as_slice.result.now) (AreBasedMarks (part_by c.args.parts.now) c.args.marks.now)
    (λ joined spaced has. based-marks (part_by c.args.parts.now) c.args.marks.now c.loop-span.kept.items c.as_slice.result.now joined c.loop-span.span-index c.loop-span.invariant.leads c.loop-span-test.false same has spaced)
    c.join.ensures.spaced c.join.ensures.same
