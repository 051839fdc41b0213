use Rattle.std.proofs.Common.{◌≡◌, ◌+◌, ◌∷◌, [], ◌++◌, List, get_or, sym, ◌∙◌, ap, subst}
use Rattle.std.proofs.lemmas.List.{get_or_default}
use Rattle.trace_reader.specs.declared.span.Span.{Span}
use Rattle.tiny_alloc.proofs.Spans.{Joins, joins-apart, joins-touching}
use Rattle.tiny_alloc.proofs.marks.join.Goals.{then-span-last, else-span-last+in_ok-push}
use Rattle.tiny_alloc.proofs.marks.join.Goals as goal

abbrev no_span : Span
no_span = record { lo = 0; hi = 0 }

pub loop-next-preserved : goal.loop-next-preserved
loop-next-preserved c =
    let spans = c.args.spans.now in
    let n = c.loop-next.next in
    let s = get_or spans n no_span in
    let lt = c.loop-next-test.true in
    let is : s ≡ get_or spans n s = get_or_default spans n no_span s lt in
    let joined = c.loop-next.joined in
    let last = c.loop-next.last in
    elim c.if-span-last.branch [
      | then-span-last w ↦ (
          let same : c.if-span-last.joined ≡ joined = cc (w.joined-is) in
          subst (λ (js : List Span). Joins spans (n + 1) js c.if-span-last.last) (sym same)
          (joins-touching spans joined last s c.if-span-last.last n c.loop-next.invariant c.requires.fair c.requires.order lt is w.if-span-last.true
          (ap (λ (x : Span). x.lo) w.last-is) (ap (λ (x : Span). x.hi) w.last-is ∙ w.max.ensures)))
      | else-span-last+in_ok-push w ↦ (
          let push = w.in_ok-push.ensures.ok in
          let same : c.if-span-last.joined ≡ joined ++ last ∷ [] = cc (w.joined-is, push) in
          subst (λ (js : List Span). Joins spans (n + 1) js c.if-span-last.last) (sym same)
          (subst (λ (x : Span). Joins spans (n + 1) (joined ++ last ∷ []) x) (sym w.last-is)
          (joins-apart spans joined last s n c.loop-next.invariant c.requires.fair lt is w.if-span-last.false)))
    ]
