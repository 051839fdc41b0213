use Rattle.std.proofs.Common.{◌≡◌, ◌+◌, ◌<◌, ◌∷◌, [], ◌++◌, Vec, Global, List, length, sym, ◌∙◌, ap, subst, arith, inl}
use Rattle.std.proofs.lemmas.List.{get_or_default}
use Rattle.trace_reader.specs.declared.span.Span.{Span}
use Rattle.tiny_alloc.specs.declared.part.Part.TheVariants.{Other}
use Rattle.tiny_alloc.specs.Marks.{AreFair, Gains, IsLeadWithin}
use Rattle.tiny_alloc.specs.Parts.{part_by}
use Rattle.tiny_alloc.proofs.Leads.{gains-all, gains-other, gains-rider}
use Rattle.tiny_alloc.proofs.Spans.{fair-more}
use Rattle.tiny_alloc.proofs.marks.add_leads.Goals.{in-Ride+in_ok-push, in_default}
use Rattle.tiny_alloc.proofs.marks.add_leads.Goals as goal

pub loop-object-preserved : goal.loop-object-preserved
loop-object-preserved c =
    let parts = c.args.parts.now in
    let n = c.loop-object.object in
    let old = c.loop-object.invariant in
    let lt = c.loop-object-test.true in
    let end = c.min-object-end.ensures in
    let from = old.from in
    let inside : n < length parts = omega arith in
    elim c.match-parts-object.branch [
      | in-Ride+in_ok-push w ↦ (
          let span : Span = record { lo = w.in-Ride.lead; hi = w.in-Ride.lead } in
          let is = get_or_default parts n Other _ inside ∙ w.in-Ride.is in
          let more : c.match-parts-object.kept.items ≡ c.loop-object.kept.items ++ span ∷ [] = ap (λ (v : Vec Span Global). v.items) w.kept-is ∙ w.in_ok-push.ensures.items in
          let few = c.requires.leads n w.in-Ride.lead _ is in
          record {
            from = omega arith;
            order = inl (omega arith);
            fair = subst AreFair (sym more) (fair-more c.loop-object.kept.items span old.fair (record { some = omega arith; few = few }));
            leads = gains-rider (part_by parts) c.args.low n w.in-Ride.lead _ c.args.kept.now.items c.loop-object.kept.items c.match-parts-object.kept.items from old.leads is more;
          })
      | in_default w ↦ (
          let same : c.match-parts-object.kept.items ≡ c.loop-object.kept.items = ap (λ (v : Vec Span Global). v.items) w.kept-is in
          record {
            from = omega arith;
            order = inl (omega arith);
            fair = subst AreFair (sym same) old.fair;
            leads = subst (λ (xs : List Span). Gains (IsLeadWithin (part_by parts) c.args.low (n + 1)) c.args.kept.now.items xs) (sym same)
                (gains-other (part_by parts) c.args.low n c.args.kept.now.items c.loop-object.kept.items old.leads (λ lead offset is. w.in_default.not-Ride lead offset (sym (get_or_default parts n Other _ inside) ∙ is)));
          })
    ]

pub returns-clause-leads : goal.returns-clause-leads
returns-clause-leads c =
    let end = c.min-object-end.ensures in
    let over = c.loop-object-test.false in
    gains-all c.args.parts.now c.args.low c.args.high c.loop-object.object c.args.kept.now.items c.loop-object.kept.items (omega arith) c.loop-object.invariant.order c.loop-object.invariant.leads
