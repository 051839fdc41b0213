use Rattle.std.proofs.Common.{ℕ, Bool, List, length, sym, ◌∙◌, ap, subst}
use Rattle.std.proofs.lemmas.List.{length-map}
use Rattle.trace_reader.specs.declared.trace.Event.{Event}
use Rattle.trace_reader.specs.Limits.{events_of}
use Rattle.report_check.specs.Items.{objects_of}
use Rattle.report_check.specs.Sampling.{FitTheirTypes, ArePlacesBy}
use Rattle.report_check.proofs.Bucketing.{AreMade, made-allocs, made-frees}
use Rattle.report_check.proofs.Settled.{count-items}
use Rattle.report_check.proofs.sampled.Sampled.of.Goals as goal

-- as many stacks as items
pub places_by-requires-clause-stacks : goal.places_by-requires-clause-stacks
places_by-requires-clause-stacks c =
    let e = count-items c.args.objects.now.trace.now c.args.objects.now.report.now c.args.objects.now.items.now c.requires.known.answers in
    ap (λ (xs : List ℕ). length xs) (c.deref-2.ensures.value ∙ c.in_ok-stacks.ensures) ∙ (length-map (events_of c.args.objects.now.trace.now) (λ (x : Event). x.stack) ∙ sym e)

pub places_by-requires-2-clause-stacks : goal.places_by-requires-2-clause-stacks
places_by-requires-2-clause-stacks c =
    let e = count-items c.args.objects.now.trace.now c.args.objects.now.report.now c.args.objects.now.items.now c.requires.known.answers in
    ap (λ (xs : List ℕ). length xs) (c.deref-5.ensures.value ∙ c.in_ok-stacks.ensures) ∙ (length-map (events_of c.args.objects.now.trace.now) (λ (x : Event). x.stack) ∙ sym e)

pub returns : goal.returns
returns c =
    let t = c.args.objects.now.trace.now in
    let report = c.args.objects.now.report.now in
    let items = c.args.objects.now.items.now in
    let lasts = c.args.objects.now.lasts.now in
    let flags = c.in_ok-flags.flags.items in
    let stacks = c.in_ok-stacks.stacks.items in
    let e = count-items t report items c.requires.known.answers in
    let starts : AreMade t items flags stacks c.in_ok-cycles.cycles.items c.in_ok-starts.starts.items c.of.result = record {
      flagged = c.in_ok-flags.ensures.flags;
      stacked = c.in_ok-stacks.ensures;
      placed = subst (λ (fs : List Bool). ArePlacesBy fs stacks c.in_ok-cycles.cycles.items (objects_of items) c.in_ok-starts.starts.items) c.deref.ensures.value
          (subst (λ (xs : List ℕ). ArePlacesBy c.deref.result.now xs c.in_ok-cycles.cycles.items (objects_of items) c.in_ok-starts.starts.items) c.deref-2.ensures.value
          (subst (λ (xs : List ℕ). ArePlacesBy c.deref.result.now c.deref-2.result.now xs (objects_of items) c.in_ok-starts.starts.items) c.deref-3.ensures.value c.in_ok-starts.ensures.places));
      few = subst (λ (xs : List ℕ). FitTheirTypes items xs c.in_ok-cycles.cycles.items (length items)) c.deref-2.ensures.value
          (subst (λ (xs : List ℕ). FitTheirTypes items c.deref-2.result.now xs (length items)) c.deref-3.ensures.value c.in_ok-starts.ensures.few);
      same = c.of.ensures;
    } in
    let ends : AreMade t items flags stacks lasts c.in_ok-ends.ends.items c.of-2.result = record {
      flagged = c.in_ok-flags.ensures.flags;
      stacked = c.in_ok-stacks.ensures;
      placed = subst (λ (fs : List Bool). ArePlacesBy fs stacks lasts (objects_of items) c.in_ok-ends.ends.items) c.deref-4.ensures.value
          (subst (λ (xs : List ℕ). ArePlacesBy c.deref-4.result.now xs lasts (objects_of items) c.in_ok-ends.ends.items) c.deref-5.ensures.value c.in_ok-ends.ensures.places);
      few = subst (λ (xs : List ℕ). FitTheirTypes items xs lasts (length items)) c.deref-5.ensures.value c.in_ok-ends.ensures.few;
      same = c.of-2.ensures;
    } in
    record {
      flags = c.in_ok-flags.ensures.flags;
      stacks = c.in_ok-stacks.ensures;
      size = c.in_ok-flags.ensures.size;
      few = ap (λ (xs : List ℕ). length xs) c.in_ok-stacks.ensures ∙ (length-map (events_of t) (λ (x : Event). x.stack) ∙ sym e);
      allocs = λ b m ls lb lm. made-allocs t items flags stacks c.in_ok-cycles.cycles.items c.in_ok-starts.starts.items c.of.result b m starts c.in_ok-cycles.ensures lb lm;
      frees = λ b m ls lb lm. made-frees t report items lasts flags stacks c.in_ok-ends.ends.items c.of-2.result b m c.requires.known ends lb lm;
    }
