use Rattle.std.proofs.Common.{◌∷◌, [], ◌++◌, List, None, length, sym, refl, ap, arith, ◌∙◌}
use Rattle.trace_reader.specs.declared.trace.Cycle.{Cycle}
use Rattle.trace_reader.specs.declared.trace.Trace.{Trace}
use Rattle.tiny_alloc.specs.declared.part.Part.{Part}
use Rattle.tiny_alloc.specs.Base.{as_version_2}
use Rattle.tiny_alloc.proofs.Grown.{grown-first, some-cycle}
use Rattle.tiny_alloc.proofs.Requested.{events-are}
use Rattle.tiny_alloc.proofs.growing.Growing.new.Goals as goal

pub returns : goal.returns
returns c =
    let t = c.args.trace.now in
    let x = c.index-as_slice-0.result in
    let es = c.as_slice-events.result.now in
    let some = some-cycle t c.requires.limited in
    let those = events-are t c.as_slice.result.now 0 x es c.as_slice.ensures some c.index-as_slice-0.is (c.as_slice-events.ensures ∙ ap (λ (z : Cycle). z.events) (sym c.index-as_slice-0.is)) in
    let u : Trace = record { header = (as_version_2 t).header; cycles = c.push.new.self } in
    let none = c.new.ensures.items in
    record {
      growing = record {
        growing = grown-first t u es c.in_ok-lone_events.field-0 c.new.result.items some those refl none c.in_ok-lone_events.ensures
            (c.in_ok-push.ensures.ok ∙ ap (λ (cs : List Cycle). cs ++ record { events = c.in_ok-lone_events.field-0; mark = None } ∷ []) c.new-cycles.ensures);
        parts = λ i lt. (let long = ap (λ (ps : List Part). length ps) none in absurd (omega arith));
        number = ap (λ (ps : List Part). length ps) none;
      };
    }
