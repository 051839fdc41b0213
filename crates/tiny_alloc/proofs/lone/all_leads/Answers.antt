use Rattle.std.proofs.Common.{List, sym, subst, refl}
use Rattle.trace_reader.specs.declared.trace.Trace.{Trace}
use Rattle.tiny_alloc.specs.declared.part.Part.{Part}
use Rattle.tiny_alloc.specs.Base.{AreBased, as_version_2}
use Rattle.tiny_alloc.specs.Marks.{HaveLeads}
use Rattle.tiny_alloc.specs.Parts.{part_by}
use Rattle.tiny_alloc.proofs.Alone.{all-events, all-leads, all-limited, lone-listed}
use Rattle.tiny_alloc.proofs.lone.all_leads.Goals as goal

pub based_cycles-requires-clause-leads : goal.based_cycles-requires-clause-leads
based_cycles-requires-clause-leads c =
    subst (λ (xs : List Part). HaveLeads (part_by xs)) (sym c.as_slice-2.ensures.value)
    (all-leads c.args.trace.now c.in_ok-parts.parts.items (lone-listed c.args.trace.now c.as_slice.result.now c.in_ok-parts.parts.items c.as_slice.ensures c.in_ok-parts.ensures))

pub returns-clause-events : goal.returns-clause-events
returns-clause-events c =
    let t = c.args.trace.now in
    let u : Trace = record { header = (as_version_2 t).header; cycles = c.in_ok-based_cycles.field-0 } in
    let parts = c.in_ok-parts.parts.items in
    all-events t u parts (lone-listed t c.as_slice.result.now parts c.as_slice.ensures c.in_ok-parts.ensures)
    (subst (λ (xs : List Part). AreBased (part_by xs) 0 t.cycles u.cycles) c.as_slice-2.ensures.value c.in_ok-based_cycles.ensures)

pub returns-clause-limited : goal.returns-clause-limited
returns-clause-limited c =
    let t = c.args.trace.now in
    let u : Trace = record { header = (as_version_2 t).header; cycles = c.in_ok-based_cycles.field-0 } in
    let parts = c.in_ok-parts.parts.items in
    all-limited t u parts c.requires.limited refl (lone-listed t c.as_slice.result.now parts c.as_slice.ensures c.in_ok-parts.ensures)
    (subst (λ (xs : List Part). AreBased (part_by xs) 0 t.cycles u.cycles) c.as_slice-2.ensures.value c.in_ok-based_cycles.ensures)
