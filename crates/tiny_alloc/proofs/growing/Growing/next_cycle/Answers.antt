use Rattle.std.proofs.Common.{◌≡◌, ◌∷◌, [], ◌++◌, ◌+◌, ◌-◌, ℕ, List, None, get_or, sym, refl, subst, ap, arith, ◌∙◌}
use Rattle.trace_reader.specs.declared.trace.Cycle.{Cycle}
use Rattle.cycle_history.specs.Requests.{last_cycle, spans_of}
use Rattle.cycle_history.proofs.Firsts.{before-le}
use Rattle.tiny_alloc.specs.declared.part.Part.{Part}
use Rattle.tiny_alloc.specs.Base.{IsBasedEnd}
use Rattle.tiny_alloc.specs.Marks.{AreFair, HaveLeads}
use Rattle.tiny_alloc.specs.Parts.{part_by}
use Rattle.tiny_alloc.proofs.Grown.{grown-next, near-few}
use Rattle.tiny_alloc.proofs.Listed.{cycle-fair}
use Rattle.tiny_alloc.proofs.Requested.{events-are}
use Rattle.tiny_alloc.proofs.growing.Growing.next_cycle.Goals as goal

pub based_end-requires-clause-marks : goal.based_end-requires-clause-marks
based_end-requires-clause-marks c =
    let t = c.args.trace.now in
    let k = c.len-cycle.result - 1 in
    let x = c.index-cycles-cycle.result in
    let len = c.len-cycle.ensures in
    let lt = c.requires.growing.cycle in
    subst (λ (y : Cycle). AreFair (spans_of y.mark)) (ap (λ (cs : List Cycle). get_or cs k x) (sym c.as_slice-cycles.ensures)) (cycle-fair t.cycles k x c.requires.limited.cycles (omega arith))

pub based_end-requires-clause-leads : goal.based_end-requires-clause-leads
based_end-requires-clause-leads c =
    let t = c.args.trace.now in
    let parts = c.args.self.now.parts.items in
    let answered = c.requires.answered in
    let le = before-le t (last_cycle c.args.self.now.trace + 1) in
    let few = c.requires.limited.objects in
    subst (λ (xs : List Part). HaveLeads (part_by xs)) (sym c.as_slice.ensures.value) (near-few t parts c.requires.growing.near (omega arith))

pub returns-clause-growing : goal.returns-clause-growing
returns-clause-growing c =
    let t = c.args.trace.now in
    let u = c.args.self.now.trace in
    let m = last_cycle u in
    let k = c.len-cycle.result - 1 in
    let parts = c.args.self.now.parts.items in
    let x = c.index-cycles-cycle.result in
    let y = c.index-cycles-cycle-2.result in
    let es = c.as_slice-2.result.now in
    let mark = c.in_ok-mark.mark in
    let is = c.requires.growing in
    let len = c.len-cycle.ensures in
    let next = c.requires.next in
    let at : k ≡ m = omega arith in
    let at-next : k + 1 ≡ m + 1 = omega arith in
    let own : x ≡ get_or t.cycles m x = c.index-cycles-cycle.is ∙ ap (λ (cs : List Cycle). get_or cs k x) c.as_slice-cycles.ensures ∙ ap (λ (i : ℕ). get_or t.cycles i x) at in
    let those = events-are t c.as_slice-cycles.result.now (k + 1) y es c.as_slice-cycles.ensures (omega arith) c.index-cycles-cycle-2.is
    (c.as_slice-2.ensures ∙ ap (λ (z : Cycle). z.events) (sym c.index-cycles-cycle-2.is)) in
    let end = subst (λ (xs : List Part). IsBasedEnd (part_by xs) x.mark mark) c.as_slice.ensures.value
    (subst (λ (z : Cycle). IsBasedEnd (part_by c.as_slice.result.now) z.mark mark) (sym c.index-cycles-cycle.is) c.in_ok-mark.ensures) in
    grown-next t u (record { header = u.header; cycles = c.push.new.self }) m parts x mark es c.in_ok-events.events next own
    (λ d. those d ∙ ap (λ (i : ℕ). (get_or t.cycles i d).events) at-next) is c.requires.answered end c.in_ok-events.ensures refl
    (c.in_ok-push.ensures.ok ∙ ap (λ (cs : List Cycle). cs ++ record { events = c.in_ok-events.events; mark = None } ∷ []) (c.end_last.ensures is.done is.under is.split))
