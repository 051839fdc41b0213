use Rattle.std.proofs.Common.{◌≡◌, ◌+◌, ◌-◌, ℕ, List, length, get_or, sym, refl, ap, arith, ◌∙◌}
use Rattle.trace_reader.specs.declared.trace.Cycle.{Cycle}
use Rattle.cycle_history.specs.Requests.{last_cycle}
use Rattle.cycle_history.specs.Before.{objects_before}
use Rattle.cycle_history.proofs.Firsts.{before-le}
use Rattle.tiny_alloc.specs.declared.part.Part.{Part}
use Rattle.tiny_alloc.specs.Base.{based_events}
use Rattle.tiny_alloc.specs.Parts.{part_by}
use Rattle.tiny_alloc.proofs.Grown.{grown-answered, printed-by}
use Rattle.tiny_alloc.proofs.Requested.{events-are}
use Rattle.tiny_alloc.proofs.growing.Growing.answer_cycle.Goals as goal

pub based_events-requires-clause-few : goal.based_events-requires-clause-few
based_events-requires-clause-few c =
    let done = c.in_ok-add_parts.ensures.done in
    let le = before-le c.args.trace.now (c.len-cycle.result - 1 + 1) in
    let few = c.requires.limited.objects in
    let same = ap (λ (ps : List Part). length ps) c.as_slice-2.ensures.value in
    omega arith

pub add_answers-requires-clause-few : goal.add_answers-requires-clause-few
add_answers-requires-clause-few c =
    let done = c.in_ok-add_parts.ensures.done in
    let le = before-le c.args.trace.now (c.len-cycle.result - 1 + 1) in
    let few = c.requires.limited.objects in
    let same = ap (λ (ps : List Part). length ps) c.as_slice-3.ensures.value in
    omega arith

pub returns-clause-growing : goal.returns-clause-growing
returns-clause-growing c =
    let t = c.args.trace.now in
    let u = c.args.self.now.trace in
    let m = last_cycle u in
    let k = c.len-cycle.result - 1 in
    let old = c.args.self.now.parts.items in
    let parts = c.add_parts.new.parts.items in
    let first = c.len-first.result in
    let x = c.index-as_slice-cycle.result in
    let es = c.as_slice-events.result.now in
    let new = c.in_ok-events.events in
    let is = c.requires.growing.growing in
    let number = c.requires.growing.number in
    let len = c.len-cycle.ensures in
    let lt = is.cycle in
    let at : k ≡ m = omega arith in
    let at-next : k + 1 ≡ m + 1 = omega arith in
    let ok = c.args.self.now.parts.ok.0 in
    let count = c.len-first.ensures in
    let begins : first ≡ objects_before t m = omega arith in
    let those = events-are t c.as_slice.result.now k x es c.as_slice.ensures (omega arith) c.index-as_slice-cycle.is
    (c.as_slice-events.ensures ∙ ap (λ (z : Cycle). z.events) (sym c.index-as_slice-cycle.is)) in
    let long : length parts ≡ objects_before t (m + 1) = c.in_ok-add_parts.ensures.done ∙ ap (λ (i : ℕ). objects_before t i) at-next in
    let own : new ≡ based_events (part_by parts) (objects_before t m) es = c.in_ok-events.ensures
    ∙ ap (λ (ps : List Part). based_events (part_by ps) first es) c.as_slice-2.ensures.value
    ∙ ap (λ (n : ℕ). based_events (part_by parts) n es) begins in
    record {
      growing = grown-answered t u (record { header = u.header; cycles = c.put_last.new.cycles }) c.args.answers.now m old parts es new c.requires.limited
          (λ d. those d ∙ ap (λ (i : ℕ). (get_or t.cycles i d).events) at) is c.requires.growing.parts c.in_ok-add_parts.ensures.parts number long own refl
          (c.put_last.ensures is.done is.under is.split);
      parts = c.in_ok-add_parts.ensures.parts;
      number = long;
    }

pub returns-clause-based : goal.returns-clause-based
returns-clause-based c =
    let t = c.args.trace.now in
    let m = last_cycle c.args.self.now.trace in
    let parts = c.add_parts.new.parts.items in
    let is = c.requires.growing.growing in
    let number = c.requires.growing.number in
    let len = c.len-cycle.ensures in
    let at-next : c.len-cycle.result - 1 + 1 ≡ m + 1 = omega arith in
    let ok = c.args.self.now.parts.ok.0 in
    let count = c.len-first.ensures in
    let begins : c.len-first.result ≡ objects_before t m = omega arith in
    let long : length parts ≡ objects_before t (m + 1) = c.in_ok-add_parts.ensures.done ∙ ap (λ (i : ℕ). objects_before t i) at-next in
    c.in_ok-add_answers.ensures
    ∙ printed-by t c.args.answers.now c.args.based.now parts c.as_slice-3.result.now c.len-first.result (objects_before t m) c.in_ok-add_parts.ensures.parts (long ∙ sym c.requires.answers)
    c.as_slice-3.ensures.value begins
