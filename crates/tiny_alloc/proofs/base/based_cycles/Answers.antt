use Rattle.std.proofs.Common.{◌≡◌, ◌+◌, ◌<◌, List, length, take, get_or, refl, sym, ◌∙◌, ap, subst, arith}
use Rattle.trace_reader.specs.declared.trace.Cycle.{Cycle}
use Rattle.cycle_history.specs.Requests.{spans_of}
use Rattle.tiny_alloc.specs.Base.{AreBased}
use Rattle.tiny_alloc.specs.Marks.{AreFair}
use Rattle.tiny_alloc.specs.Parts.{part_by}
use Rattle.tiny_alloc.proofs.Listed.{cycle-fair, cycles-next}
use Rattle.tiny_alloc.proofs.Requested.{events-are, events-few}
use Rattle.tiny_alloc.proofs.base.based_cycles.Goals as goal

pub based_cycle-requires-clause-marks : goal.based_cycle-requires-clause-marks
based_cycle-requires-clause-marks c =
    let t = c.args.trace.now in
    let k = c.loop-cycle.cycle-index in
    let item = c.cycle-item.result in
    let size = ap (λ (cs : List Cycle). length cs) c.as_slice-cycle-items.ensures in
    let lt = c.loop-cycle-test.true in
    subst (λ (x : Cycle). AreFair (spans_of x.mark)) (sym (c.cycle-item.is ∙ ap (λ (cs : List Cycle). get_or cs k item) c.as_slice-cycle-items.ensures))
    (cycle-fair t.cycles k item c.requires.limited.cycles (omega arith))

pub based_cycle-requires-clause-inside : goal.based_cycle-requires-clause-inside
based_cycle-requires-clause-inside c =
    let t = c.args.trace.now in
    let k = c.loop-cycle.cycle-index in
    let item = c.cycle-item.result in
    let size = ap (λ (cs : List Cycle). length cs) c.as_slice-cycle-items.ensures in
    let lt = c.loop-cycle-test.true in
    let inside : k < length t.cycles = omega arith in
    let few = events-few t k item.events c.requires.limited inside (events-are t c.as_slice-cycle-items.result.now k item item.events c.as_slice-cycle-items.ensures inside c.cycle-item.is refl) in
    let first = c.loop-cycle.invariant.first in
    let parts = c.requires.parts in
    let end = few.1 in
    omega arith

pub overflow_add-first : goal.overflow_add-first
overflow_add-first c =
    let t = c.args.trace.now in
    let k = c.loop-cycle.cycle-index in
    let item = c.cycle-item.result in
    let size = ap (λ (cs : List Cycle). length cs) c.as_slice-cycle-items.ensures in
    let lt = c.loop-cycle-test.true in
    let inside : k < length t.cycles = omega arith in
    let few = events-few t k item.events c.requires.limited inside (events-are t c.as_slice-cycle-items.result.now k item item.events c.as_slice-cycle-items.ensures inside c.cycle-item.is refl) in
    let first = c.loop-cycle.invariant.first in
    let end = few.1 in
    let all = few.2 in
    let len = c.len.ensures in
    omega arith

pub loop-cycle-preserved : goal.loop-cycle-preserved
loop-cycle-preserved c =
    let t = c.args.trace.now in
    let k = c.loop-cycle.cycle-index in
    let item = c.cycle-item.result in
    let size = ap (λ (cs : List Cycle). length cs) c.as_slice-cycle-items.ensures in
    let lt = c.loop-cycle-test.true in
    let inside : k < length t.cycles = omega arith in
    let few = events-few t k item.events c.requires.limited inside (events-are t c.as_slice-cycle-items.result.now k item item.events c.as_slice-cycle-items.ensures inside c.cycle-item.is refl) in
    let is : item ≡ get_or t.cycles k item = c.cycle-item.is ∙ ap (λ (cs : List Cycle). get_or cs k item) c.as_slice-cycle-items.ensures in
    let first = c.loop-cycle.invariant.first in
    let more = few.0 in
    let len = c.len.ensures in
    record {
      first = omega arith;
      based = subst (λ (ds : List Cycle). AreBased (part_by c.args.parts.now) 0 (take (k + 1) t.cycles) ds) (sym c.in_ok-push.ensures.ok)
          (cycles-next (part_by c.args.parts.now) t.cycles c.loop-cycle.cycles k c.loop-cycle.first item c.in_ok-based_cycle.field-0 inside is first c.loop-cycle.invariant.based
          c.in_ok-based_cycle.ensures.events c.in_ok-based_cycle.ensures.mark);
    }
