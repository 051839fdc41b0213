use Rattle.std.proofs.Common.{◌≡◌, ◌+◌, ◌<◌, ◌≤◌, List, length, refl, sym, ◌∙◌, ap, arith}
use Rattle.trace_reader.specs.declared.trace.Cycle.{Cycle}
use Rattle.cycle_history.proofs.Firsts.{before-all}
use Rattle.tiny_alloc.proofs.Requested.{events-are, events-few}
use Rattle.tiny_check_tests.proofs.read.objects.Goals as goal

pub overflow_add-count : goal.overflow_add-count
overflow_add-count c =
    let t = c.args.trace.now in
    let k = c.loop-cycle.cycle in
    let item = c.index-cycles-cycle.result in
    let size = ap (λ (cs : List Cycle). length cs) c.as_slice-cycles.ensures in
    let lt = c.loop-cycle-test.true in
    let inside : k < length t.cycles = omega arith in
    let few = events-few t k item.events c.requires inside (events-are t c.as_slice-cycles.result.now k item item.events c.as_slice-cycles.ensures inside c.index-cycles-cycle.is refl) in
    let count = c.loop-cycle.invariant in
    let end = few.1 in
    let all = few.2 in
    let len : c.len-count.result ≡ length item.events = c.len-count.ensures ∙ ap (λ (x : Cycle). length x.events) (sym c.index-cycles-cycle.is) in
    omega arith

pub loop-cycle-preserved : goal.loop-cycle-preserved
loop-cycle-preserved c =
    let t = c.args.trace.now in
    let k = c.loop-cycle.cycle in
    let item = c.index-cycles-cycle.result in
    let size = ap (λ (cs : List Cycle). length cs) c.as_slice-cycles.ensures in
    let lt = c.loop-cycle-test.true in
    let inside : k < length t.cycles = omega arith in
    let few = events-few t k item.events c.requires inside (events-are t c.as_slice-cycles.result.now k item item.events c.as_slice-cycles.ensures inside c.index-cycles-cycle.is refl) in
    let count = c.loop-cycle.invariant in
    let more = few.0 in
    let len : c.len-count.result ≡ length item.events = c.len-count.ensures ∙ ap (λ (x : Cycle). length x.events) (sym c.index-cycles-cycle.is) in
    omega arith

pub returns : goal.returns
returns c =
    let t = c.args.trace.now in
    let size = ap (λ (cs : List Cycle). length cs) c.as_slice-cycles.ensures in
    let over = c.loop-cycle-test.false in
    c.loop-cycle.invariant ∙ before-all t c.loop-cycle.cycle (omega arith)
