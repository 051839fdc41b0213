use Rattle.std.proofs.Common.{◌≡◌, ℕ, ◌<◌, List, length, get_or, ◌∙◌, ap, arith}
use Rattle.std.proofs.lemmas.List.{get_or_default}
use Rattle.trace_reader.specs.declared.trace.Cycle.{Cycle}
use Rattle.trace_reader.specs.declared.trace.Event.{Event}
use Rattle.trace_reader.specs.declared.trace.Trace.{Trace}
use Rattle.cycle_history.proofs.Found.{cycle-few}
use Rattle.cycle_history.proofs.totals.counts_of.Goals as goal

-- the events of a cycle
events-are : (t : Trace) (cycles : List Cycle) (c : ℕ) (x : Cycle) (events : List Event) → cycles ≡ t.cycles → c < length cycles → events ≡ (get_or cycles c x).events → (d : Cycle) → events ≡ (get_or t.cycles c d).events
events-are t cycles c x events same lt are d =
    are ∙ ap (λ (y : Cycle). y.events) (get_or_default cycles c x d lt) ∙ ap (λ (cs : List Cycle). (get_or cs c d).events) same

pub overflow_add-first : goal.overflow_add-first
overflow_add-first c =
    let t = c.args.trace.now in
    let same = c.as_slice-cycles.ensures in
    let size = ap (λ (cs : List Cycle). length cs) same in
    let lt = c.loop-cycle-test.true in
    let few = cycle-few t c.loop-cycle.cycle c.as_slice-events.result.now c.requires.limited (omega arith)
    (events-are t c.as_slice-cycles.result.now c.loop-cycle.cycle c.index-cycles-cycle.result c.as_slice-events.result.now same lt c.as_slice-events.ensures) in
    let first = c.loop-cycle.invariant.first in
    omega arith
