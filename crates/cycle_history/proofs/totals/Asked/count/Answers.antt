use Rattle.std.proofs.Common.{List, sym, subst, arith}
use Rattle.trace_reader.specs.declared.span.Span.{Span}
use Rattle.trace_reader.specs.Rising.{AreSpans}
use Rattle.cycle_history.specs.Requests.{last_cycle}
use Rattle.cycle_history.proofs.Rising.{marks-rise}
use Rattle.cycle_history.proofs.Found.{cycle-few}
use Rattle.cycle_history.proofs.totals.Asked.count.Goals as goal

pub overflow_add-end : goal.overflow_add-end
overflow_add-end c =
    let o = c.args.self.now in
    let given = c.requires.given in
    let few = cycle-few o.trace.now o.cycle o.events.now given.limited given.inside given.events in
    let first = given.first in
    omega arith

pub run-lives-requires-clause-rise : goal.run-lives-requires-clause-rise
run-lives-requires-clause-rise c =
    let t = c.args.self.now.trace.now in
    subst (λ (ss : List Span). AreSpans 0 ss) (sym c.loop-low.invariant.living.spans) (marks-rise t (last_cycle t) c.requires.given.limited.cycles)
