use Rattle.std.proofs.Common.{◌≡◌, true}
use Rattle.std.specs.Prelude.{None}
use Rattle.sweep_laws.specs.Lists.{has}
use Rattle.span_laws.specs.Asks.{HasBody, IsAtWork}
use Rattle.bench.proofs.table.call_rounds.Given as goal

-- the span is out of the cache
abbrev pub invariant-loop : goal.invariant-loop
invariant-loop l = record {
  works : IsAtWork l.fn.shared l.w;
  held : has l.fn.body.page l.w.view.own.held ≡ true;
  unclaimed : l.w.view.own.claimed ≡ None;
  lent : HasBody l.w.view.own l.fn.body;
}
