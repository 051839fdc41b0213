use Rattle.std.proofs.Common.{◌+◌, ◌≤◌}
use Rattle.span_set.specs.Pops.{LooksLast}
use Rattle.span_set.proofs.pops.pop_unswept.Given as goal

abbrev pub invariant-loop : goal.invariant-loop
invariant-loop l = record {
  looks : LooksLast l.number l.head l.tail l.fn.w l.w;
  order : l.head ≤ l.tail;
  few : l.counter ≤ 8589934593;
  tries : l.counter ≤ l.head + l.tail;
}
