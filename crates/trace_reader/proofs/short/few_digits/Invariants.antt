use Rattle.std.proofs.Common.{◌≡◌, ◌^◌, ◌<◌, ◌≤◌, ◌++◌, ◌+◌, ◌-◌, decimal, drop}
use Rattle.trace_reader.proofs.short.few_digits.Given as goal

abbrev pub invariant-loop-count : goal.invariant-loop-count
invariant-loop-count l = record {
  spelled : drop l.start l.bytes ≡ decimal l.value ++ drop (l.start + l.count) l.bytes;
  positive : 1 ≤ l.value;
  small : l.value < 10 ^ l.count;
  begun : 1 ≤ l.count;
  few : l.count ≤ l.most;
  inside : l.start + l.count ≤ l.end;
}

abbrev pub decreases-loop-count : goal.decreases-loop-count
decreases-loop-count l = l.most - l.count
