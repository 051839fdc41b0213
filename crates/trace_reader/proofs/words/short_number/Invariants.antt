use Rattle.std.proofs.Common.{◌≡◌, ◌^◌, ◌<◌, ◌≤◌, ◌++◌, ◌+◌, ◌-◌, decimal, drop, length}
use Rattle.trace_reader.proofs.words.short_number.Given as goal

abbrev pub invariant-loop-at : goal.invariant-loop-at
invariant-loop-at l = record {
  spelled : drop l.start l.bytes ≡ decimal l.value ++ drop l.at l.bytes;
  positive : 1 ≤ l.value;
  small : l.value < 10 ^ (l.at - l.start);
  begun : l.start < l.at;
  few : l.at ≤ l.start + 19;
  inside : l.at ≤ length l.bytes;
}

abbrev pub decreases-loop-at : goal.decreases-loop-at
decreases-loop-at l = length l.bytes - l.at
