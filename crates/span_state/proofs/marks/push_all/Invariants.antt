use Rattle.std.proofs.Common.{◌≡◌, ◌-◌, ◌^◌, ◌++◌, vec_capacity}
use Rattle.span_state.specs.Groups.{word_pairs}
use Rattle.span_state.proofs.marks.push_all.Given as goal

-- the pairs of the bits so far are pushed
abbrev pub invariant-loop-bit : goal.invariant-loop-bit
invariant-loop-bit l = record {
  items : l.pairs.items ≡ l.fn.pairs.items ++ word_pairs l.bit l.page l.group (2 ^ 64 - 1);
  room : vec_capacity l.pairs ≡ vec_capacity l.fn.pairs;
}
