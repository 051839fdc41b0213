use Rattle.std.proofs.Common.{ℕ, length, ap, arith}
use Rattle.span_state.specs.Groups.{group_pairs}
use Rattle.span_state.proofs.Pairs.{length-all}
use Rattle.span_state.proofs.marks.push_group.Goals as goal

pub push_all-requires-clause-room : goal.push_all-requires-clause-room
push_all-requires-clause-room c =
    let all = length-all c.args.page c.args.group in
    let same = ap (λ (word : ℕ). length (group_pairs ((c.args.page, c.args.group), word))) c.if-word-eq18446744073709551615.true in
    omega arith
