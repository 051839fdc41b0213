use Rattle.std.proofs.Common.{◌≡◌, ◌^◌, ◌<◌, length, ◌+◌, ℕ, List, refl, ap, arith, w64}
use Rattle.std.proofs.lemmas.List.{length-append}
use Rattle.std.proofs.lemmas.Nat.Bits.{bit_at-trailing_zeros}
use Rattle.std.specs.Int.Count.{ones}
use Rattle.span_state.specs.Groups.{group_pairs}
use Rattle.span_state.proofs.Pairs.{length-group_pairs, length-lowest, pushed-all, pushed-lowest, some-bit, without-lowest}
use Rattle.span_state.proofs.marks.push_set.Goals as goal

-- while fewer pairs are pushed than bits were set, a bit is left
left-of : (page group word left pushed bits : ℕ) → word < 2 ^ 64 → pushed < bits → bits ≡ ones word
    → pushed + length (group_pairs ((page, group), left)) ≡ length (group_pairs ((page, group), word)) → 0 < left
left-of page group word left pushed bits fits lt is count =
    let more = length-group_pairs page group word fits in
    some-bit page group left (omega arith)

pub overflow_add-group : goal.overflow_add-group
overflow_add-group c =
    let some = left-of c.args.page c.args.group c.args.word c.loop-pushed.left c.loop-pushed.pushed _ (omega arith) c.loop-pushed-test.true refl c.loop-pushed.invariant.count in
    let lowest = bit_at-trailing_zeros w64 c.loop-pushed.left some (omega arith) in
    let inside = lowest.0 in
    omega arith

pub push_reserved-requires : goal.push_reserved-requires
push_reserved-requires c =
    let more = length-group_pairs c.args.page c.args.group c.args.word (omega arith) in
    let long = ap (λ (ps : List (ℕ × ℕ)). length ps) c.loop-pushed.invariant.items in
    let now = length-append c.loop-pushed.pairs.items (group_pairs ((c.args.page, c.args.group), c.loop-pushed.left)) in
    let old = length-append c.args.pairs.now.items (group_pairs ((c.args.page, c.args.group), c.args.word)) in
    omega arith

pub overflow_sub-left : goal.overflow_sub-left
overflow_sub-left c = left-of c.args.page c.args.group c.args.word c.loop-pushed.left c.loop-pushed.pushed _ (omega arith) c.loop-pushed-test.true refl c.loop-pushed.invariant.count

pub loop-pushed-preserved : goal.loop-pushed-preserved
loop-pushed-preserved c =
    let some = left-of c.args.page c.args.group c.args.word c.loop-pushed.left c.loop-pushed.pushed _ (omega arith) c.loop-pushed-test.true refl c.loop-pushed.invariant.count in
    let lowest = bit_at-trailing_zeros w64 c.loop-pushed.left some (omega arith) in
    let more = length-lowest c.args.page c.args.group c.loop-pushed.left _ lowest.0 lowest.1 lowest.2 in
    let left = without-lowest c.loop-pushed.left _ (omega arith) lowest.0 lowest.1 lowest.2 in
    record {
      items = rw left (pushed-lowest _ _ _ c.args.page c.args.group c.loop-pushed.left _ lowest.0 lowest.1 lowest.2 c.loop-pushed.invariant.items c.push_reserved.ensures.items);
      count = rw left (let so_far = c.loop-pushed.invariant.count in omega arith);
      room = (let same = c.push_reserved.ensures.capacity in let so_far = c.loop-pushed.invariant.room in omega arith);
    }

pub returns-clause-items : goal.returns-clause-items
returns-clause-items c =
    let more = length-group_pairs c.args.page c.args.group c.args.word (omega arith) in
    let so_far = c.loop-pushed.invariant.count in
    pushed-all _ _ _ (omega arith) c.loop-pushed.invariant.items
