use Rattle.std.proofs.Common.{◌^◌, ◌<◌, ◌≤◌, get_or, w64, refl, rules, arith}
use Rattle.std.proofs.lemmas.Nat.{ones-le, and_le_l}
use Rattle.std.specs.Int.{bit_not}
use Rattle.std.specs.Int.Bits.{bit_and}
use Rattle.std.specs.Int.Count.{ones}
use Rattle.span_state.specs.Bits.{bit_of}
use Rattle.span_state.specs.MarkSet.{is_marked}
use Rattle.span_state.proofs.Sweeps.{swept-none, swept-more, swept-all, kept-le, freed-le}
use Rattle.span_state.proofs.body.Body.sweep.Goals as goal

pub loop-group-init : goal.loop-group-init
loop-group-init c = swept-none _ _ _ refl (λ k. search rules)

pub overflow_add-kept : goal.overflow_add-kept
overflow_add-kept c =
    let so_far = kept-le _ _ _ _ _ _ c.loop-group.invariant in
    let more : ones c.word-marked.result ≤ 64 = ones-le 64 c.word-marked.result (omega arith) in
    omega arith

pub overflow_add-freed : goal.overflow_add-freed
overflow_add-freed c =
    let so_far = freed-le _ _ _ _ _ _ c.loop-group.invariant in
    let fits : get_or c.args.self.now.bits c.loop-group.group 0 < 2 ^ 64 = omega arith in
    let part = and_le_l (get_or c.args.self.now.bits c.loop-group.group 0) (bit_not w64 c.word-marked.result) in
    let more : ones (bit_and (get_or c.args.self.now.bits c.loop-group.group 0) (bit_not w64 c.word-marked.result)) ≤ 64 = ones-le 64 _ (omega arith) in
    omega arith

pub loop-group-preserved : goal.loop-group-preserved
loop-group-preserved c =
    let fits : get_or c.args.self.now.bits c.loop-group.group 0 < 2 ^ 64 = omega arith in
    swept-more c.loop-group.group c.args.self.now.bits (is_marked c.args.marks.now c.args.self.now.page) _ _ _ c.word-marked.result (omega arith) (omega arith) fits
    c.word-marked.ensures.bits c.loop-group.invariant

pub returns-clause-kept : goal.returns-clause-kept
returns-clause-kept c =
    (swept-all c.loop-group.group c.args.self.now.count (bit_of c.args.self.now.bits) (is_marked c.args.marks.now c.args.self.now.page) _ _ _
    c.loop-group.invariant (omega arith) c.requires c.args.self.now.clear_past_count).2

pub returns-clause-freed : goal.returns-clause-freed
returns-clause-freed c =
    (swept-all c.loop-group.group c.args.self.now.count (bit_of c.args.self.now.bits) (is_marked c.args.marks.now c.args.self.now.page) _ _ _
    c.loop-group.invariant (omega arith) c.requires c.args.self.now.clear_past_count).3
