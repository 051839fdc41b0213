use Rattle.std.proofs.Common.{◌≡◌, ◌+◌, ◌^◌, ◌<◌, ℕ, length, get_or, ◌∙◌, ap, arith}
use Rattle.std.proofs.lemmas.Nat.{ones-le}
use Rattle.span_state.specs.Groups.{page_pairs}
use Rattle.span_state.proofs.Pairs.{marks-more}
use Rattle.span_state.proofs.marks.marks_in.Goals as goal

pub loop-group-preserved : goal.loop-group-preserved
loop-group-preserved c =
    let word : get_or c.near-near.result.now c.loop-group.group 0 < 2 ^ 64 = omega arith in
    let same = c.near-near.ensures.words c.loop-group.group c.loop-group-test.true in
    record {
      exact = λ page. ap (λ (n : ℕ). c.loop-group.marks + n) c.bits_in-marks.ensures ∙ marks-more c.args.row.now c.loop-group.group page c.loop-group.marks _ (c.loop-group.invariant.exact page) same word;
      few = (let bits = ones-le 64 (get_or c.near-near.result.now c.loop-group.group 0) word in let now = c.bits_in-marks.ensures in let few = c.loop-group.invariant.few in omega arith);
    }

pub loop-group-2-init : goal.loop-group-2-init
loop-group-2-init c =
    let all : c.loop-group.group ≡ 16 = omega arith in
    record {
      exact = λ page. c.loop-group.invariant.exact page ∙ ap (λ (n : ℕ). length (page_pairs n page (λ g. get_or c.args.row.now g 0))) all;
      few = (let few = c.loop-group.invariant.few in omega arith);
    }

pub loop-group-2-preserved : goal.loop-group-2-preserved
loop-group-2-preserved c =
    let word : get_or c.far-far.result.now c.loop-group-2.group 0 < 2 ^ 64 = (c.type_inv.far c.loop-group-2.group).fits in
    let same = c.far-far.ensures.words c.loop-group-2.group in
    let next : 16 + c.loop-group-2.group + 1 ≡ 16 + (c.loop-group-2.group + 1) = omega arith in
    record {
      exact = λ page. ap (λ (n : ℕ). c.loop-group-2.marks + n) c.bits_in-marks-in-loop-group-2.ensures
          ∙ marks-more c.args.row.now (16 + c.loop-group-2.group) page c.loop-group-2.marks _ (c.loop-group-2.invariant.exact page) same word
          ∙ ap (λ (n : ℕ). length (page_pairs n page (λ g. get_or c.args.row.now g 0))) next;
      few = (let bits = ones-le 64 (get_or c.far-far.result.now c.loop-group-2.group 0) word in let now = c.bits_in-marks-in-loop-group-2.ensures in let few = c.loop-group-2.invariant.few in omega arith);
    }
