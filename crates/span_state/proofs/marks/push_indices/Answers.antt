use Rattle.std.proofs.Common.{◌≡◌, ℕ, ◌+◌, ◌++◌, get_or, ◌∙◌, ap, arith}
use Rattle.span_state.specs.Groups.{page_pairs}
use Rattle.span_state.specs.MarkSet.{indices_at}
use Rattle.span_state.proofs.Indices.{pushed-bits, room-bits}
use Rattle.span_state.proofs.marks.push_indices.Goals as goal

pub push_bits-requires-clause-room : goal.push_bits-requires-clause-room
push_bits-requires-clause-room c = λ page.
    (let all = c.requires.room page in
    let long = c.near-near.ensures.len in
    let same = c.loop-group.invariant.room in
    room-bits c.args.row.now c.loop-group.group page _ _ _ _ (omega arith) (c.near-near.ensures.words c.loop-group.group c.loop-group-test.true) (c.loop-group.invariant.items page) (omega arith))

pub push_bits-requires-in-loop-group-2-clause-room : goal.push_bits-requires-in-loop-group-2-clause-room
push_bits-requires-in-loop-group-2-clause-room c = λ page.
    (let all = c.requires.room page in
    let same = c.loop-group-2.invariant.room in
    room-bits c.args.row.now (16 + c.loop-group-2.group) page _ _ _ _ (omega arith) (c.far-far.ensures.words c.loop-group-2.group) (c.loop-group-2.invariant.items page) (omega arith))

pub loop-group-preserved : goal.loop-group-preserved
loop-group-preserved c = record {
  items = λ page. pushed-bits c.args.row.now c.loop-group.group (c.loop-group.group + 1) page _ _ _ _ (omega arith) (c.near-near.ensures.words c.loop-group.group c.loop-group-test.true) (c.loop-group.invariant.items page) (c.push_bits.ensures.items page);
  room = (let same = c.push_bits.ensures.capacity in let so_far = c.loop-group.invariant.room in omega arith);
}

pub loop-group-2-init : goal.loop-group-2-init
loop-group-2-init c =
    let all : c.loop-group.group ≡ 16 = omega arith in
    record {
      items = λ page. c.loop-group.invariant.items page ∙ ap (λ (n : ℕ). c.args.indices.now.items ++ indices_at page (page_pairs n page (λ g. get_or c.args.row.now g 0))) all;
      room = c.loop-group.invariant.room;
    }

pub loop-group-2-preserved : goal.loop-group-2-preserved
loop-group-2-preserved c = record {
  items = λ page. pushed-bits c.args.row.now (16 + c.loop-group-2.group) (16 + (c.loop-group-2.group + 1)) page _ _ _ _ (omega arith) (c.far-far.ensures.words c.loop-group-2.group) (c.loop-group-2.invariant.items page) (c.push_bits-in-loop-group-2.ensures.items page);
  room = (let same = c.push_bits-in-loop-group-2.ensures.capacity in let so_far = c.loop-group-2.invariant.room in omega arith);
}
