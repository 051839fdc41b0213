use Rattle.std.proofs.Common.{◌<◌, ◌≤◌, length, arith}
use Rattle.trace_reader.proofs.Walk.{span_at, walk_start, walk_pass, walk_span, walk_range, walk_dead, walk_end}
use Rattle.trace_reader.proofs.live.walk.Goals as goal
use Rattle.trace_reader.proofs.live.walk.Goals.{else-at-kept-via-then-at-kept+else-from-id, else-at-kept-via-else-at-kept, else-at-kept-2-via-then-at-kept-2+else-from-id-2, else-at-kept-2-via-else-at-kept-2, else-from-id-3-via-then-from-id-3+else-id-from, else-from-id-3-via-else-from-id-3}

pub loop-id-init : goal.loop-id-init
loop-id-init c = λ rising passes. walk_start c.args.kept.now c.args.first c.args.objects c.args.span c.args.passed c.from-id.result c.from-id.ensures rising passes

pub loop-id-smaller-then-from-id : goal.loop-id-smaller-then-from-id
loop-id-smaller-then-from-id c = omega arith

pub loop-id-preserved-then-from-id : goal.loop-id-preserved-then-from-id
loop-id-preserved-then-from-id c = λ rising passes.
    walk_pass c.args.kept.now c.args.first c.args.objects c.args.span c.loop-id.at c.loop-id.id c.if-at-kept.true (omega arith) (omega arith) (c.loop-id.invariant rising passes)

pub loop-id-smaller-then-from-id-2 : goal.loop-id-smaller-then-from-id-2
loop-id-smaller-then-from-id-2 c = elim c.else-at-kept.branch [ else-at-kept-via-then-at-kept+else-from-id w ↦ omega arith | else-at-kept-via-else-at-kept w ↦ omega arith ]

pub loop-id-preserved-then-from-id-2 : goal.loop-id-preserved-then-from-id-2
loop-id-preserved-then-from-id-2 c = λ rising passes.
    let high : c.loop-id.id ≤ (span_at c.args.kept.now c.loop-id.at).hi = elim c.else-at-kept.branch [ else-at-kept-via-then-at-kept+else-from-id w ↦ omega arith | else-at-kept-via-else-at-kept w ↦ omega arith ] in
    walk_span c.args.kept.now c.args.first c.args.objects c.args.span c.loop-id.at c.loop-id.id _ (omega arith) c.if-at-kept-2.true (omega arith) high (c.loop-id.invariant rising passes)

pub loop-id-smaller : goal.loop-id-smaller
loop-id-smaller c = omega arith

pub loop-id-preserved : goal.loop-id-preserved
loop-id-preserved c = λ rising passes.
    walk_range c.args.kept.now c.args.first c.args.objects c.args.span c.loop-id.at c.loop-id.id _ (omega arith) (omega arith) (omega arith) (c.loop-id.invariant rising passes)

pub returns-else-from-id-3 : goal.returns-else-from-id-3
returns-else-from-id-3 c = λ rising passes.
    let early : c.loop-id.at < length c.args.kept.now → c.loop-id.id < (span_at c.args.kept.now c.loop-id.at).lo = λ here.
    elim c.else-at-kept-2.branch [ else-at-kept-2-via-then-at-kept-2+else-from-id-2 w ↦ omega arith | else-at-kept-2-via-else-at-kept-2 w ↦ omega arith ] in
    let late : c.args.first ≤ c.loop-id.id → c.args.objects ≤ c.loop-id.id = λ low.
    elim c.else-from-id-3.branch [ else-from-id-3-via-then-from-id-3+else-id-from w ↦ omega arith | else-from-id-3-via-else-from-id-3 w ↦ omega arith ] in
    walk_dead c.args.kept.now c.args.first c.args.objects c.args.span c.loop-id.at c.loop-id.id (omega arith) early late (c.loop-id.invariant rising passes)

pub returns : goal.returns
returns c = λ rising passes. walk_end c.args.kept.now c.args.first c.args.objects c.args.span c.loop-id.at c.loop-id.id (omega arith) (c.loop-id.invariant rising passes)
