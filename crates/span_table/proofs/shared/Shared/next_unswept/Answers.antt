use Rattle.std.proofs.Common.{◌≡◌, ℕ, ap, subst, ◌∙◌, arith}
use Rattle.span_laws.specs.Scans.{SeesEmpty, nth_unswept}
use Rattle.span_laws.specs.Views.{Seen}
use Rattle.span_table.proofs.Scanning.{sees_more, sees_other}
use Rattle.span_table.proofs.shared.Shared.next_unswept.Goals as goal

pub returns-then-head-tail : goal.returns-then-head-tail
returns-then-head-tail c = let k = c.loop-index.invariant in let i = c.loop-index.index in let old = c.args.w.now in let seen = c.look-head.result in
    let set = c.number_at.ensures.number ∙ ap (λ (g : ℕ). nth_unswept g i) (c.w.invariant.generation_is ∙ ap (λ (x : Seen). x.view.generation) c.w.view_is) in
    let from = c.loop-index.auto.index in let low = c.loop-index-test.true in (
      k.said,
      k.sets,
      omega arith,
      omega arith,
      (seen.0, seen.1, c.if-head-tail.true, sees_other c.args.from i old c.loop-index.w c.look-head.new.w k c.number_at.result seen.0 seen.1 set c.look-head.ensures.view),
    )

pub loop-index-preserved : goal.loop-index-preserved
loop-index-preserved c = let k = c.loop-index.invariant in let i = c.loop-index.index in let old = c.args.w.now in let seen = c.look-head.result in
    let set = c.number_at.ensures.number ∙ ap (λ (g : ℕ). nth_unswept g i) (c.w.invariant.generation_is ∙ ap (λ (x : Seen). x.view.generation) c.w.view_is) in
    sees_more c.args.from i old c.loop-index.w c.look-head.new.w k c.number_at.result seen.0 seen.1 set c.if-head-tail.false c.look-head.ensures.view

pub returns : goal.returns
returns c = let k = c.loop-index.invariant in let i = c.loop-index.index in let old = c.args.w.now in
    let end = c.loop-index.auto.index-end in let high = c.loop-index-test.false in
    (k.said, subst (λ (z : ℕ). SeesEmpty old.view.generation c.args.from z k.said) (let z : i ≡ 272 = omega arith in z) k.sets, k.view)
