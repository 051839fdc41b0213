use Rattle.std.proofs.Common.{◌≡◌, ◌≤◌, ◌<◌, ◌∙◌, ℕ, length, ap, sym, subst, arith}
use Rattle.std.proofs.Math.Nat.{min-le_left}
use Rattle.sweep_laws.specs.Reading.{is_free_page, block_start}
use Rattle.sweep_generation.proofs.Ranges.{passes_next, passes_on}
use Rattle.sweep_generation.proofs.state.Core.list_block.Goals.{then-is_free_page, else-is_free_page}
use Rattle.sweep_generation.proofs.state.Core.list_block.Goals as goal

pub loop-k-preserved : goal.loop-k-preserved
loop-k-preserved c =
    let l : c.min-pages.result ≤ 64 = subst (λ (n : ℕ). n ≤ 64) (sym c.min-pages.ensures) (min-le_left 64 _) in
    let t = c.loop-k-test.true in
    let f = c.loop-k.invariant.few in
    let s = c.loop-k.invariant.space in
    let low : c.loop-k.count < length c.loop-k.block = omega arith in
    elim c.if-is_free_page.branch [
      | then-is_free_page w ↦ record {
        few = let n = w.count-is in omega arith;
        space = c.if-is_free_page.auto.block ∙ s;
        pages = rw (w.count-is, w.block-is) (passes_next (is_free_page c.args.self.now) (block_start c.args.page) c.loop-k.k c.loop-k.block c.loop-k.count low c.loop-k.invariant.pages (sym c.is_free_page.ensures ∙ w.if-is_free_page.true));
      }
      | else-is_free_page w ↦ record {
        few = let n = w.count-is in omega arith;
        space = c.if-is_free_page.auto.block ∙ s;
        pages = rw (w.count-is, w.block-is) (c.loop-k.invariant.pages ∙ sym (passes_on (is_free_page c.args.self.now) (block_start c.args.page) c.loop-k.k (sym c.is_free_page.ensures ∙ w.if-is_free_page.false)));
      }
    ]
