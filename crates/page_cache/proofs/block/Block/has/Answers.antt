use Rattle.std.proofs.Common.{◌≡◌, ◌-◌, ltb, leb, true, sym, ◌∙◌, arith}
use borrow.Author.Tests.{ltb-true, leb-true}
use Rattle.page_cache.specs.Words.{has_bit}
use Rattle.page_cache.proofs.Pages.{page-in}
use Rattle.page_cache.proofs.block.Block.has.Goals as goal
use Rattle.page_cache.proofs.block.Block.has.Goals.{then-page-self, else-page-self}

pub returns-then-page-self-lt64 : goal.returns-then-page-self-lt64
unfolding has_bit
returns-then-page-self-lt64 c =
    let s = c.args.self.now in
    elim c.if-page-self.branch [
      | then-page-self w ↦
          let low : ltb (c.args.page - s.page) 64 ≡ true = sym w.value-is ∙ c.if-page-self-lt64.true in
          sym (page-in s c.args.page w.if-page-self.true (omega (arith, ltb-true _ _ low, w.if-page-self.true)))
      | else-page-self w ↦
          let above : leb s.page c.args.page ≡ true = sym w.value-is ∙ c.if-page-self-lt64.true in
          absurd (omega (arith, leb-true _ _ above, w.if-page-self.false))
    ]
