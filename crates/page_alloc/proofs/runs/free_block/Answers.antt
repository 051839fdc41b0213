use Rattle.std.proofs.Common.{◌≡◌, ℕ, ◌+◌, ◌*◌, ◌/◌, ◌%◌, Bool, ◌&&◌, ◌||◌, refl, sym, ◌∙◌, ap, arith, true, false}
use Rattle.page_bitmap.specs.Pages.{is_free, is_scavenged}
use Rattle.page_bitmap.specs.Words.{has_bit}
use Rattle.page_alloc.specs.Owners.{within}
use Rattle.page_alloc.specs.Region.{free_in}
use Rattle.page_alloc.proofs.Walks.{over-block, over-set_same}
use Rattle.page_alloc.proofs.runs.free_block.Goals as goal

keeps : (x : Bool) → (x || false) ≡ x
keeps true = refl
keeps false = refl

pub returns-clause-free : goal.returns-clause-free
returns-clause-free c = λ p. (
    let at : 512 * (c.args.page / 512) + 64 * (c.args.page % 512 / 64) ≡ c.args.page = omega arith in
    over-block is_free is_free c.args.chunks.now (c.args.page / 512) (c.args.page % 512 / 64) p _ _ (has_bit c.args.pages) (λ x w o b. x || (w && b)) (omega arith) (omega arith) (λ x o b. keeps x) (λ j. c.free_block.ensures.free j)
    ∙ ap (λ (q : ℕ). free_in c.args.chunks.now p || (within p q 64 && has_bit c.args.pages (p % 64))) at)

pub returns-clause-scavenged : goal.returns-clause-scavenged
returns-clause-scavenged c p = over-set_same is_scavenged c.args.chunks.now (c.args.page / 512) p _ _ (omega arith) c.free_block.ensures.scavenged
