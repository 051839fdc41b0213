use Rattle.std.proofs.Common.{◌≡◌, ℕ, ◌+◌, ◌*◌, ◌/◌, ◌%◌, Bool, ◌&&◌, not, refl, sym, ◌∙◌, ap, arith, true, false}
use Rattle.page_bitmap.specs.Pages.{is_free, is_scavenged}
use Rattle.page_bitmap.specs.Counts.{count_run}
use Rattle.page_alloc.specs.Owners.{within}
use Rattle.page_alloc.specs.Region.{free_in, scavenged_in}
use Rattle.page_alloc.proofs.Walks.{over-block, block_count}
use Rattle.page_alloc.proofs.runs.take_block.Goals as goal

keeps : (x : Bool) → (x && true) ≡ x
keeps true = refl
keeps false = refl

pub returns-clause-free : goal.returns-clause-free
returns-clause-free c = λ p. (
    let at : 512 * (c.args.page / 512) + 64 * (c.args.page % 512 / 64) ≡ c.args.page = omega arith in
    over-block is_free is_free c.args.chunks.now (c.args.page / 512) (c.args.page % 512 / 64) p _ _ (λ k. true) (λ x w o b. x && not w) (omega arith) (omega arith) (λ x o b. keeps x) (λ j. c.take_block.ensures.free j)
    ∙ ap (λ (q : ℕ). free_in c.args.chunks.now p && not (within p q 64)) at)

pub returns-clause-scavenged : goal.returns-clause-scavenged
returns-clause-scavenged c = λ p. (
    let at : 512 * (c.args.page / 512) + 64 * (c.args.page % 512 / 64) ≡ c.args.page = omega arith in
    over-block is_scavenged is_free c.args.chunks.now (c.args.page / 512) (c.args.page % 512 / 64) p _ _ (λ k. true) (λ x w o b. x && not (w && o)) (omega arith) (omega arith) (λ x o b. keeps x) (λ j. c.take_block.ensures.scavenged j)
    ∙ ap (λ (q : ℕ). scavenged_in c.args.chunks.now p && not (within p q 64 && free_in c.args.chunks.now p)) at)

pub returns-clause-count : goal.returns-clause-count
returns-clause-count c =
    let at : 512 * (c.args.page / 512) + 64 * (c.args.page % 512 / 64) ≡ c.args.page = omega arith in
    c.take_block.ensures.count ∙ block_count is_free is_scavenged c.args.chunks.now (c.args.page / 512) (c.args.page % 512 / 64) _ (omega arith) (omega arith)
    ∙ ap (λ (q : ℕ). count_run q 64 (λ p. free_in c.args.chunks.now p && scavenged_in c.args.chunks.now p)) at
