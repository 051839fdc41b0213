use Rattle.std.proofs.Common.{◌≡◌, ◌+◌, ◌*◌, ◌/◌, ◌%◌, sym, ◌∙◌, ap, arith}
use Rattle.page_bitmap.specs.Pages.{is_free}
use Rattle.page_alloc.specs.Region.{free_in}
use Rattle.page_alloc.proofs.Walks.{over-at}
use Rattle.page_alloc.proofs.runs.free_word.Goals as goal

pub returns : goal.returns
returns c = λ k lt. (
    let at : 512 * (c.args.page / 512) + (64 * (c.args.page % 512 / 64) + k) ≡ c.args.page + k = omega arith in
    c.free_word.ensures k lt ∙ sym (over-at is_free c.args.chunks.now (c.args.page / 512) (64 * (c.args.page % 512 / 64) + k) _ (omega arith) (omega arith)) ∙ ap (free_in c.args.chunks.now) at)
