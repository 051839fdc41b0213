use Rattle.std.proofs.Common.{◌≡◌, ◌*◌, ◌-◌, ◌+◌, ◌/◌, ◌<◌, ◌^◌, ℕ, get_or, bit_and, arith, rules, refl, ◌∙◌, ap, min}
use Rattle.std.specs.Int.Count.{ones, ones-le}
use Rattle.std.proofs.lemmas.Nat.{and_le_l}
use Rattle.page_bitmap.specs.Counts.{count_below, count_run}
use Rattle.page_bitmap.specs.CountLaws.{count_below-le}
use Rattle.page_bitmap.specs.Words.{has_page}
use Rattle.page_bitmap.proofs.Maps.{count-word}
use Rattle.page_bitmap.proofs.bitmap.Bitmap.count_run.Goals as goal

pub loop-i-init : goal.loop-i-init
unfolding count_below
loop-i-init c =
    let none : min (64 * (c.args.page / 64)) (c.args.page + c.args.n) - c.args.page ≡ 0 = omega arith in
    rw none refl

pub overflow_add-count : goal.overflow_add-count
overflow_add-count c =
    let fits : get_or c.args.self.now.words c.loop-i.i 0 < 2 ^ 64 = search rules in
    let few = ones-le 64 (bit_and (get_or c.args.self.now.words c.loop-i.i 0) c.span-mask.result)
    (omega (arith, and_le_l (get_or c.args.self.now.words c.loop-i.i 0) c.span-mask.result)) in
    let so_far = count_below-le (min (64 * c.loop-i.i) (c.args.page + c.args.n) - c.args.page) (λ k. has_page c.args.self.now.words (c.args.page + k)) in
    omega (arith, c.loop-i.invariant)

pub loop-i-preserved : goal.loop-i-preserved
loop-i-preserved c =
    ap (λ (x : ℕ). x + ones (bit_and (get_or c.args.self.now.words c.loop-i.i 0) c.span-mask.result)) c.loop-i.invariant
    ∙ count-word c.args.self.now.words c.args.page c.args.n c.loop-i.i c.span-mask.result (omega arith) (omega arith) (omega arith) (search rules)
    (λ k above under. c.span-mask.ensures.inside k (omega arith) (omega arith))
    (λ k under. c.span-mask.ensures.below k (omega arith))
    (λ k above. c.span-mask.ensures.above k (omega arith))

pub returns : goal.returns
returns c =
    let all : min (64 * c.loop-i.i) (c.args.page + c.args.n) - c.args.page ≡ c.args.n = omega arith in
    c.loop-i.invariant ∙ ap (λ (x : ℕ). count_run c.args.page x (has_page c.args.self.now.words)) all
