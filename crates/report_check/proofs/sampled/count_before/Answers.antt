use Rattle.std.proofs.Common.{ℕ, ◌∙◌, ap, arith, ltb}
use Rattle.page_alloc.specs.Lists.{count}
use Rattle.report_check.specs.Order.{place_of}
use Rattle.report_check.proofs.Bucketing.{between, place-low}
use Rattle.report_check.proofs.sampled.count_before.Goals as goal

pub overflow_sub-result : goal.overflow_sub-result
overflow_sub-result c =
    let a = c.below.ensures ∙ ap (λ (k : ℕ). count (λ x. ltb x k) c.args.places.now) c.place_of.ensures.place in
    let b = c.below-2.ensures ∙ ap (λ (k : ℕ). count (λ x. ltb x k) c.args.places.now) c.place_of-2.ensures.place in
    let e = between (place_of c.args.stack c.args.slot 0) (place_of c.args.stack c.args.slot c.args.mark) c.args.places.now (place-low c.args.stack c.args.slot c.args.mark) in
    omega arith

pub returns : goal.returns
returns c =
    let a = c.below.ensures ∙ ap (λ (k : ℕ). count (λ x. ltb x k) c.args.places.now) c.place_of.ensures.place in
    let b = c.below-2.ensures ∙ ap (λ (k : ℕ). count (λ x. ltb x k) c.args.places.now) c.place_of-2.ensures.place in
    let e = between (place_of c.args.stack c.args.slot 0) (place_of c.args.stack c.args.slot c.args.mark) c.args.places.now (place-low c.args.stack c.args.slot c.args.mark) in
    omega arith
