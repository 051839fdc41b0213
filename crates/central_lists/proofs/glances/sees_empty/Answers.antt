use Rattle.std.proofs.Common.{◌≡◌, ℕ, refl, ap, ◌∙◌}
use Rattle.std.proofs.lemmas.Bool.{eqb-true}
use Rattle.page_bitmap.specs.Counts.{one_if}
use Rattle.worker_log.specs.SetNumbers.{unswept_set}
use Rattle.span_set.proofs.Tallies.{frees-none}
use Rattle.central_lists.proofs.Glancing.{one_look}
use Rattle.central_lists.proofs.Trying.{looked_at, none_left}
use Rattle.central_lists.proofs.glances.sees_empty.Goals as goal

pub returns-clause-looked : goal.returns-clause-looked
returns-clause-looked c = let a = c.args.hand.now in let g = a.worker.view.generation in let f = one_if c.args.full in let r = c.generation-generation in let n = c.unswept_number-set in let l = c.look-head in let set = unswept_set g c.args.class f in
    let same : n.result ≡ set = n.ensures.number ∙ ap (λ (z : ℕ). unswept_set z c.args.class f) r.ensures.value in
    looked_at g c.args.class f set a (record a { worker = l.new.w }) l.result.0 l.result.1
    (one_look set a.worker r.new.w l.new.w r.result n.result l.result.0 l.result.1 r.ensures.value r.ensures.view same l.ensures.view l.ensures.ahead.passed) refl

pub returns-clause-empty : goal.returns-clause-empty
returns-clause-empty c = λ empty. let a = c.args.hand.now in let g = a.worker.view.generation in let f = one_if c.args.full in let r = c.generation-generation in let n = c.unswept_number-set in let l = c.look-head in let set = unswept_set g c.args.class f in
    let same : n.result ≡ set = n.ensures.number ∙ ap (λ (z : ℕ). unswept_set z c.args.class f) r.ensures.value in
    none_left g c.args.class f a (record a { worker = l.new.w }) l.result.0 l.result.1
    (eqb-true l.result.0 l.result.1 empty, one_look set a.worker r.new.w l.new.w r.result n.result l.result.0 l.result.1 r.ensures.value r.ensures.view same l.ensures.view l.ensures.ahead.passed) refl

pub returns-clause-tally : goal.returns-clause-tally
returns-clause-tally c = frees-none c.args.shop.now.marks.now c.args.hand.now (record c.args.hand.now { worker = c.look-head.new.w }) refl refl
