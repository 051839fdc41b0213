use Rattle.std.proofs.Common.{◌≡◌, ℕ, refl, ap, ◌∙◌}
use Rattle.worker_log.specs.SetNumbers.{swept_set}
use Rattle.span_set.proofs.Tallies.{frees-none}
use Rattle.central_lists.proofs.Glancing.{one_look}
use Rattle.central_lists.proofs.Looking.{looked_empty}
use Rattle.central_lists.proofs.Trying.{looked_at}
use Rattle.central_lists.proofs.glances.sees_no_swept.Goals as goal

pub returns-then-head-tail-clause-saw : goal.returns-then-head-tail-clause-saw
returns-then-head-tail-clause-saw c = let a = c.args.hand.now in let g = a.worker.view.generation in let r = c.generation-generation in let n = c.swept_number-set in let l = c.look-head in let set = swept_set g c.args.class 0 in
    let same : n.result ≡ set = n.ensures.number ∙ ap (λ (z : ℕ). swept_set z c.args.class 0) r.ensures.value in
    let last = one_look set a.worker r.new.w l.new.w r.result n.result l.result.0 l.result.1 r.ensures.value r.ensures.view same l.ensures.view l.ensures.ahead.passed in
    looked_empty c.args.class a (record a { worker = l.new.w }) refl l.result.0 l.result.1 (c.if-head-tail.true, last)

pub returns-then-head-tail-clause-looked : goal.returns-then-head-tail-clause-looked
returns-then-head-tail-clause-looked c = let a = c.args.hand.now in let g = a.worker.view.generation in let r = c.generation-generation in let n = c.swept_number-set in let l = c.look-head in let set = swept_set g c.args.class 0 in
    let same : n.result ≡ set = n.ensures.number ∙ ap (λ (z : ℕ). swept_set z c.args.class 0) r.ensures.value in
    let last = one_look set a.worker r.new.w l.new.w r.result n.result l.result.0 l.result.1 r.ensures.value r.ensures.view same l.ensures.view l.ensures.ahead.passed in
    looked_at g c.args.class 0 set a (record a { worker = l.new.w }) l.result.0 l.result.1 last refl

pub returns-else-head-tail-clause-looked : goal.returns-else-head-tail-clause-looked
returns-else-head-tail-clause-looked c = let a = c.args.hand.now in let g = a.worker.view.generation in let r = c.generation-generation in let n = c.swept_number-set in let l = c.look-head in let set = swept_set g c.args.class 0 in
    let same : n.result ≡ set = n.ensures.number ∙ ap (λ (z : ℕ). swept_set z c.args.class 0) r.ensures.value in
    let last = one_look set a.worker r.new.w l.new.w r.result n.result l.result.0 l.result.1 r.ensures.value r.ensures.view same l.ensures.view l.ensures.ahead.passed in
    looked_at g c.args.class 0 set a (record a { worker = l.new.w }) l.result.0 l.result.1 last refl

pub returns-then-head-tail-clause-tally : goal.returns-then-head-tail-clause-tally
returns-then-head-tail-clause-tally c = frees-none c.args.shop.now.marks.now c.args.hand.now (record c.args.hand.now { worker = c.look-head.new.w }) refl refl

pub returns-else-head-tail-clause-tally : goal.returns-else-head-tail-clause-tally
returns-else-head-tail-clause-tally c = frees-none c.args.shop.now.marks.now c.args.hand.now (record c.args.hand.now { worker = c.look-head.new.w }) refl refl
