use Rattle.std.proofs.Common.{◌≡◌, ℕ, ◌*◌, inl, ap, subst, ◌∙◌, refl, arith}
use Rattle.std.specs.Prelude.{Ok}
use Rattle.std.proofs.lemmas.Result.{err_from_is_err_and}
use Rattle.span_laws.specs.declared.said.Said.TheVariants.{Adds}
use Rattle.span_laws.specs.OwnSteps.{after_said}
use Rattle.span_set.specs.declared.hand.Hand.{Hand}
use Rattle.sweeper.specs.Pays.{Pays}
use Rattle.sweeper.proofs.Again.{pays_stays, stays_works}
use Rattle.proc_cache.proofs.Finding.{paid, paid_nothing}
use Rattle.large_objects.proofs.Taking.{large_done, large_refused}
use Rattle.span_set.proofs.Tallies.{frees-both, frees-none}
use Rattle.large_objects.proofs.larges.alloc_large.Goals as goal

pub returns-in_default-clause-did : goal.returns-in_default-clause-did
returns-in_default-clause-did g c = let p = paid_nothing c.args.shop.now.pages c.args.shop.now.distance (c.from-bytes.result * 8192) c.args.pages c.args.hand.now c.pay.new.hand c.requires.idle c.in_default.ensures.did in
    (p.0, p.1, p.2, inl p.3)

pub returns-in_err-body-clause-did : goal.returns-in_err-body-clause-did
returns-in_err-body-clause-did g c =
    let n = c.args.pages in
    let e : c.from-bytes.result * 8192 ≡ 8192 * n = (let a = c.from-bytes.ensures in omega arith) in
    let w = subst (λ (b : ℕ). Pays c.args.shop.now.pages c.args.shop.now.distance b n c.args.hand.now c.pay.new.hand (Ok c.in-Ok.field-0)) e c.in-Ok.ensures.did in
    let f = paid c.args.shop.now.pages c.args.shop.now.distance (8192 * n) n c.args.hand.now c.pay.new.hand c.requires.idle c.in-Ok.field-0 w in
    let p = err_from_is_err_and c.from_residual.result c.from_residual.ensures.1 in
    rw (p.1, p.2) (large_refused c.args.shop.now.pages c.args.shop.now.distance n c.args.class c.args.hand.now c.pay.new.hand f.0 f.1 f.2 f.3 c.new_span.new.hand c.in_err-body.field-0.0 c.in_err-body.ensures.did)

pub returns-clause-did : goal.returns-clause-did
returns-clause-did g c =
    let n = c.args.pages in
    let e : c.from-bytes.result * 8192 ≡ 8192 * n = (let a = c.from-bytes.ensures in omega arith) in
    let w = subst (λ (b : ℕ). Pays c.args.shop.now.pages c.args.shop.now.distance b n c.args.hand.now c.pay.new.hand (Ok c.in-Ok.field-0)) e c.in-Ok.ensures.did in
    let f = paid c.args.shop.now.pages c.args.shop.now.distance (8192 * n) n c.args.hand.now c.pay.new.hand c.requires.idle c.in-Ok.field-0 w in
    let m2 : Hand = c.new_span.new.hand in
    let m3 : Hand = record m2 { worker = c.add_spent.new.w } in
    large_done c.args.shop.now.pages c.args.shop.now.distance n c.args.class c.args.hand.now c.pay.new.hand f.0 f.1 f.2 f.3 m2 c.in_ok-body.body c.in_ok-body.ensures.did c.add_spent.result c.put_object.result m3 c.put_object.new.hand
    (c.add_spent.ensures ∙ ap (λ (b : ℕ). after_said (Adds 3 c.add_spent.result b) m2.worker) e) refl c.put_object.ensures.puts

pub new_span-requires-clause-works : goal.new_span-requires-clause-works
new_span-requires-clause-works g c =
    stays_works c.args.shop.now.shared.now c.args.shop.now.ring.now c.args.shop.now.marks.now c.args.hand.now c.pay.new.hand
    (pays_stays c.args.shop.now.pages c.args.shop.now.distance (c.from-bytes.result * 8192) c.args.pages c.args.hand.now c.pay.new.hand c.pay.result c.pay.ensures.did) c.pay.ensures.tally c.requires.works

pub returns-in_err-body-clause-tally : goal.returns-in_err-body-clause-tally
returns-in_err-body-clause-tally g c = frees-both c.args.shop.now.marks.now c.args.hand.now c.pay.new.hand c.new_span.new.hand c.pay.ensures.tally c.new_span.ensures.tally

pub returns-clause-tally : goal.returns-clause-tally
returns-clause-tally g c = let m = c.args.shop.now.marks.now in let mid : Hand = c.new_span.new.hand in let spent : Hand = record mid { worker = c.add_spent.new.w } in
    frees-both m c.args.hand.now mid c.put_object.new.hand (frees-both m c.args.hand.now c.pay.new.hand mid c.pay.ensures.tally c.new_span.ensures.tally)
    (frees-both m mid spent c.put_object.new.hand (frees-none m mid spent refl refl) (frees-none m spent c.put_object.new.hand (ap (λ r. r.items) c.put_object.ensures.puts.1) c.put_object.ensures.counted))
