use Rattle.std.proofs.Common.{refl, ap, ◌∙◌, ℕ}
use Rattle.std.proofs.lemmas.Result.{err_from_is_err_and}
use Rattle.span_laws.specs.Views.{Seen}
use Rattle.span_set.proofs.Asks.{moved_works}
use Rattle.sweeper.specs.Pays.{target_of}
use Rattle.sweeper.proofs.Paying.{paid_all, paid_reached, paid_wants}
use Rattle.sweeper.proofs.payments.pay.Goals as goal

pub returns-in-None-clause-did : goal.returns-in-None-clause-did
returns-in-None-clause-did g c = let h = c.args.hand.now in let g = c.generation-generation in let s = c.spent-spent in let a = c.args in
    paid_all a.shop.now.pages a.shop.now.distance a.bytes a.credit h c.requires.unpopped g.new.w s.new.w s.result g.result g.ensures.view s.ensures (record h { worker = s.new.w }) refl c.target-target.result
    (c.target-target.ensures ∙ ap (λ (d : ℕ). target_of g.result a.shop.now.pages d s.result a.bytes a.credit) c.bytes-distance.ensures.value
    ∙ ap (λ (x : ℕ). target_of x a.shop.now.pages a.shop.now.distance s.result a.bytes a.credit) g.ensures.value) c.sweep_until.new.hand (rw c.in-None.is at c.in_ok-seen.ensures.did)

pub returns-in-Some-clause-did : goal.returns-in-Some-clause-did
returns-in-Some-clause-did g c = let h = c.args.hand.now in let g = c.generation-generation in let s = c.spent-spent in let a = c.args in
    paid_reached a.shop.now.pages a.shop.now.distance a.bytes a.credit h c.requires.unpopped g.new.w s.new.w s.result g.result g.ensures.view s.ensures (record h { worker = s.new.w }) refl c.target-target.result
    (c.target-target.ensures ∙ ap (λ (d : ℕ). target_of g.result a.shop.now.pages d s.result a.bytes a.credit) c.bytes-distance.ensures.value
    ∙ ap (λ (x : ℕ). target_of x a.shop.now.pages a.shop.now.distance s.result a.bytes a.credit) g.ensures.value) c.sweep_until.new.hand c.in-Some.seen (rw c.in-Some.is at c.in_ok-seen.ensures.did)

pub returns-in_err-seen-clause-did : goal.returns-in_err-seen-clause-did
returns-in_err-seen-clause-did g c = let h = c.args.hand.now in let g = c.generation-generation in let s = c.spent-spent in let a = c.args in
    let p = err_from_is_err_and c.from_residual.result c.from_residual.ensures.1 in
    rw p.1 (paid_wants a.shop.now.pages a.shop.now.distance a.bytes a.credit h c.requires.unpopped g.new.w s.new.w s.result g.result g.ensures.view s.ensures (record h { worker = s.new.w }) refl c.target-target.result
    (c.target-target.ensures ∙ ap (λ (d : ℕ). target_of g.result a.shop.now.pages d s.result a.bytes a.credit) c.bytes-distance.ensures.value
    ∙ ap (λ (x : ℕ). target_of x a.shop.now.pages a.shop.now.distance s.result a.bytes a.credit) g.ensures.value) c.sweep_until.new.hand _ c.in_err-seen.ensures.did)

pub sweep_until-requires-clause-works : goal.sweep_until-requires-clause-works
sweep_until-requires-clause-works g c = let h = c.args.hand.now in let g = c.generation-generation in let s = c.spent-spent in
    moved_works c.args.shop.now.shared.now c.args.shop.now.ring.now c.args.shop.now.marks.now h s.new.w _ s.ensures (ap (λ (w : Seen). w.table) g.ensures.view) (ap (λ (w : Seen). w.away) g.ensures.view) (ap (λ (w : Seen). w.view.marks) g.ensures.view) c.requires.works
