use Rattle.std.proofs.Common.{◌≡◌, ℕ, ◌*◌, inl, subst, arith}
use Rattle.std.specs.Prelude.{Ok}
use Rattle.sweeper.specs.Pays.{Pays}
use Rattle.sweeper.proofs.Again.{pays_stays, stays_works}
use Rattle.proc_cache.specs.RefillLogs.{bytes_of}
use Rattle.proc_cache.proofs.Finding.{finds, paid, paid_nothing}
use Rattle.span_set.proofs.Tallies.{frees-both}
use Rattle.proc_cache.proofs.refills.find_span.Goals as goal

pub returns-in_default-clause-finds : goal.returns-in_default-clause-finds
returns-in_default-clause-finds g c = let p = paid_nothing c.args.shop.now.pages c.args.shop.now.distance (c.from.result * 8192) 0 c.args.hand.now c.pay.new.hand c.requires.idle c.in_default.ensures.did in
    (p.0, p.1, p.2, inl p.3)

pub returns-clause-finds : goal.returns-clause-finds
returns-clause-finds g c =
    let e : c.from.result * 8192 ≡ bytes_of c.args.class = (let a = c.from.ensures in let b = c.span_pages-pages.ensures.pages in omega arith) in
    let w = subst (λ (b : ℕ). Pays c.args.shop.now.pages c.args.shop.now.distance b 0 c.args.hand.now c.pay.new.hand (Ok c.in-Ok.field-0)) e c.in-Ok.ensures.did in
    let p = paid c.args.shop.now.pages c.args.shop.now.distance (bytes_of c.args.class) 0 c.args.hand.now c.pay.new.hand c.requires.idle c.in-Ok.field-0 w in
    finds c.args.shop.now.pages c.args.shop.now.distance c.args.class c.args.hand.now c.pay.new.hand p.0 p.1 p.2 p.3 c.take_span.new.hand c.take_span.result c.take_span.ensures.comes

pub take_span-requires-clause-works : goal.take_span-requires-clause-works
take_span-requires-clause-works g c =
    stays_works c.args.shop.now.shared.now c.args.shop.now.ring.now c.args.shop.now.marks.now c.args.hand.now c.pay.new.hand
    (pays_stays c.args.shop.now.pages c.args.shop.now.distance (c.from.result * 8192) 0 c.args.hand.now c.pay.new.hand c.pay.result c.pay.ensures.did) c.pay.ensures.tally c.requires.works

pub returns-clause-tally : goal.returns-clause-tally
returns-clause-tally g c = frees-both c.args.shop.now.marks.now c.args.hand.now c.pay.new.hand c.take_span.new.hand c.pay.ensures.tally c.take_span.ensures.tally
