use Rattle.std.proofs.Common.{◌≡◌}
use Rattle.std.proofs.lemmas.Result.{err_from_is_err_and}
use Rattle.std.specs.Prelude.{Ok, Err}
use Rattle.page_bitmap.specs.Counts.{one_if}
use Rattle.central_lists.specs.declared.answers.Tried.TheVariants.{Empty, Gone, Kept}
use Rattle.central_lists.proofs.Joining.{same_generation, tried_all, tried_in_vain, tried_kept, tried_more, tries_at}
use Rattle.span_set.proofs.Asks.{keeps_works}
use Rattle.span_set.proofs.Tallies.{frees-both}
use Rattle.central_lists.proofs.lists.try_all.Goals as goal

pub returns-in-Empty-clause-tries : goal.returns-in-Empty-clause-tries
returns-in-Empty-clause-tries c = let a = c.args.hand.now in let g = a.worker.view.generation in let i = c.loop-tried.invariant.tried in let same : c.loop-tried.hand.worker.view.generation ≡ g = same_generation a.worker c.loop-tried.hand.worker i.does.keeps in
    let d = tries_at c.loop-tried.hand.worker.view.generation g c.args.class (one_if c.args.full) c.loop-tried.hand c.try_one.new.hand (Ok Empty) same (rw c.in-Empty.is at c.in_ok-try_one.ensures.tries) in
    tried_all g c.args.class c.args.before c.loop-tried.tried (one_if c.args.full) a c.loop-tried.hand c.try_one.new.hand i d

pub loop-tried-preserved : goal.loop-tried-preserved
loop-tried-preserved c = let a = c.args.hand.now in let g = a.worker.view.generation in let i = c.loop-tried.invariant.tried in let same : c.loop-tried.hand.worker.view.generation ≡ g = same_generation a.worker c.loop-tried.hand.worker i.does.keeps in
    let d = tries_at c.loop-tried.hand.worker.view.generation g c.args.class (one_if c.args.full) c.loop-tried.hand c.try_one.new.hand (Ok Gone) same (rw c.in-Gone.is at c.in_ok-try_one.ensures.tries) in
    record {
      tried = tried_more g c.args.class c.args.before c.loop-tried.tried a c.loop-tried.hand c.try_one.new.hand i c.loop-tried-test.true d;
      tally = frees-both c.args.shop.now.marks.now a c.loop-tried.hand c.try_one.new.hand c.loop-tried.invariant.tally c.try_one.ensures.tally;
    }

pub returns-in-Kept-clause-tries : goal.returns-in-Kept-clause-tries
returns-in-Kept-clause-tries c = let a = c.args.hand.now in let g = a.worker.view.generation in let i = c.loop-tried.invariant.tried in let same : c.loop-tried.hand.worker.view.generation ≡ g = same_generation a.worker c.loop-tried.hand.worker i.does.keeps in
    let d = tries_at c.loop-tried.hand.worker.view.generation g c.args.class (one_if c.args.full) c.loop-tried.hand c.try_one.new.hand (Ok (Kept c.in-Kept.body)) same (rw c.in-Kept.is at c.in_ok-try_one.ensures.tries) in
    tried_kept g c.args.class c.args.before c.loop-tried.tried c.in-Kept.body a c.loop-tried.hand c.try_one.new.hand i c.loop-tried-test.true d.0 d.1

pub returns-in_err-try_one-clause-tries : goal.returns-in_err-try_one-clause-tries
returns-in_err-try_one-clause-tries c = let a = c.args.hand.now in let g = a.worker.view.generation in let i = c.loop-tried.invariant.tried in let same : c.loop-tried.hand.worker.view.generation ≡ g = same_generation a.worker c.loop-tried.hand.worker i.does.keeps in
    let p = err_from_is_err_and c.from_residual.result c.from_residual.ensures.1 in
    let d = tries_at c.loop-tried.hand.worker.view.generation g c.args.class (one_if c.args.full) c.loop-tried.hand c.try_one.new.hand (Err p.0) same c.in_err-try_one.ensures.tries in
    rw p.1 (tried_in_vain g c.args.class c.args.before c.loop-tried.tried a c.loop-tried.hand c.try_one.new.hand i c.loop-tried-test.true d)

pub try_one-requires-clause-works : goal.try_one-requires-clause-works
try_one-requires-clause-works c = let i = c.loop-tried.invariant in keeps_works c.args.shop.now.shared.now c.args.shop.now.ring.now c.args.shop.now.marks.now c.args.hand.now c.loop-tried.hand i.tried.does.keeps i.tally c.requires.works

pub returns-in-Empty-clause-tally : goal.returns-in-Empty-clause-tally
returns-in-Empty-clause-tally c = frees-both c.args.shop.now.marks.now c.args.hand.now c.loop-tried.hand c.try_one.new.hand c.loop-tried.invariant.tally c.try_one.ensures.tally

pub returns-in-Kept-clause-tally : goal.returns-in-Kept-clause-tally
returns-in-Kept-clause-tally c = frees-both c.args.shop.now.marks.now c.args.hand.now c.loop-tried.hand c.try_one.new.hand c.loop-tried.invariant.tally c.try_one.ensures.tally

pub returns-in_err-try_one-clause-tally : goal.returns-in_err-try_one-clause-tally
returns-in_err-try_one-clause-tally c = frees-both c.args.shop.now.marks.now c.args.hand.now c.loop-tried.hand c.try_one.new.hand c.loop-tried.invariant.tally c.try_one.ensures.tally
