use Rattle.std.proofs.Common.{◌≡◌}
use Rattle.std.specs.Prelude.{Ok, Err}
use Rattle.central_lists.specs.declared.answers.Search.TheVariants.{Found, NotFound}
use Rattle.central_lists.proofs.Joining.{searches_at, same_generation, then_fresh, then_here, then_none}
use Rattle.span_set.proofs.Asks.{keeps_works}
use Rattle.span_set.proofs.Tallies.{frees-both}
use Rattle.central_lists.proofs.lists.search_sets.Goals as goal

pub returns-in-Err-search_unswept-clause-caches : goal.returns-in-Err-search_unswept-clause-caches
returns-in-Err-search_unswept-clause-caches c = let a = c.args.hand.now in let b = c.look_first.new.hand in let g = a.worker.view.generation in
    let e = c.in-Err-search_unswept.field-0 in
    let same : b.worker.view.generation ≡ g = same_generation a.worker b.worker c.in-Err.ensures.looks.keeps in
    let h = searches_at b.worker.view.generation g c.args.class b c.search_unswept.new.hand (Err e) same c.in-Err-search_unswept.ensures.searches in
    then_none g c.args.class c.in-Err.swept a b c.search_unswept.new.hand c.in-Err.ensures.looks e h

pub returns-in-Ok-Found-clause-caches : goal.returns-in-Ok-Found-clause-caches
returns-in-Ok-Found-clause-caches c = let a = c.args.hand.now in let b = c.look_first.new.hand in let g = a.worker.view.generation in
    let same : b.worker.view.generation ≡ g = same_generation a.worker b.worker c.in-Err.ensures.looks.keeps in
    let h = searches_at b.worker.view.generation g c.args.class b c.search_unswept.new.hand (Ok (Found c.in-Ok-Found.body)) same (rw c.in-Ok-Found.field-0-is at c.in-Ok-Found.ensures.searches) in
    then_here g c.args.class c.in-Err.swept a b c.search_unswept.new.hand c.in-Err.ensures.looks c.in-Ok-Found.body h

pub returns-in-Ok-NotFound-clause-caches : goal.returns-in-Ok-NotFound-clause-caches
returns-in-Ok-NotFound-clause-caches c = let a = c.args.hand.now in let b = c.look_first.new.hand in let g = a.worker.view.generation in
    let same : b.worker.view.generation ≡ g = same_generation a.worker b.worker c.in-Err.ensures.looks.keeps in
    let h = searches_at b.worker.view.generation g c.args.class b c.search_unswept.new.hand (Ok (NotFound c.in-Ok-NotFound.tried)) same (rw c.in-Ok-NotFound.field-0-is at c.in-Ok-NotFound.ensures.searches) in
    then_fresh g c.args.class c.in-Err.swept a b c.search_unswept.new.hand c.in-Err.ensures.looks c.in-Ok-NotFound.tried h

pub search_unswept-requires-clause-works : goal.search_unswept-requires-clause-works
search_unswept-requires-clause-works c = keeps_works c.args.shop.now.shared.now c.args.shop.now.ring.now c.args.shop.now.marks.now c.args.hand.now c.look_first.new.hand c.in-Err.ensures.looks.keeps c.look_first.ensures.tally c.requires.works

pub returns-in-Err-search_unswept-clause-tally : goal.returns-in-Err-search_unswept-clause-tally
returns-in-Err-search_unswept-clause-tally c = frees-both c.args.shop.now.marks.now c.args.hand.now c.look_first.new.hand c.search_unswept.new.hand c.look_first.ensures.tally c.search_unswept.ensures.tally

pub returns-in-Ok-Found-clause-tally : goal.returns-in-Ok-Found-clause-tally
returns-in-Ok-Found-clause-tally c = frees-both c.args.shop.now.marks.now c.args.hand.now c.look_first.new.hand c.search_unswept.new.hand c.look_first.ensures.tally c.search_unswept.ensures.tally

pub returns-in-Ok-NotFound-clause-tally : goal.returns-in-Ok-NotFound-clause-tally
returns-in-Ok-NotFound-clause-tally c = frees-both c.args.shop.now.marks.now c.args.hand.now c.look_first.new.hand c.search_unswept.new.hand c.look_first.ensures.tally c.search_unswept.ensures.tally
