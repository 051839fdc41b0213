use Rattle.std.proofs.Common.{◌+◌, ℕ, subst, sym, arith}
use Rattle.std.proofs.lemmas.Result.{err_from_is_err_and}
use Rattle.std.specs.Prelude.{Ok, Some}
use Rattle.sweeper.specs.ReclaimSteps.{ReclaimsNext}
use Rattle.sweeper.proofs.Covering.{next_got, next_none, next_wants}
use Rattle.sweeper.proofs.reclaimer.reclaim_next.Goals as goal

pub returns-in_default-clause-did : goal.returns-in_default-clause-did
returns-in_default-clause-did g c = next_none c.args.hand.now c.requires.unpopped c.args.from c.args.to c.acquire_unmarked-found.new.w c.in_default.ensures

pub returns-in_err-reserve_note-clause-did : goal.returns-in_err-reserve_note-clause-did
returns-in_err-reserve_note-clause-did g c = let h = c.args.hand.now in let e = c.in_err-reserve_note.ensures in let n = c.pages_of-pages in let p = err_from_is_err_and c.from_residual.result c.from_residual.ensures.1 in
    rw p.1 (next_wants h c.requires.unpopped c.args.from c.args.to c.args.shop.now.marks.now c.requires.works.marks c.in-Some.body (let f = n.type_inv in let g = n.ensures in omega arith) c.acquire_unmarked-found.new.w c.in-Some.ensures
    c.requires.unclaimed c.settle.new.hand c.settle.result c.settle.ensures.did c.reserve_note.new.self e.worker e.notes _)

pub returns-clause-did : goal.returns-clause-did
returns-clause-did g c = let h = c.args.hand.now in let e = c.in_ok-reserve_note.ensures in let n = c.pages_of-pages in
    subst (λ (x : ℕ). ReclaimsNext c.args.from c.args.to h c.reserve_note.new.self (Ok (Some (c.in-Some.body.page + 1, x)))) (sym n.ensures)
    (next_got h c.requires.unpopped c.args.from c.args.to c.args.shop.now.marks.now c.requires.works.marks c.in-Some.body (let f = n.type_inv in let g = n.ensures in omega arith) c.acquire_unmarked-found.new.w c.in-Some.ensures
    c.requires.unclaimed c.settle.new.hand c.settle.result c.settle.ensures.did c.reserve_note.new.self e.worker e.notes)
