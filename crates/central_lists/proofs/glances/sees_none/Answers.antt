use Rattle.std.proofs.Common.{ℕ}
use Rattle.worker_log.specs.SetNumbers.{unswept_set}
use Rattle.span_set.proofs.Tallies.{frees-both}
use Rattle.central_lists.specs.Looks.{SawEmpty}
use Rattle.central_lists.proofs.Glancing.{does_at, looked_both, none_seen}
use Rattle.central_lists.proofs.Joining.{same_generation}
use Rattle.central_lists.proofs.glances.sees_none.Goals as goal

pub returns-then-not-sees_empty-clause-none : goal.returns-then-not-sees_empty-clause-none
returns-then-not-sees_empty-clause-none c = looked_both c.args.class c.args.hand.now c.sees_no_swept.new.hand c.sees_empty.new.hand c.sees_no_swept.ensures.looked c.sees_empty.ensures.looked

pub returns-then-not-sees_empty-2-clause-none : goal.returns-then-not-sees_empty-2-clause-none
returns-then-not-sees_empty-2-clause-none c =
    looked_both c.args.class c.args.hand.now c.sees_empty.new.hand c.sees_empty-2.new.hand
    (looked_both c.args.class c.args.hand.now c.sees_no_swept.new.hand c.sees_empty.new.hand c.sees_no_swept.ensures.looked c.sees_empty.ensures.looked) c.sees_empty-2.ensures.looked

pub returns-clause-none : goal.returns-clause-none
returns-clause-none c =
    let a = c.args.hand.now in let b = c.sees_no_swept.new.hand in let d = c.sees_empty.new.hand in let g = a.worker.view.generation in
    let x = c.sees_no_swept.ensures.looked in
    let w = looked_both c.args.class a b d x c.sees_empty.ensures.looked in
    none_seen g c.args.class c.in_ok-at.at a b d c.sees_empty-2.new.hand c.in_ok-at.ensures.saw
    (does_at b.worker.view.generation g c.args.class (λ (z : ℕ). SawEmpty (unswept_set z c.args.class 0)) b d (same_generation a.worker b.worker x.keeps) (c.sees_empty.ensures.empty c.if-not-sees_empty.false))
    (does_at d.worker.view.generation g c.args.class (λ (z : ℕ). SawEmpty (unswept_set z c.args.class 1)) d c.sees_empty-2.new.hand (same_generation a.worker d.worker w.keeps) (c.sees_empty-2.ensures.empty c.if-not-sees_empty-2.false))

pub returns-then-not-sees_empty-clause-tally : goal.returns-then-not-sees_empty-clause-tally
returns-then-not-sees_empty-clause-tally c = frees-both c.args.shop.now.marks.now c.args.hand.now c.sees_no_swept.new.hand c.sees_empty.new.hand c.sees_no_swept.ensures.tally c.sees_empty.ensures.tally

pub returns-then-not-sees_empty-2-clause-tally : goal.returns-then-not-sees_empty-2-clause-tally
returns-then-not-sees_empty-2-clause-tally c = frees-both c.args.shop.now.marks.now c.args.hand.now c.sees_empty.new.hand c.sees_empty-2.new.hand (frees-both c.args.shop.now.marks.now c.args.hand.now c.sees_no_swept.new.hand c.sees_empty.new.hand c.sees_no_swept.ensures.tally c.sees_empty.ensures.tally) c.sees_empty-2.ensures.tally

pub returns-clause-tally : goal.returns-clause-tally
returns-clause-tally c = frees-both c.args.shop.now.marks.now c.args.hand.now c.sees_empty.new.hand c.sees_empty-2.new.hand (frees-both c.args.shop.now.marks.now c.args.hand.now c.sees_no_swept.new.hand c.sees_empty.new.hand c.sees_no_swept.ensures.tally c.sees_empty.ensures.tally) c.sees_empty-2.ensures.tally
