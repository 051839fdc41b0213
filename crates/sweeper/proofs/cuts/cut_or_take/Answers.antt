use Rattle.std.proofs.Common.{arith}
use Rattle.sweeper.proofs.Making.{cut_made, tries_after, tries_alone}
use Rattle.sweeper.proofs.cuts.cut_or_take.Goals as goal
use Rattle.sweeper.proofs.cuts.cut_or_take.Goals.{then-n-lt-CUT_PAGES+in_ok-body+in_default, else-n-lt-CUT_PAGES}

pub returns-in-Some-clause-did : goal.returns-in-Some-clause-did
returns-in-Some-clause-did g c = cut_made c.args.n c.args.class c.args.hand.now c.requires.unpopped c.cut_or_pull.new.w c.in-Some.body (rw c.in-Some.is at c.in_ok-body.ensures.did)

pub returns-clause-did : goal.returns-clause-did
returns-clause-did g c = elim c.if-n-lt-CUT_PAGES.branch [
  | then-n-lt-CUT_PAGES+in_ok-body+in_default w ↦ tries_after c.args.n c.args.class c.args.hand.now c.requires.unpopped w.cut_or_pull.new.w c.if-n-lt-CUT_PAGES.hand w.hand-is (rw w.in_default.is at w.in_ok-body.ensures.did) c.try_span.new.w c.try_span.result c.try_span.ensures
  | else-n-lt-CUT_PAGES w ↦ tries_alone c.args.n c.args.class c.args.hand.now c.requires.unpopped c.if-n-lt-CUT_PAGES.hand w.hand-is (let z = w.if-n-lt-CUT_PAGES.false in omega arith) c.try_span.new.w c.try_span.result c.try_span.ensures
]
