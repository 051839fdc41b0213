use Rattle.std.proofs.Common.{refl}
use Rattle.central_lists.proofs.Looking.{looked_blank, looked_empty, looked_taken}
use Rattle.span_set.proofs.Tallies.{frees-none}
use Rattle.central_lists.proofs.lists.look_first.Goals as goal

pub returns-in-Taken-clause-looks : goal.returns-in-Taken-clause-looks
returns-in-Taken-clause-looks c = let a = c.args.hand.now in looked_taken c.args.class a (record a { worker = c.pop_swept.new.w }) refl c.in-Taken.body c.in-Taken.ensures

pub returns-in-Empty-clause-looks : goal.returns-in-Empty-clause-looks
returns-in-Empty-clause-looks c = let a = c.args.hand.now in looked_empty c.args.class a (record a { worker = c.pop_swept.new.w }) refl c.in-Empty.head c.in-Empty.tail c.in-Empty.ensures

pub returns-in-NotYet-clause-looks : goal.returns-in-NotYet-clause-looks
returns-in-NotYet-clause-looks c = let a = c.args.hand.now in looked_blank c.args.class a (record a { worker = c.pop_swept.new.w }) refl c.in-NotYet.head c.in-NotYet.ensures

pub returns-in-Taken-clause-tally : goal.returns-in-Taken-clause-tally
returns-in-Taken-clause-tally c = let a = c.args.hand.now in frees-none c.args.shop.now.marks.now a (record a { worker = c.pop_swept.new.w }) refl refl

pub returns-in-Empty-clause-tally : goal.returns-in-Empty-clause-tally
returns-in-Empty-clause-tally c = let a = c.args.hand.now in frees-none c.args.shop.now.marks.now a (record a { worker = c.pop_swept.new.w }) refl refl

pub returns-in-NotYet-clause-tally : goal.returns-in-NotYet-clause-tally
returns-in-NotYet-clause-tally c = let a = c.args.hand.now in frees-none c.args.shop.now.marks.now a (record a { worker = c.pop_swept.new.w }) refl refl
