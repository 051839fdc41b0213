use Rattle.profile_readers.proofs.Sights.{all-sights, kept-first, unrefused}
use Rattle.profile_readers.proofs.viewer.Viewer.finish.Goals as goal

pub returns-clause-right : goal.returns-clause-right
returns-clause-right g c =
    all-sights g.B.Board.buckets c.args.told c.learn.new.self.publishes c.number-number.result c.into_sights.result c.learn.ensures.learnt c.number-number.ensures c.into_sights.ensures.rise c.into_sights.ensures.right

pub returns-clause-kept : goal.returns-clause-kept
returns-clause-kept g c = kept-first c.args.self.sights c.learn.new.self.sights c.into_sights.result c.learn.ensures.kept c.into_sights.ensures.same

pub returns-clause-refused : goal.returns-clause-refused
returns-clause-refused g c = unrefused c.args.self.refused c.learn.new.self.refused c.into_sights.result c.learn.ensures.refused c.into_sights.ensures.refused
