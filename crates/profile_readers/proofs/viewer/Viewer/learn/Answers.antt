use Rattle.profile_readers.proofs.Sights.{sights-grow}
use Rattle.profile_readers.proofs.viewer.Viewer.learn.Goals as goal

pub invariant_of-self : goal.invariant_of-self
invariant_of-self g c =
    (c.self.invariant.0, sights-grow g.B.Board.buckets c.self.inside.watcher c.learn.new.self c.self.inside.kept.sights c.learn.ensures.seen c.self.invariant.1, c.self.invariant.2)
