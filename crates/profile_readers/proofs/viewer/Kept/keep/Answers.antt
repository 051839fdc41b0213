use Rattle.std.proofs.Common.{rules, [], ◌∷◌, ◌++◌, List, sym, subst}
use Rattle.profile_readers.specs.declared.viewer.Sight.{Sight}
use Rattle.profile_readers.specs.Sights.{RiseTo}
use Rattle.profile_readers.proofs.Sights.{newest-more}
use Rattle.profile_readers.proofs.viewer.Kept.keep.Goals as goal

pub returns-in-Ok-clause-newest : goal.returns-in-Ok-clause-newest
returns-in-Ok-clause-newest c =
    let s = c.args.sight in
    let old = c.args.self.now in
    let more : RiseTo s.k (old.sights ++ s ∷ []) = newest-more old.newest old.sights s c.requires.newest (c.is_before.ensures.before (search rules)) in
    subst (λ (l : List Sight). RiseTo s.k l) (sym c.in-Ok.ensures.ok) more
