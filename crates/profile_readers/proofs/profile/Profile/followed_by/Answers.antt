use Rattle.std.proofs.Common.{rules, ◌≡◌, ◌∷◌, ◌++◌, [], ap, sym, ◌∙◌, replicate}
use Rattle.profile_readers.specs.History.{profile_after, none_counted}
use Rattle.profile_readers.proofs.Fronts.{last_of-snoc}
use Rattle.profile_readers.proofs.profile.Profile.followed_by.Goals as goal

pub invariant_of-result : goal.invariant_of-result
invariant_of-result g c =
    let buckets = g.B.Board.buckets in
    let front : c.in_ok-front.front ≡ c.self.inside.front ++ c.args.counts.items ∷ [] = search rules in
    (sym (last_of-snoc (replicate buckets none_counted) c.args.counts.items c.self.inside.front) ∙ ap (profile_after buckets) (sym front), c.requires.buckets)
