use Rattle.profile_lines.proofs.Asked.{samples-named}
use Rattle.profile_lines.proofs.laws.all_samples_are_named.Goals as goal

pub returns : goal.returns
returns c = samples-named c.a_pair_is_a_bucket_where_an_event_has_it.ensures
