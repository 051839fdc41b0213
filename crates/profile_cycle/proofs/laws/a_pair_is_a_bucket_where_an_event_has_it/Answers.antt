use Rattle.profile_cycle.specs.Naming.{pairs_of}
use Rattle.profile_cycle.proofs.Numbered.{any-buckets}
use Rattle.profile_cycle.proofs.laws.a_pair_is_a_bucket_where_an_event_has_it.Goals as goal

pub returns : goal.returns
returns c = λ events pair. any-buckets (pairs_of events) pair
