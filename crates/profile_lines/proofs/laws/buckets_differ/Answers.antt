use Rattle.profile_lines.proofs.Named.{all-differ}
use Rattle.profile_lines.proofs.laws.buckets_differ.Goals as goal

pub returns : goal.returns
returns c = all-differ
