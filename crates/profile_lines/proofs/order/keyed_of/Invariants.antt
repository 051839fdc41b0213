use Rattle.std.proofs.Common.{◌≡◌, take}
use Rattle.profile_lines.specs.Keyed.{keyed_from}
use Rattle.profile_lines.proofs.order.keyed_of.Given as goal

abbrev pub invariant-loop-number : goal.invariant-loop-number
invariant-loop-number l = l.keyed.items ≡ keyed_from 0 (take l.number l.buckets)
