use Rattle.std.proofs.Common.{◌≡◌, ◌%◌, ◌^◌, take}
use Rattle.std.specs.List.{sum_by}
use Rattle.profile_readers.specs.Sights.{allocs_of, frees_of}
use Rattle.profile_readers.proofs.viewer.sums_of.Given as goal

abbrev pub invariant-loop-count : goal.invariant-loop-count
invariant-loop-count l = record { allocs : l.allocs ≡ sum_by allocs_of (take l.count-index l.counts) % 2 ^ 64; frees : l.frees ≡ sum_by frees_of (take l.count-index l.counts) % 2 ^ 64 }
