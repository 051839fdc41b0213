use Rattle.std.proofs.Common.{◌+◌, ◌-◌, ◌*◌}
use Rattle.check_parallel.proofs.marking.+keeps.Given as goal

abbrev pub decreases-keep_lives : goal.decreases-keep_lives
decreases-keep_lives g l = 2 * l.pieces + 1

abbrev pub decreases-front : goal.decreases-front
decreases-front g l = 2 * l.half + 2

abbrev pub decreases-back : goal.decreases-back
decreases-back g l = 2 * (l.pieces - l.half) + 2
