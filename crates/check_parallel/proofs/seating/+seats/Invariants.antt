use Rattle.std.proofs.Common.{◌+◌, ◌-◌, ◌*◌}
use Rattle.check_parallel.proofs.seating.+seats.Given as goal

abbrev pub decreases-seat_parts : goal.decreases-seat_parts
decreases-seat_parts g l = 2 * l.pieces + 1

abbrev pub decreases-one : goal.decreases-one
decreases-one g l = 2 * l.low + 2

abbrev pub decreases-two : goal.decreases-two
decreases-two g l = 2 * (l.pieces - l.low) + 2
