use Rattle.std.proofs.Common.{◌≡◌, true, take}
use Rattle.cycle_history.specs.Requests.{is_within}
use Rattle.report_check.specs.Seats.{IsFirstLost}
use Rattle.report_check.proofs.places.first_lost.Given as goal

-- the first that is lost of the spans so far
abbrev pub invariant-loop-span : goal.invariant-loop-span
invariant-loop-span l = IsFirstLost l.lives (λ i. is_within (take l.span-index l.spans) i ≡ true) l.items l.bound l.lost
