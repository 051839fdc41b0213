use Rattle.std.proofs.Common.{◌≡◌, map, take}
use Rattle.cycle_history.specs.Requests.{requests_from}
use Rattle.report_check.specs.Lasts.{cycle_asked}
use Rattle.report_check.proofs.lasts.asked_cycles.Given as goal

-- the cycles of the events of the cycles so far
abbrev pub invariant-loop-part : goal.invariant-loop-part
invariant-loop-part l = record { number : l.cycle ≡ l.part-index; all : l.cycles.items ≡ map cycle_asked (requests_from 0 (take l.part-index l.part-items)) }
