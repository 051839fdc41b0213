use Rattle.std.proofs.Common.{◌≡◌, map, take}
use Rattle.cycle_history.specs.Requests.{requests_from}
use Rattle.heap_text.specs.Counting.{request_of}
use Rattle.heap_text.proofs.asked.asked_of.Given as goal

-- the cycles so far are added
abbrev pub invariant-loop-part : goal.invariant-loop-part
invariant-loop-part l = record { number : l.cycle ≡ l.part-index; all : map request_of l.asked ≡ requests_from 0 (take l.part-index l.part-items) }
