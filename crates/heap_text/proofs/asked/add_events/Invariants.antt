use Rattle.std.proofs.Common.{◌≡◌, ◌++◌, map, take}
use Rattle.heap_text.specs.Counting.{asked_in}
use Rattle.heap_text.proofs.asked.add_events.Given as goal

-- the events so far are added
abbrev pub invariant-loop-event : goal.invariant-loop-event
invariant-loop-event l = l.asked ≡ l.initial.asked ++ map (asked_in l.cycle) (take l.event-index l.events)
