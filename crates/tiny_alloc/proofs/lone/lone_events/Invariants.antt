use Rattle.std.proofs.Common.{◌≡◌, take}
use Rattle.tiny_alloc.specs.Growing.{lone_events}
use Rattle.tiny_alloc.proofs.lone.lone_events.Given as goal

-- the events so far
abbrev pub invariant-loop-event : goal.invariant-loop-event
invariant-loop-event l = l.lone ≡ lone_events (take l.event-index l.events)
