use Rattle.std.proofs.Common.{◌≡◌, take}
use Rattle.tiny_alloc.specs.Base.{based_events}
use Rattle.tiny_alloc.specs.Parts.{part_by}
use Rattle.tiny_alloc.proofs.base.based_events.Given as goal

-- the events so far
abbrev pub invariant-loop-event : goal.invariant-loop-event
invariant-loop-event l = l.based ≡ based_events (part_by l.parts) l.first (take l.event-index l.events)
