-- What a worker asks of the heap where tiny objects ride in blocks. Events and answers have the newest first.
use Rattle.std.specs.Prelude.{◌≡◌, ℕ, ◌+◌, Bool, true, false, ◌<◌, List, [], length, reverse, slice_index_or, Option, None}
use Rattle.trace_reader.specs.declared.trace.Event.{Event}
use Rattle.cycle_history.specs.declared.Answer.{Answer}
use Rattle.cycle_history.specs.declared.Answer.TheVariants.{Placed}
use Rattle.tiny_alloc.specs.declared.part.Part.{Part}
use Rattle.tiny_alloc.specs.declared.part.Part.TheVariants.{Other, Ride}
use Rattle.tiny_alloc.specs.Blocks.{Block}
use Rattle.tiny_alloc.specs.Parts.{next_block, next_part}
use Rattle.tiny_alloc.specs.Rides.{StandRiders, alone, block_of, ridden_answers, ridden_events, start_in, tried_by}
use Rattle.heap_run.specs.Gains.{behind}

-- ---- one event

-- The part of an event for a worker with this block: it has none in blocks where tiny objects don't ride.
abbrev pub part_with : Bool → Option Block → Event → Answer → Part
part_with false block e a = Other
part_with true block e a = next_part block (tried_by e a)

-- The worker's block behind the event.
abbrev pub block_with : Bool → Option Block → Event → Answer → Option Block
block_with false block e a = block
block_with true block e a = next_block block (start_in a) (tried_by e a)

-- If the event's object rides, its address is where it stands in the block.
abbrev pub StandsWith : Bool → Option Block → Event → Answer → Type 0
StandsWith riding block e a = (start offset : ℕ) → part_with riding block e a ≡ Ride start offset → a ≡ Placed (start + offset)

-- ---- the events of a worker

-- A worker's block behind these events. It begins with none.
abbrev pub block_behind : Bool → List Event → List Answer → Option Block
block_behind false events answers = None
block_behind true events answers = block_of (λ x. true) events answers

-- What a worker asks of the heap for its events: where tiny objects ride, a whole block for a lead and nothing for a rider.
abbrev pub asked_of : Bool → List Event → List Answer → List Event
asked_of false events answers = events
asked_of true events answers = ridden_events alone events answers

-- What the heap answers: where tiny objects ride, nothing to a rider.
abbrev pub given_of : Bool → List Event → List Answer → List Answer
given_of false events answers = answers
given_of true events answers = ridden_answers alone events answers

-- Where tiny objects ride, there is an answer for each event, and each rider stands in its block.
abbrev pub RidersStand : Bool → List Event → List Answer → Type 0
RidersStand false events answers = Unit {0}
RidersStand true events answers = (length answers ≡ length events) × StandRiders alone events answers

-- What a call asked for these events, whose answers are those behind the ones before. These lists have the oldest first.
abbrev pub asked_in : Bool → List Event → List Answer → List Answer → List Event
asked_in riding events before given = asked_of riding (reverse events) (reverse (behind before given))

-- What the heap answered in that call.
abbrev pub given_in : Bool → List Event → List Answer → List Answer → List Answer
given_in riding events before given = given_of riding (reverse events) (reverse (behind before given))

-- The riders among these events stand in their blocks.
abbrev pub RidersStandIn : Bool → List Event → List Answer → List Answer → Type 0
RidersStandIn riding events before given = RidersStand riding (reverse events) (reverse (behind before given))

-- ---- all processors

-- What processor w asked for, by its own queue and answers, of which each list has the oldest first.
abbrev pub asked_at : Bool → List (List Event) → List (List Answer) → ℕ → List Event
asked_at riding queues given w = asked_of riding (reverse (slice_index_or queues w [])) (reverse (slice_index_or given w []))

-- What the heap answered to processor w.
abbrev pub given_at : Bool → List (List Event) → List (List Answer) → ℕ → List Answer
given_at riding queues given w = given_of riding (reverse (slice_index_or queues w [])) (reverse (slice_index_or given w []))

-- The riders of processor w stand in their blocks.
abbrev pub RidersStandAt : Bool → List (List Event) → List (List Answer) → ℕ → Type 0
RidersStandAt riding queues given w = RidersStand riding (reverse (slice_index_or queues w [])) (reverse (slice_index_or given w []))

-- Those of each processor do.
abbrev pub HaveRidden : Bool → List (List Event) → List (List Answer) → Type 0
HaveRidden riding queues given = (w : ℕ) → RidersStandAt riding queues given w

-- Those of the first k processors do.
abbrev pub HaveRiddenTo : Bool → List (List Event) → ℕ → List (List Answer) → Type 0
HaveRiddenTo riding queues k given = (w : ℕ) → w < k → RidersStandAt riding queues given w
