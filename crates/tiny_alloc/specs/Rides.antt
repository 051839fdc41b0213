-- How the tiny objects of a cycle ride in a run: the newest event and answer stand first, and a block is known by its address.
use Rattle.std.specs.Prelude.{◌≡◌, ℕ, ◌+◌, ◌==◌, Bool, true, cond, List, [], ◌∷◌, Option, None}
use Rattle.trace_reader.specs.declared.trace.Event.{Event}
use Rattle.cycle_history.specs.declared.Answer.{Answer}
use Rattle.cycle_history.specs.declared.Answer.TheVariants.{Placed, Zero, Missed}
use Rattle.cycle_history.specs.Objects.{is_placed}
use Rattle.tiny_alloc.specs.declared.part.Part.{Part}
use Rattle.tiny_alloc.specs.declared.part.Part.TheVariants.{Ride}
use Rattle.tiny_alloc.specs.Blocks.{Block}
use Rattle.tiny_alloc.specs.Riders.{Tried}
use Rattle.tiny_alloc.specs.Base.{based_answer, based_event}
use Rattle.tiny_alloc.specs.Parts.{next_block, next_part, tried_of}

-- The address that an answer gives, or 0.
abbrev pub start_in : Answer → ℕ
start_in (Placed address) = address
start_in Zero = 0
start_in (Missed line) = 0

-- An event and its answer, as the rule looks at them.
abbrev pub tried_by : Event → Answer → Tried
tried_by e a = tried_of 0 e (is_placed a)

-- The block behind those of these events that are `mine`, with these answers; it begins at its first object's address. None as a
-- cycle begins.
abbrev pub block_of : (Event → Bool) → List Event → List Answer → Option Block
block_of mine [] answers = None
block_of mine (e ∷ es) [] = None
block_of mine (e ∷ es) (a ∷ answers) = cond (mine e) (next_block (block_of mine es answers) (start_in a) (tried_by e a)) (block_of mine es answers)

-- Every event counts: so where one processor answers them all.
abbrev pub alone : Event → Event → Bool
alone e x = true

-- An event is of the processor of another one.
abbrev pub by_proc : Event → Event → Bool
by_proc e x = x.proc == e.proc

-- The part of an event behind others, of which those count that are the same processor's.
abbrev pub part_behind : (Event → Event → Bool) → List Event → List Answer → Event → Answer → Part
part_behind same es answers e a = next_part (block_of (same e) es answers) (tried_by e a)

-- What is asked of the heap for these events: one event for each.
abbrev pub ridden_events : (Event → Event → Bool) → List Event → List Answer → List Event
ridden_events same [] answers = []
ridden_events same (e ∷ es) [] = e ∷ es
ridden_events same (e ∷ es) (a ∷ answers) = based_event (part_behind same es answers e a) e ∷ ridden_events same es answers

-- What the heap answered for these events: one answer for each.
abbrev pub ridden_answers : (Event → Event → Bool) → List Event → List Answer → List Answer
ridden_answers same [] answers = answers
ridden_answers same (e ∷ es) [] = []
ridden_answers same (e ∷ es) (a ∷ answers) = based_answer (part_behind same es answers e a) a ∷ ridden_answers same es answers

-- Each rider stands in its block.
abbrev pub StandRiders : (Event → Event → Bool) → List Event → List Answer → Type 0
StandRiders same [] answers = Unit {0}
StandRiders same (e ∷ es) [] = Unit {0}
StandRiders same (e ∷ es) (a ∷ answers)
    = ((start offset : ℕ) → part_behind same es answers e a ≡ Ride start offset → a ≡ Placed (start + offset)) × StandRiders same es answers
