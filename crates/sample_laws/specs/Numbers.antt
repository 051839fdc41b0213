-- The numbers of the buckets of events.
use Rattle.std.specs.Prelude.{◌≡◌, ℕ, ◌≤◌, true, ◌==◌, List, if◌then◌else◌, unwrap_or, position}
use Rattle.std.specs.List.{list_any}
use Rattle.trace_reader.specs.declared.trace.Event.{Event}
use Rattle.profile_cycle.specs.declared.buckets.Bucket.{Bucket}
use Rattle.profile_cycle.specs.Naming.{is_same, slot_for}

-- The pair of an event of a size above 0.
abbrev pub pair_of : Event → Bucket
pair_of e = record { stack = e.stack; slot = slot_for e.size }

-- The number of an event's bucket; an event of size 0 has none and gets 0.
abbrev pub number_of : List Bucket → Event → ℕ
number_of known e = if e.size == 0 then 0 else unwrap_or (position (is_same (pair_of e)) known) 0

-- The event has a bucket, if its size is above 0.
abbrev pub IsNamed : List Bucket → Event → Type 0
IsNamed known e = 1 ≤ e.size → list_any (is_same (pair_of e)) known ≡ true
