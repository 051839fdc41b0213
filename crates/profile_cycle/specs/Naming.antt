-- Which buckets a trace names, and in which order.
use Rattle.std.specs.Prelude.{ℕ, ◌+◌, ◌*◌, ◌/◌, ◌^◌, ◌≤◌, Bool, ◌&&◌, ◌==◌, nat_le, List, [], ◌∷◌, ◌++◌, fold, if◌then◌else◌}
use Rattle.std.specs.List.{list_any}
use Rattle.trace_reader.specs.declared.trace.Event.{Event}
use Rattle.size_classes.specs.Table.{slot_sizes}
use Rattle.profile_cycle.specs.declared.buckets.Bucket.{Bucket}

-- An event's size is within the limit.
abbrev pub HasSize : Event → Type 0
HasSize e = e.size ≤ 2 ^ 40

-- The first number of a list that is at least so much, and 0 where there is none.
abbrev pub first_from : ℕ → List ℕ → ℕ
first_from least [] = 0
first_from least (x ∷ xs) = if nat_le least x then x else first_from least xs

-- The bytes of the slot of an object of this size, above 0: those of the least size class that has room for it, and
-- whole pages above 32768.
unfoldable pub slot_for : ℕ → ℕ
slot_for size = if nat_le size 32768 then first_from size slot_sizes else 8192 * ((size + 8191) / 8192)

-- The pairs of stack and slot of the events, in order; an event of size 0 has none.
abbrev pub pairs_of : List Event → List Bucket
pairs_of [] = []
pairs_of (e ∷ es) = if e.size == 0 then pairs_of es else record { stack = e.stack; slot = slot_for e.size } ∷ pairs_of es

-- Two buckets are the same.
abbrev pub is_same : Bucket → Bucket → Bool
is_same a b = a.stack == b.stack && a.slot == b.slot

-- A pair that no bucket has yet becomes the next bucket.
abbrev pub named : List Bucket → Bucket → List Bucket
named known pair = if list_any (is_same pair) known then known else known ++ pair ∷ []

-- The buckets of some pairs, in the order in which these first name them.
abbrev pub buckets_of : List Bucket → List Bucket
buckets_of pairs = fold named [] pairs
