-- What the lines so far say: `past` is what each of them said, newest first.
use Rattle.std.specs.Prelude.{ℕ, ◌+◌, ◌-◌, ◌==◌, Bool, false, ◌&&◌, ◌||◌, List, [], ◌∷◌, nat_le}
use Rattle.trace_reader.specs.declared.statement.Statement.{Statement}
use Rattle.trace_reader.specs.declared.statement.Statement.TheVariants.{Title, Heap, Alloc, Gc, Mark}

-- the version that the first line gives
abbrev pub version_of : List Statement → ℕ
version_of [] = 0
version_of (Title version ∷ past) = version
version_of (s ∷ past) = version_of past

-- the processors that the header gives
abbrev pub procs_of : List Statement → ℕ
procs_of [] = 0
procs_of (Heap h ∷ past) = h.procs
procs_of (s ∷ past) = procs_of past

-- the objects so far, which is the number of the next one
abbrev pub objects_of : List Statement → ℕ
objects_of [] = 0
objects_of (Alloc e ∷ past) = objects_of past + 1
objects_of (s ∷ past) = objects_of past

-- the mark ends so far
abbrev pub mark_ends_of : List Statement → ℕ
mark_ends_of [] = 0
mark_ends_of (Gc distance ∷ past) = mark_ends_of past + 1
mark_ends_of (s ∷ past) = mark_ends_of past

-- the marked objects so far, over all mark ends
abbrev pub marks_of : List Statement → ℕ
marks_of [] = 0
marks_of (Mark lo hi ∷ past) = marks_of past + (hi + 1 - lo)
marks_of (s ∷ past) = marks_of past

-- the m lines that came last name object i
abbrev pub is_marked : List Statement → ℕ → Bool
is_marked [] i = false
is_marked (Mark lo hi ∷ past) i = (nat_le lo i && nat_le i hi) || is_marked past i
is_marked (s ∷ past) i = false

-- object i was allocated since the last mark end, or that mark end marked it
abbrev pub is_live : List Statement → ℕ → Bool
is_live [] i = false
is_live (Alloc e ∷ past) i = (i == objects_of past) || is_live past i
is_live (s ∷ past) i = is_marked (s ∷ past) i

-- the lines before the last mark end, where its marks came last
abbrev pub before_mark_end : List Statement → List Statement
before_mark_end [] = []
before_mark_end (Mark lo hi ∷ past) = before_mark_end past
before_mark_end (s ∷ past) = past
