-- How many sets are to be popped yet.
use Rattle.std.specs.Prelude.{ℕ, ◌+◌, ◌==◌, ◌&&◌, not, if◌then◌else◌, List, [], ◌∷◌}
use Rattle.sweep_laws.specs.State.{SetState}
use Rattle.sweep_laws.specs.Reading.{is_swept_set}

-- 1 for an unswept set with head and tail apart, else 0
abbrev pub unpopped_at : ℕ → ℕ → SetState → ℕ
unpopped_at generation number s = if not (is_swept_set generation number) && not (s.head == s.tail) then 1 else 0

-- how many unswept sets, of those numbered from `number` on, have head and tail apart
abbrev pub count_unpopped : ℕ → ℕ → List SetState → ℕ
count_unpopped generation number [] = 0
count_unpopped generation number (s ∷ sets) = unpopped_at generation number s + count_unpopped generation (number + 1) sets
