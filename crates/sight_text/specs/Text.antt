-- The lines of what watchers saw.
use Rattle.std.specs.Prelude.{ℕ, ◌+◌, List, [], ◌∷◌, ◌++◌, codes, decimal, map}
use Rattle.std.specs.List.{concat}
use Rattle.edge_io.specs.Text.{text}
use Rattle.profile_readers.specs.declared.viewer.Sight.{Sight}

-- The line of a sight: its watcher, how many publishes led to what it saw, and the sums of the profile's allocations and frees.
abbrev pub sight_line : ℕ → Sight → List ℕ
sight_line watcher s = concat (codes "w " ∷ decimal watcher ∷ codes " " ∷ decimal s.k ∷ codes " " ∷ decimal s.allocs ∷ codes " " ∷ decimal s.frees ∷ [])

-- The lines of all watchers, each in its own order, of which the first has the given number.
abbrev pub seen_text : ℕ → List (List Sight) → List ℕ
seen_text watcher [] = []
seen_text watcher (sights ∷ seen) = text (map (sight_line watcher) sights) ++ seen_text (watcher + 1) seen
