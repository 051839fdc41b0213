-- The rule of the history, and what the step that adds to it tells.
use Rattle.std.specs.Prelude.{ℕ, ◌≡◌, true, List, [], ◌∷◌, ◌++◌, length}
use Rattle.logbook.specs.Pages.{Cell, Step, View, Book, Named}
use Rattle.profile_cycle.specs.declared.counts.Count.{Count}

-- The first word is the number of publishes. A book has two words, of which the second stays 0.
abbrev pub IsCounted : List Cell → List (List Count) → Type 0
IsCounted cells log = cells ≡ (length log, true) ∷ (0, true) ∷ []

-- The word that counts the publishes of a book.
abbrev pub head_of : Book → Named
head_of b = record { tracked = true; key = 0; book = b }

-- Where the number was found that was expected, the publish stands behind all that had been seen.
abbrev pub Added : Step (List Count) → View (List Count) ℕ → ℕ → View (List Count) ℕ → Type 0
Added s v found w = found ≡ s.old → w.0 ≡ v.0 ++ s.ask ∷ []
