-- What the program tells on its sink for errors.
use Rattle.std.specs.Prelude.{ℕ, List, Option, [], ◌∷◌, ◌++◌}
use Rattle.std.specs.Io.KnownBytes.{Appends}
use Rattle.edge_io.specs.Causes.{Rose}
use Rattle.edge_io.specs.Front.{AppendsFront}

-- the bytes were told, or where the sink failed a front of them
pub record TellsAll {E : Type 0} (held : E → Option (List ℕ)) (faults : E → ℕ) (old new : E) (bytes : List ℕ) : Type 0 where
  pub front : AppendsFront (held old) (held new) bytes
  pub whole : (Rose (faults old) (faults new) → ⊥) → Appends (held old) (held new) bytes

-- the line and its line feed were told, or where the sink failed a front of them
abbrev pub Tells : {E : Type 0} → (E → Option (List ℕ)) → (E → ℕ) → E → E → List ℕ → Type 0
Tells held faults old new line = TellsAll held faults old new (line ++ 10 ∷ [])
