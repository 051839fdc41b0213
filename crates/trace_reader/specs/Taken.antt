-- What a reader took from the lines before it, and what it answers.
use Rattle.std.specs.Prelude.{◌≡◌, ℕ, ◌+◌, ◌-◌, ◌^◌, ◌⊎◌, List, [], ◌∷◌, ◌++◌, length, min, false, Option}
use Rattle.std.specs.List.{AllByRecursion}
use Rattle.std.specs.Io.KnownBytes.{Consumes, IsAtEnd}
use Rattle.edge_io.specs.declared.lines.Lines.{Lines}
use Rattle.edge_io.specs.Line.{IsLine}
use Rattle.edge_io.specs.Reading.{is_dry, lines_left, number_of, room_of}
use Rattle.edge_io.specs.Text.{text}
use Rattle.trace_reader.specs.declared.statement.Statement.{Statement}
use Rattle.trace_reader.specs.Spelling.{spelled}
use Rattle.trace_reader.specs.Refusal.{next_number}

-- these bytes were read, within the limit, and the input did not end in them
pub record Takes {S : Type 0} (left : S → Option (List ℕ)) (old new : Lines S) (bytes : List ℕ) : Type 0 where
  pub taken : Consumes (lines_left left old) (lines_left left new) bytes
  pub room : room_of old ≡ room_of new + length bytes
  pub wet : is_dry old ≡ false → is_dry new ≡ false

-- the lines that say these were read, and the number of the next one counts them
pub record TakesLines {S : Type 0} (left : S → Option (List ℕ)) (old new : Lines S) (statements : List Statement) : Type 0 where
  pub bytes : Takes left old new (spelled statements)
  pub number : next_number (number_of new) ≡ min (next_number (number_of old) + length statements) (2 ^ 64 - 1)

-- nothing was read, and nothing is left, unless the source had told its end before
pub record IsEnded {S : Type 0} (left : S → Option (List ℕ)) (old new : Lines S) : Type 0 where
  pub nothing : Consumes (lines_left left old) (lines_left left new) []
  pub at_end : is_dry old ≡ false → IsAtEnd (lines_left left new)

-- a line, or a front of one, or either and the byte that ended it
abbrev pub IsFrontOfLine : List ℕ → Type 0
IsFrontOfLine part = (line : List ℕ) × IsLine line × ((part ≡ line) ⊎ ((byte : ℕ) × (part ≡ line ++ byte ∷ [])))

-- whole lines were read and then one more or a front of it, whose number the lines have
abbrev pub StandsInLine : {S : Type 0} → (S → Option (List ℕ)) → Lines S → Lines S → Type 0
StandsInLine left old new = (lines : List (List ℕ)) × (part : List ℕ) × Consumes (lines_left left old) (lines_left left new) (text lines ++ part)
    × AllByRecursion IsLine lines × IsFrontOfLine part × (number_of new ≡ min (number_of old + length lines + 1) (2 ^ 64 - 1))
