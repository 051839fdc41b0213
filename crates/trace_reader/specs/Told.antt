-- Why a reader tells a fault, and what the fault says of the bytes.
use Rattle.std.specs.Prelude.{◌≡◌, ℕ, ◌≤◌, List, false, Option, Some, Result, IfErr, IsErrOf}
use Rattle.std.specs.Io.KnownBytes.{Consumes}
use Rattle.edge_io.specs.declared.lines.Lines.{Lines}
use Rattle.edge_io.specs.Causes.{Rose}
use Rattle.edge_io.specs.Reading.{StopsInLine, is_dry, lines_left, number_of, room_of, source_of}
use Rattle.trace_reader.specs.declared.fault.TraceFault.{TraceFault}
use Rattle.trace_reader.specs.declared.fault.TraceFault.TheVariants.{ReadFault, Malformed, Truncated, Limit, BadMark, NoMemory}
use Rattle.trace_reader.specs.declared.statement.Statement.{Statement}
use Rattle.trace_reader.specs.Refusal.{lines_fault, next_number, nothing_behind, pieces_of}

-- a read fault is told only where the count rose
pub record HasReadCause {T : Type 0} (before now : ℕ) (result : Result T TraceFault) : Type 0 where
  pub later : before ≤ now
  pub fault : IsErrOf result ReadFault → Rose before now

abbrev pub NoReadFault : {T : Type 0} → Result T TraceFault → Type 0
NoReadFault result = IsErrOf result ReadFault → ⊥

-- the fault is one of the trace, and not of the source or of memory
abbrev pub IsOfTrace : TraceFault → Type 0
IsOfTrace ReadFault = ⊥
IsOfTrace NoMemory = ⊥
IsOfTrace fault = Unit {0}

-- where the source tells its bytes, and has not told its end, this is the first fault of what the lines have before them,
-- if the lines before said `past`, and whatever is thought of what stands behind the line `end`
abbrev pub IsFirstFault : {S : Type 0} → (S → Option (List ℕ)) → Lines S → List Statement → TraceFault → Type 0
IsFirstFault left lines past fault = is_dry lines ≡ false → (behind : ℕ → List (List ℕ) → Option TraceFault) (bytes : List ℕ) → lines_left left lines ≡ Some bytes
    → lines_fault behind (next_number (number_of lines)) (room_of lines) past (pieces_of bytes) ≡ Some fault

-- if the fault is one of a line, it is of the line with this number
abbrev pub IsAtLine : ℕ → TraceFault → Type 0
IsAtLine number ReadFault = Unit {0}
IsAtLine number (Malformed line) = line ≡ number
IsAtLine number (Truncated line) = line ≡ number
IsAtLine number (Limit line which) = line ≡ number
IsAtLine number (BadMark line object) = line ≡ number
IsAtLine number NoMemory = Unit {0}

-- A read failed. The bytes before it are faulty only in that they end there, in the line whose number the lines have, if
-- the lines before said `past`; and all that the source gave was read.
pub record BreaksInTrace {S : Type 0} (left : S → Option (List ℕ)) (old new : Lines S) (past : List Statement) : Type 0 where
  pub bytes : List ℕ
  pub taken : Consumes (lines_left left old) (lines_left left new) bytes
  pub ends_early : (behind : ℕ → List (List ℕ) → Option TraceFault)
      → lines_fault behind (next_number (number_of old)) (room_of old) past (pieces_of bytes) ≡ Some (Truncated (number_of new))
  pub all_used : lines_left left new ≡ left (source_of new)

-- why this fault is told: one of the trace is the first one, and of the line in which the lines then stand; a read fault
-- comes behind lines that nothing is wrong with, before the byte or the end of the input that ends the next one
pub record TellsFault {S : Type 0} (left : S → Option (List ℕ)) (old new : Lines S) (past : List Statement) (fault : TraceFault) : Type 0 where
  pub first : IsOfTrace fault → IsFirstFault left old past fault
  pub at_line : IsAtLine (number_of new) fault
  pub read_fault : fault ≡ ReadFault → BreaksInTrace left old new past

abbrev pub TellsFirstFault : {S T : Type 0} → (S → Option (List ℕ)) → Lines S → Lines S → List Statement → Result T TraceFault → Type 0
TellsFirstFault left old new past result = IfErr result (λ fault. TellsFault left old new past fault)

-- where the source tells its bytes, this is the fault of what the lines have before them, behind a trace
abbrev pub IsFaultAhead : {S : Type 0} → (S → Option (List ℕ)) → Lines S → TraceFault → Type 0
IsFaultAhead left lines fault = (bytes : List ℕ) → lines_left left lines ≡ Some bytes → nothing_behind (next_number (number_of lines)) (pieces_of bytes) ≡ Some fault

-- a read failed before the byte or the end of the input that ends the line, and all that the source gave was read
pub record BreaksInLine {S : Type 0} (left : S → Option (List ℕ)) (old new : Lines S) : Type 0 where
  pub in_line : StopsInLine left old new
  pub all_used : lines_left left new ≡ left (source_of new)
