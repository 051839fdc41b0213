-- What reading a trace takes.
use Rattle.std.specs.Prelude.{◌≡◌, ℕ, List, ◌++◌, false, Option, Some}
use Rattle.std.specs.Io.KnownBytes.{Consumes}
use Rattle.edge_io.specs.declared.lines.Lines.{Lines}
use Rattle.edge_io.specs.Reading.{is_dry, lines_left, room_of}
use Rattle.trace_reader.specs.declared.trace.Trace.{Trace}
use Rattle.trace_reader.specs.Limits.{SpellsWithin}

-- the bytes that were read spell the trace within what was left of the limit
abbrev pub Reads : {S : Type 0} → (S → Option (List ℕ)) → Lines S → Lines S → Trace → Type 0
Reads left old new trace = (bytes : List ℕ) × Consumes (lines_left left old) (lines_left left new) bytes × SpellsWithin (room_of old) bytes trace

-- the source tells its bytes and has not told its end, and the trace stands at the front of what the lines have before them
pub record IsAhead {S : Type 0} (left : S → Option (List ℕ)) (lines : Lines S) (trace : Trace) : Type 0 where
  pub wet : is_dry lines ≡ false
  pub bytes : List ℕ
  pub rest : List ℕ
  pub known : lines_left left lines ≡ Some (bytes ++ rest)
  pub spelled : SpellsWithin (room_of lines) bytes trace
