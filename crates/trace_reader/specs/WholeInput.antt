-- What reading a whole trace takes from a source.
use Rattle.std.specs.Prelude.{ℕ, List, Option}
use Rattle.std.specs.Io.KnownBytes.{Consumes, IsAtEnd}
use Rattle.trace_reader.specs.declared.trace.Trace.{Trace}
use Rattle.trace_reader.specs.Limits.{Spells}

-- the bytes that were read spell a trace, and nothing is left
abbrev pub ReadsAll : Option (List ℕ) → Option (List ℕ) → Trace → Type 0
ReadsAll left left' trace = (bytes : List ℕ) × Consumes left left' bytes × IsAtEnd left' × Spells bytes trace
