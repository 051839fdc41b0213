-- What a source gave before a read failed.
use Rattle.std.specs.Prelude.{ℕ, ◌≤◌, ◌≡◌, ◌⊎◌, List, ◌++◌, length, Option}
use Rattle.std.specs.Io.KnownBytes.{Consumes}
use Rattle.edge_io.specs.Line.{IsLine}
use Rattle.trace_reader.specs.declared.trace.Trace.{Trace}
use Rattle.trace_reader.specs.declared.fault.TraceFault.TheVariants.{Truncated}
use Rattle.trace_reader.specs.declared.whole.TheConstants.{TRACE_BYTES}
use Rattle.trace_reader.specs.Limits.{Spells}
use Rattle.trace_reader.specs.Refused.{IsTraceFault}

-- a whole trace stands at the front of the bytes, and behind it a line or a front of one that nothing has ended
pub record IsUnendedBehind (bytes : List ℕ) : Type 0 where
  pub front : List ℕ
  pub rest : List ℕ
  pub split : bytes ≡ front ++ rest
  pub trace : Trace
  pub spelled : Spells front trace
  pub is_line : IsLine rest
  pub room : length bytes ≤ TRACE_BYTES

-- Nothing is wrong with what the source gave before a read failed but that it ends there: in a line of the trace, whose
-- number this is, or behind the trace, in what may stand there.
pub record EndsEarly (behind : List ℕ → Type 0) (left left' : Option (List ℕ)) : Type 0 where
  pub bytes : List ℕ
  pub taken : Consumes left left' bytes
  pub unended : ((number : ℕ) × IsTraceFault bytes (Truncated number)) ⊎ behind bytes

-- A read failed in a line of the trace, or in the line behind it.
abbrev pub BreaksOff : Option (List ℕ) → Option (List ℕ) → Type 0
BreaksOff left left' = EndsEarly IsUnendedBehind left left'
