-- Why the bytes of a whole input are no trace.
use Rattle.std.specs.Prelude.{◌≡◌, ℕ, ◌+◌, ◌-◌, ◌^◌, min, ◌⊎◌, List, ◌++◌, length, Option, Some}
use Rattle.trace_reader.specs.declared.trace.Trace.{Trace}
use Rattle.trace_reader.specs.declared.fault.TraceFault.{TraceFault}
use Rattle.trace_reader.specs.declared.whole.TheConstants.{TRACE_BYTES}
use Rattle.trace_reader.specs.Limits.{Spells}
use Rattle.trace_reader.specs.Refusal.{fault_in, nothing_behind, pieces_of}
use Rattle.trace_reader.specs.Spelling.{statements_of}

-- the fault of a trace at the front of the bytes, whatever is thought of what stands behind its last line
abbrev pub IsTraceFault : List ℕ → TraceFault → Type 0
IsTraceFault bytes fault = (behind : ℕ → List (List ℕ) → Option TraceFault) → fault_in behind 0 TRACE_BYTES bytes ≡ Some fault

-- a whole trace stands at the front of the bytes, and this is the fault of what stands behind it, at the line behind
pub record IsFaultBehind (bytes : List ℕ) (fault : TraceFault) : Type 0 where
  pub front : List ℕ
  pub rest : List ℕ
  pub split : bytes ≡ front ++ rest
  pub trace : Trace
  pub spelled : Spells front trace
  pub behind : nothing_behind (min (1 + length (statements_of trace)) (2 ^ 64 - 1)) (pieces_of rest) ≡ Some fault

-- where the source told its bytes, this is their fault
abbrev pub IsRefused : Option (List ℕ) → TraceFault → Type 0
IsRefused left fault = (bytes : List ℕ) → left ≡ Some bytes → IsTraceFault bytes fault ⊎ IsFaultBehind bytes fault
