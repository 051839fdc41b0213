-- The statuses and lines of faults.
use Rattle.std.proofs.Common.{◌≡◌, ◌≢◌, refl}
use Rattle.trace_reader.specs.declared.fault.TraceFault.{TraceFault}
use Rattle.trace_reader.specs.declared.fault.TraceFault.TheVariants.{ReadFault, Malformed, Truncated, Limit, BadMark, NoMemory}
use Rattle.trace_reader.specs.Told.{IsOfTrace}
use Rattle.commands.specs.Texts.{fault_status, fault_text, status_text}

-- status 5 is that of a read fault alone
pub is_read_fault : (fault : TraceFault) → fault_status fault ≡ 5 → fault ≡ ReadFault
is_read_fault ReadFault e = refl
is_read_fault (Malformed line) e = cc
is_read_fault (Truncated line) e = cc
is_read_fault (Limit line which) e = cc
is_read_fault (BadMark line object) e = cc
is_read_fault NoMemory e = cc

-- a fault that is no refusal of the trace has the line of its status
pub line_of_status : (fault : TraceFault) → fault_status fault ≢ 3 → fault_text fault ≡ status_text (fault_status fault)
line_of_status ReadFault other = refl
line_of_status (Malformed line) other = absurd (other refl)
line_of_status (Truncated line) other = absurd (other refl)
line_of_status (Limit line which) other = absurd (other refl)
line_of_status (BadMark line object) other = absurd (other refl)
line_of_status NoMemory other = refl

-- status 3 is that of a fault of the trace
pub is_of_trace : (fault : TraceFault) → fault_status fault ≡ 3 → IsOfTrace fault
is_of_trace ReadFault e = cc
is_of_trace (Malformed line) e = tt
is_of_trace (Truncated line) e = tt
is_of_trace (Limit line which) e = tt
is_of_trace (BadMark line object) e = tt
is_of_trace NoMemory e = cc
