-- The lines that the program tells where it stops without its answer. None of them has its line feed here.
use Rattle.std.specs.Prelude.{ℕ, List, ◌++◌, ◌==◌, if◌then◌else◌, codes, decimal}
use Rattle.trace_reader.specs.declared.fault.TraceFault.{TraceFault}
use Rattle.trace_reader.specs.declared.fault.TraceFault.TheVariants.{ReadFault, Malformed, Truncated, Limit, BadMark, NoMemory}
use Rattle.report_text.specs.declared.fault.ReportFault.{ReportFault}
use Rattle.report_text.specs.declared.fault.ReportFault.TheVariants.{ReadFault as Unread, Malformed as OddLine, Truncated as EndsEarly, Limit as TooLong, NoMemory as OutOfMemory}
use Rattle.trace_reader.specs.declared.fault.Which.{Which}
use Rattle.trace_reader.specs.declared.fault.Which.TheVariants.{Bytes, Chunks, Procs, Rate, Seed, Goal, Proc, Size, Stack, Distance, Id, Objects, MarkEnds, Marks}

-- the line for words that are not known
abbrev pub usage : List ℕ
usage = codes "usage: goheap run [--background=N] [--each] / check [--pieces=N] / gen SEED OBJECTS / demo SEED OBJECTS / classes / watch N / heap"

-- the line after a write that failed
abbrev pub write_fault : List ℕ
write_fault = codes "goheap: write fault"

-- the name of a limit
abbrev pub limit_name : Which → List ℕ
limit_name Bytes = codes "bytes"
limit_name Chunks = codes "chunks"
limit_name Procs = codes "procs"
limit_name Rate = codes "rate"
limit_name Seed = codes "seed"
limit_name Goal = codes "goal"
limit_name Proc = codes "proc"
limit_name Size = codes "size"
limit_name Stack = codes "stack"
limit_name Distance = codes "distance"
limit_name Id = codes "id"
limit_name Objects = codes "objects"
limit_name MarkEnds = codes "markends"
limit_name Marks = codes "marks"

-- names a line of the trace
abbrev pub place : ℕ → List ℕ
place line = codes "goheap: trace line " ++ decimal line ++ codes ": "

-- the line for a trace that was not taken
abbrev pub fault_text : TraceFault → List ℕ
fault_text ReadFault = codes "goheap: read fault"
fault_text (Malformed line) = place line ++ codes "malformed"
fault_text (Truncated line) = place line ++ codes "ends early"
fault_text (Limit line which) = place line ++ codes "limit " ++ limit_name which
fault_text (BadMark line object) = place line ++ codes "object " ++ decimal object ++ codes " is not live"
fault_text NoMemory = codes "goheap: out of memory"

-- the status for a trace that was not taken
abbrev pub fault_status : TraceFault → ℕ
fault_status ReadFault = 5
fault_status (Malformed line) = 3
fault_status (Truncated line) = 3
fault_status (Limit line which) = 3
fault_status (BadMark line object) = 3
fault_status NoMemory = 7

-- names a line of the report
abbrev pub report_place : ℕ → List ℕ
report_place line = codes "goheap: report line " ++ decimal line ++ codes ": "

-- the line for a report that was not taken
abbrev pub report_fault_text : ReportFault → List ℕ
report_fault_text Unread = codes "goheap: read fault"
report_fault_text (OddLine line) = report_place line ++ codes "malformed"
report_fault_text (EndsEarly line) = report_place line ++ codes "ends early"
report_fault_text (TooLong line) = report_place line ++ codes "limit bytes"
report_fault_text OutOfMemory = codes "goheap: out of memory"

-- the line for a report that breaks a rule at a line
abbrev pub rule_text : ℕ → ℕ → List ℕ
rule_text rule line = report_place line ++ codes "rule " ++ decimal rule

-- the status for a report that was not taken
abbrev pub report_status : ReportFault → ℕ
report_status Unread = 5
report_status (OddLine line) = 4
report_status (EndsEarly line) = 4
report_status (TooLong line) = 4
report_status OutOfMemory = 7

-- the line for a status that has but one: words that are not known, a read or a write that failed, want of memory
abbrev pub status_text : ℕ → List ℕ
status_text status =
    if status == 2 then usage else
    (if status == 5 then codes "goheap: read fault" else
    (if status == 6 then write_fault else codes "goheap: out of memory"))
