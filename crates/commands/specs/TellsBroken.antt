-- Why a summary isn't written.
use Rattle.trace_reader.specs.declared.trace.Trace.{Trace}
use Rattle.cycle_history.specs.declared.Report.{Report}
use Rattle.report_check.specs.Fault.{BreaksRules}
use Rattle.commands.specs.declared.demo.SummaryFault.{SummaryFault}
use Rattle.commands.specs.declared.demo.SummaryFault.TheVariants.{NoMemory, Failed, Broken}

-- Where the report is said to break a rule at a line, it does.
abbrev pub TellsBroken : Trace → Report → SummaryFault → Type 0
TellsBroken t report NoMemory = Unit {0}
TellsBroken t report Failed = Unit {0}
TellsBroken t report (Broken rule line) = BreaksRules t report rule line
