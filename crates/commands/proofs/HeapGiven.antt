-- What a sound report of a read trace gives the heap profile.
use Rattle.std.proofs.Common.{◌≡◌, ◌<◌, ◌≤◌, List, length, arith}
use Rattle.trace_reader.specs.declared.trace.Trace.{Trace}
use Rattle.trace_reader.specs.Limits.{events_of}
use Rattle.cycle_history.specs.declared.Answer.{Answer}
use Rattle.cycle_history.specs.declared.Report.{Report}
use Rattle.cycle_history.specs.Counted.{AreZeros}
use Rattle.cycle_history.specs.Objects.{Object}
use Rattle.cycle_history.specs.Sound.{HasAnswers}
use Rattle.cycle_history.proofs.OfObjects.{objects-zeros}
use Rattle.report_check.proofs.Twins.{answers-length}
use Rattle.tiny_alloc.specs.declared.base.Based.{Based}
use Rattle.tiny_alloc.specs.Base.{IsBase}
use Rattle.tiny_alloc.specs.Sound.{based_report}
use Rattle.cycle_history.specs.declared.versions.TheConstants.{TINY_VERSION}
use Rattle.report_check.specs.Versions.{MeetsVersion}
use Rattle.report_check.proofs.Judged.{base-meets}

-- What is known of the answers of a trace.
abbrev Given : Trace → List Answer → Type 0
Given t answers = (length answers ≡ length (events_of t)) × AreZeros t answers

given-by : (t : Trace) (report : Report) (objects : List Object) → HasAnswers t report objects → Given t report.answers
given-by t report objects has = (answers-length t report objects has, objects-zeros t report.answers objects (record { asked = has.asked; printed = has.printed }))

-- of a trace without tiny objects, of one with them, and of its base
pub plain-given : (t : Trace) (report : Report) → t.header.version < TINY_VERSION → MeetsVersion t report → Given t report.answers
plain-given t report lt is = let met = is.plain lt in given-by t report met.0 met.1.answers

pub tiny-given : (t : Trace) (report : Report) → TINY_VERSION ≤ t.header.version → MeetsVersion t report → Given t report.answers
tiny-given t report le is = let met = (is.tiny le).2.answers in given-by t report met.0 (met.1.answers (omega arith))

pub base-given : (t : Trace) (report : Report) (based : Based) → TINY_VERSION ≤ t.header.version → MeetsVersion t report → IsBase t report.answers based → Given based.trace based.answers
base-given t report based le is base = let met = base-meets t report based (is.tiny le) base in given-by based.trace (based_report report based) met.0 met.1.answers
