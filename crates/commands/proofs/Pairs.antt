-- A report behind a trace.
use Rattle.std.proofs.Common.{◌≡◌, ℕ, false, List, ◌++◌, Option, refl, ◌∙◌, map, subst, inr}
use Rattle.std.specs.Io.KnownBytes.{Consumes}
use Rattle.std.proofs.KnownBytes.{Consumes-trans}
use Rattle.edge_io.specs.declared.lines.Lines.{Lines}
use Rattle.edge_io.specs.Reading.{is_dry, lines_left, room_of, source_of}
use Rattle.trace_reader.specs.declared.trace.Trace.{Trace}
use Rattle.trace_reader.specs.declared.fault.TraceFault.{TraceFault}
use Rattle.trace_reader.specs.declared.fault.TraceFault.TheVariants.{ReadFault, Malformed, Truncated, Limit, BadMark, NoMemory}
use Rattle.trace_reader.specs.Read.{Reads}
use Rattle.trace_reader.proofs.Ended.{source_ended}
use Rattle.cycle_history.specs.declared.Report.{Report}
use Rattle.report_text.specs.declared.fault.ReportFault.{ReportFault}
use Rattle.report_text.specs.declared.fault.ReportFault.TheVariants.{ReadFault as Unread, Malformed as OddLine, Truncated as EndsEarly, Limit as TooLong, NoMemory as OutOfMemory}
use Rattle.report_text.specs.Read.{BreaksInReport, Reads as ReadsReport}
use Rattle.report_text.specs.Items.{line_for}
use Rattle.report_text.specs.Refusal.{told}
use Rattle.report_text.proofs.Begun.{lines_begin}
use Rattle.commands.specs.declared.stop.Stop.{Stop}
use Rattle.commands.specs.declared.stop.Stop.TheVariants.{Trace as OfTrace, Report as OfReport, Verdict as OfVerdict}
use Rattle.commands.specs.Judged.{Stops}
use Rattle.commands.specs.Pair.{BreaksOff, IsReadFault, ReadsPair, Refuses}

pub reads_pair : {S : Type 0} (left : S → Option (List ℕ)) (a b c d : Lines S) (trace : Trace) (report : Report) → Reads left a b trace → room_of a ≡ 67108864 → lines_left left c ≡ lines_left left b → is_dry c ≡ is_dry b → is_dry b ≡ false
    → room_of c ≡ 4294967296 → ReadsReport left c d report → ReadsPair (lines_left left a) (left (source_of d)) trace report
reads_pair left a b c d trace report read limit same dry wet room reads =
    let front = read.0 in
    let rest = reads.bytes in
    let taken : Consumes (lines_left left b) (lines_left left d) rest = subst (λ (o : Option (List ℕ)). Consumes o (lines_left left d) rest) same reads.taken in
    let all = Consumes-trans (lines_left left a) (lines_left left b) (lines_left left d) front rest read.1 taken in
    let ended = source_ended _ (lines_left left a) (left (source_of d)) (front ++ rest) all (reads.ended (dry ∙ wet)) in (
      front ++ rest,
      ended.0,
      ended.1,
      record {
        front = front;
        rest = rest;
        split = refl;
        spelled = rw limit at read.2;
        text = reads.text;
        room = rw room at reads.room;
      },
    )

-- what was not read was not judged
pub stops_before : (broken : Trace → Report → ℕ → ℕ → Type 0) (left left' : Option (List ℕ)) (stop : Stop) → Refuses left stop → Stops broken left left' stop
stops_before broken left left' (OfTrace fault) refused = refused
stops_before broken left left' (OfReport fault) refused = refused
stops_before broken left left' (OfVerdict verdict) refused = absurd refused

-- which faults are those of a source
pub trace_unread : (fault : TraceFault) → IsReadFault (OfTrace fault) → fault ≡ ReadFault
trace_unread ReadFault is = refl
trace_unread (Malformed line) is = absurd is
trace_unread (Truncated line) is = absurd is
trace_unread (Limit line which) is = absurd is
trace_unread (BadMark line object) is = absurd is
trace_unread NoMemory is = absurd is

pub report_unread : (fault : ReportFault) → IsReadFault (OfReport fault) → fault ≡ Unread
report_unread Unread is = refl
report_unread (OddLine line) is = absurd is
report_unread (EndsEarly line) is = absurd is
report_unread (TooLong line) is = absurd is
report_unread OutOfMemory is = absurd is

-- a read failed in the report behind it
pub broken_report : {S : Type 0} (left : S → Option (List ℕ)) (a b c d : Lines S) (trace : Trace) → Reads left a b trace → room_of a ≡ 67108864 → lines_left left c ≡ lines_left left b → room_of c ≡ 4294967296
    → BreaksInReport left c d → BreaksOff (lines_left left a) (left (source_of d))
broken_report left a b c d trace read limit same room off =
    let front = read.0 in
    let rest = told off.items ++ off.front in
    let taken : Consumes (lines_left left b) (lines_left left d) rest = subst (λ (o : Option (List ℕ)). Consumes o (lines_left left d) rest) same off.taken in
    let all = Consumes-trans (lines_left left a) (lines_left left b) (lines_left left d) front rest read.1 taken in
    record {
      bytes = front ++ rest;
      taken = subst (λ (o : Option (List ℕ)). Consumes (lines_left left a) o (front ++ rest)) off.all_used all;
      unended = inr (record {
        front = front;
        rest = rest;
        split = refl;
        trace = trace;
        spelled = rw limit at read.2;
        lines = map line_for off.items;
        line = off.front;
        ends = refl;
        begins = lines_begin off.items off.in_turn;
        is_line = off.is_line;
        room = rw room at off.room;
      });
    }
