-- What reading a report takes, and what it answers.
use Rattle.std.specs.Prelude.{◌≡◌, ℕ, ◌^◌, ◌<◌, ◌≤◌, List, [], ◌∷◌, ◌++◌, length, false, Option, Some, None, Result, IfErr, IsErrOf}
use Rattle.std.specs.Io.KnownBytes.{Consumes, IsAtEnd}
use Rattle.edge_io.specs.declared.lines.Lines.{Lines}
use Rattle.edge_io.specs.Causes.{Rose}
use Rattle.edge_io.specs.Reading.{is_dry, lines_left, number_of, room_of, source_of}
use Rattle.cycle_history.specs.declared.Report.{Report}
use Rattle.cycle_history.specs.Orders.{AreRisingProfile, AreRisingSweeps, AreRisingTotals}
use Rattle.cycle_history.specs.Text.{report_text}
use Rattle.report_text.specs.declared.item.Item.{Item}
use Rattle.report_text.specs.declared.fault.ReportFault.{ReportFault}
use Rattle.report_text.specs.declared.fault.ReportFault.TheVariants.{ReadFault, Malformed, Truncated, Limit, NoMemory}
use Rattle.trace_reader.specs.Refusal.{next_number}
use Rattle.trace_reader.specs.Taken.{Takes}
use Rattle.edge_io.specs.Line.{IsLine}
use Rattle.report_text.specs.Items.{AreInTurn, ItemFits, MayFollow, line_for}
use Rattle.report_text.specs.Unique.{FitsTypes}
use Rattle.report_text.specs.Refusal.{IsOffence, IsRefusal, number_behind, told}

-- The bytes are the text of a report: each number fits its type, and the lists are in their orders.
pub record IsText (bytes : List ℕ) (report : Report) : Type 0 where
  pub text : bytes ≡ report_text report
  pub fits : FitsTypes report
  pub sweeps : AreRisingSweeps report.sweeps
  pub totals : AreRisingTotals report.totals
  pub profile : AreRisingProfile report.profile

-- What was read is the text of the report, within what was left of the limit, and nothing is left unless the source had
-- told its end before.
pub record Reads {S : Type 0} (left : S → Option (List ℕ)) (old new : Lines S) (report : Report) : Type 0 where
  pub bytes : List ℕ
  pub taken : Consumes (lines_left left old) (lines_left left new) bytes
  pub text : IsText bytes report
  pub room : length bytes ≤ room_of old
  pub ended : is_dry old ≡ false → IsAtEnd (lines_left left new)

-- The source tells its bytes and has not told its end, and what the lines have before them is the report's text, within
-- what is left of the limit.
pub record IsAhead {S : Type 0} (left : S → Option (List ℕ)) (lines : Lines S) (report : Report) : Type 0 where
  pub wet : is_dry lines ≡ false
  pub bytes : List ℕ
  pub known : lines_left left lines ≡ Some bytes
  pub text : IsText bytes report
  pub room : length bytes ≤ room_of lines
  pub small : room_of lines < 2 ^ 64

-- The fault is one of the report, and not of the source or of memory.
abbrev pub IsOfReport : ReportFault → Type 0
IsOfReport ReadFault = ⊥
IsOfReport NoMemory = ⊥
IsOfReport fault = Unit {0}

-- Where the source tells its bytes and has not told its end, the fault is the refusal of what the lines have before them.
abbrev pub Refuses : {S : Type 0} → (S → Option (List ℕ)) → Lines S → ReportFault → Type 0
Refuses left lines fault = is_dry lines ≡ false → (bytes : List ℕ) → lines_left left lines ≡ Some bytes → IsRefusal (number_of lines) (room_of lines) bytes fault

-- The same of the next line alone, behind one that says this.
abbrev pub Offends : {S : Type 0} → (S → Option (List ℕ)) → Lines S → Option Item → ReportFault → Type 0
Offends left lines before fault = is_dry lines ≡ false → (bytes : List ℕ) → lines_left left lines ≡ Some bytes → IsOffence (number_behind (number_of lines) 0) (room_of lines) before bytes fault

-- A fault of the report is that of the next line.
abbrev pub TellsOffence : {S T : Type 0} → (S → Option (List ℕ)) → Lines S → Option Item → Result T ReportFault → Type 0
TellsOffence left lines before result = IfErr result (λ fault. IsOfReport fault → Offends left lines before fault)

-- A read fault is told only where the count rose.
pub record HasReadCause {T : Type 0} (before now : ℕ) (result : Result T ReportFault) : Type 0 where
  pub later : before ≤ now
  pub fault : IsErrOf result ReadFault → Rose before now

-- If the fault is one of a line, it is of the line with this number.
abbrev pub IsAtLine : ℕ → ReportFault → Type 0
IsAtLine number ReadFault = Unit {0}
IsAtLine number (Malformed line) = line ≡ number
IsAtLine number (Truncated line) = line ≡ number
IsAtLine number (Limit line) = line ≡ number
IsAtLine number NoMemory = Unit {0}

-- A read failed behind lines in turn and a front of the next line, whose number the lines have, and all that the source
-- gave was read.
pub record BreaksInReport {S : Type 0} (left : S → Option (List ℕ)) (old new : Lines S) : Type 0 where
  pub items : List Item
  pub front : List ℕ
  pub taken : Consumes (lines_left left old) (lines_left left new) (told items ++ front)
  pub in_turn : AreInTurn None items
  pub is_line : IsLine front
  pub room : length (told items ++ front) ≤ room_of old
  pub number : number_of new ≡ number_behind (number_of old) (length items)
  pub all_used : lines_left left new ≡ left (source_of new)

-- A line that says this was read, and it may stand behind one that says `before`.
pub record TakesItem {S : Type 0} (left : S → Option (List ℕ)) (old new : Lines S) (before : Option Item) (item : Item) : Type 0 where
  pub bytes : Takes left old new (line_for item ++ 10 ∷ [])
  pub is_line : IsLine (line_for item)
  pub number : number_of new ≡ next_number (number_of old)
  pub fits : ItemFits item
  pub follows : MayFollow before item
