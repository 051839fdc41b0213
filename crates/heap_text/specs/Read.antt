-- What reading a heap profile takes, and what it answers.
use Rattle.std.specs.Prelude.{◌≡◌, ◌≢◌, ℕ, ◌+◌, ◌-◌, ◌^◌, ◌<◌, ◌≤◌, ◌⊎◌, List, [], ◌∷◌, ◌++◌, length, map, min, false, Option, Some}
use Rattle.std.specs.List.{AllByRecursion}
use Rattle.std.specs.Io.KnownBytes.{Consumes, IsAtEnd}
use Rattle.edge_io.specs.declared.lines.Lines.{Lines}
use Rattle.edge_io.specs.Line.{IsLine}
use Rattle.edge_io.specs.Reading.{is_dry, lines_left, number_of, room_of, source_of}
use Rattle.edge_io.specs.Text.{text}
use Rattle.report_text.specs.declared.fault.ReportFault.{ReportFault}
use Rattle.heap_text.specs.declared.text.HeapText.{HeapText}
use Rattle.trace_reader.specs.Refusal.{next_number}
use Rattle.trace_reader.specs.Taken.{Takes}
use Rattle.report_text.specs.Refusal.{number_behind}
use Rattle.heap_text.specs.declared.text.HeapLine.{HeapLine}
use Rattle.heap_text.specs.declared.sums.Sums.{Sums}
use Rattle.heap_text.specs.Text.{heap_line, heap_text, top_line}
use Rattle.heap_text.specs.Lawful.{AreLawful, IsLawful}
use Rattle.heap_text.specs.Refusal.{IsOffence, IsRefusal, IsTop, IsUnended}

-- The bytes are the text of a lawful heap profile.
pub record IsText (bytes : List ℕ) (heap : HeapText) : Type 0 where
  pub text : bytes ≡ heap_text heap
  pub lawful : IsLawful heap

-- What was read is the text of the heap profile, within what was left of the limit, and nothing is left unless the source had told its
-- end before.
pub record Reads {S : Type 0} (left : S → Option (List ℕ)) (old new : Lines S) (heap : HeapText) : Type 0 where
  pub bytes : List ℕ
  pub taken : Consumes (lines_left left old) (lines_left left new) bytes
  pub text : IsText bytes heap
  pub room : length bytes ≤ room_of old
  pub ended : is_dry old ≡ false → IsAtEnd (lines_left left new)

-- The source tells its bytes and has not told its end, and what the lines have before them is the heap profile's text, within what is
-- left of the limit.
pub record IsAhead {S : Type 0} (left : S → Option (List ℕ)) (lines : Lines S) (heap : HeapText) : Type 0 where
  pub wet : is_dry lines ≡ false
  pub bytes : List ℕ
  pub known : lines_left left lines ≡ Some bytes
  pub text : IsText bytes heap
  pub room : length bytes ≤ room_of lines
  pub small : room_of lines < 2 ^ 64

-- Where the source tells its bytes and has not told its end, the fault is the refusal of what the lines have before them.
abbrev pub Refuses : {S : Type 0} → (S → Option (List ℕ)) → Lines S → ReportFault → Type 0
Refuses left lines fault = is_dry lines ≡ false → (bytes : List ℕ) → lines_left left lines ≡ Some bytes → IsRefusal (number_of lines) (room_of lines) bytes fault

-- ---- parts of it

-- These lines were read, within the limit.
pub record HasRead {S : Type 0} (left : S → Option (List ℕ)) (old new : Lines S) (lines : List (List ℕ)) : Type 0 where
  pub taken : Takes left old new (text lines)
  pub number : next_number (number_of new) ≡ min (next_number (number_of old) + length lines) (2 ^ 64 - 1)
  pub are_lines : AllByRecursion IsLine lines

-- One line was.
pub record TakesOne {S : Type 0} (left : S → Option (List ℕ)) (old new : Lines S) (line : List ℕ) : Type 0 where
  pub taken : Takes left old new (line ++ 10 ∷ [])
  pub is_line : IsLine line
  pub number : number_of new ≡ next_number (number_of old)

-- The lines are a first one and some that may stand behind it, or none.
abbrev pub AreBegun : List (List ℕ) → Type 0
AreBegun lines = (lines ≡ []) ⊎ ((twice : ℕ) × (sums : Sums) × (behind : List HeapLine) × IsTop twice sums × AreLawful behind × (lines ≡ top_line twice sums ∷ map heap_line behind))

-- A read failed behind lines that nothing is wrong with and a front of the next line, and all that the source gave was read.
pub record BreaksInHeap {S : Type 0} (left : S → Option (List ℕ)) (old new : Lines S) : Type 0 where
  pub lines : List (List ℕ)
  pub front : List ℕ
  pub taken : Consumes (lines_left left old) (lines_left left new) (text lines ++ front)
  pub begun : AreBegun lines
  pub is_line : IsLine front
  pub room : length (text lines ++ front) ≤ room_of old
  pub all_used : lines_left left new ≡ left (source_of new)

-- Where the source tells its bytes and has not told its end, what the lines have before them offends, where such a line may stand.
abbrev pub Offends : {S : Type 0} → (S → Option (List ℕ)) → Lines S → (List ℕ → Type 0) → ReportFault → Type 0
Offends left lines may fault = is_dry lines ≡ false → (bytes : List ℕ) → lines_left left lines ≡ Some bytes → IsOffence (number_behind (number_of lines) 0) (room_of lines) may bytes fault

-- Where the source tells its bytes and has not told its end, the lines have bytes before them that begin with no whole line.
abbrev pub StopsShort : {S : Type 0} → (S → Option (List ℕ)) → Lines S → ReportFault → Type 0
StopsShort left lines fault = is_dry lines ≡ false → (bytes : List ℕ) → lines_left left lines ≡ Some bytes → (bytes ≢ []) × IsUnended (number_behind (number_of lines) 0) (room_of lines) bytes fault

-- Where the source tells its bytes and has not told its end, the lines have bytes before them, and these offend.
abbrev pub OffendsBehind : {S : Type 0} → (S → Option (List ℕ)) → Lines S → (List ℕ → Type 0) → ReportFault → Type 0
OffendsBehind left lines may fault = is_dry lines ≡ false → (bytes : List ℕ) → lines_left left lines ≡ Some bytes → (bytes ≢ []) × IsOffence (number_behind (number_of lines) 0) (room_of lines) may bytes fault
