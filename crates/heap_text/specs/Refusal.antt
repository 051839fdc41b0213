-- The first line with which bytes begin no lawful heap profile's text, and why.
use Rattle.std.specs.Prelude.{◌≡◌, ◌≢◌, ℕ, ◌+◌, ◌-◌, ◌<◌, ◌≤◌, ◌⊎◌, List, [], ◌∷◌, ◌++◌, length, map}
use Rattle.edge_io.specs.Line.{IsLine}
use Rattle.edge_io.specs.Text.{text}
use Rattle.report_text.specs.declared.fault.ReportFault.{ReportFault}
use Rattle.report_text.specs.declared.fault.ReportFault.TheVariants.{ReadFault, Malformed, Truncated, Limit, NoMemory}
use Rattle.report_text.specs.Refusal.{IsCut, IsLong, IsOver, number_behind}
use Rattle.heap_text.specs.declared.text.HeapLine.{HeapLine}
use Rattle.heap_text.specs.declared.sums.Sums.{Sums}
use Rattle.heap_text.specs.Text.{heap_line, sums_of, top_line}
use Rattle.heap_text.specs.Lawful.{AreLawful, AreLow, IsTwice, MayFollow}

-- What a first line says: twice a rate, and four sums.
pub record IsTop (twice : ℕ) (sums : Sums) : Type 0 where
  pub rate : IsTwice twice
  pub low : AreLow sums

-- The line is a first one.
abbrev pub IsTopLine : List ℕ → Type 0
IsTopLine line = (twice : ℕ) × (sums : Sums) × IsTop twice sums × (line ≡ top_line twice sums)

-- The line is of a bucket of which this is so.
abbrev pub IsLineThat : (HeapLine → Type 0) → List ℕ → Type 0
IsLineThat may line = (next : HeapLine) × may next × (line ≡ heap_line next)

-- The line is of a bucket, and may stand behind these.
abbrev pub IsNextLine : List HeapLine → List ℕ → Type 0
IsNextLine lines line = IsLineThat (MayFollow lines) line

-- The first line and some lines behind it, each ended by a line feed.
abbrev pub told : ℕ → Sums → List HeapLine → List ℕ
told twice sums lines = text (top_line twice sums ∷ map heap_line lines)

-- A whole line within the limit that is none that may stand here.
abbrev pub IsOther : ℕ → (List ℕ → Type 0) → List ℕ → Type 0
IsOther room may rest = (line : List ℕ) × (more : List ℕ) × (rest ≡ line ++ 10 ∷ more) × IsLine line × (length line < room) × ¬ may line

-- Why these bytes, of which so many are within the limit, begin with no whole line; their first line has this number.
abbrev pub IsUnended : ℕ → ℕ → List ℕ → ReportFault → Type 0
IsUnended number room rest (Malformed n) = (n ≡ number) × IsLong room rest
IsUnended number room rest (Truncated n) = (n ≡ number) × IsCut room rest
IsUnended number room rest (Limit n) = (n ≡ number) × IsOver room rest
IsUnended number room rest ReadFault = ⊥
IsUnended number room rest NoMemory = ⊥

-- Why they begin with no line that may stand here: with no whole one, or with another one.
abbrev pub IsOffence : ℕ → ℕ → (List ℕ → Type 0) → List ℕ → ReportFault → Type 0
IsOffence number room may rest fault = IsUnended number room rest fault ⊎ ((fault ≡ Malformed number) × IsOther room may rest)

-- A first line and lines that may stand behind it, and then bytes that offend. The lines stand behind line `number`, and the limit is
-- `room`.
pub record IsLaterRefusal (number room : ℕ) (bytes : List ℕ) (fault : ReportFault) : Type 0 where
  pub twice : ℕ
  pub sums : Sums
  pub lines : List HeapLine
  pub rest : List ℕ
  pub split : bytes ≡ told twice sums lines ++ rest
  pub top : IsTop twice sums
  pub lawful : AreLawful lines
  pub within : length (told twice sums lines) ≤ room
  pub some : rest ≢ []
  pub offence : IsOffence (number_behind number (1 + length lines)) (room - length (told twice sums lines)) (IsNextLine lines) rest fault

-- All lines may stand where they stand, but the first one has other sums than they.
pub record HasOtherSums (number room : ℕ) (bytes : List ℕ) (fault : ReportFault) : Type 0 where
  pub twice : ℕ
  pub sums : Sums
  pub lines : List HeapLine
  pub is : bytes ≡ told twice sums lines
  pub top : IsTop twice sums
  pub lawful : AreLawful lines
  pub within : length bytes ≤ room
  pub other : sums ≢ sums_of lines
  pub why : fault ≡ Malformed (number_behind number 0)

-- Why the bytes are no text: their first line offends, or a later one does, or the sums are others.
abbrev pub IsRefusal : ℕ → ℕ → List ℕ → ReportFault → Type 0
IsRefusal number room bytes fault = IsOffence (number_behind number 0) room IsTopLine bytes fault
    ⊎ IsLaterRefusal number room bytes fault ⊎ HasOtherSums number room bytes fault
