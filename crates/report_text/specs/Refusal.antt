-- The first line with which bytes begin no report's text, and why.
use Rattle.std.specs.Prelude.{◌≡◌, ◌≢◌, ℕ, ◌+◌, ◌-◌, ◌^◌, ◌<◌, ◌≤◌, ◌⊎◌, List, [], ◌∷◌, ◌++◌, length, map, min, Option, Some, None}
use Rattle.edge_io.specs.Line.{IsLine}
use Rattle.edge_io.specs.Text.{text}
use Rattle.report_text.specs.declared.item.Item.{Item}
use Rattle.report_text.specs.declared.item.Item.TheVariants.{End}
use Rattle.report_text.specs.declared.fault.ReportFault.{ReportFault}
use Rattle.report_text.specs.declared.fault.ReportFault.TheVariants.{ReadFault, Malformed, Truncated, Limit, NoMemory}
use Rattle.report_text.specs.Items.{AreInTurn, MayFollow, Says, last_of, line_for}

-- the lines that say these, each ended by a line feed
abbrev pub told : List Item → List ℕ
told items = text (map line_for items)

-- A line of more than 120 bytes, whose byte 121 is within the limit.
abbrev pub IsLong : ℕ → List ℕ → Type 0
IsLong room rest = (line : List ℕ) × (byte : ℕ) × (more : List ℕ) × (rest ≡ line ++ byte ∷ more) × IsLine line × (length line ≡ 120) × (byte ≢ 10) × (120 < room)

-- A whole line within the limit that says nothing which may stand here.
abbrev pub IsOther : ℕ → Option Item → List ℕ → Type 0
IsOther room before rest = (line : List ℕ) × (more : List ℕ) × (rest ≡ line ++ 10 ∷ more) × IsLine line × (length line < room) × ((item : Item) → Says line item → ¬ MayFollow before item)

-- The input ends within the limit where a line should begin, or inside one.
abbrev pub IsCut : ℕ → List ℕ → Type 0
IsCut room rest = IsLine rest × (length rest ≤ room)

-- The byte past the limit comes before the line ends, or before it has 121 bytes.
abbrev pub IsOver : ℕ → List ℕ → Type 0
IsOver room rest = (line : List ℕ) × (byte : ℕ) × (more : List ℕ) × (rest ≡ line ++ byte ∷ more) × IsLine line × (length line ≡ room)

-- What stands behind the line `end`, or instead of a line behind another one.
abbrev pub IsMalformed : ℕ → Option Item → List ℕ → Type 0
IsMalformed room before rest = ((before ≡ Some End) × (rest ≢ [])) ⊎ ((before ≢ Some End) × (IsLong room rest ⊎ IsOther room before rest))

-- Why these bytes, of which so many are within the limit, may not stand behind what the line before says; their first line
-- has this number.
abbrev pub IsOffence : ℕ → ℕ → Option Item → List ℕ → ReportFault → Type 0
IsOffence number room before rest (Malformed n) = (n ≡ number) × IsMalformed room before rest
IsOffence number room before rest (Truncated n) = (n ≡ number) × (before ≢ Some End) × IsCut room rest
IsOffence number room before rest (Limit n) = (n ≡ number) × (before ≢ Some End) × IsOver room rest
IsOffence number room before rest ReadFault = ⊥
IsOffence number room before rest NoMemory = ⊥

-- the number of the line behind line `number` and so many more; it stands still at the end of its type
abbrev pub number_behind : ℕ → ℕ → ℕ
number_behind number count = min (number + (count + 1)) (2 ^ 64 - 1)

-- These bytes behind line `number` begin with lines in turn, and what stands behind those offends. The limit is `room`.
pub record IsRefusal (number room : ℕ) (bytes : List ℕ) (fault : ReportFault) : Type 0 where
  pub items : List Item
  pub rest : List ℕ
  pub split : bytes ≡ told items ++ rest
  pub in_turn : AreInTurn None items
  pub within : length (told items) ≤ room
  pub offence : IsOffence (number_behind number (length items)) (room - length (told items)) (last_of None items) rest fault
