-- The first offending line of a trace, and why. Lines are read in turn: `past` is what the lines before said, newest first.
use Rattle.std.specs.Prelude.{ℕ, ◌+◌, ◌-◌, ◌^◌, ◌==◌, Bool, true, false, not, cond, List, [], ◌∷◌, length, min, nat_lt, Option, Some, None}
use Rattle.std.specs.Option.{option_map}
use Rattle.std.specs.List.{slice_split}
use Rattle.trace_reader.specs.declared.fault.Which.TheVariants.{Bytes}
use Rattle.trace_reader.specs.declared.fault.TraceFault.{TraceFault}
use Rattle.trace_reader.specs.declared.fault.TraceFault.TheVariants.{Malformed, Truncated, Limit, BadMark}
use Rattle.trace_reader.specs.declared.statement.Statement.{Statement}
use Rattle.trace_reader.specs.declared.statement.Statement.TheVariants.{End}
use Rattle.trace_reader.specs.Says.{said}
use Rattle.trace_reader.specs.Checks.{may_follow, numbers_within, counts_within, passed, bad_mark}

abbrev pub fault_if : Bool → TraceFault → Option TraceFault
fault_if true fault = Some fault
fault_if false fault = None

-- the first of these faults that is there
abbrev pub first_of : List (Option TraceFault) → Option TraceFault
first_of [] = None
first_of (None ∷ rest) = first_of rest
first_of (Some fault ∷ rest) = Some fault

-- what is wrong with a statement on line `number`
abbrev pub statement_fault : ℕ → List Statement → Statement → Option TraceFault
statement_fault number past s = first_of (fault_if (not (may_follow past s)) (Malformed number)
    ∷ option_map (λ which. Limit number which) (passed (numbers_within past s))
    ∷ option_map (λ which. Limit number which) (passed (counts_within past s))
    ∷ option_map (λ i. BadMark number i) (bad_mark past s)
    ∷ [])

-- the same of what a line says, if it has the form of any statement
abbrev pub said_fault : ℕ → List Statement → Option Statement → Option TraceFault
said_fault number past None = Some (Malformed number)
said_fault number past (Some s) = statement_fault number past s

-- 1 where a line feed stands behind the line, since more pieces follow, and 0 where the input ends
abbrev pub feed : List (List ℕ) → ℕ
feed [] = 0
feed (line ∷ rest) = 1

-- which event ends a line before its line feed: the byte past what is left of the limit, a byte past 120, the end of the input
abbrev pub line_fault : ℕ → ℕ → List ℕ → List (List ℕ) → Option TraceFault
line_fault number room line rest = first_of (fault_if (nat_lt room (min (length line + feed rest) 121)) (Limit number Bytes)
    ∷ fault_if (nat_lt 120 (length line)) (Malformed number)
    ∷ fault_if (feed rest == 0) (Truncated number)
    ∷ [])

-- Lines

-- the number of the line behind, which stands still at the end of its type
abbrev pub next_number : ℕ → ℕ
next_number number = min (number + 1) (2 ^ 64 - 1)

-- the bytes between line feeds; behind the last of them there is none
abbrev pub pieces_of : List ℕ → List (List ℕ)
pieces_of bytes = slice_split (λ b. b == 10) bytes

abbrev pub is_end : Option Statement → Bool
is_end (Some End) = true
is_end s = false

abbrev pub onto_past : Option Statement → List Statement → List Statement
onto_past None past = past
onto_past (Some s) past = s ∷ past

-- the first fault of these lines, the first of which has this number; `behind` judges what stands behind the line `end`
unfoldable pub lines_fault : (ℕ → List (List ℕ) → Option TraceFault) → ℕ → ℕ → List Statement → List (List ℕ) → Option TraceFault
lines_fault behind number room past [] = None
lines_fault behind number room past (line ∷ rest) = first_of (line_fault number room line rest
    ∷ said_fault number past (said line)
    ∷ cond (is_end (said line)) (behind (next_number number) rest) (lines_fault behind (next_number number) (room - (length line + 1)) (onto_past (said line) past) rest)
    ∷ [])

-- the first fault of the bytes behind line `number`, with so much room left to the limit
abbrev pub fault_in : (ℕ → List (List ℕ) → Option TraceFault) → ℕ → ℕ → List ℕ → Option TraceFault
fault_in behind number room bytes = lines_fault behind (next_number number) room [] (pieces_of bytes)

-- nothing may stand behind the line `end`
abbrev pub nothing_behind : ℕ → List (List ℕ) → Option TraceFault
nothing_behind number ([] ∷ []) = None
nothing_behind number rest = Some (Malformed number)

-- why the bytes are no trace, if they are none
abbrev pub refusal : List ℕ → Option TraceFault
refusal bytes = fault_in nothing_behind 0 67108864 bytes
