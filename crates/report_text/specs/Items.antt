-- The lines of a report, one at a time.
use Rattle.std.specs.Prelude.{◌≡◌, ℕ, ◌+◌, ◌^◌, ◌<◌, ◌⊎◌, List, [], ◌∷◌, codes, Option, Some, None}
use Rattle.cycle_history.specs.Text.{answer_line, journal_line, sweep_line, total_line, profile_line}
use Rattle.cycle_history.specs.Orders.{IsSweepBefore, IsTotalBefore, IsProfBefore}
use Rattle.report_text.specs.declared.item.Item.{Item}
use Rattle.report_text.specs.declared.item.Item.TheVariants.{Object, Journal, Sweep, Class, Bucket, End}
use Rattle.report_text.specs.Unique.{AnswerFits, LineFits, SweepFits, TotalFits, ProfFits}

-- The line that says this.
abbrev pub line_for : Item → List ℕ
line_for (Object n answer) = answer_line n answer
line_for (Journal n line) = journal_line n line
line_for (Sweep note) = sweep_line note
line_for (Class total) = total_line total
line_for (Bucket prof) = profile_line prof
line_for End = codes "end"

-- Each number of it, also the one that it is numbered by, fits its type.
abbrev pub ItemFits : Item → Type 0
ItemFits (Object n answer) = (n < 2 ^ 64) × AnswerFits answer
ItemFits (Journal n line) = (n < 2 ^ 64) × LineFits line
ItemFits (Sweep note) = SweepFits note
ItemFits (Class total) = TotalFits total
ItemFits (Bucket prof) = ProfFits prof
ItemFits End = Unit {0}

-- The line says this.
abbrev pub Says : List ℕ → Item → Type 0
Says line item = (line ≡ line_for item) × ItemFits item

-- The place of its kind among the kinds of lines.
abbrev pub rank : Item → ℕ
rank (Object n answer) = 1
rank (Journal n line) = 2
rank (Sweep note) = 3
rank (Class total) = 4
rank (Bucket prof) = 5
rank End = 6

-- It may be the first of its kind: a numbered one has the number 0.
abbrev pub IsFirst : Item → Type 0
IsFirst (Object n answer) = n ≡ 0
IsFirst (Journal n line) = n ≡ 0
IsFirst item = Unit {0}

-- The second may stand directly behind the first, and is of the same kind: it has the next number, or its place in the
-- order of its kind is higher.
abbrev pub IsNext : Item → Item → Type 0
IsNext (Object m answer) (Object n other) = n ≡ m + 1
IsNext (Journal m line) (Journal n other) = n ≡ m + 1
IsNext (Sweep note) (Sweep other) = IsSweepBefore note other
IsNext (Class total) (Class other) = IsTotalBefore total other
IsNext (Bucket prof) (Bucket other) = IsProfBefore prof other
IsNext item other = ⊥

-- It may stand directly behind what the line before says, if there is one.
abbrev pub MayFollow : Option Item → Item → Type 0
MayFollow None item = IsFirst item
MayFollow (Some before) item = IsNext before item ⊎ ((rank before < rank item) × IsFirst item)

-- These fit their types, and each may stand directly behind the one before, of which the first is given.
abbrev pub AreInTurn : Option Item → List Item → Type 0
AreInTurn before [] = Unit {0}
AreInTurn before (item ∷ items) = ItemFits item × MayFollow before item × AreInTurn (Some item) items

-- The last of these, behind the one before them.
abbrev pub last_of : Option Item → List Item → Option Item
last_of before [] = before
last_of before (item ∷ items) = last_of (Some item) items
