-- The answers of the pieces, and the one that they make together.
use Rattle.std.specs.Prelude.{ℕ, nat_lt, Bool, true, false, List, fold, Result, Ok, Err, OnOk, IfErr}
use Rattle.report_check.specs.declared.fault.CheckFault.{CheckFault}
use Rattle.report_check.specs.declared.fault.CheckFault.TheVariants.{Broken, NoMemory}
use Rattle.report_check.specs.Fault.{IsFaultOf}

-- The answer of a rule: it is met, or the fault names the rule and the least line that breaks it.
abbrev pub AnswersRule : ℕ → Type 0 → (ℕ → Type 0) → Result (Unit {0}) CheckFault → Type 0
AnswersRule n meets breaks answer = OnOk answer meets × IfErr answer (IsFaultOf n breaks)

-- The second answer where the test holds, and the first one else.
abbrev pub second_if : Bool → Result (Unit {0}) CheckFault → Result (Unit {0}) CheckFault → Result (Unit {0}) CheckFault
second_if true a b = b
second_if false a b = a

-- Of the answers of two pieces for one rule: want of memory, or else the lower line that breaks it, or else none.
abbrev pub lesser : Result (Unit {0}) CheckFault → Result (Unit {0}) CheckFault → Result (Unit {0}) CheckFault
lesser (Ok u) b = b
lesser (Err NoMemory) b = Err NoMemory
lesser (Err (Broken rule line)) (Ok u) = Err (Broken rule line)
lesser (Err (Broken rule line)) (Err NoMemory) = Err NoMemory
lesser (Err (Broken rule line)) (Err (Broken other lower)) = second_if (nat_lt lower line) (Err (Broken rule line)) (Err (Broken other lower))

-- Of the answers of all pieces.
abbrev pub least : List (Result (Unit {0}) CheckFault) → Result (Unit {0}) CheckFault
least answers = fold lesser (Ok tt) answers
