-- What the judge of the nine rules answers, and what a refusal says.
use Rattle.std.specs.Prelude.{◌≡◌, ◌≤◌, ℕ, List, Result, IfErr, OnOk}
use Rattle.trace_reader.specs.declared.trace.Trace.{Trace}
use Rattle.cycle_history.specs.declared.Report.{Report}
use Rattle.cycle_history.specs.Objects.{Object}
use Rattle.cycle_history.specs.Sound.{IsSound}
use Rattle.report_check.specs.Lines.{IsLeast}
use Rattle.report_check.specs.Broken.{IsBroken}
use Rattle.report_check.specs.declared.fault.CheckFault.{CheckFault}
use Rattle.report_check.specs.declared.fault.CheckFault.TheVariants.{Broken, NoMemory}

-- A refusal names a rule and a line that are broken so, or says that memory ran out.
abbrev pub Names : (ℕ → ℕ → Type 0) → CheckFault → Type 0
Names breaks (Broken rule line) = breaks rule line
Names breaks NoMemory = Unit {0}

-- A judge's answer: it is without a fault only where the report meets the rules, a fault names the rule and the line that are broken
-- first, and a report that meets the rules is refused for want of memory alone.
pub record IsJudged (meets : Type 0) (breaks : ℕ → ℕ → Type 0) (answer : Result (Unit {0}) CheckFault) : Type 0 where
  pub met : OnOk answer meets
  pub broken : IfErr answer (Names breaks)
  pub sound : meets → IfErr answer (λ (fault : CheckFault). fault ≡ NoMemory)

-- The first rule that a report breaks, and the first line that breaks it.
abbrev pub BreaksRules : Trace → Report → ℕ → ℕ → Type 0
BreaksRules t report rule line = IsBroken t report rule line

-- A refusal names the first rule that the report breaks, and the first line that breaks it, or says that memory ran out.
abbrev pub IsFault : Trace → Report → CheckFault → Type 0
IsFault t report fault = Names (BreaksRules t report) fault

-- A refusal by one rule names this rule, and the least line that breaks it.
abbrev pub IsFaultOf : ℕ → (ℕ → Type 0) → CheckFault → Type 0
IsFaultOf n breaks (Broken rule line) = (rule ≡ n) × IsLeast breaks line
IsFaultOf n breaks NoMemory = Unit {0}

-- A refusal by none of the rules behind this one.
abbrev pub IsUpTo : ℕ → CheckFault → Type 0
IsUpTo n (Broken rule line) = rule ≤ n
IsUpTo n NoMemory = Unit {0}

-- A report meets all nine rules: it is sound, by some objects with their seats.
abbrev pub MeetsChecked : Trace → Report → Type 0
MeetsChecked t report = (objects : List Object) × IsSound t report objects

-- The judge's answer by the nine rules.
abbrev pub IsJudgedByRules : Trace → Report → Result (Unit {0}) CheckFault → Type 0
IsJudgedByRules t report answer = IsJudged (MeetsChecked t report) (BreaksRules t report) answer
