-- A sound report is never refused.
use Rattle.std.specs.Prelude.{IfErr, IsErrAnd, OnOk}
use Rattle.std.proofs.Common.{◌≡◌, ℕ, List, Result, Ok, Err, refl, sym, subst}
use Rattle.trace_reader.specs.declared.trace.Trace.{Trace}
use Rattle.cycle_history.specs.declared.Report.{Report}
use Rattle.cycle_history.specs.Objects.{Object}
use Rattle.cycle_history.specs.Sound.{IsSound}
use Rattle.cycle_history.specs.Broken.{MeetsUpTo}
use Rattle.report_check.proofs.Exact.{first-broken}
use Rattle.report_check.specs.declared.fault.CheckFault.{CheckFault}
use Rattle.report_check.specs.declared.fault.CheckFault.TheVariants.{Broken, NoMemory}
use Rattle.report_check.specs.Fault.{BreaksRules, IsFault, IsJudged, IsJudgedByRules, MeetsChecked, Names}

pub sound-meets : (n : ℕ) (t : Trace) (report : Report) (objects : List Object) → IsSound t report objects → MeetsUpTo n t report objects
sound-meets n t report objects is = record {
  answers = λ le. is.answers;
  journal = λ le. is.journal;
  misses = λ le. is.misses;
  places = λ le. is.places;
  apart = λ le. is.apart;
  filling = λ le. is.filling;
  sweeps = λ le. is.sweeps;
  totals = λ le. is.totals;
  profile = λ le. is.profile;
}

pub rules-unbroken : (t : Trace) (report : Report) (rule line : ℕ) → MeetsChecked t report → ¬ BreaksRules t report rule line
rules-unbroken t report rule line met broken = (first-broken t report rule line broken).broken (met.0, sound-meets rule t report met.0 met.1)

-- ---- answers

-- an answer is the judge's where its parts are right, and what meets the rules breaks none
pub judged : (meets : Type 0) (breaks : ℕ → ℕ → Type 0) → ((rule line : ℕ) → meets → ¬ breaks rule line) → (answer : Result (Unit {0}) CheckFault) → OnOk answer meets → IfErr answer (Names breaks) → IsJudged meets breaks answer
judged meets breaks unbroken (Ok u) met broken = record { met = met; broken = broken; sound = λ is. tt }
judged meets breaks unbroken (Err (Broken rule line)) met broken = record { met = met; broken = broken; sound = λ is. absurd (unbroken rule line is broken) }
judged meets breaks unbroken (Err NoMemory) met broken = record { met = met; broken = broken; sound = λ is. refl }

-- a fault that is handed on
pub handed-on : (meets : Type 0) (breaks : ℕ → ℕ → Type 0) → ((rule line : ℕ) → meets → ¬ breaks rule line) → (answer : Result (Unit {0}) CheckFault) (fault : CheckFault) → IsErrAnd answer (λ (e : CheckFault). e ≡ fault) → Names breaks fault
    → IsJudged meets breaks answer
handed-on meets breaks unbroken (Ok u) fault same is = absurd same
handed-on meets breaks unbroken (Err e) fault same is = judged meets breaks unbroken (Err e) tt (subst (λ (f : CheckFault). Names breaks f) (sym same) is)

-- those by the nine rules
pub rules-judged : (t : Trace) (report : Report) (answer : Result (Unit {0}) CheckFault) → OnOk answer (MeetsChecked t report) → IfErr answer (IsFault t report) → IsJudgedByRules t report answer
rules-judged t report answer met broken = judged (MeetsChecked t report) (BreaksRules t report) (rules-unbroken t report) answer met broken

pub rules-handed-on : (t : Trace) (report : Report) (answer : Result (Unit {0}) CheckFault) (fault : CheckFault) → IsErrAnd answer (λ (e : CheckFault). e ≡ fault) → IsFault t report fault → IsJudgedByRules t report answer
rules-handed-on t report answer fault same is = handed-on (MeetsChecked t report) (BreaksRules t report) (rules-unbroken t report) answer fault same is
