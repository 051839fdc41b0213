-- The rules in their order.
use Rattle.std.specs.Prelude.{IfErr, IsErrAnd}
use Rattle.std.proofs.Common.{◌≡◌, ◌≤◌, ℕ, zero, suc, ◌+◌, ◌-◌, Result, Ok, Err, List, [], refl, sym, subst, inl, inr, arith}
use Rattle.std.proofs.lemmas.Bool.{cases_lt}
use Rattle.trace_reader.specs.declared.trace.Trace.{Trace}
use Rattle.cycle_history.specs.declared.Report.{Report}
use Rattle.cycle_history.specs.Objects.{Object}
use Rattle.cycle_history.specs.Requests.{last_cycle, marked_by}
use Rattle.cycle_history.specs.Rules.{AreApart, AreFilled, AreMissed, AreSeated}
use Rattle.cycle_history.specs.Sweeps.{AreSwept, AreTotals}
use Rattle.cycle_history.specs.Sound.{past_in, HasAnswers, HasJournal, HasProfile, IsSound}
use Rattle.cycle_history.specs.Broken.{MeetsUpTo}
use Rattle.report_check.specs.Lines.{IsLeast}
use Rattle.report_check.specs.Answers.{BreaksAnswers, BreaksJournal, BreaksMisses}
use Rattle.report_check.specs.Placing.{BreaksApart, BreaksFilling, BreaksPlaces}
use Rattle.report_check.specs.Closing.{BreaksSweeps, BreaksTotals}
use Rattle.report_check.specs.Published.{BreaksProfile}
use Rattle.report_check.specs.Broken.{Breaks, IsBroken}
use Rattle.report_check.specs.declared.fault.CheckFault.{CheckFault}
use Rattle.report_check.specs.declared.fault.CheckFault.TheVariants.{Broken, NoMemory}
use Rattle.report_check.specs.Fault.{IsFault, IsFaultOf, IsUpTo}

-- what rule n says
abbrev Rule : Trace → Report → List Object → ℕ → Type 0
Rule t report objects zero = Unit {0}
Rule t report objects (suc zero) = HasAnswers t report objects
Rule t report objects (suc (suc zero)) = HasJournal t report
Rule t report objects (suc (suc (suc zero))) = AreMissed (past_in report) objects
Rule t report objects (suc (suc (suc (suc zero)))) = AreSeated (marked_by t) (past_in report) objects
Rule t report objects (suc (suc (suc (suc (suc zero))))) = AreApart (marked_by t) objects
Rule t report objects (suc (suc (suc (suc (suc (suc zero)))))) = AreFilled (marked_by t) objects
Rule t report objects (suc (suc (suc (suc (suc (suc (suc zero))))))) = AreSwept (marked_by t) (last_cycle t) (past_in report) objects report.sweeps
Rule t report objects (suc (suc (suc (suc (suc (suc (suc (suc zero)))))))) = AreTotals (marked_by t) (last_cycle t) objects report.totals
Rule t report objects (suc (suc (suc (suc (suc (suc (suc (suc (suc zero))))))))) = HasProfile t report objects
Rule t report objects (suc (suc (suc (suc (suc (suc (suc (suc (suc (suc n)))))))))) = Unit {0}

-- what breaks rule n
abbrev Break : Trace → Report → List Object → ℕ → ℕ → Type 0
Break t report objects zero = λ m. Unit {0}
Break t report objects (suc zero) = BreaksAnswers t report
Break t report objects (suc (suc zero)) = BreaksJournal t report
Break t report objects (suc (suc (suc zero))) = BreaksMisses (past_in report) objects
Break t report objects (suc (suc (suc (suc zero)))) = BreaksPlaces (marked_by t) (past_in report) objects
Break t report objects (suc (suc (suc (suc (suc zero))))) = BreaksApart (marked_by t) objects
Break t report objects (suc (suc (suc (suc (suc (suc zero)))))) = BreaksFilling (marked_by t) objects
Break t report objects (suc (suc (suc (suc (suc (suc (suc zero))))))) = BreaksSweeps (marked_by t) (last_cycle t) report objects
Break t report objects (suc (suc (suc (suc (suc (suc (suc (suc zero)))))))) = BreaksTotals (marked_by t) (last_cycle t) report objects
Break t report objects (suc (suc (suc (suc (suc (suc (suc (suc (suc zero))))))))) = BreaksProfile t report objects
Break t report objects (suc (suc (suc (suc (suc (suc (suc (suc (suc (suc n)))))))))) = λ m. Unit {0}

-- no rule is needed to meet those up to none
meets-none : (t : Trace) (report : Report) (objects : List Object) → MeetsUpTo 0 t report objects
meets-none t report objects = record {
  answers = λ le. absurd (omega arith);
  journal = λ le. absurd (omega arith);
  misses = λ le. absurd (omega arith);
  places = λ le. absurd (omega arith);
  apart = λ le. absurd (omega arith);
  filling = λ le. absurd (omega arith);
  sweeps = λ le. absurd (omega arith);
  totals = λ le. absurd (omega arith);
  profile = λ le. absurd (omega arith);
}

-- one rule more
meets-next : (t : Trace) (report : Report) (objects : List Object) (n : ℕ) → MeetsUpTo n t report objects → Rule t report objects (n + 1) → MeetsUpTo (n + 1) t report objects
meets-next t report objects n before now = record {
  answers = next 1 before.answers;
  journal = next 2 before.journal;
  misses = next 3 before.misses;
  places = next 4 before.places;
  apart = next 5 before.apart;
  filling = next 6 before.filling;
  sweeps = next 7 before.sweeps;
  totals = next 8 before.totals;
  profile = next 9 before.profile;
} where
  next : (k : ℕ) → (k ≤ n → Rule t report objects k) → k ≤ n + 1 → Rule t report objects k
  next k old le = elim (cases_lt n k) [ inl last ↦ subst (Rule t report objects) (omega arith) now | inr less ↦ old less ]

pub meets-1 : (t : Trace) (report : Report) (objects : List Object) → HasAnswers t report objects → MeetsUpTo 1 t report objects
meets-1 t report objects answers = meets-next t report objects 0 (meets-none t report objects) answers

meets-2 : (t : Trace) (report : Report) (objects : List Object) → HasAnswers t report objects → HasJournal t report → MeetsUpTo 2 t report objects
meets-2 t report objects answers journal = meets-next t report objects 1 (meets-1 t report objects answers) journal

meets-3 : (t : Trace) (report : Report) (objects : List Object) → HasAnswers t report objects → HasJournal t report → AreMissed (past_in report) objects → MeetsUpTo 3 t report objects
meets-3 t report objects answers journal misses = meets-next t report objects 2 (meets-2 t report objects answers journal) misses

meets-4 : (t : Trace) (report : Report) (objects : List Object) → HasAnswers t report objects → HasJournal t report → AreMissed (past_in report) objects → AreSeated (marked_by t) (past_in report) objects → MeetsUpTo 4 t report objects
meets-4 t report objects answers journal misses places = meets-next t report objects 3 (meets-3 t report objects answers journal misses) places

meets-5 : (t : Trace) (report : Report) (objects : List Object) → HasAnswers t report objects → HasJournal t report → AreMissed (past_in report) objects → AreSeated (marked_by t) (past_in report) objects → AreApart (marked_by t) objects → MeetsUpTo 5 t report objects
meets-5 t report objects answers journal misses places apart = meets-next t report objects 4 (meets-4 t report objects answers journal misses places) apart

meets-6 : (t : Trace) (report : Report) (objects : List Object) → HasAnswers t report objects → HasJournal t report → AreMissed (past_in report) objects → AreSeated (marked_by t) (past_in report) objects → AreApart (marked_by t) objects → AreFilled (marked_by t) objects → MeetsUpTo 6 t report objects
meets-6 t report objects answers journal misses places apart filling = meets-next t report objects 5 (meets-5 t report objects answers journal misses places apart) filling

meets-7 : (t : Trace) (report : Report) (objects : List Object) → HasAnswers t report objects → HasJournal t report → AreMissed (past_in report) objects → AreSeated (marked_by t) (past_in report) objects → AreApart (marked_by t) objects → AreFilled (marked_by t) objects → AreSwept (marked_by t) (last_cycle t) (past_in report) objects report.sweeps → MeetsUpTo 7 t report objects
meets-7 t report objects answers journal misses places apart filling sweeps = meets-next t report objects 6 (meets-6 t report objects answers journal misses places apart filling) sweeps

meets-8 : (t : Trace) (report : Report) (objects : List Object) → HasAnswers t report objects → HasJournal t report → AreMissed (past_in report) objects → AreSeated (marked_by t) (past_in report) objects → AreApart (marked_by t) objects → AreFilled (marked_by t) objects → AreSwept (marked_by t) (last_cycle t) (past_in report) objects report.sweeps → AreTotals (marked_by t) (last_cycle t) objects report.totals → MeetsUpTo 8 t report objects
meets-8 t report objects answers journal misses places apart filling sweeps totals = meets-next t report objects 7 (meets-7 t report objects answers journal misses places apart filling sweeps) totals

pub meets-9 : (t : Trace) (report : Report) (objects : List Object) → HasAnswers t report objects → HasJournal t report → AreMissed (past_in report) objects → AreSeated (marked_by t) (past_in report) objects → AreApart (marked_by t) objects → AreFilled (marked_by t) objects → AreSwept (marked_by t) (last_cycle t) (past_in report) objects report.sweeps → AreTotals (marked_by t) (last_cycle t) objects report.totals → HasProfile t report objects → IsSound t report objects
meets-9 t report objects answers journal misses places apart filling sweeps totals profile = record {
  answers = answers;
  journal = journal;
  misses = misses;
  places = places;
  apart = apart;
  filling = filling;
  sweeps = sweeps;
  totals = totals;
  profile = profile;
}

-- the least of two tests that hold together
least-same : (P Q : ℕ → Type 0) (n : ℕ) → ((m : ℕ) → P m → Q m) → ((m : ℕ) → Q m → P m) → IsLeast P n → IsLeast Q n
least-same P Q n to from is = record { here = to n is.here; least = λ m lt q. is.least m lt (from m q) }

-- a line that breaks rule n breaks it by its number
breaks-by : (t : Trace) (report : Report) (objects : List Object) (n m : ℕ) → 1 ≤ n → n ≤ 9 → Break t report objects n m → Breaks n t report objects m
breaks-by t report objects n m some few b = record {
  some = some;
  few = few;
  answers = λ e. subst (λ (k : ℕ). Break t report objects k m) e b;
  journal = λ e. subst (λ (k : ℕ). Break t report objects k m) e b;
  misses = λ e. subst (λ (k : ℕ). Break t report objects k m) e b;
  places = λ e. subst (λ (k : ℕ). Break t report objects k m) e b;
  apart = λ e. subst (λ (k : ℕ). Break t report objects k m) e b;
  filling = λ e. subst (λ (k : ℕ). Break t report objects k m) e b;
  sweeps = λ e. subst (λ (k : ℕ). Break t report objects k m) e b;
  totals = λ e. subst (λ (k : ℕ). Break t report objects k m) e b;
  profile = λ e. subst (λ (k : ℕ). Break t report objects k m) e b;
}

-- a fault of one rule, where the rules before it are met
fault-of : (n : ℕ) (t : Trace) (report : Report) (objects : List Object) (fault : CheckFault) → 1 ≤ n → n ≤ 9 → MeetsUpTo (n - 1) t report objects
    → ((m : ℕ) → Breaks n t report objects m → Break t report objects n m) → IsFaultOf n (Break t report objects n) fault → IsFault t report fault
fault-of n t report objects (Broken rule line) some few before from is =
    let first = least-same (Break t report objects n) (Breaks n t report objects) line (λ m. breaks-by t report objects n m some few) from is.1 in
    subst (λ (k : ℕ). IsBroken t report k line) (sym is.0) (objects, record { before = before; first = first })
fault-of n t report objects NoMemory some few before from is = tt

pub fault-1 : (t : Trace) (report : Report) (fault : CheckFault) → IsFaultOf 1 (BreaksAnswers t report) fault → IsFault t report fault
fault-1 t report fault is = fault-of 1 t report [] fault (omega arith) (omega arith) (meets-none t report []) (λ m b. b.answers refl) is

pub fault-2 : (t : Trace) (report : Report) (objects : List Object) (fault : CheckFault) → HasAnswers t report objects
    → IsFaultOf 2 (BreaksJournal t report) fault → IsFault t report fault
fault-2 t report objects fault answers is =
    fault-of 2 t report objects fault (omega arith) (omega arith) (meets-1 t report objects answers) (λ m b. b.journal refl) is

pub fault-3 : (t : Trace) (report : Report) (objects : List Object) (fault : CheckFault) → HasAnswers t report objects → HasJournal t report
    → IsFaultOf 3 (BreaksMisses (past_in report) objects) fault → IsFault t report fault
fault-3 t report objects fault answers journal is =
    fault-of 3 t report objects fault (omega arith) (omega arith) (meets-2 t report objects answers journal) (λ m b. b.misses refl) is

pub fault-4 : (t : Trace) (report : Report) (objects : List Object) (fault : CheckFault) → HasAnswers t report objects → HasJournal t report → AreMissed (past_in report) objects
    → IsFaultOf 4 (BreaksPlaces (marked_by t) (past_in report) objects) fault → IsFault t report fault
fault-4 t report objects fault answers journal misses is =
    fault-of 4 t report objects fault (omega arith) (omega arith) (meets-3 t report objects answers journal misses) (λ m b. b.places refl) is

pub fault-5 : (t : Trace) (report : Report) (objects : List Object) (fault : CheckFault) → HasAnswers t report objects → HasJournal t report → AreMissed (past_in report) objects → AreSeated (marked_by t) (past_in report) objects
    → IsFaultOf 5 (BreaksApart (marked_by t) objects) fault → IsFault t report fault
fault-5 t report objects fault answers journal misses places is =
    fault-of 5 t report objects fault (omega arith) (omega arith) (meets-4 t report objects answers journal misses places) (λ m b. b.apart refl) is

pub fault-6 : (t : Trace) (report : Report) (objects : List Object) (fault : CheckFault) → HasAnswers t report objects → HasJournal t report → AreMissed (past_in report) objects → AreSeated (marked_by t) (past_in report) objects → AreApart (marked_by t) objects
    → IsFaultOf 6 (BreaksFilling (marked_by t) objects) fault → IsFault t report fault
fault-6 t report objects fault answers journal misses places apart is =
    fault-of 6 t report objects fault (omega arith) (omega arith) (meets-5 t report objects answers journal misses places apart) (λ m b. b.filling refl) is

pub fault-7 : (t : Trace) (report : Report) (objects : List Object) (fault : CheckFault) → HasAnswers t report objects → HasJournal t report → AreMissed (past_in report) objects → AreSeated (marked_by t) (past_in report) objects → AreApart (marked_by t) objects → AreFilled (marked_by t) objects
    → IsFaultOf 7 (BreaksSweeps (marked_by t) (last_cycle t) report objects) fault → IsFault t report fault
fault-7 t report objects fault answers journal misses places apart filling is =
    fault-of 7 t report objects fault (omega arith) (omega arith) (meets-6 t report objects answers journal misses places apart filling) (λ m b. b.sweeps refl) is

pub fault-8 : (t : Trace) (report : Report) (objects : List Object) (fault : CheckFault) → HasAnswers t report objects → HasJournal t report → AreMissed (past_in report) objects → AreSeated (marked_by t) (past_in report) objects → AreApart (marked_by t) objects → AreFilled (marked_by t) objects → AreSwept (marked_by t) (last_cycle t) (past_in report) objects report.sweeps
    → IsFaultOf 8 (BreaksTotals (marked_by t) (last_cycle t) report objects) fault → IsFault t report fault
fault-8 t report objects fault answers journal misses places apart filling sweeps is =
    fault-of 8 t report objects fault (omega arith) (omega arith) (meets-7 t report objects answers journal misses places apart filling sweeps) (λ m b. b.totals refl) is

pub fault-9 : (t : Trace) (report : Report) (objects : List Object) (fault : CheckFault) → HasAnswers t report objects → HasJournal t report → AreMissed (past_in report) objects → AreSeated (marked_by t) (past_in report) objects → AreApart (marked_by t) objects → AreFilled (marked_by t) objects → AreSwept (marked_by t) (last_cycle t) (past_in report) objects report.sweeps → AreTotals (marked_by t) (last_cycle t) objects report.totals
    → IsFaultOf 9 (BreaksProfile t report objects) fault → IsFault t report fault
fault-9 t report objects fault answers journal misses places apart filling sweeps totals is =
    fault-of 9 t report objects fault (omega arith) (omega arith) (meets-8 t report objects answers journal misses places apart filling sweeps totals) (λ m b. b.profile refl) is

pub err-map : {T : Type 0} (r : Result T CheckFault) (P Q : CheckFault → Type 0) → ((fault : CheckFault) → P fault → Q fault) → IfErr r P → IfErr r Q
err-map (Ok x) P Q to h = tt
err-map (Err e) P Q to h = to e h

-- a fault that is handed on
pub err-from : {T : Type 0} (r : Result T CheckFault) (fault : CheckFault) (P : CheckFault → Type 0) → IsErrAnd r (λ (e : CheckFault). e ≡ fault) → P fault → IfErr r P
err-from (Ok x) fault P h p = absurd h
err-from (Err e) fault P h p = subst P (sym h) p

-- a fault of a rule up to this one
pub fault-up-to : (k n : ℕ) (breaks : ℕ → Type 0) (fault : CheckFault) → n ≤ k → IsFaultOf n breaks fault → IsUpTo k fault
fault-up-to k n breaks (Broken rule line) le is = subst (λ (m : ℕ). m ≤ k) (sym is.0) le
fault-up-to k n breaks NoMemory le is = tt
