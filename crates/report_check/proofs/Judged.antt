-- The answers of the judge of traces with tiny objects.
use Rattle.std.specs.Prelude.{IfErr, IsErrAnd, OnOk}
use Rattle.std.proofs.Common.{◌≡◌, ◌≢◌, ℕ, ◌<◌, ◌≤◌, List, length, Result, Ok, Err, sym, ◌∙◌, ap, subst, arith, inl, inr}
use Rattle.std.proofs.lemmas.Bool.{cases_lt}
use Rattle.trace_reader.specs.declared.trace.Trace.{Trace}
use Rattle.cycle_history.specs.declared.Answer.{Answer}
use Rattle.cycle_history.specs.declared.Report.{Report}
use Rattle.report_check.specs.Answers.{BreaksAnswers}
use Rattle.report_check.specs.Broken.{IsBroken}
use Rattle.report_check.proofs.Exact.{first-broken}
use Rattle.report_check.specs.declared.fault.CheckFault.{CheckFault}
use Rattle.report_check.specs.declared.fault.CheckFault.TheVariants.{Broken, NoMemory}
use Rattle.report_check.specs.Fault.{IsFault, IsFaultOf, IsJudgedByRules, MeetsChecked}
use Rattle.report_check.proofs.Faults.{fault-1}
use Rattle.report_check.proofs.Sounding.{handed-on, judged, rules-unbroken, sound-meets}
use Rattle.tiny_alloc.specs.declared.base.Based.{Based}
use Rattle.tiny_alloc.specs.declared.part.Rider.{Rider}
use Rattle.tiny_alloc.specs.Riders.{part_at}
use Rattle.tiny_alloc.specs.Base.{IsBase, riders_below}
use Rattle.tiny_alloc.specs.Sound.{AreRiding, based_report}
use Rattle.report_check.specs.declared.tiny.based.BaseReport.{BaseReport}
use Rattle.cycle_history.specs.declared.versions.TheConstants.{TINY_VERSION}
use Rattle.report_check.specs.Answered.{IsAnswered, having_answers}
use Rattle.report_check.specs.Based.{IsBaseReport}
use Rattle.report_check.specs.Versions.{BreaksRiding, BreaksVersion, IsBrokenTiny, IsFaultTiny, IsJudgedByVersion, IsJudgedTiny, MeetsTiny, MeetsVersion}
use Rattle.report_check.proofs.OneBase.{base-one}
use Rattle.report_check.proofs.Riding.{riding-unbroken}
use Rattle.report_check.proofs.RuleOne.{base-answered, meets-answers}

-- ---- refusals

-- of rule 1
pub tiny-1 : (t : Trace) (report : Report) (fault : CheckFault) → IsFaultOf 1 (BreaksAnswers t report) fault → IsFaultTiny t report fault
tiny-1 t report (Broken rule line) is =
    let broken : IsBroken t report rule line = fault-1 t report (Broken rule line) is in
    inl (is.0, subst (λ (n : ℕ). IsBroken t report n line) is.0 broken)
tiny-1 t report NoMemory is = tt

-- of the base
pub tiny-base : (t : Trace) (report : Report) (based : Based) (fault : CheckFault) → IsAnswered t report → IsBase t report.answers based
    → IsFault based.trace (based_report report based) fault → IsFaultTiny t report fault
tiny-base t report based (Broken rule line) is base broken =
    let breaks = broken.1.first.here in
    let some = breaks.some in
    let not-one : rule ≢ 1 = λ e. base-answered t report based line is base (breaks.answers e) in
    inr (inl (record { late = above rule some not-one; answered = meets-answers t report is; based = based; base = base; broken = broken }))
  where
    above : (n : ℕ) → 1 ≤ n → n ≢ 1 → 2 ≤ n
    above n some differ = omega arith
tiny-base t report based NoMemory is base broken = tt

-- of rule 10
pub tiny-10 : (t : Trace) (report : Report) (based : Based) (fault : CheckFault) → IsAnswered t report → IsBase t report.answers based → MeetsChecked based.trace (based_report report based)
    → IsFaultOf 10 (BreaksRiding t report.answers) fault → IsFaultTiny t report fault
tiny-10 t report based (Broken rule line) is base sound broken =
    inr (inr (broken.0, record { answered = meets-answers t report is; based = based; base = base; sound = sound; first = broken.1 }))
tiny-10 t report based NoMemory is base sound broken = tt

-- ---- a sound report

pub tiny-sound : (t : Trace) (report : Report) (based : Based) → IsAnswered t report → IsBase t report.answers based → MeetsChecked based.trace (based_report report based) → AreRiding t report.answers → MeetsTiny t report
tiny-sound t report based is base sound riding =
    (based, sound.0, record { answers = meets-answers t report is; base = base; sound = sound.1; riding = riding })

-- the base of a sound report is sound
pub base-meets : (t : Trace) (report : Report) (based : Based) → MeetsTiny t report → IsBase t report.answers based → MeetsChecked based.trace (based_report report based)
base-meets t report based met base =
    subst (λ (b : Based). MeetsChecked b.trace (based_report report b)) (base-one t report.answers met.0 based met.2.base base) (met.1, met.2.sound)

-- a sound report is broken at no line of no rule
unbroken : (t : Trace) (report : Report) (rule line : ℕ) → MeetsTiny t report → ¬ IsBrokenTiny t report rule line
unbroken t report rule line met broken =
    let is = met.2 in
    elim broken [
      | inl one ↦ (first-broken t report 1 line one.1).broken is.answers
      | inr more ↦ elim more [
        | inl base ↦ (
            let sound = base-meets t report base.based met base.base in
            (first-broken base.based.trace (based_report report base.based) rule line base.broken).broken (sound.0, sound-meets rule base.based.trace (based_report report base.based) sound.0 sound.1))
        | inr ten ↦ riding-unbroken t report.answers line is.riding ten.1.first.here
      ]
    ]

-- ---- the report that is judged by the base

its-sound : (t : Trace) (report : Report) (base : BaseReport) (is : IsBaseReport t report base) → MeetsChecked base.trace (having_answers report base.answers) → MeetsChecked is.based.trace (based_report report is.based)
its-sound t report base is met = subst (λ (u : Trace). MeetsChecked u (based_report report is.based)) is.trace (subst (λ (answers : List Answer). MeetsChecked base.trace (having_answers report answers)) is.answers met)

pub base-sound : (t : Trace) (report : Report) (base : BaseReport) → IsBaseReport t report base → MeetsChecked base.trace (having_answers report base.answers) → AreRiding t report.answers → MeetsTiny t report
base-sound t report base is met riding = tiny-sound t report is.based is.answered is.is (its-sound t report base is met) riding

pub base-broken : (t : Trace) (report : Report) (base : BaseReport) (fault : CheckFault) → IsBaseReport t report base → IsFault base.trace (having_answers report base.answers) fault → IsFaultTiny t report fault
base-broken t report base fault is broken = tiny-base t report is.based fault is.answered is.is
    (subst (λ (u : Trace). IsFault u (based_report report is.based) fault) is.trace (subst (λ (answers : List Answer). IsFault base.trace (having_answers report answers) fault) is.answers broken))

pub base-riding : (t : Trace) (report : Report) (base : BaseReport) (fault : CheckFault) → IsBaseReport t report base → MeetsChecked base.trace (having_answers report base.answers)
    → IsFaultOf 10 (BreaksRiding t report.answers) fault → IsFaultTiny t report fault
base-riding t report base fault is met broken = tiny-10 t report is.based fault is.answered is.is (its-sound t report base is met) broken

-- the riders that code has
pub those-riders : (t : Trace) (report : Report) (base : BaseReport) (printed : List Answer) (shown : List Rider) → IsBaseReport t report base → printed ≡ report.answers → shown ≡ base.riders
    → shown ≡ riders_below (part_at t printed) (length printed)
those-riders t report base printed shown is same shown-is =
    shown-is ∙ is.riders ∙ is.is.riders ∙ ap (λ (xs : List Answer). riders_below (part_at t xs) (length xs)) (sym same)

pub on-map : {T : Type 0} {P Q : Type 0} (r : Result T CheckFault) → (P → Q) → OnOk r P → OnOk r Q
on-map (Ok x) to h = to h
on-map (Err e) to h = tt

-- ---- traces of all versions

-- a report that meets the rules of its trace's version breaks none of them
pub version-unbroken : (t : Trace) (report : Report) (rule line : ℕ) → MeetsVersion t report → ¬ BreaksVersion t report rule line
version-unbroken t report rule line met broken = elim (cases_lt t.header.version TINY_VERSION) [
  | inl lt ↦ rules-unbroken t report rule line (met.plain lt) (broken.plain lt)
  | inr le ↦ unbroken t report rule line (met.tiny le) (broken.tiny le)
]

-- of a trace without tiny objects the answer is that by the nine rules
pub plain-judged : (t : Trace) (report : Report) (answer : Result (Unit {0}) CheckFault) → t.header.version < TINY_VERSION → IsJudgedByRules t report answer → IsJudgedByVersion t report answer
plain-judged t report (Ok u) lt is = judged (MeetsVersion t report) (BreaksVersion t report) (version-unbroken t report) (Ok u) (record { plain = λ less. is.met; tiny = λ le. absurd (omega arith) }) tt
plain-judged t report (Err (Broken rule line)) lt is = judged (MeetsVersion t report) (BreaksVersion t report) (version-unbroken t report) (Err (Broken rule line)) tt (record { plain = λ less. is.broken; tiny = λ le. absurd (omega arith) })
plain-judged t report (Err NoMemory) lt is = judged (MeetsVersion t report) (BreaksVersion t report) (version-unbroken t report) (Err NoMemory) tt tt

-- and of one with them that by the ten
pub tiny-judged : (t : Trace) (report : Report) (answer : Result (Unit {0}) CheckFault) → TINY_VERSION ≤ t.header.version → IsJudgedTiny t report answer → IsJudgedByVersion t report answer
tiny-judged t report (Ok u) le is = judged (MeetsVersion t report) (BreaksVersion t report) (version-unbroken t report) (Ok u) (record { plain = λ lt. absurd (omega arith); tiny = λ more. is.met }) tt
tiny-judged t report (Err (Broken rule line)) le is = judged (MeetsVersion t report) (BreaksVersion t report) (version-unbroken t report) (Err (Broken rule line)) tt (record { plain = λ lt. absurd (omega arith); tiny = λ more. is.broken })
tiny-judged t report (Err NoMemory) le is = judged (MeetsVersion t report) (BreaksVersion t report) (version-unbroken t report) (Err NoMemory) tt tt

-- the answer of rule 10 is that by the ten rules, and so is a fault that is handed on
pub riders-judged : (t : Trace) (report : Report) (answer : Result (Unit {0}) CheckFault) → OnOk answer (MeetsTiny t report) → IfErr answer (IsFaultTiny t report) → IsJudgedTiny t report answer
riders-judged t report answer met broken = judged (MeetsTiny t report) (IsBrokenTiny t report) (unbroken t report) answer met broken

pub tiny-handed-on : (t : Trace) (report : Report) (answer : Result (Unit {0}) CheckFault) (fault : CheckFault) → IsErrAnd answer (λ (e : CheckFault). e ≡ fault) → IsFaultTiny t report fault → IsJudgedTiny t report answer
tiny-handed-on t report answer fault same is = handed-on (MeetsTiny t report) (IsBrokenTiny t report) (unbroken t report) answer fault same is
