-- A line that breaks a rule shows that the rule isn't met.
use Rattle.std.proofs.Common.{◌≡◌, ◌≢◌, ℕ, ◌+◌, ◌-◌, ◌≤◌, List, ◌++◌, map, reverse, take, drop, Some, sym, ◌∙◌, ap, subst, arith, inl, inr}
use Rattle.std.specs.List.{slice_get}
use Rattle.std.proofs.lemmas.Bool.{cases_lt}
use Rattle.std.proofs.lemmas.List.{reverse-reverse, reverse-append, take-append-drop}
use Rattle.page_bitmap.specs.declared.line.Line.{Line}
use Rattle.page_bitmap.specs.declared.line.Line.TheVariants.{Miss}
use Rattle.page_alloc.specs.Lists.{IsNumber}
use Rattle.page_alloc.specs.Journal.{IsBy, LegalFor, past_of}
use Rattle.trace_reader.specs.declared.trace.Trace.{Trace}
use Rattle.cycle_history.specs.declared.Answer.{Answer}
use Rattle.cycle_history.specs.declared.Answer.TheVariants.{Zero, Missed}
use Rattle.cycle_history.specs.declared.Report.{Report}
use Rattle.cycle_history.specs.Needs.{Need}
use Rattle.cycle_history.specs.Requests.{requests_of, region_of, marked_by, last_cycle, caching_procs}
use Rattle.cycle_history.specs.Objects.{Object}
use Rattle.cycle_history.specs.Rules.{AreMissed}
use Rattle.cycle_history.specs.Sound.{past_in, HasAnswers, HasJournal}
use Rattle.cycle_history.specs.Broken.{MeetsUpTo, MeetsRules, IsFirstBroken}
use Rattle.cycle_history.proofs.OfObjects.{request-of, object-of, get-number}
use Rattle.report_check.specs.Answers.{IsRightAnswer, BreaksAnswers, BreaksJournal, IsJournalTo, BreaksMisses}
use Rattle.report_check.specs.Broken.{Breaks, IsBroken}
use Rattle.report_check.proofs.Counts.{totals-unmet}
use Rattle.report_check.proofs.Profiles.{profile-unmet}
use Rattle.report_check.proofs.Seats.{apart-met, filling-met, places-met}
use Rattle.report_check.proofs.Sweeping.{by-behind, legal-behind, sweeps-unmet}
use Rattle.report_check.proofs.Twins.{twin-of, answers-length, event-at}

-- ---- rule 1

pub right-of : (t : Trace) (report : Report) (objects : List Object) (i : ℕ) (a : Answer) → HasAnswers t report objects → slice_get report.answers i ≡ Some a → IsRightAnswer t i a
right-of t report objects i a has at =
    let turned : slice_get (reverse (reverse report.answers)) i ≡ Some a = subst (λ (xs : List Answer). slice_get xs i ≡ Some a) (sym (reverse-reverse report.answers)) at in
    let number : IsNumber i a (map (λ (x : Object). x.answer) objects) = subst (λ (xs : List Answer). IsNumber i a xs) (sym has.printed) (get-number i a (reverse report.answers) turned) in
    let found = object-of (requests_of t) objects i a has.asked number in
    let asks = request-of (requests_of t) objects found.0 has.asked found.1 in
    let asked : IsNumber i asks.request (requests_of t) = subst (λ (n : ℕ). IsNumber n asks.request (requests_of t)) found.2 asks.asked in
    record {
      event = asks.request.event;
      asked = event-at t i asks.request asked;
      zero = (λ z. asks.answers.zero.0 (found.3 ∙ z), λ none. sym found.3 ∙ asks.answers.zero.1 none);
    }

answers-met : (t : Trace) (report : Report) (objects : List Object) (line : ℕ) → BreaksAnswers t report line → ¬ HasAnswers t report objects
answers-met t report objects line breaks has = elim breaks [
  | inl w ↦ w.1.wrong (right-of t report objects w.0 w.1.answer has w.1.printed)
  | inr e ↦ (let same = answers-length t report objects has in let lt = e.0 in absurd (omega arith))
]

-- ---- rule 2

journal-to : (t : Trace) (report : Report) (n : ℕ) → HasJournal t report → IsJournalTo t report n
journal-to t report n has =
    let parts : past_in report ≡ reverse (drop n report.journal) ++ past_of (take n report.journal) =
    ap (λ (xs : List Line). reverse xs) (sym (take-append-drop n report.journal)) ∙ reverse-append (take n report.journal) (drop n report.journal) in
    let legal : LegalFor (caching_procs t) (region_of t) t.header.goal (reverse (drop n report.journal) ++ past_of (take n report.journal)) =
    subst (λ (p : List Line). LegalFor (caching_procs t) (region_of t) t.header.goal p) parts has.legal in
    let by : IsBy (last_cycle t) (reverse (drop n report.journal) ++ past_of (take n report.journal)) = subst (λ (p : List Line). IsBy (last_cycle t) p) parts has.cycles in
    record {
      legal = legal-behind (caching_procs t) (region_of t) t.header.goal (reverse (drop n report.journal)) (past_of (take n report.journal)) legal;
      cycles = by-behind (caching_procs t) (region_of t) t.header.goal (last_cycle t) (reverse (drop n report.journal)) (past_of (take n report.journal)) legal by;
    }

journal-met : (t : Trace) (report : Report) (line : ℕ) → BreaksJournal t report line → ¬ HasJournal t report
journal-met t report line breaks has = elim breaks [
  | inl here ↦ here.wrong (journal-to t report (here.number + 1) has)
  | inr at_end ↦ at_end.out has.settled
]

-- ---- rule 3

named-not_zero : (a : Answer) (line : ℕ) → a ≡ Missed line → a ≢ Zero
named-not_zero a line e z = cc

misses-met : (t : Trace) (report : Report) (objects others : List Object) (line : ℕ) → HasAnswers t report objects → HasAnswers t report others → BreaksMisses (past_in report) objects line → ¬ AreMissed (past_in report) others
misses-met t report objects others line here there breaks met =
    let o = breaks.object in
    let twin = twin-of t report objects others o here there breaks.among in
    elim breaks.wrong [
      | inl off ↦ off (λ named e. (
          let need = twin.2.need (named-not_zero o.answer named e) in
          let is = met.named twin.0 twin.1 named (twin.2.answer ∙ e) in
          subst (λ (n : Need). IsNumber named (Miss o.cycle n.pages n.class) (past_in report)) need
          (subst (λ (c : ℕ). IsNumber named (Miss c twin.0.need.pages twin.0.need.class) (past_in report)) twin.2.cycle is)))
      | inr again ↦ (
          let first = twin-of t report objects others again.earlier here there again.among in
          let same = met.once first.0 twin.0 again.named first.1 twin.1 (first.2.answer ∙ again.its) (twin.2.answer ∙ again.here) in
          let a = first.2.id in
          let b = twin.2.id in
          let lt = again.before in
          absurd (omega arith))
    ]

-- ---- the law

abbrev BreaksRule : Trace → Report → ℕ → Type 0
BreaksRule t report n = ¬ MeetsRules n t report

-- the rules 7 to 9
unmet-later : (t : Trace) (report : Report) (objects others : List Object) (n line : ℕ) → 7 ≤ n → MeetsUpTo (n - 1) t report objects → Breaks n t report objects line → ¬ MeetsUpTo n t report others
unmet-later t report objects others n line late before breaks m =
    let few = breaks.few in
    let here = before.answers (omega arith) in
    let there = m.answers (omega arith) in
    elim (cases_lt n 8) [
      | inl seven ↦ sweeps-unmet t report objects others line here there (m.journal (omega arith)) (before.places (omega arith)) (m.places (omega arith)) (breaks.sweeps (omega arith)) (m.sweeps (omega arith))
      | inr rest ↦ elim (cases_lt n 9) [
        | inl eight ↦ totals-unmet (marked_by t) (last_cycle t) t report objects others line here there (breaks.totals (omega arith)) (m.totals (omega arith))
        | inr nine ↦ profile-unmet t report objects others line here there (breaks.profile (omega arith)) (m.profile (omega arith))
      ]
    ]

unmet : (t : Trace) (report : Report) (objects : List Object) (n line : ℕ) → MeetsUpTo (n - 1) t report objects → Breaks n t report objects line → BreaksRule t report n
unmet t report objects n line before breaks met =
    let others = met.0 in
    let m = met.1 in
    let some = breaks.some in
    elim (cases_lt n 2) [
      | inl one ↦ answers-met t report others line (breaks.answers (omega arith)) (m.answers (omega arith))
      | inr more ↦ elim (cases_lt n 3) [
        | inl two ↦ journal-met t report line (breaks.journal (omega arith)) (m.journal (omega arith))
        | inr rest ↦ elim (cases_lt n 4) [
          | inl three ↦ misses-met t report objects others line (before.answers (omega arith)) (m.answers (omega arith)) (breaks.misses (omega arith)) (m.misses (omega arith))
          | inr later ↦ elim (cases_lt n 5) [
            | inl four ↦ places-met t report objects others line (before.answers (omega arith)) (m.answers (omega arith)) (breaks.places (omega arith)) (m.places (omega arith))
            | inr behind ↦ elim (cases_lt n 6) [
              | inl five ↦ apart-met t report objects others line (before.answers (omega arith)) (m.answers (omega arith)) (breaks.apart (omega arith)) (m.apart (omega arith))
              | inr end ↦ elim (cases_lt n 7) [
                | inl six ↦ filling-met t report objects others line (before.answers (omega arith)) (m.answers (omega arith)) (before.places (omega arith)) (m.places (omega arith)) (breaks.filling (omega arith)) (m.filling (omega arith))
                | inr last ↦ unmet-later t report objects others n line last before breaks m
              ]
            ]
          ]
        ]
      ]
    ]

pub first-broken : (t : Trace) (report : Report) (n line : ℕ) → IsBroken t report n line → IsFirstBroken n t report
first-broken t report n line is = record {
  some = is.1.first.here.some;
  before = (is.0, is.1.before);
  broken = unmet t report is.0 n line is.1.before is.1.first.here;
}
