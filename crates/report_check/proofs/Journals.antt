-- The judge's loop over the lines of a journal.
use Rattle.std.proofs.Common.{◌≡◌, ◌≢◌, Bool, true, false, ℕ, zero, suc, ◌+◌, ◌*◌, ◌<◌, ◌≤◌, List, [], ◌∷◌, take, length, get_or, refl, sym, ◌∙◌, ap, arith, inl, inr, subst}
use Rattle.std.specs.Prelude.{MatchBool}
use Rattle.std.proofs.lemmas.Bool.{cases_lt}
use Rattle.std.proofs.lemmas.List.{reverse-append, take_more}
use Rattle.page_bitmap.specs.declared.line.Line.{Line}
use Rattle.page_alloc.specs.Blocks.{open_blocks}
use Rattle.page_alloc.specs.Journal.{IsBy, LegalFor, cycle_of, past_of}
use Rattle.report_check.specs.declared.replay.Replay.{Replay}
use Rattle.report_check.specs.Replays.{Accepts, Begins, IsReplay, MayStandIn, goal_in, past_in, procs_in, region_in}
use Rattle.trace_reader.specs.declared.trace.Trace.{Trace}
use Rattle.cycle_history.specs.declared.Report.{Report}
use Rattle.cycle_history.specs.Requests.{caching_procs, last_cycle, region_of}
use Rattle.cycle_history.specs.Sound.{HasJournal, past_in as printed_past}
use Rattle.report_check.specs.Lines.{IsLeast, end_of, journal_at}
use Rattle.report_check.specs.Answers.{BreaksJournal, IsJournalTo}

-- one line more of a journal stands first in its past
past-more : (journal : List Line) (n : ℕ) (d : Line) → n < length journal → past_of (take (n + 1) journal) ≡ get_or journal n d ∷ past_of (take n journal)
past-more journal n d lt = rw (take_more journal n d lt) (reverse-append (take n journal) (get_or journal n d ∷ []))

-- what an answer tells
pub match-false : (b : Bool) (P Q : Type 0) → b ≡ false → MatchBool b P Q → Q
match-false true P Q e h = (let none : ⊥ = cc in absurd none)
match-false false P Q e h = h

pub match-true : (b : Bool) (P Q : Type 0) → b ≡ true → MatchBool b P Q → P
match-true true P Q e h = h
match-true false P Q e h = (let none : ⊥ = cc in absurd none)

-- the journal up to each of its first n lines is one that the pages can have
pub record AreLegal (t : Trace) (report : Report) (n : ℕ) : Type 0 where
  pub each : (k : ℕ) → k ≤ n → IsJournalTo t report k

-- the first n lines are replayed
pub record AreReplayed (t : Trace) (report : Report) (lines : List Line) (replay : Replay) (n : ℕ) : Type 0 where
  pub sound : IsReplay replay
  pub procs : procs_in replay ≡ caching_procs t
  pub region : region_in replay ≡ region_of t
  pub goal : goal_in replay ≡ t.header.goal
  pub past : past_in replay ≡ past_of (take n lines)
  pub each : AreLegal t report n

pub replayed-none : (t : Trace) (report : Report) (lines : List Line) (replay : Replay) (procs chunks goal : ℕ) → Begins procs chunks goal replay → procs ≡ caching_procs t → chunks ≡ t.header.chunks
    → goal ≡ t.header.goal → AreReplayed t report lines replay 0
replayed-none t report lines replay procs chunks goal begins p c g = record {
  sound = begins.sound;
  procs = begins.procs ∙ p;
  region = begins.region ∙ ap (λ (n : ℕ). 512 * n) c;
  goal = begins.goal ∙ g;
  past = begins.past;
  each = record { each = λ k le. (let e : k ≡ 0 = omega arith in subst (λ (j : ℕ). IsJournalTo t report j) (sym e) (record { legal = tt; cycles = tt })) };
}

-- one line more
pub replayed-more : (t : Trace) (report : Report) (lines : List Line) (old new : Replay) (n cycle : ℕ) (d : Line) → lines ≡ report.journal → AreReplayed t report lines old n → n < length lines
    → cycle ≡ cycle_of (get_or lines n d) → cycle ≤ last_cycle t → Accepts old new (get_or lines n d) → AreReplayed t report lines new (n + 1)
replayed-more t report lines old new n cycle d same known lt is by accepts =
    let line = get_or lines n d in
    let procs : procs_in new ≡ caching_procs t = accepts.procs ∙ known.procs in
    let region : region_in new ≡ region_of t = accepts.region ∙ known.region in
    let goal : goal_in new ≡ t.header.goal = accepts.goal ∙ known.goal in
    let past : past_in new ≡ past_of (take (n + 1) lines) = accepts.past ∙ (ap (λ (p : List Line). line ∷ p) known.past ∙ sym (past-more lines n d lt)) in
    let legal : LegalFor (caching_procs t) (region_of t) t.header.goal (past_of (take (n + 1) lines)) = rw (procs, region, goal, past) at accepts.sound.legal in
    let cycles : IsBy (last_cycle t) (past_of (take (n + 1) lines)) = rw (past-more lines n d lt) (omega arith) in
    record {
      sound = accepts.sound;
      procs = procs;
      region = region;
      goal = goal;
      past = past;
      each = record {
        each = λ k le. elim (cases_lt k (n + 1)) [
          | inl below ↦ known.each.each k (omega arith)
          | inr above ↦ (
              let e : k ≡ n + 1 = omega arith in
              subst (λ (j : ℕ). IsJournalTo t report j) (sym e) (record {
                legal = subst (λ (l : List Line). LegalFor (caching_procs t) (region_of t) t.header.goal (past_of (take (n + 1) l))) same legal;
                cycles = subst (λ (l : List Line). IsBy (last_cycle t) (past_of (take (n + 1) l))) same cycles;
              }))
        ];
      };
    }

-- ---- a line that may not come

broken-first : (t : Trace) (report : Report) (n line : ℕ) → line ≡ journal_at report n → AreLegal t report n → n < length report.journal → ¬ IsJournalTo t report (n + 1) → IsLeast (BreaksJournal t report) line
broken-first t report n line e all lt wrong = record {
  here = inl (record { number = n; inside = lt; wrong = wrong; stands = e });
  least = λ m less breaks. elim breaks [
    | inl here ↦ (let s = here.stands in here.wrong (all.each (here.number + 1) (omega arith)))
    | inr at_end ↦ (let s = at_end.stands in absurd (omega arith))
  ];
}

pub wrong-cycle : (t : Trace) (report : Report) (lines : List Line) (replay : Replay) (n cycle line : ℕ) (d : Line) → lines ≡ report.journal → AreReplayed t report lines replay n → n < length lines
    → cycle ≡ cycle_of (get_or lines n d) → last_cycle t < cycle → line ≡ journal_at report n → IsLeast (BreaksJournal t report) line
wrong-cycle t report lines replay n cycle line d same known lt is late e =
    let inside : n < length report.journal = subst (λ (l : List Line). n < length l) same lt in
    broken-first t report n line e known.each inside (λ to. (
    let cycles : IsBy (last_cycle t) (past_of (take (n + 1) lines)) = subst (λ (l : List Line). IsBy (last_cycle t) (past_of (take (n + 1) l))) (sym same) to.cycles in
    let by : IsBy (last_cycle t) (get_or lines n d ∷ past_of (take n lines)) = rw (past-more lines n d lt) at cycles in
    absurd (omega arith)))

pub wrong-line : (t : Trace) (report : Report) (lines : List Line) (replay : Replay) (n line : ℕ) (d : Line) → lines ≡ report.journal → AreReplayed t report lines replay n → n < length lines
    → ¬ MayStandIn replay (get_or lines n d) → line ≡ journal_at report n → IsLeast (BreaksJournal t report) line
wrong-line t report lines replay n line d same known lt off e =
    let inside : n < length report.journal = subst (λ (l : List Line). n < length l) same lt in
    broken-first t report n line e known.each inside (λ to. (
    let legal : LegalFor (caching_procs t) (region_of t) t.header.goal (past_of (take (n + 1) lines)) =
    subst (λ (l : List Line). LegalFor (caching_procs t) (region_of t) t.header.goal (past_of (take (n + 1) l))) (sym same) to.legal in
    let here : LegalFor (caching_procs t) (region_of t) t.header.goal (get_or lines n d ∷ past_of (take n lines)) = rw (past-more lines n d lt) at legal in
    let h1 : LegalFor (procs_in replay) (region_of t) t.header.goal (get_or lines n d ∷ past_of (take n lines)) =
    subst (λ (x : ℕ). LegalFor x (region_of t) t.header.goal (get_or lines n d ∷ past_of (take n lines))) (sym known.procs) here in
    let h2 : LegalFor (procs_in replay) (region_in replay) t.header.goal (get_or lines n d ∷ past_of (take n lines)) =
    subst (λ (x : ℕ). LegalFor (procs_in replay) x t.header.goal (get_or lines n d ∷ past_of (take n lines))) (sym known.region) h1 in
    let h3 : LegalFor (procs_in replay) (region_in replay) (goal_in replay) (get_or lines n d ∷ past_of (take n lines)) =
    subst (λ (x : ℕ). LegalFor (procs_in replay) (region_in replay) x (get_or lines n d ∷ past_of (take n lines))) (sym known.goal) h2 in
    off (subst (λ (p : List Line). LegalFor (procs_in replay) (region_in replay) (goal_in replay) (get_or lines n d ∷ p)) (sym known.past) h3)))

-- ---- the whole journal

take-all : (l : List Line) (k : ℕ) → length l ≤ k → take k l ≡ l
take-all [] zero le = refl
take-all [] (suc k) le = refl
take-all (y ∷ ys) zero le = absurd (omega arith)
take-all (y ∷ ys) (suc k) le = ap (λ (l : List Line). y ∷ l) (take-all ys k (omega arith))

all-past : (t : Trace) (report : Report) (lines : List Line) (replay : Replay) (n : ℕ) → lines ≡ report.journal → AreReplayed t report lines replay n → length lines ≤ n → past_in replay ≡ printed_past report
all-past t report lines replay n same known le = known.past ∙ ap past_of (take-all lines n le ∙ same)

pub all-legal : (t : Trace) (report : Report) (lines : List Line) (replay : Replay) (n : ℕ) → lines ≡ report.journal → AreReplayed t report lines replay n → length lines ≤ n
    → open_blocks (past_in replay) ≡ [] → HasJournal t report
all-legal t report lines replay n same known le none =
    let past = all-past t report lines replay n same known le in
    let size : length lines ≡ length report.journal = ap (λ (l : List Line). length l) same in
    let to = known.each.each (length report.journal) (omega arith) in
    let whole : take (length report.journal) report.journal ≡ report.journal = take-all report.journal (length report.journal) (omega arith) in
    record { legal = rw whole at to.legal; cycles = rw whole at to.cycles; settled = ap open_blocks (sym past) ∙ none }

pub still-out : (t : Trace) (report : Report) (lines : List Line) (replay : Replay) (n line : ℕ) → lines ≡ report.journal → AreReplayed t report lines replay n → length lines ≤ n
    → open_blocks (past_in replay) ≢ [] → line ≡ end_of report → IsLeast (BreaksJournal t report) line
still-out t report lines replay n line same known le out e =
    let past = all-past t report lines replay n same known le in
    let size : length lines ≡ length report.journal = ap (λ (l : List Line). length l) same in
    record {
      here = inr (record { out = λ none. out (ap open_blocks past ∙ none); stands = e });
      least = λ m less breaks. elim breaks [
        | inl here ↦ (let inside = here.inside in here.wrong (known.each.each (here.number + 1) (omega arith)))
        | inr at_end ↦ (let s = at_end.stands in absurd (omega arith))
      ];
    }
