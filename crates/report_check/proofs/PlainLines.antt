-- Journals without page caches: which lines break rule 2.
use Rattle.std.proofs.Common.{◌≡◌, ◌≢◌, ℕ, ◌+◌, ◌-◌, ◌<◌, ◌≤◌, List, [], ◌∷◌, ◌++◌, length, take, drop, reverse, refl, sym, ◌∙◌, ap, arith, inl, inr, take-append-drop}
use Rattle.std.specs.Prelude.{◌↔◌}
use Rattle.std.proofs.lemmas.List.{reverse-append, take_all}
use Rattle.page_bitmap.specs.declared.line.Line.{Line}
use Rattle.page_bitmap.specs.declared.line.Line.TheVariants.{Take, Miss, Give, Scav, Pull, Cut, Drop}
use Rattle.page_alloc.specs.Blocks.{open_blocks}
use Rattle.page_alloc.specs.Journal.{AreAllowed, past_of}
use Rattle.page_alloc.proofs.BlocksOut.{legal-for, legal-more, no-blocks}
use Rattle.trace_reader.specs.declared.trace.Trace.{Trace}
use Rattle.cycle_history.specs.declared.Report.{Report}
use Rattle.cycle_history.specs.Requests.{caching_procs, region_of}
use Rattle.cycle_history.specs.Sound.{past_in}
use Rattle.cycle_history.specs.Making.{ArePlain}
use Rattle.cycle_history.proofs.PlainJournals.{no-procs}
use Rattle.report_check.specs.Lines.{IsLeast, end_of, journal_at}
use Rattle.report_check.specs.Answers.{BreaksJournal, IsJournalTo}
use Rattle.report_check.specs.Plain.{BreaksPlainJournal, IsPlainJournalTo}

-- ---- all lines are Takes, Misses, Gives and Scavs

-- no block is out
plain-none : (past : List Line) → AreAllowed 0 past → open_blocks past ≡ []
plain-none [] plain = refl
plain-none (Take cycle page pages class ∷ past) plain = plain-none past plain.1
plain-none (Miss cycle pages class ∷ past) plain = plain-none past plain.1
plain-none (Give cycle page pages ∷ past) plain = plain-none past plain.1
plain-none (Scav cycle page pages ∷ past) plain = plain-none past plain.1
plain-none (Pull cycle proc page pages ∷ past) plain = absurd (let none = plain.0 in omega arith)
plain-none (Cut cycle proc page pages class ∷ past) plain = absurd (let none = plain.0 in omega arith)
plain-none (Drop cycle proc page pages ∷ past) plain = absurd (let none = plain.0 in omega arith)

allowed-behind : (newer past : List Line) → AreAllowed 0 (newer ++ past) → AreAllowed 0 past
allowed-behind [] past plain = plain
allowed-behind (line ∷ newer) past plain = allowed-behind newer past plain.1

allowed-front : (n : ℕ) (lines : List Line) → AreAllowed 0 (past_of lines) → AreAllowed 0 (past_of (take n lines))
allowed-front n lines plain =
    let turned : past_of lines ≡ reverse (drop n lines) ++ reverse (take n lines) = ap (λ (ls : List Line). reverse ls) (sym (take-append-drop n lines)) ∙ reverse-append (take n lines) (drop n lines) in
    allowed-behind (reverse (drop n lines)) (reverse (take n lines)) (rw turned at plain)

plain-to : (t : Trace) (report : Report) (n : ℕ) → IsPlainJournalTo t report n → IsJournalTo t report n
plain-to t report n to = record {
  legal = legal-more 0 (caching_procs t) (region_of t) t.header.goal (past_of (take n report.journal)) (omega arith) to.legal;
  cycles = to.cycles;
}

to-plain : (t : Trace) (report : Report) (n : ℕ) → ArePlain (past_in report) → IsJournalTo t report n → IsPlainJournalTo t report n
to-plain t report n plain to = record {
  legal = legal-for (caching_procs t) 0 (region_of t) t.header.goal (past_of (take n report.journal)) (allowed-front n report.journal plain) to.legal;
  cycles = to.cycles;
}

pub plain-breaks : (t : Trace) (report : Report) (line : ℕ) → ArePlain (past_in report) → (BreaksJournal t report line ↔ BreaksPlainJournal t report line)
plain-breaks t report line plain = (
  λ breaks. elim breaks [
    | inl here ↦ record {
      number = here.number;
      inside = here.inside;
      wrong = λ to. here.wrong (plain-to t report (here.number + 1) to);
      stands = here.stands;
    }
    | inr at_end ↦ absurd (at_end.out (plain-none (past_in report) plain))
  ],
  λ breaks. inl (record {
    number = breaks.number;
    inside = breaks.inside;
    wrong = λ to. breaks.wrong (to-plain t report (breaks.number + 1) plain to);
    stands = breaks.stands;
  }),
)

-- ---- version 1

first-to : (t : Trace) (report : Report) (n : ℕ) → t.header.version < 2 → IsJournalTo t report n → IsPlainJournalTo t report n
first-to t report n low to = let none = no-procs t low in record { legal = rw none at to.legal; cycles = to.cycles }

-- where a block is out behind the last line, that line breaks the rule
last-wrong : (t : Trace) (report : Report) → t.header.version < 2 → open_blocks (past_in report) ≢ [] → (line : ℕ) × (line < end_of report) × BreaksJournal t report line
last-wrong t report low out =
    let n = length report.journal - 1 in
    let some : 1 ≤ length report.journal = some-line report.journal out in
    let whole : take (n + 1) report.journal ≡ report.journal = take_all (n + 1) report.journal (omega arith) in
    let wrong : ¬ IsJournalTo t report (n + 1) = λ to. (let plain = first-to t report (n + 1) low to in out (no-blocks (region_of t) t.header.goal (past_in report) (rw whole at plain.legal))) in
    (journal_at report n, omega arith, inl (record { number = n; inside = omega arith; wrong = wrong; stands = refl }))
  where
    some-line : (journal : List Line) → open_blocks (past_of journal) ≢ [] → 1 ≤ length journal
    some-line [] none = absurd (none refl)
    some-line (line ∷ journal) none = omega arith

pub version-1-breaks : (t : Trace) (report : Report) (line : ℕ) → t.header.version < 2 → (IsLeast (BreaksJournal t report) line ↔ IsLeast (BreaksPlainJournal t report) line)
version-1-breaks t report line low = (
  λ first. record {
    here = elim first.here [
      | inl here ↦ record { number = here.number; inside = here.inside; wrong = λ to. here.wrong (plain-to t report (here.number + 1) to); stands = here.stands }
      | inr at_end ↦ (
          let before = last-wrong t report low at_end.out in
          let stands = at_end.stands in
          absurd (first.least before.0 (let lt = before.1 in omega arith) before.2))
    ];
    least = λ m lt breaks. first.least m lt (inl (record { number = breaks.number; inside = breaks.inside; wrong = λ to. breaks.wrong (first-to t report (breaks.number + 1) low to); stands = breaks.stands }));
  },
  λ first. record {
    here = (let here = first.here in inl (record { number = here.number; inside = here.inside; wrong = λ to. here.wrong (first-to t report (here.number + 1) low to); stands = here.stands }));
    least = λ m lt breaks. elim breaks [
      | inl w ↦ first.least m lt (record { number = w.number; inside = w.inside; wrong = λ to. w.wrong (plain-to t report (w.number + 1) to); stands = w.stands })
      | inr at_end ↦ (let here = first.here in let inside = here.inside in let stands = here.stands in let e = at_end.stands in absurd (omega arith))
    ];
  },
)
