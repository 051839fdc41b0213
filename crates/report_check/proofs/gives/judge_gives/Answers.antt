use Rattle.std.proofs.Common.{◌≡◌, ℕ, ◌+◌, ◌<◌, true, List, ◌∷◌, take, length, get_or, Option, Some, refl, sym, ◌∙◌, ap, subst, arith}
use Rattle.std.specs.List.{slice_get}
use Rattle.std.proofs.lemmas.Option.{slice_get-get_or, slice_get_within}
use Rattle.page_bitmap.specs.declared.line.Line.{Line}
use Rattle.page_bitmap.specs.declared.line.Line.TheVariants.{Give}
use Rattle.page_alloc.specs.Journal.{LegalFor, past_of}
use Rattle.span_state.specs.declared.sweep.SweepNote.{SweepNote}
use Rattle.cycle_history.specs.Requests.{caching_procs, last_cycle, marked_by, region_of}
use Rattle.cycle_history.specs.declared.Answer.{Answer}
use Rattle.report_check.specs.Lines.{IsLeast}
use Rattle.report_check.specs.Closing.{BreaksSweeps}
use Rattle.report_check.specs.declared.lives.OpenLife.{OpenLife}
use Rattle.report_check.specs.Keys.{AreKeys}
use Rattle.report_check.specs.Lives.{AreLives}
use Rattle.report_check.specs.Sweeping.{CanGive}
use Rattle.report_check.proofs.Ledgers.{written}
use Rattle.report_check.proofs.Upto.{legal-front, line-more, past-length}
use Rattle.report_check.proofs.Righting.{gives-fault, gives-more, may-can}
use Rattle.report_check.proofs.gives.judge_gives.Goals.{in-Give+else-not-may_give, in_default}
use Rattle.report_check.proofs.gives.judge_gives.Goals as goal

-- the next line may stand behind those before it
legal-next : (procs region goal : ℕ) (journal : List Line) (n : ℕ) (d : Line) → n < length journal → LegalFor procs region goal (past_of journal) → LegalFor procs region goal (get_or journal n d ∷ past_of (take n journal))
legal-next procs region goal journal n d lt legal = subst (λ (p : List Line). LegalFor procs region goal p) (line-more journal n d lt) (legal-front procs region goal journal (n + 1) (omega arith) legal)

-- the line that stands there
line-at : (slice journal : List Line) (n : ℕ) (d : Line) → slice ≡ journal → n < length slice → slice_get journal n ≡ Some (get_or slice n d)
line-at slice journal n d e lt = subst (λ (js : List Line). slice_get js n ≡ Some (get_or slice n d)) e (slice_get-get_or slice n d lt)

legal-at : (procs region goal : ℕ) (slice journal : List Line) (n : ℕ) (d line : Line) → slice ≡ journal → n < length slice → line ≡ get_or slice n d → LegalFor procs region goal (past_of journal) → LegalFor procs region goal (line ∷ past_of (take n journal))
legal-at procs region goal slice journal n d line e lt is legal =
    let legal' = subst (λ (js : List Line). LegalFor procs region goal (past_of js)) (sym e) legal in
    let next = legal-next procs region goal slice n d lt legal' in
    let there = subst (λ (js : List Line). LegalFor procs region goal (get_or slice n d ∷ past_of (take n js))) e next in
    subst (λ (l : Line). LegalFor procs region goal (l ∷ past_of (take n journal))) (sym is) there

more-at : (slice journal : List Line) (n : ℕ) (d : Line) → slice ≡ journal → n < length slice → past_of (take (n + 1) journal) ≡ get_or slice n d ∷ past_of (take n journal)
more-at slice journal n d e lt =
    let more = line-more slice n d lt in
    subst (λ (js : List Line). past_of (take (n + 1) js) ≡ get_or slice n d ∷ past_of (take n js)) e more

-- one Give
give-same : (lives : List (Option OpenLife)) (sweeps : List SweepNote) (cycle page pages c p q : ℕ) → Give cycle page pages ≡ Give c p q → CanGive lives sweeps cycle page → CanGive lives sweeps c p
give-same lives sweeps cycle page pages c p q e can =
    let f : cycle ≡ c = cc in
    let g : page ≡ p = cc in
    subst (λ (k : ℕ). CanGive lives sweeps k p) f (subst (λ (k : ℕ). CanGive lives sweeps cycle k) g can)

pub returns-then-not-may_give-clause-fault : goal.returns-then-not-may_give-clause-fault
returns-then-not-may_give-clause-fault c objects =
    let t = c.args.trace.now in
    let report = c.args.report.now in
    let keys = subst (λ (ss : List SweepNote). AreKeys true ss c.in_ok-keys.keys) c.sweeps.ensures c.in_ok-keys.ensures in
    let wrong = c.if-not-may_give.ensures report.sweeps keys in
    let at = line-at c.journal-journal.result.now report.journal c.loop-number.number _ c.journal-journal.ensures c.loop-number-test.true ∙ ap Some c.in-Give.is in
    let lives = subst (λ (ls : List (Option OpenLife)). AreLives (region_of t) (past_of (take c.loop-number.number report.journal)) ls) (sym c.deref.ensures.value) c.loop-number.invariant.lives in
    let e = ap (λ (xs : List Answer). length xs) c.answers.ensures in (
      refl,
      subst (λ (k : ℕ). IsLeast (BreaksSweeps (marked_by t) (last_cycle t) report objects) (k + c.loop-number.number + 1)) (sym e)
          (gives-fault t report objects c.loop-number.number c.in-Give.cycle c.in-Give.page c.in-Give.pages at
          (λ may. wrong (may-can t report c.deref.result.now c.loop-number.number c.in-Give.cycle c.in-Give.page lives may)) c.loop-number.invariant.gives),
    )

pub take_up-requires : goal.take_up-requires
take_up-requires c =
    let t = c.args.trace.now in
    let report = c.args.report.now in
    let lives = subst (λ (ls : List (Option OpenLife)). AreLives (region_of t) (past_of (take c.loop-number.number report.journal)) ls) (sym c.deref_mut.ensures.value) c.loop-number.invariant.lives in (
      caching_procs t,
      region_of t,
      t.header.goal,
      past_of (take c.loop-number.number report.journal),
      lives,
      elim c.match-line.branch [
        | in-Give+else-not-may_give w ↦ legal-at (caching_procs t) (region_of t) t.header.goal c.journal-journal.result.now report.journal c.loop-number.number _ c.match-line.line c.journal-journal.ensures c.loop-number-test.true (w.line-is ∙ sym w.in-Give.is) c.requires.journal.legal
        | in_default w ↦ legal-at (caching_procs t) (region_of t) t.header.goal c.journal-journal.result.now report.journal c.loop-number.number _ c.match-line.line c.journal-journal.ensures c.loop-number-test.true w.line-is c.requires.journal.legal
      ],
    )

pub loop-number-preserved : goal.loop-number-preserved
loop-number-preserved c =
    let t = c.args.trace.now in
    let report = c.args.report.now in
    let n = c.loop-number.number in
    let journal = c.journal-journal.result.now in
    let lives = subst (λ (ls : List (Option OpenLife)). AreLives (region_of t) (past_of (take n report.journal)) ls) (sym c.deref_mut.ensures.value) c.loop-number.invariant.lives in
    let long : length c.take_up.new.lives ≡ c.loop-number.lives.len = c.take_up.auto.lives ∙ c.deref_mut.ensures.len in
    let same = written c.loop-number.lives.len c.take_up.new.lives c.loop-number.lives.items long in
    let size = ap (λ (js : List Line). length js) c.journal-journal.ensures in
    let lt = c.loop-number-test.true in
    let number = sym (past-length report.journal n (omega arith)) in
    let keys = subst (λ (ss : List SweepNote). AreKeys true ss c.in_ok-keys.keys) c.sweeps.ensures c.in_ok-keys.ensures in
    elim c.match-line.branch [
      | in-Give+else-not-may_give w ↦ (
          let at = line-at journal report.journal n _ c.journal-journal.ensures lt in
          let legal = legal-at (caching_procs t) (region_of t) t.header.goal journal report.journal n _ c.match-line.line c.journal-journal.ensures lt (w.line-is ∙ sym w.in-Give.is) c.requires.journal.legal in
          let more = subst (λ (l : Line). past_of (take (n + 1) report.journal) ≡ l ∷ past_of (take n report.journal)) (sym (w.line-is ∙ sym w.in-Give.is)) (more-at journal report.journal n _ c.journal-journal.ensures lt) in
          let before = subst (λ (ls : List (Option OpenLife)). AreLives (region_of t) (past_of (take n report.journal)) ls) (sym w.deref.ensures.value) c.loop-number.invariant.lives in
          record {
            lives = subst (λ (ls : List (Option OpenLife)). AreLives (region_of t) (past_of (take (n + 1) report.journal)) ls) (sym same)
                (subst (λ (p : List Line). AreLives (region_of t) p c.take_up.new.lives) (sym more) (c.take_up.ensures (caching_procs t) (region_of t) t.header.goal (past_of (take n report.journal)) lives legal number));
            gives = gives-more t report w.deref.result.now n _ before at
                (λ cycle page pages e. give-same (w.deref.result.now) report.sweeps _ _ _ cycle page pages (sym w.in-Give.is ∙ e) (w.if-not-may_give.ensures report.sweeps keys)) c.loop-number.invariant.gives;
          })
      | in_default w ↦ (
          let at = line-at journal report.journal n _ c.journal-journal.ensures lt in
          let legal = legal-at (caching_procs t) (region_of t) t.header.goal journal report.journal n _ c.match-line.line c.journal-journal.ensures lt w.line-is c.requires.journal.legal in
          let more = subst (λ (l : Line). past_of (take (n + 1) report.journal) ≡ l ∷ past_of (take n report.journal)) (sym w.line-is) (more-at journal report.journal n _ c.journal-journal.ensures lt) in
          record {
            lives = subst (λ (ls : List (Option OpenLife)). AreLives (region_of t) (past_of (take (n + 1) report.journal)) ls) (sym same)
                (subst (λ (p : List Line). AreLives (region_of t) p c.take_up.new.lives) (sym more) (c.take_up.ensures (caching_procs t) (region_of t) t.header.goal (past_of (take n report.journal)) lives legal number));
            gives = gives-more t report c.loop-number.lives.items n _ c.loop-number.invariant.lives at (λ cycle page pages e. absurd (w.in_default.not-Give cycle page pages e)) c.loop-number.invariant.gives;
          })
    ]

pub returns-clause-gives : goal.returns-clause-gives
returns-clause-gives c n cycle page pages at = c.loop-number.invariant.gives n cycle page pages (let w = slice_get_within c.args.report.now.journal n (Give cycle page pages) at in let f = c.loop-number-test.false in let e = ap (λ (js : List Line). length js) c.journal-journal.ensures in omega arith) at
