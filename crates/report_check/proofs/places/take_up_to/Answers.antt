use Rattle.std.proofs.Common.{◌≡◌, ℕ, ◌+◌, ◌<◌, List, ◌∷◌, get_or, take, length, sym, subst, arith}
use Rattle.page_bitmap.specs.declared.line.Line.{Line}
use Rattle.page_bitmap.specs.declared.line.Line.TheVariants.{Take}
use Rattle.page_alloc.specs.Journal.{IsBy, LegalFor, past_of, at_end}
use Rattle.cycle_history.specs.Requests.{caching_procs, region_of}
use Rattle.report_check.specs.Lives.{AreLives}
use Rattle.report_check.proofs.Upto.{line-more, past-length, legal-front, end-at}
use Rattle.report_check.proofs.places.take_up_to.Goals as goal

-- the slice is the report's journal, which is legal
legal-slice : (procs region goal : ℕ) (slice journal : List Line) → slice ≡ journal → LegalFor procs region goal (past_of journal) → LegalFor procs region goal (past_of slice)
legal-slice procs region goal slice journal e legal = subst (λ (ls : List Line). LegalFor procs region goal (past_of ls)) (sym e) legal

legal-next : (procs region goal : ℕ) (journal : List Line) (n : ℕ) (d : Line) → n < length journal → LegalFor procs region goal (past_of journal) → LegalFor procs region goal (get_or journal n d ∷ past_of (take n journal))
legal-next procs region goal journal n d lt legal = subst (λ (p : List Line). LegalFor procs region goal p) (line-more journal n d lt) (legal-front procs region goal journal (n + 1) (omega arith) legal)

pub take_up-requires : goal.take_up-requires
take_up-requires c =
    let legal = legal-slice (caching_procs c.args.trace.now) (region_of c.args.trace.now) c.args.trace.now.header.goal c.journal-journal.result.now c.args.report.now.journal c.journal-journal.ensures c.requires.journal.legal in (
      caching_procs c.args.trace.now,
      region_of c.args.trace.now,
      c.args.trace.now.header.goal,
      past_of (take c.loop-next.next c.journal-journal.result.now),
      c.loop-next.invariant.lives,
      legal-next (caching_procs c.args.trace.now) (region_of c.args.trace.now) c.args.trace.now.header.goal c.journal-journal.result.now c.loop-next.next _ c.loop-next-test.true legal,
    )

pub loop-next-preserved : goal.loop-next-preserved
loop-next-preserved c =
    let journal = c.journal-journal.result.now in
    let n = c.loop-next.next in
    let lt = c.loop-next-test.true in
    let legal = legal-slice (caching_procs c.args.trace.now) (region_of c.args.trace.now) c.args.trace.now.header.goal journal c.args.report.now.journal c.journal-journal.ensures c.requires.journal.legal in
    let is = c.cycle_of.ensures in
    let le = c.if-cycle_of-cycle.true in
    let more = line-more journal n (Take 0 0 0 0) lt in
    record {
      next = omega arith;
      by = subst (λ (p : List Line). IsBy c.args.cycle p) (sym more) (omega arith);
      lives = subst (λ (p : List Line). AreLives (region_of c.args.trace.now) p c.take_up.new.lives) (sym more)
          (c.take_up.ensures (caching_procs c.args.trace.now) (region_of c.args.trace.now) c.args.trace.now.header.goal (past_of (take n journal)) c.loop-next.invariant.lives
          (legal-next (caching_procs c.args.trace.now) (region_of c.args.trace.now) c.args.trace.now.header.goal journal n _ lt legal) (sym (past-length journal n c.loop-next.invariant.next)));
    }

pub returns-else-cycle_of-cycle-clause-end : goal.returns-else-cycle_of-cycle-clause-end
returns-else-cycle_of-cycle-clause-end c =
    let journal = c.journal-journal.result.now in
    let legal = legal-slice (caching_procs c.args.trace.now) (region_of c.args.trace.now) c.args.trace.now.header.goal journal c.args.report.now.journal c.journal-journal.ensures c.requires.journal.legal in
    let is = c.cycle_of.ensures in
    let off = c.if-cycle_of-cycle.false in
    subst (λ (ls : List Line). past_of (take c.loop-next.next ls) ≡ at_end c.args.cycle (past_of ls)) c.journal-journal.ensures
    (end-at (caching_procs c.args.trace.now) (region_of c.args.trace.now) c.args.trace.now.header.goal journal c.loop-next.next c.args.cycle (Take 0 0 0 0) c.loop-next.invariant.next legal c.loop-next.invariant.by (λ lt. omega arith))
