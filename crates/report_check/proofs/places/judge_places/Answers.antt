use Rattle.std.proofs.Common.{◌≡◌, ℕ, ◌+◌, ◌<◌, List, ◌++◌, take, drop, length, get_or, Option, refl, sym, ◌∙◌, ap, subst, arith}
use Rattle.std.proofs.Math.Seq.{take-append_seam}
use Rattle.page_bitmap.specs.declared.line.Line.{Line}
use Rattle.page_alloc.specs.Journal.{past_of, at_end}
use Rattle.trace_reader.specs.declared.trace.Cycle.{Cycle}
use Rattle.trace_reader.specs.declared.trace.Trace.{Trace}
use Rattle.trace_reader.specs.declared.span.Span.{Span}
use Rattle.cycle_history.specs.declared.Report.{Report}
use Rattle.cycle_history.specs.Requests.{region_of}
use Rattle.cycle_history.specs.Before.{IsLimited, marks_at, objects_before}
use Rattle.cycle_history.specs.Sound.{HasAnswers, past_in}
use Rattle.cycle_history.proofs.Firsts.{before-more, before-le}
use Rattle.report_check.specs.declared.items.Item.{Item}
use Rattle.report_check.specs.declared.lives.OpenLife.{OpenLife}
use Rattle.report_check.specs.Items.{objects_of}
use Rattle.report_check.specs.Lives.{AreLives}
use Rattle.report_check.specs.Seats.{AllHaveLives, AreSeatedIn, IsFirstLost}
use Rattle.report_check.proofs.Lost.{Of}
use Rattle.report_check.proofs.Seated.{same-length}
use Rattle.report_check.proofs.Settled.{AreSettled, settled-more, settled-lives, settled-slots, settled-fault, settled-all, count-items}
use Rattle.report_check.proofs.Upto.{by-on}
use Rattle.report_check.proofs.places.judge_places.Goals as goal

-- a slice that was written over whole
written : (n : ℕ) (new old : List (Option OpenLife)) → length new ≡ n → take n (new ++ drop (length new) old) ≡ new
written n new old e = subst (λ (k : ℕ). take k (new ++ drop (length new) old) ≡ new) e (take-append_seam new (drop (length new) old))

-- the first object of the next cycle
next-first : (t : Trace) (slice : List Cycle) (c first count : ℕ) (d : Cycle) → slice ≡ t.cycles → c < length slice → first ≡ objects_before t c → count ≡ length (get_or slice c d).events → first + count ≡ objects_before t (c + 1)
next-first t slice c first count d same lt is size =
    let e : get_or slice c d ≡ get_or t.cycles c d = ap (λ (cs : List Cycle). get_or cs c d) same in
    let long : length slice ≡ length t.cycles = ap (λ (cs : List Cycle). length cs) same in
    let more = before-more t c d (omega arith) in
    let f = ap (λ (x : Cycle). length x.events) e in
    omega arith

-- one cycle more, with what its steps gave
cycle-done : (t : Trace) (report : Report) (old mid new : List Item) (c cycle first last next b0 b1 b2 : ℕ) (lives left right : List (Option OpenLife)) (spans : List Span) → IsLimited t → HasAnswers t report (objects_of old)
    → cycle ≡ c → left ≡ lives → right ≡ lives → spans ≡ marks_at t cycle → first ≡ objects_before t c → last ≡ objects_before t (c + 1) → past_of (take next report.journal) ≡ at_end cycle (past_in report)
    → AreLives (region_of t) (past_of (take next report.journal)) lives → AreSettled t report old mid c b0 → IsFirstLost left (Of spans) mid b0 b1 → AreSeatedIn right mid new first last b1 b2
    → AreSettled t report old new (c + 1) b2
cycle-done t report old mid new c cycle first last next b0 b1 b2 lives left right spans limited answers is same-left same-right marks begins ends end are was kept got =
    let at-end : past_of (take next report.journal) ≡ at_end c (past_in report) = end ∙ ap (λ (n : ℕ). at_end n (past_in report)) is in
    let are-now = subst (λ (p : List Line). AreLives (region_of t) p lives) at-end are in
    let kept-left = subst (λ (ls : List (Option OpenLife)). IsFirstLost ls (Of spans) mid b0 b1) same-left kept in
    let kept-now = subst (λ (ss : List Span). IsFirstLost lives (Of ss) mid b0 b1) (marks ∙ ap (λ (n : ℕ). marks_at t n) is) kept-left in
    let got-right = subst (λ (ls : List (Option OpenLife)). AreSeatedIn ls mid new first last b1 b2) same-right got in
    let got-first = subst (λ (n : ℕ). AreSeatedIn lives mid new n last b1 b2) begins got-right in
    let got-now = subst (λ (n : ℕ). AreSeatedIn lives mid new (objects_before t c) n b1 b2) ends got-first in
    settled-more t report old mid new (region_of t) c b0 b1 b2 lives limited answers are-now was kept-now got-now

pub first_lost-bound-requires-clause-seats : goal.first_lost-bound-requires-clause-seats
first_lost-bound-requires-clause-seats c =
    let same = c.spans_at.ensures ∙ ap (λ (n : ℕ). marks_at c.args.trace.now n) c.loop-part.invariant.cycle in
    subst (λ (ss : List Span). AllHaveLives (Of ss) c.loop-part.items c.loop-part.bound) (sym same)
    (settled-lives c.args.trace.now c.args.report.now c.args.items.now c.loop-part.items c.loop-part.part-index c.loop-part.bound c.requires.limited c.loop-part.invariant.settled)

pub overflow_add-last : goal.overflow_add-last
overflow_add-last c =
    let e = next-first c.args.trace.now c.as_slice-part-items.result.now c.loop-part.part-index c.loop-part.first c.len.result c.part-item.result c.as_slice-part-items.ensures c.loop-part-test.true c.loop-part.invariant.first
    (c.len.ensures ∙ ap (λ (x : Cycle). length x.events) c.part-item.is) in
    let le = before-le c.args.trace.now (c.loop-part.part-index + 1) in
    let few = c.requires.limited.objects in
    omega arith

pub seat_all-bound-requires-clause-last : goal.seat_all-bound-requires-clause-last
seat_all-bound-requires-clause-last c =
    let e = next-first c.args.trace.now c.as_slice-part-items.result.now c.loop-part.part-index c.loop-part.first c.len.result c.part-item.result c.as_slice-part-items.ensures c.loop-part-test.true c.loop-part.invariant.first
    (c.len.ensures ∙ ap (λ (x : Cycle). length x.events) c.part-item.is) in
    let le = before-le c.args.trace.now (c.loop-part.part-index + 1) in
    let all = count-items c.args.trace.now c.args.report.now c.args.items.now c.requires.answers in
    let size = same-length c.args.items.now c.loop-part.items c.loop-part.invariant.settled.same in
    omega arith

pub seat_all-bound-requires-clause-slots : goal.seat_all-bound-requires-clause-slots
seat_all-bound-requires-clause-slots c i item at placed = settled-slots c.args.trace.now c.args.report.now c.args.items.now c.loop-part.items c.loop-part.part-index c.loop-part.bound i item c.requires.answers c.loop-part.invariant.settled at placed

pub loop-part-preserved : goal.loop-part-preserved
loop-part-preserved c =
    let number = c.loop-part.invariant.cycle in
    let long : length c.take_up_to-next.new.lives ≡ c.loop-part.lives.len = c.take_up_to-next.auto.lives ∙ c.deref_mut.ensures.len in
    let same = written c.loop-part.lives.len c.take_up_to-next.new.lives c.loop-part.lives.items long in
    let e = next-first c.args.trace.now c.as_slice-part-items.result.now c.loop-part.part-index c.loop-part.first c.len.result c.part-item.result c.as_slice-part-items.ensures c.loop-part-test.true c.loop-part.invariant.first
    (c.len.ensures ∙ ap (λ (x : Cycle). length x.events) c.part-item.is) in
    record {
      cycle = omega arith;
      next = c.take_up_to-next.ensures.next;
      by = by-on c.loop-part.cycle (c.loop-part.cycle + 1) (past_of (take c.take_up_to-next.result c.args.report.now.journal)) (omega arith) c.take_up_to-next.ensures.by;
      lives = subst (λ (ls : List (Option OpenLife)). AreLives (region_of c.args.trace.now) (past_of (take c.take_up_to-next.result c.args.report.now.journal)) ls) (sym same) c.take_up_to-next.ensures.lives;
      first = e;
      settled = cycle-done c.args.trace.now c.args.report.now c.args.items.now c.loop-part.items c.seat_all-bound.new.items c.loop-part.part-index c.loop-part.cycle c.loop-part.first (c.loop-part.first + c.len.result) c.take_up_to-next.result
          c.loop-part.bound c.first_lost-bound.result c.seat_all-bound.result c.take_up_to-next.new.lives c.deref.result.now c.deref-in-loop-part.result.now c.spans_at.result.now c.requires.limited c.requires.answers number
          (c.deref.ensures.value ∙ same) (c.deref-in-loop-part.ensures.value ∙ same) c.spans_at.ensures c.loop-part.invariant.first e c.take_up_to-next.ensures.end c.take_up_to-next.ensures.lives c.loop-part.invariant.settled
          c.first_lost-bound.ensures c.seat_all-bound.ensures;
    }

pub returns-then-bound-items-clause-fault : goal.returns-then-bound-items-clause-fault
returns-then-bound-items-clause-fault c =
    let long = ap (λ (cs : List Cycle). length cs) c.as_slice-part-items.ensures in
    let ge = c.loop-part-test.false in
    let le = c.loop-part.auto.part-index-end in
    let lt = c.if-bound-items.true in
    let size = same-length c.args.items.now c.loop-part.items c.loop-part.invariant.settled.same in (
      refl,
      settled-fault c.args.trace.now c.args.report.now c.args.items.now c.loop-part.items c.loop-part.part-index c.loop-part.bound c.requires.limited c.requires.answers (omega arith) (omega arith) c.loop-part.invariant.settled (omega arith),
    )

pub returns-clause-places : goal.returns-clause-places
returns-clause-places c =
    let long = ap (λ (cs : List Cycle). length cs) c.as_slice-part-items.ensures in
    let ge = c.loop-part-test.false in
    let le = c.loop-part.auto.part-index-end in
    let off = c.if-bound-items.false in
    let size = same-length c.args.items.now c.loop-part.items c.loop-part.invariant.settled.same in
    settled-all c.args.trace.now c.args.report.now c.args.items.now c.loop-part.items c.loop-part.part-index c.loop-part.bound c.requires.limited c.requires.answers (omega arith) (omega arith) c.loop-part.invariant.settled (omega arith)
