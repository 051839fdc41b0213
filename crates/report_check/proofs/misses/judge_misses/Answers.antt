use Rattle.std.proofs.Common.{◌≡◌, Bool, true, false, List, Vec, Global, length, set, replicate, refl, ◌∙◌, ap, arith}
use Rattle.std.proofs.lemmas.Option.{slice_get_within}
use Rattle.std.proofs.lemmas.List.{length-set, length-replicate}
use Rattle.report_check.proofs.Missed.{seen-at, loop-wrong, loop-again, loop-more, loop-other, loop-all, named-none}
use Rattle.report_check.proofs.misses.judge_misses.Goals.{then-not-names_miss-via-then-not-names_miss, then-not-names_miss-via-else-not-names_miss+then-index, in-Missed+else-not-names_miss+else-index, in_default}
use Rattle.report_check.proofs.misses.judge_misses.Goals as goal

pub returns-then-not-names_miss-clause-fault : goal.returns-then-not-names_miss-clause-fault
returns-then-not-names_miss-clause-fault c =
    let number = c.loop-item.invariant.number in
    let size = c.loop-item.invariant.size in
    elim c.then-not-names_miss.branch [
      | then-not-names_miss-via-then-not-names_miss w ↦ (
        refl,
        rw number (loop-wrong c.args.report.now.journal c.journal-journal.result.now c.args.items.now c.loop-item.item-index c.in-Missed.line _ c.loop-item.named.items
            c.journal-journal.ensures c.loop-item.invariant.named c.loop-item-test.true c.in-Missed.is w.if-not-names_miss.ensures),
      )
      | then-not-names_miss-via-else-not-names_miss+then-index w ↦ (
          let miss = w.if-not-names_miss.ensures in
          let within = slice_get_within c.journal-journal.result.now c.in-Missed.line _ w.if-not-names_miss.ensures in (
            refl,
            rw number (loop-again c.args.report.now.journal c.journal-journal.result.now c.args.items.now c.loop-item.item-index c.in-Missed.line _ c.loop-item.named.items
                c.journal-journal.ensures c.loop-item.invariant.named c.loop-item-test.true c.in-Missed.is (omega arith) (seen-at c.loop-item.named.items c.in-Missed.line w.index.result.now true w.index.ensures w.if-index.true)),
          ))
    ]

pub note-requires : goal.note-requires
note-requires c =
    let size = c.loop-item.invariant.size in
    let within = slice_get_within c.journal-journal.result.now c.in-Missed.line _ c.if-not-names_miss.ensures in
    omega arith

pub loop-item-init : goal.loop-item-init
loop-item-init c =
    let made : c.in_ok-named.named.items ≡ replicate (length c.journal-journal.result.now) false = c.in_ok-named.ensures in
    record {
      number = refl;
      size = ap (λ (xs : List Bool). length xs) made ∙ length-replicate (length c.journal-journal.result.now) false;
      named = rw made (named-none c.journal-journal.result.now c.args.items.now (length c.journal-journal.result.now));
    }

pub loop-item-preserved : goal.loop-item-preserved
loop-item-preserved c =
    let number = c.loop-item.invariant.number in
    let size = c.loop-item.invariant.size in
    elim c.match-item.branch [
      | in-Missed+else-not-names_miss+else-index w ↦ (
          let within = slice_get_within c.journal-journal.result.now w.in-Missed.line _ w.if-not-names_miss.ensures in
          let e : c.match-item.named.items ≡ set c.loop-item.named.items w.in-Missed.line true = ap (λ (v : Vec Bool Global). v.items) w.named-is ∙ w.note.ensures in
          let long : length c.match-item.named.items ≡ length c.loop-item.named.items = ap (λ (xs : List Bool). length xs) e ∙ length-set c.loop-item.named.items w.in-Missed.line true in
          record {
            number = omega arith;
            size = long ∙ size;
            named = loop-more c.journal-journal.result.now c.args.items.now c.loop-item.item-index w.in-Missed.line _ c.loop-item.named.items c.match-item.named.items
                c.loop-item.invariant.named c.loop-item-test.true w.in-Missed.is w.if-not-names_miss.ensures (omega arith) (seen-at c.loop-item.named.items w.in-Missed.line w.index.result.now false w.index.ensures w.if-index.false) e;
          })
      | in_default w ↦ (
          let e : c.match-item.named.items ≡ c.loop-item.named.items = ap (λ (v : Vec Bool Global). v.items) w.named-is in
          record {
            number = omega arith;
            size = ap (λ (xs : List Bool). length xs) e ∙ size;
            named = loop-other c.journal-journal.result.now c.args.items.now c.loop-item.item-index _ c.loop-item.named.items c.match-item.named.items
                c.loop-item.invariant.named c.loop-item-test.true w.in_default.not-Missed e;
          })
    ]

pub returns-clause-misses : goal.returns-clause-misses
returns-clause-misses c = loop-all c.args.report.now.journal c.journal-journal.result.now c.args.items.now c.loop-item.item-index c.loop-item.named.items c.journal-journal.ensures c.loop-item.invariant.named (omega arith)
