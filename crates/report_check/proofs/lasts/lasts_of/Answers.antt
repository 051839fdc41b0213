use Rattle.std.proofs.Common.{◌≡◌, ℕ, ◌+◌, ◌-◌, true, List, ◌++◌, take, drop, length, sym, ◌∙◌, ap, subst, arith}
use Rattle.std.proofs.Math.Seq.{take-append_seam}
use Rattle.cycle_history.specs.Before.{marks_at}
use Rattle.cycle_history.specs.Requests.{is_within}
use Rattle.report_check.specs.Lasts.{AreLastsTo, AreSet}
use Rattle.report_check.proofs.Lasting.{lasts-next, lasts-asked, lasts-all, some-cycle}
use Rattle.report_check.proofs.lasts.lasts_of.Goals as goal

-- a slice that was written over whole
written : (n : ℕ) (new old : List ℕ) → length new ≡ n → take n (new ++ drop (length new) old) ≡ new
written n new old e = subst (λ (k : ℕ). take k (new ++ drop (length new) old) ≡ new) e (take-append_seam new (drop (length new) old))

pub loop-mark-init : goal.loop-mark-init
loop-mark-init c = record {
  some = omega arith;
  lasts = λ report items answers. lasts-asked c.args.trace.now report items c.in_ok-lasts.lasts.items c.requires.limited c.in_ok-lasts.ensures answers;
}

pub loop-mark-preserved : goal.loop-mark-preserved
loop-mark-preserved c =
    let some = c.loop-mark.invariant.some in
    let long : length c.note_marks.new.lasts ≡ c.loop-mark.lasts.len = c.note_marks.auto.lasts ∙ c.deref_mut.ensures.len in
    let same = written c.loop-mark.lasts.len c.note_marks.new.lasts c.loop-mark.lasts.items long in
    let m = c.loop-mark.mark - 1 in
    let e : m + 1 ≡ c.loop-mark.mark = omega arith in
    let f : m + 1 ≡ c.loop-mark.mark + 1 - 1 = omega arith in
    let set = subst (λ (xs : List ℕ). AreSet (λ i. is_within c.spans_at.result.now i ≡ true) c.loop-mark.mark xs c.note_marks.new.lasts) c.deref_mut.ensures.value c.note_marks.ensures in
    let set' = subst (λ (k : ℕ). AreSet (λ i. is_within c.spans_at.result.now i ≡ true) k c.loop-mark.lasts.items c.note_marks.new.lasts) (sym e) set in
    let marks = c.spans_at.ensures ∙ ap (λ (k : ℕ). marks_at c.args.trace.now k) (sym e) in
    record {
      some = omega arith;
      lasts = λ report items answers. subst (λ (xs : List ℕ). AreLastsTo c.args.trace.now items xs (c.loop-mark.mark + 1 - 1)) (sym same)
          (subst (λ (k : ℕ). AreLastsTo c.args.trace.now items c.note_marks.new.lasts k) f
          (lasts-next c.args.trace.now report items m c.spans_at.result.now c.loop-mark.lasts.items c.note_marks.new.lasts c.requires.limited answers marks set' (c.loop-mark.invariant.lasts report items answers)));
    }

pub returns : goal.returns
returns c report items answers =
    let some = c.loop-mark.invariant.some in
    let cycle = some-cycle c.args.trace.now c.requires.limited in
    let size = c.len-mark-end.ensures in
    let few = c.requires.limited.mark_ends in
    lasts-all c.args.trace.now report items c.loop-mark.lasts.items (c.loop-mark.mark - 1) c.requires.limited answers cycle (omega arith) (omega arith) (c.loop-mark.invariant.lasts report items answers)
