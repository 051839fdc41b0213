use Rattle.std.proofs.Common.{◌≡◌, ℕ, ◌+◌, ◌-◌, ◌≤◌, Bool, false, List, length, get_or, Option, sym, ◌∙◌, ap, subst, arith}
use Rattle.span_state.specs.MarkSet.{MarkSet}
use Rattle.trace_reader.specs.declared.trace.Trace.{Trace}
use Rattle.cycle_history.specs.declared.Answer.{Answer}
use Rattle.cycle_history.specs.declared.marks.Objects.{Objects}
use Rattle.cycle_history.specs.declared.places.Place.{Place}
use Rattle.cycle_history.specs.Requests.{last_cycle}
use Rattle.cycle_history.specs.Found.{AreFound}
use Rattle.cycle_history.specs.Marked.{AreMarksBelow, AreMarksOf, LieApart}
use Rattle.cycle_history.specs.Before.{IsLimited, objects_before}
use Rattle.cycle_history.specs.MarkedLoops.{AreOf}
use Rattle.cycle_history.proofs.Settled.{below-all, below-unsampled}
use Rattle.cycle_history.proofs.marks.marks_of.Goals as goal

-- the objects are those of these lists
are-of : (o : Objects) (answers : List Answer) (sampled : List Bool) (buckets : List ℕ) (places : List (Option Place)) → IsLimited o.trace.now → 1 ≤ o.mark → o.mark ≤ last_cycle o.trace.now
    → o.answers.now ≡ answers → o.sampled.now ≡ sampled → o.buckets.now ≡ buckets → o.places.now ≡ places
    → length answers ≡ objects_before o.trace.now o.mark → length sampled ≡ objects_before o.trace.now o.mark → length buckets ≡ objects_before o.trace.now o.mark
    → length places ≡ objects_before o.trace.now (o.mark - 1 + 1) → AreFound o.trace.now answers places → LieApart o.trace.now o.mark answers → AreOf o
are-of o answers sampled buckets places limited first last ea es eb ep la ls lb lp found apart = record {
  limited = limited;
  first = first;
  last = last;
  all_answers = ap (λ (xs : List Answer). length xs) ea ∙ la;
  all_sampled = ap (λ (xs : List Bool). length xs) es ∙ ls;
  all_buckets = ap (λ (xs : List ℕ). length xs) eb ∙ lb;
  all_places = (let next : o.mark - 1 + 1 ≡ o.mark = omega arith in ap (λ (xs : List (Option Place)). length xs) ep ∙ lp ∙ ap (λ (m : ℕ). objects_before o.trace.now m) next);
  found = subst (λ (xs : List Answer). AreFound o.trace.now xs o.places.now) (sym ea) (subst (λ (xs : List (Option Place)). AreFound o.trace.now answers xs) (sym ep) found);
  apart = subst (λ (xs : List Answer). LieApart o.trace.now o.mark xs) (sym ea) apart;
}

-- equal lists have the same marks
copied : (t : Trace) (m : ℕ) (a b : List Answer) (s u : List Bool) (x y : List ℕ) (marks : MarkSet) → b ≡ a → u ≡ s → y ≡ x
    → AreMarksBelow t m b u y (length b) (length b) marks → AreMarksOf t m a s x marks
copied t m a b s u x y marks ea es ex below = below-all t m a s x marks (rw (← ea, ← es, ← ex) below)

pub mark_all-requires-clause-given : goal.mark_all-requires-clause-given
mark_all-requires-clause-given c =
    are-of (record { trace = c.args.trace; mark = c.args.mark; answers = c.as_slice-3.result; sampled = c.as_slice-4.result; buckets = c.as_slice-5.result; places = c.as_slice-6.result })
    c.args.answers.now c.args.sampled.now c.args.buckets.now c.find_places.new.places c.requires.limited c.requires.first c.requires.last
    c.as_slice-3.ensures c.as_slice-4.ensures c.as_slice-5.ensures c.as_slice-6.ensures c.requires.answers c.requires.sampled c.requires.buckets
    c.in_ok-find_places.ensures.kept
    (subst (λ (xs : List Answer). AreFound c.args.trace.now xs c.find_places.new.places) c.as_slice-2.ensures c.in_ok-find_places.ensures.found) c.requires.apart

pub bury_all-requires-clause-given : goal.bury_all-requires-clause-given
bury_all-requires-clause-given c =
    are-of (record { trace = c.args.trace; mark = c.args.mark; answers = c.as_slice-3.result; sampled = c.as_slice-4.result; buckets = c.as_slice-5.result; places = c.as_slice-6.result })
    c.args.answers.now c.args.sampled.now c.args.buckets.now c.find_places.new.places c.requires.limited c.requires.first c.requires.last
    c.as_slice-3.ensures c.as_slice-4.ensures c.as_slice-5.ensures c.as_slice-6.ensures c.requires.answers c.requires.sampled c.requires.buckets
    c.in_ok-find_places.ensures.kept
    (subst (λ (xs : List Answer). AreFound c.args.trace.now xs c.find_places.new.places) c.as_slice-2.ensures c.in_ok-find_places.ensures.found) c.requires.apart

pub returns-in_ok-bury_all-clause-marks : goal.returns-in_ok-bury_all-clause-marks
returns-in_ok-bury_all-clause-marks c =
    copied c.args.trace.now c.args.mark c.args.answers.now c.as_slice-3.result.now c.args.sampled.now c.as_slice-4.result.now c.args.buckets.now c.as_slice-5.result.now c.bury_all.new.marks
    c.as_slice-3.ensures c.as_slice-4.ensures c.as_slice-5.ensures c.in_ok-bury_all.ensures

pub returns-else-clear-len-clause-marks : goal.returns-else-clear-len-clause-marks
returns-else-clear-len-clause-marks c =
    copied c.args.trace.now c.args.mark c.args.answers.now c.as_slice-3.result.now c.args.sampled.now c.as_slice-4.result.now c.args.buckets.now c.as_slice-5.result.now c.mark_all.new.marks
    c.as_slice-3.ensures c.as_slice-4.ensures c.as_slice-5.ensures
    (below-unsampled c.args.trace.now c.args.mark c.as_slice-3.result.now c.as_slice-4.result.now c.as_slice-5.result.now (length c.as_slice-3.result.now) 0 (length c.as_slice-3.result.now) c.mark_all.new.marks (omega arith)
    (λ i from low. (
    let past = c.if-clear-len.false in
    let l = c.len.ensures in
    let a = c.requires.answers in
    let s = c.requires.sampled in
    let e = ap (λ (xs : List Answer). length xs) c.as_slice-3.ensures in
    subst (λ (xs : List Bool). get_or xs i false ≡ false) (c.as_slice-7.ensures ∙ sym c.as_slice-4.ensures) (c.clear_end.ensures.clear.unset i (omega arith))))
    c.in_ok-mark_all.ensures)
