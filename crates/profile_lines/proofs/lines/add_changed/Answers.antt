use Rattle.std.proofs.Common.{◌≡◌, [], ◌∷◌, ◌++◌, length, get_or, ◌∙◌, sym, subst}
use Rattle.profile_cycle.specs.declared.counts.Count.{Count}
use Rattle.profile_cycle.specs.History.{Standing}
use Rattle.profile_lines.specs.Read.{AreFew, changed_lines, count_of}
use Rattle.profile_lines.proofs.Reading.{in-at, before-at, before-next, changed-next}
use Rattle.profile_lines.proofs.lines.add_changed.Goals as goal

pub add_if_changed-requires-clause-number : goal.add_if_changed-requires-clause-number
add_if_changed-requires-clause-number c = c.requires.order.within _ (in-at c.args.order.now c.loop-place.place 0 c.loop-place-test.true)

pub add_if_changed-requires-clause-few : goal.add_if_changed-requires-clause-few
add_if_changed-requires-clause-few c = subst (λ (t : Standing). AreFew (length c.args.buckets.now) t.view.calls) (sym c.loop-place.invariant.tally) c.requires.few

pub loop-place-preserved : goal.loop-place-preserved
loop-place-preserved c =
    let buckets = c.args.buckets.now in
    let order = c.args.order.now in
    let before = c.args.before.now in
    let calls = c.args.tally.now.view.calls in
    let place = c.loop-place.place in
    let none : Count = record { allocs = 0; frees = 0 } in
    let number = get_or order place 0 in
    let is = c.loop-place.invariant in
    let was : get_or c.loop-place.before place none ≡ get_or before place none = before-at (count_of calls) order before c.loop-place.before place none c.loop-place-test.true c.requires.before is.before in
    let read : c.add_if_changed.new.lines ≡ c.loop-place.lines ++ changed_lines buckets calls c.args.mark (number ∷ []) (get_or c.loop-place.before place none ∷ []) =
    subst (λ (t : Standing). c.add_if_changed.new.lines ≡ c.loop-place.lines ++ changed_lines buckets t.view.calls c.args.mark (number ∷ []) (get_or c.loop-place.before place none ∷ []))
    is.tally c.in_ok-before.ensures.lines in
    let more : c.add_if_changed.new.lines ≡ c.loop-place.lines ++ changed_lines buckets calls c.args.mark (number ∷ []) (get_or before place none ∷ []) =
    subst (λ (u : Count). c.add_if_changed.new.lines ≡ c.loop-place.lines ++ changed_lines buckets calls c.args.mark (number ∷ []) (u ∷ [])) was read in
    let now : c.in_ok-before.field-0 ≡ count_of calls number = subst (λ (t : Standing). c.in_ok-before.field-0 ≡ count_of t.view.calls number) is.tally c.in_ok-before.ensures.count in
    record {
      tally = c.in_ok-before.ensures.tally ∙ is.tally;
      before = before-next (count_of calls) order before c.loop-place.before place none c.in_ok-before.field-0 c.loop-place-test.true c.requires.before is.before now;
      lines = changed-next buckets calls c.args.mark order before place none c.args.lines.now c.loop-place.lines c.add_if_changed.new.lines c.loop-place-test.true c.requires.before is.lines more;
    }
