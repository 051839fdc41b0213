use Rattle.std.proofs.Common.{◌≡◌, [], ◌∷◌, ◌++◌, length, get_or, ◌∙◌, sym, subst}
use Rattle.profile_cycle.specs.History.{Standing}
use Rattle.profile_lines.specs.Read.{AreFew, all_lines}
use Rattle.profile_lines.proofs.Reading.{in-at, all-next}
use Rattle.profile_lines.proofs.lines.add_all.Goals as goal

pub add_if_any-requires-clause-number : goal.add_if_any-requires-clause-number
add_if_any-requires-clause-number c = c.requires.order.within _ (in-at c.args.order.now c.loop-number.number-index 0 c.loop-number-test.true)

pub add_if_any-requires-clause-few : goal.add_if_any-requires-clause-few
add_if_any-requires-clause-few c = subst (λ (t : Standing). AreFew (length c.args.buckets.now) t.view.calls) (sym c.loop-number.invariant.tally) c.requires.few

pub loop-number-preserved : goal.loop-number-preserved
loop-number-preserved c =
    let one = get_or c.args.order.now c.loop-number.number-index 0 in
    let more : c.add_if_any.new.lines ≡ c.loop-number.lines ++ all_lines c.args.buckets.now c.args.tally.now.view.calls c.args.mark (one ∷ []) =
    subst (λ (t : Standing). c.add_if_any.new.lines ≡ c.loop-number.lines ++ all_lines c.args.buckets.now t.view.calls c.args.mark (one ∷ [])) c.loop-number.invariant.tally
    c.in_ok-add_if_any.ensures.lines in
    record {
      tally = c.add_if_any.ensures.tally ∙ c.loop-number.invariant.tally;
      lines = all-next c.args.buckets.now c.args.tally.now.view.calls c.args.mark c.args.order.now c.loop-number.number-index c.args.lines.now c.loop-number.lines c.add_if_any.new.lines
          c.loop-number-test.true c.loop-number.invariant.lines more;
    }
