use Rattle.std.proofs.Common.{refl, sym, ◌∙◌, arith}
use Rattle.std.proofs.lemmas.Option.{slice_get-get_or, get_or_from_slice_get}
use Rattle.cycle_history.specs.Requests.{last_cycle}
use Rattle.report_check.proofs.Righting.{on-true}
use Rattle.report_check.proofs.Showing.{item-shown}
use Rattle.report_check.proofs.objects.Objects.is_printed.Goals as goal

pub returns : goal.returns
returns c =
    let lines = c.args.self.now.report.now.profile in
    let at = slice_get-get_or c.args.self.now.items.now c.args.number _ c.requires.inside in
    let one = on-true _ _ _ c.if-not-is_shown.false (c.is_shown.ensures lines c.requires.printed) in
    let two = on-true _ _ _ c.if-not-is_shown-2.false (c.is_shown-2.ensures lines c.requires.printed) in
    item-shown c.args.each (last_cycle c.args.self.now.trace.now) _ c.args.number _ _ c.args.self.now.items.now c.args.self.now.lasts.now c.args.sampled.now.stacks.items lines _ c.is_shown-3.result at c.if-not-each.false c.last_mark-last.ensures.last
    (c.index-stack.ensures ∙ sym (get_or_from_slice_get c.args.sampled.now.stacks.items c.args.number _ 0 (slice_get-get_or c.args.sampled.now.stacks.items c.args.number c.index-stack.result.now (let few = c.requires.sampled.few in let lt = c.requires.inside in omega arith)))) refl one two (c.is_shown-3.ensures lines c.requires.printed)
