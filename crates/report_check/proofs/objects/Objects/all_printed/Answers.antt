use Rattle.std.proofs.Common.{◌≡◌, true, false, List, get_or, sym, ◌∙◌, subst, arith}
use Rattle.std.proofs.lemmas.Option.{slice_get-get_or, get_or_from_slice_get}
use Rattle.cycle_history.specs.declared.Answer.TheVariants.{Zero}
use Rattle.cycle_history.specs.declared.Prof.{Prof}
use Rattle.report_check.specs.declared.items.Item.{Item}
use Rattle.report_check.specs.Printed.{ArePrinted}
use Rattle.report_check.specs.Sampling.{flag_at}
use Rattle.report_check.proofs.Showing.{due-lacks, due-printed}
use Rattle.report_check.proofs.objects.Objects.all_printed.Goals as goal

pub is_printed-requires-clause-printed : goal.is_printed-requires-clause-printed
is_printed-requires-clause-printed c = subst (λ (ls : List Prof). ArePrinted ls c.in_ok-printed.printed) c.profile.ensures c.in_ok-printed.ensures

pub returns-then-not-is_printed : goal.returns-then-not-is_printed
returns-then-not-is_printed c =
    let flags = c.args.sampled.now.flags.items in
    let n = c.loop-number.number in
    let size = c.requires.sampled.size in
    let lt = c.loop-number-test.true in
    let at = slice_get-get_or c.args.self.now.items.now n none lt in
    let on : flag_at flags n ≡ true = get_or_from_slice_get flags n (get_or flags n c.index.result.now) false (slice_get-get_or flags n c.index.result.now (omega arith)) ∙ (sym c.index.ensures ∙ c.if-index.true) in
    due-lacks c.args.each c.args.self.now.trace.now c.args.self.now.report.now c.args.self.now.items.now c.args.self.now.lasts.now c.args.sampled.now c.requires.known c.requires.sampled c.args.self.now.report.now.profile n
    (get_or c.args.self.now.items.now n none) at on c.if-not-is_printed.ensures
  where
    none : Item
    none = record { proc = 0; cycle = 0; class = 0; pages = 0; slot = 0; count = 0; answer = Zero; life = 0; index = 0 }

pub returns : goal.returns
returns c = due-printed c.args.each c.args.self.now.trace.now c.args.self.now.report.now c.args.self.now.items.now c.args.self.now.lasts.now c.args.sampled.now c.requires.known c.requires.sampled c.args.self.now.report.now.profile
    (λ i lt on. (let end = c.loop-number-test.false in c.loop-number.invariant i (omega arith) on))
