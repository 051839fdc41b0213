use Rattle.report_text.specs.declared.item.Item.{Item}
use Rattle.report_text.specs.Items.{MayFollow, Says}
use Rattle.report_text.proofs.Reading.{not_in_turn, other_line}
use Rattle.report_text.proofs.reader.next_item.Goals as goal
use Rattle.report_text.proofs.reader.next_item.Goals.{in_default-via-in-Some+else-may_follow, in_default-via-in_default}

pub returns-in_default-clause-refused : goal.returns-in_default-clause-refused
returns-in_default-clause-refused g c = λ _.
    let none : (x : Item) → Says c.line.result.now x → ¬ MayFollow c.args.before x = elim c.in_default.branch [
      | in_default-via-in-Some+else-may_follow w ↦ not_in_turn c.args.before c.line.result.now w.in-Some.item w.in-Some.ensures w.if-may_follow.ensures
      | in_default-via-in_default w ↦ (λ x says. absurd (w.in_default.ensures x says))
    ] in
    other_line g.S.Source.left c.args.lines.now c.read_line.new.lines c.args.before c.line.result.now c.number.result c.in_ok-read_line.ensures.line c.in_ok-read_line.ensures.is_line c.line.ensures c.number.ensures c.read_line.ensures.number c.requires none
