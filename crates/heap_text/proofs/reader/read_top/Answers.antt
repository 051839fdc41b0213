use Rattle.heap_text.specs.Refusal.{IsTopLine}
use Rattle.heap_text.proofs.Reading.{not_such_top, not_top, offends_at, other_line, when_read}
use Rattle.heap_text.proofs.reader.read_top.Goals as goal
use Rattle.heap_text.proofs.reader.read_top.Goals.{in_default-via-in-Some+else-is_top, in_default-via-in_default}

pub returns-in_default-clause-refused : goal.returns-in_default-clause-refused
returns-in_default-clause-refused g c = λ _.
    let none : ¬ IsTopLine c.line.result.now = elim c.in_default.branch [
      | in_default-via-in-Some+else-is_top w ↦ not_such_top c.line.result.now w.in-Some.top.twice w.in-Some.top.sums w.in-Some.ensures w.if-is_top.ensures
      | in_default-via-in_default w ↦ not_top c.line.result.now w.in_default.ensures
    ] in
    offends_at g.S.Source.left c.args.lines.now IsTopLine _
    (other_line g.S.Source.left c.args.lines.now c.read_line.new.lines IsTopLine c.line.result.now c.number-in_default.result (when_read c.in_ok-read_line.field-0 _ _ c.if-not-branch.false c.in_ok-read_line.ensures.line)
    (when_read c.in_ok-read_line.field-0 _ _ c.if-not-branch.false c.in_ok-read_line.ensures.is_line) c.line.ensures c.number-in_default.ensures c.read_line.ensures.number none)
