use Rattle.heap_text.specs.Past.{Allows}
use Rattle.heap_text.specs.Refusal.{IsLineThat}
use Rattle.heap_text.proofs.Reading.{not_line, not_such_line, other_line, when_read}
use Rattle.heap_text.proofs.reader.next_line.Goals as goal
use Rattle.heap_text.proofs.reader.next_line.Goals.{in_default-via-in-Some+else-allows, in_default-via-in_default}

pub returns-in_default-clause-refused : goal.returns-in_default-clause-refused
returns-in_default-clause-refused g c = λ _.
    let past = c.args.past.now in
    let none : ¬ IsLineThat (Allows past) c.line.result.now = elim c.in_default.branch [
      | in_default-via-in-Some+else-allows w ↦ not_such_line past c.line.result.now w.in-Some.line w.in-Some.ensures w.if-allows.ensures
      | in_default-via-in_default w ↦ not_line past c.line.result.now w.in_default.ensures
    ] in
    other_line g.S.Source.left c.args.lines.now c.read_line.new.lines (IsLineThat (Allows past)) c.line.result.now c.number.result (when_read c.in_ok-read_line.field-0 _ _ c.if-not-branch.false c.in_ok-read_line.ensures.line) (when_read c.in_ok-read_line.field-0 _ _ c.if-not-branch.false c.in_ok-read_line.ensures.is_line) c.line.ensures c.number.ensures
    c.read_line.ensures.number none
