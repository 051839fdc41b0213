use Rattle.std.proofs.Common.{map, ◌∙◌}
use Rattle.std.proofs.lemmas.Result.{on_ok_weaker, on_err_weaker}
use Rattle.trace_reader.specs.Spelling.{gc_line, line_for, mark_of}
use Rattle.trace_writer.proofs.Put.{line_front, line_then}
use Rattle.trace_writer.proofs.print.put_mark_end.Goals as goal

pub returns-clause-ok : goal.returns-clause-ok
returns-clause-ok g c = on_ok_weaker c.put_marks.result (λ puts.
    line_then _ _ _ _ _ _ c.as_slice.result.now (gc_line c.args.end.now.distance) (map line_for (map mark_of c.args.end.now.marks)) (c.as_slice.ensures.text ∙ c.push_gc_line.ensures) c.in_ok-put.ensures.ok puts)
    (rw c.as_slice-2.ensures at c.put_marks.ensures.ok)

pub returns-clause-err : goal.returns-clause-err
returns-clause-err g c = on_err_weaker c.put_marks.result (λ front.
    line_front _ _ _ _ _ _ c.as_slice.result.now (gc_line c.args.end.now.distance) (map line_for (map mark_of c.args.end.now.marks)) (c.as_slice.ensures.text ∙ c.push_gc_line.ensures) c.in_ok-put.ensures.ok front)
    (rw c.as_slice-2.ensures at c.put_marks.ensures.err)
