use Rattle.std.proofs.Common.{[], ◌∷◌, ◌∙◌}
use Rattle.std.proofs.lemmas.Result.{on_ok_weaker, on_err_weaker}
use Rattle.trace_reader.specs.Spelling.{heap_of, line_for, title_line}
use Rattle.edge_io.proofs.Put.{front_nothing}
use Rattle.trace_writer.proofs.Put.{line_front, line_then, one_line}
use Rattle.trace_writer.proofs.print.put_head.Goals as goal

pub returns-clause-ok : goal.returns-clause-ok
returns-clause-ok g c = on_ok_weaker c.put-2.result (λ sends.
    line_then _ _ _ _ _ _ c.as_slice.result.now (title_line c.args.header.version) (line_for (heap_of c.args.header) ∷ []) (c.as_slice.ensures.text ∙ c.push_title_line.ensures) c.in_ok-put.ensures.ok
    (one_line (λ l. l) _ _ _ _ c.as_slice-2.result.now (line_for (heap_of c.args.header)) (c.as_slice-2.ensures.text ∙ c.push_heap_line.ensures) sends)) c.put-2.ensures.ok

pub returns-clause-err : goal.returns-clause-err
returns-clause-err g c = on_err_weaker c.put-2.result (λ sends.
    line_front _ _ _ _ _ _ c.as_slice.result.now (title_line c.args.header.version) (line_for (heap_of c.args.header) ∷ []) (c.as_slice.ensures.text ∙ c.push_title_line.ensures) c.in_ok-put.ensures.ok (front_nothing _ _ _ _ _ sends)) c.put-2.ensures.err
