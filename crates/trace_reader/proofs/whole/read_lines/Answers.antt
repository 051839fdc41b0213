use Rattle.std.proofs.Common.{[], ap, inl, sym, ◌∙◌}
use Rattle.std.proofs.lemmas.List.{append-nil}
use Rattle.std.proofs.lemmas.Result.{err_from_is_err_and}
use Rattle.edge_io.specs.Text.{text}
use Rattle.trace_reader.specs.declared.trace.Trace.{Trace}
use Rattle.trace_reader.specs.Spelling.{lines_of}
use Rattle.trace_reader.proofs.Behind.{refused_behind}
use Rattle.trace_reader.proofs.Broken.{broken_behind, broken_in_trace}
use Rattle.trace_reader.proofs.Left.{nothing_left}
use Rattle.trace_reader.proofs.Ended.{source_ended, Consumes-none}
use Rattle.trace_reader.proofs.whole.read_lines.Goals as goal

pub returns-clause-trace : goal.returns-clause-trace
returns-clause-trace g c =
    let read = c.in_ok-trace.ensures.spelled in
    let end = c.in_ok-expect_end.ensures.ended in
    let wet = c.in_ok-trace.ensures.lines.bytes.wet c.requires.fresh in
    let all = source_ended _ _ _ read.0 (Consumes-none _ _ _ read.0 read.1 end.nothing) (end.at_end wet) in
    (read.0, all.0, all.1, rw c.requires.room at read.2)

pub returns-in_err-trace-clause-refused : goal.returns-in_err-trace-clause-refused
returns-in_err-trace-clause-refused g c =
    let p = err_from_is_err_and c.from_residual.result c.from_residual.ensures.1 in
    λ left same. rw (p.1, p.2) (λ of bytes e. inl (λ behind. rw (c.requires.number, c.requires.room) at (c.in_err-trace.ensures.refused.first of c.requires.fresh behind bytes (same ∙ e))))

pub returns-in_err-expect_end-clause-refused : goal.returns-in_err-expect_end-clause-refused
returns-in_err-expect_end-clause-refused g c =
    let p = err_from_is_err_and c.from_residual-in_err-expect_end.result c.from_residual-in_err-expect_end.ensures.1 in
    let read = c.in_ok-trace.ensures.spelled in
    let number = rw c.requires.number at c.in_ok-trace.ensures.lines.number in
    λ left same. rw (p.1, p.2) (λ of. refused_behind left _ read.0 c.in_ok-trace.trace _ _ (rw same at read.1) (rw c.requires.room at read.2) number (c.in_err-expect_end.ensures.refused of))

pub returns-in_err-trace-clause-complete : goal.returns-in_err-trace-clause-complete
returns-in_err-trace-clause-complete g c = λ bytes t told spells.
    let p = err_from_is_err_and c.from_residual.result c.from_residual.ensures.1 in
    rw (p.1, p.2) (c.in_err-trace.ensures.complete t (record { wet = c.requires.fresh; bytes = bytes; rest = []; known = rw append-nil told; spelled = rw c.requires.room spells }))

pub returns-in_err-expect_end-clause-complete : goal.returns-in_err-expect_end-clause-complete
returns-in_err-expect_end-clause-complete g c = λ bytes t told spells.
    let p = err_from_is_err_and c.from_residual-in_err-expect_end.result c.from_residual-in_err-expect_end.ensures.1 in
    let read = c.in_ok-trace.ensures.spelled in
    let same = c.in_ok-trace.ensures.complete t (record { wet = c.requires.fresh; bytes = bytes; rest = []; known = rw append-nil told; spelled = rw c.requires.room spells }) in
    let all = read.2.lines ∙ ap (λ (x : Trace). text (lines_of x)) same ∙ sym spells.lines in
    rw (p.1, p.2) (λ of. nothing_left _ _ bytes read.0 _ _ told read.1 all (c.in_err-expect_end.ensures.refused of))

pub returns-in_err-trace-clause-broken_off : goal.returns-in_err-trace-clause-broken_off
returns-in_err-trace-clause-broken_off g c =
    let p = err_from_is_err_and c.from_residual.result c.from_residual.ensures.1 in
    rw (p.1, p.2) (λ e. broken_in_trace _ _ _ _ c.requires.number c.requires.room (c.in_err-trace.ensures.refused.read_fault cc))

pub returns-in_err-expect_end-clause-broken_off : goal.returns-in_err-expect_end-clause-broken_off
returns-in_err-expect_end-clause-broken_off g c =
    let p = err_from_is_err_and c.from_residual-in_err-expect_end.result c.from_residual-in_err-expect_end.ensures.1 in
    let read = c.in_ok-trace.ensures.spelled in
    rw (p.1, p.2) (λ e. broken_behind _ _ _ _ read.0 c.in_ok-trace.trace c.requires.room read.1 (rw c.requires.room at read.2) c.in_ok-trace.ensures.lines (c.in_err-expect_end.ensures.read_fault cc))
