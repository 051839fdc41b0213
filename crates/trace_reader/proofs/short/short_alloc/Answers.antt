use Rattle.std.proofs.Common.{refl, arith}
use Rattle.trace_reader.specs.declared.statement.AllocForm.{AllocForm}
use Rattle.trace_reader.proofs.Forms.{alloc_before}
use Rattle.trace_reader.proofs.short.short_alloc.Goals as goal

pub returns : goal.returns
returns c =
    let form : AllocForm = record { proc = c.in_ok-proc.proc; size = c.in_ok-size.size; scan = c.in_ok-scan.scan; stack = c.in_ok-stack.stack } in
    let proc = c.in_ok-proc.ensures.0 in
    let size = c.in_ok-size.ensures.0 in
    let stack = c.in_ok-stack.ensures.0 in (
      alloc_before c.args.bytes.now c.args.end _ _ _ _ _ form (c.if-not-begins_with.ensures refl).0 proc.spelled c.in_ok-at.ensures.0 size.spelled c.in_ok-scan.ensures.0 stack.spelled (omega arith),
      (omega arith, (omega arith, (omega arith, tt))),
    )
