use Rattle.std.proofs.Common.{Err, arith, rules, refl, sym, ap, ◌∙◌, subst, length, take}
use Rattle.std.proofs.lemmas.Result.{err_from_is_err_and}
use Rattle.trace_reader.specs.Good.{AreGood}
use Rattle.trace_reader.proofs.Judging.{onto}
use Rattle.trace_reader.specs.Draft.{HasEnd, told_of}
use Rattle.std.specs.List.{AllByRecursion}
use Rattle.trace_reader.specs.declared.draft.Draft.{Draft}
use Rattle.trace_reader.proofs.Reading.{tells_memory}
use Rattle.trace_reader.proofs.Digits.{line_front}
use Rattle.trace_reader.proofs.Body.{all_ended, fault_on, fault_told, read_last, read_more, read_nothing, room_falls, stands_on}
use Rattle.trace_reader.proofs.reader.read_cycles.Goals as goal

pub loop-draft-init : goal.loop-draft-init
loop-draft-init g c = record {
  same_source = search rules;
  read = read_nothing g.S.Source.left c.args.lines.now c.args.procs c.new-draft.result c.new-draft.ensures.told c.new-draft.ensures.follows;
  faults = omega arith;
}

pub returns-in_err-read_line-clause-refused : goal.returns-in_err-read_line-clause-refused
returns-in_err-read_line-clause-refused g c = λ past start.
    let p = err_from_is_err_and c.from_residual.result c.from_residual.ensures.1 in
    rw (p.1, p.2) (fault_on g.S.Source.left c.args.lines.now c.loop-draft.lines c.read_line.new.lines c.args.procs c.loop-draft.draft past _ c.loop-draft.invariant.read start
    (c.in_err-read_line.ensures.refused (onto (told_of c.loop-draft.draft) past)))

pub returns-in_err-read_line-clause-stands : goal.returns-in_err-read_line-clause-stands
returns-in_err-read_line-clause-stands g c = stands_on g.S.Source.left c.args.lines.now c.loop-draft.lines c.read_line.new.lines c.args.procs c.loop-draft.draft c.loop-draft.invariant.read c.read_line.ensures.stands

pub returns-in_err-finish-clause-refused : goal.returns-in_err-finish-clause-refused
returns-in_err-finish-clause-refused g c = λ past start.
    let p = err_from_is_err_and c.from_residual-in_err-finish.result c.from_residual-in_err-finish.ensures.1 in
    rw (p.1, p.2) (tells_memory g.S.Source.left c.args.lines.now c.read_line.new.lines past)

pub returns-in_err-finish-clause-stands : goal.returns-in_err-finish-clause-stands
returns-in_err-finish-clause-stands g c = stands_on g.S.Source.left c.args.lines.now c.loop-draft.lines c.read_line.new.lines c.args.procs c.loop-draft.draft c.loop-draft.invariant.read c.read_line.ensures.stands

pub returns-then-branch-clause-lines : goal.returns-then-branch-clause-lines
returns-then-branch-clause-lines g c =
    let last = rw c.if-branch.true at c.in_ok-take_line.ensures.took in
    read_last g.S.Source.left c.args.lines.now c.loop-draft.lines c.read_line.new.lines c.args.procs c.loop-draft.draft (take (length c.line-end.result.now) c.line_and_ahead.result.now) _ c.loop-draft.invariant.read c.in_ok-read_line.ensures.line c.read_line.ensures.number
    (line_front _ c.line_and_ahead.result.now c.line_and_ahead.ensures.0 c.line-end.result.now c.line-end.ensures c.line_and_ahead.ensures.1) last.0 (c.in_ok-finish.ensures.told ∙ ap told_of last.1)

pub returns-then-branch-clause-ended : goal.returns-then-branch-clause-ended
returns-then-branch-clause-ended g c =
    let last = rw c.if-branch.true at c.in_ok-take_line.ensures.took in
    c.in_ok-finish.ensures.ended (subst (λ (d : Draft). AllByRecursion HasEnd d.cycles) (sym last.1) (all_ended g.S.Source.left c.args.lines.now c.loop-draft.lines c.args.procs c.loop-draft.draft c.loop-draft.invariant.read))

pub returns-then-branch-clause-good : goal.returns-then-branch-clause-good
returns-then-branch-clause-good g c = λ past start.
    let last = rw c.if-branch.true at c.in_ok-take_line.ensures.took in
    subst (AreGood past) (sym (c.in_ok-finish.ensures.told ∙ ap told_of last.1)) (c.loop-draft.invariant.read.good past start)

pub returns-then-branch-clause-stands : goal.returns-then-branch-clause-stands
returns-then-branch-clause-stands g c = stands_on g.S.Source.left c.args.lines.now c.loop-draft.lines c.read_line.new.lines c.args.procs c.loop-draft.draft c.loop-draft.invariant.read c.read_line.ensures.stands

pub loop-draft-smaller : goal.loop-draft-smaller
loop-draft-smaller g c = room_falls g.S.Source.left c.loop-draft.lines c.read_line.new.lines c.in_ok-read_line.ensures.line

pub loop-draft-preserved : goal.loop-draft-preserved
loop-draft-preserved g c = record {
  same_source = search rules;
  read = read_more g.S.Source.left c.args.lines.now c.loop-draft.lines c.read_line.new.lines c.args.procs c.loop-draft.draft c.take_line.new.self (take (length c.line-end.result.now) c.line_and_ahead.result.now) _ c.loop-draft.invariant.read
      c.in_ok-read_line.ensures.line c.in_ok-read_line.ensures.is_line c.read_line.ensures.number (line_front _ c.line_and_ahead.result.now c.line_and_ahead.ensures.0 c.line-end.result.now c.line-end.ensures c.line_and_ahead.ensures.1) refl (rw c.if-branch.false at c.in_ok-take_line.ensures.took);
  faults = search rules;
}

pub returns-in_err-take_line-clause-refused : goal.returns-in_err-take_line-clause-refused
returns-in_err-take_line-clause-refused g c = λ past start.
    let p = err_from_is_err_and c.from_residual-in_err-take_line.result c.from_residual-in_err-take_line.ensures.1 in
    rw (p.1, p.2) (fault_told g.S.Source.left c.args.lines.now c.loop-draft.lines c.read_line.new.lines c.args.procs c.loop-draft.draft (take (length c.line-end.result.now) c.line_and_ahead.result.now) c.number.result _ past _ c.loop-draft.invariant.read start
    c.in_ok-read_line.ensures.line c.in_ok-read_line.ensures.is_line c.read_line.ensures.number (line_front _ c.line_and_ahead.result.now c.line_and_ahead.ensures.0 c.line-end.result.now c.line-end.ensures c.line_and_ahead.ensures.1) refl c.number.ensures
    (λ e. c.in_err-take_line.ensures.no_read (ap Err e)) c.in_err-take_line.ensures.fault)

pub returns-in_err-take_line-clause-stands : goal.returns-in_err-take_line-clause-stands
returns-in_err-take_line-clause-stands g c = stands_on g.S.Source.left c.args.lines.now c.loop-draft.lines c.read_line.new.lines c.args.procs c.loop-draft.draft c.loop-draft.invariant.read c.read_line.ensures.stands
