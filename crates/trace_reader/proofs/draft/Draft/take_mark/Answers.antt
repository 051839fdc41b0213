use Rattle.std.proofs.Common.{◌≡◌, ◌≤◌, Some, arith, ap, ◌∙◌, subst}
use Rattle.std.proofs.lemmas.Result.{err_from_is_err_and}
use Rattle.trace_reader.specs.declared.fault.TraceFault.TheVariants.{BadMark}
use Rattle.trace_reader.specs.declared.statement.Statement.{Statement}
use Rattle.trace_reader.specs.Draft.{kept_of}
use Rattle.trace_reader.specs.Refusal.{statement_fault}
use Rattle.trace_reader.proofs.Keeping.{asked_of, dead_mark, falls, mark_number, no_distance, no_marks, the_distance, too_early, took_mark}
use Rattle.trace_reader.proofs.draft.Draft.take_mark.Goals as goal
use Rattle.trace_reader.proofs.draft.Draft.take_mark.Goals.{then-is_none-via-then-is_none, then-is_none-via-else-is_none+then-hi-lo, then-is_none-via-else-is_none+else-hi-lo+then-lo-from}

pub returns-then-is_none-clause-fault : goal.returns-then-is_none-clause-fault
returns-then-is_none-clause-fault c = λ of past follows. elim c.then-is_none.branch [
  | then-is_none-via-then-is_none w ↦ no_marks c.args.self.now c.args.lo c.args.hi c.args.number (no_distance c.args.self.now.distance c.is_none.result c.is_none.ensures w.if-is_none.true) past follows
  | then-is_none-via-else-is_none+then-hi-lo w ↦ falls c.args.self.now c.args.lo c.args.hi c.args.number w.if-hi-lo.true past follows
  | then-is_none-via-else-is_none+else-hi-lo+then-lo-from w ↦ too_early c.args.self.now c.args.lo c.args.hi c.args.number (omega arith) past follows
]

pub returns-in_err-span-clause-fault : goal.returns-in_err-span-clause-fault
returns-in_err-span-clause-fault c =
    let x = the_distance c.args.self.now.distance c.is_none.result c.is_none.ensures c.if-is_none.false in
    let p = err_from_is_err_and c.from_residual.result c.from_residual.ensures.1 in
    rw (p.1, p.2) (λ of past follows. mark_number c.args.self.now x.0 c.args.lo c.args.hi c.args.number _ x.1 (omega arith) (omega arith) c.in_err-span.ensures.fault past follows)

pub returns-in-Some-clause-fault : goal.returns-in-Some-clause-fault
returns-in-Some-clause-fault c = λ of past follows.
    let d = c.args.self.now in
    let s = c.in_ok-span.span in
    let x = the_distance d.distance c.is_none.result c.is_none.ensures c.if-is_none.false in
    let form = c.in_ok-span.ensures.span in
    let lo : s.lo ≡ c.args.lo = cc in
    let hi : s.hi ≡ c.args.hi = cc in
    let high = c.in_ok-span.ensures.fits.1 in
    let rising : s.lo ≤ s.hi = omega arith in
    subst (λ (t : Statement). statement_fault c.args.number past t ≡ Some (BadMark c.args.number c.in-Some.id)) form
    (dead_mark d x.0 c.args.number s c.first_dead-passed.result.0 c.in-Some.id x.1 rising (omega arith) high (omega arith)
    (asked_of c.kept_by-kept.result.now (kept_of d.cycles) d.first d.objects d.passed s.lo c.first_dead-passed.result.0 s c.first_dead-passed.result.1 (Some c.in-Some.id)
    (c.kept_by-kept.ensures ∙ ap kept_of c.as_slice.ensures) c.in-Some.is (c.first_dead-passed.ensures rising)) past follows)

pub returns-clause-took : goal.returns-clause-took
returns-clause-took c =
    let d = c.args.self.now in
    let s = c.in_ok-span.span in
    let x = the_distance d.distance c.is_none.result c.is_none.ensures c.if-is_none.false in
    let form = c.in_ok-span.ensures.span in
    let lo : s.lo ≡ c.args.lo = cc in
    let hi : s.hi ≡ c.args.hi = cc in
    let high = c.in_ok-span.ensures.fits.1 in
    let rising : s.lo ≤ s.hi = omega arith in
    rw c.in_ok-push.ensures.ok (took_mark d x.0 c.args.lo c.args.hi s c.first_dead-passed.result.0 form x.1 rising (omega arith) high (omega arith)
    (asked_of c.kept_by-kept.result.now (kept_of d.cycles) d.first d.objects d.passed s.lo c.first_dead-passed.result.0 s c.first_dead-passed.result.1 _
    (c.kept_by-kept.ensures ∙ ap kept_of c.as_slice.ensures) c.in_default.is (c.first_dead-passed.ensures rising)))
