use Rattle.std.proofs.Common.{List, inl, inr}
use Rattle.trace_reader.specs.declared.trace.Trace.{Trace}
use Rattle.cycle_history.specs.declared.Report.{Report}
use Rattle.report_check.specs.declared.fault.CheckFault.{CheckFault}
use Rattle.report_check.specs.declared.items.Item.{Item}
use Rattle.report_check.specs.Fault.{IsFault, MeetsChecked}
use Rattle.report_check.specs.Items.{objects_of}
use Rattle.report_check.proofs.Faults.{fault-3, fault-5, fault-6, fault-7, fault-8, fault-9, meets-9}
use Rattle.report_check.proofs.Sounding.{rules-handed-on, rules-judged}
use Rattle.check_parallel.specs.Parts.{FaultOfCounted, FaultOfInside, FaultOfMisses, FaultOfSweeps, MeetsCounted, MeetsInside, MeetsMisses, MeetsSweeps, FailsInTurn}
use Rattle.check_parallel.specs.Seating.{AreSeatedItems}
use Rattle.check_parallel.proofs.Answering.{err-map, if-err, ok-map, when-ok}
use Rattle.check_parallel.proofs.judge.judge_settled.Goals as goal

-- all nine rules
all-met : (t : Trace) (report : Report) (items : List Item) → AreSeatedItems t report items → MeetsMisses report items → MeetsInside t items → MeetsSweeps t report items × MeetsCounted t report items → MeetsChecked t report
all-met t report items s misses inside closing =
    (objects_of items, meets-9 t report (objects_of items) s.answers s.journal misses s.places inside.0 inside.1 closing.0 closing.1.0 closing.1.1)

-- a fault of the rules 3, 5 and 6
early-fault : (t : Trace) (report : Report) (items : List Item) (fault : CheckFault) → AreSeatedItems t report items → FailsInTurn (FaultOfMisses report items) (MeetsMisses report items) (FaultOfInside t items) fault → IsFault t report fault
early-fault t report items fault s is = elim is [
  | inl misses ↦ fault-3 t report (objects_of items) fault s.answers s.journal misses
  | inr rest ↦ elim rest.1 [
    | inl apart ↦ fault-5 t report (objects_of items) fault s.answers s.journal rest.0 s.places apart
    | inr last ↦ fault-6 t report (objects_of items) fault s.answers s.journal rest.0 s.places last.0 last.1
  ]
]

-- a fault of the rules 7 to 9
closing-fault : (t : Trace) (report : Report) (items : List Item) (fault : CheckFault) → AreSeatedItems t report items → MeetsMisses report items → MeetsInside t items
    → FailsInTurn (FaultOfSweeps t report items) (MeetsSweeps t report items) (FaultOfCounted t report items) fault → IsFault t report fault
closing-fault t report items fault s misses inside is = elim is [
  | inl sweeps ↦ fault-7 t report (objects_of items) fault s.answers s.journal misses s.places inside.0 inside.1 sweeps
  | inr rest ↦ elim rest.1 [
    | inl totals ↦ fault-8 t report (objects_of items) fault s.answers s.journal misses s.places inside.0 inside.1 rest.0 totals
    | inr last ↦ fault-9 t report (objects_of items) fault s.answers s.journal misses s.places inside.0 inside.1 rest.0 last.0 last.1
  ]
]

pub returns-in_err-early : goal.returns-in_err-early
returns-in_err-early g c =
    rules-handed-on c.args.trace.now c.args.report.now c.from_residual.result c.in_err-early.field-0.0 c.from_residual.ensures.1
    (early-fault c.args.trace.now c.args.report.now c.args.items.now c.in_err-early.field-0.0 c.requires.settled
    (if-err c.judge_beside-early.result.0 c.in_err-early.field-0.0 _ c.in_err-early.was c.judge_beside-early.ensures.early.1))

pub returns : goal.returns
returns g c =
    let t = c.args.trace.now in
    let report = c.args.report.now in
    let items = c.args.items.now in
    let s = c.requires.settled in
    let met = when-ok c.judge_beside-early.result.0 _ _ c.in_ok-early.was c.judge_beside-early.ensures.early.0 in
    rules-judged t report c.judge_beside-early.result.1
    (ok-map c.judge_beside-early.result.1 _ _ (λ closing. all-met t report items s met.0 met.1 closing) c.judge_beside-early.ensures.closing.0)
    (err-map c.judge_beside-early.result.1 _ _ (λ (fault : CheckFault) is. closing-fault t report items fault s met.0 met.1 is) c.judge_beside-early.ensures.closing.1)
