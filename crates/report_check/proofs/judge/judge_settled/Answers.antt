use Rattle.report_check.specs.Items.{objects_of}
use Rattle.report_check.specs.Fault.{IsFault, IsFaultOf}
use Rattle.report_check.specs.declared.fault.CheckFault.{CheckFault}
use Rattle.report_check.specs.Published.{BreaksProfile}
use Rattle.std.specs.Prelude.{OnOk}
use Rattle.std.proofs.Common.{List, Result, Ok, Err, subst}
use Rattle.trace_reader.specs.declared.trace.Trace.{Trace}
use Rattle.cycle_history.specs.Requests.{marked_by}
use Rattle.cycle_history.specs.Rules.{AreApart, AreFilled}
use Rattle.report_check.specs.Placing.{BreaksApart, BreaksFilling}
use Rattle.report_check.specs.declared.items.Item.{Item}
use Rattle.report_check.specs.Pieces.{seen_by}
use Rattle.report_check.proofs.SeenPieces.{seen-whole}
use Rattle.report_check.proofs.Faults.{fault-5, fault-6, fault-7, fault-8, fault-9, meets-9, err-map}
use Rattle.report_check.proofs.Sounding.{rules-handed-on, rules-judged}
use Rattle.report_check.proofs.judge.judge_settled.Goals as goal

ok-map : {T : Type 0} {P Q : Type 0} (r : Result T CheckFault) → (P → Q) → OnOk r P → OnOk r Q
ok-map (Ok x) to h = to h
ok-map (Err e) to h = tt

-- what holds of the whole's objects holds of all
all-apart : (t : Trace) (items : List Item) → AreApart (marked_by t) (objects_of (seen_by (record { number = 0; count = 1 }) items)) → AreApart (marked_by t) (objects_of items)
all-apart t items is = subst (λ (xs : List Item). AreApart (marked_by t) (objects_of xs)) (seen-whole items) is

all-filled : (t : Trace) (items : List Item) → AreFilled (marked_by t) (objects_of (seen_by (record { number = 0; count = 1 }) items)) → AreFilled (marked_by t) (objects_of items)
all-filled t items is = subst (λ (xs : List Item). AreFilled (marked_by t) (objects_of xs)) (seen-whole items) is

pub returns-in_err-judge_apart : goal.returns-in_err-judge_apart
returns-in_err-judge_apart c =
    let s = c.requires.settled in
    rules-handed-on c.args.trace.now c.args.report.now c.from_residual-in_err-judge_apart.result c.in_err-judge_apart.field-0.0 c.from_residual-in_err-judge_apart.ensures.1
    (fault-5 c.args.trace.now c.args.report.now (objects_of c.args.items.now) c.in_err-judge_apart.field-0.0 s.answers s.journal s.misses s.places
    (subst (λ (xs : List Item). IsFaultOf 5 (BreaksApart (marked_by c.args.trace.now) (objects_of xs)) c.in_err-judge_apart.field-0.0) (seen-whole c.args.items.now) c.in_err-judge_apart.ensures.fault))

pub returns-in_err-judge_filling : goal.returns-in_err-judge_filling
returns-in_err-judge_filling c =
    let s = c.requires.settled in
    rules-handed-on c.args.trace.now c.args.report.now c.from_residual-in_err-judge_filling.result c.in_err-judge_filling.field-0.0 c.from_residual-in_err-judge_filling.ensures.1
    (fault-6 c.args.trace.now c.args.report.now (objects_of c.args.items.now) c.in_err-judge_filling.field-0.0 s.answers s.journal s.misses s.places (all-apart c.args.trace.now c.args.items.now c.in_ok-judge_apart.ensures.apart) (subst (λ (xs : List Item). IsFaultOf 6 (BreaksFilling (marked_by c.args.trace.now) (objects_of xs)) c.in_err-judge_filling.field-0.0) (seen-whole c.args.items.now) c.in_err-judge_filling.ensures.fault))

pub returns-in_err-judge_sweeps : goal.returns-in_err-judge_sweeps
returns-in_err-judge_sweeps c =
    let s = c.requires.settled in
    rules-handed-on c.args.trace.now c.args.report.now c.from_residual-in_err-judge_sweeps.result c.in_err-judge_sweeps.field-0.0 c.from_residual-in_err-judge_sweeps.ensures.1
    (fault-7 c.args.trace.now c.args.report.now (objects_of c.args.items.now) c.in_err-judge_sweeps.field-0.0 s.answers s.journal s.misses s.places (all-apart c.args.trace.now c.args.items.now c.in_ok-judge_apart.ensures.apart) (all-filled c.args.trace.now c.args.items.now c.in_ok-judge_filling.ensures.filling) c.in_err-judge_sweeps.ensures.fault)

pub returns-in_err-judge_totals : goal.returns-in_err-judge_totals
returns-in_err-judge_totals c =
    let s = c.requires.settled in
    rules-handed-on c.args.trace.now c.args.report.now c.from_residual-in_err-judge_totals.result c.in_err-judge_totals.field-0.0 c.from_residual-in_err-judge_totals.ensures.1
    (fault-8 c.args.trace.now c.args.report.now (objects_of c.args.items.now) c.in_err-judge_totals.field-0.0 s.answers s.journal s.misses s.places (all-apart c.args.trace.now c.args.items.now c.in_ok-judge_apart.ensures.apart) (all-filled c.args.trace.now c.args.items.now c.in_ok-judge_filling.ensures.filling) c.in_ok-judge_sweeps.ensures.sweeps
    (c.in_err-judge_totals.ensures.fault (objects_of c.args.items.now) s.answers))

pub returns : goal.returns
returns c =
    let s = c.requires.settled in
    let apart = all-apart c.args.trace.now c.args.items.now c.in_ok-judge_apart.ensures.apart in
    let filling = all-filled c.args.trace.now c.args.items.now c.in_ok-judge_filling.ensures.filling in
    let totals = c.in_ok-judge_totals.ensures.totals (objects_of c.args.items.now) s.answers in
    rules-judged c.args.trace.now c.args.report.now c.judge_profile.result
    (ok-map c.judge_profile.result (λ has. (
      objects_of c.args.items.now,
      meets-9 c.args.trace.now c.args.report.now (objects_of c.args.items.now) s.answers s.journal s.misses s.places apart filling c.in_ok-judge_sweeps.ensures.sweeps totals has,
    )) c.judge_profile.ensures.profile)
    (err-map c.judge_profile.result (IsFaultOf 9 (BreaksProfile c.args.trace.now c.args.report.now (objects_of c.args.items.now))) (IsFault c.args.trace.now c.args.report.now)
    (λ (fault : CheckFault) is.
    fault-9 c.args.trace.now c.args.report.now (objects_of c.args.items.now) fault s.answers s.journal s.misses s.places apart filling c.in_ok-judge_sweeps.ensures.sweeps totals is)
    c.judge_profile.ensures.fault)
