use Rattle.std.proofs.Common.{◌≡◌, List, length, sym, ◌∙◌, subst, arith}
use Rattle.cycle_history.specs.Rules.{AreMissed}
use Rattle.cycle_history.specs.Sound.{past_in, HasAnswers}
use Rattle.report_check.specs.declared.items.Item.{Item}
use Rattle.report_check.specs.Items.{objects_of}
use Rattle.report_check.specs.Fault.{IsFault, IsUpTo}
use Rattle.report_check.specs.Known.{AreSettledItems}
use Rattle.report_check.proofs.Ledgers.{written}
use Rattle.report_check.proofs.Carried.{answers-on, misses-on}
use Rattle.report_check.proofs.Faults.{fault-1, fault-2, fault-3, fault-4, fault-up-to, err-from}
use Rattle.report_check.proofs.judge.settled.Goals as goal

pub returns-in_err-items_of-clause-broken : goal.returns-in_err-items_of-clause-broken
returns-in_err-items_of-clause-broken c =
    err-from c.from_residual.result c.in_err-items_of.field-0.0 (IsFault c.args.trace.now c.args.report.now) c.from_residual.ensures.1 (fault-1 c.args.trace.now c.args.report.now c.in_err-items_of.field-0.0 c.in_err-items_of.ensures.fault)

pub returns-in_err-judge_journal-clause-broken : goal.returns-in_err-judge_journal-clause-broken
returns-in_err-judge_journal-clause-broken c =
    err-from c.from_residual-in_err-judge_journal.result c.in_err-judge_journal.field-0.0 (IsFault c.args.trace.now c.args.report.now) c.from_residual-in_err-judge_journal.ensures.1
    (fault-2 c.args.trace.now c.args.report.now (objects_of c.in_ok-items_of.field-0) c.in_err-judge_journal.field-0.0 c.in_ok-items_of.ensures.answers c.in_err-judge_journal.ensures.fault)

pub returns-in_err-judge_misses-clause-broken : goal.returns-in_err-judge_misses-clause-broken
returns-in_err-judge_misses-clause-broken c =
    let same : c.deref.result.now ≡ c.in_ok-items_of.field-0 = c.deref.ensures.value ∙ c.into_vec-items.ensures in
    let answers = subst (λ (items : List Item). HasAnswers c.args.trace.now c.args.report.now (objects_of items)) (sym same) c.in_ok-items_of.ensures.answers in
    err-from c.from_residual-in_err-judge_misses.result c.in_err-judge_misses.field-0.0 (IsFault c.args.trace.now c.args.report.now) c.from_residual-in_err-judge_misses.ensures.1
    (fault-3 c.args.trace.now c.args.report.now (objects_of c.deref.result.now) c.in_err-judge_misses.field-0.0 answers c.in_ok-judge_journal.ensures.journal c.in_err-judge_misses.ensures.fault)

pub returns-in_err-judge_places-clause-broken : goal.returns-in_err-judge_places-clause-broken
returns-in_err-judge_places-clause-broken c =
    let same : c.deref_mut.result.now ≡ c.in_ok-items_of.field-0 = c.deref_mut.ensures.value ∙ c.into_vec-items.ensures in
    let read : c.deref_mut.result.now ≡ c.deref.result.now = c.deref_mut.ensures.value ∙ sym c.deref.ensures.value in
    let answers = subst (λ (items : List Item). HasAnswers c.args.trace.now c.args.report.now (objects_of items)) (sym same) c.in_ok-items_of.ensures.answers in
    let misses = subst (λ (items : List Item). AreMissed (past_in c.args.report.now) (objects_of items)) (sym read) c.in_ok-judge_misses.ensures.misses in
    err-from c.from_residual-in_err-judge_places.result c.in_err-judge_places.field-0.0 (IsFault c.args.trace.now c.args.report.now) c.from_residual-in_err-judge_places.ensures.1
    (fault-4 c.args.trace.now c.args.report.now (objects_of c.deref_mut.result.now) c.in_err-judge_places.field-0.0 answers c.in_ok-judge_journal.ensures.journal misses c.in_err-judge_places.ensures.fault)

pub returns-clause-settled : goal.returns-clause-settled
returns-clause-settled c =
    let same : c.deref_mut.result.now ≡ c.in_ok-items_of.field-0 = c.deref_mut.ensures.value ∙ c.into_vec-items.ensures in
    let read : c.deref_mut.result.now ≡ c.deref.result.now = c.deref_mut.ensures.value ∙ sym c.deref.ensures.value in
    let answers = subst (λ (items : List Item). HasAnswers c.args.trace.now c.args.report.now (objects_of items)) (sym same) c.in_ok-items_of.ensures.answers in
    let misses = subst (λ (items : List Item). AreMissed (past_in c.args.report.now) (objects_of items)) (sym read) c.in_ok-judge_misses.ensures.misses in
    let long : length c.judge_places.new.items ≡ c.into_vec-items.result.len = c.judge_places.auto.items ∙ c.deref_mut.ensures.len in
    let whole = written c.into_vec-items.result.len c.judge_places.new.items c.into_vec-items.result.items long in
    subst (λ (items : List Item). AreSettledItems c.args.trace.now c.args.report.now items) (sym whole) (record {
      answers = answers-on c.args.trace.now c.args.report.now c.deref_mut.result.now c.judge_places.new.items c.judge_places.ensures.same answers;
      journal = c.in_ok-judge_journal.ensures.journal;
      misses = misses-on (past_in c.args.report.now) c.deref_mut.result.now c.judge_places.new.items c.judge_places.ensures.same misses;
      places = c.in_ok-judge_places.ensures.places;
    })

pub returns-in_err-items_of-clause-early : goal.returns-in_err-items_of-clause-early
returns-in_err-items_of-clause-early c =
    err-from c.from_residual.result c.in_err-items_of.field-0.0 (IsUpTo 4) c.from_residual.ensures.1 (fault-up-to 4 1 _ c.in_err-items_of.field-0.0 (omega arith) c.in_err-items_of.ensures.fault)

pub returns-in_err-judge_journal-clause-early : goal.returns-in_err-judge_journal-clause-early
returns-in_err-judge_journal-clause-early c =
    err-from c.from_residual-in_err-judge_journal.result c.in_err-judge_journal.field-0.0 (IsUpTo 4) c.from_residual-in_err-judge_journal.ensures.1
    (fault-up-to 4 2 _ c.in_err-judge_journal.field-0.0 (omega arith) c.in_err-judge_journal.ensures.fault)

pub returns-in_err-judge_misses-clause-early : goal.returns-in_err-judge_misses-clause-early
returns-in_err-judge_misses-clause-early c =
    err-from c.from_residual-in_err-judge_misses.result c.in_err-judge_misses.field-0.0 (IsUpTo 4) c.from_residual-in_err-judge_misses.ensures.1
    (fault-up-to 4 3 _ c.in_err-judge_misses.field-0.0 (omega arith) c.in_err-judge_misses.ensures.fault)

pub returns-in_err-judge_places-clause-early : goal.returns-in_err-judge_places-clause-early
returns-in_err-judge_places-clause-early c =
    err-from c.from_residual-in_err-judge_places.result c.in_err-judge_places.field-0.0 (IsUpTo 4) c.from_residual-in_err-judge_places.ensures.1
    (fault-up-to 4 4 _ c.in_err-judge_places.field-0.0 (omega arith) c.in_err-judge_places.ensures.fault)
