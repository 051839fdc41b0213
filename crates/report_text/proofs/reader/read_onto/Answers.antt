use Rattle.std.proofs.Common.{◌≡◌, [], ◌∷◌, ◌++◌, None, Some, arith, rules, subst, sym, ap, ◌∙◌}
use Rattle.std.proofs.lemmas.Result.{err_from_is_err_and}
use Rattle.report_text.specs.declared.item.Item.TheVariants.{End}
use Rattle.report_text.specs.Items.{MayFollow}
use Rattle.report_text.specs.Read.{TakesItem}
use Rattle.report_text.proofs.Reading.{broken_on, is_open, not_last, read_more, read_nothing, read_one, reads_all, refuses_on, room_falls, stands_on}
use Rattle.report_text.proofs.Stage.{Stage, stage_more, stage_start, empty_body}
use Rattle.report_text.proofs.Turns.{body, in_turn_more, last_of_more}
use Rattle.report_text.proofs.reader.read_onto.Goals as goal
use Rattle.report_text.proofs.reader.read_onto.Goals.{in-End, in_default}

pub loop-report-init : goal.loop-report-init
loop-report-init g c = record {
  same_source = search rules;
  read = read_nothing g.S.Source.left c.args.lines.now (body c.args.report) (empty_body c.args.report c.requires);
  stage = stage_start c.args.report c.requires;
  faults = omega arith;
}

pub next_item-requires : goal.next_item-requires
next_item-requires g c = is_open c.loop-report.before c.loop-report.invariant.stage.open_

pub returns-in_err-item-clause-refused : goal.returns-in_err-item-clause-refused
returns-in_err-item-clause-refused g c =
    let stage = c.loop-report.invariant.stage in
    let p = err_from_is_err_and c.from_residual.result c.from_residual.ensures.1 in
    rw (p.1, p.2) (λ of. refuses_on g.S.Source.left c.args.lines.now c.loop-report.lines (body c.loop-report.report) c.loop-report.before _ c.loop-report.invariant.read stage.in_turn stage.last (c.in_err-item.ensures.refused of))

pub returns-in_err-item-clause-stands : goal.returns-in_err-item-clause-stands
returns-in_err-item-clause-stands g c = stands_on g.S.Source.left c.args.lines.now c.loop-report.lines c.next_item.new.lines (body c.loop-report.report) c.loop-report.invariant.read c.next_item.ensures.stands

pub returns-in_err-expect_end-clause-refused : goal.returns-in_err-expect_end-clause-refused
returns-in_err-expect_end-clause-refused g c =
    let stage = c.loop-report.invariant.stage in
    let told = c.in_ok-item.ensures.told in
    let r = c.loop-report.report in
    let x = c.in_ok-item.item in
    let end : x ≡ End = elim c.match-matches.branch [ in-End w ↦ w.in-End.is | in_default w ↦ absurd cc ] in
    let follows = subst (λ b. MayFollow b x) (sym stage.last) told.follows in
    let p = err_from_is_err_and c.from_residual-in_err-expect_end.result c.from_residual-in_err-expect_end.ensures.1 in
    rw (p.1, p.2) (λ of. refuses_on g.S.Source.left c.args.lines.now c.next_item.new.lines (body r ++ x ∷ []) (Some End) _
    (read_one g.S.Source.left c.args.lines.now c.loop-report.lines c.next_item.new.lines (body r) c.loop-report.before x c.loop-report.invariant.read told)
    (in_turn_more None (body r) x stage.in_turn told.fits follows) (last_of_more None (body r) x ∙ ap Some end) (c.in_err-expect_end.ensures.refused of))

pub returns-in_err-expect_end-clause-stands : goal.returns-in_err-expect_end-clause-stands
returns-in_err-expect_end-clause-stands g c =
    stands_on g.S.Source.left c.args.lines.now c.next_item.new.lines c.expect_end.new.lines (body c.loop-report.report ++ c.in_ok-item.item ∷ [])
    (read_one g.S.Source.left c.args.lines.now c.loop-report.lines c.next_item.new.lines (body c.loop-report.report) c.loop-report.before c.in_ok-item.item c.loop-report.invariant.read c.in_ok-item.ensures.told) c.expect_end.ensures.stands

pub returns-then-matches-clause-read : goal.returns-then-matches-clause-read
returns-then-matches-clause-read g c =
    let end : c.in_ok-item.item ≡ End = elim c.match-matches.branch [ in-End w ↦ w.in-End.is | in_default w ↦ absurd cc ] in
    reads_all g.S.Source.left c.args.lines.now c.loop-report.lines c.next_item.new.lines c.expect_end.new.lines c.loop-report.before c.loop-report.report c.loop-report.invariant.read c.loop-report.invariant.stage
    (subst (λ x. TakesItem g.S.Source.left c.loop-report.lines c.next_item.new.lines c.loop-report.before x) end c.in_ok-item.ensures.told) c.in_ok-expect_end.ensures.ended

pub returns-then-matches-clause-stands : goal.returns-then-matches-clause-stands
returns-then-matches-clause-stands g c =
    stands_on g.S.Source.left c.args.lines.now c.next_item.new.lines c.expect_end.new.lines (body c.loop-report.report ++ c.in_ok-item.item ∷ [])
    (read_one g.S.Source.left c.args.lines.now c.loop-report.lines c.next_item.new.lines (body c.loop-report.report) c.loop-report.before c.in_ok-item.item c.loop-report.invariant.read c.in_ok-item.ensures.told) c.expect_end.ensures.stands

pub returns-in_err-put-clause-stands : goal.returns-in_err-put-clause-stands
returns-in_err-put-clause-stands g c = stands_on g.S.Source.left c.args.lines.now c.loop-report.lines c.next_item.new.lines (body c.loop-report.report) c.loop-report.invariant.read c.next_item.ensures.stands

pub loop-report-smaller : goal.loop-report-smaller
loop-report-smaller g c = room_falls g.S.Source.left c.loop-report.lines c.next_item.new.lines c.loop-report.before c.in_ok-item.item c.in_ok-item.ensures.told

pub loop-report-preserved : goal.loop-report-preserved
loop-report-preserved g c =
    let stage = c.loop-report.invariant.stage in
    let told = c.in_ok-item.ensures.told in
    let x = c.in_ok-item.item in
    let other : x ≡ End → ⊥ = elim c.match-matches.branch [ in-End w ↦ absurd cc | in_default w ↦ w.in_default.not-End ] in
    record {
      same_source = search rules;
      read = read_more g.S.Source.left c.args.lines.now c.loop-report.lines c.next_item.new.lines c.loop-report.before c.loop-report.report c.put.new.report x c.loop-report.invariant.read told stage c.in_ok-put.ensures (not_last x other);
      stage = subst (Stage (Some x)) (sym c.in_ok-put.ensures) (stage_more c.loop-report.before c.loop-report.report x stage told.fits told.follows (not_last x other));
      faults = search rules;
    }

pub returns-in_err-item-clause-at_line : goal.returns-in_err-item-clause-at_line
returns-in_err-item-clause-at_line g c = let p = err_from_is_err_and c.from_residual.result c.from_residual.ensures.1 in rw (p.1, p.2) c.in_err-item.ensures.at_line

pub returns-in_err-item-clause-broken_off : goal.returns-in_err-item-clause-broken_off
returns-in_err-item-clause-broken_off g c =
    let p = err_from_is_err_and c.from_residual.result c.from_residual.ensures.1 in
    rw (p.1, p.2) (λ e. broken_on g.S.Source.left c.args.lines.now c.loop-report.lines c.next_item.new.lines (body c.loop-report.report) c.loop-report.invariant.read c.loop-report.invariant.stage.in_turn (c.in_err-item.ensures.broken_off cc) c.next_item.ensures.number)

pub returns-in_err-expect_end-clause-at_line : goal.returns-in_err-expect_end-clause-at_line
returns-in_err-expect_end-clause-at_line g c =
    let p = err_from_is_err_and c.from_residual-in_err-expect_end.result c.from_residual-in_err-expect_end.ensures.1 in rw (p.1, p.2) c.in_err-expect_end.ensures.at_line

pub returns-in_err-expect_end-clause-broken_off : goal.returns-in_err-expect_end-clause-broken_off
returns-in_err-expect_end-clause-broken_off g c =
    let stage = c.loop-report.invariant.stage in
    let told = c.in_ok-item.ensures.told in
    let r = c.loop-report.report in
    let x = c.in_ok-item.item in
    let follows = subst (λ b. MayFollow b x) (sym stage.last) told.follows in
    let p = err_from_is_err_and c.from_residual-in_err-expect_end.result c.from_residual-in_err-expect_end.ensures.1 in
    rw (p.1, p.2) (λ e. broken_on g.S.Source.left c.args.lines.now c.next_item.new.lines c.expect_end.new.lines (body r ++ x ∷ [])
    (read_one g.S.Source.left c.args.lines.now c.loop-report.lines c.next_item.new.lines (body r) c.loop-report.before x c.loop-report.invariant.read told)
    (in_turn_more None (body r) x stage.in_turn told.fits follows) (c.in_err-expect_end.ensures.broken_off cc) c.expect_end.ensures.number)
