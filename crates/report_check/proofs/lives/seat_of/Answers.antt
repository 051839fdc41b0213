use Rattle.std.proofs.Common.{◌+◌, Option, sym, ◌∙◌, subst, arith}
use Rattle.report_check.specs.declared.lives.Seat.{Seat}
use Rattle.report_check.specs.Items.{object_of}
use Rattle.report_check.specs.Lives.{IsSeatAt, NoSeatAt}
use Rattle.report_check.proofs.Seeking.{IsSought, sought-two, sought-new, sought-miss, sought-all, sits-between, match-none}
use Rattle.report_check.proofs.lives.seat_of.Goals.{in-Some+else-is_some, in_default}
use Rattle.report_check.proofs.lives.seat_of.Goals as goal

pub returns-then-is_some : goal.returns-then-is_some
returns-then-is_some c =
    sought-two c.args.lives.now (object_of 0 c.args.item.now) c.first_page-first.result c.loop-page.page c.loop-page.found c.in-Some.seat (sym c.is_some.ensures ∙ c.if-is_some.true) c.in-Some.ensures c.loop-page.invariant.sought

pub loop-page-preserved : goal.loop-page-preserved
loop-page-preserved c =
    let low = c.loop-page.invariant.low in
    record {
      low = omega arith;
      sought = elim c.match-seat_at.branch [
        | in-Some+else-is_some w ↦ subst (λ (found : Option Seat). IsSought c.args.lives.now (object_of 0 c.args.item.now) c.first_page-first.result (c.loop-page.page + 1) found) (sym w.found-is)
            (sought-new c.args.lives.now (object_of 0 c.args.item.now) c.first_page-first.result c.loop-page.page c.loop-page.found w.in-Some.seat (sym w.is_some.ensures ∙ w.if-is_some.false) low w.in-Some.ensures c.loop-page.invariant.sought)
        | in_default w ↦ subst (λ (found : Option Seat). IsSought c.args.lives.now (object_of 0 c.args.item.now) c.first_page-first.result (c.loop-page.page + 1) found) (sym w.found-is)
            (sought-miss c.args.lives.now (object_of 0 c.args.item.now) c.first_page-first.result c.loop-page.page c.loop-page.found
            (match-none (NoSeatAt c.args.lives.now (object_of 0 c.args.item.now) c.loop-page.page) (IsSeatAt c.args.lives.now (object_of 0 c.args.item.now) c.loop-page.page) c.seat_at.result c.seat_at.ensures w.in_default.not-Some)
            c.loop-page.invariant.sought)
      ];
    }

pub returns : goal.returns
returns c =
    sought-all c.args.lives.now (object_of 0 c.args.item.now) c.first_page-first.result c.loop-page.page c.loop-page.found
    (sits-between (object_of 0 c.args.item.now) c.args.address c.first_page-first.result c.loop-page.page c.requires.address c.if-address-lt-REGION_START.false c.loop-page-test.false c.first_page-first.ensures.low)
    c.loop-page.invariant.sought
