use Rattle.std.proofs.Common.{arith, refl, inl, inr}
use Rattle.report_check.specs.Items.{object_of}
use Rattle.report_check.proofs.Openings.{no-seat, a-seat}
use Rattle.report_check.proofs.lives.seat_at.Goals.{then-not-fits-via-then-not-fits, then-not-fits-via-else-not-fits+then-inside-item-ne0, then-not-fits-via-else-not-fits+else-inside-item-ne0+then-index-from}
use Rattle.report_check.proofs.lives.seat_at.Goals as goal

pub returns-then-not-fits : goal.returns-then-not-fits
returns-then-not-fits c =
    no-seat c.args.lives.now (object_of 0 c.args.item.now) c.args.page c.args.offset c.in-Some.life c.in-Some.is c.requires.slot c.requires.address (elim c.then-not-fits.branch [
      | then-not-fits-via-then-not-fits w ↦ inl w.if-not-fits.ensures
      | then-not-fits-via-else-not-fits+then-inside-item-ne0 w ↦ inr (inl w.if-inside-item-ne0.true)
      | then-not-fits-via-else-not-fits+else-inside-item-ne0+then-index-from w ↦ inr (inr (let e = w.from.ensures in let ge = w.if-index-from.true in omega arith))
    ])

pub returns-else-index-from : goal.returns-else-index-from
returns-else-index-from c =
    let is = c.if-not-fits.ensures in
    let e = c.from.ensures in
    let lt = c.if-index-from.false in
    a-seat c.args.lives.now (object_of 0 c.args.item.now) c.args.page c.args.offset c.in-Some.life _ c.requires.pages c.in-Some.is c.requires.slot c.requires.address c.requires.page is.0 is.1 c.if-inside-item-ne0.false
    (omega arith) refl refl
