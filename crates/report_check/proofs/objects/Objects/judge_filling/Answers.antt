use Rattle.std.proofs.Common.{ℕ, ◌+◌, ◌*◌, List, length, refl, sym, ap, subst, arith}
use Rattle.std.proofs.lemmas.Option.{slice_get-get_or}
use Rattle.page_bitmap.specs.declared.line.Line.{Line}
use Rattle.report_check.specs.declared.filling.Filling.{Filling}
use Rattle.report_check.specs.Filling.{HasFillingRoom}
use Rattle.report_check.specs.Pieces.{seen_by}
use Rattle.report_check.proofs.Clearing.{placed-inside, placed-index, placed-place}
use Rattle.report_check.proofs.Filled.{AreFilledTo, room-more, filled-none, filled-more, filled-other, filled-fault, filled-all}
use Rattle.report_check.proofs.SeenPieces.{at-own, at-seen, known-seen, not-seen, report_of, seen-long}
use Rattle.report_check.proofs.objects.Objects.judge_filling.Goals.{then-sees+else-not-fits+in_ok-take_up, else-sees}
use Rattle.report_check.proofs.objects.Objects.judge_filling.Goals as goal

pub loop-number-init : goal.loop-number-init
loop-number-init c = record {
  room = subst (λ (k : ℕ). HasFillingRoom c.in_ok-filling.filling k (c.args.self.now.trace.now.header.procs * 136)) (ap (λ (ls : List Line). length ls) c.journal.ensures) c.in_ok-filling.ensures.room;
  filled = filled-none (seen_by c.args.piece c.args.self.now.items.now) c.args.self.now.lasts.now c.in_ok-filling.filling c.in_ok-filling.ensures.empty;
}

pub fits-requires-clause-life : goal.fits-requires-clause-life
fits-requires-clause-life c =
    let at = slice_get-get_or c.args.self.now.items.now c.loop-number.number _ c.loop-number-test.true in
    let inside = placed-inside c.args.self.now.trace.now c.args.self.now.report.now c.args.self.now.items.now c.args.self.now.lasts.now c.loop-number.number _ c.requires.known at c.if-sees.ensures.0 in
    let room = c.loop-number.invariant.room.fills in
    omega arith

pub fits-requires-clause-place : goal.fits-requires-clause-place
fits-requires-clause-place c =
    let at = slice_get-get_or c.args.self.now.items.now c.loop-number.number _ c.loop-number-test.true in
    let inside = placed-place c.args.self.now.trace.now c.args.self.now.report.now c.args.self.now.items.now c.args.self.now.lasts.now c.loop-number.number _ c.requires.known at c.if-sees.ensures.0 in
    let room = c.loop-number.invariant.room.newest in
    omega arith

pub returns-then-not-fits-clause-fault : goal.returns-then-not-fits-clause-fault
returns-then-not-fits-clause-fault c =
    let t = c.args.self.now.trace.now in
    let items = c.args.self.now.items.now in
    let seen = seen_by c.args.piece items in
    let lasts = c.args.self.now.lasts.now in
    let n = c.loop-number.number in
    let is = c.if-sees.ensures in
    let at = at-own c.args.piece items n _ (slice_get-get_or items n _ c.loop-number-test.true) is in
    let known = known-seen c.args.piece t c.args.self.now.report.now items lasts c.requires.known in
    let f = c.loop-number.invariant.filled in
    let wrong = c.if-not-fits.ensures in
    (refl, filled-fault t (report_of c.args.self.now.report.now seen) seen lasts n _ c.loop-number.filling known at (is.0, wrong.0) f.tops f.fills f.newest f.placed wrong.1)

pub take_up-requires-clause-life : goal.take_up-requires-clause-life
take_up-requires-clause-life c =
    let at = slice_get-get_or c.args.self.now.items.now c.loop-number.number _ c.loop-number-test.true in
    let inside = placed-inside c.args.self.now.trace.now c.args.self.now.report.now c.args.self.now.items.now c.args.self.now.lasts.now c.loop-number.number _ c.requires.known at c.if-sees.ensures.0 in
    let room = c.loop-number.invariant.room.fills in
    omega arith

pub take_up-requires-clause-row : goal.take_up-requires-clause-row
take_up-requires-clause-row c =
    let at = slice_get-get_or c.args.self.now.items.now c.loop-number.number _ c.loop-number-test.true in
    let inside = placed-inside c.args.self.now.trace.now c.args.self.now.report.now c.args.self.now.items.now c.args.self.now.lasts.now c.loop-number.number _ c.requires.known at c.if-sees.ensures.0 in
    let room = c.loop-number.invariant.room.tops in
    omega arith

pub take_up-requires-clause-place : goal.take_up-requires-clause-place
take_up-requires-clause-place c =
    let at = slice_get-get_or c.args.self.now.items.now c.loop-number.number _ c.loop-number-test.true in
    let inside = placed-place c.args.self.now.trace.now c.args.self.now.report.now c.args.self.now.items.now c.args.self.now.lasts.now c.loop-number.number _ c.requires.known at c.if-sees.ensures.0 in
    let room = c.loop-number.invariant.room.newest in
    omega arith

pub take_up-requires-clause-last : goal.take_up-requires-clause-last
take_up-requires-clause-last c =
    let last = c.requires.known.until.few c.loop-number.number in
    let few = c.requires.known.limited.mark_ends in
    omega arith

pub take_up-requires-clause-index : goal.take_up-requires-clause-index
take_up-requires-clause-index c =
    let at = slice_get-get_or c.args.self.now.items.now c.loop-number.number _ c.loop-number-test.true in
    let inside = placed-index c.args.self.now.trace.now c.args.self.now.report.now c.args.self.now.items.now c.args.self.now.lasts.now c.loop-number.number _ c.requires.known at c.if-sees.ensures.0 in
    omega arith

pub loop-number-preserved : goal.loop-number-preserved
loop-number-preserved c =
    let piece = c.args.piece in
    let t = c.args.self.now.trace.now in
    let report = c.args.self.now.report.now in
    let items = c.args.self.now.items.now in
    let seen = seen_by piece items in
    let lasts = c.args.self.now.lasts.now in
    let n = c.loop-number.number in
    let at = slice_get-get_or items n _ c.loop-number-test.true in
    let places = t.header.procs * 136 in
    let lives = length report.journal in
    elim c.if-sees.branch [
      | then-sees+else-not-fits+in_ok-take_up w ↦ (
          let is = w.if-sees.ensures in
          let own = at-own piece items n _ at is in
          let known = known-seen piece t report items lasts c.requires.known in
          let inside = placed-place t report items lasts n _ c.requires.known at is.0 in
          record {
            room = subst (λ (x : Filling). HasFillingRoom x lives places) (sym w.filling-is) (room-more c.loop-number.filling w.take_up.new.self _ _ lives places w.in_ok-take_up.ensures c.loop-number.invariant.room);
            filled = subst (λ (x : Filling). AreFilledTo seen lasts (n + 1) x) (sym w.filling-is)
                (filled-more t (report_of report seen) seen lasts n places _ c.loop-number.filling w.take_up.new.self known own is.0 c.loop-number.invariant.room inside
                w.if-not-fits.ensures w.in_ok-take_up.ensures c.loop-number.invariant.filled);
          })
      | else-sees w ↦ (
          let other = at-seen piece items n _ at in
          let off = not-seen piece _ w.if-sees.ensures in
          record {
            room = subst (λ (x : Filling). HasFillingRoom x lives places) (sym w.filling-is) c.loop-number.invariant.room;
            filled = subst (λ (x : Filling). AreFilledTo seen lasts (n + 1) x) (sym w.filling-is) (filled-other seen lasts n _ c.loop-number.filling other off c.loop-number.invariant.filled);
          })
    ]

pub returns-clause-filling : goal.returns-clause-filling
returns-clause-filling c =
    let t = c.args.self.now.trace.now in
    let items = c.args.self.now.items.now in
    let seen = seen_by c.args.piece items in
    let lasts = c.args.self.now.lasts.now in
    let known = known-seen c.args.piece t c.args.self.now.report.now items lasts c.requires.known in
    let long = seen-long c.args.piece items in
    let end = c.loop-number-test.false in
    filled-all t (report_of c.args.self.now.report.now seen) seen lasts c.loop-number.number known (omega arith) c.loop-number.invariant.filled.placed
