use Rattle.std.proofs.Common.{ℕ, ◌+◌, ◌*◌, List, get_or, length, sym, ◌∙◌, ap, subst, arith}
use Rattle.std.proofs.lemmas.Option.{slice_get-get_or}
use Rattle.page_bitmap.specs.declared.line.Line.{Line}
use Rattle.cycle_history.specs.declared.Answer.TheVariants.{Zero}
use Rattle.report_check.specs.declared.filling.Filling.{Filling}
use Rattle.report_check.specs.declared.items.Item.{Item}
use Rattle.report_check.specs.Filling.{HasFillingRoom}
use Rattle.report_check.specs.Pieces.{seen_by}
use Rattle.report_check.proofs.Clearing.{clear-all, clear-more, clear-none, clear-other, placed-inside, placed-index, placed-place}
use Rattle.report_check.proofs.Filled.{AreFilledTo, filled-all, filled-more, filled-none, filled-other, room-more}
use Rattle.report_check.proofs.SeenPieces.{at-own, at-seen, known-seen, not-seen, report_of, seen-long}
use Rattle.check_parallel.proofs.Housed.{seen-home}
use Rattle.check_parallel.proofs.pieces.all_fit.Goals.{then-from-piece+then-sees+in_ok-takes+else-not-branch, then-from-piece+else-sees, else-from-piece}
use Rattle.check_parallel.proofs.pieces.all_fit.Goals as goal

pub loop-number-init : goal.loop-number-init
loop-number-init c = record {
  room = subst (λ (k : ℕ). HasFillingRoom c.in_ok-filling.filling k (c.args.trace.now.header.procs * 136)) (ap (λ (ls : List Line). length ls) c.journal.ensures) c.in_ok-filling.ensures.room;
  filled = filled-none (seen_by c.args.piece c.args.items.now) c.args.lasts.now c.in_ok-filling.filling c.in_ok-filling.ensures.empty;
  clear = clear-none (seen_by c.args.piece c.args.items.now) c.args.lasts.now;
}

pub takes-requires-clause-life : goal.takes-requires-clause-life
takes-requires-clause-life c =
    let at = slice_get-get_or c.args.items.now c.loop-number.number _ c.loop-number-test.true in
    let inside = placed-inside c.args.trace.now c.args.report.now c.args.items.now c.args.lasts.now c.loop-number.number _ c.requires.known at c.if-sees.ensures.0 in
    let room = c.loop-number.invariant.room.fills in
    omega arith

pub takes-requires-clause-row : goal.takes-requires-clause-row
takes-requires-clause-row c =
    let at = slice_get-get_or c.args.items.now c.loop-number.number _ c.loop-number-test.true in
    let inside = placed-inside c.args.trace.now c.args.report.now c.args.items.now c.args.lasts.now c.loop-number.number _ c.requires.known at c.if-sees.ensures.0 in
    let room = c.loop-number.invariant.room.tops in
    omega arith

pub takes-requires-clause-place : goal.takes-requires-clause-place
takes-requires-clause-place c =
    let at = slice_get-get_or c.args.items.now c.loop-number.number _ c.loop-number-test.true in
    let inside = placed-place c.args.trace.now c.args.report.now c.args.items.now c.args.lasts.now c.loop-number.number _ c.requires.known at c.if-sees.ensures.0 in
    let room = c.loop-number.invariant.room.newest in
    omega arith

pub takes-requires-clause-last : goal.takes-requires-clause-last
takes-requires-clause-last c =
    let last = c.requires.known.until.few c.loop-number.number in
    let few = c.requires.known.limited.mark_ends in
    omega arith

pub takes-requires-clause-index : goal.takes-requires-clause-index
takes-requires-clause-index c =
    let at = slice_get-get_or c.args.items.now c.loop-number.number _ c.loop-number-test.true in
    let inside = placed-index c.args.trace.now c.args.report.now c.args.items.now c.args.lasts.now c.loop-number.number _ c.requires.known at c.if-sees.ensures.0 in
    omega arith

pub loop-number-preserved : goal.loop-number-preserved
loop-number-preserved c =
    let piece = c.args.piece in
    let t = c.args.trace.now in
    let report = c.args.report.now in
    let items = c.args.items.now in
    let seen = seen_by piece items in
    let lasts = c.args.lasts.now in
    let n = c.loop-number.number in
    let at = slice_get-get_or items n _ c.loop-number-test.true in
    let places = t.header.procs * 136 in
    let lives = length report.journal in
    let tops = c.loop-number.invariant.filled.tops in
    elim c.if-from-piece.branch [
      | then-from-piece+then-sees+in_ok-takes+else-not-branch w ↦ (
          let is = w.if-sees.ensures in
          let own = at-own piece items n _ at is in
          let known = known-seen piece t report items lasts c.requires.known in
          let inside = placed-place t report items lasts n _ c.requires.known at is.0 in
          let fit = w.if-not-branch.false in
          let taken = w.in_ok-takes.ensures.taken fit in
          record {
            room = subst (λ (x : Filling). HasFillingRoom x lives places) (sym w.filling-is) (room-more c.loop-number.filling w.takes.new.filling _ _ lives places taken c.loop-number.invariant.room);
            filled = subst (λ (x : Filling). AreFilledTo seen lasts (n + 1) x) (sym w.filling-is)
                (filled-more t (report_of report seen) seen lasts n places _ c.loop-number.filling w.takes.new.filling known own is.0 c.loop-number.invariant.room inside
                (w.in_ok-takes.ensures.fitting fit) taken c.loop-number.invariant.filled);
            clear = clear-more seen lasts n _ c.loop-number.filling.tops own tops (w.in_ok-takes.ensures.clear fit) c.loop-number.invariant.clear;
          })
      | then-from-piece+else-sees w ↦ (
          let other = at-seen piece items n _ at in
          let off = not-seen piece _ w.if-sees.ensures in
          record {
            room = subst (λ (x : Filling). HasFillingRoom x lives places) (sym w.filling-is) c.loop-number.invariant.room;
            filled = subst (λ (x : Filling). AreFilledTo seen lasts (n + 1) x) (sym w.filling-is) (filled-other seen lasts n _ c.loop-number.filling other off c.loop-number.invariant.filled);
            clear = clear-other seen lasts n _ other off c.loop-number.invariant.clear;
          })
      | else-from-piece w ↦ (
          let at' = slice_get-get_or items n nothing c.loop-number-test.true in
          let other = at-seen piece items n (get_or items n nothing) at' in
          let off = not-seen piece (get_or items n nothing) (λ see. w.if-from-piece.false (c.from.ensures ∙ seen-home piece items c.args.homes.now n (get_or items n nothing) c.requires.homes at' see)) in
          record {
            room = subst (λ (x : Filling). HasFillingRoom x lives places) (sym w.filling-is) c.loop-number.invariant.room;
            filled = subst (λ (x : Filling). AreFilledTo seen lasts (n + 1) x) (sym w.filling-is) (filled-other seen lasts n _ c.loop-number.filling other off c.loop-number.invariant.filled);
            clear = clear-other seen lasts n _ other off c.loop-number.invariant.clear;
          })
    ]
  where
    nothing : Item
    nothing = record { proc = 0; cycle = 0; class = 0; pages = 0; slot = 0; count = 0; answer = Zero; life = 0; index = 0 }

pub returns : goal.returns
returns c e =
    let t = c.args.trace.now in
    let items = c.args.items.now in
    let seen = seen_by c.args.piece items in
    let lasts = c.args.lasts.now in
    let known = known-seen c.args.piece t c.args.report.now items lasts c.requires.known in
    let long = seen-long c.args.piece items in
    let end = c.loop-number-test.false in (
      clear-all t (report_of c.args.report.now seen) seen lasts c.loop-number.number known (omega arith) c.loop-number.invariant.clear,
      filled-all t (report_of c.args.report.now seen) seen lasts c.loop-number.number known (omega arith) c.loop-number.invariant.filled.placed,
    )
