use Rattle.std.proofs.Common.{◌+◌, refl, sym, ◌∙◌, ap, subst, arith}
use Rattle.std.proofs.lemmas.Option.{slice_get-get_or}
use Rattle.report_check.specs.declared.tops.Tops.{Tops}
use Rattle.report_check.specs.Tops.{lives_of}
use Rattle.report_check.specs.Known.{AreTops}
use Rattle.report_check.specs.Pieces.{seen_by}
use Rattle.report_check.proofs.Clearing.{tops-more, tops-other, clear-more, clear-other, clear-breaks, clear-all, placed-inside}
use Rattle.report_check.proofs.SeenPieces.{at-own, at-seen, known-seen, not-seen, report_of, seen-long}
use Rattle.report_check.proofs.objects.Objects.judge_apart.Goals.{then-sees+else-at-item+in_ok-raise, else-sees}
use Rattle.report_check.proofs.objects.Objects.judge_apart.Goals as goal

pub returns-then-at-item-clause-fault : goal.returns-then-at-item-clause-fault
returns-then-at-item-clause-fault c =
    let t = c.args.self.now.trace.now in
    let items = c.args.self.now.items.now in
    let seen = seen_by c.args.piece items in
    let lasts = c.args.self.now.lasts.now in
    let n = c.loop-number.number in
    let is = c.if-sees.ensures in
    let at = at-own c.args.piece items n _ (slice_get-get_or items n _ c.loop-number-test.true) is in
    let known = known-seen c.args.piece t c.args.self.now.report.now items lasts c.requires.known in
    let above = c.if-at-item.true in
    (refl, clear-breaks t (report_of c.args.self.now.report.now seen) seen lasts n _ c.loop-number.tops known at is.0 c.loop-number.invariant.tops (omega arith) c.loop-number.invariant.clear)

pub raise-requires : goal.raise-requires
raise-requires c =
    let items = c.args.self.now.items.now in
    let n = c.loop-number.number in
    let at = slice_get-get_or items n _ c.loop-number-test.true in
    let inside = placed-inside c.args.self.now.trace.now c.args.self.now.report.now items c.args.self.now.lasts.now n _ c.requires.known at c.if-sees.ensures.0 in
    let lives = c.loop-number.invariant.lives in
    omega arith

pub loop-number-preserved : goal.loop-number-preserved
loop-number-preserved c =
    let piece = c.args.piece in
    let items = c.args.self.now.items.now in
    let seen = seen_by piece items in
    let lasts = c.args.self.now.lasts.now in
    let n = c.loop-number.number in
    let at = slice_get-get_or items n _ c.loop-number-test.true in
    elim c.if-sees.branch [
      | then-sees+else-at-item+in_ok-raise w ↦ (
          let is = w.if-sees.ensures in
          let own = at-own piece items n _ at is in
          let below = w.if-at-item.false in
          let raised = w.in_ok-raise.ensures in
          record {
            lives = ap lives_of w.tops-is ∙ raised.lives ∙ c.loop-number.invariant.lives;
            tops = subst (λ (x : Tops). AreTops seen lasts (n + 1) x) (sym w.tops-is) (tops-more seen lasts n _ c.loop-number.tops w.raise.new.self own is.0 raised c.loop-number.invariant.tops);
            clear = clear-more seen lasts n _ c.loop-number.tops own c.loop-number.invariant.tops (omega arith) c.loop-number.invariant.clear;
          })
      | else-sees w ↦ (
          let other = at-seen piece items n _ at in
          let off = not-seen piece _ w.if-sees.ensures in
          record {
            lives = ap lives_of w.tops-is ∙ c.loop-number.invariant.lives;
            tops = subst (λ (x : Tops). AreTops seen lasts (n + 1) x) (sym w.tops-is) (tops-other seen lasts n _ c.loop-number.tops other off c.loop-number.invariant.tops);
            clear = clear-other seen lasts n _ other off c.loop-number.invariant.clear;
          })
    ]

pub returns-clause-apart : goal.returns-clause-apart
returns-clause-apart c =
    let t = c.args.self.now.trace.now in
    let items = c.args.self.now.items.now in
    let seen = seen_by c.args.piece items in
    let lasts = c.args.self.now.lasts.now in
    let known = known-seen c.args.piece t c.args.self.now.report.now items lasts c.requires.known in
    let long = seen-long c.args.piece items in
    let end = c.loop-number-test.false in
    clear-all t (report_of c.args.self.now.report.now seen) seen lasts c.loop-number.number known (omega arith) c.loop-number.invariant.clear
