use Rattle.std.proofs.Common.{◌≡◌, ℕ, ◌+◌, List, sym, ◌∙◌, ap, subst, arith}
use Rattle.std.proofs.lemmas.Option.{slice_get-get_or}
use Rattle.cycle_history.specs.Objects.{is_placed}
use Rattle.report_check.specs.declared.ledger.Alive.{Alive}
use Rattle.report_check.specs.Ledgers.{AddsItems}
use Rattle.report_check.proofs.Lost.{not-placed}
use Rattle.report_check.proofs.Tallying.{adds-none, adds-placed, adds-outside, adds-other}
use Rattle.report_check.proofs.ledger.add_all.Goals.{in-Placed+in_ok-push+then-item-used, in-Placed+in_ok-push+else-item-used, in_default}
use Rattle.report_check.proofs.ledger.add_all.Goals as goal

pub loop-number-init : goal.loop-number-init
loop-number-init c = adds-none c.args.objects.now.items.now c.args.objects.now.lasts.now c.args.first c.args.alive.now.items c.args.used.now

both : (items : _) (lasts : List ℕ) (m n : ℕ) (old : List Alive) (before : List ℕ) (alive alive' : List Alive) (used used' : List ℕ) → alive' ≡ alive → used' ≡ used → AddsItems items lasts m n old alive before used → AddsItems items lasts m n old alive' before used'
both items lasts m n old before alive alive' used used' e f are = subst (λ (xs : List Alive). AddsItems items lasts m n old xs before used') (sym e) (subst (λ (us : List ℕ). AddsItems items lasts m n old alive before us) (sym f) are)

pub loop-number-preserved : goal.loop-number-preserved
loop-number-preserved c =
    let items = c.args.objects.now.items.now in
    let lasts = c.args.objects.now.lasts.now in
    let n = c.loop-number.number in
    let lt = c.loop-number-test.true in
    let room = c.requires.last in
    let at = slice_get-get_or items n _ (omega arith) in
    elim c.match-item.branch [
      | in-Placed+in_ok-push+then-item-used w ↦ both items lasts c.args.first (n + 1) c.args.alive.now.items c.args.used.now _ _ _ _ (ap (λ (v : _). v.items) w.alive-is ∙ w.in_ok-push.ensures.items) w.used-is
          (adds-placed items lasts c.args.first n _ c.args.alive.now.items c.loop-number.alive.items c.args.used.now c.loop-number.used c.loop-number.auto.number at (ap is_placed w.in-Placed.is) w.if-item-used.true c.loop-number.invariant)
      | in-Placed+in_ok-push+else-item-used w ↦ both items lasts c.args.first (n + 1) c.args.alive.now.items c.args.used.now _ _ _ _ (ap (λ (v : _). v.items) w.alive-is ∙ w.in_ok-push.ensures.items) w.used-is
          (adds-outside items lasts c.args.first n _ c.args.alive.now.items c.loop-number.alive.items c.args.used.now c.loop-number.used c.loop-number.auto.number at (ap is_placed w.in-Placed.is) w.if-item-used.false c.loop-number.invariant)
      | in_default w ↦ both items lasts c.args.first (n + 1) c.args.alive.now.items c.args.used.now _ _ _ _ (ap (λ (v : _). v.items) w.alive-is) w.used-is
          (adds-other items lasts c.args.first n _ c.args.alive.now.items c.loop-number.alive.items c.args.used.now c.loop-number.used c.loop-number.auto.number at (not-placed _ w.in_default.not-Placed) c.loop-number.invariant)
    ]

pub returns : goal.returns
returns c =
    let end = c.loop-number.auto.number-end c.requires.order in
    let e : c.loop-number.number ≡ c.args.last = (let ge = c.loop-number-test.false in omega arith) in
    subst (λ (n : ℕ). AddsItems c.args.objects.now.items.now c.args.objects.now.lasts.now c.args.first n c.args.alive.now.items c.loop-number.alive.items c.args.used.now c.loop-number.used) e c.loop-number.invariant
