use Rattle.std.proofs.Common.{◌≡◌, ℕ, ◌/◌, ◌%◌, ◌∙◌, ap, arith}
use Rattle.std.proofs.Math.Nat.{mul-div_cancel_left, mul-mod_right}
use Rattle.cycle_history.proofs.places.slot_at.Goals.{else-index-count-via-then-index-count+else-behind-slot-eq0, else-index-count-via-else-index-count}
use Rattle.cycle_history.proofs.places.slot_at.Goals as goal

pub returns-else-index-count-clause-none : goal.returns-else-index-count-clause-none
returns-else-index-count-clause-none c = λ none k lt is. (
    let index : c.args.behind / c.args.slot ≡ k = ap (λ (n : ℕ). n / c.args.slot) is ∙ mul-div_cancel_left k c.requires.slot in
    let rest : c.args.behind % c.args.slot ≡ 0 = ap (λ (n : ℕ). n % c.args.slot) is ∙ mul-mod_right c.args.slot k in
    elim c.else-index-count.branch [
      | else-index-count-via-then-index-count+else-behind-slot-eq0 w ↦ (let some = w.if-behind-slot-eq0.false in absurd (omega arith))
      | else-index-count-via-else-index-count w ↦ (let over = w.if-index-count.false in absurd (omega arith))
    ])
