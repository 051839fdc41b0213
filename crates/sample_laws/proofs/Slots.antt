-- The slot that an object needs is that of its size.
use Rattle.std.proofs.Common.{◌≡◌, ℕ, ◌≤◌, Bool, ◌∙◌, inl, inr}
use Rattle.std.proofs.lemmas.Bool.{cases_lt}
use Rattle.cycle_history.specs.Needs.{Need, IsNeed}
use Rattle.profile_cycle.specs.Naming.{slot_for}
use Rattle.profile_cycle.proofs.Named.{slot-large, slot-small}

pub need-slot : (size : ℕ) (scan : Bool) (need : Need) → 1 ≤ size → IsNeed size scan need → need.slot ≡ slot_for size
need-slot size scan need some is =
    elim (cases_lt 32768 size) [
      | inl big ↦ (let l = is.large big in l.slot ∙ slot-large size need.pages big l.pages)
      | inr small ↦ (let at = is.small small in at.2.slot ∙ slot-small size at.0 some small at.1)
    ]
