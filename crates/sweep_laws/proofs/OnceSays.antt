-- What the law of one sweep refuses: a list that releases a page twice, and one that leaves a page out.
use Rattle.std.proofs.Common.{◌≡◌, ℕ, List, [], ◌∷◌, refl, arith}
use Rattle.std.specs.Prelude.{Some}
use Rattle.sweep_laws.specs.declared.moves.Move.{Move}
use Rattle.sweep_laws.specs.declared.moves.Move.TheVariants.{Take, Acquire, Release, Claim, Fill, PopUnswept, DropPopped, Next}
use Rattle.sweep_laws.specs.State.{CoreState}
use Rattle.sweep_laws.specs.Once.{Once}
use Rattle.sweep_laws.proofs.BrokenFacts.{no_core, idle_hand, one_life}

-- one swept span in the swept set, and one worker
abbrev pub queued_span : CoreState
queued_span = record no_core {
  words = 4 ∷ [];
  owners = Some 0 ∷ [];
  lives = one_life ∷ [];
  sets = record { head = 0; tail = 1; cells = 1 ∷ [] } ∷ record { head = 0; tail = 0; cells = [] } ∷ [];
  hands = idle_hand ∷ [];
}

-- the span is released two times
abbrev pub twice : List Move
twice = PopUnswept 0 0 ∷ Acquire 0 0 ∷ Release 0 0 ∷ Release 0 0 ∷ Claim 0 1 0 ∷ Fill 0 ∷ Claim 0 1 0 ∷ Fill 0 ∷ []

-- another life takes the page, which is never released
abbrev pub left_out : List Move
left_out = PopUnswept 0 0 ∷ DropPopped 0 0 ∷ Take 0 0 1 1 0 ∷ Claim 0 1 0 ∷ Fill 0 ∷ []

pub twice_is_refused : Once queued_span (Next [] ∷ twice) → ⊥
twice_is_refused once = let r = once [] twice [] [] refl (refl, (refl, (refl, (refl, (refl, (refl, (refl, (refl, tt)))))))) refl in
    let two : ℕ = 2 in let e : two ≡ 1 = r.each 0 (omega arith) in let z : ⊥ = omega arith in z

pub left_out_is_refused : Once queued_span (Next [] ∷ left_out) → ⊥
left_out_is_refused once = let r = once [] left_out [] [] refl (refl, (refl, (refl, (refl, (refl, tt))))) refl in
    let none : ℕ = 0 in let e : none ≡ 1 = r.each 0 (omega arith) in let z : ⊥ = omega arith in z
