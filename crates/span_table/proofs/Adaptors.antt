-- What serves every step, whatever the rule is.
use Rattle.std.proofs.Common.{◌≡◌, ◌≢◌, ℕ, ◌<◌, eqb, eq-eqb, ne_eqb, List, ◌∷◌, length, get_or, sym, ap, ◌∙◌, subst}
use Rattle.std.specs.Prelude.{None, Some}
use mathlib.Core.Logic.{dite}
use mathlib.Core.Option.{some}
use native.Mathlib.Decide.{ℕ_discrete}
use lib.ListN.{get_elem?}
use prog.Atomic.{either}
use Rattle.atomic_table.specs.Table.{State, Me, Act, Valid, stepped, carried_after, rest, Allows}

module _ {S V : Type 0} (holds : State S V → Type 0) (slots id : ℕ) (me : Me S V) (i : ℕ) where
  -- one outcome of a step, which leaves y in the word
  abbrev pub Goes : State S V → ℕ → (Me S V → Type 0) → Type 0
  Goes s y then = (w : V) × (a : Act S) × Valid s.homes me.1 a × holds (stepped s i y id me.1 w a) × then (w, carried_after me.1 a)

  abbrev pub Each : (State S V → Type 0) → Type 0
  Each P = (s : State S V) → holds s → length s.homes ≡ slots → get_elem? s.views id ≡ some me.0 → get_or s.words i 0 < 18446744073709551616 → P s

  pub exchanges : (old new : ℕ) (then : ℕ → Me S V → Type 0)
      → Each (λ s. get_or s.words i 0 ≡ old → Goes s new (then (get_or s.words i 0)))
      → Each (λ s. get_or s.words i 0 ≢ old → Goes s (get_or s.words i 0) (then (get_or s.words i 0)))
      → Allows holds slots id me i (λ n. either (eqb n old) new n) then
  exchanges old new then hit miss s h deep at fits = let x = get_or s.words i 0 in dite (ℕ_discrete x old)
      (λ e. subst (λ b. Goes s (either b new x) (then x)) (sym (eq-eqb x old e)) (hit s h deep at fits e))
      (λ d. subst (λ b. Goes s (either b new x) (then x)) (sym (ne_eqb x old d)) (miss s h deep at fits d))

-- of two options
pub none_some : {A : Type 0} {P : Type 0} (x : A) → None ≡ Some x → P
none_some x e = absurd cc

pub one_some : {A : Type 0} (x y : A) → Some x ≡ Some y → x ≡ y
one_some x y e = cc

-- the slot that was taken last
pub first_slot : {S : Type 0} (cs : List (ℕ × S)) (k : ℕ) (y : S) (l : List (ℕ × S)) → cs ≡ (k, y) ∷ l → cs ≡ (k, y) ∷ rest cs
first_slot cs k y l e = e ∙ ap (λ zs. (k, y) ∷ rest zs) (sym e)
