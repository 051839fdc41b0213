-- The least number that a list does not have.
use Rattle.std.proofs.Common.{◌≡◌, ℕ, zero, suc, ◌+◌, ◌<◌, ◌≤◌, Bool, true, false, not, List, refl, sym, ap, ◌∙◌, arith}
use Rattle.std.specs.Prelude.{Option, Some, None}
use Rattle.std.specs.List.{find, range_with_len}
use mathlib.Core.Logic.{dite}
use native.Mathlib.Decide.{ℕ_discrete}
use Rattle.sweep_laws.specs.Lists.{has, least_outside}

-- the first number of a range that passes a test
found : (test : ℕ → Bool) (a n i : ℕ) → ((j : ℕ) → a ≤ j → j < i → test j ≡ false) → a ≤ i → i < a + n → test i ≡ true → find test (range_with_len a n) ≡ Some i
found test a zero i none l m is = absurd (omega arith)
found test a (suc n) i none l m is = dite (ℕ_discrete a i)
    (λ e. rw (ap test e ∙ is) (ap (λ (x : ℕ). let y : Option ℕ = Some x in y) e))
    (λ d. rw (none a (omega arith) (omega arith)) (found test (a + 1) n i (λ j p q. none j (omega arith) q) (omega arith) (omega arith) is))

not_there : (test : ℕ → Bool) (a n : ℕ) → ((j : ℕ) → a ≤ j → j < a + n → test j ≡ false) → find test (range_with_len a n) ≡ None
not_there test a zero none = refl
not_there test a (suc n) none = rw (none a (omega arith) (omega arith)) (not_there test (a + 1) n (λ j p q. none j (omega arith) (omega arith)))

pub least_is : (xs : List ℕ) (n i : ℕ) → ((j : ℕ) → j < i → has j xs ≡ true) → i < n → has i xs ≡ false → Some i ≡ least_outside xs n
least_is xs n i below low is = sym (found (λ j. not (has j xs)) 0 n i (λ j _ l. ap not (below j l)) (omega arith) (omega arith) (ap not is))

pub least_none : (xs : List ℕ) (n : ℕ) → ((j : ℕ) → j < n → has j xs ≡ true) → None ≡ least_outside xs n
least_none xs n all = sym (not_there (λ j. not (has j xs)) 0 n (λ j _ l. ap not (all j (omega arith))))
