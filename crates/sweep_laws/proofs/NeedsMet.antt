-- Where no need refuses, each is met; and what tests mean.
use Rattle.std.proofs.Common.{◌≡◌, ◌≢◌, ℕ, zero, suc, ◌+◌, ◌-◌, ◌<◌, ◌≤◌, ◌⊎◌, inl, inr, Bool, true, false, true≢false, ◌&&◌, ◌||◌, not, cond, eqb, ltb, List, [], ◌∷◌, length, get_or, sym, refl, ap, ◌∙◌, arith, eq-eqb}
use Rattle.std.specs.Prelude.{Option, Some, None, slice_range}
use Rattle.std.specs.Option.{is_some}
use Rattle.std.specs.List.{find, position, prefix_len}
use Rattle.std.proofs.lemmas.Bool.{eqb-true, ltb-false}
use Rattle.std.proofs.lemmas.List.{get_or-drop, get_or-take}
use mathlib.Core.Option.{some, some-injective, some-ne-none}
use lib.ListN.{get_elem?}
use Rattle.sweep_laws.specs.NeedsOfRange.{Need, refusal}
use Rattle.sweep_laws.specs.NeedsOfPages.{is_holder}

pub some_none : {A : Type 0} (a : A) → Some a ≡ None → ⊥
some_none a e = cc

-- each need of a list is met
abbrev pub AllMet : List Need → Type 0
AllMet [] = Unit {0}
AllMet (n ∷ ns) = (n.met ≡ true) × AllMet ns

pub all_met : (ns : List Need) → refusal ns ≡ None → AllMet ns
all_met [] e = tt
all_met (n ∷ ns) e = go n.met refl (all_met ns) e
  where
    go : (b : Bool) → n.met ≡ b → (refusal ns ≡ None → AllMet ns) → cond b (refusal ns) (Some n.found) ≡ None → (n.met ≡ true) × AllMet ns
    go true s rest f = (s, rest f)
    go false s rest f = absurd (some_none n.found f)

-- and so the other way round
pub none_refuses : (ns : List Need) → AllMet ns → refusal ns ≡ None
none_refuses [] m = refl
none_refuses (n ∷ ns) m = rw m.0 (none_refuses ns m.1)

pub both : (a b : Bool) → a && b ≡ true → (a ≡ true) × (b ≡ true)
both true b e = (refl, e)
both false b e = absurd (true≢false (sym e))

pub either_one : (a b : Bool) → a || b ≡ true → (a ≡ true) ⊎ (b ≡ true)
either_one true b e = inl refl
either_one false b e = inr e

pub not_true : (a : Bool) → not a ≡ true → a ≡ false
not_true true e = absurd (true≢false (sym e))
not_true false e = refl

pub not_false : (a : Bool) → not a ≡ false → a ≡ true
not_false true e = refl
not_false false e = absurd (true≢false e)

pub eqb-false : (a b : ℕ) → eqb a b ≡ false → a ≢ b
eqb-false a b e s = true≢false (sym (eq-eqb a b s) ∙ e)

pub holder_is : (i : ℕ) (o : Option ℕ) → is_holder i o ≡ true → o ≡ Some i
holder_is i None e = absurd (true≢false (sym e))
holder_is i (Some j) e = ap (λ (k : ℕ). let z : Option ℕ = Some k in z) (eqb-true j i e)

pub none_there : {A : Type 0} (o : Option A) → is_some o ≡ false → o ≡ None
none_there None e = refl
none_there (Some a) e = absurd (true≢false e)

pub some_there : {A : Type 0} (o : Option A) → is_some o ≡ true → (a : A) × (o ≡ Some a)
some_there None e = absurd (true≢false (sym e))
some_there (Some a) e = (a, refl)

pub empty_list : {A : Type 0} (xs : List A) → eqb (length xs) 0 ≡ true → xs ≡ []
empty_list [] e = refl
empty_list (x ∷ xs) e = let t = eqb-true (length (x ∷ xs)) 0 e in absurd (omega arith)

-- what no search finds, no item is
pub not_found : {A : Type 0} (test : A → Bool) (xs : List A) → find test xs ≡ None → (n : ℕ) (a : A) → get_elem? xs n ≡ some a → test a ≡ false
not_found test [] e n a at = absurd (some-ne-none a (sym at))
not_found test (x ∷ xs) e n a at = go (test x) refl (not_found test xs) e n at
  where
    go : (b : Bool) → test x ≡ b → (find test xs ≡ None → (n : ℕ) (a : _) → get_elem? xs n ≡ some a → test a ≡ false) → cond b (Some x) (find test xs) ≡ None → (n : ℕ) → get_elem? (x ∷ xs) n ≡ some a → test a ≡ false
    go true s rest f n at = absurd (some_none x f)
    go false s rest f zero at = ap test (sym (some-injective x a at)) ∙ s
    go false s rest f (suc n) at = rest f n a at

all_pass : {A : Type 0} (test : A → Bool) (xs : List A) → length xs ≤ prefix_len test xs → (n : ℕ) (a : A) → get_elem? xs n ≡ some a → test a ≡ true
all_pass test [] l n a at = absurd (some-ne-none a (sym at))
all_pass test (x ∷ xs) l n a at = go (test x) refl (all_pass test xs) l n at
  where
    go : (b : Bool) → test x ≡ b → (length xs ≤ prefix_len test xs → (n : ℕ) (a : _) → get_elem? xs n ≡ some a → test a ≡ true) → length (x ∷ xs) ≤ cond b (1 + prefix_len test xs) 0 → (n : ℕ) → get_elem? (x ∷ xs) n ≡ some a → test a ≡ true
    go false s rest f n at = absurd (omega arith)
    go true s rest f zero at = ap test (sym (some-injective x a at)) ∙ s
    go true s rest f (suc n) at = rest (omega arith) n a at

pub no_position : {A : Type 0} (test : A → Bool) (xs : List A) → is_some (position test xs) ≡ false → (n : ℕ) (a : A) → get_elem? xs n ≡ some a → test a ≡ false
no_position test xs e n a at = go (ltb (prefix_len (λ x. not (test x)) xs) (length xs)) refl e
  where
    go : (b : Bool) → ltb (prefix_len (λ x. not (test x)) xs) (length xs) ≡ b → is_some (cond b (Some (prefix_len (λ x. not (test x)) xs)) None) ≡ false → test a ≡ false
    go true s f = absurd (true≢false f)
    go false s f = not_true (test a) (all_pass (λ x. not (test x)) xs (ltb-false _ _ s) n a at)
