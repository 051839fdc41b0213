-- A pair is a bucket exactly where it was named.
use Rattle.std.proofs.Common.{◌≡◌, Bool, true, false, ◌&&◌, ◌||◌, List, [], ◌∷◌, ◌++◌, refl, sym, ap, subst, ◌∙◌, inl, inr}
use Rattle.std.specs.Prelude.{fold}
use Rattle.std.specs.List.{list_any}
use Rattle.std.proofs.Math.Dec.{eqb}
use Rattle.std.proofs.lemmas.Bool.{cases_Bool, eqb-true}
use Rattle.profile_cycle.specs.declared.buckets.Bucket.{Bucket}
use Rattle.profile_cycle.specs.Naming.{buckets_of, is_same, named}

or-false : (x : Bool) → x ≡ (x || false)
or-false true = refl
or-false false = refl

or-assoc : (x y z : Bool) → ((x || y) || z) ≡ (x || (y || z))
or-assoc true y z = refl
or-assoc false y z = refl

any-snoc : (test : Bucket → Bool) (xs : List Bucket) (p : Bucket) → list_any test (xs ++ p ∷ []) ≡ (list_any test xs || test p)
any-snoc test [] p = sym (or-false (test p))
any-snoc test (x ∷ xs) p = ap (λ (b : Bool). test x || b) (any-snoc test xs p) ∙ sym (or-assoc (test x) (list_any test xs) (test p))

both-true : (x y : Bool) → (x && y) ≡ true → (x ≡ true) × (y ≡ true)
both-true true y e = (refl, e)
both-true false y e = cc

same-is : (a b : Bucket) → is_same a b ≡ true → a ≡ b
same-is a b e =
    let both = both-true (eqb a.stack b.stack) (eqb a.slot b.slot) e in
    let stack = eqb-true a.stack b.stack both.0 in
    let slot = eqb-true a.slot b.slot both.1 in
    λ i. record { stack = stack i; slot = slot i }

any-known : (k p : Bucket) (known : List Bucket) → list_any (is_same p) known ≡ true → list_any (is_same k) known ≡ (list_any (is_same k) known || is_same k p)
any-known k p known has = elim (cases_Bool (is_same k p)) [
  | inl on ↦ (
      let there : list_any (is_same k) known ≡ true = subst (λ (q : Bucket). list_any (is_same q) known ≡ true) (sym (same-is k p on)) has in
      there ∙ sym (ap (λ (b : Bool). b || is_same k p) there))
  | inr off ↦ or-false (list_any (is_same k) known) ∙ ap (λ (b : Bool). list_any (is_same k) known || b) (sym off)
]

any-named : (k p : Bucket) (known : List Bucket) → list_any (is_same k) (named known p) ≡ (list_any (is_same k) known || is_same k p)
any-named k p known = elim (cases_Bool (list_any (is_same p) known)) [
  | inl on ↦ rw on (any-known k p known on)
  | inr off ↦ rw off (any-snoc (is_same k) known p)
]

any-fold : (k : Bucket) (ps known : List Bucket) → list_any (is_same k) (fold named known ps) ≡ (list_any (is_same k) known || list_any (is_same k) ps)
any-fold k [] known = or-false (list_any (is_same k) known)
any-fold k (p ∷ ps) known =
    any-fold k ps (named known p) ∙ ap (λ (b : Bool). b || list_any (is_same k) ps) (any-named k p known) ∙ or-assoc (list_any (is_same k) known) (is_same k p) (list_any (is_same k) ps)

pub any-buckets : (pairs : List Bucket) (pair : Bucket) → list_any (is_same pair) (buckets_of pairs) ≡ list_any (is_same pair) pairs
any-buckets pairs pair = any-fold pair pairs []
