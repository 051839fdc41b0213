-- Pairs as numbers.
use Rattle.std.proofs.Common.{◌≡◌, ℕ, ◌+◌, ◌*◌, ◌^◌, ◌<◌, ◌≤◌, ◌==◌, ◌&&◌, ◌||◌, Bool, true, false, List, [], ◌∷◌, refl, inl, inr, sym, ◌∙◌, eq-eqb, ne_eqb, arith}
use Rattle.std.proofs.lemmas.Bool.{cases_lt, cases_eq, lt-ltb, le-ltb}
use mir.Val.{bool_byte as from_bool}
use Rattle.std.specs.Prelude.{nat_lt}
use Rattle.sweep_laws.specs.Lists.{is_before, rises_after}

-- one comparison of two pairs is that of their parts, where the second parts fit
pub packed_less : (a b c d : ℕ) → b < 2 ^ 32 → d < 2 ^ 32 → nat_lt (2 ^ 32 * a + b) (2 ^ 32 * c + d) ≡ (nat_lt a c || (a == c && nat_lt b d))
packed_less a b c d low high = elim (cases_lt a c) [
  | inl less ↦ rw (lt-ltb a c less) (lt-ltb (2 ^ 32 * a + b) (2 ^ 32 * c + d) (omega arith))
  | inr more ↦ elim (cases_lt c a) [
    | inl above ↦ rw (le-ltb a c more, ne_eqb a c (λ e. omega arith)) (le-ltb (2 ^ 32 * a + b) (2 ^ 32 * c + d) (omega arith))
    | inr same ↦
        let e : a ≡ c = omega arith in
        rw (le-ltb a c more, eq-eqb a c e) (elim (cases_lt b d) [
          | inl less ↦ rw (lt-ltb b d less) (lt-ltb (2 ^ 32 * a + b) (2 ^ 32 * c + d) (omega arith))
          | inr above ↦ rw (le-ltb b d above) (le-ltb (2 ^ 32 * a + b) (2 ^ 32 * c + d) (omega arith))
        ])
  ]
]

-- of pairs the last of which has a number: how many of those that are done rose, and whether all rise where those behind it do
pub record RisesFrom (number risen done : ℕ) (pairs : List (ℕ × ℕ)) (all : Bool) : Type 0 where
  pub last : ℕ × ℕ
  pub fits : last.1 < 2 ^ 32
  pub packed : number ≡ 2 ^ 32 * last.0 + last.1
  pub few : risen ≤ done
  pub rise : all ≡ ((risen == done) && rises_after last pairs)

same_more : (a b : ℕ) → (a + 1 == b + 1) ≡ (a == b)
same_more a b = elim (cases_eq a b) [
  | inl same ↦ rw (eq-eqb a b same, eq-eqb (a + 1) (b + 1) (omega arith)) refl
  | inr other ↦ rw (ne_eqb a b other, ne_eqb (a + 1) (b + 1) (λ e. other (omega arith))) refl
]

one_rose : (b : Bool) (n k : ℕ) → (n == k) && (true && b) ≡ ((n + 1 == k + 1) && b)
one_rose b n k = rw (same_more n k) refl

none_rose : (b : Bool) (n k : ℕ) → n ≤ k → (n == k) && (false && b) ≡ ((n + 0 == k + 1) && b)
none_rose b n k few = rw (ne_eqb (n + 0) (k + 1) (λ e. omega arith)) (go (n == k))
  where
    go : (z : Bool) → z && (false && b) ≡ false
    go true = refl
    go false = refl

pub rise_le : (b : Bool) → from_bool b ≤ 1
rise_le true = omega arith
rise_le false = omega arith

-- one pair more, which rises where its number is greater
pub number_more : (n m risen done : ℕ) (q : ℕ × ℕ) (pairs : List (ℕ × ℕ)) (all : Bool) → RisesFrom n risen done (q ∷ pairs) all → q.1 < 2 ^ 32 → m ≡ 2 ^ 32 * q.0 + q.1 → RisesFrom m (risen + from_bool (nat_lt n m)) (done + 1) pairs all
number_more n m risen done q pairs all from fits at = record {
  last = q;
  fits = fits;
  packed = at;
  few = omega (arith, rise_le (nat_lt n m), from.few);
  rise = from.rise ∙ elim (cases_lt n m) [
    | inl more ↦
        let same : nat_lt n m ≡ is_before from.last q = cc (packed_less from.last.0 from.last.1 q.0 q.1 from.fits fits) in
        let is : is_before from.last q ≡ true = sym same ∙ lt-ltb n m more in
        rw (is, lt-ltb n m more) (one_rose (rises_after q pairs) risen done)
    | inr less ↦
        let same : nat_lt n m ≡ is_before from.last q = cc (packed_less from.last.0 from.last.1 q.0 q.1 from.fits fits) in
        let is : is_before from.last q ≡ false = sym same ∙ le-ltb n m less in
        rw (is, le-ltb n m less) (none_rose (rises_after q pairs) risen done from.few)
  ];
}

-- behind the last pair, all rise where all that are done rose
pub number_all : (n risen done : ℕ) (all : Bool) → RisesFrom n risen done [] all → (risen == done) ≡ all
number_all n risen done all from = go (risen == done) ∙ sym from.rise
  where
    go : (z : Bool) → z ≡ (z && true)
    go true = refl
    go false = refl
