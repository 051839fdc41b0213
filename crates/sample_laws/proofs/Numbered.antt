-- An event's number is that of a bucket exactly where its pair is the bucket.
use Rattle.std.proofs.Common.{◌≡◌, ℕ, suc, ◌+◌, ◌<◌, ◌≤◌, Bool, true, false, not, eqb, ltb, List, [], ◌∷◌, length, get_or, Option, Some, None, refl, sym, ◌∙◌, ap, subst, arith, inl, inr}
use Rattle.std.specs.Prelude.{position, unwrap_or}
use Rattle.std.specs.List.{list_any, position_or_len}
use Rattle.std.proofs.lemmas.Bool.{cases_Bool, and_parts, eqb-true, eq-eqb, ne_eqb, lt-ltb, ltb-true}
use Rattle.std.proofs.lemmas.Option.{cond_some}
use Rattle.trace_reader.specs.declared.trace.Event.{Event}
use Rattle.profile_cycle.specs.declared.buckets.Bucket.{Bucket}
use Rattle.profile_cycle.specs.Naming.{is_same}
use Rattle.sample_laws.specs.Numbers.{IsNamed, number_of, pair_of}

same-is : (a b : Bucket) → is_same a b ≡ true → a ≡ b
same-is a b e =
    let both = and_parts (eqb a.stack b.stack) (eqb a.slot b.slot) e in
    let stack = eqb-true a.stack b.stack both.0 in
    let slot = eqb-true a.slot b.slot both.1 in
    λ i. record { stack = stack i; slot = slot i }

pub is-same : (a b : Bucket) → a ≡ b → is_same a b ≡ true
is-same a b e = rw (eq-eqb a.stack b.stack (ap (λ (x : Bucket). x.stack) e), eq-eqb a.slot b.slot (ap (λ (x : Bucket). x.slot) e)) refl

-- ---- the first place at which a test passes

some-place : {X : Type 0} (test : X → Bool) (xs : List X) → list_any test xs ≡ true → position_or_len test xs < length xs
some-place test [] any = absurd (cc)
some-place test (x ∷ xs) any = elim (cases_Bool (test x)) [
  | inl on ↦ rw on (omega arith)
  | inr off ↦ (let any' : list_any test xs ≡ true = rw off at any in let rest = some-place test xs any' in rw off (omega arith))
]

any-place : {X : Type 0} (test : X → Bool) (xs : List X) → list_any test xs ≡ true → position test xs ≡ Some (position_or_len test xs)
any-place test xs any = rw (lt-ltb (position_or_len test xs) (length xs) (some-place test xs any)) refl

passes-there : {X : Type 0} (test : X → Bool) (xs : List X) (d : X) → position_or_len test xs < length xs → test (get_or xs (position_or_len test xs) d) ≡ true
passes-there test [] d lt = absurd (omega arith)
passes-there test (x ∷ xs) d lt = elim (cases_Bool (test x)) [
  | inl on ↦ rw on on
  | inr off ↦ (let lt' : 1 + position_or_len test xs < suc (length xs) = rw off at lt in let rest = passes-there test xs d (omega arith) in let e : 1 + position_or_len test xs ≡ suc (position_or_len test xs) = omega arith in
      rw off (subst (λ (i : ℕ). test (get_or (x ∷ xs) i d) ≡ true) (sym e) rest))
]

-- where a place is found, there is one
place-found : {X : Type 0} (test : X → Bool) (xs : List X) (n : ℕ) → position test xs ≡ Some n → (position_or_len test xs < length xs) × (position_or_len test xs ≡ n)
place-found test xs n is = let both = cond_some (ltb (position_or_len test xs) (length xs)) (position_or_len test xs) n is in (ltb-true (position_or_len test xs) (length xs) both.0, both.1)

-- ---- numbers

number-place : (known : List Bucket) (e : Event) → 1 ≤ e.size → IsNamed known e → number_of known e ≡ position_or_len (is_same (pair_of e)) known
number-place known e some named =
    let off : eqb e.size 0 ≡ false = ne_eqb e.size 0 (λ q. omega arith) in
    let at = any-place (is_same (pair_of e)) known (named some) in
    rw off (ap (λ (o : Option ℕ). unwrap_or o 0) at)

pub number-is : (known : List Bucket) (b : Bucket) (n : ℕ) (e : Event) → position (is_same b) known ≡ Some n → IsNamed known e → 1 ≤ e.size → eqb (number_of known e) n ≡ is_same (pair_of e) b
number-is known b n e found named some =
    let x = pair_of e in
    let k = position_or_len (is_same x) known in
    let number = number-place known e some named in
    let place = place-found (is_same b) known n found in
    let at_x = same-is x (get_or known k b) (passes-there (is_same x) known b (some-place (is_same x) known (named some))) in
    let at_b = same-is b (get_or known (position_or_len (is_same b) known) b) (passes-there (is_same b) known b place.0) in
    elim (cases_Bool (eqb (number_of known e) n)) [
      | inl on ↦ (
          let same : k ≡ n = sym number ∙ eqb-true (number_of known e) n on in
          let one : x ≡ b = at_x ∙ ap (λ (i : ℕ). get_or known i b) (same ∙ sym place.1) ∙ sym at_b in
          on ∙ sym (is-same x b one))
      | inr off ↦ elim (cases_Bool (is_same x b)) [
        | inl also ↦ (
            let same : k ≡ position_or_len (is_same b) known = ap (λ (y : Bucket). position_or_len (is_same y) known) (same-is x b also) in
            let on : eqb (number_of known e) n ≡ true = eq-eqb (number_of known e) n (number ∙ same ∙ place.1) in
            let no : true ≡ false = sym on ∙ off in
            absurd (cc))
        | inr not ↦ off ∙ sym not
      ]
    ]

pub number-none : (known : List Bucket) (b : Bucket) (e : Event) → position (is_same b) known ≡ None → IsNamed known e → 1 ≤ e.size → false ≡ is_same (pair_of e) b
number-none known b e none named some = elim (cases_Bool (is_same (pair_of e) b)) [
  | inl also ↦ (
      let any : list_any (is_same b) known ≡ true = subst (λ (y : Bucket). list_any (is_same y) known ≡ true) (same-is (pair_of e) b also) (named some) in
      let there : None ≡ Some (position_or_len (is_same b) known) = sym none ∙ any-place (is_same b) known any in
      absurd (cc))
  | inr not ↦ sym not
]

-- the numbers of two pairs that are the same
pub at-number : (a b : Bucket) → is_same a b ≡ true → (a.stack ≡ b.stack) × (a.slot ≡ b.slot)
at-number a b e = let both = and_parts (eqb a.stack b.stack) (eqb a.slot b.slot) e in (eqb-true a.stack b.stack both.0, eqb-true a.slot b.slot both.1)

-- the bucket of an event
pub named-place : (known : List Bucket) (e : Event) → 1 ≤ e.size → IsNamed known e
    → (position_or_len (is_same (pair_of e)) known < length known) × ((d : Bucket) → get_or known (position_or_len (is_same (pair_of e)) known) d ≡ pair_of e)
named-place known e some named =
    let lt = some-place (is_same (pair_of e)) known (named some) in
    (lt, λ d. sym (same-is (pair_of e) (get_or known (position_or_len (is_same (pair_of e)) known) d) (passes-there (is_same (pair_of e)) known d lt)))

-- an event's number is below any bound that is above 0 and no less than how many buckets there are
pub number-below : (known : List Bucket) (e : Event) (bound : ℕ) → 1 ≤ bound → length known ≤ bound → number_of known e < bound
number-below known e bound some room = elim (cases_Bool (eqb e.size 0)) [
  | inl on ↦ rw on some
  | inr off ↦ rw off (found (position (is_same (pair_of e)) known) refl)
]
  where
    found : (o : Option ℕ) → position (is_same (pair_of e)) known ≡ o → unwrap_or o 0 < bound
    found None is = some
    found (Some n) is = (let at = place-found (is_same (pair_of e)) known n is in omega arith)
