-- The number of bits of a span is the number of the objects that have them.
use Rattle.std.proofs.Common.{◌≡◌, ◌≢◌, ℕ, zero, suc, ◌+◌, ◌<◌, Bool, true, false, ◌&&◌, not, eqb, List, [], ◌∷◌, refl, sym, ◌∙◌, ap, arith, inl, inr}
use Rattle.std.proofs.lemmas.Bool.{cases_eq, cases_Bool, eq-eqb, ne_eqb, and_parts}
use Rattle.page_alloc.specs.Lists.{In, count, AllApart}
use Rattle.span_state.specs.Bits.{count_below}
use Rattle.span_state.specs.Counts.{count_below-same, count_below-none}

-- the bits but for one
abbrev pub without : ℕ → (ℕ → Bool) → ℕ → Bool
without i bits k = not (eqb k i) && bits k

without-other : (i k : ℕ) (bits : ℕ → Bool) → k ≢ i → without i bits k ≡ bits k
without-other i k bits ne = let e : eqb k i ≡ false = ne_eqb k i ne in rw e refl

without-here : (i : ℕ) (bits : ℕ → Bool) → without i bits i ≡ false
without-here i bits = let e : eqb i i ≡ true = eq-eqb i i refl in rw e refl

count_below-less : (n i : ℕ) (bits : ℕ → Bool) → i < n → bits i ≡ true → count_below n bits ≡ 1 + count_below n (without i bits)
unfolding count_below
count_below-less zero i bits lt is = absurd (omega arith)
count_below-less (suc n) i bits lt is =
    elim (cases_eq i n) [
      | inl same ↦ (
          let on : bits n ≡ true = rw (sym same) is in
          let off : without i bits n ≡ false = rw (sym same) (without-here i bits) in
          let rest : count_below n bits ≡ count_below n (without i bits) = count_below-same n bits (without i bits) (λ k less. sym (without-other i k bits (λ e. omega arith))) in
          rw (off, on) (omega arith))
      | inr other ↦ (
          let same : without i bits n ≡ bits n = without-other i n bits (λ e. other (sym e)) in
          let rest = count_below-less n i bits (omega arith) is in
          rw same (omega arith))
    ]

-- bits below n that are exactly the places of the items that pass, which have different places, are as many
pub bits_count : {X : Type 0} (n : ℕ) (test : X → Bool) (place : X → ℕ) (xs : List X) (bits : ℕ → Bool)
    → AllApart (λ (x y : X). test x ≡ true → test y ≡ true → place x ≢ place y) xs
    → ((x : X) → In x xs → test x ≡ true → (place x < n) × (bits (place x) ≡ true))
    → ((k : ℕ) → k < n → bits k ≡ true → (x : X) × In x xs × (test x ≡ true) × (place x ≡ k))
    → count test xs ≡ count_below n bits
bits_count n test place [] bits apart shown from =
    sym (count_below-none n bits (λ k lt. elim (cases_Bool (bits k)) [ inl is ↦ absurd ((from k lt is).1) | inr isnt ↦ isnt ]))
bits_count n test place (x ∷ xs) bits apart shown from =
    elim (cases_Bool (test x)) [
      | inl is ↦ (
          let here = shown x (inl refl) is in
          let rest = bits_count n test place xs (without (place x) bits) apart.1
          (λ y h t. (let at = shown y (inr h) t in (at.0, without-other (place x) (place y) bits (λ e. apart.0 y h is t (sym e)) ∙ at.1)))
          (λ k lt on. (
          let parts = and_parts (not (eqb k (place x))) (bits k) on in
          let who = from k lt parts.1 in
          elim who.1 [
            | inl new ↦ (
                let same : place x ≡ k = ap place new ∙ who.3 in
                let off : without (place x) bits k ≡ false = rw (sym same) (without-here (place x) bits) in
                cc)
            | inr old ↦ (who.0, old, who.2, who.3)
          ])) in
          let less = count_below-less n (place x) bits here.0 here.1 in
          rw is (omega arith))
      | inr isnt ↦ (
          let rest = bits_count n test place xs bits apart.1 (λ y h t. shown y (inr h) t)
          (λ k lt on. (
          let who = from k lt on in
          elim who.1 [
            | inl new ↦ (let off : test who.0 ≡ false = rw (sym new) isnt in let t = who.2 in cc)
            | inr old ↦ (who.0, old, who.2, who.3)
          ])) in
          rw isnt (omega arith))
    ]
