-- The digits of a number whose last digit grows by one.
use Rattle.std.proofs.Common.{◌≡◌, ℕ, ◌+◌, ◌-◌, ◌^◌, ◌/◌, ◌%◌, ◌<◌, ◌≤◌, List, [], ◌∷◌, ◌++◌, decimal, drop, get_or, length, set, take, inl, inr, sym, ap, append_assoc, ◌∙◌, arith, eq-zero-or-pos, length-drop}
use Rattle.std.proofs.lemmas.Fmt.{decimal_digit, decimal_nonempty, decimal_step}
use Rattle.std.proofs.lemmas.List.{drop-append-le, drop-take, length-take-le, same_from_push, take_more, take_more_set}

pub next_decimal : (head front : List ℕ) (last n : ℕ) → n + 1 < 2 ^ 64 → last < 57 → front ++ last ∷ [] ≡ head ++ decimal n → front ++ (last + 1) ∷ [] ≡ head ++ decimal (n + 1)
next_decimal head front last n below few is =
    elim (eq-zero-or-pos (n / 10)) [
      | inl z ↦
          let same = same_from_push front head last (48 + n) (is ∙ ap (λ (ds : List ℕ). head ++ ds) (decimal_digit n (omega arith))) in
          let digit = same.1 in
          let next : last + 1 ≡ 48 + (n + 1) = omega arith in
          (λ i. same.0 i ++ next i ∷ []) ∙ ap (λ (ds : List ℕ). head ++ ds) (sym (decimal_digit (n + 1) (omega arith)))
      | inr g ↦
          let rest = decimal (n / 10) in
          let split : head ++ decimal n ≡ (head ++ rest) ++ (48 + n % 10) ∷ [] =
          ap (λ (ds : List ℕ). head ++ ds) (decimal_step n (omega arith) (omega arith)) ∙ sym (append_assoc head rest ((48 + n % 10) ∷ [])) in
          let same = same_from_push front (head ++ rest) last (48 + n % 10) (is ∙ split) in
          let digit = same.1 in
          let next : last + 1 ≡ 48 + (n + 1) % 10 = omega arith in
          let tens : n / 10 ≡ (n + 1) / 10 = omega arith in
          (λ i. same.0 i ++ next i ∷ []) ∙ append_assoc head rest ((48 + (n + 1) % 10) ∷ [])
          ∙ (λ i. head ++ (decimal (tens i) ++ (48 + (n + 1) % 10) ∷ [])) ∙ ap (λ (ds : List ℕ). head ++ ds) (sym (decimal_step (n + 1) (omega arith) below))
    ]

-- what ends at place 20, of which the last is at place 19
shown : (digits front : List ℕ) (last start : ℕ) → start ≤ length front → start ≤ 20 → take 20 digits ≡ front ++ last ∷ []
    → take (20 - start) (drop start digits) ≡ drop start front ++ last ∷ []
shown digits front last start within le is =
    let e : start + (20 - start) ≡ 20 = omega arith in
    sym (drop-take start (20 - start) digits) ∙ ap (λ (k : ℕ). drop start (take k digits)) e ∙ ap (λ (ds : List ℕ). drop start ds) is ∙ drop-append-le start front (last ∷ []) within

pub next_digits : (digits : List ℕ) (start n : ℕ) → length digits ≡ 40 → start ≤ 20 → n + 1 < 2 ^ 64 → take (20 - start) (drop start digits) ≡ decimal n → get_or digits 19 0 < 57
    → take (20 - start) (drop start (set digits 19 (get_or digits 19 0 + 1))) ≡ decimal (n + 1)
next_digits digits start n long le below is few =
    let some = decimal_nonempty n (omega arith) in
    let count : length (take (20 - start) (drop start digits)) ≡ 20 - start = length-take-le (20 - start) (drop start digits) (omega (arith, length-drop start digits)) in
    let same : length (take (20 - start) (drop start digits)) ≡ length (decimal n) = ap length is in
    let front = take 19 digits in
    let len : length front ≡ 19 = length-take-le 19 digits (omega arith) in
    let last = get_or digits 19 0 in
    let old = shown digits front last start (omega arith) le (take_more digits 19 0 (omega arith)) in
    let new = shown (set digits 19 (last + 1)) front (last + 1) start (omega arith) le (take_more_set digits 19 (last + 1) (omega arith)) in
    new ∙ next_decimal [] (drop start front) last n below few (sym old ∙ is)
