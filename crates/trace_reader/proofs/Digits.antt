-- Numbers at the front of bytes.
use Rattle.std.proofs.Common.{◌≡◌, ◌⊎◌, ℕ, zero, suc, ◌+◌, ◌-◌, ◌*◌, ◌/◌, ◌%◌, ◌^◌, ◌<◌, ◌≤◌, List, [], ◌∷◌, ◌++◌, length, decimal, Option, Some, None, MatchOption, Bor, refl, sym, ap, subst, ◌∙◌, inl, inr, append_assoc, arith, length-append, drop, take}
use Rattle.std.specs.List.{AllByRecursion}
use Rattle.std.specs.Str.Parse.{digits_value, digits_value_after}
use Rattle.std.specs.Char.{digit_value}
use Rattle.std.proofs.lemmas.Fmt.{decimal_step_wide, decimal_digit, decimal_by_steps_wide, decimal_is_IsNumeral_wide}
use Rattle.std.proofs.lemmas.Bool.{cases_lt}
use Rattle.std.proofs.lemmas.List.{append_cancel_right, drop_all, drop_more, take-append-drop, take_rest}
use Rattle.std.proofs.Math.ListN.{get_or}
use Rattle.std.proofs.Math.Seq.{take-append_seam}
use Rattle.std.proofs.Math.Nat.{pow-le-pow_right, pow-succ'}
use Rattle.trace_reader.specs.Words.{IsDigit, IsFed, IsField, NoDigitFirst}

pub AllByRecursion-push : {X : Type 0} (P : X → Type 0) (xs : List X) (x : X) → AllByRecursion P xs → P x → AllByRecursion P (xs ++ x ∷ [])
AllByRecursion-push P [] x all here = (here, tt)
AllByRecursion-push P (y ∷ ys) x all here = (all.0, AllByRecursion-push P ys x all.1 here)

pub decimal_push : (n d : ℕ) → 1 ≤ n → n < 10 ^ 20 → d < 10 → decimal (10 * n + d) ≡ decimal n ++ (48 + d) ∷ []
decimal_push n d positive small digit =
    let quotient : (10 * n + d) / 10 ≡ n = omega arith in
    let last : (10 * n + d) % 10 ≡ d = omega arith in
    let step = decimal_step_wide (10 * n + d) (omega arith) (omega arith) in
    rw step (rw (quotient, last) refl)

-- a digit moves from the rest into the number
pub goes_on : (front rest after : List ℕ) (n byte : ℕ) → 1 ≤ n → n < 10 ^ 20 → IsDigit byte → rest ≡ byte ∷ after → front ≡ decimal n ++ rest
    → front ≡ decimal (10 * n + (byte - 48)) ++ after
goes_on front rest after n byte positive small digit split so_far =
    let back : 48 + (byte - 48) ≡ byte = omega arith in
    let pushed : decimal (10 * n + (byte - 48)) ≡ decimal n ++ byte ∷ [] = decimal_push n (byte - 48) positive small (omega arith) ∙ ap (λ (b : ℕ). decimal n ++ b ∷ []) back in
    so_far ∙ rw (pushed, split, append_assoc) refl

-- the same where the rest begins at a place of the bytes
pub goes_on_at : (front bytes : List ℕ) (at n : ℕ) → 1 ≤ n → n < 10 ^ 20 → at < length bytes → IsDigit (get_or bytes at 0) → front ≡ decimal n ++ drop at bytes
    → front ≡ decimal (10 * n + (get_or bytes at 0 - 48)) ++ drop (at + 1) bytes
goes_on_at front bytes at n positive small inside digit so_far = goes_on front (drop at bytes) (drop (at + 1) bytes) n (get_or bytes at 0) positive small digit (drop_more bytes at 0 inside) so_far

pub no_digit_at : (bytes : List ℕ) (at : ℕ) → at < length bytes → (get_or bytes at 0 < 48) ⊎ (57 < get_or bytes at 0) → NoDigitFirst (drop at bytes)
no_digit_at bytes at inside none = subst NoDigitFirst (sym (drop_more bytes at 0 inside)) none

pub nothing_at : (bytes : List ℕ) (at : ℕ) → length bytes ≤ at → NoDigitFirst (drop at bytes)
nothing_at bytes at over = subst NoDigitFirst (sym (drop_all at bytes over)) tt

-- the first digit of a number at a place
pub begins_at : (bytes : List ℕ) (start : ℕ) → start < length bytes → IsDigit (get_or bytes start 0) → drop start bytes ≡ decimal (get_or bytes start 0 - 48) ++ drop (start + 1) bytes
begins_at bytes start inside digit =
    let back : get_or bytes start 0 ≡ 48 + (get_or bytes start 0 - 48) = omega (arith, digit.0) in
    let one = decimal_digit (get_or bytes start 0 - 48) (omega (arith, digit.1)) in
    rw one (drop_more bytes start 0 inside ∙ ap (λ (b : ℕ). b ∷ drop (start + 1) bytes) back)

-- what a digit more makes of a number of so many digits
pub below_more : (n digit from at : ℕ) → n < 10 ^ (at - from) → digit < 10 → from < at → 10 * n + digit < 10 ^ (at + 1 - from)
below_more n digit from at small low begun =
    let one_more : at + 1 - from ≡ suc (at - from) = omega arith in
    let ten : 10 ^ (at + 1 - from) ≡ 10 * 10 ^ (at - from) = ap (λ (k : ℕ). 10 ^ k) one_more ∙ pow-succ' 10 (at - from) in
    omega (arith, ten, small, low)

pub below_step : (n digit k : ℕ) → n < 10 ^ k → digit < 10 → 10 * n + digit < 10 ^ (k + 1)
below_step n digit k small low =
    let one_more : k + 1 ≡ suc k = omega arith in
    let ten : 10 ^ (k + 1) ≡ 10 * 10 ^ k = ap (λ (m : ℕ). 10 ^ m) one_more ∙ pow-succ' 10 k in
    omega (arith, ten, small, low)

-- so many digits at most
pub below_most : (n k most : ℕ) → n < 10 ^ k → k ≤ most → n < 10 ^ most
below_most n k most small few =
    let more = pow-le-pow_right {n = 10} (omega arith) {i = k} {j = most} few in
    omega (arith, small, more)

-- the number ends at that place
pub ends_at : (front bytes : List ℕ) (at n : ℕ) → front ≡ decimal n ++ drop at bytes → n < 10 ^ 20 → NoDigitFirst (drop at bytes) → IsField [] front n (take (length bytes - at) (drop at bytes))
ends_at front bytes at n so_far small ended = subst (IsField [] front n) (sym (take_rest bytes at)) (record { spelled = so_far; small = small; ended = ended })

-- all bytes of a number are digits
pub digits_decimal : (n : ℕ) → n < 10 ^ 64 → AllByRecursion IsDigit (decimal n)
digits_decimal n small = decimal_by_steps_wide (λ (_ : ℕ) (ds : List ℕ). AllByRecursion IsDigit ds)
    (λ k low. ((omega arith, omega arith), tt))
    (λ k ds high all. AllByRecursion-push IsDigit ds (48 + k % 10) all (omega arith, omega arith)) n small

-- the first digit, which is not 0 unless the number is
abbrev Leads : ℕ → List ℕ → Type 0
Leads n [] = ⊥
Leads n (byte ∷ rest) = (n ≡ 0) ⊎ (48 < byte)

leads_push : (n : ℕ) (ds : List ℕ) (d : ℕ) → 10 ≤ n → Leads (n / 10) ds → Leads n (ds ++ d ∷ [])
leads_push n [] d high leads = absurd leads
leads_push n (byte ∷ ds) d high leads = elim leads [ inl zero_ ↦ absurd (omega (arith, zero_)) | inr more ↦ inr more ]

leads_decimal : (n : ℕ) → n < 10 ^ 64 → Leads n (decimal n)
leads_decimal n small = decimal_by_steps_wide (λ (k : ℕ) (ds : List ℕ). Leads k ds)
    (λ k low. leads_digit k) (λ k ds high leads. leads_push k ds (48 + k % 10) high leads) n small where
      leads_digit : (k : ℕ) → Leads k ((48 + k) ∷ [])
      leads_digit zero = inl refl
      leads_digit (suc k) = inr (omega arith)

-- what the digits are worth
pub value_decimal : (n : ℕ) → n < 10 ^ 64 → digits_value 10 (decimal n) ≡ n
value_decimal n small = (decimal_is_IsNumeral_wide n small).1

value-append : (k : ℕ) (xs ys : List ℕ) → digits_value_after 10 k (xs ++ ys) ≡ digits_value_after 10 (digits_value_after 10 k xs) ys
value-append k [] ys = refl
value-append k (x ∷ xs) ys = value-append (k * 10 + digit_value x) xs ys

value_grows : (k : ℕ) (xs : List ℕ) → k ≤ digits_value_after 10 k xs
value_grows k [] = omega arith
value_grows k (x ∷ xs) =
    let more = value_grows (k * 10 + digit_value x) xs in
    omega arith

pub decimal_injective_wide : (m n : ℕ) → m < 10 ^ 64 → n < 10 ^ 64 → decimal m ≡ decimal n → m ≡ n
decimal_injective_wide m n small below e = sym (value_decimal m small) ∙ ap (digits_value 10) e ∙ value_decimal n below

same_cons : (x y : ℕ) (xs ys : List ℕ) → x ≡ y → xs ≡ ys → x ∷ xs ≡ y ∷ ys
same_cons x y xs ys e f = cc

-- a front of digits goes no further than the digits do
run : (xs r ys q : List ℕ) → AllByRecursion IsDigit xs → NoDigitFirst q → xs ++ r ≡ ys ++ q → (more : List ℕ) × (ys ≡ xs ++ more) × (r ≡ more ++ q)
run [] r ys q digits ended e = (ys, refl, e)
run (x ∷ xs) r [] q digits ended e =
    let first : NoDigitFirst (x ∷ (xs ++ r)) = subst NoDigitFirst (sym e) ended in
    absurd (elim first [ inl low ↦ omega (arith, low, digits.0.0) | inr high ↦ omega (arith, high, digits.0.1) ])
run (x ∷ xs) r (y ∷ ys) q digits ended e =
    let same : xs ++ r ≡ ys ++ q = cc in
    let first : y ≡ x = cc in
    let rest = run xs r ys q digits.1 ended same in
    (rest.0, same_cons y x ys (xs ++ rest.0) first rest.1, rest.2)

same_list : (xs ys more back : List ℕ) → ys ≡ xs ++ more → xs ≡ ys ++ back → xs ≡ ys
same_list xs ys [] back e f = sym (e ∙ append_nil xs) where
  append_nil : (zs : List ℕ) → zs ++ [] ≡ zs
  append_nil [] = refl
  append_nil (z ∷ zs) = ap (λ (w : List ℕ). z ∷ w) (append_nil zs)
same_list xs ys (m ∷ more) back e f =
    let far = ap length e ∙ length-append xs (m ∷ more) in
    let near = ap length f ∙ length-append ys back in
    absurd (omega arith)

append_same : (xs r q : List ℕ) → xs ++ r ≡ xs ++ q → r ≡ q
append_same [] r q e = e
append_same (x ∷ xs) r q e = append_same xs r q cc

-- a number at the front, with all its digits, is one number
pub one_number : (bytes : List ℕ) (n m : ℕ) (r q : List ℕ) → IsField [] bytes n r → IsField [] bytes m q → (m ≡ n) × (q ≡ r)
one_number bytes n m r q f g =
    let small : n < 10 ^ 64 = omega (arith, f.small) in
    let below : m < 10 ^ 64 = omega (arith, g.small) in
    let e : decimal n ++ r ≡ decimal m ++ q = sym f.spelled ∙ g.spelled in
    let there = run (decimal n) r (decimal m) q (digits_decimal n small) g.ended e in
    let back = run (decimal m) q (decimal n) r (digits_decimal m below) f.ended (sym e) in
    let same : decimal n ≡ decimal m = same_list (decimal n) (decimal m) there.0 back.0 there.1 back.1 in
    (decimal_injective_wide m n below small (sym same), append_same (decimal m) q r (sym e ∙ ap (λ (x : List ℕ). x ++ r) same))

-- the same behind a text
pub one_field : (text bytes : List ℕ) (n m : ℕ) (r q : List ℕ) → IsField text bytes n r → IsField text bytes m q → (m ≡ n) × (q ≡ r)
one_field text bytes n m r q f g =
    let same : decimal n ++ r ≡ decimal m ++ q = append_same text (decimal n ++ r) (decimal m ++ q) (sym f.spelled ∙ g.spelled) in
    one_number (decimal n ++ r) n m r q (record { spelled = refl; small = f.small; ended = f.ended }) (record { spelled = same; small = g.small; ended = g.ended })

-- no number begins where no digit does
pub no_number : (bytes : List ℕ) → NoDigitFirst bytes → (n : ℕ) (rest : List ℕ) → ¬ IsField [] bytes n rest
no_number bytes none n rest field =
    let small : n < 10 ^ 64 = omega (arith, field.small) in
    begins (decimal n) (digits_decimal n small) (leads_decimal n small) (rw field.spelled at none) where
      begins : (ds : List ℕ) → AllByRecursion IsDigit ds → Leads n ds → NoDigitFirst (ds ++ rest) → ⊥
      begins [] digits leads first = leads
      begins (d ∷ ds) digits leads first = elim first [ inl low ↦ omega (arith, low, digits.0.0) | inr high ↦ omega (arith, high, digits.0.1) ]

-- no digit follows a 0, or 20 digits
pub no_longer : (front rest after : List ℕ) (v byte : ℕ) → front ≡ decimal v ++ rest → rest ≡ byte ∷ after → IsDigit byte → v < 10 ^ 20 → (v ≡ 0) ⊎ (10 ^ 19 ≤ v)
    → (n : ℕ) (q : List ℕ) → ¬ IsField [] front n q
no_longer front rest after v byte e split digit small edge n q field =
    let below : n < 10 ^ 64 = omega (arith, field.small) in
    let all : AllByRecursion IsDigit (decimal v ++ byte ∷ []) = AllByRecursion-push IsDigit (decimal v) byte (digits_decimal v (omega arith)) digit in
    let whole : (decimal v ++ byte ∷ []) ++ after ≡ decimal n ++ q = rw append_assoc (rw (← split) (sym e ∙ field.spelled)) in
    let more = run (decimal v ++ byte ∷ []) after (decimal n) q all field.ended whole in
    elim edge [ inl zero_ ↦ leading zero_ more.0 more.1 (leads_decimal n below) | inr high ↦ too_long high more.0 more.1 below ] where
      leading : v ≡ 0 → (more : List ℕ) → decimal n ≡ (decimal v ++ byte ∷ []) ++ more → Leads n (decimal n) → ⊥
      leading zero_ more long leads =
          let shown : decimal n ≡ 48 ∷ byte ∷ more = long ∙ rw (zero_, decimal_digit 0 (omega arith)) refl in
          let first : Leads n (48 ∷ byte ∷ more) = subst (Leads n) shown leads in
          elim first [ inl none ↦ (let short : 48 ∷ [] ≡ 48 ∷ byte ∷ more = sym (decimal_digit 0 (omega arith)) ∙ rw (← none) shown in absurd cc) | inr above ↦ omega (arith, above) ]

      too_long : 10 ^ 19 ≤ v → (more : List ℕ) → decimal n ≡ (decimal v ++ byte ∷ []) ++ more → n < 10 ^ 64 → ⊥
      too_long high more long below =
          let back : 48 + (byte - 48) ≡ byte = omega (arith, digit.0) in
          let pushed : decimal (10 * v + (byte - 48)) ≡ decimal v ++ byte ∷ [] = decimal_push v (byte - 48) (omega arith) small (omega (arith, digit.1)) ∙ ap (λ (b : ℕ). decimal v ++ b ∷ []) back in
          let shown : decimal n ≡ decimal (10 * v + (byte - 48)) ++ more = long ∙ ap (λ (x : List ℕ). x ++ more) (sym pushed) in
          let worth : n ≡ digits_value_after 10 (10 * v + (byte - 48)) more = sym (value_decimal n below) ∙ ap (digits_value 10) shown ∙ value-append 0 (decimal (10 * v + (byte - 48))) more
          ∙ ap (λ (k : ℕ). digits_value_after 10 k more) (value_decimal (10 * v + (byte - 48)) (omega (arith, digit.1))) in
          let least = value_grows (10 * v + (byte - 48)) more in
          omega (arith, field.small)

-- a number behind a text is a field
pub behind_text : (text bytes tail : List ℕ) (found : Option (ℕ × Bor (List ℕ))) → bytes ≡ text ++ tail
    → MatchOption found ((n : ℕ) (rest : List ℕ) → ¬ IsField [] tail n rest) (λ f. IsField [] tail f.0 f.1.now)
    → MatchOption found ((n : ℕ) (rest : List ℕ) → ¬ IsField text bytes n rest) (λ f. IsField text bytes f.0 f.1.now)
behind_text text bytes tail None e none = λ n rest field.
    none n rest (record { spelled = append_same text tail (decimal n ++ rest) (sym e ∙ field.spelled); small = field.small; ended = field.ended })
behind_text text bytes tail (Some f) e field = record { spelled = e ∙ ap (λ (x : List ℕ). text ++ x) field.spelled; small = field.small; ended = field.ended }

-- a digit stands before the line feed
pub digit_before_feed : (bytes : List ℕ) (end at : ℕ) → IsFed bytes end → at ≤ end → 48 ≤ get_or bytes at 0 → at < end
digit_before_feed bytes end at fed inside digit = elim (cases_lt at end) [
  | inl less ↦ less
  | inr past ↦ (
      let here : at ≡ end = omega arith in
      let low : 48 ≤ get_or bytes end 0 = subst (λ (k : ℕ). 48 ≤ get_or bytes k 0) here digit in
      absurd (omega (arith, low, fed.1)))
]

-- the next digit of a number that begins at `start`
pub goes_on_from : (front bytes : List ℕ) (start count n : ℕ) → 1 ≤ n → n < 10 ^ 20 → start + count < length bytes → IsDigit (get_or bytes (start + count) 0)
    → front ≡ decimal n ++ drop (start + count) bytes → front ≡ decimal (10 * n + (get_or bytes (start + count) 0 - 48)) ++ drop (start + (count + 1)) bytes
goes_on_from front bytes start count n positive small inside digit so_far =
    let next : start + count + 1 ≡ start + (count + 1) = omega arith in
    subst (λ (k : ℕ). front ≡ decimal (10 * n + (get_or bytes (start + count) 0 - 48)) ++ drop k bytes) next (goes_on_at front bytes (start + count) n positive small inside digit so_far)

-- the line before the place where the rest of the bytes begins
pub line_before : (bytes front : List ℕ) (end at : ℕ) → at ≡ end → bytes ≡ front ++ drop at bytes → take end bytes ≡ front
line_before bytes front end at here e =
    append_cancel_right (take end bytes) front (drop end bytes) (take-append-drop end bytes ∙ subst (λ (k : ℕ). bytes ≡ front ++ drop k bytes) here e)

-- the line at the front of what is lent
pub line_front : (line whole ahead kept : List ℕ) → kept ≡ line → whole ≡ line ++ ahead → take (length kept) whole ≡ line
line_front line whole ahead kept e f = rw (e, f) (take-append_seam line ahead)

-- what is left of a byte without a 0, as a number of 32 bits, is a digit's worth
pub digit_of : (byte : ℕ) → byte < 2 ^ 32 → (byte + 4294967248) % 4294967296 ≤ 9 → IsDigit byte × ((byte + 4294967248) % 4294967296 ≡ byte - 48)
digit_of byte small low = ((omega arith, omega arith), omega arith)
