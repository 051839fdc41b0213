-- Numbers, blanks and ends of lines.
use Rattle.std.proofs.Common.{◌≡◌, ℕ, zero, suc, ◌+◌, ◌*◌, ◌^◌, ◌<◌, ◌≤◌, true, false, List, [], ◌∷◌, ◌++◌, length, decimal, take, drop, get_or, refl, sym, ap, ◌∙◌, subst, inl, not, arith, length-drop}
use Rattle.std.specs.Fmt.{digits}
use Rattle.std.specs.Char.{digit_value}
use Rattle.std.specs.Str.Parse.{AllDigits, digits_value, digits_value_after}
use Rattle.std.specs.Str.{bytes_eq}
use Rattle.std.proofs.lemmas.Fmt.{digits_is_IsNumeral}
use Rattle.std.proofs.lemmas.Int.Digits.{digits_value_more}
use Rattle.std.proofs.lemmas.Slice.Eq.{bytes_eq-Decides}
use Rattle.trace_reader.specs.Words.{IsField}
use Rattle.trace_reader.proofs.Digits.{one_number}
use Rattle.report_text.specs.Words.{IsAddress, IsHead, IsLast}
use Rattle.report_text.proofs.Fields.{space-end}

-- ---- numbers at the front

abbrev pub Within : ℕ → Type 0
Within bound = bound ≤ 2 ^ 64

head_field : (bound n : ℕ) (bytes rest : List ℕ) → Within bound → IsHead bound bytes n rest → IsField [] bytes n (32 ∷ rest)
head_field bound n bytes rest within head = record { spelled = head.spelled; small = omega (arith, head.small); ended = inl (omega arith) }

last_field : (bound n : ℕ) (bytes : List ℕ) → Within bound → IsLast bound bytes n → IsField [] bytes n []
last_field bound n bytes within last = record { spelled = last.spelled; small = omega (arith, last.small); ended = tt }

-- a number past 64 bits is no other one
pub no_number_of_64 : (bytes r : List ℕ) (m : ℕ) → IsField [] bytes m r → 2 ^ 64 ≤ m → (n : ℕ) (rest : List ℕ) → n < 2 ^ 64 → ¬ IsField [] bytes n rest
no_number_of_64 bytes r m field large n rest small other = let same = (one_number bytes m n r rest field other).0 in omega arith

pub no_head : (bytes : List ℕ) → ((n : ℕ) (rest : List ℕ) → n < 2 ^ 64 → ¬ IsField [] bytes n rest) → (n : ℕ) (rest : List ℕ) → ¬ IsHead (2 ^ 64) bytes n rest
no_head bytes none n rest head = none n (32 ∷ rest) head.small (head_field (2 ^ 64) n bytes rest (omega arith) head)

pub no_blank : (bytes r : List ℕ) (m : ℕ) → IsField [] bytes m r → ((rest : List ℕ) → r ≡ 32 ∷ rest → ⊥) → (n : ℕ) (rest : List ℕ) → ¬ IsHead (2 ^ 64) bytes n rest
no_blank bytes r m field none n rest head = none rest (sym (one_number bytes m n r (32 ∷ rest) field (head_field (2 ^ 64) n bytes rest (omega arith) head)).1)

pub a_head : (bytes r rest : List ℕ) (m : ℕ) → m < 2 ^ 64 → IsField [] bytes m r → r ≡ 32 ∷ rest → IsHead (2 ^ 64) bytes m rest
a_head bytes r rest m small field blank = record { spelled = field.spelled ∙ ap (λ (x : List ℕ). decimal m ++ x) blank; small = small }

-- a number and a blank are read in one way
pub one_head : (j k m n : ℕ) (bytes r q : List ℕ) → Within j → Within k → IsHead j bytes m r → IsHead k bytes n q → (m ≡ n) × (r ≡ q)
one_head j k m n bytes r q first second head other = space-end m n r q (omega (arith, head.small)) (omega (arith, other.small)) (sym head.spelled ∙ other.spelled)

-- a number past a bound
pub no_smaller_head : (bound m : ℕ) (bytes r : List ℕ) → Within bound → IsHead (2 ^ 64) bytes m r → bound ≤ m → (n : ℕ) (rest : List ℕ) → ¬ IsHead bound bytes n rest
no_smaller_head bound m bytes r within head large n rest other =
    let same = (one_head (2 ^ 64) bound m n bytes r rest (omega arith) within head other).0 in
    let small = other.small in
    omega arith

pub a_smaller_head : (bound m : ℕ) (bytes r : List ℕ) → IsHead (2 ^ 64) bytes m r → m < bound → IsHead bound bytes m r
a_smaller_head bound m bytes r head small = record { spelled = head.spelled; small = small }

-- ---- numbers at the end

pub no_last : (bytes : List ℕ) → ((n : ℕ) (rest : List ℕ) → n < 2 ^ 64 → ¬ IsField [] bytes n rest) → (n : ℕ) → ¬ IsLast (2 ^ 64) bytes n
no_last bytes none n last = none n [] last.small (last_field (2 ^ 64) n bytes (omega arith) last)

pub no_end : (bytes r : List ℕ) (m : ℕ) → IsField [] bytes m r → (r ≡ [] → ⊥) → (n : ℕ) → ¬ IsLast (2 ^ 64) bytes n
no_end bytes r m field none n last = none (sym (one_number bytes m n r [] field (last_field (2 ^ 64) n bytes (omega arith) last)).1)

pub a_last : (bytes r : List ℕ) (m : ℕ) → m < 2 ^ 64 → IsField [] bytes m r → r ≡ [] → IsLast (2 ^ 64) bytes m
a_last bytes r m small field none = record { spelled = field.spelled ∙ ap (λ (x : List ℕ). decimal m ++ x) none; small = small }

pub no_smaller_last : (bound m : ℕ) (bytes : List ℕ) → Within bound → IsLast (2 ^ 64) bytes m → bound ≤ m → (n : ℕ) → ¬ IsLast bound bytes n
no_smaller_last bound m bytes within last large n other =
    let same = (one_number bytes m n [] [] (last_field (2 ^ 64) m bytes (omega arith) last) (last_field bound n bytes within other)).0 in
    let small = other.small in
    omega arith

pub a_smaller_last : (bound m : ℕ) (bytes : List ℕ) → IsLast (2 ^ 64) bytes m → m < bound → IsLast bound bytes m
a_smaller_last bound m bytes last small = record { spelled = last.spelled; small = small }

-- ---- addresses

-- what the digits of an address are worth
pub address_value : (bytes : List ℕ) (n : ℕ) → IsAddress bytes n → AllDigits 16 bytes × (digits_value 16 bytes ≡ n)
address_value bytes n address =
    let numeral = digits_is_IsNumeral 16 false (omega arith) (omega arith) n (omega (arith, address.small)) in
    (subst (AllDigits 16) (sym address.spelled) numeral.0.1, ap (digits_value 16) address.spelled ∙ numeral.1)

digit_at : (bytes : List ℕ) (i : ℕ) → AllDigits 16 bytes → i < length bytes → digit_value (get_or bytes i 0) < 16
digit_at [] i all less = absurd (omega arith)
digit_at (x ∷ xs) zero all less = all.0
digit_at (x ∷ xs) (suc i) all less = digit_at xs i all.1 (omega arith)

pub no_digit : (bytes : List ℕ) (i byte : ℕ) → i < length bytes → byte ≡ get_or bytes i 0 → (digit_value byte < 16 → ⊥) → (n : ℕ) → ¬ IsAddress bytes n
no_digit bytes i byte less same none n address = none (subst (λ (b : ℕ). digit_value b < 16) (sym same) (digit_at bytes i (address_value bytes n address).0 less))

value_grows : (k : ℕ) (xs : List ℕ) → k ≤ digits_value_after 16 k xs
value_grows k [] = omega arith
value_grows k (x ∷ xs) = let more = value_grows (k * 16 + digit_value x) xs in omega arith

value_shifts : (k : ℕ) (xs : List ℕ) → 0 < length xs → k * 16 ≤ digits_value_after 16 k xs
value_shifts k [] some = absurd (omega arith)
value_shifts k (x ∷ xs) some = let more = value_grows (k * 16 + digit_value x) xs in omega arith

value-split : (i k : ℕ) (xs : List ℕ) → digits_value_after 16 k xs ≡ digits_value_after 16 (digits_value_after 16 k (take i xs)) (drop i xs)
value-split zero k [] = refl
value-split (suc i) k [] = refl
value-split zero k (x ∷ xs) = refl
value-split (suc i) k (x ∷ xs) = value-split i (k * 16 + digit_value x) xs

-- digits behind a number of 60 bits or more
pub too_large : (bytes : List ℕ) (i value : ℕ) → i < length bytes → value ≡ digits_value 16 (take i bytes) → 2 ^ 60 ≤ value → (n : ℕ) → ¬ IsAddress bytes n
too_large bytes i value less so_far large n address =
    let worth = (address_value bytes n address).1 in
    let split : digits_value 16 bytes ≡ digits_value_after 16 value (drop i bytes) = value-split i 0 bytes ∙ ap (λ (k : ℕ). digits_value_after 16 k (drop i bytes)) (sym so_far) in
    let left = length-drop i bytes in
    let most = value_shifts value (drop i bytes) (omega arith) in
    let small = address.small in
    omega arith

pub more_digits : (bytes : List ℕ) (i value byte digit : ℕ) → i < length bytes → value ≡ digits_value 16 (take i bytes) → byte ≡ get_or bytes i 0 → digit ≡ digit_value byte → 16 * value + digit ≡ digits_value 16 (take (i + 1) bytes)
more_digits bytes i value byte digit less so_far same is =
    let more = digits_value_more 16 bytes i less in
    let here : digit ≡ digit_value (get_or bytes i 0) = is ∙ ap digit_value same in
    omega arith

pub all_digits : (bytes : List ℕ) (i value : ℕ) → length bytes ≤ i → value ≡ digits_value 16 (take i bytes) → value ≡ digits_value 16 bytes
all_digits bytes i value all so_far = so_far ∙ ap (digits_value 16) (take_all i bytes all) where
  take_all : (i : ℕ) (xs : List ℕ) → length xs ≤ i → take i xs ≡ xs
  take_all zero [] all = refl
  take_all (suc i) [] all = refl
  take_all zero (x ∷ xs) all = absurd (omega arith)
  take_all (suc i) (x ∷ xs) all = ap (λ (ys : List ℕ). x ∷ ys) (take_all i xs (omega arith))

-- digits that are not those that the number is written with
pub no_other_address : (bytes shown none : List ℕ) (value : ℕ) → value ≡ digits_value 16 bytes → none ≡ [] → shown ≡ none ++ digits 16 false value → true ≡ not (bytes_eq shown bytes) → (n : ℕ) → ¬ IsAddress bytes n
no_other_address bytes shown none value worth empty is test n address =
    let number : value ≡ n = worth ∙ (address_value bytes n address).1 in
    let same : shown ≡ bytes = is ∙ ap (λ (x : List ℕ). x ++ digits 16 false value) empty ∙ ap (digits 16 false) number ∙ sym address.spelled in
    let clash : true ≡ not true = test ∙ ap not ((bytes_eq-Decides shown bytes).1 same) in
    absurd cc
