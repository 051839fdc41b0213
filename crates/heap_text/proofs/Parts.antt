-- Numbers and the texts between them are read in one way.
use Rattle.std.proofs.Common.{◌≡◌, ℕ, ◌^◌, ◌<◌, ◌≤◌, false, List, [], ◌∷◌, ◌++◌, codes, decimal, refl, sym, ap, ap₂, ◌∙◌, subst, inl, inr, arith}
use Rattle.std.specs.Fmt.{digits}
use Rattle.std.proofs.lemmas.List.{append-nil}
use Rattle.trace_reader.specs.Words.{IsField, NoDigitFirst}
use Rattle.trace_reader.proofs.Digits.{one_number}
use Rattle.report_text.specs.Words.{IsAddress}
use Rattle.report_text.proofs.Fields.{same_behind}
use Rattle.report_text.proofs.Numbers.{address_value}
use Rattle.heap_text.specs.declared.text.HeapLine.{HeapLine}
use Rattle.heap_text.specs.declared.sums.Sums.{Sums}
use Rattle.heap_text.specs.Text.{four_text, heap_line, numbers_of, top_line}
use Rattle.heap_text.specs.Words.{AreNumbers, IsFour, IsPart, SaysLine, SaysTop}

-- ---- a number

part_field : (behind bytes rest : List ℕ) (n : ℕ) → IsPart behind bytes n rest → IsField [] bytes n (behind ++ rest)
part_field behind bytes rest n part = record { spelled = part.spelled; small = omega (arith, part.small); ended = part.ended }

pub no_part_of_64 : (behind bytes r : List ℕ) (m : ℕ) → IsField [] bytes m r → 2 ^ 64 ≤ m → (n : ℕ) (rest : List ℕ) → ¬ IsPart behind bytes n rest
no_part_of_64 behind bytes r m field large n rest part =
    let same = (one_number bytes m n r (behind ++ rest) field (part_field behind bytes rest n part)).0 in
    let small = part.small in
    omega arith

pub no_text_behind : (behind bytes r : List ℕ) (m : ℕ) → IsField [] bytes m r → ((rest : List ℕ) → r ≡ behind ++ rest → ⊥) → (n : ℕ) (rest : List ℕ) → ¬ IsPart behind bytes n rest
no_text_behind behind bytes r m field none n rest part = none rest (sym (one_number bytes m n r (behind ++ rest) field (part_field behind bytes rest n part)).1)

pub a_part : (behind bytes r rest : List ℕ) (m : ℕ) → IsField [] bytes m r → m < 2 ^ 64 → r ≡ behind ++ rest → IsPart behind bytes m rest
a_part behind bytes r rest m field small is = record {
  spelled = field.spelled ∙ ap (λ (x : List ℕ). decimal m ++ x) is;
  small = small;
  ended = subst NoDigitFirst is field.ended;
}

pub one_part : (behind bytes r q : List ℕ) (m n : ℕ) → IsPart behind bytes m r → IsPart behind bytes n q → (m ≡ n) × (r ≡ q)
one_part behind bytes r q m n first second =
    let both = one_number bytes m n (behind ++ r) (behind ++ q) (part_field behind bytes r m first) (part_field behind bytes q n second) in
    (sym both.0, same_behind behind r q (sym both.1))

-- ---- four numbers

-- what the parts of four numbers are
abbrev from_4 : Sums → List ℕ → List ℕ
from_4 s rest = decimal s.all_bytes ++ (codes "] @ " ++ rest)

abbrev from_3 : Sums → List ℕ → List ℕ
from_3 s rest = decimal s.all_objects ++ (codes ": " ++ from_4 s rest)

abbrev from_2 : Sums → List ℕ → List ℕ
from_2 s rest = decimal s.bytes ++ (codes " [" ++ from_3 s rest)

part_1 : (bytes rest : List ℕ) (s : Sums) → IsFour bytes s rest → IsPart (codes ": ") bytes s.objects (from_2 s rest)
part_1 bytes rest s four = record { spelled = four.spelled; small = four.numbers.objects; ended = inr (omega arith) }

part_2 : (r rest : List ℕ) (s : Sums) → r ≡ from_2 s rest → AreNumbers s → IsPart (codes " [") r s.bytes (from_3 s rest)
part_2 r rest s is numbers = record { spelled = is; small = numbers.bytes; ended = inl (omega arith) }

part_3 : (r rest : List ℕ) (s : Sums) → r ≡ from_3 s rest → AreNumbers s → IsPart (codes ": ") r s.all_objects (from_4 s rest)
part_3 r rest s is numbers = record { spelled = is; small = numbers.all_objects; ended = inr (omega arith) }

part_4 : (r rest : List ℕ) (s : Sums) → r ≡ from_4 s rest → AreNumbers s → IsPart (codes "] @ ") r s.all_bytes rest
part_4 r rest s is numbers = record { spelled = is; small = numbers.all_bytes; ended = inr (omega arith) }

abbrev NoPart : List ℕ → List ℕ → Type 0
NoPart behind bytes = (n : ℕ) (rest : List ℕ) → ¬ IsPart behind bytes n rest

pub no_1 : (bytes : List ℕ) → NoPart (codes ": ") bytes → (s : Sums) (rest : List ℕ) → ¬ IsFour bytes s rest
no_1 bytes none s rest four = none s.objects _ (part_1 bytes rest s four)

behind_1 : (bytes r : List ℕ) (a : ℕ) → IsPart (codes ": ") bytes a r → (s : Sums) (rest : List ℕ) → IsFour bytes s rest → r ≡ from_2 s rest
behind_1 bytes r a first s rest four = (one_part (codes ": ") bytes r (from_2 s rest) a s.objects first (part_1 bytes rest s four)).1

pub no_2 : (bytes r : List ℕ) (a : ℕ) → IsPart (codes ": ") bytes a r → NoPart (codes " [") r → (s : Sums) (rest : List ℕ) → ¬ IsFour bytes s rest
no_2 bytes r a first none s rest four = none s.bytes _ (part_2 r rest s (behind_1 bytes r a first s rest four) four.numbers)

behind_2 : (bytes r q : List ℕ) (a b : ℕ) → IsPart (codes ": ") bytes a r → IsPart (codes " [") r b q → (s : Sums) (rest : List ℕ) → IsFour bytes s rest → q ≡ from_3 s rest
behind_2 bytes r q a b first second s rest four =
    (one_part (codes " [") r q (from_3 s rest) b s.bytes second (part_2 r rest s (behind_1 bytes r a first s rest four) four.numbers)).1

pub no_3 : (bytes r q : List ℕ) (a b : ℕ) → IsPart (codes ": ") bytes a r → IsPart (codes " [") r b q → NoPart (codes ": ") q → (s : Sums) (rest : List ℕ) → ¬ IsFour bytes s rest
no_3 bytes r q a b first second none s rest four = none s.all_objects _ (part_3 q rest s (behind_2 bytes r q a b first second s rest four) four.numbers)

pub no_4 : (bytes r q p : List ℕ) (a b c : ℕ) → IsPart (codes ": ") bytes a r → IsPart (codes " [") r b q → IsPart (codes ": ") q c p → NoPart (codes "] @ ") p → (s : Sums) (rest : List ℕ) → ¬ IsFour bytes s rest
no_4 bytes r q p a b c first second third none s rest four =
    let is = (one_part (codes ": ") q p (from_4 s rest) c s.all_objects third (part_3 q rest s (behind_2 bytes r q a b first second s rest four) four.numbers)).1 in
    none s.all_bytes _ (part_4 p rest s is four.numbers)

pub a_four : (bytes r q p rest : List ℕ) (s : Sums) → IsPart (codes ": ") bytes s.objects r → IsPart (codes " [") r s.bytes q → IsPart (codes ": ") q s.all_objects p → IsPart (codes "] @ ") p s.all_bytes rest → IsFour bytes s rest
a_four bytes r q p rest s first second third fourth = record {
  spelled = first.spelled ∙ ap (λ (x : List ℕ). decimal s.objects ++ (codes ": " ++ x)) (second.spelled
      ∙ ap (λ (x : List ℕ). decimal s.bytes ++ (codes " [" ++ x)) (third.spelled ∙ ap (λ (x : List ℕ). decimal s.all_objects ++ (codes ": " ++ x)) fourth.spelled));
  numbers = record { objects = first.small; bytes = second.small; all_objects = third.small; all_bytes = fourth.small };
}

made_sums : ℕ → ℕ → ℕ → ℕ → Sums
made_sums p q r s = record { objects = p; bytes = q; all_objects = r; all_bytes = s }

same_made : (a a' b b' c c' d d' : ℕ) → a ≡ a' → b ≡ b' → c ≡ c' → d ≡ d' → made_sums a b c d ≡ made_sums a' b' c' d'
same_made a a' b b' c c' d d' p q r s = cc

pub same_sums : (a b : Sums) → a.objects ≡ b.objects → a.bytes ≡ b.bytes → a.all_objects ≡ b.all_objects → a.all_bytes ≡ b.all_bytes → a ≡ b
unfolding made_sums
same_sums a b p q r s = same_made a.objects b.objects a.bytes b.bytes a.all_objects b.all_objects a.all_bytes b.all_bytes p q r s

-- four numbers are read in one way
pub one_four : (bytes r q : List ℕ) (a b : Sums) → IsFour bytes a r → IsFour bytes b q → (a ≡ b) × (r ≡ q)
one_four bytes r q a b left right =
    let one = one_part (codes ": ") bytes (from_2 a r) (from_2 b q) a.objects b.objects (part_1 bytes r a left) (part_1 bytes q b right) in
    let two = one_part (codes " [") (from_2 a r) (from_3 a r) (from_3 b q) a.bytes b.bytes (part_2 (from_2 a r) r a refl left.numbers) (part_2 (from_2 a r) q b one.1 right.numbers) in
    let three = one_part (codes ": ") (from_3 a r) (from_4 a r) (from_4 b q) a.all_objects b.all_objects (part_3 (from_3 a r) r a refl left.numbers) (part_3 (from_3 a r) q b two.1 right.numbers) in
    let four = one_part (codes "] @ ") (from_4 a r) r q a.all_bytes b.all_bytes (part_4 (from_4 a r) r a refl left.numbers) (part_4 (from_4 a r) q b three.1 right.numbers) in
    (same_sums a b one.0 two.0 three.0 four.0, four.1)

-- ---- the line of a bucket

pub no_large_stack : (bytes : List ℕ) (m : ℕ) → IsAddress bytes m → 2 ^ 32 ≤ m → (n : ℕ) → n < 2 ^ 32 → ¬ IsAddress bytes n
no_large_stack bytes m address large n small other =
    let one = (address_value bytes m address).1 in
    let two = (address_value bytes n other).1 in
    omega arith

pub one_address : (bytes : List ℕ) (m n : ℕ) → IsAddress bytes m → IsAddress bytes n → m ≡ n
one_address bytes m n address other = sym (address_value bytes m address).1 ∙ (address_value bytes n other).1

four_of_line : (bytes : List ℕ) (line : HeapLine) → SaysLine bytes line → IsFour bytes (numbers_of line) (codes "0x" ++ digits 16 false line.stack)
four_of_line bytes line says = record { spelled = says.spelled; numbers = says.numbers }

address_of : (line : HeapLine) (r : List ℕ) → line.stack < 2 ^ 32 → r ≡ digits 16 false line.stack → IsAddress r line.stack
address_of line r small is = record { spelled = is; small = omega arith }

pub no_line_four : (bytes : List ℕ) → ((s : Sums) (rest : List ℕ) → ¬ IsFour bytes s rest) → (line : HeapLine) → ¬ SaysLine bytes line
no_line_four bytes none line says = none (numbers_of line) _ (four_of_line bytes line says)

pub no_line_mark : (bytes r : List ℕ) (s : Sums) → IsFour bytes s r → ((rest : List ℕ) → r ≡ codes "0x" ++ rest → ⊥) → (line : HeapLine) → ¬ SaysLine bytes line
no_line_mark bytes r s four none line says = none _ (one_four bytes r _ s (numbers_of line) four (four_of_line bytes line says)).1

pub no_line_stack : (bytes r q : List ℕ) (s : Sums) → IsFour bytes s r → r ≡ codes "0x" ++ q → ((n : ℕ) → n < 2 ^ 32 → ¬ IsAddress q n) → (line : HeapLine) → ¬ SaysLine bytes line
no_line_stack bytes r q s four mark none line says =
    let is : r ≡ codes "0x" ++ digits 16 false line.stack = (one_four bytes r _ s (numbers_of line) four (four_of_line bytes line says)).1 in
    none line.stack says.stack (address_of line q says.stack (same_behind (codes "0x") q (digits 16 false line.stack) (sym mark ∙ is)))

pub a_line : (bytes r q : List ℕ) (line : HeapLine) → IsFour bytes (numbers_of line) r → r ≡ codes "0x" ++ q → IsAddress q line.stack → line.stack < 2 ^ 32 → SaysLine bytes line
a_line bytes r q line four mark address small = record {
  spelled = four.spelled ∙ ap (λ (x : List ℕ). four_text (numbers_of line) x) (mark ∙ ap (λ (x : List ℕ). codes "0x" ++ x) address.spelled);
  numbers = four.numbers;
  stack = small;
}

with_stack : Sums → ℕ → HeapLine
with_stack s n = record { objects = s.objects; bytes = s.bytes; all_objects = s.all_objects; all_bytes = s.all_bytes; stack = n }

same_line : (a b : HeapLine) → numbers_of a ≡ numbers_of b → a.stack ≡ b.stack → a ≡ b
unfolding with_stack
same_line a b numbers stack =
    ap₂ (λ (s : Sums) (n : ℕ). with_stack s n) numbers stack

-- a line is of at most one bucket
pub one_line : (bytes : List ℕ) (a b : HeapLine) → SaysLine bytes a → SaysLine bytes b → a ≡ b
one_line bytes a b left right =
    let both = one_four bytes _ _ (numbers_of a) (numbers_of b) (four_of_line bytes a left) (four_of_line bytes b right) in
    let is = same_behind (codes "0x") (digits 16 false a.stack) (digits 16 false b.stack) both.1 in
    same_line a b both.0 (one_address (digits 16 false a.stack) a.stack b.stack (address_of a _ left.stack refl) (address_of b _ right.stack is))

-- ---- the first line

behind_name : (bytes r : List ℕ) (twice : ℕ) (sums : Sums) → bytes ≡ codes "heap profile: " ++ r → SaysTop bytes twice sums → IsFour r sums (codes "heap/" ++ (decimal twice ++ []))
behind_name bytes r twice sums name says = record {
  spelled = same_behind (codes "heap profile: ") r (four_text sums (codes "heap/" ++ (decimal twice ++ []))) (sym name ∙ says.spelled);
  numbers = says.numbers;
}

rate_part : (r : List ℕ) (twice : ℕ) → twice < 2 ^ 64 → r ≡ decimal twice ++ [] → IsPart [] r twice []
rate_part r twice small is = record { spelled = is; small = small; ended = tt }

behind_four : (bytes r q : List ℕ) (s : Sums) (twice : ℕ) (sums : Sums) → bytes ≡ codes "heap profile: " ++ r → IsFour r s q → SaysTop bytes twice sums → q ≡ codes "heap/" ++ (decimal twice ++ [])
behind_four bytes r q s twice sums name four says = (one_four r q _ s sums four (behind_name bytes r twice sums name says)).1

pub no_top_name : (bytes : List ℕ) → ((r : List ℕ) → bytes ≡ codes "heap profile: " ++ r → ⊥) → (twice : ℕ) (sums : Sums) → ¬ SaysTop bytes twice sums
no_top_name bytes none twice sums says = none _ says.spelled

pub no_top_four : (bytes r : List ℕ) → bytes ≡ codes "heap profile: " ++ r → ((s : Sums) (rest : List ℕ) → ¬ IsFour r s rest) → (twice : ℕ) (sums : Sums) → ¬ SaysTop bytes twice sums
no_top_four bytes r name none twice sums says = none sums _ (behind_name bytes r twice sums name says)

pub no_top_mark : (bytes r q : List ℕ) (s : Sums) → bytes ≡ codes "heap profile: " ++ r → IsFour r s q → ((rest : List ℕ) → q ≡ codes "heap/" ++ rest → ⊥) → (twice : ℕ) (sums : Sums) → ¬ SaysTop bytes twice sums
no_top_mark bytes r q s name four none twice sums says = none _ (behind_four bytes r q s twice sums name four says)

behind_mark : (bytes r q p : List ℕ) (s : Sums) (twice : ℕ) (sums : Sums) → bytes ≡ codes "heap profile: " ++ r → IsFour r s q → q ≡ codes "heap/" ++ p → SaysTop bytes twice sums → IsPart [] p twice []
behind_mark bytes r q p s twice sums name four mark says =
    rate_part p twice says.rate (same_behind (codes "heap/") p (decimal twice ++ []) (sym mark ∙ behind_four bytes r q s twice sums name four says))

pub no_top_rate : (bytes r q p : List ℕ) (s : Sums) → bytes ≡ codes "heap profile: " ++ r → IsFour r s q → q ≡ codes "heap/" ++ p → NoPart [] p → (twice : ℕ) (sums : Sums) → ¬ SaysTop bytes twice sums
no_top_rate bytes r q p s name four mark none twice sums says = none twice [] (behind_mark bytes r q p s twice sums name four mark says)

pub no_top_end : (bytes r q p o : List ℕ) (s : Sums) (n : ℕ) → bytes ≡ codes "heap profile: " ++ r → IsFour r s q → q ≡ codes "heap/" ++ p → IsPart [] p n o → (o ≡ [] → ⊥) → (twice : ℕ) (sums : Sums) → ¬ SaysTop bytes twice sums
no_top_end bytes r q p o s n name four mark part none twice sums says = none (one_part [] p o [] n twice part (behind_mark bytes r q p s twice sums name four mark says)).1

pub a_top : (bytes r q p o : List ℕ) (s : Sums) (n : ℕ) → bytes ≡ codes "heap profile: " ++ r → IsFour r s q → q ≡ codes "heap/" ++ p → IsPart [] p n o → o ≡ [] → SaysTop bytes n s
a_top bytes r q p o s n name four mark part none = record {
  spelled = name ∙ ap (λ (x : List ℕ). codes "heap profile: " ++ x) (four.spelled ∙ ap (λ (x : List ℕ). four_text s x)
      (mark ∙ ap (λ (x : List ℕ). codes "heap/" ++ x) (part.spelled ∙ ap (λ (x : List ℕ). decimal n ++ x) none)));
  numbers = four.numbers;
  rate = part.small;
}

-- a first line tells one rate and one set of sums
pub one_top : (bytes : List ℕ) (m n : ℕ) (a b : Sums) → SaysTop bytes m a → SaysTop bytes n b → (m ≡ n) × (a ≡ b)
one_top bytes m n a b left right =
    let r = four_text a (codes "heap/" ++ (decimal m ++ [])) in
    let both = one_four r _ _ a b (behind_name bytes r m a left.spelled left) (behind_name bytes r n b left.spelled right) in
    let rest = same_behind (codes "heap/") (decimal m ++ []) (decimal n ++ []) both.1 in
    let same = one_part [] (decimal m ++ []) [] [] m n (rate_part (decimal m ++ []) m left.rate refl) (rate_part (decimal m ++ []) n right.rate rest) in
    (same.0, both.0)
