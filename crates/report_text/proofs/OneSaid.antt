-- A line says one thing, and is one line.
use Rattle.std.proofs.Common.{◌≡◌, ◌≢◌, ◌==◌, not, ◌&&◌, cond, eqb, Bool, true, false, ℕ, zero, suc, ◌+◌, ◌/◌, ◌%◌, ◌^◌, ◌<◌, ◌≤◌, List, [], ◌∷◌, ◌++◌, codes, decimal, drop, length, refl, sym, ap, ap₂, ◌∙◌, subst, arith, length-append}
use Rattle.std.specs.List.{list_all}
use Rattle.std.specs.Fmt.{digit_glyph, digits, digits_onto}
use Rattle.std.specs.Char.{digit_value}
use Rattle.std.specs.Str.Parse.{AllDigits}
use Rattle.std.proofs.lemmas.Fmt.{digits_is_IsNumeral, length-decimal-le}
use Rattle.edge_io.specs.Line.{HasNoFeed, IsLine}
use Rattle.page_bitmap.specs.declared.line.Line.{Line}
use Rattle.page_bitmap.specs.declared.line.Line.TheVariants.{Take, Miss, Give, Scav, Pull, Cut, Drop}
use Rattle.cycle_history.specs.declared.Answer.{Answer}
use Rattle.cycle_history.specs.declared.Answer.TheVariants.{Placed, Zero, Missed}
use Rattle.cycle_history.specs.Text.{answer_line, answer_text, journal_line, journal_text}
use Rattle.trace_reader.specs.Words.{IsDigit}
use Rattle.trace_reader.proofs.Digits.{digits_decimal}
use Rattle.trace_reader.proofs.Reading.{All-append}
use Rattle.trace_reader.proofs.Saying.{AllByRecursion-map}
use Rattle.report_text.specs.declared.item.Item.{Item}
use Rattle.report_text.specs.declared.item.Item.TheVariants.{Object, Journal, Sweep, Class, Bucket, End}
use Rattle.report_text.specs.Items.{ItemFits, Says, line_for}
use Rattle.report_text.specs.Unique.{AnswerFits, LineFits}
use Rattle.report_text.proofs.Fields.{first_same, same_behind, space-end}
use Rattle.report_text.proofs.OneItem.{answer-form, journal-form, answers_kind, journal_kind, sweeps_kind, totals_kind, profile_kind}

-- ---- one thing

letter : Item → ℕ
letter (Object n answer) = 111
letter (Journal n line) = 106
letter (Sweep note) = 115
letter (Class total) = 116
letter (Bucket prof) = 112
letter End = 101

begins : (x : Item) → (rest : List ℕ) × (line_for x ≡ letter x ∷ rest)
unfolding letter
begins (Object n answer) = (drop 1 (line_for (Object n answer)), refl)
begins (Journal n line) = (drop 1 (line_for (Journal n line)), refl)
begins (Sweep note) = (drop 1 (line_for (Sweep note)), refl)
begins (Class total) = (drop 1 (line_for (Class total)), refl)
begins (Bucket prof) = (drop 1 (line_for (Bucket prof)), refl)
begins End = (codes "nd", refl)

same_letter : (x y : Item) (s t : List ℕ) → (line_for x ++ 10 ∷ []) ++ s ≡ (line_for y ++ 10 ∷ []) ++ t → letter x ≡ letter y
same_letter x y s t e = first_same (letter x) (letter y) _ _ (sym (ap (λ (l : List ℕ). (l ++ 10 ∷ []) ++ s) (begins x).1) ∙ e ∙ ap (λ (l : List ℕ). (l ++ 10 ∷ []) ++ t) (begins y).1)

blank_first : (answer : Answer) → (rest : List ℕ) × (answer_text answer ≡ 32 ∷ rest)
blank_first (Placed address) = (drop 1 (answer_text (Placed address)), refl)
blank_first Zero = (codes "zero", refl)
blank_first (Missed number) = (drop 1 (answer_text (Missed number)), refl)

object_number : (m n : ℕ) (a b : Answer) (s t : List ℕ) → m < 2 ^ 64 → n < 2 ^ 64 → (answer_line m a ++ 10 ∷ []) ++ s ≡ (answer_line n b ++ 10 ∷ []) ++ t → m ≡ n
object_number m n a b s t fm fn e =
    let split = sym (answer-form (decimal m) (answer_text a) s) ∙ e ∙ answer-form (decimal n) (answer_text b) t in
    let behind = same_behind (codes "o ") (decimal m ++ (answer_text a ++ 10 ∷ s)) (decimal n ++ (answer_text b ++ 10 ∷ t)) split in
    let left = blank_first a in
    let right = blank_first b in
    (space-end m n (left.0 ++ 10 ∷ s) (right.0 ++ 10 ∷ t) fm fn
    (sym (ap (λ (l : List ℕ). decimal m ++ (l ++ 10 ∷ s)) left.1) ∙ behind ∙ ap (λ (l : List ℕ). decimal n ++ (l ++ 10 ∷ t)) right.1)).0

journal_number : (m n : ℕ) (a b : Line) (s t : List ℕ) → m < 2 ^ 64 → n < 2 ^ 64 → (journal_line m a ++ 10 ∷ []) ++ s ≡ (journal_line n b ++ 10 ∷ []) ++ t → m ≡ n
journal_number m n a b s t fm fn e =
    let split = sym (journal-form (decimal m) (journal_text a) s) ∙ e ∙ journal-form (decimal n) (journal_text b) t in
    (space-end m n _ _ fm fn (same_behind (codes "j ") _ _ split)).0

-- what two texts begin with
pub one_item : (x y : Item) (s t : List ℕ) → ItemFits x → ItemFits y → (line_for x ++ 10 ∷ []) ++ s ≡ (line_for y ++ 10 ∷ []) ++ t → (x ≡ y) × (s ≡ t)
unfolding letter
one_item (Object m a) (Object n b) s t fx fy e =
    let number = object_number m n a b s t fx.0 fy.0 e in
    let both = answers_kind.one n a b s t fx.1 fy.1 (subst (λ (k : ℕ). (answer_line k a ++ 10 ∷ []) ++ s ≡ (answer_line n b ++ 10 ∷ []) ++ t) number e) in
    (ap₂ Object number both.0, both.1)
one_item (Journal m a) (Journal n b) s t fx fy e =
    let number = journal_number m n a b s t fx.0 fy.0 e in
    let both = journal_kind.one n a b s t fx.1 fy.1 (subst (λ (k : ℕ). (journal_line k a ++ 10 ∷ []) ++ s ≡ (journal_line n b ++ 10 ∷ []) ++ t) number e) in
    (ap₂ Journal number both.0, both.1)
one_item (Sweep a) (Sweep b) s t fx fy e = let both = sweeps_kind.one 0 a b s t fx fy e in (ap Sweep both.0, both.1)
one_item (Class a) (Class b) s t fx fy e = let both = totals_kind.one 0 a b s t fx fy e in (ap Class both.0, both.1)
one_item (Bucket a) (Bucket b) s t fx fy e = let both = profile_kind.one 0 a b s t fx fy e in (ap Bucket both.0, both.1)
one_item End End s t fx fy e = (refl, same_behind (codes "end\n") s t e)
one_item x y s t fx fy e = absurd (let apart = same_letter x y s t e in omega arith)

pub one_said : (line : List ℕ) (x y : Item) → Says line x → Says line y → x ≡ y
one_said line x y left right = (one_item x y [] [] left.1 right.1 (ap (λ (l : List ℕ). (l ++ 10 ∷ []) ++ []) (sym left.0 ∙ right.0))).0

-- ---- one line

-- at most so many bytes, none of them a line feed
abbrev pub IsShort : ℕ → List ℕ → Type 0
IsShort most bytes = (length bytes ≤ most) × HasNoFeed bytes

pub join : (j k : ℕ) (xs ys : List ℕ) → IsShort j xs → IsShort k ys → IsShort (j + k) (xs ++ ys)
join j k xs ys left right =
    let whole = length-append xs ys in
    let first = left.0 in
    let then = right.0 in
    (omega arith, All-append (λ b. b ≢ 10) xs ys left.1 right.1)

pub number_short : (n : ℕ) → n < 2 ^ 64 → IsShort 20 (decimal n)
number_short n small = (length-decimal-le 20 n (omega arith) (omega arith) small, AllByRecursion-map IsDigit (λ b. b ≢ 10) (λ b digit e. omega (arith, digit.0, e)) (decimal n) (digits_decimal n (omega arith)))

not_ten : (b : ℕ) → (b == 10) ≡ false → b ≢ 10
not_ten b e same = (let clash : (10 == 10) ≡ false = subst (λ (c : ℕ). (c == 10) ≡ false) same e in absurd cc)

apart_test : (xs : List ℕ) → list_all (λ b. not (b == 10)) xs ≡ true → HasNoFeed xs
apart_test [] test = tt
apart_test (x ∷ xs) test = at (x == 10) refl test (apart_test xs) where
  at : (b : Bool) → (x == 10) ≡ b → not b && list_all (λ b. not (b == 10)) xs ≡ true → (list_all (λ b. not (b == 10)) xs ≡ true → HasNoFeed xs) → HasNoFeed (x ∷ xs)
  at true is test more = absurd cc
  at false is test more = (not_ten x is, more test)

nothing : IsShort 0 []
nothing = (omega arith, tt)

field : (text rest : List ℕ) (n k : ℕ) → list_all (λ b. not (b == 10)) text ≡ true → n < 2 ^ 64 → IsShort k rest → IsShort (length text + (20 + k)) (text ++ (decimal n ++ rest))
field text rest n k test small short = join (length text) (20 + k) text (decimal n ++ rest) (omega arith, apart_test text test) (join 20 k (decimal n) rest (number_short n small) short)

-- the same of a number of 32 bits, which has fewer digits
small_field : (text rest : List ℕ) (n k : ℕ) → list_all (λ b. not (b == 10)) text ≡ true → n < 2 ^ 32 → IsShort k rest → IsShort (length text + (10 + k)) (text ++ (decimal n ++ rest))
small_field text rest n k test small short = join (length text) (10 + k) text (decimal n ++ rest) (omega arith, apart_test text test) (join 10 k (decimal n) rest digits short) where
  digits : IsShort 10 (decimal n)
  digits = (length-decimal-le 10 n (omega arith) (omega arith) (omega arith), (number_short n (omega arith)).1)

pub longer : (j k : ℕ) (xs : List ℕ) → j ≤ k → IsShort j xs → IsShort k xs
longer j k xs le short = let few = short.0 in (omega arith, short.1)

pub hex_apart : (xs : List ℕ) → AllDigits 16 xs → HasNoFeed xs
hex_apart [] all = tt
hex_apart (x ∷ xs) all = (λ e. high (subst (λ (c : ℕ). digit_value c < 16) e all.0), hex_apart xs all.1) where
  high : 36 < 16 → ⊥
  high less = absurd (omega arith)

length_onto : (fuel n : ℕ) (acc : List ℕ) → length (digits_onto fuel 16 false n acc) ≤ fuel + length acc
length_onto zero n acc = omega arith
length_onto (suc k) n acc = at (eqb (n / 16) 0) (length_onto k (n / 16) (digit_glyph false (n % 16) ∷ acc)) where
  at : (b : Bool) → length (digits_onto k 16 false (n / 16) (digit_glyph false (n % 16) ∷ acc)) ≤ k + length (digit_glyph false (n % 16) ∷ acc)
      → length (cond b (digit_glyph false (n % 16) ∷ acc) (digits_onto k 16 false (n / 16) (digit_glyph false (n % 16) ∷ acc))) ≤ suc k + length acc
  at true more = omega arith
  at false more = omega arith

length_hex : (n : ℕ) → length (digits 16 false n) ≤ 64
unfolding digits
length_hex n = length_onto 64 n []

address_short : (n : ℕ) → n < 2 ^ 64 → IsShort 64 (digits 16 false n)
address_short n small = (length_hex n, hex_apart (digits 16 false n) (digits_is_IsNumeral 16 false (omega arith) (omega arith) n (omega arith)).0.1)

pub text_short : (text : List ℕ) → list_all (λ b. not (b == 10)) text ≡ true → IsShort (length text) text
text_short text test = (omega arith, apart_test text test)

answer_short : (answer : Answer) → AnswerFits answer → IsShort 67 (answer_text answer)
answer_short (Placed address) fits = join 3 64 (codes " 0x") (digits 16 false address) (text_short (codes " 0x") refl) (address_short address fits)
answer_short Zero fits = longer 5 67 (codes " zero") (omega arith) (text_short (codes " zero") refl)
answer_short (Missed number) fits = longer 26 67 (answer_text (Missed number)) (omega arith) (join 6 20 (codes " miss ") (decimal number) (text_short (codes " miss ") refl) (number_short number fits))

change_short : (change : Line) → LineFits change → IsShort 88 (journal_text change)
change_short (Take cycle page pages class) fits =
    field [] _ cycle _ refl (omega (arith, fits.0)) (field (codes " take ") _ page _ refl (omega (arith, fits.1)) (field (codes " ") _ pages _ refl (omega (arith, fits.2)) (field (codes " ") [] class 0 refl (omega (arith, fits.3)) nothing)))
change_short (Miss cycle pages class) fits =
    longer 67 88 (journal_text (Miss cycle pages class)) (omega arith)
    (field [] _ cycle _ refl (omega (arith, fits.0)) (field (codes " miss ") _ pages _ refl (omega (arith, fits.1)) (field (codes " ") [] class 0 refl (omega (arith, fits.2)) nothing)))
change_short (Give cycle page pages) fits =
    longer 67 88 (journal_text (Give cycle page pages)) (omega arith)
    (field [] _ cycle _ refl (omega (arith, fits.0)) (field (codes " give ") _ page _ refl (omega (arith, fits.1)) (field (codes " ") [] pages 0 refl (omega (arith, fits.2)) nothing)))
change_short (Scav cycle page pages) fits =
    longer 67 88 (journal_text (Scav cycle page pages)) (omega arith)
    (field [] _ cycle _ refl (omega (arith, fits.0)) (field (codes " scav ") _ page _ refl (omega (arith, fits.1)) (field (codes " ") [] pages 0 refl (omega (arith, fits.2)) nothing)))
change_short (Pull cycle proc page pages) fits =
    longer 48 88 (journal_text (Pull cycle proc page pages)) (omega arith)
    (small_field [] _ cycle _ refl fits.0 (small_field (codes " pull ") _ proc _ refl fits.1 (small_field (codes " ") _ page _ refl fits.2 (small_field (codes " ") [] pages 0 refl fits.3 nothing))))
change_short (Cut cycle proc page pages class) fits =
    longer 58 88 (journal_text (Cut cycle proc page pages class)) (omega arith)
    (small_field [] _ cycle _ refl fits.0 (small_field (codes " cut ") _ proc _ refl fits.1 (small_field (codes " ") _ page _ refl fits.2 (small_field (codes " ") _ pages _ refl fits.3
    (small_field (codes " ") [] class 0 refl (omega (arith, fits.4)) nothing)))))
change_short (Drop cycle proc page pages) fits =
    longer 48 88 (journal_text (Drop cycle proc page pages)) (omega arith)
    (small_field [] _ cycle _ refl fits.0 (small_field (codes " drop ") _ proc _ refl fits.1 (small_field (codes " ") _ page _ refl fits.2 (small_field (codes " ") [] pages 0 refl fits.3 nothing))))

pub item_is_line : (x : Item) → ItemFits x → IsLine (line_for x)
item_is_line (Object n answer) fits =
    longer 89 120 (line_for (Object n answer)) (omega arith) (field (codes "o ") _ n 67 refl fits.0 (join 67 0 (answer_text answer) [] (answer_short answer fits.1) nothing))
item_is_line (Journal n change) fits =
    longer 111 120 (line_for (Journal n change)) (omega arith) (field (codes "j ") _ n 89 refl fits.0 (join 1 88 (codes " ") (journal_text change ++ []) (text_short (codes " ") refl) (join 88 0 (journal_text change) [] (change_short change fits.1) nothing)))
item_is_line (Sweep note) fits =
    longer 85 120 (line_for (Sweep note)) (omega arith) (field (codes "s ") _ note.cycle _ refl (omega (arith, fits.cycle)) (field (codes " ") _ note.page _ refl (omega (arith, fits.page))
    (field (codes " ") _ note.kept _ refl (omega (arith, fits.kept)) (field (codes " ") [] note.freed 0 refl (omega (arith, fits.freed)) nothing))))
item_is_line (Class total) fits =
    longer 64 120 (line_for (Class total)) (omega arith) (field (codes "t ") _ total.class _ refl (omega (arith, fits.class)) (field (codes " ") _ total.mallocs _ refl fits.mallocs (field (codes " ") [] total.frees 0 refl fits.frees nothing)))
item_is_line (Bucket prof) fits =
    longer 106 120 (line_for (Bucket prof)) (omega arith) (field (codes "p ") _ prof.mark _ refl (omega (arith, fits.mark)) (field (codes " ") _ prof.stack _ refl (omega (arith, fits.stack)) (field (codes " ") _ prof.size _ refl fits.size
    (field (codes " ") _ prof.allocs _ refl fits.allocs (field (codes " ") [] prof.frees 0 refl fits.frees nothing)))))
item_is_line End fits = longer 3 120 (codes "end") (omega arith) (text_short (codes "end") refl)
