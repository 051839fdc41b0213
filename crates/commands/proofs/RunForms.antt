-- The forms of the options of `run`, by the number of their words.
use Rattle.std.proofs.Common.{◌≡◌, ◌⊎◌, ◌≤◌, ◌↔◌, ℕ, Bool, true, false, IsTrue, List, [], ◌∷◌, ◌++◌, length, get_or, map, zero, suc, inl, inr, refl, ap, sym, true≢false, ◌∙◌, arith, codes, String, string_bytes}
use Rattle.std.specs.declared.alloc.Global.{Global}
use Rattle.commands.specs.Options.{AreKnown, AreOfRun, HasEach, IsNumber, digit, each_word}
use Rattle.commands.specs.RunWords.{IsDigit, IsJoined, IsSplit}

-- a number from 0 to 4
pub digit_cases : (P : ℕ → Type 0) → P 0 → P 1 → P 2 → P 3 → P 4 → (n : ℕ) → n ≤ 4 → P n
digit_cases P a b c d e zero few = a
digit_cases P a b c d e (suc zero) few = b
digit_cases P a b c d e (suc (suc zero)) few = c
digit_cases P a b c d e (suc (suc (suc zero))) few = d
digit_cases P a b c d e (suc (suc (suc (suc zero)))) few = e
digit_cases P a b c d e (suc (suc (suc (suc (suc n))))) few = absurd (omega arith)

-- it is none that it is not
pub no_digit : (word : List ℕ) → (word ≡ codes "0" → ⊥) → (word ≡ codes "1" → ⊥) → (word ≡ codes "2" → ⊥) → (word ≡ codes "3" → ⊥) → (word ≡ codes "4" → ⊥) → IsDigit word → ⊥
no_digit word a b c d e is = digit_cases (λ n. word ≡ digit n → ⊥) a b c d e is.0 is.1 is.2

one_is : (a b : List ℕ) → a ∷ [] ≡ b ∷ [] → a ≡ b
one_is a b e = cc

two_are : (a b x y : List ℕ) → a ∷ b ∷ [] ≡ x ∷ y ∷ [] → (a ≡ x) × (b ≡ y)
two_are a b x y e = (cc, cc)

three_are : (a b c x y z : List ℕ) → a ∷ b ∷ c ∷ [] ≡ x ∷ y ∷ z ∷ [] → (a ≡ x) × (b ≡ y) × (c ≡ z)
three_are a b c x y z e = (cc, cc, cc)

-- what one word and two words are that ask for a number
number_one : (a : List ℕ) (n : ℕ) → IsNumber (a ∷ []) n → IsJoined a
number_one a n is = elim is.spelled [
  | inl e ↦ (n, is.few, one_is _ _ e)
  | inr e ↦ absurd (let f : a ∷ [] ≡ codes "--background" ∷ digit n ∷ [] = e in cc)
]

number_two : (a b : List ℕ) (n : ℕ) → IsNumber (a ∷ b ∷ []) n → IsSplit a b
number_two a b n is = elim is.spelled [
  | inl e ↦ absurd (let f : a ∷ b ∷ [] ≡ (codes "--background=" ++ digit n) ∷ [] = e in cc)
  | inr e ↦ let both = two_are _ _ _ _ e in (both.0, (n, is.few, both.1))
]

number_more : (a b c : List ℕ) (rest : List (List ℕ)) (n : ℕ) → IsNumber (a ∷ b ∷ c ∷ rest) n → ⊥
number_more a b c rest n is = elim is.spelled [
  | inl e ↦ let f : a ∷ b ∷ c ∷ rest ≡ (codes "--background=" ++ digit n) ∷ [] = e in cc
  | inr e ↦ let f : a ∷ b ∷ c ∷ rest ≡ codes "--background" ∷ digit n ∷ [] = e in cc
]

number_none : (n : ℕ) → IsNumber [] n → ⊥
number_none n is = elim is.spelled [
  | inl e ↦ let f : [] ≡ (codes "--background=" ++ digit n) ∷ [] = e in cc
  | inr e ↦ let f : [] ≡ codes "--background" ∷ digit n ∷ [] = e in cc
]

pub joined_number : (a : List ℕ) (is : IsJoined a) → IsNumber (a ∷ []) is.0
joined_number a is = record { few = is.1; spelled = inl (ap (λ (w : List ℕ). w ∷ []) is.2) }

pub split_number : (a b : List ℕ) (is : IsSplit a b) → IsNumber (a ∷ b ∷ []) is.1.0
split_number a b is = record { few = is.1.1; spelled = inr (rw (is.0, is.1.2) refl) }

-- words with `--each` before or behind the words of a number
pub each_first : (rest : List (List ℕ)) (n : ℕ) → IsNumber rest n → AreKnown (each_word ∷ rest)
each_first rest n is = (n, true, inr (inr (inr (rest, is, inl refl, refl))))

pub each_last : (front : List (List ℕ)) (n : ℕ) → IsNumber front n → AreKnown (front ++ each_word ∷ [])
each_last front n is = (n, true, inr (inr (inr (front, is, inr refl, refl))))

pub number_alone : (words : List (List ℕ)) (n : ℕ) → IsNumber words n → AreKnown words
number_alone words n is = (n, false, inr (inr (inl (is, refl))))

pub each_alone : AreKnown (each_word ∷ [])
each_alone = (1, true, inr (inl (refl, refl, refl)))

pub none_known : AreKnown []
none_known = (1, false, inl (refl, refl, refl))

-- one word
pub one_known : (a : List ℕ) → AreKnown (a ∷ []) → (a ≡ each_word) ⊎ IsJoined a
one_known a known = elim known.2 [
  | inl e ↦ absurd (let f : a ∷ [] ≡ [] = e.0 in cc)
  | inr (inl e) ↦ inl (one_is _ _ e.0)
  | inr (inr (inl is)) ↦ inr (number_one a known.0 is.0)
  | inr (inr (inr is)) ↦ absurd (beside a is.0 known.0 is.1 is.2)
] where
  beside : (x : List ℕ) (number : List (List ℕ)) (n : ℕ) → IsNumber number n → HasEach (x ∷ []) number → ⊥
  beside x [] n is has = number_none n is
  beside x (y ∷ rest) n is (inl e) = let f : x ∷ [] ≡ each_word ∷ y ∷ rest = e in cc
  beside x (y ∷ []) n is (inr e) = let f : x ∷ [] ≡ y ∷ each_word ∷ [] = e in cc
  beside x (y ∷ z ∷ rest) n is (inr e) = let f : x ∷ [] ≡ y ∷ z ∷ (rest ++ each_word ∷ []) = e in cc

-- two words
pub two_known : (a b : List ℕ) → AreKnown (a ∷ b ∷ []) → IsSplit a b ⊎ ((a ≡ each_word) × IsJoined b) ⊎ (IsJoined a × (b ≡ each_word))
two_known a b known = elim known.2 [
  | inl e ↦ absurd (let f : a ∷ b ∷ [] ≡ [] = e.0 in cc)
  | inr (inl e) ↦ absurd (let f : a ∷ b ∷ [] ≡ each_word ∷ [] = e.0 in cc)
  | inr (inr (inl is)) ↦ inl (number_two a b known.0 is.0)
  | inr (inr (inr is)) ↦ inr (beside is.0 known.0 is.1 is.2)
] where
  beside : (number : List (List ℕ)) (n : ℕ) → IsNumber number n → HasEach (a ∷ b ∷ []) number → ((a ≡ each_word) × IsJoined b) ⊎ (IsJoined a × (b ≡ each_word))
  beside [] n is has = absurd (number_none n is)
  beside (y ∷ []) n is (inl e) = let both = two_are a b each_word y e in inl (both.0, rw both.1 (number_one y n is))
  beside (y ∷ []) n is (inr e) = let both = two_are a b y each_word e in inr (rw both.0 (number_one y n is), both.1)
  beside (y ∷ z ∷ rest) n is (inl e) = absurd (let f : a ∷ b ∷ [] ≡ each_word ∷ y ∷ z ∷ rest = e in cc)
  beside (y ∷ z ∷ []) n is (inr e) = absurd (let f : a ∷ b ∷ [] ≡ y ∷ z ∷ each_word ∷ [] = e in cc)
  beside (y ∷ z ∷ u ∷ rest) n is (inr e) = absurd (number_more y z u rest n is)

-- three words
pub three_known : (a b c : List ℕ) → AreKnown (a ∷ b ∷ c ∷ []) → ((a ≡ each_word) × IsSplit b c) ⊎ (IsSplit a b × (c ≡ each_word))
three_known a b c known = elim known.2 [
  | inl e ↦ absurd (let f : a ∷ b ∷ c ∷ [] ≡ [] = e.0 in cc)
  | inr (inl e) ↦ absurd (let f : a ∷ b ∷ c ∷ [] ≡ each_word ∷ [] = e.0 in cc)
  | inr (inr (inl is)) ↦ absurd (number_more a b c [] known.0 is.0)
  | inr (inr (inr is)) ↦ beside is.0 known.0 is.1 is.2
] where
  beside : (number : List (List ℕ)) (n : ℕ) → IsNumber number n → HasEach (a ∷ b ∷ c ∷ []) number → ((a ≡ each_word) × IsSplit b c) ⊎ (IsSplit a b × (c ≡ each_word))
  beside [] n is has = absurd (number_none n is)
  beside (y ∷ []) n is (inl e) = absurd (let f : a ∷ b ∷ c ∷ [] ≡ each_word ∷ y ∷ [] = e in cc)
  beside (y ∷ []) n is (inr e) = absurd (let f : a ∷ b ∷ c ∷ [] ≡ y ∷ each_word ∷ [] = e in cc)
  beside (y ∷ z ∷ []) n is (inl e) = let all = three_are a b c each_word y z e in inl (all.0, rw (all.1, all.2) (number_two y z n is))
  beside (y ∷ z ∷ []) n is (inr e) = let all = three_are a b c y z each_word e in inr (rw (all.0, all.1) (number_two y z n is), all.2)
  beside (y ∷ z ∷ u ∷ rest) n is has = absurd (number_more y z u rest n is)

-- four words and more
pub more_known : (a b c d : List ℕ) (rest : List (List ℕ)) → AreKnown (a ∷ b ∷ c ∷ d ∷ rest) → ⊥
more_known a b c d rest known = elim known.2 [
  | inl e ↦ let f : a ∷ b ∷ c ∷ d ∷ rest ≡ [] = e.0 in cc
  | inr (inl e) ↦ let f : a ∷ b ∷ c ∷ d ∷ rest ≡ each_word ∷ [] = e.0 in cc
  | inr (inr (inl is)) ↦ number_more a b c (d ∷ rest) known.0 is.0
  | inr (inr (inr is)) ↦ beside is.0 known.0 is.1 is.2
] where
  beside : (number : List (List ℕ)) (n : ℕ) → IsNumber number n → HasEach (a ∷ b ∷ c ∷ d ∷ rest) number → ⊥
  beside [] n is has = number_none n is
  beside (y ∷ []) n is (inl e) = let f : a ∷ b ∷ c ∷ d ∷ rest ≡ each_word ∷ y ∷ [] = e in cc
  beside (y ∷ []) n is (inr e) = let f : a ∷ b ∷ c ∷ d ∷ rest ≡ y ∷ each_word ∷ [] = e in cc
  beside (y ∷ z ∷ []) n is (inl e) = let f : a ∷ b ∷ c ∷ d ∷ rest ≡ each_word ∷ y ∷ z ∷ [] = e in cc
  beside (y ∷ z ∷ []) n is (inr e) = let f : a ∷ b ∷ c ∷ d ∷ rest ≡ y ∷ z ∷ each_word ∷ [] = e in cc
  beside (y ∷ z ∷ u ∷ more) n is has = number_more y z u more n is

-- ---- behind `run`

pub known_of_run : (words options : List (List ℕ)) → words ≡ codes "run" ∷ options → AreKnown options → AreOfRun words
known_of_run words options e known = (known.0, known.1, (options, e, known.2))

tail_is : (a b : List ℕ) (xs ys : List (List ℕ)) → a ∷ xs ≡ b ∷ ys → xs ≡ ys
tail_is a b xs ys e = cc

head_is : (a b : List ℕ) (xs ys : List (List ℕ)) → a ∷ xs ≡ b ∷ ys → a ≡ b
head_is a b xs ys e = cc

pub of_run_known : (words options : List (List ℕ)) (first : List ℕ) → words ≡ first ∷ options → AreOfRun words → AreKnown options
of_run_known words options first e of = (of.0, of.1, rw (tail_is _ _ _ _ (sym e ∙ of.2.1)) of.2.2)

pub named_run : (words options : List (List ℕ)) (first : List ℕ) → words ≡ first ∷ options → AreOfRun words → first ≡ codes "run"
named_run words options first e of = head_is _ _ _ _ (sym e ∙ of.2.1)

-- the words of these numbers
pub texts_one : (words : List (String Global)) (a : String Global) → length words ≡ 1 → a ≡ get_or words 0 a → map string_bytes words ≡ string_bytes a ∷ []
texts_one [] a n at = absurd (let e : 0 ≡ 1 = n in cc)
texts_one (u ∷ []) a n at = rw (← at) refl
texts_one (u ∷ v ∷ rest) a n at = absurd (let e : length (u ∷ v ∷ rest) ≡ 1 = n in omega arith)

pub texts_two : (words : List (String Global)) (a b : String Global) → length words ≡ 2 → a ≡ get_or words 0 a → b ≡ get_or words 1 b → map string_bytes words ≡ string_bytes a ∷ string_bytes b ∷ []
texts_two [] a b n at bt = absurd (let e : 0 ≡ 2 = n in cc)
texts_two (u ∷ []) a b n at bt = absurd (let e : length (u ∷ []) ≡ 2 = n in omega arith)
texts_two (u ∷ v ∷ []) a b n at bt = rw (← at, ← bt) refl
texts_two (u ∷ v ∷ w ∷ rest) a b n at bt = absurd (let e : length (u ∷ v ∷ w ∷ rest) ≡ 2 = n in omega arith)

pub texts_three : (words : List (String Global)) (a b c : String Global) → length words ≡ 3 → a ≡ get_or words 0 a → b ≡ get_or words 1 b → c ≡ get_or words 2 c
    → map string_bytes words ≡ string_bytes a ∷ string_bytes b ∷ string_bytes c ∷ []
texts_three [] a b c n at bt ct = absurd (let e : 0 ≡ 3 = n in cc)
texts_three (u ∷ []) a b c n at bt ct = absurd (let e : length (u ∷ []) ≡ 3 = n in omega arith)
texts_three (u ∷ v ∷ []) a b c n at bt ct = absurd (let e : length (u ∷ v ∷ []) ≡ 3 = n in omega arith)
texts_three (u ∷ v ∷ w ∷ []) a b c n at bt ct = rw (← at, ← bt, ← ct) refl
texts_three (u ∷ v ∷ w ∷ x ∷ rest) a b c n at bt ct = absurd (let e : length (u ∷ v ∷ w ∷ x ∷ rest) ≡ 3 = n in omega arith)

pub texts_four : (words : List (String Global)) (a b c d : String Global) → length words ≡ 4 → a ≡ get_or words 0 a → b ≡ get_or words 1 b → c ≡ get_or words 2 c → d ≡ get_or words 3 d
    → map string_bytes words ≡ string_bytes a ∷ string_bytes b ∷ string_bytes c ∷ string_bytes d ∷ []
texts_four [] a b c d n at bt ct dt = absurd (let e : 0 ≡ 4 = n in cc)
texts_four (u ∷ []) a b c d n at bt ct dt = absurd (let e : length (u ∷ []) ≡ 4 = n in omega arith)
texts_four (u ∷ v ∷ []) a b c d n at bt ct dt = absurd (let e : length (u ∷ v ∷ []) ≡ 4 = n in omega arith)
texts_four (u ∷ v ∷ w ∷ []) a b c d n at bt ct dt = absurd (let e : length (u ∷ v ∷ w ∷ []) ≡ 4 = n in omega arith)
texts_four (u ∷ v ∷ w ∷ x ∷ []) a b c d n at bt ct dt = rw (← at, ← bt, ← ct, ← dt) refl
texts_four (u ∷ v ∷ w ∷ x ∷ y ∷ rest) a b c d n at bt ct dt = absurd (let e : length (u ∷ v ∷ w ∷ x ∷ y ∷ rest) ≡ 4 = n in omega arith)

-- ---- what the tests tell

not_told : (b : Bool) (P : Type 0) → IsTrue b ↔ P → b ≡ false → P → ⊥
not_told b P told is p = true≢false (sym (told.1 p) ∙ is)

-- one word
pub one_each : (a : List ℕ) (e : Bool) → IsTrue e ↔ (a ≡ each_word) → e ≡ true → IsTrue true ↔ AreKnown (a ∷ [])
one_each a e told is = (λ _. rw (told.0 is) each_alone, λ _. refl)

pub one_joined : (a : List ℕ) (e j : Bool) → IsTrue e ↔ (a ≡ each_word) → e ≡ false → IsTrue j ↔ IsJoined a → IsTrue j ↔ AreKnown (a ∷ [])
one_joined a e j each is joined = (
  λ yes. let n = joined.0 yes in number_alone (a ∷ []) n.0 (joined_number a n),
  λ known. elim (one_known a known) [ inl f ↦ absurd (not_told e _ each is f) | inr n ↦ joined.1 n ],
)

-- `--each` asks for no number
each_joined : IsJoined each_word → ⊥
each_joined n = let e : each_word ≡ codes "--background=" ++ digit n.0 = n.2 in cc

each_split : (b : List ℕ) → IsSplit each_word b → ⊥
each_split b is = let e : each_word ≡ codes "--background" = is.0 in cc

split_each : (a : List ℕ) → IsSplit a each_word → ⊥
split_each a is = let e : each_word ≡ digit is.1.0 = is.1.2 in cc

-- two words
pub two_first : (a b : List ℕ) (e j : Bool) → IsTrue e ↔ (a ≡ each_word) → e ≡ true → IsTrue j ↔ IsJoined b → IsTrue j ↔ AreKnown (a ∷ b ∷ [])
two_first a b e j each is joined =
    let same : a ≡ each_word = each.0 is in (
      λ yes. let n = joined.0 yes in rw same (each_first (b ∷ []) n.0 (joined_number b n)),
      λ known. elim (two_known a b known) [
        | inl s ↦ absurd (each_split b (rw same at s))
        | inr (inl s) ↦ joined.1 s.1
        | inr (inr s) ↦ absurd (each_joined (rw same at s.0))
      ],
    )

pub two_last : (a b : List ℕ) (e f j : Bool) → IsTrue e ↔ (a ≡ each_word) → e ≡ false → IsTrue f ↔ (b ≡ each_word) → f ≡ true → IsTrue j ↔ IsJoined a → IsTrue j ↔ AreKnown (a ∷ b ∷ [])
two_last a b e f j each is last ends joined =
    let same : b ≡ each_word = last.0 ends in (
      λ yes. let n = joined.0 yes in rw same (each_last (a ∷ []) n.0 (joined_number a n)),
      λ known. elim (two_known a b known) [
        | inl s ↦ absurd (split_each a (rw same at s))
        | inr (inl s) ↦ absurd (not_told e _ each is s.0)
        | inr (inr s) ↦ joined.1 s.0
      ],
    )

pub two_apart : (a b : List ℕ) (e f j : Bool) → IsTrue e ↔ (a ≡ each_word) → e ≡ false → IsTrue f ↔ (b ≡ each_word) → f ≡ false → IsTrue j ↔ IsSplit a b → IsTrue j ↔ AreKnown (a ∷ b ∷ [])
two_apart a b e f j each is last ends split = (
  λ yes. let n = split.0 yes in number_alone (a ∷ b ∷ []) n.1.0 (split_number a b n),
  λ known. elim (two_known a b known) [
    | inl s ↦ split.1 s
    | inr (inl s) ↦ absurd (not_told e _ each is s.0)
    | inr (inr s) ↦ absurd (not_told f _ last ends s.1)
  ],
)

-- three words
pub three_first : (a b c : List ℕ) (e j : Bool) → IsTrue e ↔ (a ≡ each_word) → e ≡ true → IsTrue j ↔ IsSplit b c → IsTrue j ↔ AreKnown (a ∷ b ∷ c ∷ [])
three_first a b c e j each is split =
    let same : a ≡ each_word = each.0 is in (
      λ yes. let n = split.0 yes in rw same (each_first (b ∷ c ∷ []) n.1.0 (split_number b c n)),
      λ known. elim (three_known a b c known) [
        | inl s ↦ split.1 s.1
        | inr s ↦ absurd (each_split b (rw same at s.0))
      ],
    )

pub three_last : (a b c : List ℕ) (e f j : Bool) → IsTrue e ↔ (a ≡ each_word) → e ≡ false → IsTrue f ↔ (c ≡ each_word) → f ≡ true → IsTrue j ↔ IsSplit a b → IsTrue j ↔ AreKnown (a ∷ b ∷ c ∷ [])
three_last a b c e f j each is last ends split =
    let same : c ≡ each_word = last.0 ends in (
      λ yes. let n = split.0 yes in rw same (each_last (a ∷ b ∷ []) n.1.0 (split_number a b n)),
      λ known. elim (three_known a b c known) [
        | inl s ↦ absurd (not_told e _ each is s.0)
        | inr s ↦ split.1 s.0
      ],
    )

pub three_apart : (a b c : List ℕ) (e f : Bool) → IsTrue e ↔ (a ≡ each_word) → e ≡ false → IsTrue f ↔ (c ≡ each_word) → f ≡ false → IsTrue false ↔ AreKnown (a ∷ b ∷ c ∷ [])
three_apart a b c e f each is last ends = (
  λ yes. absurd (true≢false (sym yes)),
  λ known. elim (three_known a b c known) [
    | inl s ↦ absurd (not_told e _ each is s.0)
    | inr s ↦ absurd (not_told f _ last ends s.1)
  ],
)

-- `run` and words behind it
pub told_of_run : (words options : List (List ℕ)) (first : List ℕ) (t : Bool) → words ≡ first ∷ options → first ≡ codes "run" → IsTrue t ↔ AreKnown options → IsTrue t ↔ AreOfRun words
told_of_run words options first t is name told = (
  λ yes. known_of_run words options (rw (is, name) refl) (told.0 yes),
  λ of. told.1 (of_run_known words options first is of),
)
