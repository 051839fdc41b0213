-- A word with a seed and a number of objects.
use Rattle.std.proofs.Common.{◌≡◌, ℕ, List, [], ◌∷◌, length, get_or, Option, Some, None, MatchOption, refl, arith, String, string_bytes}
use Rattle.std.specs.declared.alloc.Global.{Global}
use Rattle.commands.specs.Asks.{Asks}
use Rattle.commands.specs.declared.wanted.Wanted.{Wanted}
use Rattle.alloc_tool.specs.Words.{AsksForMade}

pub gen_asked : (word : List ℕ) (words : List (String Global)) (a b c : String Global) → length words ≡ 3 → string_bytes a ≡ word → a ≡ get_or words 0 a → b ≡ get_or words 1 b → c ≡ get_or words 2 c
    → (seed objects : ℕ) → Asks (string_bytes b) (string_bytes c) seed objects → AsksForMade word words seed objects
gen_asked word [] a b c three name at0 at1 at2 seed objects asks = absurd (let e : 0 ≡ 3 = three in cc)
gen_asked word (u ∷ []) a b c three name at0 at1 at2 seed objects asks = absurd (let e : length (u ∷ []) ≡ 3 = three in omega arith)
gen_asked word (u ∷ v ∷ []) a b c three name at0 at1 at2 seed objects asks = absurd (let e : length (u ∷ v ∷ []) ≡ 3 = three in omega arith)
gen_asked word (u ∷ v ∷ w ∷ []) a b c three name at0 at1 at2 seed objects asks =
    let s = asks.seed_spelled in
    let o = asks.objects_spelled in
    record { spelled = rw (← at0, ← at1, ← at2, name, s, o) refl; seed_limit = asks.seed_limit; some = asks.some; few = asks.few }
gen_asked word (u ∷ v ∷ w ∷ x ∷ rest) a b c three name at0 at1 at2 seed objects asks = absurd (let e : length (u ∷ v ∷ w ∷ x ∷ rest) ≡ 3 = three in omega arith)

first_is : (a b : List ℕ) (xs ys : List (List ℕ)) → a ∷ xs ≡ b ∷ ys → a ≡ b
first_is a b xs ys e = cc

heads : (a b c x y z : List ℕ) → a ∷ b ∷ c ∷ [] ≡ x ∷ y ∷ z ∷ [] → (a ≡ x) × (b ≡ y) × (c ≡ z)
heads a b c x y z e = (cc, cc, cc)

pub asked_gen : (word : List ℕ) (words : List (String Global)) (a b c : String Global) → a ≡ get_or words 0 a → b ≡ get_or words 1 b → c ≡ get_or words 2 c
    → (seed objects : ℕ) → AsksForMade word words seed objects → (string_bytes a ≡ word) × Asks (string_bytes b) (string_bytes c) seed objects
asked_gen word [] a b c at0 at1 at2 seed objects is = absurd (let e = is.spelled in cc)
asked_gen word (u ∷ []) a b c at0 at1 at2 seed objects is = absurd (let e = is.spelled in cc)
asked_gen word (u ∷ v ∷ []) a b c at0 at1 at2 seed objects is = absurd (let e = is.spelled in cc)
asked_gen word (u ∷ v ∷ w ∷ []) a b c at0 at1 at2 seed objects is =
    let e = heads _ _ _ _ _ _ is.spelled in
    (rw at0 e.0, record { seed_spelled = rw at1 e.1; seed_limit = is.seed_limit; objects_spelled = rw at2 e.2; some = is.some; few = is.few })
asked_gen word (u ∷ v ∷ w ∷ x ∷ rest) a b c at0 at1 at2 seed objects is = absurd (let e = is.spelled in cc)

pub gen_words : (word : List ℕ) (words : List (String Global)) (seed objects : ℕ) → AsksForMade word words seed objects → length words ≡ 3
gen_words word [] seed objects is = absurd (let e = is.spelled in cc)
gen_words word (u ∷ []) seed objects is = absurd (let e = is.spelled in cc)
gen_words word (u ∷ v ∷ []) seed objects is = absurd (let e = is.spelled in cc)
gen_words word (u ∷ v ∷ w ∷ []) seed objects is = refl
gen_words word (u ∷ v ∷ w ∷ x ∷ rest) seed objects is = absurd (let e = is.spelled in cc)

pub first_word : (word : List ℕ) (words : List (String Global)) (a : String Global) (seed objects : ℕ) → a ≡ get_or words 0 a → AsksForMade word words seed objects → string_bytes a ≡ word
first_word word [] a seed objects at0 is = absurd (let e = is.spelled in cc)
first_word word (u ∷ rest) a seed objects at0 is = rw at0 (first_is _ _ _ _ is.spelled)

-- what the last two words ask for is what all three do
pub asked_by : (word : List ℕ) (words : List (String Global)) (a b c : String Global) (seed_word objects_word : List ℕ) → length words ≡ 3 → string_bytes a ≡ word → a ≡ get_or words 0 a → b ≡ get_or words 1 b → c ≡ get_or words 2 c
    → seed_word ≡ string_bytes b → objects_word ≡ string_bytes c → (found : Option Wanted) → MatchOption found ((s o : ℕ) → ¬ Asks seed_word objects_word s o) (λ w. Asks seed_word objects_word w.seed w.objects)
    → MatchOption found ((s o : ℕ) → ¬ AsksForMade word words s o) (λ w. AsksForMade word words w.seed w.objects)
asked_by word words a b c seed_word objects_word three name at0 at1 at2 seed_is objects_is None none =
    λ s o is. none s o (rw (seed_is, objects_is) (asked_gen word words a b c at0 at1 at2 s o is).1)
asked_by word words a b c seed_word objects_word three name at0 at1 at2 seed_is objects_is (Some w) asks =
    gen_asked word words a b c three name at0 at1 at2 w.seed w.objects (rw (← seed_is, ← objects_is) asks)
