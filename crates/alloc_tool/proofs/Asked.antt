-- Words that ask for one thing ask for no other.
use Rattle.std.proofs.Common.{◌≡◌, ℕ, ◌+◌, List, [], ◌∷◌, codes, refl, sym, ◌∙◌, ap, String, arith}
use Rattle.std.specs.declared.alloc.Global.{Global}
use Rattle.trace_reader.proofs.Digits.{decimal_injective_wide}
use Rattle.commands.specs.Pieces.{AsksPieces}
use Rattle.commands.specs.Watchers.{AsksWatchers}
use Rattle.alloc_tool.specs.Words.{IsCheck, IsDemo, IsHeap, IsRun, AsksForMade}

heads : (a b : List ℕ) (xs ys : List (List ℕ)) → a ∷ xs ≡ b ∷ ys → a ≡ b
heads a b xs ys e = cc

-- `run` is not `demo`
pub run_or_demo : (words : List (String Global)) (seed objects : ℕ) → IsRun words → IsDemo words seed objects → ⊥
run_or_demo words seed objects run demo = (let e : codes "run" ≡ codes "demo" = heads _ _ _ _ (sym run.2.1 ∙ demo.spelled) in cc)

-- `check` is neither, nor `classes` or `gen`; nor is `heap`
pub run_or_check : (words : List (String Global)) → IsRun words → IsCheck words → ⊥
run_or_check words run check = (let e : codes "run" ≡ codes "check" = heads _ _ _ _ (sym run.2.1 ∙ check) in cc)

pub run_or_heap : (words : List (String Global)) → IsRun words → IsHeap words → ⊥
run_or_heap words run heap = (let e : codes "run" ≡ codes "heap" = heads _ _ _ _ (sym run.2.1 ∙ heap) in cc)

one_or_three : (a x y z : List ℕ) → a ∷ [] ≡ x ∷ y ∷ z ∷ [] → ⊥
one_or_three a x y z e = cc

pub check_or_seeded : (word : List ℕ) (words : List (String Global)) (seed objects : ℕ) → IsCheck words → AsksForMade word words seed objects → ⊥
check_or_seeded word words seed objects check seeded = one_or_three _ _ _ _ (sym check ∙ seeded.spelled)

pub heap_or_seeded : (word : List ℕ) (words : List (String Global)) (seed objects : ℕ) → IsHeap words → AsksForMade word words seed objects → ⊥
heap_or_seeded word words seed objects heap seeded = one_or_three _ _ _ _ (sym heap ∙ seeded.spelled)

last_two : (a b c x y : List ℕ) → a ∷ b ∷ c ∷ [] ≡ a ∷ x ∷ y ∷ [] → (b ≡ x) × (c ≡ y)
last_two a b c x y e = (cc, cc)

-- a seed and a number of objects are spelled in one way
pub one_seeded : (word : List ℕ) (words : List (String Global)) (s o s' o' : ℕ) → AsksForMade word words s o → AsksForMade word words s' o' → (s ≡ s') × (o ≡ o')
one_seeded word words s o s' o' a b =
    let both = last_two word _ _ _ _ (sym a.spelled ∙ b.spelled) in
    let sa = a.seed_limit in
    let sb = b.seed_limit in
    let oa = a.few in
    let ob = b.few in
    (decimal_injective_wide s s' (omega arith) (omega arith) both.0, decimal_injective_wide o o' (omega arith) (omega arith) both.1)

-- words that ask for a judging in pieces are none of the others
pub run_or_pieces : (words : List (String Global)) (n : ℕ) → IsRun words → AsksPieces words n → ⊥
run_or_pieces words n run pieces = (let e : codes "run" ≡ codes "check" = heads _ _ _ _ (sym run.2.1 ∙ pieces.spelled) in cc)

one_or_two : (a x y : List ℕ) → a ∷ [] ≡ x ∷ y ∷ [] → ⊥
one_or_two a x y e = cc

two_or_three : (a b x y z : List ℕ) → a ∷ b ∷ [] ≡ x ∷ y ∷ z ∷ [] → ⊥
two_or_three a b x y z e = cc

pub check_or_pieces : (words : List (String Global)) (n : ℕ) → IsCheck words → AsksPieces words n → ⊥
check_or_pieces words n check pieces = one_or_two _ _ _ (sym check ∙ pieces.spelled)

pub pieces_or_seeded : (word : List ℕ) (words : List (String Global)) (n seed objects : ℕ) → AsksPieces words n → AsksForMade word words seed objects → ⊥
pieces_or_seeded word words n seed objects pieces seeded = two_or_three _ _ _ _ _ (sym pieces.spelled ∙ seeded.spelled)

pub heap_or_pieces : (words : List (String Global)) (n : ℕ) → IsHeap words → AsksPieces words n → ⊥
heap_or_pieces words n heap pieces = one_or_two _ _ _ (sym heap ∙ pieces.spelled)

-- words that ask for watchers are none of the others, and ask for one number of them
pub run_or_watch : (words : List (String Global)) (n : ℕ) → IsRun words → AsksWatchers words n → ⊥
run_or_watch words n run watch = (let e : codes "run" ≡ codes "watch" = heads _ _ _ _ (sym run.2.1 ∙ watch.spelled) in cc)

-- `c` is not `w`
first : List ℕ → ℕ
first [] = 0
first (x ∷ xs) = x

twenty_apart : (a b : ℕ) → a ≡ b → a + 20 ≡ b → ⊥
twenty_apart a b same apart = omega arith

pub pieces_or_watch : (words : List (String Global)) (n m : ℕ) → AsksPieces words n → AsksWatchers words m → ⊥
unfolding first
pieces_or_watch words n m pieces watch = twenty_apart 99 119 (ap first (heads (codes "check") (codes "watch") _ _ (sym pieces.spelled ∙ watch.spelled))) refl

pub check_or_watch : (words : List (String Global)) (n : ℕ) → IsCheck words → AsksWatchers words n → ⊥
check_or_watch words n check watch = one_or_two _ _ _ (sym check ∙ watch.spelled)

pub heap_or_watch : (words : List (String Global)) (n : ℕ) → IsHeap words → AsksWatchers words n → ⊥
heap_or_watch words n heap watch = one_or_two _ _ _ (sym heap ∙ watch.spelled)

pub watch_or_seeded : (word : List ℕ) (words : List (String Global)) (n seed objects : ℕ) → AsksWatchers words n → AsksForMade word words seed objects → ⊥
watch_or_seeded word words n seed objects watch seeded = two_or_three _ _ _ _ _ (sym watch.spelled ∙ seeded.spelled)

seconds : (a b c : List ℕ) → a ∷ b ∷ [] ≡ a ∷ c ∷ [] → b ≡ c
seconds a b c e = cc

pub one_watch : (words : List (String Global)) (n m : ℕ) → AsksWatchers words n → AsksWatchers words m → n ≡ m
one_watch words n m a b =
    let na = a.few in
    let nb = b.few in
    decimal_injective_wide n m (omega arith) (omega arith) (seconds (codes "watch") _ _ (sym a.spelled ∙ b.spelled))
