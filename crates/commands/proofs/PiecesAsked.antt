-- Words that ask for pieces.
use Rattle.std.proofs.Common.{◌≡◌, ◌≢◌, ℕ, ◌^◌, ◌<◌, ◌≤◌, List, [], ◌∷◌, ◌++◌, length, get_or, codes, decimal, Option, Some, None, MatchOption, String, string_bytes, sym, ◌∙◌, ap, ap₂, arith}
use Rattle.std.specs.declared.alloc.Global.{Global}
use Rattle.commands.specs.Pieces.{AsksPieces}
use Rattle.commands.proofs.WholeNumber.{other_number}

cancel : (xs ys zs : List ℕ) → xs ++ ys ≡ xs ++ zs → ys ≡ zs
cancel [] ys zs e = e
cancel (x ∷ xs) ys zs e = cancel xs ys zs (let f : x ∷ (xs ++ ys) ≡ x ∷ (xs ++ zs) = e in cc)

-- the number behind the option is the one that is asked for
pub same_count : (word rest : List ℕ) (v n : ℕ) → word ≡ codes "--pieces=" ++ rest → v < 10 ^ 20 → rest ≡ decimal v → n ≤ 64 → word ≡ codes "--pieces=" ++ decimal n → v ≡ n
same_count word rest v n e small is few told = other_number rest v n small (omega arith) is (cancel (codes "--pieces=") rest (decimal n) (sym e ∙ told))

second : (a b x y : List ℕ) → a ∷ b ∷ [] ≡ x ∷ y ∷ [] → b ≡ y
second a b x y e = cc

-- what the second word asks for is what both do
pub asked_pieces : (words : List (String Global)) (a b : String Global) (word : List ℕ) → length words ≡ 2 → string_bytes a ≡ codes "check" → a ≡ get_or words 0 a → b ≡ get_or words 1 b → word ≡ string_bytes b → (found : Option ℕ)
    → MatchOption found ((n : ℕ) → 1 ≤ n → n ≤ 64 → word ≢ codes "--pieces=" ++ decimal n) (λ n. (1 ≤ n) × (n ≤ 64) × (word ≡ codes "--pieces=" ++ decimal n))
    → MatchOption found ((n : ℕ) → ¬ AsksPieces words n) (λ n. AsksPieces words n)
asked_pieces [] a b word two name at0 at1 is found told = absurd (let e : 0 ≡ 2 = two in cc)
asked_pieces (u ∷ []) a b word two name at0 at1 is found told = absurd (let e : length (u ∷ []) ≡ 2 = two in omega arith)
asked_pieces (u ∷ v ∷ []) a b word two name at0 at1 is None none = λ n asks. none n asks.some asks.few (is ∙ ap string_bytes at1 ∙ second _ _ _ _ asks.spelled)
asked_pieces (u ∷ v ∷ []) a b word two name at0 at1 is (Some n) told = record {
  spelled = ap₂ (λ (x y : List ℕ). x ∷ y ∷ []) (ap string_bytes (sym at0) ∙ name) (ap string_bytes (sym at1) ∙ sym is ∙ told.2);
  some = told.0;
  few = told.1;
}
asked_pieces (u ∷ v ∷ w ∷ rest) a b word two name at0 at1 is found told = absurd (let e : length (u ∷ v ∷ w ∷ rest) ≡ 2 = two in omega arith)
