-- Words that ask for watchers.
use Rattle.std.proofs.Common.{◌≡◌, ◌≢◌, ℕ, ◌≤◌, List, [], ◌∷◌, length, map, get_or, codes, decimal, Option, Some, None, MatchOption, String, string_bytes, sym, ◌∙◌, ap, ap₂, arith}
use Rattle.std.specs.declared.alloc.Global.{Global}
use Rattle.commands.specs.Watchers.{AsksWatchers}

-- the two words
two_words : (words : List (String Global)) (a b : String Global) (name word : List ℕ) → length words ≡ 2 → string_bytes a ≡ name → a ≡ get_or words 0 a → b ≡ get_or words 1 b → word ≡ string_bytes b → map string_bytes words ≡ name ∷ word ∷ []
two_words [] a b name word two is at0 at1 other = absurd (let e : 0 ≡ 2 = two in cc)
two_words (u ∷ []) a b name word two is at0 at1 other = absurd (let e : length (u ∷ []) ≡ 2 = two in omega arith)
two_words (u ∷ v ∷ []) a b name word two is at0 at1 other =
    ap₂ (λ (x y : List ℕ). x ∷ y ∷ []) (ap string_bytes (sym at0) ∙ is) (ap string_bytes (sym at1) ∙ sym other)
two_words (u ∷ v ∷ w ∷ rest) a b name word two is at0 at1 other = absurd (let e : length (u ∷ v ∷ w ∷ rest) ≡ 2 = two in omega arith)

second : (a b x y : List ℕ) → a ∷ b ∷ [] ≡ x ∷ y ∷ [] → b ≡ y
second a b x y e = cc

-- what the second word asks for is what both do
pub asked_watchers : (words : List (String Global)) (a b : String Global) (word : List ℕ) → length words ≡ 2 → string_bytes a ≡ codes "watch" → a ≡ get_or words 0 a → b ≡ get_or words 1 b → word ≡ string_bytes b → (found : Option ℕ)
    → MatchOption found ((n : ℕ) → 1 ≤ n → n ≤ 4 → word ≢ decimal n) (λ n. (1 ≤ n) × (n ≤ 4) × (word ≡ decimal n)) → MatchOption found ((n : ℕ) → ¬ AsksWatchers words n) (λ n. AsksWatchers words n)
asked_watchers words a b word two name at0 at1 is None none =
    λ n asks. none n asks.some asks.few (second _ _ _ _ (sym (two_words words a b (codes "watch") word two name at0 at1 is) ∙ asks.spelled))
asked_watchers words a b word two name at0 at1 is (Some n) told = record {
  spelled = two_words words a b (codes "watch") word two name at0 at1 is ∙ ap (λ (x : List ℕ). codes "watch" ∷ x ∷ []) told.2;
  some = told.0;
  few = told.1;
}
