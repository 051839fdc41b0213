-- The test for one word.
use Rattle.std.proofs.Common.{◌≡◌, ◌↔◌, ℕ, Bool, IsTrue, List, [], ◌∷◌, length, get_or, ap, sym, ◌∙◌, arith, String, string_bytes}
use Rattle.std.specs.declared.alloc.Global.{Global}
use Rattle.std.specs.Str.{bytes_eq}
use Rattle.std.proofs.lemmas.Slice.Eq.{bytes_eq-Decides}
use Rattle.alloc_tool.specs.Words.{IsWord}

head_bytes : (a : List ℕ) (rest : List (List ℕ)) (b : List ℕ) → a ∷ rest ≡ b ∷ [] → a ≡ b
head_bytes a rest b e = cc

pub tells_word : (words : List (String Global)) (word : String Global) (text : List ℕ) (b : Bool) → length words ≡ 1 → word ≡ get_or words 0 word
    → b ≡ bytes_eq (string_bytes word) text → IsTrue b ↔ IsWord text words
tells_word [] word text b one at test = absurd (let e : 0 ≡ 1 = one in cc)
tells_word (w ∷ []) word text b one at test =
    let decides = bytes_eq-Decides (string_bytes word) text in
    let same : string_bytes word ≡ string_bytes w = ap string_bytes at in (
      λ yes. ap (λ (bytes : List ℕ). bytes ∷ []) (sym same ∙ decides.0 (rw (← test) yes)),
      λ is. rw test (decides.1 (same ∙ head_bytes _ _ _ is)),
    )
tells_word (w ∷ v ∷ rest) word text b one at test = absurd (let e : length (w ∷ v ∷ rest) ≡ 1 = one in omega arith)
