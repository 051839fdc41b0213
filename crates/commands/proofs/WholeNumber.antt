-- A word that is a number.
use Rattle.std.proofs.Common.{◌≡◌, ℕ, ◌^◌, ◌<◌, List, [], length, false, ◌==◌, decimal, sym, ◌∙◌, arith}
use Rattle.std.proofs.lemmas.List.{append-nil}
use Rattle.trace_reader.specs.Words.{IsField}
use Rattle.trace_reader.proofs.Digits.{one_number, decimal_injective_wide}
use Rattle.trace_reader.proofs.Forms.{not_empty}

field : (word : List ℕ) (n : ℕ) → n < 10 ^ 20 → word ≡ decimal n → IsField [] word n []
field word n small is = record { spelled = is ∙ sym (append-nil (decimal n)); small = small; ended = tt }

pub no_whole : (word : List ℕ) → ((n : ℕ) (rest : List ℕ) → ¬ IsField [] word n rest) → (n : ℕ) → n < 10 ^ 20 → word ≡ decimal n → ⊥
no_whole word none n small is = none n [] (field word n small is)

pub not_whole : (word rest : List ℕ) (v : ℕ) → IsField [] word v rest → (length rest == 0) ≡ false → (n : ℕ) → n < 10 ^ 20 → word ≡ decimal n → ⊥
not_whole word rest v found more n small is = not_empty rest more (let one = one_number word n v [] rest (field word n small is) found in one.1)

pub other_number : (word : List ℕ) (v n : ℕ) → v < 10 ^ 20 → n < 10 ^ 20 → word ≡ decimal v → word ≡ decimal n → v ≡ n
other_number word v n a b e f = decimal_injective_wide v n (omega (arith, a)) (omega (arith, b)) (sym e ∙ f)
