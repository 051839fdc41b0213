-- What is left behind the bytes of a trace.
use Rattle.std.proofs.Common.{◌≡◌, ℕ, List, [], ◌∷◌, length, Option, Some, None, refl, ap, arith, length-append}
use Rattle.std.specs.Io.KnownBytes.{Consumes}
use Rattle.trace_reader.specs.declared.fault.TraceFault.{TraceFault}
use Rattle.trace_reader.specs.Refusal.{nothing_behind, pieces_of}

length-zero : (xs : List ℕ) → length xs ≡ 0 → xs ≡ []
length-zero [] e = refl
length-zero (x ∷ xs) e = absurd (omega arith)

-- behind the bytes of a trace that were all taken, nothing is left to refuse
pub nothing_left : (left mid : Option (List ℕ)) (bytes taken : List ℕ) (n : ℕ) (fault : TraceFault) → left ≡ Some bytes → Consumes left mid taken → taken ≡ bytes
    → ((rest : List ℕ) → mid ≡ Some rest → nothing_behind n (pieces_of rest) ≡ Some fault) → ⊥
nothing_left None mid bytes taken n fault told takes all fails = (let e : None ≡ Some bytes = told in cc)
nothing_left (Some xs) None bytes taken n fault told takes all fails = absurd takes
nothing_left (Some xs) (Some rest) bytes taken n fault told takes all fails =
    let same : xs ≡ bytes = (let e : Some xs ≡ Some bytes = told in cc) in
    let none : length rest ≡ 0 = omega (arith, ap length takes, ap length same, ap length all, length-append taken rest) in
    let e : nothing_behind n (pieces_of []) ≡ Some fault = rw (length-zero rest none) at (fails rest refl) in
    (let f : None ≡ Some fault = e in cc)
