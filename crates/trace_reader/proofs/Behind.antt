-- What the fault behind a trace says of the whole input.
use Rattle.std.proofs.Common.{◌≡◌, ℕ, ◌+◌, ◌-◌, ◌^◌, List, length, min, Option, Some, None, refl, sym, ◌∙◌, inr}
use Rattle.std.specs.Io.KnownBytes.{Consumes}
use Rattle.trace_reader.specs.declared.trace.Trace.{Trace}
use Rattle.trace_reader.specs.declared.fault.TraceFault.{TraceFault}
use Rattle.trace_reader.specs.Limits.{Spells}
use Rattle.trace_reader.specs.Spelling.{statements_of}
use Rattle.trace_reader.specs.Refusal.{nothing_behind, pieces_of}
use Rattle.trace_reader.specs.Refused.{IsRefused}

-- the fault behind a trace is a fault of the whole input
pub refused_behind : (left mid : Option (List ℕ)) (bytes : List ℕ) (t : Trace) (n : ℕ) (fault : TraceFault)
    → Consumes left mid bytes → Spells bytes t → n ≡ min (1 + length (statements_of t)) (2 ^ 64 - 1)
    → ((rest : List ℕ) → mid ≡ Some rest → nothing_behind n (pieces_of rest) ≡ Some fault) → IsRefused left fault
refused_behind None mid bytes t n fault taken spells number fails = λ all e. absurd (let f : None ≡ Some all = e in cc)
refused_behind (Some xs) None bytes t n fault taken spells number fails = absurd taken
refused_behind (Some xs) (Some rest) bytes t n fault taken spells number fails = λ all e.
    let same : xs ≡ all = (let f : Some xs ≡ Some all = e in cc) in
    inr (record { front = bytes; rest = rest; split = sym same ∙ taken; trace = t; spelled = spells; behind = rw (← number) (fails rest refl) })
