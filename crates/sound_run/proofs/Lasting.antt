-- How long an object of a cycle lasts.
use Rattle.std.proofs.Common.{◌≡◌, ℕ, suc, ◌+◌, ◌<◌, ◌≤◌, List, ◌∷◌, ◌++◌, length, refl, arith, inl, inr}
use Rattle.std.proofs.lemmas.Bool.{cases_lt}
use Rattle.trace_reader.specs.declared.trace.Trace.{Trace}
use Rattle.trace_reader.specs.declared.trace.Cycle.{Cycle}
use Rattle.trace_reader.specs.Limits.{AreCycles}
use Rattle.cycle_history.proofs.Cycles.{before-requests, before-next}
use Rattle.cycle_history.specs.Requests.{requests_from, marked_by}
use Rattle.cycle_history.specs.Before.{objects_before}
use Rattle.cycle_history.specs.Objects.{Object}
use Rattle.sound_run.specs.Run.{Lasts}
use Rattle.cycle_history.proofs.Firsts.{before-rise}
use Rattle.cycle_history.proofs.Rising.{marked-early, marked-may}
use Rattle.std.proofs.Common.{◌≡◌, ℕ, suc, ◌≤◌, false, List, ◌∷◌, ◌++◌, length, refl, arith, inl}
use Rattle.trace_reader.specs.Limits.{AreCycles}
use Rattle.cycle_history.specs.Requests.{Marking, requests_from, marked_by}

-- ---- objects

-- an object of a trace whose number is that of an event of its cycle
lasts-numbered : (t : Trace) (o : Object) → AreCycles 0 (λ _. ⊥) t.cycles → objects_before t o.cycle ≤ o.id → o.id < objects_before t (suc o.cycle) → Lasts (marked_by t) o
lasts-numbered t o are low high = record {
  first = refl;
  next = λ m mark. elim (marked-may t m o.id are mark) [
    | inl old ↦ (let early = marked-early t m o.id are old in inr (before o.cycle m low early, old))
    | inr new ↦ (
        let behind = before o.cycle (suc m) low new.1 in
        let ahead = before m (suc o.cycle) new.0 high in
        inl (omega arith))
  ];
}
  where
    before : (c d : ℕ) → objects_before t c ≤ o.id → o.id < objects_before t d → c < d
    before c d le lt = elim (cases_lt c d) [ inl less ↦ less | inr more ↦ (let rises = before-rise t d c more in absurd (omega arith)) ]

-- an object of a cycle, behind the cycles that are done
pub lasts-next : (t : Trace) (done : List Cycle) (c : Cycle) (rest : List Cycle) (o : Object) → AreCycles 0 (λ _. ⊥) t.cycles → t.cycles ≡ done ++ c ∷ rest → o.cycle ≡ length done
    → length (requests_from 0 done) ≤ o.id → o.id < length (requests_from 0 done) + length c.events → Lasts (marked_by t) o
lasts-next t done c rest o are cycles cycle low high =
    let begin = before-requests t done c rest cycles in
    let end = before-next t done c rest cycles in
    lasts-numbered t o are (rw cycle (omega arith)) (rw cycle (omega arith))

-- ---- one cycle

-- an object that no mark end marks lasts
pub lasts-unmarked : (marked : Marking) (o : Object) → ((m : ℕ) → marked m o.id ≡ false) → Lasts marked o
lasts-unmarked marked o never = record { first = never 0; next = λ m h. (let off = never (suc m) in let none : ⊥ = cc in absurd none) }
