-- A spelled trace has no fault.
use Rattle.std.proofs.Common.{◌≡◌, ℕ, ◌+◌, ◌-◌, ◌^◌, ◌<◌, ◌≤◌, min, List, [], ◌∷◌, ◌++◌, length, codes, Option, refl, ap, ◌∙◌, arith, append_assoc, length-append}
use Rattle.std.specs.List.{flat_map}
use Rattle.edge_io.specs.Text.{text}
use Rattle.trace_reader.specs.declared.fault.TraceFault.{TraceFault}
use Rattle.trace_reader.specs.declared.statement.Statement.{Statement}
use Rattle.trace_reader.specs.declared.statement.Statement.TheVariants.{Title, End}
use Rattle.trace_reader.specs.declared.trace.Trace.{Trace}
use Rattle.trace_reader.specs.Spelling.{cycle_statements, heap_of, lines_of, spelled, statements_of}
use Rattle.trace_reader.specs.Limits.{WithinLimits}
use Rattle.trace_reader.specs.Refusal.{lines_fault, next_number, pieces_of}
use Rattle.trace_reader.specs.Good.{AreGood}
use Rattle.trace_reader.specs.Follows.{IsBody}
use Rattle.trace_reader.proofs.Saying.{said_line}
use Rattle.trace_reader.proofs.Judging.{lines_end, lines_go, onto}
use Rattle.trace_reader.proofs.Reading.{spelled-append}
use Rattle.trace_reader.proofs.Good.{end_is_line, fault_none, header_good, title_good}
use Rattle.trace_reader.proofs.Cycles.{body_onto, cycles_good, follows_end}

-- all lines but the last
abbrev pub front_of : Trace → List Statement
front_of t = Title t.header.version ∷ heap_of t.header ∷ flat_map cycle_statements t.cycles

pub front_good : (t : Trace) → WithinLimits t → AreGood [] (front_of t)
front_good t limits =
    let h = t.header in
    let procs = limits.header.procs in
    let low : h.procs < 2 ^ 32 = omega arith in
    let objects = limits.objects in
    let ends = limits.mark_ends in
    let marks = limits.marks in (
      (title_good h.version limits.header.version).0,
      (
        (header_good h.version h refl limits.header limits.region).0,
        cycles_good h.procs t.cycles low (heap_of h ∷ Title h.version ∷ []) 0 0 0 (λ _. ⊥) (record { body = tt; procs_are = refl; objects_are = refl; ends_are = refl; marks_are = refl }) (λ i none. absurd none)
            limits.cycles limits.events (omega arith) (omega arith) (omega arith),
      ),
    )

-- the last line and what follows stand behind the front
pub front_text : (t : Trace) (rest : List ℕ) → text (lines_of t) ++ rest ≡ spelled (front_of t) ++ (codes "end" ++ 10 ∷ rest)
front_text t rest = ap (λ (x : List ℕ). x ++ rest) (spelled-append (front_of t) (End ∷ [])) ∙ append_assoc (spelled (front_of t)) (spelled (End ∷ [])) rest

pub whole_fault : (behind : ℕ → List (List ℕ) → Option TraceFault) (n room : ℕ) (t : Trace) (rest : List ℕ) → WithinLimits t
    → length (text (lines_of t)) ≤ room → n ≤ 2 ^ 64 - 1
    → lines_fault behind n room [] (pieces_of (text (lines_of t) ++ rest)) ≡ behind (min (n + length (statements_of t)) (2 ^ 64 - 1)) (pieces_of rest)
whole_fault behind n room t rest limits fits low =
    let front = front_of t in
    let last = codes "end" in
    let good = front_good t limits in
    let joined : text (lines_of t) ≡ spelled front ++ spelled (End ∷ []) = spelled-append front (End ∷ []) in
    let apart = front_text t rest in
    let len : length (text (lines_of t)) ≡ length (spelled front) + 4 = ap length joined ∙ length-append (spelled front) (spelled (End ∷ [])) in
    let count = length-append front (End ∷ []) in
    let body : IsBody (onto front []) = body_onto (flat_map cycle_statements t.cycles) (heap_of t.header ∷ Title t.header.version ∷ []) tt in
    let go = lines_go behind n room [] front (last ++ 10 ∷ rest) good (omega arith) low in
    let m = min (n + length front) (2 ^ 64 - 1) in
    let end = lines_end behind m (room - length (spelled front)) (onto front []) last rest End end_is_line (omega arith) (said_line End tt) refl
    (fault_none (onto front []) End (follows_end (onto front []) body) refl refl refl m) in
    let number : next_number m ≡ min (n + length (statements_of t)) (2 ^ 64 - 1) = omega arith in
    ap (λ (x : List ℕ). lines_fault behind n room [] (pieces_of x)) apart ∙ go ∙ end ∙ ap (λ (k : ℕ). behind k (pieces_of rest)) number
