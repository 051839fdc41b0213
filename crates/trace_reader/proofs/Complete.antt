-- What is spelled is not refused.
use Rattle.std.proofs.Common.{◌≡◌, ℕ, ◌≤◌, List, [], ◌++◌, length, Option, Some, None, Result, Err, MatchResult, sym, ap, ◌∙◌, subst, arith}
use Rattle.edge_io.specs.declared.lines.Lines.{Lines}
use Rattle.edge_io.specs.Reading.{lines_left, number_of, room_of}
use Rattle.edge_io.specs.Text.{text}
use Rattle.trace_reader.specs.declared.fault.TraceFault.{TraceFault}
use Rattle.trace_reader.specs.declared.trace.Trace.{Trace}
use Rattle.trace_reader.specs.Spelling.{lines_of}
use Rattle.trace_reader.specs.Limits.{Spells}
use Rattle.trace_reader.specs.Refusal.{lines_fault, next_number, nothing_behind, pieces_of, refusal}
use Rattle.trace_reader.specs.Told.{IsFirstFault, IsOfTrace, TellsFault, TellsFirstFault}
use Rattle.trace_reader.specs.Read.{IsAhead, Reads}
use Rattle.trace_reader.proofs.Reading.{append_nil, known_rest}
use Rattle.trace_reader.proofs.NoFault.{whole_fault}
use Rattle.trace_reader.proofs.One.{one_trace}

-- Completeness

pub never_told : {S : Type 0} (left : S → Option (List ℕ)) (a : Lines S) (fault : TraceFault) (t : Trace) → IsFirstFault left a [] fault → IsAhead left a t → ⊥
never_told left a fault t first ahead =
    let behind : ℕ → List (List ℕ) → Option TraceFault = λ n ps. None in
    let told = first ahead.wet behind (ahead.bytes ++ ahead.rest) ahead.known in
    let room = ahead.spelled.room in
    let same : ahead.bytes ≡ text (lines_of t) = ahead.spelled.lines in
    let fits : length (text (lines_of t)) ≤ room_of a = subst (λ (x : List ℕ). length x ≤ room_of a) same room in
    let whole = whole_fault behind (next_number (number_of a)) (room_of a) t ahead.rest ahead.spelled.limits fits (omega arith) in
    let none : Some fault ≡ None = sym told ∙ ap (λ (x : List ℕ). lines_fault behind (next_number (number_of a)) (room_of a) [] (pieces_of (x ++ ahead.rest))) same ∙ whole in
    absurd cc

pub never_refused : {S T : Type 0} (left : S → Option (List ℕ)) (a b : Lines S) (result : Result T TraceFault) (fault : TraceFault) → result ≡ Err fault → TellsFirstFault left a b [] result
    → (P : T → Type 0) (t : Trace) → IsAhead left a t → MatchResult result P (λ f. IsOfTrace f → ⊥)
never_refused left a b result fault e tells P t ahead =
    let told : TellsFault left a b [] fault = subst (λ r. TellsFirstFault left a b [] r) e tells in
    subst (λ r. MatchResult r P (λ f. IsOfTrace f → ⊥)) (sym e) (λ (of : IsOfTrace fault). never_told left a fault t (told.first of) ahead)

pub same_read : {S : Type 0} (left : S → Option (List ℕ)) (a b : Lines S) (u t : Trace) → Reads left a b u → IsAhead left a t → u ≡ t
same_read left a b u t reads ahead =
    let known = known_rest (lines_left left a) (lines_left left b) reads.0 (ahead.bytes ++ ahead.rest) reads.1 ahead.known in
    one_trace u t known.0 ahead.rest reads.2.limits ahead.spelled.limits
    (ap (λ (x : List ℕ). x ++ known.0) (sym reads.2.lines) ∙ sym known.2 ∙ ap (λ (x : List ℕ). x ++ ahead.rest) ahead.spelled.lines)

-- Laws

pub one_spelling : (b c : List ℕ) (t : Trace) → Spells b t → Spells c t → b ≡ c
one_spelling b c t left right = left.lines ∙ sym right.lines

pub one_spelled : (bytes : List ℕ) (t u : Trace) → Spells bytes t → Spells bytes u → t ≡ u
one_spelled bytes t u left right = one_trace t u [] [] left.limits right.limits (ap (λ (x : List ℕ). x ++ []) (sym left.lines ∙ right.lines))

pub spelled_passes : (bytes : List ℕ) (t : Trace) → Spells bytes t → refusal bytes ≡ None
spelled_passes bytes t spells =
    let fits : length (text (lines_of t)) ≤ 67108864 = subst (λ (x : List ℕ). length x ≤ 67108864) spells.lines spells.room in
    ap (λ (x : List ℕ). lines_fault nothing_behind (next_number 0) 67108864 [] (pieces_of x)) (spells.lines ∙ sym (append_nil (text (lines_of t))))
    ∙ whole_fault nothing_behind (next_number 0) 67108864 t [] spells.limits fits (omega arith)

pub refused_spells_nothing : (bytes : List ℕ) (fault : TraceFault) → refusal bytes ≡ Some fault → (t : Trace) → Spells bytes t → ⊥
refused_spells_nothing bytes fault told t spells = (let none : None ≡ Some fault = sym (spelled_passes bytes t spells) ∙ told in absurd cc)
