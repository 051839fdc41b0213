-- What a reader tells of the lines that it was lent.
use Rattle.std.proofs.Common.{◌≡◌, ◌⊎◌, ℕ, suc, map, ◌+◌, ◌-◌, ◌^◌, ◌≤◌, min, Bool, true, false, not, cond, ◌==◌, List, [], ◌∷◌, ◌++◌, length, Option, Some, None, Result, Ok, Err, IfOk, IfErr, refl, sym, ap, ◌∙◌, subst, inl, inr, arith, append_assoc, length-append}
use Rattle.std.specs.List.{AllByRecursion, onto_first}
use Rattle.std.specs.Option.{option_map}
use Rattle.std.specs.Io.KnownBytes.{Consumes, IsAtEnd}
use Rattle.std.proofs.KnownBytes.{Consumes-nil, Consumes-trans}
use Rattle.edge_io.specs.declared.lines.Lines.{Lines}
use Rattle.edge_io.specs.declared.lines.Seen.{Seen}
use Rattle.edge_io.specs.declared.lines.Seen.TheVariants.{Line, Cut, Long, Over, Finished}
use Rattle.edge_io.specs.Line.{IsLine, Shows, ends_input}
use Rattle.edge_io.specs.Reading.{StopsInLine, is_dry, line_of, lines_left, number_of, room_of, source_of}
use Rattle.edge_io.specs.Text.{text}
use Rattle.trace_reader.specs.declared.fault.TraceFault.{TraceFault}
use Rattle.trace_reader.specs.declared.fault.TraceFault.TheVariants.{ReadFault, Malformed, Truncated, Limit, BadMark, NoMemory}
use Rattle.trace_reader.specs.declared.fault.Which.{Which}
use Rattle.trace_reader.specs.declared.fault.Which.TheVariants.{Bytes}
use Rattle.trace_reader.specs.declared.statement.Statement.{Statement}
use Rattle.trace_reader.specs.declared.statement.Statement.TheVariants.{Title}
use Rattle.trace_reader.specs.declared.trace.Header.{Header}
use Rattle.trace_reader.specs.Says.{said}
use Rattle.trace_reader.specs.Spelling.{heap_of, line_for, spelled}
use Rattle.trace_reader.specs.Checks.{bad_mark, counts_within, may_follow, numbers_within, passed}
use Rattle.trace_reader.specs.Refusal.{fault_if, feed, first_of, lines_fault, next_number, nothing_behind, pieces_of, said_fault}
use Rattle.trace_reader.specs.Good.{AreGood}
use Rattle.trace_reader.specs.Taken.{IsFrontOfLine, StandsInLine, Takes, TakesLines}
use Rattle.trace_reader.specs.Told.{BreaksInTrace, IsAtLine, IsFaultAhead, IsFirstFault, IsOfTrace, TellsFault, TellsFirstFault}
use Rattle.trace_reader.proofs.Saying.{Says-said}
use Rattle.trace_reader.proofs.Judging.{feed_pieces, lines_cut, lines_go, lines_long, lines_over, lines_stop, onto}

-- What is known of the rest

pub known_rest : (a b : Option (List ℕ)) (bytes all : List ℕ) → Consumes a b bytes → a ≡ Some all → (rest : List ℕ) × (b ≡ Some rest) × (all ≡ bytes ++ rest)
known_rest None b bytes all taken e = absurd cc
known_rest (Some xs) None bytes all taken e = absurd taken
known_rest (Some xs) (Some ys) bytes all taken e = let same : all ≡ xs = cc in (ys, refl, same ∙ taken)

known_end : (b : Option (List ℕ)) (rest : List ℕ) → IsAtEnd b → b ≡ Some rest → rest ≡ []
known_end None rest end e = absurd cc
known_end (Some xs) rest end e = let same : rest ≡ xs = cc in same ∙ end

pub append_nil : (xs : List ℕ) → xs ++ [] ≡ xs
append_nil [] = refl
append_nil (x ∷ xs) = ap (λ (zs : List ℕ). x ∷ zs) (append_nil xs)

append_one : (line rest : List ℕ) (byte : ℕ) → (line ++ byte ∷ []) ++ rest ≡ line ++ byte ∷ rest
append_one line rest byte = append_assoc line (byte ∷ []) rest

-- First faults

pub first_over : {S : Type 0} (left : S → Option (List ℕ)) (a b : Lines S) (bytes line : List ℕ) (past : List Statement) → Consumes (lines_left left a) (lines_left left b) bytes
    → Shows Over bytes line (room_of a) → IsFirstFault left a past (Limit (next_number (number_of a)) Bytes)
first_over left a b bytes line past taken shows = λ wet behind all e.
    let known = known_rest (lines_left left a) (lines_left left b) bytes all taken e in
    let split : all ≡ line ++ shows.2.0 ∷ known.0 = known.2 ∙ ap (λ (x : List ℕ). x ++ known.0) shows.2.1 ∙ append_one line known.0 shows.2.0 in
    ap (λ (x : List ℕ). lines_fault behind (next_number (number_of a)) (room_of a) past (pieces_of x)) split
    ∙ lines_over behind (next_number (number_of a)) (room_of a) past line known.0 shows.2.0 shows.0 shows.1

pub first_long : {S : Type 0} (left : S → Option (List ℕ)) (a b : Lines S) (bytes line : List ℕ) (past : List Statement) → Consumes (lines_left left a) (lines_left left b) bytes
    → Shows Long bytes line (room_of a) → IsFirstFault left a past (Malformed (next_number (number_of a)))
first_long left a b bytes line past taken shows = λ wet behind all e.
    let known = known_rest (lines_left left a) (lines_left left b) bytes all taken e in
    let byte = shows.3.0 in
    let split : all ≡ line ++ byte ∷ known.0 = known.2 ∙ ap (λ (x : List ℕ). x ++ known.0) shows.3.2 ∙ append_one line known.0 byte in
    ap (λ (x : List ℕ). lines_fault behind (next_number (number_of a)) (room_of a) past (pieces_of x)) split
    ∙ lines_long behind (next_number (number_of a)) (room_of a) past line known.0 byte shows.0 shows.1 shows.2 shows.3.1

pub first_cut : {S : Type 0} (left : S → Option (List ℕ)) (a b : Lines S) (line : List ℕ) (past : List Statement) → Consumes (lines_left left a) (lines_left left b) line
    → IsLine line → length line ≤ room_of a → (is_dry a ≡ false → IsAtEnd (lines_left left b)) → IsFirstFault left a past (Truncated (next_number (number_of a)))
first_cut left a b line past taken is_line room_left end = λ wet behind all e.
    let known = known_rest (lines_left left a) (lines_left left b) line all taken e in
    let rest : known.0 ≡ [] = known_end (lines_left left b) known.0 (end wet) known.1 in
    let split : all ≡ line = known.2 ∙ ap (λ (x : List ℕ). line ++ x) rest ∙ append_nil line in
    ap (λ (x : List ℕ). lines_fault behind (next_number (number_of a)) (room_of a) past (pieces_of x)) split
    ∙ lines_cut behind (next_number (number_of a)) (room_of a) past line is_line room_left

-- a whole line that is refused
pub first_said : {S : Type 0} (left : S → Option (List ℕ)) (a b : Lines S) (line : List ℕ) (past : List Statement) (fault : TraceFault) → Takes left a b (line ++ 10 ∷ [])
    → IsLine line → said_fault (next_number (number_of a)) past (said line) ≡ Some fault → IsFirstFault left a past fault
first_said left a b line past fault takes is_line says = λ wet behind all e.
    let known = known_rest (lines_left left a) (lines_left left b) (line ++ 10 ∷ []) all takes.taken e in
    let split : all ≡ line ++ 10 ∷ known.0 = known.2 ∙ append_one line known.0 10 in
    let len = length-append line (10 ∷ []) in
    let room = takes.room in
    ap (λ (x : List ℕ). lines_fault behind (next_number (number_of a)) (room_of a) past (pieces_of x)) split
    ∙ lines_stop behind (next_number (number_of a)) (room_of a) past line known.0 fault is_line (omega arith) says

-- good lines come before the first fault
pub first_behind : {S : Type 0} (left : S → Option (List ℕ)) (a b : Lines S) (past ss : List Statement) (fault : TraceFault) → TakesLines left a b ss → AreGood past ss
    → IsFirstFault left b (onto ss past) fault → IsFirstFault left a past fault
first_behind left a b past ss fault takes good then = λ wet behind all e.
    let known = known_rest (lines_left left a) (lines_left left b) (spelled ss) all takes.bytes.taken e in
    let room = takes.bytes.room in
    let number = takes.number in
    let go = lines_go behind (next_number (number_of a)) (room_of a) past ss known.0 good (omega arith) (omega arith) in
    let number_after : min (next_number (number_of a) + length ss) (2 ^ 64 - 1) ≡ next_number (number_of b) = omega arith in
    let room_after : room_of a - length (spelled ss) ≡ room_of b = omega arith in
    ap (λ (x : List ℕ). lines_fault behind (next_number (number_of a)) (room_of a) past (pieces_of x)) known.2 ∙ go
    ∙ ap (λ (k : ℕ). lines_fault behind k (room_of a - length (spelled ss)) (onto ss past) (pieces_of known.0)) number_after
    ∙ ap (λ (k : ℕ). lines_fault behind (next_number (number_of b)) k (onto ss past) (pieces_of known.0)) room_after
    ∙ then (takes.bytes.wet wet) behind known.0 known.1

-- Why a fault is told

-- a fault of the trace
pub tells_trace : {S : Type 0} (left : S → Option (List ℕ)) (a b : Lines S) (past : List Statement) (fault : TraceFault) → IsOfTrace fault → IsFirstFault left a past fault → IsAtLine (number_of b) fault → TellsFault left a b past fault
tells_trace left a b past fault of first at = record { first = λ _. first; at_line = at; read_fault = λ e. absurd (subst IsOfTrace e of) }

pub tells_memory : {S : Type 0} (left : S → Option (List ℕ)) (a b : Lines S) (past : List Statement) → TellsFault left a b past NoMemory
tells_memory left a b past = record { first = λ of. absurd of; at_line = tt; read_fault = λ e. absurd cc }

-- a read fault in the line behind these
breaks_in_line : {S : Type 0} (left : S → Option (List ℕ)) (a b : Lines S) (past : List Statement) → StopsInLine left a b → number_of b ≡ next_number (number_of a) → lines_left left b ≡ left (source_of b) → BreaksInTrace left a b past
breaks_in_line left a b past stops number used =
    let room = stops.room in
    record {
      bytes = line_of b;
      taken = stops.taken;
      ends_early = λ behind. lines_cut behind (next_number (number_of a)) (room_of a) past (line_of b) stops.is_line (omega arith) ∙ ap (λ (k : ℕ). Some (Truncated k)) (sym number);
      all_used = used;
    }

pub tells_read : {S : Type 0} (left : S → Option (List ℕ)) (a b : Lines S) (past : List Statement) → StopsInLine left a b → number_of b ≡ next_number (number_of a) → lines_left left b ≡ left (source_of b) → TellsFault left a b past ReadFault
tells_read left a b past stops number used = record { first = λ of. absurd of; at_line = tt; read_fault = λ _. breaks_in_line left a b past stops number used }

-- good lines come before a read fault
breaks_behind : {S : Type 0} (left : S → Option (List ℕ)) (a b c : Lines S) (past ss : List Statement) → TakesLines left a b ss → AreGood past ss → BreaksInTrace left b c (onto ss past) → BreaksInTrace left a c past
breaks_behind left a b c past ss takes good off =
    let room = takes.bytes.room in
    let number = takes.number in
    let number_after : min (next_number (number_of a) + length ss) (2 ^ 64 - 1) ≡ next_number (number_of b) = omega arith in
    let room_after : room_of a - length (spelled ss) ≡ room_of b = omega arith in
    record {
      bytes = spelled ss ++ off.bytes;
      taken = Consumes-trans _ _ _ (spelled ss) off.bytes takes.bytes.taken off.taken;
      ends_early = λ behind. lines_go behind (next_number (number_of a)) (room_of a) past ss off.bytes good (omega arith) (omega arith)
          ∙ ap (λ (k : ℕ). lines_fault behind k (room_of a - length (spelled ss)) (onto ss past) (pieces_of off.bytes)) number_after
          ∙ ap (λ (k : ℕ). lines_fault behind (next_number (number_of b)) k (onto ss past) (pieces_of off.bytes)) room_after
          ∙ off.ends_early behind;
      all_used = off.all_used;
    }

-- good lines come before the line of a fault
pub tells_behind : {S : Type 0} (left : S → Option (List ℕ)) (a b c : Lines S) (past ss : List Statement) (fault : TraceFault) → TakesLines left a b ss → AreGood past ss
    → TellsFault left b c (onto ss past) fault → TellsFault left a c past fault
tells_behind left a b c past ss fault takes good tells = record {
  first = λ of. first_behind left a b past ss fault takes good (tells.first of);
  at_line = tells.at_line;
  read_fault = λ e. breaks_behind left a b c past ss takes good (tells.read_fault e);
}

-- the fault of a statement is one of the trace, and of its line
abbrev IsOfLine : ℕ → TraceFault → Type 0
IsOfLine number fault = IsOfTrace fault × IsAtLine number fault

of_line : (number : ℕ) (told fault : TraceFault) → IsOfLine number told → Some told ≡ Some fault → IsOfLine number fault
of_line number told fault is e = let same : told ≡ fault = cc in subst (IsOfLine number) same is

pub said_of_line : (number : ℕ) (past : List Statement) (o : Option Statement) (fault : TraceFault) → said_fault number past o ≡ Some fault → IsOfLine number fault
said_of_line number past None fault e = of_line number (Malformed number) fault (tt, refl) e
said_of_line number past (Some s) fault e = shape (not (may_follow past s)) (passed (numbers_within past s)) (passed (counts_within past s)) (bad_mark past s) e where
  shape : (a : Bool) (p q : Option Which) (i : Option ℕ) → first_of (fault_if a (Malformed number) ∷ option_map (λ which. Limit number which) p ∷ option_map (λ which. Limit number which) q ∷ option_map (λ i. BadMark number i) i ∷ []) ≡ Some fault
      → IsOfLine number fault
  shape true p q i e = of_line number (Malformed number) fault (tt, refl) e
  shape false (Some which) q i e = of_line number (Limit number which) fault (tt, refl) e
  shape false None (Some which) i e = of_line number (Limit number which) fault (tt, refl) e
  shape false None None (Some object) e = of_line number (BadMark number object) fault (tt, refl) e
  shape false None None None e = absurd cc

-- Where the lines stand

pub stands_front : {S : Type 0} (left : S → Option (List ℕ)) (a b : Lines S) (part : List ℕ) → Consumes (lines_left left a) (lines_left left b) part → IsFrontOfLine part
    → number_of b ≡ next_number (number_of a) → StandsInLine left a b
stands_front left a b part taken front number = ([], part, taken, tt, front, omega arith)

pub stands_whole : {S : Type 0} (left : S → Option (List ℕ)) (a b : Lines S) (line : List ℕ) → Takes left a b (line ++ 10 ∷ []) → IsLine line
    → number_of b ≡ next_number (number_of a) → StandsInLine left a b
stands_whole left a b line takes is_line number = stands_front left a b (line ++ 10 ∷ []) takes.taken (line, is_line, inr (10, refl)) number

pub spelled-append : (ss ts : List Statement) → spelled (ss ++ ts) ≡ spelled ss ++ spelled ts
spelled-append [] ts = refl
spelled-append (s ∷ ss) ts = ap (λ (x : List ℕ). (line_for s ++ 10 ∷ []) ++ x) (spelled-append ss ts) ∙ sym (append_assoc (line_for s ++ 10 ∷ []) (spelled ss) (spelled ts))

pub TakesLines-trans : {S : Type 0} (left : S → Option (List ℕ)) (a b c : Lines S) (ss ts : List Statement) → TakesLines left a b ss → TakesLines left b c ts → TakesLines left a c (ss ++ ts)
TakesLines-trans left a b c ss ts first then =
    let len = length-append (spelled ss) (spelled ts) in
    let count = length-append ss ts in
    let room = first.bytes.room in
    let more = then.bytes.room in
    let number = first.number in
    let after = then.number in
    let joined = spelled-append ss ts in
    let size : length (spelled (ss ++ ts)) ≡ length (spelled ss) + length (spelled ts) = ap length joined ∙ len in
    record {
      bytes = record {
        taken = subst (λ (x : List ℕ). Consumes (lines_left left a) (lines_left left c) x) (sym joined) (Consumes-trans _ _ _ (spelled ss) (spelled ts) first.bytes.taken then.bytes.taken);
        room = omega arith;
        wet = λ wet. then.bytes.wet (first.bytes.wet wet);
      };
      number = omega arith;
    }

pub TakesLines-nil : {S : Type 0} (left : S → Option (List ℕ)) (a : Lines S) → TakesLines left a a []
TakesLines-nil left a = record { bytes = record { taken = Consumes-nil (lines_left left a); room = omega arith; wet = λ wet. wet }; number = omega arith }

-- a line was read that says this
pub takes_line : {S : Type 0} (left : S → Option (List ℕ)) (a b : Lines S) (line : List ℕ) (s : Statement) → Takes left a b (line ++ 10 ∷ []) → number_of b ≡ next_number (number_of a) → said line ≡ Some s
    → TakesLines left a b (s ∷ [])
takes_line left a b line s takes number says =
    let form : line ≡ line_for s = (Says-said line s says).0 in
    let same : line ++ 10 ∷ [] ≡ spelled (s ∷ []) = ap (λ (x : List ℕ). x ++ 10 ∷ []) form ∙ sym (append_nil (line_for s ++ 10 ∷ [])) in
    record { bytes = subst (λ (x : List ℕ). Takes left a b x) same takes; number = omega arith }

spelled_text : (ss : List Statement) (lines : List (List ℕ)) (part : List ℕ) → spelled ss ++ (text lines ++ part) ≡ text (map line_for ss ++ lines) ++ part
spelled_text [] lines part = refl
spelled_text (s ∷ ss) lines part = append_assoc (line_for s ++ 10 ∷ []) (spelled ss) (text lines ++ part)
    ∙ ap (λ (x : List ℕ). (line_for s ++ 10 ∷ []) ++ x) (spelled_text ss lines part) ∙ sym (append_assoc (line_for s ++ 10 ∷ []) (text (map line_for ss ++ lines)) part)

pub All-append : {X : Type 0} (P : X → Type 0) (xs ys : List X) → AllByRecursion P xs → AllByRecursion P ys → AllByRecursion P (xs ++ ys)
All-append P [] ys all more = more
All-append P (x ∷ xs) ys all more = (all.0, All-append P xs ys all.1 more)

-- lines that were read before
pub stands_behind : {S : Type 0} (left : S → Option (List ℕ)) (a b c : Lines S) (ss : List Statement) → TakesLines left a b ss → AllByRecursion IsLine (map line_for ss) → StandsInLine left b c → StandsInLine left a c
stands_behind left a b c ss takes are_lines stands =
    let lines = stands.0 in
    let part = stands.1 in
    let number = takes.number in
    let after = stands.5 in
    let same_count : length (map line_for ss) ≡ length ss = count_map ss in
    let count = length-append (map line_for ss) lines in (
      map line_for ss ++ lines,
      part,
      subst (λ (x : List ℕ). Consumes (lines_left left a) (lines_left left c) x) (spelled_text ss lines part)
          (Consumes-trans _ _ _ (spelled ss) (text lines ++ part) takes.bytes.taken stands.2),
      All-append IsLine (map line_for ss) lines are_lines stands.3,
      stands.4,
      omega arith,
    ) where
      count_map : (ts : List Statement) → length (map line_for ts) ≡ length ts
      count_map [] = refl
      count_map (t ∷ ts) = ap suc (count_map ts)

-- Answers of a call for the next line

abbrev pub Shown : {S : Type 0} → (S → Option (List ℕ)) → Lines S → Lines S → Seen → Type 0
Shown left a b seen = (bytes : List ℕ) × Consumes (lines_left left a) (lines_left left b) bytes × Shows seen bytes (line_of b) (room_of a) × (room_of b ≡ room_of a - length bytes)

pub tell_over : {S : Type 0} (left : S → Option (List ℕ)) (a b : Lines S) (seen : Seen) (number : ℕ) (past : List Statement) → Shown left a b seen → seen ≡ Over
    → number ≡ next_number (number_of a) → IsFirstFault left a past (Limit number Bytes)
tell_over left a b seen number past shown is counted =
    let shows : Shows Over shown.0 (line_of b) (room_of a) = subst (λ (s : Seen). Shows s shown.0 (line_of b) (room_of a)) is shown.2 in
    subst (λ (n : ℕ). IsFirstFault left a past (Limit n Bytes)) (sym counted) (first_over left a b shown.0 (line_of b) past shown.1 shows)

pub tell_long : {S : Type 0} (left : S → Option (List ℕ)) (a b : Lines S) (seen : Seen) (number : ℕ) (past : List Statement) → Shown left a b seen → seen ≡ Long
    → number ≡ next_number (number_of a) → IsFirstFault left a past (Malformed number)
tell_long left a b seen number past shown is counted =
    let shows : Shows Long shown.0 (line_of b) (room_of a) = subst (λ (s : Seen). Shows s shown.0 (line_of b) (room_of a)) is shown.2 in
    subst (λ (n : ℕ). IsFirstFault left a past (Malformed n)) (sym counted) (first_long left a b shown.0 (line_of b) past shown.1 shows)

pub tell_cut : {S : Type 0} (left : S → Option (List ℕ)) (a b : Lines S) (seen : Seen) (number : ℕ) (past : List Statement) → Shown left a b seen → (seen ≡ Cut) ⊎ (seen ≡ Finished)
    → (ends_input seen ≡ true → is_dry a ≡ false → IsAtEnd (lines_left left b)) → number ≡ next_number (number_of a) → IsFirstFault left a past (Truncated number)
tell_cut {S} left a b seen number past shown is at_end counted =
    subst (λ (n : ℕ). IsFirstFault left a past (Truncated n)) (sym counted) (elim is [ inl cut ↦ here cut | inr finished ↦ nothing finished ]) where
      here : seen ≡ Cut → IsFirstFault left a past (Truncated (next_number (number_of a)))
      here cut =
          let shows : Shows Cut shown.0 (line_of b) (room_of a) = subst (λ (s : Seen). Shows s shown.0 (line_of b) (room_of a)) cut shown.2 in
          let taken : Consumes (lines_left left a) (lines_left left b) (line_of b) = subst (λ (x : List ℕ). Consumes (lines_left left a) (lines_left left b) x) shows.1 shown.1 in
          first_cut left a b (line_of b) past taken shows.0 shows.3 (at_end (ap ends_input cut))

      nothing : seen ≡ Finished → IsFirstFault left a past (Truncated (next_number (number_of a)))
      nothing finished =
          let shows : Shows Finished shown.0 (line_of b) (room_of a) = subst (λ (s : Seen). Shows s shown.0 (line_of b) (room_of a)) finished shown.2 in
          let taken : Consumes (lines_left left a) (lines_left left b) [] = subst (λ (x : List ℕ). Consumes (lines_left left a) (lines_left left b) x) shows.0 shown.1 in
          first_cut left a b [] past taken (omega arith, tt) (omega arith) (at_end (ap ends_input finished))

front_seen : (seen : Seen) (bytes line : List ℕ) (room : ℕ) → Shows seen bytes line room → IsFrontOfLine bytes
front_seen Line bytes line room shows = (line, shows.0, inr (10, shows.1))
front_seen Cut bytes line room shows = (line, shows.0, inl shows.1)
front_seen Long bytes line room shows = (line, shows.0, inr (shows.3.0, shows.3.2))
front_seen Over bytes line room shows = (line, shows.0, inr (shows.2.0, shows.2.1))
front_seen Finished bytes line room shows = ([], (omega arith, tt), inl shows.0)

pub stands_seen : {S : Type 0} (left : S → Option (List ℕ)) (a b : Lines S) (seen : Seen) → Shown left a b seen → number_of b ≡ next_number (number_of a) → StandsInLine left a b
stands_seen left a b seen shown number = stands_front left a b shown.0 shown.1 (front_seen seen shown.0 (line_of b) (room_of a) shown.2) number

pub stands_failed : {S : Type 0} (left : S → Option (List ℕ)) (a b : Lines S) → StopsInLine left a b → number_of b ≡ next_number (number_of a) → StandsInLine left a b
stands_failed left a b stops number = stands_front left a b (line_of b) stops.taken (line_of b, stops.is_line, inl refl) number

-- a whole line whose statement is refused
pub first_told : {S : Type 0} (left : S → Option (List ℕ)) (a b : Lines S) (shown : List ℕ) (number : ℕ) (past : List Statement) (fault : TraceFault) → Takes left a b (line_of b ++ 10 ∷ []) → IsLine (line_of b)
    → number_of b ≡ next_number (number_of a) → shown ≡ line_of b → number ≡ number_of b → said_fault number past (said shown) ≡ Some fault → IsFirstFault left a past fault
first_told left a b shown number past fault takes is_line counted same same_number says =
    first_said left a b (line_of b) past fault takes is_line (ap (λ (k : ℕ). said_fault k past (said (line_of b))) (sym (same_number ∙ counted)) ∙ ap (λ (x : List ℕ). said_fault number past (said x)) (sym same) ∙ says)

pub tells_said : {S : Type 0} (left : S → Option (List ℕ)) (a b : Lines S) (shown : List ℕ) (number : ℕ) (past : List Statement) (fault : TraceFault) → Takes left a b (line_of b ++ 10 ∷ []) → IsLine (line_of b)
    → number_of b ≡ next_number (number_of a) → shown ≡ line_of b → number ≡ number_of b → said_fault number past (said shown) ≡ Some fault → TellsFault left a b past fault
tells_said left a b shown number past fault takes is_line counted same same_number says =
    let of = said_of_line number past (said shown) fault says in
    tells_trace left a b past fault of.0 (first_told left a b shown number past fault takes is_line counted same same_number says) (subst (λ (k : ℕ). IsAtLine k fault) same_number of.1)

-- the same of a result that the line gives
pub result_told : {S T : Type 0} (left : S → Option (List ℕ)) (a b : Lines S) (shown : List ℕ) (number : ℕ) (past : List Statement) (result : Result T TraceFault) → Takes left a b (line_of b ++ 10 ∷ []) → IsLine (line_of b)
    → number_of b ≡ next_number (number_of a) → shown ≡ line_of b → number ≡ number_of b → IfErr result (λ fault. said_fault number past (said shown) ≡ Some fault) → TellsFirstFault left a b past result
result_told left a b shown number past (Ok value) takes is_line counted same same_number says = tt
result_told left a b shown number past (Err fault) takes is_line counted same same_number says = tells_said left a b shown number past fault takes is_line counted same same_number says

pub title_takes : {S : Type 0} (left : S → Option (List ℕ)) (a b : Lines S) (shown : List ℕ) (result : Result ℕ TraceFault) → Takes left a b (line_of b ++ 10 ∷ []) → number_of b ≡ next_number (number_of a)
    → shown ≡ line_of b → IfOk result (λ v. said shown ≡ Some (Title v)) → IfOk result (λ v. TakesLines left a b (Title v ∷ []))
title_takes left a b shown (Ok version) takes counted same says = takes_line left a b (line_of b) (Title version) takes counted (ap said (sym same) ∙ says)
title_takes left a b shown (Err fault) takes counted same says = tt

pub header_takes : {S : Type 0} (left : S → Option (List ℕ)) (a b : Lines S) (shown : List ℕ) (result : Result Header TraceFault) → Takes left a b (line_of b ++ 10 ∷ []) → number_of b ≡ next_number (number_of a)
    → shown ≡ line_of b → IfOk result (λ h. said shown ≡ Some (heap_of h)) → IfOk result (λ h. TakesLines left a b (heap_of h ∷ []))
header_takes left a b shown (Ok h) takes counted same says = takes_line left a b (line_of b) (heap_of h) takes counted (ap said (sym same) ∙ says)
header_takes left a b shown (Err fault) takes counted same says = tt

-- What is left behind a trace

pub some_left : (n : ℕ) (bytes : List ℕ) → (bytes ≡ [] → ⊥) → nothing_behind n (pieces_of bytes) ≡ Some (Malformed n)
some_left n [] some = absurd (some refl)
some_left n (b ∷ bs) some = at (b == 10) where
  left : (pieces : List (List ℕ)) → feed pieces ≡ 1 → nothing_behind n ([] ∷ pieces) ≡ Some (Malformed n)
  left [] fed = absurd cc
  left (p ∷ ps) fed = refl

  onto : (pieces : List (List ℕ)) → nothing_behind n (onto_first b pieces) ≡ Some (Malformed n)
  onto [] = refl
  onto (p ∷ ps) = refl

  at : (test : Bool) → nothing_behind n (cond test ([] ∷ pieces_of bs) (onto_first b (pieces_of bs))) ≡ Some (Malformed n)
  at true = left (pieces_of bs) (feed_pieces bs)
  at false = onto (pieces_of bs)

not_nil : (xs ys : List ℕ) (x : ℕ) → xs ++ x ∷ ys ≡ [] → ⊥
not_nil [] ys x e = absurd cc
not_nil (z ∷ xs) ys x e = absurd cc

some_shown : (seen : Seen) (bytes line rest : List ℕ) (room : ℕ) → Shows seen bytes line room → (seen ≡ Finished → ⊥) → bytes ++ rest ≡ [] → ⊥
some_shown Line bytes line rest room shows other e = not_nil line rest 10 (sym (append_one line rest 10) ∙ ap (λ (x : List ℕ). x ++ rest) (sym shows.1) ∙ e)
some_shown Cut [] line rest room shows other e = let some = shows.2 in let none : length line ≡ 0 = ap length (sym shows.1) in omega (arith, some, none)
some_shown Cut (b ∷ bytes) line rest room shows other e = absurd cc
some_shown Long bytes line rest room shows other e = not_nil line rest shows.3.0 (sym (append_one line rest shows.3.0) ∙ ap (λ (x : List ℕ). x ++ rest) (sym shows.3.2) ∙ e)
some_shown Over bytes line rest room shows other e = not_nil line rest shows.2.0 (sym (append_one line rest shows.2.0) ∙ ap (λ (x : List ℕ). x ++ rest) (sym shows.2.1) ∙ e)
some_shown Finished bytes line rest room shows other e = other refl

pub fault_behind : {S : Type 0} (left : S → Option (List ℕ)) (a b : Lines S) (seen : Seen) (number : ℕ) → Shown left a b seen → (seen ≡ Finished → ⊥) → number ≡ next_number (number_of a) → IsFaultAhead left a (Malformed number)
fault_behind left a b seen number shown other counted = λ bytes e.
    let known = known_rest (lines_left left a) (lines_left left b) shown.0 bytes shown.1 e in
    let some : bytes ≡ [] → ⊥ = λ (none : bytes ≡ []). some_shown seen shown.0 (line_of b) known.0 (room_of a) shown.2 other (sym known.2 ∙ none) in
    some_left (next_number (number_of a)) bytes some ∙ ap (λ (n : ℕ). Some (Malformed n)) (sym counted)
