-- Line by line: what a whole line adds, and what ends the judging.
use Rattle.std.proofs.Common.{◌≡◌, ◌≢◌, ◌==◌, ℕ, ◌+◌, ◌-◌, ◌^◌, ◌<◌, ◌≤◌, min, Bool, true, false, cond, List, [], ◌∷◌, ◌++◌, length, Option, Some, None, nat_lt, refl, ap, ◌∙◌, arith, append_assoc, length-append}
use Rattle.std.specs.List.{AllByRecursion, onto_first}
use Rattle.std.proofs.lemmas.Bool.Decides.{nat_tests}
use Rattle.edge_io.specs.Line.{IsLine}
use Rattle.trace_reader.proofs.Compare.{below_false, below_true}
use Rattle.trace_reader.specs.declared.fault.TraceFault.{TraceFault}
use Rattle.trace_reader.specs.declared.fault.TraceFault.TheVariants.{Malformed, Truncated, Limit}
use Rattle.trace_reader.specs.declared.fault.Which.TheVariants.{Bytes}
use Rattle.trace_reader.specs.declared.statement.Statement.{Statement}
use Rattle.trace_reader.specs.Says.{said}
use Rattle.trace_reader.specs.Spelling.{line_for, spelled}
use Rattle.trace_reader.specs.Refusal.{fault_if, feed, first_of, is_end, line_fault, lines_fault, next_number, onto_past, pieces_of, said_fault, statement_fault}
use Rattle.trace_reader.specs.Good.{AreGood}
use Rattle.trace_reader.proofs.Saying.{split_at, split_last}

-- Pieces

onto_some : (x : ℕ) (pieces : List (List ℕ)) → (p : List ℕ) × (ps : List (List ℕ)) × (onto_first x pieces ≡ p ∷ ps) × (1 ≤ length p)
onto_some x [] = (x ∷ [], [], refl, omega arith)
onto_some x (p ∷ ps) = (x ∷ p, ps, refl, omega arith)

feed_onto : (x : ℕ) (pieces : List (List ℕ)) → feed (onto_first x pieces) ≡ 1
feed_onto x [] = refl
feed_onto x (p ∷ ps) = refl

-- bytes have at least one piece
pub feed_pieces : (bytes : List ℕ) → feed (pieces_of bytes) ≡ 1
feed_pieces [] = refl
feed_pieces (b ∷ bs) = at (b == 10) where
  at : (test : Bool) → feed (cond test ([] ∷ pieces_of bs) (onto_first b (pieces_of bs))) ≡ 1
  at true = refl
  at false = feed_onto b (pieces_of bs)

-- the piece that a line without a line feed begins
long_piece : (line rest : List ℕ) (byte : ℕ) → AllByRecursion (λ b. b ≢ 10) line → byte ≢ 10
    → (p : List ℕ) × (ps : List (List ℕ)) × (pieces_of (line ++ byte ∷ rest) ≡ p ∷ ps) × (length line + 1 ≤ length p)
long_piece [] rest byte apart other =
    let some = onto_some byte (pieces_of rest) in
    let test : (byte == 10) ≡ false = not_ten byte other in
    (some.0, some.1, rw test some.2, some.3) where
      not_ten : (b : ℕ) → b ≢ 10 → (b == 10) ≡ false
      not_ten b apart_ = grind (arith, nat_tests)
long_piece (x ∷ xs) rest byte apart other =
    let more = long_piece xs rest byte apart.1 other in
    let test : (x == 10) ≡ false = not_ten x apart.0 in
    let len = more.3 in
    (x ∷ more.0, more.1, rw (test, more.2) refl, omega arith) where
      not_ten : (b : ℕ) → b ≢ 10 → (b == 10) ≡ false
      not_ten b apart_ = grind (arith, nat_tests)

-- Steps

only_last : (o : Option TraceFault) → first_of (o ∷ []) ≡ o
only_last None = refl
only_last (Some fault) = refl

third : (a b : Option TraceFault) (test : Bool) (x y : Option TraceFault) → a ≡ None → b ≡ None → test ≡ false → first_of (a ∷ b ∷ cond test x y ∷ []) ≡ y
third a b test x y e f g = rw (e, f, g) (only_last y)

first : (a : Option TraceFault) (rest : List (Option TraceFault)) (fault : TraceFault) → a ≡ Some fault → first_of (a ∷ rest) ≡ Some fault
first a rest fault e = rw e refl

second : (a b : Option TraceFault) (rest : List (Option TraceFault)) (fault : TraceFault) → a ≡ None → b ≡ Some fault → first_of (a ∷ b ∷ rest) ≡ Some fault
second a b rest fault e f = rw (e, f) refl

-- a whole line within the limit has no fault of its own
whole_line : (n room : ℕ) (line : List ℕ) (rest : List (List ℕ)) → length line ≤ 120 → length line < room → feed rest ≡ 1 → line_fault n room line rest ≡ None
whole_line n room line rest short room_left fed =
    let over : nat_lt room (min (length line + feed rest) 121) ≡ false = below_false room (min (length line + feed rest) 121) (rw fed (omega arith)) in
    let long : nat_lt 120 (length line) ≡ false = below_false 120 (length line) short in
    let cut : (feed rest == 0) ≡ false = rw fed refl in
    none (nat_lt room (min (length line + feed rest) 121)) (nat_lt 120 (length line)) (feed rest == 0) over long cut where
      none : (a b c : Bool) → a ≡ false → b ≡ false → c ≡ false → first_of (fault_if a (Limit n Bytes) ∷ fault_if b (Malformed n) ∷ fault_if c (Truncated n) ∷ []) ≡ None
      none a b c e f g = rw (e, f, g) refl

pub lines_step : (behind : ℕ → List (List ℕ) → Option TraceFault) (n room : ℕ) (past : List Statement) (line rest : List ℕ) (s : Statement)
    → IsLine line → length line < room → said line ≡ Some s → is_end (Some s) ≡ false → statement_fault n past s ≡ None
    → lines_fault behind n room past (pieces_of (line ++ 10 ∷ rest)) ≡ lines_fault behind (next_number n) (room - (length line + 1)) (s ∷ past) (pieces_of rest)
unfolding lines_fault
lines_step behind n room past line rest s is_line room_left says not_end no_fault =
    ap (λ (ps : List (List ℕ)). lines_fault behind n room past ps) (split_at 10 line rest is_line.1)
    ∙ third (line_fault n room line (pieces_of rest)) (said_fault n past (said line)) (is_end (said line)) (behind (next_number n) (pieces_of rest))
    (lines_fault behind (next_number n) (room - (length line + 1)) (onto_past (said line) past) (pieces_of rest))
    (whole_line n room line (pieces_of rest) is_line.0 room_left (feed_pieces rest)) (ap (said_fault n past) says ∙ no_fault) (ap is_end says ∙ not_end)
    ∙ ap (λ (o : Option Statement). lines_fault behind (next_number n) (room - (length line + 1)) (onto_past o past) (pieces_of rest)) says

pub lines_stop : (behind : ℕ → List (List ℕ) → Option TraceFault) (n room : ℕ) (past : List Statement) (line rest : List ℕ) (fault : TraceFault)
    → IsLine line → length line < room → said_fault n past (said line) ≡ Some fault
    → lines_fault behind n room past (pieces_of (line ++ 10 ∷ rest)) ≡ Some fault
unfolding lines_fault
lines_stop behind n room past line rest fault is_line room_left says =
    ap (λ (ps : List (List ℕ)). lines_fault behind n room past ps) (split_at 10 line rest is_line.1)
    ∙ second (line_fault n room line (pieces_of rest)) (said_fault n past (said line)) _ fault (whole_line n room line (pieces_of rest) is_line.0 room_left (feed_pieces rest)) says

-- the line `end` leaves the rest to `behind`
ends : (a b : Option TraceFault) (test : Bool) (x y : Option TraceFault) → a ≡ None → b ≡ None → test ≡ true → first_of (a ∷ b ∷ cond test x y ∷ []) ≡ x
ends a b test x y e f g = rw (e, f, g) (only_last x)

pub lines_end : (behind : ℕ → List (List ℕ) → Option TraceFault) (n room : ℕ) (past : List Statement) (line rest : List ℕ) (s : Statement)
    → IsLine line → length line < room → said line ≡ Some s → is_end (Some s) ≡ true → statement_fault n past s ≡ None
    → lines_fault behind n room past (pieces_of (line ++ 10 ∷ rest)) ≡ behind (next_number n) (pieces_of rest)
unfolding lines_fault
lines_end behind n room past line rest s is_line room_left says end no_fault =
    ap (λ (ps : List (List ℕ)). lines_fault behind n room past ps) (split_at 10 line rest is_line.1)
    ∙ ends (line_fault n room line (pieces_of rest)) (said_fault n past (said line)) (is_end (said line)) (behind (next_number n) (pieces_of rest))
    (lines_fault behind (next_number n) (room - (length line + 1)) (onto_past (said line) past) (pieces_of rest))
    (whole_line n room line (pieces_of rest) is_line.0 room_left (feed_pieces rest)) (ap (said_fault n past) says ∙ no_fault) (ap is_end says ∙ end)

-- Events that end a line

stopped : (behind : ℕ → List (List ℕ) → Option TraceFault) (n room : ℕ) (past : List Statement) (bytes line : List ℕ) (rest : List (List ℕ)) (fault : TraceFault)
    → pieces_of bytes ≡ line ∷ rest → line_fault n room line rest ≡ Some fault → lines_fault behind n room past (pieces_of bytes) ≡ Some fault
unfolding lines_fault
stopped behind n room past bytes line rest fault split e =
    ap (λ (ps : List (List ℕ)). lines_fault behind n room past ps) split ∙ first (line_fault n room line rest) _ fault e

over_fault : (n room : ℕ) (line : List ℕ) (rest : List (List ℕ)) → room < length line + feed rest → room ≤ 120 → line_fault n room line rest ≡ Some (Limit n Bytes)
over_fault n room line rest more low =
    let over : nat_lt room (min (length line + feed rest) 121) ≡ true = below_true room (min (length line + feed rest) 121) (omega arith) in
    shown (nat_lt room (min (length line + feed rest) 121)) over where
      shown : (a : Bool) → a ≡ true → first_of (fault_if a (Limit n Bytes) ∷ fault_if (nat_lt 120 (length line)) (Malformed n) ∷ fault_if (feed rest == 0) (Truncated n) ∷ []) ≡ Some (Limit n Bytes)
      shown a e = rw e refl

pub lines_over : (behind : ℕ → List (List ℕ) → Option TraceFault) (n room : ℕ) (past : List Statement) (line rest : List ℕ) (byte : ℕ)
    → IsLine line → length line ≡ room → lines_fault behind n room past (pieces_of (line ++ byte ∷ rest)) ≡ Some (Limit n Bytes)
lines_over behind n room past line rest byte is_line full = at (byte == 10) refl where
  low : room ≤ 120
  low = omega (arith, is_line.0)

  ten : (b : ℕ) → (b == 10) ≡ true → b ≡ 10
  ten b e = grind (arith, nat_tests)

  not_ten : (b : ℕ) → (b == 10) ≡ false → b ≢ 10
  not_ten b e = grind (arith, nat_tests)

  at : (test : Bool) → (byte == 10) ≡ test → lines_fault behind n room past (pieces_of (line ++ byte ∷ rest)) ≡ Some (Limit n Bytes)
  at true e =
      let here : byte ≡ 10 = ten byte e in
      let fed = feed_pieces rest in
      stopped behind n room past (line ++ byte ∷ rest) line (pieces_of rest) (Limit n Bytes) (ap (λ (b : ℕ). pieces_of (line ++ b ∷ rest)) here ∙ split_at 10 line rest is_line.1)
      (over_fault n room line (pieces_of rest) (rw fed (omega arith)) low)
  at false e =
      let long = long_piece line rest byte is_line.1 (not_ten byte e) in
      let len = long.3 in
      stopped behind n room past (line ++ byte ∷ rest) long.0 long.1 (Limit n Bytes) long.2 (over_fault n room long.0 long.1 (omega arith) low)

long_fault : (n room : ℕ) (line : List ℕ) (rest : List (List ℕ)) → 121 ≤ length line → 121 ≤ room → line_fault n room line rest ≡ Some (Malformed n)
long_fault n room line rest more high =
    let over : nat_lt room (min (length line + feed rest) 121) ≡ false = below_false room (min (length line + feed rest) 121) (omega arith) in
    let long : nat_lt 120 (length line) ≡ true = below_true 120 (length line) (omega arith) in
    shown (nat_lt room (min (length line + feed rest) 121)) (nat_lt 120 (length line)) over long where
      shown : (a b : Bool) → a ≡ false → b ≡ true → first_of (fault_if a (Limit n Bytes) ∷ fault_if b (Malformed n) ∷ fault_if (feed rest == 0) (Truncated n) ∷ []) ≡ Some (Malformed n)
      shown a b e f = rw (e, f) refl

pub lines_long : (behind : ℕ → List (List ℕ) → Option TraceFault) (n room : ℕ) (past : List Statement) (line rest : List ℕ) (byte : ℕ)
    → IsLine line → length line ≡ 120 → length line < room → byte ≢ 10 → lines_fault behind n room past (pieces_of (line ++ byte ∷ rest)) ≡ Some (Malformed n)
lines_long behind n room past line rest byte is_line full room_left other =
    let long = long_piece line rest byte is_line.1 other in
    let len = long.3 in
    stopped behind n room past (line ++ byte ∷ rest) long.0 long.1 (Malformed n) long.2 (long_fault n room long.0 long.1 (omega arith) (omega arith))

cut_fault : (n room : ℕ) (line : List ℕ) → length line ≤ 120 → length line ≤ room → line_fault n room line [] ≡ Some (Truncated n)
cut_fault n room line short room_left =
    let over : nat_lt room (min (length line + 0) 121) ≡ false = below_false room (min (length line + 0) 121) (omega arith) in
    let long : nat_lt 120 (length line) ≡ false = below_false 120 (length line) short in
    shown (nat_lt room (min (length line + 0) 121)) (nat_lt 120 (length line)) over long where
      shown : (a b : Bool) → a ≡ false → b ≡ false → first_of (fault_if a (Limit n Bytes) ∷ fault_if b (Malformed n) ∷ fault_if (0 == 0) (Truncated n) ∷ []) ≡ Some (Truncated n)
      shown a b e f = rw (e, f) refl

pub lines_cut : (behind : ℕ → List (List ℕ) → Option TraceFault) (n room : ℕ) (past : List Statement) (line : List ℕ)
    → IsLine line → length line ≤ room → lines_fault behind n room past (pieces_of line) ≡ Some (Truncated n)
lines_cut behind n room past line is_line room_left =
    stopped behind n room past line line [] (Truncated n) (split_last 10 line is_line.1) (cut_fault n room line is_line.0 room_left)

-- Many lines

-- the statements put onto those before them
abbrev pub onto : List Statement → List Statement → List Statement
onto [] past = past
onto (s ∷ ss) past = onto ss (s ∷ past)

pub lines_go : (behind : ℕ → List (List ℕ) → Option TraceFault) (n room : ℕ) (past ss : List Statement) (rest : List ℕ)
    → AreGood past ss → length (spelled ss) ≤ room → n ≤ 2 ^ 64 - 1
    → lines_fault behind n room past (pieces_of (spelled ss ++ rest))
    ≡ lines_fault behind (min (n + length ss) (2 ^ 64 - 1)) (room - length (spelled ss)) (onto ss past) (pieces_of rest)
lines_go behind n room past [] rest good room_left low =
    let number : n ≡ min (n + 0) (2 ^ 64 - 1) = omega arith in
    let left : room ≡ room - 0 = omega arith in
    ap (λ (k : ℕ). lines_fault behind k room past (pieces_of rest)) number ∙ ap (λ (k : ℕ). lines_fault behind (min (n + 0) (2 ^ 64 - 1)) k past (pieces_of rest)) left
lines_go behind n room past (s ∷ ss) rest good room_left low =
    let line = line_for s in
    let more = spelled ss in
    let len = length-append line (10 ∷ []) in
    let whole = length-append (line ++ 10 ∷ []) more in
    let apart : ((line ++ 10 ∷ []) ++ more) ++ rest ≡ line ++ 10 ∷ (more ++ rest) = rw (append_assoc, append_assoc) refl in
    let step = lines_step behind n room past line (more ++ rest) s good.0.is_line (omega arith) good.0.says good.0.not_end (good.0.no_fault n) in
    let go = lines_go behind (next_number n) (room - (length line + 1)) (s ∷ past) ss rest good.1 (omega arith) (omega arith) in
    let number : min (next_number n + length ss) (2 ^ 64 - 1) ≡ min (n + length (s ∷ ss)) (2 ^ 64 - 1) = omega arith in
    let left : room - (length line + 1) - length more ≡ room - length ((line ++ 10 ∷ []) ++ more) = omega arith in
    ap (λ (bytes : List ℕ). lines_fault behind n room past (pieces_of bytes)) apart ∙ step ∙ go
    ∙ ap (λ (k : ℕ). lines_fault behind k (room - (length line + 1) - length more) (onto ss (s ∷ past)) (pieces_of rest)) number
    ∙ ap (λ (k : ℕ). lines_fault behind (min (n + length (s ∷ ss)) (2 ^ 64 - 1)) k (onto ss (s ∷ past)) (pieces_of rest)) left
