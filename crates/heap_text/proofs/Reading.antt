-- What was read of a heap profile.
use Rattle.std.proofs.Common.{◌≡◌, ◌≢◌, ℕ, suc, ◌+◌, ◌-◌, ◌^◌, ◌<◌, ◌≤◌, min, Bool, true, false, not, eqb, ◌&&◌, MatchBool, MatchOption, List, [], ◌∷◌, ◌++◌, map, length, Option, None, Some, refl, sym, ap, ◌∙◌, subst, ◌⊎◌, inl, inr, arith, append_assoc, length-append}
use Rattle.std.specs.List.{AllByRecursion}
use Rattle.std.specs.Io.KnownBytes.{Consumes, IsAtEnd}
use Rattle.std.proofs.KnownBytes.{Consumes-trans}
use Rattle.std.proofs.lemmas.List.{append-nil, map-append}
use Rattle.std.proofs.lemmas.Bool.{eq-eqb}
use Rattle.edge_io.specs.declared.lines.Lines.{Lines}
use Rattle.edge_io.specs.declared.lines.Seen.{Seen}
use Rattle.edge_io.specs.declared.lines.Seen.TheVariants.{Long, Over}
use Rattle.edge_io.specs.Line.{IsLine, Shows}
use Rattle.edge_io.specs.Reading.{is_dry, line_of, lines_left, number_of, room_of}
use Rattle.edge_io.specs.Text.{text}
use Rattle.edge_io.proofs.Put.{text-append}
use Rattle.trace_reader.specs.Refusal.{next_number}
use Rattle.trace_reader.specs.Taken.{IsEnded, StandsInLine, Takes}
use Rattle.trace_reader.specs.Told.{BreaksInLine}
use Rattle.trace_reader.proofs.Reading.{All-append, Shown, known_rest}
use Rattle.report_text.specs.declared.fault.ReportFault.{ReportFault}
use Rattle.report_text.specs.declared.fault.ReportFault.TheVariants.{ReadFault, Malformed, Truncated, Limit, NoMemory}
use Rattle.report_text.specs.Refusal.{number_behind}
use Rattle.heap_text.specs.declared.text.HeapLine.{HeapLine}
use Rattle.heap_text.specs.declared.text.HeapText.{HeapText}
use Rattle.heap_text.specs.declared.sums.Sums.{Sums}
use Rattle.heap_text.specs.declared.past.Past.{Past}
use Rattle.heap_text.specs.Text.{heap_line, heap_text, sums_of, top_line}
use Rattle.heap_text.specs.Lawful.{AreLawful, AreLow, MayFollow}
use Rattle.heap_text.specs.Past.{Allows, IsPast}
use Rattle.heap_text.specs.Words.{SaysLine, SaysTop}
use Rattle.heap_text.specs.Refusal.{IsLineThat, IsNextLine, IsOffence, IsTop, IsTopLine, IsUnended, told}
use Rattle.heap_text.specs.Read.{AreBegun, BreaksInHeap, HasRead, IsText, Offends, OffendsBehind, Reads, Refuses, StopsShort, TakesOne}
use Rattle.heap_text.proofs.Parts.{one_line, one_top}
use Rattle.heap_text.proofs.Pasts.{allowed_follows, follows_allowed}

-- ---- one line

pub when_read : (b : Bool) (P Q : Type 0) → b ≡ true → MatchBool b P Q → P
when_read true P Q is read = read
when_read false P Q is read = absurd cc

pub when_none : {X : Type 0} (o : Option X) (P : Type 0) (Q : X → Type 0) → ((x : X) → o ≡ Some x → ⊥) → MatchOption o P Q → P
when_none None P Q none holds = holds
when_none (Some x) P Q none holds = absurd (none x refl)

pub when_some : {X : Type 0} (o : Option X) (x : X) (P : Type 0) (Q : X → Type 0) → o ≡ Some x → MatchOption o P Q → Q x
when_some None x P Q is holds = absurd cc
when_some (Some y) x P Q is holds = let same : y ≡ x = cc in subst Q same holds

pub sums_apart : (a b : Sums) → true ≡ not (eqb a.objects b.objects && (eqb a.bytes b.bytes && (eqb a.all_objects b.all_objects && eqb a.all_bytes b.all_bytes))) → a ≢ b
sums_apart a b test same =
    let objects = eq-eqb a.objects b.objects (ap (λ (s : Sums). s.objects) same) in
    let bytes = eq-eqb a.bytes b.bytes (ap (λ (s : Sums). s.bytes) same) in
    let all_objects = eq-eqb a.all_objects b.all_objects (ap (λ (s : Sums). s.all_objects) same) in
    let all_bytes = eq-eqb a.all_bytes b.all_bytes (ap (λ (s : Sums). s.all_bytes) same) in
    let on : (eqb a.objects b.objects && (eqb a.bytes b.bytes && (eqb a.all_objects b.all_objects && eqb a.all_bytes b.all_bytes))) ≡ true = rw (objects, bytes, all_objects, all_bytes) refl in
    let clash : true ≡ not true = test ∙ ap not on in
    absurd cc

some_behind : (line rest : List ℕ) (byte : ℕ) → line ++ byte ∷ rest ≢ []
some_behind [] rest byte e = cc
some_behind (x ∷ xs) rest byte e = cc

some_of : (bytes line rest : List ℕ) (byte : ℕ) → bytes ≡ line ++ byte ∷ rest → bytes ≢ []
some_of bytes line rest byte is none = some_behind line rest byte (sym is ∙ none)

pub stops_long : {S : Type 0} (left : S → Option (List ℕ)) (a b : Lines S) (seen : Seen) (number : ℕ) → Shown left a b seen → seen ≡ Long → number ≡ number_of b → number_of b ≡ next_number (number_of a) → StopsShort left a (Malformed number)
stops_long left a b seen number shown is counted next = λ wet bytes e.
    let shows : Shows Long shown.0 (line_of b) (room_of a) = subst (λ (s : Seen). Shows s shown.0 (line_of b) (room_of a)) is shown.2 in
    let known = known_rest (lines_left left a) (lines_left left b) shown.0 bytes shown.1 e in
    let byte = shows.3.0 in
    let split : bytes ≡ line_of b ++ byte ∷ known.0 = known.2 ∙ ap (λ (x : List ℕ). x ++ known.0) shows.3.2 ∙ append_assoc (line_of b) (byte ∷ []) known.0 in
    let room = shows.2 in
    let full = shows.1 in
    (some_of bytes (line_of b) known.0 byte split, (counted ∙ next, (line_of b, byte, known.0, split, shows.0, shows.1, shows.3.1, omega arith)))

pub stops_over : {S : Type 0} (left : S → Option (List ℕ)) (a b : Lines S) (seen : Seen) (number : ℕ) → Shown left a b seen → seen ≡ Over → number ≡ number_of b → number_of b ≡ next_number (number_of a) → StopsShort left a (Limit number)
stops_over left a b seen number shown is counted next = λ wet bytes e.
    let shows : Shows Over shown.0 (line_of b) (room_of a) = subst (λ (s : Seen). Shows s shown.0 (line_of b) (room_of a)) is shown.2 in
    let known = known_rest (lines_left left a) (lines_left left b) shown.0 bytes shown.1 e in
    let byte = shows.2.0 in
    let split : bytes ≡ line_of b ++ byte ∷ known.0 = known.2 ∙ ap (λ (x : List ℕ). x ++ known.0) shows.2.1 ∙ append_assoc (line_of b) (byte ∷ []) known.0 in
    (some_of bytes (line_of b) known.0 byte split, (counted ∙ next, (line_of b, byte, known.0, split, shows.0, shows.1)))

-- a whole line that is none that may stand there
pub other_line : {S : Type 0} (left : S → Option (List ℕ)) (a b : Lines S) (may : List ℕ → Type 0) (shown : List ℕ) (number : ℕ) → Takes left a b (line_of b ++ 10 ∷ []) → IsLine (line_of b) → shown ≡ line_of b → number ≡ number_of b
    → number_of b ≡ next_number (number_of a) → ¬ may shown → OffendsBehind left a may (Malformed number)
other_line left a b may shown number takes is_line same counted next never = λ wet bytes e.
    let known = known_rest (lines_left left a) (lines_left left b) (line_of b ++ 10 ∷ []) bytes takes.taken e in
    let split : bytes ≡ line_of b ++ 10 ∷ known.0 = known.2 ∙ append_assoc (line_of b) (10 ∷ []) known.0 in
    let room = takes.room in
    let len = length-append (line_of b) (10 ∷ []) in
    let number_is : number ≡ number_behind (number_of a) 0 = counted ∙ next in
    (some_of bytes (line_of b) known.0 10 split, inr (ap (λ (n : ℕ). Malformed n) number_is, (line_of b, known.0, split, is_line, omega arith, (λ m. never (subst may (sym same) m)))))

pub offends_at : {S : Type 0} (left : S → Option (List ℕ)) (a : Lines S) (may : List ℕ → Type 0) (fault : ReportFault) → OffendsBehind left a may fault → Offends left a may fault
offends_at left a may fault offends = λ wet bytes e. (offends wet bytes e).1

pub stops_at : {S : Type 0} (left : S → Option (List ℕ)) (a : Lines S) (may : List ℕ → Type 0) (fault : ReportFault) → StopsShort left a fault → Offends left a may fault
stops_at left a may fault stops = λ wet bytes e. inl (stops wet bytes e).1

at_end : (b : Option (List ℕ)) (rest : List ℕ) → IsAtEnd b → b ≡ Some rest → rest ≡ []
at_end None rest end e = absurd cc
at_end (Some xs) rest end e = let same : rest ≡ xs = cc in same ∙ end

-- nothing is left where the first line should begin
pub no_top_line : {S : Type 0} (left : S → Option (List ℕ)) (a b : Lines S) (may : List ℕ → Type 0) (number : ℕ) → IsEnded left a b → number ≡ number_of b → number_of b ≡ next_number (number_of a) → Offends left a may (Truncated number)
no_top_line left a b may number ended counted next = λ wet bytes e.
    let known = known_rest (lines_left left a) (lines_left left b) [] bytes ended.nothing e in
    let none : bytes ≡ [] = known.2 ∙ at_end (lines_left left b) known.0 (ended.at_end wet) known.1 in
    inl (counted ∙ next, (subst IsLine (sym none) (omega arith, tt), (let len = ap (λ (x : List ℕ). length x) none in omega arith)))

-- a line that says something that is no first line, or that may not stand there
pub not_top : (shown : List ℕ) → ((twice : ℕ) (sums : Sums) → ¬ SaysTop shown twice sums) → ¬ IsTopLine shown
not_top shown none top =
    let low = top.2.low in
    let rate = top.2.rate.most in
    let o = low.objects in
    let b = low.bytes in
    let p = low.all_objects in
    let q = low.all_bytes in
    none top.0 top.1 (record { spelled = top.3; numbers = record { objects = omega arith; bytes = omega arith; all_objects = omega arith; all_bytes = omega arith }; rate = omega arith })

pub not_such_top : (shown : List ℕ) (twice : ℕ) (sums : Sums) → SaysTop shown twice sums → ¬ IsTop twice sums → ¬ IsTopLine shown
not_such_top shown twice sums says never top =
    let low = top.2.low in
    let rate = top.2.rate.most in
    let o = low.objects in
    let b = low.bytes in
    let p = low.all_objects in
    let q = low.all_bytes in
    let other : SaysTop shown top.0 top.1 = record { spelled = top.3; numbers = record { objects = omega arith; bytes = omega arith; all_objects = omega arith; all_bytes = omega arith }; rate = omega arith } in
    let same = one_top shown top.0 twice top.1 sums other says in
    never (subst (λ (s : Sums). IsTop twice s) same.1 (subst (λ (n : ℕ). IsTop n top.1) same.0 top.2))

allows_says : (past : Past) (shown : List ℕ) (line : HeapLine) → Allows past line → shown ≡ heap_line line → SaysLine shown line
allows_says past shown line allows is =
    let low = allows.low in
    let o = low.objects in
    let b = low.bytes in
    let p = low.all_objects in
    let q = low.all_bytes in
    record { spelled = is; numbers = record { objects = omega arith; bytes = omega arith; all_objects = omega arith; all_bytes = omega arith }; stack = allows.lawful.stack }

pub not_line : (past : Past) (shown : List ℕ) → ((line : HeapLine) → ¬ SaysLine shown line) → ¬ IsLineThat (Allows past) shown
not_line past shown none that = none that.0 (allows_says past shown that.0 that.1 that.2)

pub not_such_line : (past : Past) (shown : List ℕ) (line : HeapLine) → SaysLine shown line → ¬ Allows past line → ¬ IsLineThat (Allows past) shown
not_such_line past shown line says never that = never (subst (Allows past) (one_line shown that.0 line (allows_says past shown that.0 that.1 that.2) says) that.1)

pub takes_one : {S : Type 0} (left : S → Option (List ℕ)) (a b : Lines S) (shown line : List ℕ) → Takes left a b (line_of b ++ 10 ∷ []) → IsLine (line_of b) → shown ≡ line_of b → shown ≡ line → number_of b ≡ next_number (number_of a) → TakesOne left a b line
takes_one left a b shown line takes is_line same is next =
    let form : line_of b ≡ line = sym same ∙ is in
    record { taken = subst (λ (l : List ℕ). Takes left a b (l ++ 10 ∷ [])) form takes; is_line = subst IsLine form is_line; number = next }

-- ---- the lines so far

pub read_first : {S : Type 0} (left : S → Option (List ℕ)) (a b : Lines S) (line : List ℕ) → TakesOne left a b line → HasRead left a b (line ∷ [])
read_first left a b line one =
    let next = one.number in
    record {
      taken = subst (λ (t : List ℕ). Takes left a b t) (sym (append-nil (line ++ 10 ∷ []))) one.taken;
      number = omega arith;
      are_lines = (one.is_line, tt);
    }

pub read_more : {S : Type 0} (left : S → Option (List ℕ)) (a b c : Lines S) (lines : List (List ℕ)) (line : List ℕ) → HasRead left a b lines → TakesOne left b c line → HasRead left a c (lines ++ line ∷ [])
read_more left a b c lines line read one =
    let joined : text (lines ++ line ∷ []) ≡ text lines ++ (line ++ 10 ∷ []) = text-append lines (line ∷ []) ∙ ap (λ (t : List ℕ). text lines ++ t) (append-nil (line ++ 10 ∷ [])) in
    let len = length-append (text lines) (line ++ 10 ∷ []) in
    let size = ap (λ (t : List ℕ). length t) joined in
    let count = length-append lines (line ∷ []) in
    let room = read.taken.room in
    let more = one.taken.room in
    let number = read.number in
    let next = one.number in
    record {
      taken = record {
        taken = subst (λ (t : List ℕ). Consumes (lines_left left a) (lines_left left c) t) (sym joined) (Consumes-trans _ _ _ (text lines) (line ++ 10 ∷ []) read.taken.taken one.taken.taken);
        room = omega arith;
        wet = λ wet. one.taken.wet (read.taken.wet wet);
      };
      number = omega arith;
      are_lines = All-append IsLine lines (line ∷ []) read.are_lines (one.is_line, tt);
    }

abbrev pub lines_so_far : ℕ → Sums → List HeapLine → List (List ℕ)
lines_so_far twice sums lines = top_line twice sums ∷ map heap_line lines

pub read_line_more : {S : Type 0} (left : S → Option (List ℕ)) (a b c : Lines S) (twice : ℕ) (sums : Sums) (lines : List HeapLine) (line : HeapLine) → HasRead left a b (lines_so_far twice sums lines) → TakesOne left b c (heap_line line)
    → HasRead left a c (lines_so_far twice sums (lines ++ line ∷ []))
read_line_more left a b c twice sums lines line read one =
    subst (λ (ls : List (List ℕ)). HasRead left a c (top_line twice sums ∷ ls)) (sym (map-append heap_line lines (line ∷ []))) (read_more left a b c (lines_so_far twice sums lines) (heap_line line) read one)

pub room_falls : {S : Type 0} (left : S → Option (List ℕ)) (a b : Lines S) (line : List ℕ) → TakesOne left a b line → room_of b < room_of a
room_falls left a b line one = let room = one.taken.room in let len = length-append line (10 ∷ []) in omega arith

-- ---- refusals

pub refuses_top : {S : Type 0} (left : S → Option (List ℕ)) (a : Lines S) (fault : ReportFault) → Offends left a IsTopLine fault → Refuses left a fault
refuses_top left a fault offends = λ wet bytes e. inl (offends wet bytes e)

count_lines : (lines : List HeapLine) → length (map heap_line lines) ≡ length lines
count_lines [] = refl
count_lines (x ∷ xs) = ap suc (count_lines xs)

-- an offence by what lines leave is one behind them
behind_lines : (lines : List HeapLine) (past : Past) (number room : ℕ) (rest : List ℕ) (fault : ReportFault) → IsPast lines past → IsOffence number room (IsLineThat (Allows past)) rest fault → IsOffence number room (IsNextLine lines) rest fault
behind_lines lines past number room rest fault is offence = elim offence [
  | inl unended ↦ inl unended
  | inr other ↦ (
      let o = other.1 in
      inr (other.0, (o.0, o.1, o.2, o.3, o.4, (λ next. o.5 (next.0, follows_allowed lines past next.0 is next.1, next.2)))))
]

pub refuses_later : {S : Type 0} (left : S → Option (List ℕ)) (a b : Lines S) (twice : ℕ) (sums : Sums) (lines : List HeapLine) (past : Past) (fault : ReportFault) → HasRead left a b (lines_so_far twice sums lines)
    → IsTop twice sums → AreLawful lines → IsPast lines past → OffendsBehind left b (IsLineThat (Allows past)) fault → Refuses left a fault
refuses_later left a b twice sums lines past fault read top lawful is offends = λ wet bytes e.
    let known = known_rest (lines_left left a) (lines_left left b) (told twice sums lines) bytes read.taken.taken e in
    let room = read.taken.room in
    let count = read.number in
    let same = count_lines lines in
    let number : number_behind (number_of b) 0 ≡ number_behind (number_of a) (1 + length lines) = omega arith in
    let left_over : room_of b ≡ room_of a - length (told twice sums lines) = omega arith in
    let here = offends (read.taken.wet wet) known.0 known.1 in
    let may = behind_lines lines past (number_behind (number_of b) 0) (room_of b) known.0 fault is here.1 in
    inr (inl (record {
      twice = twice;
      sums = sums;
      lines = lines;
      rest = known.0;
      split = known.2;
      top = top;
      lawful = lawful;
      within = omega arith;
      some = here.0;
      offence = subst (λ (n : ℕ). IsOffence n (room_of a - length (told twice sums lines)) (IsNextLine lines) known.0 fault) number
          (subst (λ (k : ℕ). IsOffence (number_behind (number_of b) 0) k (IsNextLine lines) known.0 fault) left_over may);
    }))

pub refuses_sums : {S : Type 0} (left : S → Option (List ℕ)) (a b c : Lines S) (twice : ℕ) (sums : Sums) (lines : List HeapLine) (number : ℕ) → HasRead left a b (lines_so_far twice sums lines) → IsTop twice sums → AreLawful lines
    → IsEnded left b c → number ≡ next_number (number_of a) → sums ≢ sums_of lines → Refuses left a (Malformed number)
refuses_sums left a b c twice sums lines number read top lawful ended counted other = λ wet bytes e.
    let known = known_rest (lines_left left a) (lines_left left b) (told twice sums lines) bytes read.taken.taken e in
    let behind = known_rest (lines_left left b) (lines_left left c) [] known.0 ended.nothing known.1 in
    let none : known.0 ≡ [] = behind.2 ∙ at_end (lines_left left c) behind.0 (ended.at_end (read.taken.wet wet)) behind.1 in
    let is : bytes ≡ told twice sums lines = known.2 ∙ ap (λ (x : List ℕ). told twice sums lines ++ x) none ∙ append-nil (told twice sums lines) in
    let room = read.taken.room in
    let len = ap (λ (x : List ℕ). length x) is in
    inr (inr (record { twice = twice; sums = sums; lines = lines; is = is; top = top; lawful = lawful; within = omega arith; other = other; why = ap (λ (n : ℕ). Malformed n) counted }))

-- ---- the whole text

pub reads_all : {S : Type 0} (left : S → Option (List ℕ)) (a b c : Lines S) (heap : HeapText) (sums : Sums) → HasRead left a b (lines_so_far heap.twice sums heap.lines) → IsTop heap.twice sums → AreLawful heap.lines → IsEnded left b c
    → sums ≡ sums_of heap.lines → Reads left a c heap
reads_all left a b c heap sums read top lawful ended same =
    let bytes = told heap.twice sums heap.lines in
    let room = read.taken.room in
    record {
      bytes = bytes;
      taken = subst (λ (t : List ℕ). Consumes (lines_left left a) (lines_left left c) t) (append-nil bytes) (Consumes-trans _ _ _ bytes [] read.taken.taken ended.nothing);
      text = record { text = ap (λ (s : Sums). told heap.twice s heap.lines) same; lawful = record { twice = top.rate; lines = lawful } };
      room = omega arith;
      ended = λ wet. ended.at_end (read.taken.wet wet);
    }

-- ---- where the lines stand

pub stands_on : {S : Type 0} (left : S → Option (List ℕ)) (a b c : Lines S) (before : List (List ℕ)) → HasRead left a b before → StandsInLine left b c → StandsInLine left a c
stands_on left a b c before read stands =
    let lines = stands.0 in
    let part = stands.1 in
    let number = read.number in
    let after = stands.5 in
    let count = length-append before lines in
    let joined : text before ++ (text lines ++ part) ≡ text (before ++ lines) ++ part = sym (append_assoc (text before) (text lines) part) ∙ ap (λ (t : List ℕ). t ++ part) (sym (text-append before lines)) in (
      before ++ lines,
      part,
      subst (λ (t : List ℕ). Consumes (lines_left left a) (lines_left left c) t) joined (Consumes-trans _ _ _ (text before) (text lines ++ part) read.taken.taken stands.2),
      All-append IsLine before lines read.are_lines stands.3,
      stands.4,
      omega arith,
    )

pub broken_first : {S : Type 0} (left : S → Option (List ℕ)) (a b : Lines S) → BreaksInLine left a b → BreaksInHeap left a b
broken_first left a b breaks =
    let room = breaks.in_line.room in
    record { lines = []; front = line_of b; taken = breaks.in_line.taken; begun = inl refl; is_line = breaks.in_line.is_line; room = omega arith; all_used = breaks.all_used }

pub broken_on : {S : Type 0} (left : S → Option (List ℕ)) (a b c : Lines S) (twice : ℕ) (sums : Sums) (lines : List HeapLine) → HasRead left a b (lines_so_far twice sums lines) → IsTop twice sums → AreLawful lines → BreaksInLine left b c → BreaksInHeap left a c
broken_on left a b c twice sums lines read top lawful breaks =
    let front = told twice sums lines in
    let room = read.taken.room in
    let more = breaks.in_line.room in
    let len = length-append front (line_of c) in
    record {
      lines = lines_so_far twice sums lines;
      front = line_of c;
      taken = Consumes-trans _ _ _ front (line_of c) read.taken.taken breaks.in_line.taken;
      begun = inr (twice, sums, lines, top, lawful, refl);
      is_line = breaks.in_line.is_line;
      room = omega arith;
      all_used = breaks.all_used;
    }

-- what the lines leave is low
pub past_low : (lines : List HeapLine) (past : Past) → IsPast lines past → AreLawful lines → AreLow past.sums
past_low lines past is lawful = subst AreLow (sym is.sums) lawful.sums
