-- What was read of a report.
use Rattle.std.proofs.Common.{◌≡◌, ◌≢◌, ℕ, suc, ◌+◌, ◌-◌, ◌^◌, ◌<◌, min, List, [], ◌∷◌, ◌++◌, map, length, Option, Some, None, refl, sym, ap, ◌∙◌, subst, inl, inr, arith, append_assoc, length-append}
use Rattle.std.specs.List.{AllByRecursion}
use Rattle.std.specs.Io.KnownBytes.{Consumes}
use Rattle.std.proofs.KnownBytes.{Consumes-nil, Consumes-trans}
use Rattle.std.proofs.lemmas.List.{append-nil}
use Rattle.edge_io.specs.declared.lines.Lines.{Lines}
use Rattle.edge_io.specs.declared.lines.Seen.{Seen}
use Rattle.edge_io.specs.declared.lines.Seen.TheVariants.{Finished}
use Rattle.edge_io.specs.Line.{IsLine}
use Rattle.edge_io.specs.Reading.{line_of, lines_left, number_of, room_of}
use Rattle.edge_io.specs.Text.{text}
use Rattle.trace_reader.specs.Refusal.{next_number}
use Rattle.trace_reader.specs.Taken.{IsEnded, StandsInLine, Takes}
use Rattle.trace_reader.specs.Told.{BreaksInLine}
use Rattle.trace_reader.proofs.Reading.{All-append, Shown, fault_behind, known_rest}
use Rattle.cycle_history.specs.declared.Report.{Report}
use Rattle.report_text.specs.declared.item.Item.{Item}
use Rattle.report_text.specs.declared.item.Item.TheVariants.{Object, Journal, Sweep, Class, Bucket, End}
use Rattle.report_text.specs.declared.fault.ReportFault.{ReportFault}
use Rattle.report_text.specs.declared.fault.ReportFault.TheVariants.{Malformed}
use Rattle.report_text.specs.Items.{AreInTurn, MayFollow, Says, last_of, line_for}
use Rattle.report_text.specs.Gathered.{with_item}
use Rattle.report_text.specs.Refusal.{IsOffence, number_behind, told}
use Rattle.report_text.specs.Read.{BreaksInReport, Offends, Reads, Refuses, TakesItem}
use Rattle.report_text.proofs.OneSaid.{one_said}
use Rattle.report_text.proofs.Turns.{body, rank_of, told_text}
use Rattle.report_text.proofs.Stage.{Stage, body_more}

-- ---- one line

-- a line that says nothing which may stand there
pub other_line : {S : Type 0} (left : S → Option (List ℕ)) (a b : Lines S) (before : Option Item) (shown : List ℕ) (number : ℕ) → Takes left a b (line_of b ++ 10 ∷ []) → IsLine (line_of b) → shown ≡ line_of b → number ≡ number_of b
    → number_of b ≡ next_number (number_of a) → before ≢ Some End → ((x : Item) → Says shown x → ¬ MayFollow before x) → Offends left a before (Malformed number)
other_line left a b before shown number takes is_line same counted next open_ never = λ wet bytes e.
    let known = known_rest (lines_left left a) (lines_left left b) (line_of b ++ 10 ∷ []) bytes takes.taken e in
    let split : bytes ≡ line_of b ++ 10 ∷ known.0 = known.2 ∙ append_assoc (line_of b) (10 ∷ []) known.0 in
    let room = takes.room in
    let len = length-append (line_of b) (10 ∷ []) in
    let none = λ (x : Item) (says : Says (line_of b) x). never x (subst (λ (l : List ℕ). Says l x) (sym same) says) in
    (counted ∙ next, inr (open_, inr (line_of b, known.0, split, is_line, omega arith, none)))

-- where the line says something that may not
pub not_in_turn : (before : Option Item) (line : List ℕ) (x : Item) → Says line x → ¬ MayFollow before x → (y : Item) → Says line y → ¬ MayFollow before y
not_in_turn before line x says never y other m = never (subst (λ (z : Item). MayFollow before z) (one_said line y x other says) m)

pub takes_item : {S : Type 0} (left : S → Option (List ℕ)) (a b : Lines S) (before : Option Item) (shown : List ℕ) (x : Item) → Takes left a b (line_of b ++ 10 ∷ []) → IsLine (line_of b) → shown ≡ line_of b
    → number_of b ≡ next_number (number_of a) → Says shown x → MayFollow before x → TakesItem left a b before x
takes_item left a b before shown x takes is_line same next says m =
    let form : line_of b ≡ line_for x = sym same ∙ says.0 in
    record {
      bytes = subst (λ (l : List ℕ). Takes left a b (l ++ 10 ∷ [])) form takes;
      is_line = subst IsLine form is_line;
      number = next;
      fits = says.1;
      follows = m;
    }

-- something behind the last line
pub behind_end : {S : Type 0} (left : S → Option (List ℕ)) (a b : Lines S) (seen : Seen) (number : ℕ) → Shown left a b seen → (seen ≡ Finished → ⊥) → number ≡ next_number (number_of a) → Offends left a (Some End) (Malformed number)
behind_end left a b seen number shown other counted = λ wet bytes e.
    (counted, inl (refl, λ none. nothing (fault_behind left a b seen number shown other counted [] (e ∙ ap (λ (x : List ℕ). Some x) none)))) where
      nothing : {F : Type 0} {f : F} → (let o : Option F = None in o) ≡ Some f → ⊥
      nothing e = absurd cc

-- ---- the lines so far

pub record HasRead {S : Type 0} (left : S → Option (List ℕ)) (a b : Lines S) (xs : List Item) : Type 0 where
  pub taken : Takes left a b (told xs)
  pub number : next_number (number_of b) ≡ min (next_number (number_of a) + length xs) (2 ^ 64 - 1)
  pub lines : AllByRecursion IsLine (map line_for xs)

pub read_nothing : {S : Type 0} (left : S → Option (List ℕ)) (a : Lines S) (xs : List Item) → xs ≡ [] → HasRead left a a xs
read_nothing left a xs none = subst (HasRead left a a) (sym none) (record {
  taken = record { taken = Consumes-nil (lines_left left a); room = omega arith; wet = λ wet. wet };
  number = omega arith;
  lines = tt;
})

pub told-append : (xs ys : List Item) → told (xs ++ ys) ≡ told xs ++ told ys
told-append [] ys = refl
told-append (x ∷ xs) ys = ap (λ (t : List ℕ). (line_for x ++ 10 ∷ []) ++ t) (told-append xs ys) ∙ sym (append_assoc (line_for x ++ 10 ∷ []) (told xs) (told ys))

told_one : (xs : List Item) (x : Item) → told (xs ++ x ∷ []) ≡ told xs ++ (line_for x ++ 10 ∷ [])
told_one xs x = told-append xs (x ∷ []) ∙ ap (λ (t : List ℕ). told xs ++ t) (append-nil (line_for x ++ 10 ∷ []))

lines_one : (xs : List Item) (x : Item) → AllByRecursion IsLine (map line_for xs) → IsLine (line_for x) → AllByRecursion IsLine (map line_for (xs ++ x ∷ []))
lines_one [] x all here = (here, tt)
lines_one (y ∷ ys) x all here = (all.0, lines_one ys x all.1 here)

pub read_one : {S : Type 0} (left : S → Option (List ℕ)) (a b c : Lines S) (xs : List Item) (before : Option Item) (x : Item) → HasRead left a b xs → TakesItem left b c before x → HasRead left a c (xs ++ x ∷ [])
read_one left a b c xs before x read item =
    let joined = told_one xs x in
    let len = length-append (told xs) (line_for x ++ 10 ∷ []) in
    let size = ap length joined in
    let count = length-append xs (x ∷ []) in
    let room = read.taken.room in
    let more = item.bytes.room in
    let number = read.number in
    let next = item.number in
    record {
      taken = record {
        taken = subst (λ (t : List ℕ). Consumes (lines_left left a) (lines_left left c) t) (sym joined) (Consumes-trans _ _ _ (told xs) (line_for x ++ 10 ∷ []) read.taken.taken item.bytes.taken);
        room = omega arith;
        wet = λ wet. item.bytes.wet (read.taken.wet wet);
      };
      number = omega arith;
      lines = lines_one xs x read.lines item.is_line;
    }

pub read_more : {S : Type 0} (left : S → Option (List ℕ)) (a b c : Lines S) (before : Option Item) (r new : Report) (x : Item) → HasRead left a b (body r) → TakesItem left b c before x → Stage before r → new ≡ with_item r x → rank_of (Some x) < 6
    → HasRead left a c (body new)
read_more left a b c before r new x read item stage is low =
    subst (HasRead left a c) (sym (ap body is ∙ body_more before r x stage item.follows low)) (read_one left a b c (body r) before x read item)

pub room_falls : {S : Type 0} (left : S → Option (List ℕ)) (b c : Lines S) (before : Option Item) (x : Item) → TakesItem left b c before x → room_of c < room_of b
room_falls left b c before x item = let room = item.bytes.room in let len = length-append (line_for x) (10 ∷ []) in omega arith

-- ---- refusals

pub refuses_on : {S : Type 0} (left : S → Option (List ℕ)) (a b : Lines S) (xs : List Item) (before : Option Item) (fault : ReportFault) → HasRead left a b xs → AreInTurn None xs → last_of None xs ≡ before → Offends left b before fault → Refuses left a fault
refuses_on left a b xs before fault read turn last offends = λ wet bytes e.
    let known = known_rest (lines_left left a) (lines_left left b) (told xs) bytes read.taken.taken e in
    let room = read.taken.room in
    let count = read.number in
    let number : number_behind (number_of b) 0 ≡ number_behind (number_of a) (length xs) = omega arith in
    let left_over : room_of b ≡ room_of a - length (told xs) = omega arith in
    let here = offends (read.taken.wet wet) known.0 known.1 in
    record {
      items = xs;
      rest = known.0;
      split = known.2;
      in_turn = turn;
      within = omega arith;
      offence = subst (λ (n : ℕ). IsOffence n (room_of a - length (told xs)) (last_of None xs) known.0 fault) number
          (subst (λ (k : ℕ). IsOffence (number_behind (number_of b) 0) k (last_of None xs) known.0 fault) left_over
          (subst (λ (o : Option Item). IsOffence (number_behind (number_of b) 0) (room_of b) o known.0 fault) (sym last) here));
    }

-- ---- where the lines stand

told_text_of : (xs : List Item) (lines : List (List ℕ)) (part : List ℕ) → told xs ++ (text lines ++ part) ≡ text (map line_for xs ++ lines) ++ part
told_text_of [] lines part = refl
told_text_of (x ∷ xs) lines part = append_assoc (line_for x ++ 10 ∷ []) (told xs) (text lines ++ part)
    ∙ ap (λ (t : List ℕ). (line_for x ++ 10 ∷ []) ++ t) (told_text_of xs lines part) ∙ sym (append_assoc (line_for x ++ 10 ∷ []) (text (map line_for xs ++ lines)) part)

count_lines : (xs : List Item) → length (map line_for xs) ≡ length xs
count_lines [] = refl
count_lines (x ∷ xs) = ap suc (count_lines xs)

pub stands_on : {S : Type 0} (left : S → Option (List ℕ)) (a b c : Lines S) (xs : List Item) → HasRead left a b xs → StandsInLine left b c → StandsInLine left a c
stands_on left a b c xs read stands =
    let lines = stands.0 in
    let part = stands.1 in
    let number = read.number in
    let after = stands.5 in
    let same = count_lines xs in
    let count = length-append (map line_for xs) lines in (
      map line_for xs ++ lines,
      part,
      subst (λ (t : List ℕ). Consumes (lines_left left a) (lines_left left c) t) (told_text_of xs lines part) (Consumes-trans _ _ _ (told xs) (text lines ++ part) read.taken.taken stands.2),
      All-append IsLine (map line_for xs) lines read.lines stands.3,
      stands.4,
      omega arith,
    )

-- a read that failed behind the lines so far
pub broken_on : {S : Type 0} (left : S → Option (List ℕ)) (a b c : Lines S) (xs : List Item) → HasRead left a b xs → AreInTurn None xs → BreaksInLine left b c → number_of c ≡ next_number (number_of b) → BreaksInReport left a c
broken_on left a b c xs read turn breaks next =
    let number = read.number in
    let room = read.taken.room in
    let more = breaks.in_line.room in
    let len = length-append (told xs) (line_of c) in
    record {
      items = xs;
      front = line_of c;
      taken = Consumes-trans _ _ _ (told xs) (line_of c) read.taken.taken breaks.in_line.taken;
      in_turn = turn;
      is_line = breaks.in_line.is_line;
      room = omega arith;
      number = omega arith;
      all_used = breaks.all_used;
    }

-- ---- the whole text

pub reads_all : {S : Type 0} (left : S → Option (List ℕ)) (a b c d : Lines S) (before : Option Item) (r : Report) → HasRead left a b (body r) → Stage before r → TakesItem left b c before End → IsEnded left c d → Reads left a d r
reads_all left a b c d before r read stage item ended =
    let all = read_one left a b c (body r) before End read item in
    let bytes = told (body r ++ End ∷ []) in
    let room = all.taken.room in
    record {
      bytes = bytes;
      taken = subst (λ (t : List ℕ). Consumes (lines_left left a) (lines_left left d) t) (append-nil bytes) (Consumes-trans _ _ _ bytes [] all.taken.taken ended.nothing);
      text = record { text = told_text r; fits = stage.fits; sweeps = stage.sweeps; totals = stage.totals; profile = stage.profile };
      room = omega arith;
      ended = λ wet. ended.at_end (all.taken.wet wet);
    }

-- a stage that is open has not read the last line
pub is_open : (before : Option Item) → rank_of before < 6 → before ≢ Some End
is_open before low end = let top = ap rank_of end in absurd (omega arith)

pub not_last : (x : Item) → (x ≡ End → ⊥) → rank_of (Some x) < 6
not_last (Object n a) other = omega arith
not_last (Journal n a) other = omega arith
not_last (Sweep a) other = omega arith
not_last (Class a) other = omega arith
not_last (Bucket a) other = omega arith
not_last End other = absurd (other refl)
