-- A report's text is not refused.
use Rattle.std.proofs.Common.{◌≡◌, ◌≢◌, ℕ, ◌+◌, ◌-◌, ◌^◌, ◌<◌, ◌≤◌, List, [], ◌∷◌, ◌++◌, length, Option, Some, None, Result, Ok, Err, IfOk, IfErr, MatchResult, refl, sym, ap, ap₂, ◌∙◌, subst, inl, inr, arith, append_assoc, length-append}
use Rattle.std.specs.Io.KnownBytes.{IsAtEnd}
use Rattle.std.proofs.lemmas.List.{append-nil}
use Rattle.edge_io.specs.declared.lines.Lines.{Lines}
use Rattle.edge_io.specs.Line.{HasNoFeed, IsLine}
use Rattle.edge_io.specs.Reading.{lines_left, number_of, room_of}
use Rattle.trace_reader.proofs.Digits.{AllByRecursion-push}
use Rattle.trace_reader.proofs.Reading.{known_rest}
use Rattle.cycle_history.specs.declared.Report.{Report}
use Rattle.report_text.specs.declared.item.Item.{Item}
use Rattle.report_text.specs.declared.item.Item.TheVariants.{Object, Journal, Sweep, Class, Bucket, End}
use Rattle.report_text.specs.declared.fault.ReportFault.{ReportFault}
use Rattle.report_text.specs.declared.fault.ReportFault.TheVariants.{ReadFault, Malformed, Truncated, Limit, NoMemory}
use Rattle.report_text.specs.Items.{AreInTurn, IsNext, ItemFits, MayFollow, last_of, line_for, rank}
use Rattle.report_text.specs.Refusal.{IsCut, IsLong, IsMalformed, IsOffence, IsOther, IsOver, IsRefusal, number_behind, told}
use Rattle.report_text.specs.Laws.{IsNotRefused, IsOneRefusal}
use Rattle.report_text.specs.Read.{IsAhead, IsOfReport, IsText, Reads, Refuses}
use Rattle.report_text.proofs.OneSaid.{item_is_line, one_item}
use Rattle.report_text.proofs.Turns.{body, last_of_more, told_text, whole_in_turn}
use Rattle.report_text.proofs.Unique.{one_report}

-- ---- where a line ends

pub clear_feed : (xs rest : List ℕ) → HasNoFeed (xs ++ 10 ∷ rest) → ⊥
clear_feed [] rest all = all.0 refl
clear_feed (x ∷ xs) rest all = clear_feed xs rest all.1

pub feed_beyond : (line z s t : List ℕ) → HasNoFeed line → line ++ s ≡ z ++ 10 ∷ t → length line ≤ length z
feed_beyond [] z s t clear e = omega arith
feed_beyond (l ∷ ls) [] s t clear e = let ten : l ≡ 10 = cc in absurd (clear.0 ten)
feed_beyond (l ∷ ls) (z ∷ zs) s t clear e = let rest : ls ++ s ≡ zs ++ 10 ∷ t = cc in let more = feed_beyond ls zs s t clear.1 rest in omega arith

pub line_ends : (line z s t : List ℕ) → HasNoFeed line → HasNoFeed z → line ++ 10 ∷ s ≡ z ++ 10 ∷ t → line ≡ z
line_ends [] [] s t clear apart e = refl
line_ends [] (z ∷ zs) s t clear apart e = let ten : z ≡ 10 = cc in absurd (apart.0 ten)
line_ends (l ∷ ls) [] s t clear apart e = let ten : l ≡ 10 = cc in absurd (clear.0 ten)
line_ends (l ∷ ls) (z ∷ zs) s t clear apart e =
    let first : l ≡ z = cc in
    let rest : ls ++ 10 ∷ s ≡ zs ++ 10 ∷ t = cc in
    ap₂ (λ (x : ℕ) (xs : List ℕ). x ∷ xs) first (line_ends ls zs s t clear.1 apart.1 rest)

-- ---- offences

pub none_behind_end : (x : Item) → MayFollow (Some End) x → ⊥
none_behind_end x m = elim m [ inl next ↦ at x next | inr less ↦ (let l = less.0 in let low = top x in absurd (omega arith)) ] where
  at : (x : Item) → IsNext End x → ⊥
  at (Object n a) next = next
  at (Journal n a) next = next
  at (Sweep a) next = next
  at (Class a) next = next
  at (Bucket a) next = next
  at End next = next

  top : (x : Item) → rank x ≤ 6
  top (Object n a) = omega arith
  top (Journal n a) = omega arith
  top (Sweep a) = omega arith
  top (Class a) = omega arith
  top (Bucket a) = omega arith
  top End = omega arith

-- a line that may stand there does not offend
no_offence : (number room : ℕ) (before : Option Item) (z : Item) (t rest : List ℕ) (fault : ReportFault) → ItemFits z → MayFollow before z → length (line_for z) < room → rest ≡ line_for z ++ 10 ∷ t → IsOffence number room before rest fault → ⊥
no_offence number room before z t rest (Malformed n) fits m fit e offence = elim offence.1 [
  | inl behind ↦ none_behind_end z (subst (λ (b : Option Item). MayFollow b z) behind.0 m)
  | inr instead ↦ elim instead.1 [ inl long ↦ at_long long | inr other ↦ at_other other ]
] where
  line : IsLine (line_for z)
  line = item_is_line z fits

  at_long : IsLong room rest → ⊥
  at_long long =
      let l = long.0 in
      let byte = long.1 in
      let clear : HasNoFeed (l ++ byte ∷ []) = AllByRecursion-push (λ b. b ≢ 10) l byte long.4.1 long.6 in
      let same : (l ++ byte ∷ []) ++ long.2 ≡ line_for z ++ 10 ∷ t = append_assoc l (byte ∷ []) long.2 ∙ sym long.3 ∙ e in
      let beyond = feed_beyond (l ++ byte ∷ []) (line_for z) long.2 t clear same in
      let len = length-append l (byte ∷ []) in
      let full = long.5 in
      let short = line.0 in
      absurd (omega arith)

  at_other : IsOther room before rest → ⊥
  at_other other =
      let same = line_ends other.0 (line_for z) other.1 t other.3.1 line.1 (sym other.2 ∙ e) in
      other.5 z (same, fits) m
no_offence number room before z t rest (Truncated n) fits m fit e offence = clear_feed (line_for z) t (subst HasNoFeed e offence.2.0.1)
no_offence number room before z t rest (Limit n) fits m fit e offence =
    let over = offence.2 in
    let beyond = feed_beyond over.0 (line_for z) (over.1 ∷ over.2) t over.4.1 (sym over.3 ∙ e) in
    let full = over.5 in
    absurd (omega arith)
no_offence number room before z t rest ReadFault fits m fit e offence = offence
no_offence number room before z t rest NoMemory fits m fit e offence = offence

-- nothing does behind the last line
end_offence : (number room : ℕ) (before : Option Item) (rest : List ℕ) (fault : ReportFault) → before ≡ Some End → rest ≡ [] → IsOffence number room before rest fault → ⊥
end_offence number room before rest (Malformed n) end none offence = elim offence.1 [ inl behind ↦ behind.1 none | inr instead ↦ instead.0 end ]
end_offence number room before rest (Truncated n) end none offence = offence.1 end
end_offence number room before rest (Limit n) end none offence = offence.1 end
end_offence number room before rest ReadFault end none offence = offence
end_offence number room before rest NoMemory end none offence = offence

not_refused : (number room : ℕ) (before : Option Item) (xs ys : List Item) (s : List ℕ) (fault : ReportFault) → AreInTurn before xs → AreInTurn before ys → last_of before ys ≡ Some End → told xs ++ s ≡ told ys → length (told ys) ≤ room
    → IsOffence number (room - length (told xs)) (last_of before xs) s fault → ⊥
not_refused number room before [] [] s fault tx ty end e fits offence = end_offence number _ before s fault end e offence
not_refused number room before [] (y ∷ ys) s fault tx ty end e fits offence =
    let split : s ≡ line_for y ++ 10 ∷ told ys = e ∙ append_assoc (line_for y) (10 ∷ []) (told ys) in
    let one = length-append (line_for y) (10 ∷ []) in
    let all = length-append (line_for y ++ 10 ∷ []) (told ys) in
    no_offence number _ before y (told ys) s fault ty.0 ty.1 (omega arith) split offence
not_refused number room before (x ∷ xs) [] s fault tx ty end e fits offence =
    let one = length-append (line_for x) (10 ∷ []) in
    let all = length-append (line_for x ++ 10 ∷ []) (told xs) in
    let whole = length-append ((line_for x ++ 10 ∷ []) ++ told xs) s in
    let none = ap length e in
    absurd (omega arith)
not_refused number room before (x ∷ xs) (y ∷ ys) s fault tx ty end e fits offence =
    let both = one_item x y (told xs ++ s) (told ys) tx.0 ty.0 (sym (append_assoc (line_for x ++ 10 ∷ []) (told xs) s) ∙ e) in
    let turn : AreInTurn (Some x) ys = subst (λ (z : Item). AreInTurn (Some z) ys) (sym both.0) ty.2 in
    let last : last_of (Some x) ys ≡ Some End = ap (λ (z : Item). last_of (Some z) ys) both.0 ∙ end in
    let all_x = length-append (line_for x ++ 10 ∷ []) (told xs) in
    let all_y = length-append (line_for y ++ 10 ∷ []) (told ys) in
    let same = ap (λ (z : Item). length (line_for z ++ 10 ∷ [])) both.0 in
    let left : room - length (told (x ∷ xs)) ≡ room - length (line_for x ++ 10 ∷ []) - length (told xs) = omega arith in
    not_refused number (room - length (line_for x ++ 10 ∷ [])) (Some x) xs ys s fault tx.2 turn last both.1 (omega arith)
    (subst (λ (k : ℕ). IsOffence number k (last_of (Some x) xs) s fault) left offence)

text_not_refused : (number room : ℕ) (bytes : List ℕ) (r : Report) (fault : ReportFault) → IsText bytes r → length bytes ≤ room → length bytes < 2 ^ 64 → ¬ IsRefusal number room bytes fault
text_not_refused number room bytes r fault text fits small refusal =
    let same = ap length text.text in
    let whole : bytes ≡ told (body r ++ End ∷ []) = text.text ∙ sym (told_text r) in
    let len = ap length whole in
    not_refused (number_behind number (length refusal.items)) room None refusal.items (body r ++ End ∷ []) refusal.rest fault refusal.in_turn
    (whole_in_turn r text.fits text.sweeps text.totals text.profile (omega arith)) (last_of_more None (body r) End) (sym refusal.split ∙ whole) (omega arith) refusal.offence

pub not_refused_law : IsNotRefused
not_refused_law number room bytes report fault text fits small = text_not_refused number room bytes report fault text fits (omega arith)

-- ---- one refusal

malformed_truncated : (number room : ℕ) (before : Option Item) (rest : List ℕ) → IsMalformed room before rest → before ≢ Some End → IsCut room rest → ⊥
malformed_truncated number room before rest malformed open_ cut = elim malformed [
  | inl behind ↦ open_ behind.0
  | inr instead ↦ elim instead.1 [
    | inl long ↦ (let len = ap length long.3 ∙ length-append long.0 (long.1 ∷ long.2) in let full = long.5 in let short = cut.0.0 in absurd (omega arith))
    | inr other ↦ clear_feed other.0 other.1 (subst HasNoFeed other.2 cut.0.1)
  ]
]

malformed_over : (number room : ℕ) (before : Option Item) (rest : List ℕ) → IsMalformed room before rest → before ≢ Some End → IsOver room rest → ⊥
malformed_over number room before rest malformed open_ over = elim malformed [
  | inl behind ↦ open_ behind.0
  | inr instead ↦ elim instead.1 [
    | inl long ↦ (let full = over.5 in let short = over.4.0 in let more = long.7 in absurd (omega arith))
    | inr other ↦ (let beyond = feed_beyond over.0 other.0 (over.1 ∷ over.2) other.1 over.4.1 (sym over.3 ∙ other.2) in let full = over.5 in let less = other.4 in absurd (omega arith))
  ]
]

cut_over : (room : ℕ) (rest : List ℕ) → IsCut room rest → IsOver room rest → ⊥
cut_over room rest cut over = let len = ap length over.3 ∙ length-append over.0 (over.1 ∷ over.2) in let full = over.5 in let short = cut.1 in absurd (omega arith)

one_offence : (number room : ℕ) (before : Option Item) (rest : List ℕ) (f g : ReportFault) → IsOffence number room before rest f → IsOffence number room before rest g → f ≡ g
one_offence number room before rest (Malformed m) (Malformed n) left right = ap Malformed (left.0 ∙ sym right.0)
one_offence number room before rest (Malformed m) (Truncated n) left right = absurd (malformed_truncated number room before rest left.1 right.1 right.2)
one_offence number room before rest (Malformed m) (Limit n) left right = absurd (malformed_over number room before rest left.1 right.1 right.2)
one_offence number room before rest (Truncated m) (Malformed n) left right = absurd (malformed_truncated number room before rest right.1 left.1 left.2)
one_offence number room before rest (Truncated m) (Truncated n) left right = ap Truncated (left.0 ∙ sym right.0)
one_offence number room before rest (Truncated m) (Limit n) left right = absurd (cut_over room rest left.2 right.2)
one_offence number room before rest (Limit m) (Malformed n) left right = absurd (malformed_over number room before rest right.1 left.1 left.2)
one_offence number room before rest (Limit m) (Truncated n) left right = absurd (cut_over room rest right.2 left.2)
one_offence number room before rest (Limit m) (Limit n) left right = ap Limit (left.0 ∙ sym right.0)
one_offence number room before rest ReadFault g left right = absurd left
one_offence number room before rest NoMemory g left right = absurd left
one_offence number room before rest f ReadFault left right = absurd right
one_offence number room before rest f NoMemory left right = absurd right

-- a line in turn within the limit does not offend
no_first : (number room : ℕ) (before : Option Item) (y : Item) (ys : List Item) (s t : List ℕ) (fault : ReportFault) → AreInTurn before (y ∷ ys) → s ≡ told (y ∷ ys) ++ t → length (told (y ∷ ys)) ≤ room → IsOffence number (room - 0) before s fault → ⊥
no_first number room before y ys s t fault turn e fits offence =
    let split : s ≡ line_for y ++ 10 ∷ (told ys ++ t) = e ∙ append_assoc (line_for y ++ 10 ∷ []) (told ys) t ∙ append_assoc (line_for y) (10 ∷ []) (told ys ++ t) in
    let one = length-append (line_for y) (10 ∷ []) in
    let all = length-append (line_for y ++ 10 ∷ []) (told ys) in
    no_offence number (room - 0) before y (told ys ++ t) s fault turn.0 turn.1 (omega arith) split offence

one_behind : (number room : ℕ) (before : Option Item) (xs ys : List Item) (s t : List ℕ) (f g : ReportFault) → AreInTurn before xs → AreInTurn before ys → told xs ++ s ≡ told ys ++ t → length (told xs) ≤ room → length (told ys) ≤ room
    → IsOffence (number_behind number (length xs)) (room - length (told xs)) (last_of before xs) s f → IsOffence (number_behind number (length ys)) (room - length (told ys)) (last_of before ys) t g → f ≡ g
one_behind number room before [] [] s t f g tx ty e fx fy left right = one_offence (number_behind number 0) (room - 0) before t f g (subst (λ (r : List ℕ). IsOffence (number_behind number 0) (room - 0) before r f) e left) right
one_behind number room before [] (y ∷ ys) s t f g tx ty e fx fy left right = absurd (no_first (number_behind number 0) room before y ys s t f ty e fy left)
one_behind number room before (x ∷ xs) [] s t f g tx ty e fx fy left right = absurd (no_first (number_behind number 0) room before x xs t s g tx (sym e) fx right)
one_behind number room before (x ∷ xs) (y ∷ ys) s t f g tx ty e fx fy left right =
    let both = one_item x y (told xs ++ s) (told ys ++ t) tx.0 ty.0 (sym (append_assoc (line_for x ++ 10 ∷ []) (told xs) s) ∙ e ∙ append_assoc (line_for y ++ 10 ∷ []) (told ys) t) in
    let turn : AreInTurn (Some x) ys = subst (λ (z : Item). AreInTurn (Some z) ys) (sym both.0) ty.2 in
    let all_x = length-append (line_for x ++ 10 ∷ []) (told xs) in
    let all_y = length-append (line_for y ++ 10 ∷ []) (told ys) in
    let same = ap (λ (z : Item). length (line_for z ++ 10 ∷ [])) both.0 in
    let less = room - length (line_for x ++ 10 ∷ []) in
    let room_x : room - length (told (x ∷ xs)) ≡ less - length (told xs) = omega arith in
    let room_y : room - length (told (y ∷ ys)) ≡ less - length (told ys) = omega arith in
    let number_x : number_behind number (length (x ∷ xs)) ≡ number_behind (number + 1) (length xs) = omega arith in
    let number_y : number_behind number (length (y ∷ ys)) ≡ number_behind (number + 1) (length ys) = omega arith in
    one_behind (number + 1) less (Some x) xs ys s t f g tx.2 turn both.1 (omega arith) (omega arith)
    (moved (last_of (Some x) xs) s f number_x room_x left)
    (subst (λ (z : Item). IsOffence (number_behind (number + 1) (length ys)) (less - length (told ys)) (last_of (Some z) ys) t g) (sym both.0) (moved (last_of (Some y) ys) t g number_y room_y right)) where
      moved : (o : Option Item) (r : List ℕ) (h : ReportFault) {m n j k : ℕ} → m ≡ n → j ≡ k → IsOffence m j o r h → IsOffence n k o r h
      moved o r h {m} {n} {j} {k} same_number same_room offence = subst (λ (i : ℕ). IsOffence n i o r h) same_room (subst (λ (i : ℕ). IsOffence i j o r h) same_number offence)

pub one_refusal : IsOneRefusal
one_refusal number room bytes f g left right =
    one_behind number room None left.items right.items left.rest right.rest f g left.in_turn right.in_turn (sym left.split ∙ right.split) left.within right.within left.offence right.offence

-- ---- reading it

at_end : (b : Option (List ℕ)) (rest : List ℕ) → IsAtEnd b → b ≡ Some rest → rest ≡ []
at_end None rest end e = absurd cc
at_end (Some xs) rest end e = let same : rest ≡ xs = cc in same ∙ end

pub completes : {S : Type 0} (left : S → Option (List ℕ)) (a b : Lines S) (result : Result Report ReportFault) → IfOk result (λ read. Reads left a b read) → IfErr result (λ fault. IsOfReport fault → Refuses left a fault)
    → (report : Report) → IsAhead left a report → MatchResult result (λ read. read ≡ report) (λ fault. IsOfReport fault → ⊥)
completes left a b (Ok read) reads refused report ahead =
    let known = known_rest (lines_left left a) (lines_left left b) reads.bytes ahead.bytes reads.taken ahead.known in
    let none = at_end (lines_left left b) known.0 (reads.ended ahead.wet) known.1 in
    let same : ahead.bytes ≡ reads.bytes = known.2 ∙ ap (λ (x : List ℕ). reads.bytes ++ x) none ∙ append-nil reads.bytes in
    one_report read report reads.text.fits ahead.text.fits (sym reads.text.text ∙ sym same ∙ ahead.text.text)
completes left a b (Err fault) reads refused report ahead = λ of.
    let room = ahead.room in
    let small = ahead.small in
    text_not_refused (number_of a) (room_of a) ahead.bytes report fault ahead.text room (omega arith) (refused of ahead.wet ahead.bytes ahead.known)
