-- A heap profile's text is not refused, and is of one heap profile.
use Rattle.std.proofs.Common.{◌≡◌, ◌≢◌, ℕ, suc, ◌+◌, ◌-◌, ◌^◌, ◌<◌, ◌≤◌, false, List, [], ◌∷◌, ◌++◌, codes, decimal, map, length, Option, Some, None, Result, Ok, Err, IfOk, IfErr, MatchResult, refl, sym, ap, ap₂, ◌∙◌, subst, ◌⊎◌, inl, inr, arith, append_assoc, length-append}
use Rattle.std.specs.List.{AllByRecursion}
use Rattle.std.specs.Fmt.{digits}
use Rattle.std.specs.Io.KnownBytes.{IsAtEnd}
use Rattle.std.proofs.lemmas.Fmt.{digits_is_IsNumeral}
use Rattle.std.proofs.lemmas.List.{append-nil}
use Rattle.edge_io.specs.declared.lines.Lines.{Lines}
use Rattle.edge_io.specs.Line.{HasNoFeed, IsLine}
use Rattle.edge_io.specs.Reading.{lines_left, number_of, room_of}
use Rattle.edge_io.specs.Text.{text}
use Rattle.trace_reader.proofs.Digits.{AllByRecursion-push}
use Rattle.trace_reader.proofs.Reading.{known_rest}
use Rattle.report_text.specs.declared.fault.ReportFault.{ReportFault}
use Rattle.report_text.specs.declared.fault.ReportFault.TheVariants.{ReadFault, Malformed, Truncated, Limit, NoMemory}
use Rattle.report_text.specs.Refusal.{IsLong}
use Rattle.report_text.specs.Read.{IsOfReport}
use Rattle.report_text.proofs.Fields.{same_behind}
use Rattle.report_text.proofs.OneSaid.{IsShort, hex_apart, join, longer, number_short, text_short}
use Rattle.report_text.proofs.Refused.{clear_feed, feed_beyond, line_ends}
use Rattle.heap_text.specs.declared.text.HeapLine.{HeapLine}
use Rattle.heap_text.specs.declared.text.HeapText.{HeapText}
use Rattle.heap_text.specs.declared.sums.Sums.{Sums}
use Rattle.heap_text.specs.Text.{four_text, heap_line, heap_text, numbers_of, sums_of, top_line}
use Rattle.heap_text.specs.Lawful.{AreLawful, AreLow, IsLawful, MayFollow}
use Rattle.heap_text.specs.Words.{AreNumbers, SaysLine, SaysTop}
use Rattle.heap_text.specs.Refusal.{HasOtherSums, IsLaterRefusal, IsNextLine, IsOffence, IsOther, IsRefusal, IsTop, IsTopLine, IsUnended, told}
use Rattle.heap_text.specs.Read.{IsAhead, IsText, Reads, Refuses}
use Rattle.heap_text.specs.Laws.{IsOfOneProfile}
use Rattle.heap_text.proofs.Parts.{one_line, one_top}
use Rattle.heap_text.proofs.Pasts.{Fits, lawful_fits, lawful_front}
use Rattle.heap_text.proofs.Writing.{stack_short}

-- ---- lines are short

four_short : (s : Sums) (k : ℕ) (rest : List ℕ) → AreNumbers s → IsShort k rest → IsShort (20 + (2 + (20 + (2 + (20 + (2 + (20 + (4 + k)))))))) (four_text s rest)
four_short s k rest numbers short =
    join 20 _ (decimal s.objects) _ (number_short s.objects numbers.objects)
    (join 2 _ (codes ": ") _ (text_short (codes ": ") refl)
    (join 20 _ (decimal s.bytes) _ (number_short s.bytes numbers.bytes)
    (join 2 _ (codes " [") _ (text_short (codes " [") refl)
    (join 20 _ (decimal s.all_objects) _ (number_short s.all_objects numbers.all_objects)
    (join 2 _ (codes ": ") _ (text_short (codes ": ") refl)
    (join 20 _ (decimal s.all_bytes) _ (number_short s.all_bytes numbers.all_bytes)
    (join 4 k (codes "] @ ") rest (text_short (codes "] @ ") refl) short)))))))

numbers_fit : (line : HeapLine) → Fits line → AreNumbers (numbers_of line)
numbers_fit line fits =
    let o = fits.objects in
    let b = fits.bytes in
    let p = fits.all_objects in
    let q = fits.all_bytes in
    record { objects = omega arith; bytes = omega arith; all_objects = omega arith; all_bytes = omega arith }

line_is_line : (line : HeapLine) → Fits line → IsLine (heap_line line)
line_is_line line fits =
    let hex : IsShort 8 (digits 16 false line.stack) = (stack_short line.stack fits.stack, hex_apart (digits 16 false line.stack) (digits_is_IsNumeral 16 false (omega arith) (omega arith) line.stack (let s = fits.stack in omega arith)).0.1) in
    longer 100 120 (heap_line line) (omega arith) (four_short (numbers_of line) 10 (codes "0x" ++ digits 16 false line.stack) (numbers_fit line fits) (join 2 8 (codes "0x") (digits 16 false line.stack) (text_short (codes "0x") refl) hex))

numbers_low : (s : Sums) → AreLow s → AreNumbers s
numbers_low s low =
    let o = low.objects in
    let b = low.bytes in
    let p = low.all_objects in
    let q = low.all_bytes in
    record { objects = omega arith; bytes = omega arith; all_objects = omega arith; all_bytes = omega arith }

-- twice a rate has at most ten digits
rate_short : (n : ℕ) → n ≤ 2 ^ 31 → IsShort 10 (decimal n)
rate_short n most = (Rattle.std.proofs.lemmas.Fmt.length-decimal-le 10 n (omega arith) (omega arith) (omega arith), (number_short n (omega arith)).1)

top_is_line : (twice : ℕ) (sums : Sums) → IsTop twice sums → IsLine (top_line twice sums)
top_is_line twice sums top =
    longer 119 120 (top_line twice sums) (omega arith)
    (join 14 105 (codes "heap profile: ") (four_text sums (codes "heap/" ++ (decimal twice ++ []))) (text_short (codes "heap profile: ") refl)
    (four_short sums 15 (codes "heap/" ++ (decimal twice ++ [])) (numbers_low sums top.low)
    (join 5 10 (codes "heap/") (decimal twice ++ []) (text_short (codes "heap/") refl) (join 10 0 (decimal twice) [] (rate_short twice top.rate.most) (omega arith, tt)))))

top_says : (bytes : List ℕ) (twice : ℕ) (sums : Sums) → IsTop twice sums → bytes ≡ top_line twice sums → SaysTop bytes twice sums
top_says bytes twice sums top is = record { spelled = is; numbers = numbers_low sums top.low; rate = (let most = top.rate.most in omega arith) }

line_says : (bytes : List ℕ) (line : HeapLine) → Fits line → bytes ≡ heap_line line → SaysLine bytes line
line_says bytes line fits is = record { spelled = is; numbers = numbers_fit line fits; stack = fits.stack }

-- ---- two texts

-- the first lines of two texts, and what is behind them
first_of : (a b s t : List ℕ) → IsLine a → IsLine b → (a ++ 10 ∷ []) ++ s ≡ (b ++ 10 ∷ []) ++ t → (a ≡ b) × (s ≡ t)
first_of a b s t la lb e =
    let split : a ++ 10 ∷ s ≡ b ++ 10 ∷ t = sym (append_assoc a (10 ∷ []) s) ∙ e ∙ append_assoc b (10 ∷ []) t in
    let same = line_ends a b s t la.1 lb.1 split in
    (same, same_behind (a ++ 10 ∷ []) s t (e ∙ ap (λ (l : List ℕ). (l ++ 10 ∷ []) ++ t) (sym same)))

-- the lines of one text are a front of those of the other, where bytes are behind them
front_of : (xs ys : List HeapLine) (s : List ℕ) → AllByRecursion Fits xs → AllByRecursion Fits ys → text (map heap_line xs) ++ s ≡ text (map heap_line ys) → (zs : List HeapLine) × (ys ≡ xs ++ zs) × (s ≡ text (map heap_line zs))
front_of [] ys s fx fy e = (ys, refl, e)
front_of (x ∷ xs) [] s fx fy e =
    let one = length-append (heap_line x) (10 ∷ []) in
    let all = length-append (heap_line x ++ 10 ∷ []) (text (map heap_line xs)) in
    let whole = length-append ((heap_line x ++ 10 ∷ []) ++ text (map heap_line xs)) s in
    let none = ap (λ (l : List ℕ). length l) e in
    absurd (omega arith)
front_of (x ∷ xs) (y ∷ ys) s fx fy e =
    let both = first_of (heap_line x) (heap_line y) (text (map heap_line xs) ++ s) (text (map heap_line ys)) (line_is_line x fx.0) (line_is_line y fy.0)
    (sym (append_assoc (heap_line x ++ 10 ∷ []) (text (map heap_line xs)) s) ∙ e) in
    let same : x ≡ y = one_line (heap_line x) x y (line_says (heap_line x) x fx.0 refl) (line_says (heap_line x) y fy.0 both.0) in
    let rest = front_of xs ys s fx.1 fy.1 both.1 in
    (rest.0, ap₂ (λ (z : HeapLine) (zs : List HeapLine). z ∷ zs) (sym same) rest.1, rest.2)

no_lines : (xs : List HeapLine) → text (map heap_line xs) ≡ [] → xs ≡ []
no_lines [] e = refl
no_lines (x ∷ xs) e =
    let one = length-append (heap_line x) (10 ∷ []) in
    let all = length-append (heap_line x ++ 10 ∷ []) (text (map heap_line xs)) in
    let none = ap (λ (l : List ℕ). length l) e in
    absurd (omega arith)

rows_one : (xs ys : List HeapLine) → AllByRecursion Fits xs → AllByRecursion Fits ys → text (map heap_line xs) ≡ text (map heap_line ys) → xs ≡ ys
rows_one xs ys fx fy e =
    let front = front_of xs ys [] fx fy (append-nil (text (map heap_line xs)) ∙ e) in
    let none = no_lines front.0 (sym front.2) in
    sym (front.1 ∙ ap (λ (zs : List HeapLine). xs ++ zs) none ∙ append-nil xs)

lawful_top : (heap : HeapText) → IsLawful heap → IsTop heap.twice (sums_of heap.lines)
lawful_top heap lawful = record { rate = lawful.twice; low = lawful.lines.sums }

made_heap : ℕ → List HeapLine → HeapText
made_heap twice lines = record { twice = twice; lines = lines }

pub same_heap : (a b : HeapText) → a.twice ≡ b.twice → a.lines ≡ b.lines → a ≡ b
unfolding made_heap
same_heap a b twice lines = ap₂ made_heap twice lines

pub one_heap : IsOfOneProfile
one_heap bytes a b left right =
    let ta = lawful_top a left.lawful in
    let tb = lawful_top b right.lawful in
    let first = first_of _ _ (text (map heap_line a.lines)) (text (map heap_line b.lines)) (top_is_line a.twice (sums_of a.lines) ta) (top_is_line b.twice (sums_of b.lines) tb) (sym left.text ∙ right.text) in
    let rate = one_top _ a.twice b.twice (sums_of a.lines) (sums_of b.lines) (top_says _ a.twice (sums_of a.lines) ta refl) (top_says _ b.twice (sums_of b.lines) tb first.0) in
    same_heap a b rate.0 (rows_one a.lines b.lines (lawful_fits a.lines left.lawful.lines) (lawful_fits b.lines right.lawful.lines) first.1)

-- ---- offences

-- a line that may stand there does not offend
no_offence : (number room : ℕ) (may : List ℕ → Type 0) (line t rest : List ℕ) (fault : ReportFault) → IsLine line → may line → length line < room → rest ≡ line ++ 10 ∷ t → IsOffence number room may rest fault → ⊥
no_offence number room may line t rest fault is_line m fit e offence = elim offence [ inl unended ↦ at fault unended | inr other ↦ at_other other.1 ] where
  at_long : IsLong room rest → ⊥
  at_long long =
      let l = long.0 in
      let byte = long.1 in
      let clear : HasNoFeed (l ++ byte ∷ []) = AllByRecursion-push (λ b. b ≢ 10) l byte long.4.1 long.6 in
      let same : (l ++ byte ∷ []) ++ long.2 ≡ line ++ 10 ∷ t = append_assoc l (byte ∷ []) long.2 ∙ sym long.3 ∙ e in
      let beyond = feed_beyond (l ++ byte ∷ []) line long.2 t clear same in
      let len = length-append l (byte ∷ []) in
      let full = long.5 in
      let short = is_line.0 in
      absurd (omega arith)

  at_other : IsOther room may rest → ⊥
  at_other other =
      let same = line_ends other.0 line other.1 t other.3.1 is_line.1 (sym other.2 ∙ e) in
      other.5 (subst may (sym same) m)

  at : (f : ReportFault) → IsUnended number room rest f → ⊥
  at (Malformed n) unended = at_long unended.1
  at (Truncated n) unended = clear_feed line t (subst HasNoFeed e unended.1.0.1)
  at (Limit n) unended =
      let over = unended.1 in
      let beyond = feed_beyond over.0 line (over.1 ∷ over.2) t over.4.1 (sym over.3 ∙ e) in
      let full = over.5 in
      absurd (omega arith)
  at ReadFault unended = unended
  at NoMemory unended = unended

-- a first line, and what may be behind it in a text
top_of_text : (twice : ℕ) (sums : Sums) (lines : List HeapLine) (rest bytes : List ℕ) (heap : HeapText) → bytes ≡ told twice sums lines ++ rest → IsTop twice sums → IsText bytes heap
    → (twice ≡ heap.twice) × (sums ≡ sums_of heap.lines) × (text (map heap_line lines) ++ rest ≡ text (map heap_line heap.lines))
top_of_text twice sums lines rest bytes heap split top is =
    let own = lawful_top heap is.lawful in
    let e : (top_line twice sums ++ 10 ∷ []) ++ (text (map heap_line lines) ++ rest) ≡ (top_line heap.twice (sums_of heap.lines) ++ 10 ∷ []) ++ text (map heap_line heap.lines) =
    sym (append_assoc (top_line twice sums ++ 10 ∷ []) (text (map heap_line lines)) rest) ∙ sym split ∙ is.text in
    let first = first_of _ _ _ _ (top_is_line twice sums top) (top_is_line heap.twice (sums_of heap.lines) own) e in
    let both = one_top _ twice heap.twice sums (sums_of heap.lines) (top_says _ twice sums top refl) (top_says _ heap.twice (sums_of heap.lines) own first.0) in
    (both.0, both.1, first.1)

no_first : (number room : ℕ) (bytes : List ℕ) (heap : HeapText) (fault : ReportFault) → IsText bytes heap → length bytes ≤ room → ¬ IsOffence number room IsTopLine bytes fault
no_first number room bytes heap fault is fits offence =
    let own = lawful_top heap is.lawful in
    let line = top_line heap.twice (sums_of heap.lines) in
    let behind = text (map heap_line heap.lines) in
    let split : bytes ≡ line ++ 10 ∷ behind = is.text ∙ append_assoc line (10 ∷ []) behind in
    let len = ap (λ (l : List ℕ). length l) split ∙ length-append line (10 ∷ behind) in
    no_offence number room IsTopLine line behind bytes fault (top_is_line heap.twice (sums_of heap.lines) own) (heap.twice, sums_of heap.lines, own, refl) (omega arith) split offence

last_fits : (lines : List HeapLine) (line : HeapLine) → AllByRecursion Fits (lines ++ line ∷ []) → Fits line
last_fits [] line all = all.0
last_fits (x ∷ xs) line all = last_fits xs line all.1

no_later : (number room : ℕ) (bytes : List ℕ) (heap : HeapText) (fault : ReportFault) → IsText bytes heap → length bytes ≤ room → ¬ IsLaterRefusal number room bytes fault
no_later number room bytes heap fault is fits later =
    let top = top_of_text later.twice later.sums later.lines later.rest bytes heap later.split later.top is in
    let front = front_of later.lines heap.lines later.rest (lawful_fits later.lines later.lawful) (lawful_fits heap.lines is.lawful.lines) top.2 in
    at front.0 front.1 front.2
  where
    at : (zs : List HeapLine) → heap.lines ≡ later.lines ++ zs → later.rest ≡ text (map heap_line zs) → ⊥
    at [] all rest = later.some rest
    at (z ∷ zs) all rest =
        let whole : AreLawful ((later.lines ++ z ∷ []) ++ zs) = subst AreLawful (all ∙ sym (append_assoc later.lines (z ∷ []) zs)) is.lawful.lines in
        let may : MayFollow later.lines z = lawful_front (later.lines ++ z ∷ []) zs whole in
        let fit : Fits z = last_fits later.lines z (lawful_fits (later.lines ++ z ∷ []) may) in
        let split : later.rest ≡ heap_line z ++ 10 ∷ text (map heap_line zs) = rest ∙ append_assoc (heap_line z) (10 ∷ []) (text (map heap_line zs)) in
        let len = ap (λ (l : List ℕ). length l) later.split ∙ length-append (told later.twice later.sums later.lines) later.rest in
        let one = ap (λ (l : List ℕ). length l) split ∙ length-append (heap_line z) (10 ∷ text (map heap_line zs)) in
        no_offence _ _ (IsNextLine later.lines) (heap_line z) (text (map heap_line zs)) later.rest fault (line_is_line z fit) (z, may, refl) (omega arith) split later.offence

no_other_sums : (number room : ℕ) (bytes : List ℕ) (heap : HeapText) (fault : ReportFault) → IsText bytes heap → ¬ HasOtherSums number room bytes fault
no_other_sums number room bytes heap fault is has =
    let top = top_of_text has.twice has.sums has.lines [] bytes heap (has.is ∙ sym (append-nil (told has.twice has.sums has.lines))) has.top is in
    let same = rows_one has.lines heap.lines (lawful_fits has.lines has.lawful) (lawful_fits heap.lines is.lawful.lines) (sym (append-nil (text (map heap_line has.lines))) ∙ top.2) in
    has.other (top.1 ∙ ap sums_of (sym same))

text_not_refused : (number room : ℕ) (bytes : List ℕ) (heap : HeapText) (fault : ReportFault) → IsText bytes heap → length bytes ≤ room → ¬ IsRefusal number room bytes fault
text_not_refused number room bytes heap fault is fits refusal = elim refusal [
  | inl first ↦ no_first (Rattle.report_text.specs.Refusal.number_behind number 0) room bytes heap fault is fits first
  | inr behind ↦ elim behind [ inl later ↦ no_later number room bytes heap fault is fits later | inr other ↦ no_other_sums number room bytes heap fault is other ]
]

-- ---- reading it

at_end : (b : Option (List ℕ)) (rest : List ℕ) → IsAtEnd b → b ≡ Some rest → rest ≡ []
at_end None rest end e = absurd cc
at_end (Some xs) rest end e = let same : rest ≡ xs = cc in same ∙ end

pub completes : {S : Type 0} (left : S → Option (List ℕ)) (a b : Lines S) (result : Result HeapText ReportFault) → IfOk result (λ read. Reads left a b read) → IfErr result (λ fault. IsOfReport fault → Refuses left a fault)
    → (heap : HeapText) → IsAhead left a heap → MatchResult result (λ read. read ≡ heap) (λ fault. IsOfReport fault → ⊥)
completes left a b (Ok read) reads refused heap ahead =
    let known = known_rest (lines_left left a) (lines_left left b) reads.bytes ahead.bytes reads.taken ahead.known in
    let none = at_end (lines_left left b) known.0 (reads.ended ahead.wet) known.1 in
    let same : ahead.bytes ≡ reads.bytes = known.2 ∙ ap (λ (x : List ℕ). reads.bytes ++ x) none ∙ append-nil reads.bytes in
    one_heap reads.bytes read heap reads.text (subst (λ (x : List ℕ). IsText x heap) same ahead.text)
completes left a b (Err fault) reads refused heap ahead = λ of.
    text_not_refused (number_of a) (room_of a) ahead.bytes heap fault ahead.text ahead.room (refused of ahead.wet ahead.bytes ahead.known)
