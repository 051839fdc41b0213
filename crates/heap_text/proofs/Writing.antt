-- Putting the lines of a heap profile behind what waits, one at a time.
use Rattle.std.proofs.Common.{◌≡◌, ℕ, zero, suc, ◌+◌, ◌*◌, ◌/◌, ◌%◌, ◌^◌, ◌<◌, ◌≤◌, Bool, true, false, eqb, cond, List, [], ◌∷◌, ◌++◌, append_assoc, codes, decimal, length, length-append, map, take, drop, get_or, Option, refl, sym, ap, subst, ◌∙◌, arith}
use Rattle.std.specs.Fmt.{digits, digits_onto, digit_glyph}
use Rattle.std.specs.Io.KnownBytes.{Appends}
use Rattle.std.proofs.lemmas.List.{append-nil, take_more, take_all, take-append-drop, map-append}
use Rattle.edge_io.specs.Front.{AppendsFront, Sends}
use Rattle.edge_io.specs.Puts.{Puts, PutsFront}
use Rattle.edge_io.specs.Text.{text}
use Rattle.edge_io.proofs.Put.{front_nothing, front_then, puts-then, puts_nothing, sent_all, sent_front, text-append, whole_front}
use Rattle.heap_text.specs.declared.text.HeapLine.{HeapLine}
use Rattle.heap_text.specs.declared.text.HeapText.{HeapText}
use Rattle.heap_text.specs.declared.sums.Sums.{Sums}
use Rattle.heap_text.specs.Text.{four_text, heap_line, heap_text, numbers_of, sums_of, top_line}

-- ---- one line

pub four_form : (t a b c d : List ℕ) → (((((((t ++ a) ++ codes ": ") ++ b) ++ codes " [") ++ c) ++ codes ": ") ++ d) ++ codes "] @ "
    ≡ t ++ (a ++ (codes ": " ++ (b ++ (codes " [" ++ (c ++ (codes ": " ++ (d ++ (codes "] @ " ++ []))))))))
four_form t a b c d = simp append_assoc

four_more : (a b c d s : List ℕ) → (a ++ (codes ": " ++ (b ++ (codes " [" ++ (c ++ (codes ": " ++ (d ++ (codes "] @ " ++ [])))))))) ++ s
    ≡ a ++ (codes ": " ++ (b ++ (codes " [" ++ (c ++ (codes ": " ++ (d ++ (codes "] @ " ++ s)))))))
four_more a b c d s = simp append_assoc

pub four_behind : (s : Sums) (rest : List ℕ) → four_text s [] ++ rest ≡ four_text s rest
four_behind s rest = four_more (decimal s.objects) (decimal s.bytes) (decimal s.all_objects) (decimal s.all_bytes) rest

pub line_form : (s : Sums) (stack : List ℕ) → (((([] ++ four_text s []) ++ codes "0x") ++ stack) ++ codes "\n") ≡ four_text s (codes "0x" ++ stack) ++ 10 ∷ []
line_form s stack =
    append_assoc ((four_text s []) ++ codes "0x") stack (codes "\n") ∙ append_assoc (four_text s []) (codes "0x") (stack ++ codes "\n")
    ∙ sym (append_assoc (four_text s []) (codes "0x" ++ stack) (codes "\n")) ∙ ap (λ (l : List ℕ). l ++ 10 ∷ []) (four_behind s (codes "0x" ++ stack))

pub top_form : (s : Sums) (twice : List ℕ) → ((((codes "heap profile: " ++ four_text s []) ++ codes "heap/") ++ twice) ++ codes "\n") ≡ (codes "heap profile: " ++ four_text s (codes "heap/" ++ (twice ++ []))) ++ 10 ∷ []
top_form s twice =
    let name = codes "heap profile: " in
    let four = four_text s [] in
    append_assoc ((name ++ four) ++ codes "heap/") twice (codes "\n") ∙ append_assoc (name ++ four) (codes "heap/") (twice ++ codes "\n") ∙ append_assoc name four (codes "heap/" ++ (twice ++ codes "\n"))
    ∙ ap (λ (l : List ℕ). name ++ l) (sym (append_assoc four (codes "heap/" ++ twice) (codes "\n"))
    ∙ ap (λ (l : List ℕ). l ++ 10 ∷ []) (four_behind s (codes "heap/" ++ twice) ∙ ap (λ (l : List ℕ). four_text s (codes "heap/" ++ l)) (sym (append-nil twice))))
    ∙ sym (append_assoc name (four_text s (codes "heap/" ++ (twice ++ []))) (10 ∷ []))

-- ---- few hexadecimal digits

-- 16 to the power of one more
abbrev bound : ℕ → ℕ
bound zero = 16
bound (suc j) = 16 * bound j

few_onto : (j fuel n : ℕ) (acc : List ℕ) → n < bound j → length (digits_onto fuel 16 false n acc) ≤ suc j + length acc
few_onto j zero n acc small = omega arith
few_onto zero (suc k) n acc small = at (eqb (n / 16) 0) refl where
  at : (b : Bool) → eqb (n / 16) 0 ≡ b → length (cond b (digit_glyph false (n % 16) ∷ acc) (digits_onto k 16 false (n / 16) (digit_glyph false (n % 16) ∷ acc))) ≤ 1 + length acc
  at true is = omega arith
  at false is = absurd (let zero_is : n / 16 ≡ 0 = omega arith in let on : eqb (n / 16) 0 ≡ true = rw zero_is refl in let clash : true ≡ false = sym on ∙ is in cc)
few_onto (suc j) (suc k) n acc small = at (eqb (n / 16) 0) (few_onto j k (n / 16) (digit_glyph false (n % 16) ∷ acc) (omega arith)) where
  at : (b : Bool) → length (digits_onto k 16 false (n / 16) (digit_glyph false (n % 16) ∷ acc)) ≤ suc j + length (digit_glyph false (n % 16) ∷ acc)
      → length (cond b (digit_glyph false (n % 16) ∷ acc) (digits_onto k 16 false (n / 16) (digit_glyph false (n % 16) ∷ acc))) ≤ suc (suc j) + length acc
  at true more = omega arith
  at false more = omega arith

pub stack_short : (n : ℕ) → n < 2 ^ 32 → length (digits 16 false n) ≤ 8
unfolding digits
stack_short n small = few_onto 7 64 n [] (omega arith)

pub shown_short : (shown none : List ℕ) (n : ℕ) → shown ≡ none ++ digits 16 false n → none ≡ [] → n < 2 ^ 32 → length shown ≤ 8
shown_short shown none n is empty small =
    let same : shown ≡ digits 16 false n = is ∙ ap (λ (l : List ℕ). l ++ digits 16 false n) empty in
    let e = ap (λ (l : List ℕ). length l) same in
    let short = stack_short n small in
    omega arith

pub more_length : (new old piece : List ℕ) → new ≡ old ++ piece → length new ≡ length old + length piece
more_length new old piece is = ap (λ (l : List ℕ). length l) is ∙ length-append old piece

-- ---- the lines of the buckets

text_more : (lines : List HeapLine) (i : ℕ) (d : HeapLine) → i < length lines
    → text (map heap_line (take (i + 1) lines)) ≡ text (map heap_line (take i lines)) ++ (heap_line (get_or lines i d) ++ 10 ∷ [])
text_more lines i d lt =
    let x = get_or lines i d in
    ap (λ (ls : List HeapLine). text (map heap_line ls)) (take_more lines i d lt) ∙ ap text (map-append heap_line (take i lines) (x ∷ []))
    ∙ text-append (map heap_line (take i lines)) (heap_line x ∷ []) ∙ ap (λ (l : List ℕ). text (map heap_line (take i lines)) ++ l) (append-nil (heap_line x ++ 10 ∷ []))

rest_behind : (lines : List HeapLine) (i : ℕ) → (rest : List ℕ) × (text (map heap_line lines) ≡ text (map heap_line (take i lines)) ++ rest)
rest_behind lines i =
    let split : map heap_line lines ≡ map heap_line (take i lines) ++ map heap_line (drop i lines) =
    ap (λ (ls : List HeapLine). map heap_line ls) (sym (take-append-drop i lines)) ∙ map-append heap_line (take i lines) (drop i lines) in
    (text (map heap_line (drop i lines)), ap text split ∙ text-append (map heap_line (take i lines)) (map heap_line (drop i lines)))

pub put_more : (a b c : Option (List ℕ)) (w0 w1 w2 piece : List ℕ) (lines : List HeapLine) (i : ℕ) (d : HeapLine) → i < length lines → piece ≡ heap_line (get_or lines i d) ++ 10 ∷ []
    → Puts a b w0 w1 (text (map heap_line (take i lines))) → Sends b c w2 (w1 ++ piece) → Puts a c w0 w2 (text (map heap_line (take (i + 1) lines)))
put_more a b c w0 w1 w2 piece lines i d lt form first then =
    let more : Sends b c w2 (w1 ++ (heap_line (get_or lines i d) ++ 10 ∷ [])) = subst (λ (l : List ℕ). Sends b c w2 (w1 ++ l)) form then in
    rw (text_more lines i d lt) (puts-then a b c w0 w1 w2 _ _ first more)

pub put_all : (a b : Option (List ℕ)) (w0 w1 : List ℕ) (lines : List HeapLine) (i : ℕ) → length lines ≤ i → Puts a b w0 w1 (text (map heap_line (take i lines))) → Puts a b w0 w1 (text (map heap_line lines))
put_all a b w0 w1 lines i le puts = let e : take i lines ≡ lines = take_all i lines le in rw e at puts

pub put_front : (a b c : Option (List ℕ)) (w0 w1 w2 : List ℕ) (lines : List HeapLine) (i : ℕ) → Puts a b w0 w1 (text (map heap_line (take i lines))) → Sends b c w2 w1 → PutsFront a c w0 w2 (text (map heap_line lines))
put_front a b c w0 w1 w2 lines i first then =
    let rest = rest_behind lines i in
    let front = text (map heap_line (take i lines)) in
    let puts = puts-then a b c w0 w1 w2 front [] first (puts_nothing b c w1 w2 then) in
    (front ++ [], rest.0, rest.1 ∙ ap (λ (l : List ℕ). l ++ rest.0) (sym (append-nil front)), puts)

-- ---- the whole text

abbrev top_text : HeapText → List ℕ
top_text heap = top_line heap.twice (sums_of heap.lines) ++ 10 ∷ []

abbrev lines_text : HeapText → List ℕ
lines_text heap = text (map heap_line heap.lines)

-- a fault at the first line
pub top_fault : (heap : HeapText) (a b : Option (List ℕ)) (w0 w1 : List ℕ) → w0 ≡ [] → Sends a b w1 w0 → AppendsFront a b (heap_text heap)
top_fault heap a b w0 w1 none sends =
    let start : Sends a b w1 [] = rw none at sends in
    sent_front a b w1 (heap_text heap) (front_nothing a b [] w1 (heap_text heap) start)

pub lines_fault : (heap : HeapText) (a b c : Option (List ℕ)) (w0 w1 w2 : List ℕ) → w0 ≡ [] → Sends a b w1 (w0 ++ top_text heap) → PutsFront b c w1 w2 (lines_text heap) → AppendsFront a c (heap_text heap)
lines_fault heap a b c w0 w1 w2 none first front =
    let start : Puts a b [] w1 (top_text heap) = rw none at first in
    sent_front a c w2 (heap_text heap) (front_then a b c [] w1 w2 (top_text heap) (lines_text heap) start front)

all_put : (heap : HeapText) (a b c d : Option (List ℕ)) (w0 w1 w2 w3 : List ℕ) → w0 ≡ [] → Sends a b w1 (w0 ++ top_text heap) → Puts b c w1 w2 (lines_text heap) → Sends c d w3 w2 → Puts a d [] w3 (heap_text heap)
all_put heap a b c d w0 w1 w2 w3 none first then sends =
    let start : Puts a b [] w1 (top_text heap) = rw none at first in
    let lines = puts-then a b c [] w1 w2 (top_text heap) (lines_text heap) start then in
    let more = puts-then a c d [] w2 w3 _ [] lines (puts_nothing c d w2 w3 sends) in
    rw (sym (append-nil (heap_text heap))) more

pub flush_fault : (heap : HeapText) (a b c d : Option (List ℕ)) (w0 w1 w2 w3 : List ℕ) → w0 ≡ [] → Sends a b w1 (w0 ++ top_text heap) → Puts b c w1 w2 (lines_text heap) → Sends c d w3 w2 → AppendsFront a d (heap_text heap)
flush_fault heap a b c d w0 w1 w2 w3 none first then sends =
    sent_front a d w3 (heap_text heap) (whole_front a d [] w3 (heap_text heap) (all_put heap a b c d w0 w1 w2 w3 none first then sends))

pub flushed : (heap : HeapText) (a b c d : Option (List ℕ)) (w0 w1 w2 w3 : List ℕ) → w0 ≡ [] → Sends a b w1 (w0 ++ top_text heap) → Puts b c w1 w2 (lines_text heap) → Sends c d w3 w2 → w3 ≡ [] → Appends a d (heap_text heap)
flushed heap a b c d w0 w1 w2 w3 none first then sends empty = sent_all a d w3 (heap_text heap) (all_put heap a b c d w0 w1 w2 w3 none first then sends) empty
