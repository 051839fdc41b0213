-- Putting numbered lines behind what waits, one at a time.
use Rattle.std.proofs.Common.{◌≡◌, ℕ, ◌+◌, ◌<◌, ◌≤◌, List, [], ◌∷◌, ◌++◌, append_assoc, codes, decimal, length, take, drop, get_or, Option, sym, ap, subst, ◌∙◌, arith}
use Rattle.std.proofs.lemmas.List.{append-nil, take_more, take_all, take-append-drop, length-take-le}
use Rattle.edge_io.specs.Front.{Sends}
use Rattle.edge_io.specs.Text.{text}
use Rattle.cycle_history.specs.declared.Answer.{Answer}
use Rattle.cycle_history.specs.Text.{answer_line, answer_text, numbered}
use Rattle.edge_io.specs.Puts.{Puts, PutsFront}
use Rattle.edge_io.proofs.Put.{puts-then, puts_nothing, text-append}

-- ---- lines

numbered-append : {X : Type 0} (line : ℕ → X → List ℕ) (n : ℕ) (xs ys : List X) → numbered line n (xs ++ ys) ≡ numbered line n xs ++ numbered line (n + length xs) ys
numbered-append line n [] ys = ap (λ (k : ℕ). numbered line k ys) (omega arith)
numbered-append line n (x ∷ xs) ys =
    let e : n + 1 + length xs ≡ n + length (x ∷ xs) = omega arith in
    ap (λ (lines : List (List ℕ)). line n x ∷ lines) (numbered-append line (n + 1) xs ys ∙ ap (λ (k : ℕ). numbered line (n + 1) xs ++ numbered line k ys) e)

-- the text of the first i items, and one more
text-more : {X : Type 0} (line : ℕ → X → List ℕ) (xs : List X) (i : ℕ) (d : X) → i < length xs
    → text (numbered line 0 (take (i + 1) xs)) ≡ text (numbered line 0 (take i xs)) ++ (line i (get_or xs i d) ++ 10 ∷ [])
text-more {X} line xs i d lt =
    let x = get_or xs i d in
    let k : 0 + length (take i xs) ≡ i = omega (arith, length-take-le i xs (omega arith)) in
    let lines : numbered line 0 (take (i + 1) xs) ≡ numbered line 0 (take i xs) ++ line i x ∷ [] =
    ap (λ (ys : List X). numbered line 0 ys) (take_more xs i d lt) ∙ numbered-append line 0 (take i xs) (x ∷ [])
    ∙ ap (λ (n : ℕ). numbered line 0 (take i xs) ++ line n x ∷ []) k in
    ap text lines ∙ text-append (numbered line 0 (take i xs)) (line i x ∷ [])
    ∙ ap (λ (l : List ℕ). text (numbered line 0 (take i xs)) ++ l) (append-nil (line i x ++ 10 ∷ []))

-- the text of all items begins with that of the first i
rest_behind : {X : Type 0} (line : ℕ → X → List ℕ) (xs : List X) (i : ℕ) → (rest : List ℕ) × (text (numbered line 0 xs) ≡ text (numbered line 0 (take i xs)) ++ rest)
rest_behind {X} line xs i =
    let first = numbered line 0 (take i xs) in
    let others = numbered line (0 + length (take i xs)) (drop i xs) in
    let split : numbered line 0 xs ≡ first ++ others =
    ap (λ (ys : List X). numbered line 0 ys) (sym (take-append-drop i xs)) ∙ numbered-append line 0 (take i xs) (drop i xs) in
    (text others, ap text split ∙ text-append first others)

-- an answer's line, of which the front stands
pub answer_line_is : (n : ℕ) (answer : Answer) → (codes "o " ++ decimal n) ++ (answer_text answer ++ 10 ∷ []) ≡ answer_line n answer ++ 10 ∷ []
answer_line_is n answer =
    let rest = answer_text answer in
    ap (λ (bytes : List ℕ). 111 ∷ 32 ∷ bytes) (sym (append_assoc (decimal n) rest (10 ∷ [])) ∙ ap (λ (bytes : List ℕ). (decimal n ++ bytes) ++ 10 ∷ []) (sym (append-nil rest)))

-- ---- one line at a time

pub put_more : {X : Type 0} (line : ℕ → X → List ℕ) (a b c : Option (List ℕ)) (w0 w1 w2 : List ℕ) (xs : List X) (i : ℕ) (x : X) → i < length xs → x ≡ get_or xs i x
    → Puts a b w0 w1 (text (numbered line 0 (take i xs))) → Sends b c w2 (w1 ++ (line i x ++ 10 ∷ [])) → Puts a c w0 w2 (text (numbered line 0 (take (i + 1) xs)))
put_more {X} line a b c w0 w1 w2 xs i x lt is first then =
    let more = subst (λ (y : X). Sends b c w2 (w1 ++ (line i y ++ 10 ∷ []))) is then in
    rw (text-more line xs i x lt) (puts-then a b c w0 w1 w2 _ _ first more)

pub put_all : {X : Type 0} (line : ℕ → X → List ℕ) (a b : Option (List ℕ)) (w0 w1 : List ℕ) (xs : List X) (i : ℕ) → length xs ≤ i
    → Puts a b w0 w1 (text (numbered line 0 (take i xs))) → Puts a b w0 w1 (text (numbered line 0 xs))
put_all {X} line a b w0 w1 xs i le puts = let e : take i xs ≡ xs = take_all i xs le in rw e at puts

-- a fault behind the first i lines
pub put_front : {X : Type 0} (line : ℕ → X → List ℕ) (a b c : Option (List ℕ)) (w0 w1 w2 : List ℕ) (xs : List X) (i : ℕ)
    → Puts a b w0 w1 (text (numbered line 0 (take i xs))) → Sends b c w2 w1 → PutsFront a c w0 w2 (text (numbered line 0 xs))
put_front line a b c w0 w1 w2 xs i first then =
    let rest = rest_behind line xs i in
    let front = text (numbered line 0 (take i xs)) in
    let puts = puts-then a b c w0 w1 w2 front [] first (puts_nothing b c w1 w2 then) in
    (front ++ [], rest.0, rest.1 ∙ ap (λ (l : List ℕ). l ++ rest.0) (sym (append-nil front)), puts)
