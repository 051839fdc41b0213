-- Writing the lines of what watchers saw.
use Rattle.std.proofs.Common.{◌≡◌, ℕ, ◌+◌, ◌<◌, ◌≤◌, List, [], ◌∷◌, ◌++◌, append_assoc, codes, length, map, take, take_all, drop, get_or, Option, refl, sym, ◌∙◌, ap, subst, arith}
use Rattle.std.specs.Io.KnownBytes.{Appends}
use Rattle.std.proofs.lemmas.List.{append-nil, length-take-le, map-append, take-append-drop, take_more}
use Rattle.edge_io.specs.Front.{AppendsFront, Sends}
use Rattle.edge_io.specs.Puts.{Puts, PutsFront}
use Rattle.edge_io.specs.Text.{text}
use Rattle.edge_io.proofs.Put.{front_of, front_then, puts-then, puts_nothing, sent_all, sent_front, text-append, whole_front}
use Rattle.profile_readers.specs.declared.viewer.Sight.{Sight}
use Rattle.sight_text.specs.Text.{seen_text, sight_line}

-- ---- the lines of one watcher

abbrev lines_text : ℕ → List Sight → List ℕ
lines_text w xs = text (map (sight_line w) xs)

text_more : (w : ℕ) (xs : List Sight) (i : ℕ) (d : Sight) → i < length xs → lines_text w (take (i + 1) xs) ≡ lines_text w (take i xs) ++ (sight_line w (get_or xs i d) ++ 10 ∷ [])
text_more w xs i d lt =
    let x = get_or xs i d in
    ap (λ (ls : List Sight). lines_text w ls) (take_more xs i d lt) ∙ ap text (map-append (sight_line w) (take i xs) (x ∷ []))
    ∙ text-append (map (sight_line w) (take i xs)) (sight_line w x ∷ []) ∙ ap (λ (l : List ℕ). lines_text w (take i xs) ++ l) (append-nil (sight_line w x ++ 10 ∷ []))

rest_behind : (w : ℕ) (xs : List Sight) (i : ℕ) → (rest : List ℕ) × (lines_text w xs ≡ lines_text w (take i xs) ++ rest)
rest_behind w xs i =
    let split : map (sight_line w) xs ≡ map (sight_line w) (take i xs) ++ map (sight_line w) (drop i xs) =
    ap (λ (ls : List Sight). map (sight_line w) ls) (sym (take-append-drop i xs)) ∙ map-append (sight_line w) (take i xs) (drop i xs) in
    (lines_text w (drop i xs), ap text split ∙ text-append (map (sight_line w) (take i xs)) (map (sight_line w) (drop i xs)))

pub put_more : (a b c : Option (List ℕ)) (w0 w1 w2 piece : List ℕ) (w : ℕ) (xs : List Sight) (i : ℕ) (d : Sight) → i < length xs → piece ≡ sight_line w (get_or xs i d) ++ 10 ∷ []
    → Puts a b w0 w1 (text (map (sight_line w) (take i xs))) → Sends b c w2 (w1 ++ piece) → Puts a c w0 w2 (text (map (sight_line w) (take (i + 1) xs)))
put_more a b c w0 w1 w2 piece w xs i d lt form first then =
    let more : Sends b c w2 (w1 ++ (sight_line w (get_or xs i d) ++ 10 ∷ [])) = subst (λ (l : List ℕ). Sends b c w2 (w1 ++ l)) form then in
    rw (text_more w xs i d lt) (puts-then a b c w0 w1 w2 _ _ first more)

pub put_front : (a b c : Option (List ℕ)) (w0 w1 w2 : List ℕ) (w : ℕ) (xs : List Sight) (i : ℕ) → Puts a b w0 w1 (text (map (sight_line w) (take i xs))) → Sends b c w2 w1 → PutsFront a c w0 w2 (text (map (sight_line w) xs))
put_front a b c w0 w1 w2 w xs i first then =
    let rest = rest_behind w xs i in
    let front = lines_text w (take i xs) in
    let puts = puts-then a b c w0 w1 w2 front [] first (puts_nothing b c w1 w2 then) in
    (front ++ [], rest.0, rest.1 ∙ ap (λ (l : List ℕ). l ++ rest.0) (sym (append-nil front)), puts)

-- ---- the lines of all watchers

seen-append : (w : ℕ) (xs ys : List (List Sight)) → seen_text w (xs ++ ys) ≡ seen_text w xs ++ seen_text (w + length xs) ys
seen-append w [] ys = ap (λ (k : ℕ). seen_text k ys) (omega arith)
seen-append w (x ∷ xs) ys =
    let e : w + 1 + length xs ≡ w + length (x ∷ xs) = omega arith in
    ap (λ (l : List ℕ). lines_text w x ++ l) (seen-append (w + 1) xs ys ∙ ap (λ (k : ℕ). seen_text (w + 1) xs ++ seen_text k ys) e)
    ∙ sym (append_assoc (lines_text w x) (seen_text (w + 1) xs) (seen_text (w + length (x ∷ xs)) ys))

seen_more : (seen : List (List Sight)) (i : ℕ) (d : List Sight) → i < length seen → seen_text 0 (take (i + 1) seen) ≡ seen_text 0 (take i seen) ++ lines_text i (get_or seen i d)
seen_more seen i d lt =
    let x = get_or seen i d in
    let k : 0 + length (take i seen) ≡ i = omega (arith, length-take-le i seen (omega arith)) in
    ap (λ (l : List (List Sight)). seen_text 0 l) (take_more seen i d lt) ∙ seen-append 0 (take i seen) (x ∷ [])
    ∙ ap (λ (n : ℕ). seen_text 0 (take i seen) ++ (lines_text n x ++ [])) k ∙ ap (λ (l : List ℕ). seen_text 0 (take i seen) ++ l) (append-nil (lines_text i x))

seen_rest : (seen : List (List Sight)) (i : ℕ) → (rest : List ℕ) × (seen_text 0 seen ≡ seen_text 0 (take i seen) ++ rest)
seen_rest seen i =
    let n = 0 + length (take i seen) in
    (seen_text n (drop i seen), ap (λ (l : List (List Sight)). seen_text 0 l) (sym (take-append-drop i seen)) ∙ seen-append 0 (take i seen) (drop i seen))

pub put_watcher : (a b c : Option (List ℕ)) (w0 w1 w2 : List ℕ) (seen : List (List Sight)) (i w : ℕ) (sights : List Sight) → i < length seen → w ≡ i → sights ≡ get_or seen i sights
    → Puts a b w0 w1 (seen_text 0 (take i seen)) → Puts b c w1 w2 (text (map (sight_line w) sights)) → Puts a c w0 w2 (seen_text 0 (take (i + 1) seen))
put_watcher a b c w0 w1 w2 seen i w sights lt same is first then =
    let more : Puts b c w1 w2 (lines_text i (get_or seen i sights)) = subst (λ (k : ℕ). Puts b c w1 w2 (lines_text k (get_or seen i sights))) same (subst (λ (l : List Sight). Puts b c w1 w2 (lines_text w l)) is then) in
    rw (seen_more seen i sights lt) (puts-then a b c w0 w1 w2 _ _ first more)

pub watcher_fault : (a b c : Option (List ℕ)) (w0 w1 w2 : List ℕ) (seen : List (List Sight)) (i w : ℕ) (sights : List Sight) → i < length seen → w ≡ i → sights ≡ get_or seen i sights
    → Puts a b w0 w1 (seen_text 0 (take i seen)) → PutsFront b c w1 w2 (text (map (sight_line w) sights)) → PutsFront a c w0 w2 (seen_text 0 seen)
watcher_fault a b c w0 w1 w2 seen i w sights lt same is first then =
    let more : PutsFront b c w1 w2 (lines_text i (get_or seen i sights)) = subst (λ (k : ℕ). PutsFront b c w1 w2 (lines_text k (get_or seen i sights))) same (subst (λ (l : List Sight). PutsFront b c w1 w2 (lines_text w l)) is then) in
    let rest = seen_rest seen (i + 1) in
    let front = front_then a b c w0 w1 w2 (seen_text 0 (take i seen)) (lines_text i (get_or seen i sights)) first more in
    let whole = front_of a c w0 w2 (seen_text 0 (take i seen) ++ lines_text i (get_or seen i sights)) rest.0 front in
    subst (λ (l : List ℕ). PutsFront a c w0 w2 l) (sym (rest.1 ∙ ap (λ (l : List ℕ). l ++ rest.0) (seen_more seen i sights lt))) whole

-- ---- what is sent

pub put_fault : (a b : Option (List ℕ)) (w0 w1 : List ℕ) (seen : List (List Sight)) → w0 ≡ [] → PutsFront a b w0 w1 (seen_text 0 seen) → AppendsFront a b (seen_text 0 seen)
put_fault a b w0 w1 seen none front = let start : PutsFront a b [] w1 (seen_text 0 seen) = rw none at front in sent_front a b w1 (seen_text 0 seen) start

all_put : (a b c : Option (List ℕ)) (w0 w1 w2 : List ℕ) (seen : List (List Sight)) → w0 ≡ [] → Puts a b w0 w1 (seen_text 0 seen) → Sends b c w2 w1 → Puts a c [] w2 (seen_text 0 seen)
all_put a b c w0 w1 w2 seen none puts sends =
    let start : Puts a b [] w1 (seen_text 0 seen) = rw none at puts in
    let more = puts-then a b c [] w1 w2 _ [] start (puts_nothing b c w1 w2 sends) in
    rw (sym (append-nil (seen_text 0 seen))) more

pub flush_fault : (a b c : Option (List ℕ)) (w0 w1 w2 : List ℕ) (seen : List (List Sight)) → w0 ≡ [] → Puts a b w0 w1 (seen_text 0 seen) → Sends b c w2 w1 → AppendsFront a c (seen_text 0 seen)
flush_fault a b c w0 w1 w2 seen none puts sends = sent_front a c w2 (seen_text 0 seen) (whole_front a c [] w2 (seen_text 0 seen) (all_put a b c w0 w1 w2 seen none puts sends))

pub flushed : (a b c : Option (List ℕ)) (w0 w1 w2 : List ℕ) (seen : List (List Sight)) → w0 ≡ [] → Puts a b w0 w1 (seen_text 0 seen) → Sends b c w2 w1 → w2 ≡ [] → Appends a c (seen_text 0 seen)
flushed a b c w0 w1 w2 seen none puts sends empty = sent_all a c w2 (seen_text 0 seen) (all_put a b c w0 w1 w2 seen none puts sends) empty

-- ---- a line in its pieces

pub line_form : (a b c d : List ℕ) → ((((((((([] ++ codes "w ") ++ a) ++ codes " ") ++ b) ++ codes " ") ++ c) ++ codes " ") ++ d) ++ codes "\n")
    ≡ (codes "w " ++ (a ++ (codes " " ++ (b ++ (codes " " ++ (c ++ (codes " " ++ (d ++ [])))))))) ++ 10 ∷ []
line_form a b c d = simp append_assoc
