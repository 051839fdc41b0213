-- Putting lines behind what waits, one at a time.
use Rattle.std.proofs.Common.{◌≡◌, ℕ, ◌+◌, ◌<◌, ◌≤◌, List, [], ◌∷◌, ◌++◌, map, length, take, drop, get_or, codes, Option, Some, refl, sym, ap, ◌∙◌, append_assoc}
use Rattle.std.specs.List.{concat, flat_map}
use Rattle.std.specs.Io.KnownBytes.{Appends}
use Rattle.std.proofs.lemmas.List.{append-nil, take_more, take_all, take-append-drop}
use Rattle.std.proofs.lemmas.List.Concat.{flat_map_single}
use Rattle.std.proofs.lemmas.Grind.{flat_map-append}
use Rattle.edge_io.specs.Front.{AppendsFront, Sends}
use Rattle.edge_io.specs.Text.{text}
use Rattle.edge_io.specs.Puts.{Puts, PutsFront}
use Rattle.edge_io.proofs.Put.{front_nothing, front_of, front_then, puts-then, puts_nothing, sent_all, sent_front, whole_front}
use Rattle.trace_reader.specs.declared.trace.Trace.{Trace}
use Rattle.trace_reader.specs.declared.trace.Cycle.{Cycle}
use Rattle.trace_reader.specs.declared.trace.MarkEnd.{MarkEnd}
use Rattle.trace_reader.specs.Spelling.{alloc_of, cycle_statements, heap_of, line_for, lines_of, mark_statements, statements_of, title_line}

-- Texts

-- the text of the lines of these, in order
abbrev pub said : {S : Type 0} → (S → List ℕ) → List S → List ℕ
said line ss = text (map line ss)

said-append : {S : Type 0} (line : S → List ℕ) (ss ts : List S) → said line (ss ++ ts) ≡ said line ss ++ said line ts
said-append line [] ts = refl
said-append line (s ∷ ss) ts = ap (λ (x : List ℕ). (line s ++ 10 ∷ []) ++ x) (said-append line ss ts) ∙ sym (append_assoc (line s ++ 10 ∷ []) (said line ss) (said line ts))

said_one : {S : Type 0} (line : S → List ℕ) (s : S) → said line (s ∷ []) ≡ line s ++ 10 ∷ []
said_one line s = append-nil (line s ++ 10 ∷ [])

-- the text of the first i items, and one more
text_more : {X S : Type 0} (line : S → List ℕ) (f : X → List S) (xs : List X) (i : ℕ) (d : X) → i < length xs → said line (flat_map f (take (i + 1) xs)) ≡ said line (flat_map f (take i xs)) ++ said line (f (get_or xs i d))
text_more {X} {S} line f xs i d less =
    let x = get_or xs i d in
    ap (λ (ys : List X). said line (flat_map f ys)) (take_more xs i d less) ∙ ap (said line) (flat_map-append f (take i xs) (x ∷ [])) ∙ said-append line (flat_map f (take i xs)) (f x ++ [])
    ∙ ap (λ (ss : List S). said line (flat_map f (take i xs)) ++ said line ss) (append-nil (f x))

-- the text of all items begins with that of the first i, and one more
text_front : {X S : Type 0} (line : S → List ℕ) (f : X → List S) (xs : List X) (i : ℕ) → (rest : List ℕ) × (said line (flat_map f xs) ≡ said line (flat_map f (take i xs)) ++ rest)
text_front {X} {S} line f xs i =
    (said line (flat_map f (drop i xs)), ap (λ (ys : List X). said line (flat_map f ys)) (sym (take-append-drop i xs)) ∙ ap (said line) (flat_map-append f (take i xs) (drop i xs)) ∙ said-append line (flat_map f (take i xs)) (flat_map f (drop i xs)))

pub of_events : {X S : Type 0} (line : S → List ℕ) (f : X → S) (xs : List X) → said line (flat_map (λ x. f x ∷ []) xs) ≡ said line (map f xs)
of_events line f xs = ap (said line) (flat_map_single f xs)

-- One item at a time

pub put_more : {X S : Type 0} (line : S → List ℕ) (f : X → List S) (a b c : Option (List ℕ)) (w0 w1 w2 : List ℕ) (xs : List X) (i : ℕ) (d : X) → i < length xs
    → Puts a b w0 w1 (said line (flat_map f (take i xs))) → Puts b c w1 w2 (said line (f (get_or xs i d))) → Puts a c w0 w2 (said line (flat_map f (take (i + 1) xs)))
put_more line f a b c w0 w1 w2 xs i d less first then = rw (text_more line f xs i d less) (puts-then a b c w0 w1 w2 _ _ first then)

pub put_all : {X S : Type 0} (line : S → List ℕ) (f : X → List S) (a b : Option (List ℕ)) (w0 w1 : List ℕ) (xs : List X) (i : ℕ) → length xs ≤ i
    → Puts a b w0 w1 (said line (flat_map f (take i xs))) → Puts a b w0 w1 (said line (flat_map f xs))
put_all {X} line f a b w0 w1 xs i le puts = let e : take i xs ≡ xs = take_all i xs le in rw e at puts

-- a fault in item i
pub put_front : {X S : Type 0} (line : S → List ℕ) (f : X → List S) (a b c : Option (List ℕ)) (w0 w1 w2 : List ℕ) (xs : List X) (i : ℕ) (d : X) → i < length xs
    → Puts a b w0 w1 (said line (flat_map f (take i xs))) → PutsFront b c w1 w2 (said line (f (get_or xs i d))) → PutsFront a c w0 w2 (said line (flat_map f xs))
put_front line f a b c w0 w1 w2 xs i d less first then =
    let rest = text_front line f xs (i + 1) in
    rw (rest.1, text_more line f xs i d less) (front_of a c w0 w2 (said line (flat_map f (take i xs)) ++ said line (f (get_or xs i d))) rest.0 (front_then a b c w0 w1 w2 _ _ first then))

-- the line of an item
pub one_line : {S : Type 0} (line : S → List ℕ) (a b : Option (List ℕ)) (w0 w1 bytes : List ℕ) (s : S) → bytes ≡ line s ++ 10 ∷ [] → Sends a b w1 (w0 ++ bytes) → Puts a b w0 w1 (said line (s ∷ []))
one_line line a b w0 w1 bytes s e sends = rw (said_one line s, ← e) sends

-- The whole

-- a trace's text in its parts
abbrev head_text : Trace → List ℕ
head_text t = text (title_line t.header.version ∷ line_for (heap_of t.header) ∷ [])

abbrev cycles_text : Trace → List ℕ
cycles_text t = said line_for (flat_map cycle_statements t.cycles)

-- a trace that has only its first two lines and its last
bare : Trace
bare = record { header = record { version = 0; chunks = 0; procs = 0; rate = 0; seed = 0; goal = 0 }; cycles = [] }

parts : (t : Trace) → text (lines_of t) ≡ head_text t ++ (cycles_text t ++ codes "end\n")
unfolding bare
parts t = said-append line_for (take 2 (statements_of t)) (flat_map cycle_statements t.cycles ++ drop 2 (statements_of bare))
    ∙ ap (λ (l : List ℕ). head_text t ++ l) (said-append line_for (flat_map cycle_statements t.cycles) (drop 2 (statements_of bare)))

pub head_fault : (t : Trace) (a b : Option (List ℕ)) (w0 w1 : List ℕ) → w0 ≡ [] → PutsFront a b w0 w1 (head_text t) → AppendsFront a b (text (lines_of t))
head_fault t a b w0 w1 none front =
    let start : PutsFront a b [] w1 (head_text t) = rw none at front in
    rw (parts t) (sent_front a b w1 _ (front_of a b [] w1 (head_text t) (cycles_text t ++ codes "end\n") start))

pub cycles_fault : (t : Trace) (a b c : Option (List ℕ)) (w0 w1 w2 : List ℕ) → w0 ≡ [] → Puts a b w0 w1 (head_text t) → PutsFront b c w1 w2 (cycles_text t) → AppendsFront a c (text (lines_of t))
cycles_fault t a b c w0 w1 w2 none first front =
    let start : Puts a b [] w1 (head_text t) = rw none at first in
    rw (parts t) (sent_front a c w2 _ (front_then a b c [] w1 w2 (head_text t) (cycles_text t ++ codes "end\n") start (front_of b c w1 w2 (cycles_text t) (codes "end\n") front)))

pub end_fault : (t : Trace) (a b c d : Option (List ℕ)) (w0 w1 w2 w3 : List ℕ) → w0 ≡ [] → Puts a b w0 w1 (head_text t) → Puts b c w1 w2 (cycles_text t) → Sends c d w3 w2 → AppendsFront a d (text (lines_of t))
end_fault t a b c d w0 w1 w2 w3 none first then sends =
    let start : Puts a b [] w1 (head_text t) = rw none at first in
    rw (parts t) (sent_front a d w3 _ (front_then a b d [] w1 w3 (head_text t) (cycles_text t ++ codes "end\n") start (front_then b c d w1 w2 w3 (cycles_text t) (codes "end\n") then (front_nothing c d w2 w3 (codes "end\n") sends))))

all_put : (t : Trace) (a b c d e : Option (List ℕ)) (w0 w1 w2 w3 w4 : List ℕ) → w0 ≡ [] → Puts a b w0 w1 (head_text t) → Puts b c w1 w2 (cycles_text t) → Puts c d w2 w3 (codes "end\n") → Sends d e w4 w3 → Puts a e [] w4 (text (lines_of t))
all_put t a b c d e w0 w1 w2 w3 w4 none first then last sends =
    let start : Puts a b [] w1 (head_text t) = rw none at first in
    let lines = puts-then a b d [] w1 w3 (head_text t) (cycles_text t ++ codes "end\n") start (puts-then b c d w1 w2 w3 (cycles_text t) (codes "end\n") then last) in
    let more = puts-then a d e [] w3 w4 _ [] lines (puts_nothing d e w3 w4 sends) in
    rw (parts t ∙ sym (append-nil (head_text t ++ (cycles_text t ++ codes "end\n")))) more

pub flush_fault : (t : Trace) (a b c d e : Option (List ℕ)) (w0 w1 w2 w3 w4 : List ℕ) → w0 ≡ [] → Puts a b w0 w1 (head_text t) → Puts b c w1 w2 (cycles_text t) → Puts c d w2 w3 (codes "end\n") → Sends d e w4 w3 → AppendsFront a e (text (lines_of t))
flush_fault t a b c d e w0 w1 w2 w3 w4 none first then last sends = sent_front a e w4 (text (lines_of t)) (whole_front a e [] w4 (text (lines_of t)) (all_put t a b c d e w0 w1 w2 w3 w4 none first then last sends))

pub flushed : (t : Trace) (a b c d e : Option (List ℕ)) (w0 w1 w2 w3 w4 : List ℕ) → w0 ≡ [] → Puts a b w0 w1 (head_text t) → Puts b c w1 w2 (cycles_text t) → Puts c d w2 w3 (codes "end\n") → Sends d e w4 w3 → w4 ≡ [] → Appends a e (text (lines_of t))
flushed t a b c d e w0 w1 w2 w3 w4 none first then last sends empty = sent_all a e w4 (text (lines_of t)) (all_put t a b c d e w0 w1 w2 w3 w4 none first then last sends) empty

-- a line, and then more
pub line_then : (a b c : Option (List ℕ)) (w0 w1 w2 bytes line : List ℕ) (lines : List (List ℕ)) → bytes ≡ line ++ 10 ∷ [] → Sends a b w1 (w0 ++ bytes) → Puts b c w1 w2 (text lines) → Puts a c w0 w2 (text (line ∷ lines))
line_then a b c w0 w1 w2 bytes line lines e sends then = let start : Puts a b w0 w1 (line ++ 10 ∷ []) = rw e at sends in puts-then a b c w0 w1 w2 (line ++ 10 ∷ []) (text lines) start then

pub line_front : (a b c : Option (List ℕ)) (w0 w1 w2 bytes line : List ℕ) (lines : List (List ℕ)) → bytes ≡ line ++ 10 ∷ [] → Sends a b w1 (w0 ++ bytes) → PutsFront b c w1 w2 (text lines) → PutsFront a c w0 w2 (text (line ∷ lines))
line_front a b c w0 w1 w2 bytes line lines e sends then = let start : Puts a b w0 w1 (line ++ 10 ∷ []) = rw e at sends in front_then a b c w0 w1 w2 (line ++ 10 ∷ []) (text lines) start then

-- events, and then a mark end
cycle_then : {S : Type 0} (line : S → List ℕ) (a b c : Option (List ℕ)) (w0 w1 w2 : List ℕ) (ss ts : List S) → Puts a b w0 w1 (said line ss) → Puts b c w1 w2 (said line ts) → Puts a c w0 w2 (said line (ss ++ ts))
cycle_then line a b c w0 w1 w2 ss ts first then = rw (said-append line ss ts) (puts-then a b c w0 w1 w2 (said line ss) (said line ts) first then)

cycle_front : {S : Type 0} (line : S → List ℕ) (a b c : Option (List ℕ)) (w0 w1 w2 : List ℕ) (ss ts : List S) → Puts a b w0 w1 (said line ss) → PutsFront b c w1 w2 (said line ts) → PutsFront a c w0 w2 (said line (ss ++ ts))
cycle_front line a b c w0 w1 w2 ss ts first then = rw (said-append line ss ts) (front_then a b c w0 w1 w2 (said line ss) (said line ts) first then)

pub events_front : {S : Type 0} (line : S → List ℕ) (a b : Option (List ℕ)) (w0 w1 : List ℕ) (ss ts : List S) → PutsFront a b w0 w1 (said line ss) → PutsFront a b w0 w1 (said line (ss ++ ts))
events_front line a b w0 w1 ss ts front = rw (said-append line ss ts) (front_of a b w0 w1 (said line ss) (said line ts) front)

-- the lines of a cycle that has a mark end
pub cycle_marked : (a b c : Option (List ℕ)) (w0 w1 w2 : List ℕ) (cycle : Cycle) (m : MarkEnd) → cycle.mark ≡ Some m → Puts a b w0 w1 (said line_for (map alloc_of cycle.events)) → Puts b c w1 w2 (said line_for (mark_statements (Some m)))
    → Puts a c w0 w2 (said line_for (cycle_statements cycle))
cycle_marked a b c w0 w1 w2 cycle m e first then = rw e (cycle_then line_for a b c w0 w1 w2 (map alloc_of cycle.events) (mark_statements (Some m)) first then)

pub cycle_marked_front : (a b c : Option (List ℕ)) (w0 w1 w2 : List ℕ) (cycle : Cycle) (m : MarkEnd) → cycle.mark ≡ Some m → Puts a b w0 w1 (said line_for (map alloc_of cycle.events)) → PutsFront b c w1 w2 (said line_for (mark_statements (Some m)))
    → PutsFront a c w0 w2 (said line_for (cycle_statements cycle))
cycle_marked_front a b c w0 w1 w2 cycle m e first then = rw e (cycle_front line_for a b c w0 w1 w2 (map alloc_of cycle.events) (mark_statements (Some m)) first then)

-- eleven pieces
pub regroup : (a b c d e f g h i j z : List ℕ) → (((((((((a ++ b) ++ c) ++ d) ++ e) ++ f) ++ g) ++ h) ++ i) ++ j) ++ z ≡ concat (a ∷ b ∷ c ∷ d ∷ e ∷ f ∷ g ∷ h ∷ i ∷ j ∷ []) ++ z
regroup a b c d e f g h i j z = simp append_assoc
