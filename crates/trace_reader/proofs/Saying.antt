-- A line says one thing.
use Rattle.std.proofs.Common.{◌≡◌, ◌≢◌, ◌==◌, ℕ, ◌^◌, ◌<◌, Bool, true, false, ◌&&◌, List, [], ◌∷◌, ◌++◌, codes, decimal, Option, Some, None, find, nat_lt, slice_index_or, refl, sym, ap, ◌∙◌, subst, arith}
use Rattle.std.specs.List.{AllByRecursion, list_all, slice_split}
use Rattle.std.specs.Str.{bytes_eq}
use Rattle.std.specs.Str.Parse.{digits_value}
use Rattle.std.proofs.lemmas.Bool.Decides.{nat_tests}
use Rattle.std.proofs.lemmas.Slice.Eq.{bytes_eq-Decides}
use Rattle.trace_reader.specs.declared.statement.HeapForm.{HeapForm}
use Rattle.trace_reader.specs.declared.statement.AllocForm.{AllocForm}
use Rattle.trace_reader.specs.declared.statement.Statement.{Statement}
use Rattle.trace_reader.specs.declared.statement.Statement.TheVariants.{Title, Heap, Alloc, Gc, Mark, End}
use Rattle.trace_reader.specs.Spelling.{kind, line_for}
use Rattle.trace_reader.specs.Words.{IsDigit}
use Rattle.trace_reader.specs.Says.{numbers, Says, says, said, words_of, worth, heap_reading, alloc_reading, readings}
use Rattle.trace_reader.proofs.Digits.{digits_decimal, value_decimal}

-- Pieces between separators

pub AllByRecursion-map : {X : Type 0} (P Q : X → Type 0) → ((x : X) → P x → Q x) → (xs : List X) → AllByRecursion P xs → AllByRecursion Q xs
AllByRecursion-map P Q f [] all = tt
AllByRecursion-map P Q f (x ∷ xs) all = (f x all.0, AllByRecursion-map P Q f xs all.1)

not_equal : (x y : ℕ) → x ≢ y → (x == y) ≡ false
not_equal x y apart = grind (arith, nat_tests)

is_equal : (x : ℕ) → (x == x) ≡ true
is_equal x = grind (arith, nat_tests)

-- a piece ends at the first separator
pub split_at : (sep : ℕ) (xs rest : List ℕ) → AllByRecursion (λ b. b ≢ sep) xs → slice_split (λ b. b == sep) (xs ++ sep ∷ rest) ≡ xs ∷ slice_split (λ b. b == sep) rest
split_at sep [] rest apart = rw (is_equal sep) refl
split_at sep (x ∷ xs) rest apart = rw (not_equal x sep apart.0, split_at sep xs rest apart.1) refl

-- and the last one at the end
pub split_last : (sep : ℕ) (xs : List ℕ) → AllByRecursion (λ b. b ≢ sep) xs → slice_split (λ b. b == sep) xs ≡ xs ∷ []
split_last sep [] apart = refl
split_last sep (x ∷ xs) apart = rw (not_equal x sep apart.0, split_last sep xs apart.1) refl

-- no digit is a blank or a line feed
pub no_blank : (n : ℕ) → n < 10 ^ 20 → AllByRecursion (λ b. b ≢ 32) (decimal n)
no_blank n small = AllByRecursion-map IsDigit (λ b. b ≢ 32) (λ b digit e. omega (arith, digit.0, e)) (decimal n) (digits_decimal n (omega arith))

word_at : (n : ℕ) (rest : List ℕ) → n < 10 ^ 20 → words_of (decimal n ++ 32 ∷ rest) ≡ decimal n ∷ words_of rest
word_at n rest small = split_at 32 (decimal n) rest (no_blank n small)

word_last : (n : ℕ) → n < 10 ^ 20 → words_of (decimal n ++ []) ≡ decimal n ∷ []
word_last n small = rw append_nil (split_last 32 (decimal n) (no_blank n small)) where
  append_nil : decimal n ++ [] ≡ decimal n
  append_nil = nil (decimal n) where
    nil : (zs : List ℕ) → zs ++ [] ≡ zs
    nil [] = refl
    nil (z ∷ zs) = ap (λ (w : List ℕ). z ∷ w) (nil zs)

-- The test and the fact

pub both : (x y : Bool) → x ≡ true → y ≡ true → (x && y) ≡ true
both x y e f = rw (e, f) refl

pub of_both : (x y : Bool) → (x && y) ≡ true → (x ≡ true) × (y ≡ true)
of_both true y e = (refl, e)
of_both false y e = absurd cc

short_test : (ns : List ℕ) → AllByRecursion (λ n. n < 10 ^ 20) ns → list_all (λ n. nat_lt n (10 ^ 20)) ns ≡ true
short_test [] all = refl
short_test (n ∷ ns) all =
    let here : n < 10 ^ 20 = all.0 in
    let test : nat_lt n (10 ^ 20) ≡ true = grind (arith, nat_tests) in
    both (nat_lt n (10 ^ 20)) (list_all (λ n. nat_lt n (10 ^ 20)) ns) test (short_test ns all.1)

short_fact : (ns : List ℕ) → list_all (λ n. nat_lt n (10 ^ 20)) ns ≡ true → AllByRecursion (λ n. n < 10 ^ 20) ns
short_fact [] test = tt
short_fact (n ∷ ns) test =
    let parts = of_both (nat_lt n (10 ^ 20)) (list_all (λ n. nat_lt n (10 ^ 20)) ns) test in
    (below parts.0, short_fact ns parts.1) where
      below : nat_lt n (10 ^ 20) ≡ true → n < 10 ^ 20
      below e = grind (arith, nat_tests)

says_test : (line : List ℕ) (s : Statement) → Says line s → says line s ≡ true
says_test line s fact = both (bytes_eq line (line_for s)) (list_all (λ n. nat_lt n (10 ^ 20)) (numbers s)) ((bytes_eq-Decides line (line_for s)).1 fact.0) (short_test (numbers s) fact.1)

says_fact : (line : List ℕ) (s : Statement) → says line s ≡ true → Says line s
says_fact line s test =
    let parts = of_both (bytes_eq line (line_for s)) (list_all (λ n. nat_lt n (10 ^ 20)) (numbers s)) test in
    ((bytes_eq-Decides line (line_for s)).0 parts.0, short_fact (numbers s) parts.1)

-- Finding it

find_here : {X : Type 0} (p : X → Bool) (x : X) (xs : List X) → p x ≡ true → find p (x ∷ xs) ≡ Some x
find_here p x xs e = rw e refl

find_later : {X : Type 0} (p : X → Bool) (x : X) (xs : List X) → p x ≡ false → find p (x ∷ xs) ≡ find p xs
find_later p x xs e = rw e refl

find_passes : {X : Type 0} (p : X → Bool) (xs : List X) (x : X) → find p xs ≡ Some x → p x ≡ true
find_passes p [] x e = absurd cc
find_passes p (y ∷ ys) x e = at (p y) refl (λ f. find_passes p ys x f) where
  at : (b : Bool) → p y ≡ b → (find p ys ≡ Some x → p x ≡ true) → p x ≡ true
  at true f later = let found : Some y ≡ Some x = sym (find_here p y ys f) ∙ e in let same : y ≡ x = cc in subst (λ z. p z ≡ true) same f
  at false f later = later (sym (find_later p y ys f) ∙ e)

-- a line that says something has its form
pub Says-said : (line : List ℕ) (s : Statement) → said line ≡ Some s → Says line s
unfolding said
Says-said line s e = says_fact line s (find_passes (λ t. says line t) (readings line) s e)

-- Each line says what it was made for

find_skip : {X : Type 0} (p : X → Bool) (x : X) (xs : List X) (r : Option X) → p x ≡ false → find p xs ≡ r → find p (x ∷ xs) ≡ r
find_skip p x xs r f e = find_later p x xs f ∙ e

find_take : {X : Type 0} (p : X → Bool) (y x : X) (xs : List X) → y ≡ x → p x ≡ true → find p (y ∷ xs) ≡ Some x
find_take p y x xs same f = find_here p y xs (subst (λ z. p z ≡ true) (sym same) f) ∙ ap Some same

-- the first reading with this line is the statement
found_2 : (p : Statement → Bool) (a b x : Statement) (rest : List Statement) → p a ≡ false → b ≡ x → p x ≡ true → find p (a ∷ b ∷ rest) ≡ Some x
found_2 p a b x rest e same f = find_skip p a (b ∷ rest) (Some x) e (find_take p b x rest same f)

found_3 : (p : Statement → Bool) (a b c x : Statement) (rest : List Statement) → p a ≡ false → p b ≡ false → c ≡ x → p x ≡ true → find p (a ∷ b ∷ c ∷ rest) ≡ Some x
found_3 p a b c x rest d e same f = find_skip p a (b ∷ c ∷ rest) (Some x) d (found_2 p b c x rest e same f)

found_4 : (p : Statement → Bool) (a b c d x : Statement) (rest : List Statement) → p a ≡ false → p b ≡ false → p c ≡ false → d ≡ x → p x ≡ true → find p (a ∷ b ∷ c ∷ d ∷ rest) ≡ Some x
found_4 p a b c d x rest e f g same h = find_skip p a (b ∷ c ∷ d ∷ rest) (Some x) e (found_3 p b c d x rest f g same h)

found_5 : (p : Statement → Bool) (a b c d o x : Statement) (rest : List Statement) → p a ≡ false → p b ≡ false → p c ≡ false → p d ≡ false → o ≡ x → p x ≡ true → find p (a ∷ b ∷ c ∷ d ∷ o ∷ rest) ≡ Some x
found_5 p a b c d o x rest e f g h same i = find_skip p a (b ∷ c ∷ d ∷ o ∷ rest) (Some x) e (found_4 p b c d o x rest f g h same i)

abbrev pub Short : Statement → Type 0
Short s = AllByRecursion (λ n. n < 10 ^ 20) (numbers s)

-- the number at a word's place
worth_at : (line : List ℕ) (ws : List (List ℕ)) (k n : ℕ) → words_of line ≡ ws → slice_index_or ws k [] ≡ decimal n → n < 10 ^ 20 → digits_value 10 (slice_index_or (words_of line) k []) ≡ n
worth_at line ws k n e there small = ap (λ (v : List (List ℕ)). digits_value 10 (slice_index_or v k [])) e ∙ ap (digits_value 10) there ∙ value_decimal n (omega arith)

words_title : (v : ℕ) → v < 10 ^ 20 → words_of (line_for (Title v)) ≡ codes "goheap" ∷ decimal v ∷ []
words_title v small = ap (λ (ws : List (List ℕ)). codes "goheap" ∷ ws) (word_last v small)

said_title : (v : ℕ) → Short (Title v) → said (line_for (Title v)) ≡ Some (Title v)
unfolding said
said_title v short =
    let line = line_for (Title v) in
    find_take (says line) (Title (worth line 1)) (Title v) (heap_reading line ∷ alloc_reading line ∷ Gc (worth line 1) ∷ Mark (worth line 1) (worth line 2) ∷ End ∷ [])
    (ap Title (worth_at line _ 1 v (words_title v short.0) refl short.0)) (says_test line (Title v) (refl, short))

said_end : said (line_for End) ≡ Some End
unfolding said
said_end = refl

words_gc : (d : ℕ) → d < 10 ^ 20 → words_of (line_for (Gc d)) ≡ codes "gc" ∷ decimal d ∷ []
words_gc d small = ap (λ (ws : List (List ℕ)). codes "gc" ∷ ws) (word_last d small)

said_gc : (d : ℕ) → Short (Gc d) → said (line_for (Gc d)) ≡ Some (Gc d)
unfolding said
said_gc d short =
    let line = line_for (Gc d) in
    let ws = words_gc d short.0 in
    found_4 (says line) (Title (worth line 1)) (heap_reading line) (alloc_reading line) (Gc (worth line 1)) (Gc d) (Mark (worth line 1) (worth line 2) ∷ End ∷ []) refl refl refl (ap Gc (worth_at line _ 1 d ws refl short.0)) (says_test line (Gc d) (refl, short))

words_mark : (lo hi : ℕ) → lo < 10 ^ 20 → hi < 10 ^ 20 → words_of (line_for (Mark lo hi)) ≡ codes "m" ∷ decimal lo ∷ decimal hi ∷ []
words_mark lo hi low high = ap (λ (ws : List (List ℕ)). codes "m" ∷ ws) (word_at lo (decimal hi ++ []) low ∙ ap (λ (ws : List (List ℕ)). decimal lo ∷ ws) (word_last hi high))

same_mark : (a b c d : ℕ) → a ≡ c → b ≡ d → Mark a b ≡ Mark c d
same_mark a b c d e f = cc

said_mark : (lo hi : ℕ) → Short (Mark lo hi) → said (line_for (Mark lo hi)) ≡ Some (Mark lo hi)
unfolding said
said_mark lo hi short =
    let line = line_for (Mark lo hi) in
    let ws = words_mark lo hi short.0 short.1.0 in
    found_5 (says line) (Title (worth line 1)) (heap_reading line) (alloc_reading line) (Gc (worth line 1)) (Mark (worth line 1) (worth line 2)) (Mark lo hi) (End ∷ []) refl refl refl refl
    (same_mark _ _ lo hi (worth_at line _ 1 lo ws refl short.0) (worth_at line _ 2 hi ws refl short.1.0)) (says_test line (Mark lo hi) (refl, short))

abbrev letter : Bool → List ℕ
letter true = 115 ∷ []
letter false = 110 ∷ []

words_alloc : (e : AllocForm) → Short (Alloc e) → words_of (line_for (Alloc e)) ≡ codes "a" ∷ decimal e.proc ∷ decimal e.size ∷ letter e.scan ∷ decimal e.stack ∷ []
words_alloc e short = ap (λ (ws : List (List ℕ)). codes "a" ∷ ws) (word_at e.proc _ short.0 ∙ ap (λ (ws : List (List ℕ)). decimal e.proc ∷ ws) (kinded e.scan)) where
  kinded : (scan : Bool) → words_of (decimal e.size ++ (kind scan ++ (decimal e.stack ++ []))) ≡ decimal e.size ∷ letter scan ∷ decimal e.stack ∷ []
  kinded true = word_at e.size _ short.1.0 ∙ ap (λ (ws : List (List ℕ)). decimal e.size ∷ (115 ∷ []) ∷ ws) (word_last e.stack short.1.1.0)
  kinded false = word_at e.size _ short.1.0 ∙ ap (λ (ws : List (List ℕ)). decimal e.size ∷ (110 ∷ []) ∷ ws) (word_last e.stack short.1.1.0)

letter_scan : (scan : Bool) → bytes_eq (letter scan) (115 ∷ []) ≡ scan
letter_scan true = refl
letter_scan false = refl

same_alloc : (p s t : ℕ) (k : Bool) (e : AllocForm) → p ≡ e.proc → s ≡ e.size → k ≡ e.scan → t ≡ e.stack
    → Alloc (record { proc = p; size = s; scan = k; stack = t }) ≡ Alloc e
same_alloc p s t k e a b c d = rw (a, b, c, d) refl

said_alloc : (e : AllocForm) → Short (Alloc e) → said (line_for (Alloc e)) ≡ Some (Alloc e)
unfolding said
said_alloc e short =
    let line = line_for (Alloc e) in
    let ws = words_alloc e short in
    let scan : bytes_eq (slice_index_or (words_of line) 3 []) (115 ∷ []) ≡ e.scan = ap (λ (v : List (List ℕ)). bytes_eq (slice_index_or v 3 []) (115 ∷ [])) ws ∙ letter_scan e.scan in
    found_3 (says line) (Title (worth line 1)) (heap_reading line) (alloc_reading line) (Alloc e) (Gc (worth line 1) ∷ Mark (worth line 1) (worth line 2) ∷ End ∷ []) refl refl
    (same_alloc _ _ _ _ e (worth_at line _ 1 e.proc ws refl short.0) (worth_at line _ 2 e.size ws refl short.1.0) scan (worth_at line _ 4 e.stack ws refl short.1.1.0)) (says_test line (Alloc e) (refl, short))

words_heap : (h : HeapForm) → Short (Heap h) → words_of (line_for (Heap h))
    ≡ codes "heap" ∷ decimal h.chunks ∷ codes "procs" ∷ decimal h.procs ∷ codes "rate" ∷ decimal h.rate ∷ codes "seed" ∷ decimal h.seed ∷ codes "goal" ∷ decimal h.goal ∷ []
words_heap h short =
    let five = ap (λ (ws : List (List ℕ)). codes "goal" ∷ ws) (word_last h.goal short.1.1.1.1.0) in
    let four = ap (λ (ws : List (List ℕ)). codes "seed" ∷ ws) (word_at h.seed _ short.1.1.1.0 ∙ ap (λ (ws : List (List ℕ)). decimal h.seed ∷ ws) five) in
    let three = ap (λ (ws : List (List ℕ)). codes "rate" ∷ ws) (word_at h.rate _ short.1.1.0 ∙ ap (λ (ws : List (List ℕ)). decimal h.rate ∷ ws) four) in
    let two = ap (λ (ws : List (List ℕ)). codes "procs" ∷ ws) (word_at h.procs _ short.1.0 ∙ ap (λ (ws : List (List ℕ)). decimal h.procs ∷ ws) three) in
    ap (λ (ws : List (List ℕ)). codes "heap" ∷ ws) (word_at h.chunks _ short.0 ∙ ap (λ (ws : List (List ℕ)). decimal h.chunks ∷ ws) two)

same_heap : (c p r s g : ℕ) (h : HeapForm) → c ≡ h.chunks → p ≡ h.procs → r ≡ h.rate → s ≡ h.seed → g ≡ h.goal
    → Heap (record { chunks = c; procs = p; rate = r; seed = s; goal = g }) ≡ Heap h
same_heap c p r s g h a b d e f = rw (a, b, d, e, f) refl

said_heap : (h : HeapForm) → Short (Heap h) → said (line_for (Heap h)) ≡ Some (Heap h)
unfolding said
said_heap h short =
    let line = line_for (Heap h) in
    let ws = words_heap h short in
    found_2 (says line) (Title (worth line 1)) (heap_reading line) (Heap h) (alloc_reading line ∷ Gc (worth line 1) ∷ Mark (worth line 1) (worth line 2) ∷ End ∷ []) refl
    (same_heap _ _ _ _ _ h (worth_at line _ 1 h.chunks ws refl short.0) (worth_at line _ 3 h.procs ws refl short.1.0) (worth_at line _ 5 h.rate ws refl short.1.1.0)
    (worth_at line _ 7 h.seed ws refl short.1.1.1.0) (worth_at line _ 9 h.goal ws refl short.1.1.1.1.0)) (says_test line (Heap h) (refl, short))

pub said_line : (s : Statement) → Short s → said (line_for s) ≡ Some s
said_line (Title v) short = said_title v short
said_line (Heap h) short = said_heap h short
said_line (Alloc e) short = said_alloc e short
said_line (Gc d) short = said_gc d short
said_line (Mark lo hi) short = said_mark lo hi short
said_line End short = said_end

pub said_is : (line : List ℕ) (s : Statement) → Says line s → said line ≡ Some s
said_is line s fact = ap said fact.0 ∙ said_line s fact.1

-- what has no form says nothing
pub says_nothing : (line : List ℕ) → ((e : AllocForm) → ¬ Says line (Alloc e)) → (line ≡ codes "end" → ⊥) → ((d : ℕ) → ¬ Says line (Gc d)) → ((lo hi : ℕ) → ¬ Says line (Mark lo hi))
    → ((h : HeapForm) → ¬ Says line (Heap h)) → ((v : ℕ) → ¬ Says line (Title v)) → said line ≡ None
says_nothing line no_alloc no_end no_gc no_mark no_heap no_title = at (said line) refl where
  none : (s : Statement) → ¬ Says line s
  none (Title v) says = no_title v says
  none (Heap h) says = no_heap h says
  none (Alloc e) says = no_alloc e says
  none (Gc d) says = no_gc d says
  none (Mark lo hi) says = no_mark lo hi says
  none End says = no_end says.0

  at : (o : Option Statement) → said line ≡ o → said line ≡ None
  at None e = e
  at (Some s) e = absurd (none s (Says-said line s e))

-- a test of two texts that failed
pub not_text : (line other word : List ℕ) → false ≡ bytes_eq line other → other ≡ word → line ≡ word → ⊥
not_text line other word test e f =
    let same = (bytes_eq-Decides line other).1 (f ∙ sym e) in
    let clash : false ≡ true = test ∙ same in
    absurd cc
