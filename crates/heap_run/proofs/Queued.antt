-- The events and answers of each processor.
use Rattle.std.proofs.Common.{◌≡◌, ◌≢◌, ℕ, zero, suc, ◌+◌, ◌-◌, ◌<◌, ◌≤◌, eqb, All, List, [], ◌∷◌, ◌++◌, map, replicate, reverse, set, take, drop, length, get_or, refl, sym, ◌∙◌, ap, arith, inl, inr}
use Rattle.std.specs.List.{AllByRecursion}
use Rattle.std.proofs.lemmas.Bool.{cases_Bool, cases_eq, eq-eqb, ne_eqb}
use Rattle.std.proofs.lemmas.List.{append-nil, append_assoc, get_or-set_same, get_or-set_other, length-append, length-take-le, reverse-append, take_all, take_more, take-append-drop, length-reverse}
use Rattle.std.proofs.Math.Seq.{drop-append_seam}
use Rattle.std.proofs.lemmas.List.Elements.{recursion_from_All}
use Rattle.trace_reader.specs.declared.trace.Event.{Event}
use Rattle.profile_cycle.specs.declared.buckets.Bucket.{Bucket}
use Rattle.sample_laws.specs.Numbers.{number_of}
use Rattle.sample_laws.specs.By.{answers_by, events_by}

-- ---- lists behind lists

pub events-append : (w : ℕ) (xs ys : List Event) → events_by w (xs ++ ys) ≡ events_by w xs ++ events_by w ys
events-append w [] ys = refl
events-append w (e ∷ xs) ys = elim (cases_Bool (eqb e.proc w)) [
  | inl on ↦ rw on (ap (λ (l : List Event). e ∷ l) (events-append w xs ys))
  | inr off ↦ rw off (events-append w xs ys)
]

pub answers-append : {X : Type 0} (w : ℕ) (xs ys : List Event) (ans bs : List X) → length ans ≡ length xs → answers_by w (xs ++ ys) (ans ++ bs) ≡ answers_by w xs ans ++ answers_by w ys bs
answers-append w [] ys [] bs same = refl
answers-append w [] ys (a ∷ ans) bs same = absurd (omega arith)
answers-append w (e ∷ xs) ys [] bs same = absurd (omega arith)
answers-append w (e ∷ xs) ys (a ∷ ans) bs same = elim (cases_Bool (eqb e.proc w)) [
  | inl on ↦ rw on (ap (λ (l : List _). a ∷ l) (answers-append w xs ys ans bs (omega arith)))
  | inr off ↦ rw off (answers-append w xs ys ans bs (omega arith))
]

pub events-reverse : (w : ℕ) (xs : List Event) → events_by w (reverse xs) ≡ reverse (events_by w xs)
events-reverse w [] = refl
events-reverse w (e ∷ xs) =
    let split : events_by w (reverse (e ∷ xs)) ≡ events_by w (reverse xs) ++ events_by w (e ∷ []) = ap (λ (l : List Event). events_by w l) (reverse-append (e ∷ []) xs) ∙ events-append w (reverse xs) (e ∷ []) in
    let rest = events-reverse w xs in
    elim (cases_Bool (eqb e.proc w)) [
      | inl on ↦ (
          let one : events_by w (e ∷ []) ≡ e ∷ [] = rw on refl in
          let all : events_by w (e ∷ xs) ≡ e ∷ events_by w xs = rw on refl in
          split ∙ ap (λ (l : List Event). l ++ events_by w (e ∷ [])) rest ∙ ap (λ (l : List Event). reverse (events_by w xs) ++ l) one
          ∙ sym (reverse-append (e ∷ []) (events_by w xs)) ∙ ap (λ (l : List Event). reverse l) (sym all))
      | inr off ↦ (
          let one : events_by w (e ∷ []) ≡ [] = rw off refl in
          let all : events_by w (e ∷ xs) ≡ events_by w xs = rw off refl in
          split ∙ ap (λ (l : List Event). l ++ events_by w (e ∷ [])) rest ∙ ap (λ (l : List Event). reverse (events_by w xs) ++ l) one
          ∙ append-nil (reverse (events_by w xs)) ∙ ap (λ (l : List Event). reverse l) (sym all))
    ]

pub answers-reverse : {X : Type 0} (w : ℕ) (xs : List Event) (ans : List X) → length ans ≡ length xs → answers_by w (reverse xs) (reverse ans) ≡ reverse (answers_by w xs ans)
answers-reverse w [] [] same = refl
answers-reverse w [] (a ∷ ans) same = absurd (omega arith)
answers-reverse w (e ∷ xs) [] same = absurd (omega arith)
answers-reverse w (e ∷ xs) (a ∷ ans) same =
    let long : length (reverse ans) ≡ length (reverse xs) = (let p = length-reverse ans in let q = length-reverse xs in omega arith) in
    let split : answers_by w (reverse (e ∷ xs)) (reverse (a ∷ ans)) ≡ answers_by w (reverse xs) (reverse ans) ++ answers_by w (e ∷ []) (a ∷ []) =
    ap (λ (l : List Event). answers_by w l (reverse (a ∷ ans))) (reverse-append (e ∷ []) xs) ∙ ap (λ (l : List _). answers_by w (reverse xs ++ e ∷ []) l) (reverse-append (a ∷ []) ans)
    ∙ answers-append w (reverse xs) (e ∷ []) (reverse ans) (a ∷ []) long in
    let rest = answers-reverse w xs ans (omega arith) in
    elim (cases_Bool (eqb e.proc w)) [
      | inl on ↦ (
          let one : answers_by w (e ∷ []) (a ∷ []) ≡ a ∷ [] = rw on refl in
          let all : answers_by w (e ∷ xs) (a ∷ ans) ≡ a ∷ answers_by w xs ans = rw on refl in
          split ∙ ap (λ (l : List _). l ++ answers_by w (e ∷ []) (a ∷ [])) rest ∙ ap (λ (l : List _). reverse (answers_by w xs ans) ++ l) one
          ∙ sym (reverse-append (a ∷ []) (answers_by w xs ans)) ∙ ap (λ (l : List _). reverse l) (sym all))
      | inr off ↦ (
          let one : answers_by w (e ∷ []) (a ∷ []) ≡ [] = rw off refl in
          let all : answers_by w (e ∷ xs) (a ∷ ans) ≡ answers_by w xs ans = rw off refl in
          split ∙ ap (λ (l : List _). l ++ answers_by w (e ∷ []) (a ∷ [])) rest ∙ ap (λ (l : List _). reverse (answers_by w xs ans) ++ l) one
          ∙ append-nil (reverse (answers_by w xs ans)) ∙ ap (λ (l : List _). reverse l) (sym all))
    ]

-- ---- one event more

-- the events of a worker, with one more
pub events-more : (w : ℕ) (events : List Event) (i : ℕ) (d : Event) → i < length events → events_by w (take (i + 1) events) ≡ events_by w (take i events) ++ events_by w (get_or events i d ∷ [])
events-more w events i d lt = ap (λ (l : List Event). events_by w l) (take_more events i d lt) ∙ events-append w (take i events) (get_or events i d ∷ [])

pub one-event : (w : ℕ) (e : Event) → e.proc ≡ w → events_by w (e ∷ []) ≡ e ∷ []
one-event w e same = rw (eq-eqb e.proc w same) refl

pub no-event : (w : ℕ) (e : Event) → e.proc ≢ w → events_by w (e ∷ []) ≡ []
no-event w e other = rw (ne_eqb e.proc w other) refl

pub one-answer : {X : Type 0} (w : ℕ) (e : Event) (a : X) → e.proc ≡ w → answers_by w (e ∷ []) (a ∷ []) ≡ a ∷ []
one-answer w e a same = rw (eq-eqb e.proc w same) refl

pub no-answer : {X : Type 0} (w : ℕ) (e : Event) (a : X) → e.proc ≢ w → answers_by w (e ∷ []) (a ∷ []) ≡ []
no-answer w e a other = rw (ne_eqb e.proc w other) refl

-- an empty list more
pub empty-more : {X : Type 0} (lists : List (List X)) (w : ℕ) → ((v : ℕ) → get_or lists v [] ≡ []) → get_or (lists ++ [] ∷ []) w [] ≡ []
empty-more [] zero all = refl
empty-more [] (suc w) all = refl
empty-more (l ∷ lists) zero all = all zero
empty-more (l ∷ lists) (suc w) all = empty-more lists w (λ v. all (suc v))

-- ---- the parts of the processors

-- the parts with one event more
pub parts-more : {X : Type 0} (lists : List (List X)) (list : List X) (events : List Event) (items : List X) (i : ℕ) (e : Event) (a : X) → i < length events → length items ≡ length events → e ≡ get_or events i e → a ≡ get_or items i a
    → e.proc < length lists → ((w : ℕ) → get_or lists w [] ≡ answers_by w (take i events) (take i items)) → list ≡ get_or lists e.proc [] ++ a ∷ [] → (w : ℕ) → get_or (set lists e.proc list) w [] ≡ answers_by w (take (i + 1) events) (take (i + 1) items)
parts-more lists list events items i e a lt same here there inside each grown w =
    let low : i < length items = omega arith in
    let even : length (take i items) ≡ length (take i events) = length-take-le i items (omega arith) ∙ sym (length-take-le i events (omega arith)) in
    let event : take (i + 1) events ≡ take i events ++ e ∷ [] = take_more events i e lt ∙ ap (λ (x : Event). take i events ++ x ∷ []) (sym here) in
    let item : take (i + 1) items ≡ take i items ++ a ∷ [] = take_more items i a low ∙ ap (λ (x : _). take i items ++ x ∷ []) (sym there) in
    let more : answers_by w (take (i + 1) events) (take (i + 1) items) ≡ answers_by w (take i events) (take i items) ++ answers_by w (e ∷ []) (a ∷ []) =
    ap (λ (l : List Event). answers_by w l (take (i + 1) items)) event ∙ ap (λ (l : List _). answers_by w (take i events ++ e ∷ []) l) item ∙ answers-append w (take i events) (e ∷ []) (take i items) (a ∷ []) even in
    elim (cases_eq w e.proc) [
      | inl mine ↦ (
          let at : get_or (set lists e.proc list) e.proc [] ≡ list = get_or-set_same lists e.proc list [] inside in
          let at' : get_or (set lists e.proc list) w [] ≡ list = rw mine at in
          let old : get_or lists e.proc [] ≡ answers_by w (take i events) (take i items) = rw (sym mine) (each w) in
          at' ∙ grown ∙ ap (λ (l : List _). l ++ a ∷ []) old ∙ ap (λ (l : List _). answers_by w (take i events) (take i items) ++ l) (sym (one-answer w e a (sym mine))) ∙ sym more)
      | inr other ↦ get_or-set_other lists e.proc w list [] other ∙ each w ∙ sym (append-nil (answers_by w (take i events) (take i items)))
          ∙ ap (λ (l : List _). answers_by w (take i events) (take i items) ++ l) (sym (no-answer w e a (λ q. other (sym q)))) ∙ sym more
    ]

-- a single processor has all of them
pub all-mine : {X : Type 0} (events : List Event) (items : List X) → AllByRecursion (λ (e : Event). e.proc < 1) events → length items ≡ length events → (w : ℕ) → answers_by w events items ≡ get_or (items ∷ []) w []
all-mine [] [] below same zero = refl
all-mine [] [] below same (suc w) = refl
all-mine [] (a ∷ items) below same w = absurd (omega arith)
all-mine (e ∷ events) [] below same w = absurd (omega arith)
all-mine (e ∷ events) (a ∷ items) below same zero = rw (eq-eqb e.proc 0 (let b = below.0 in omega arith)) (ap (λ (l : List _). a ∷ l) (all-mine events items below.1 (omega arith) 0))
all-mine (e ∷ events) (a ∷ items) below same (suc w) = rw (ne_eqb e.proc (suc w) (λ q. (let b = below.0 in omega arith))) (all-mine events items below.1 (omega arith) (suc w))

pub one-part : {X : Type 0} (events : List Event) (items : List X) (lists : List (List X)) (n : ℕ) → n ≡ 1 → All (λ (e : Event). e.proc < n) events → length items ≡ length events → lists ≡ items ∷ [] → (w : ℕ) → get_or lists w [] ≡ answers_by w events items
one-part events items lists n one below same is w =
    let low : All (λ (e : Event). e.proc < 1) events = rw (sym one) below in
    ap (λ (l : List (List _)). get_or l w []) is ∙ sym (all-mine events items (recursion_from_All (λ (e : Event). e.proc < 1) events low) same w)

-- of the events themselves the parts are the events of the processors
pub answers-self : (w : ℕ) (events : List Event) → answers_by w events events ≡ events_by w events
answers-self w [] = refl
answers-self w (e ∷ events) = elim (cases_Bool (eqb e.proc w)) [
  | inl on ↦ rw on (ap (λ (l : List Event). e ∷ l) (answers-self w events))
  | inr off ↦ rw off (answers-self w events)
]

-- and of their numbers those of the events
pub answers-map : {X : Type 0} (f : Event → X) (w : ℕ) (events : List Event) → answers_by w events (map f events) ≡ map f (events_by w events)
answers-map f w [] = refl
answers-map f w (e ∷ events) = elim (cases_Bool (eqb e.proc w)) [
  | inl on ↦ rw on (ap (λ (l : List _). f e ∷ l) (answers-map f w events))
  | inr off ↦ rw off (answers-map f w events)
]

-- ---- lists, one item more

pub push-more : {X : Type 0} (xs ys now : List X) (i : ℕ) (d : X) → i < length ys → now ≡ xs ++ take i ys → now ++ get_or ys i d ∷ [] ≡ xs ++ take (i + 1) ys
push-more xs ys now i d lt is = ap (λ (l : List _). l ++ get_or ys i d ∷ []) is ∙ append_assoc xs (take i ys) (get_or ys i d ∷ []) ∙ ap (λ (l : List _). xs ++ l) (sym (take_more ys i d lt))

pub none-more : {X : Type 0} (lists now : List (List X)) (q : List X) (w : ℕ) → q ≡ [] → now ≡ lists ++ q ∷ [] → ((v : ℕ) → get_or lists v [] ≡ []) → get_or now w [] ≡ []
none-more lists now q w none is all = ap (λ (l : List (List _)). get_or l w []) (is ∙ ap (λ (y : List _). lists ++ y ∷ []) none) ∙ empty-more lists w all

-- ---- answers, one more

-- no more events of a worker than events
pub events-few : (w : ℕ) (xs : List Event) → length (events_by w xs) ≤ length xs
events-few w [] = omega arith
events-few w (e ∷ xs) = let rest = events-few w xs in elim (cases_Bool (eqb e.proc w)) [ inl on ↦ rw on (omega arith) | inr off ↦ rw off (omega arith) ]

-- of the worker of an event there is another event to come
pub events-left : (events : List Event) (i : ℕ) (d : Event) → i < length events → length (events_by (get_or events i d).proc (take i events)) < length (events_by (get_or events i d).proc events)
events-left events i d lt =
    let e = get_or events i d in
    let whole : events ≡ take (i + 1) events ++ drop (i + 1) events = sym (take-append-drop (i + 1) events) in
    let split : events_by e.proc events ≡ events_by e.proc (take (i + 1) events) ++ events_by e.proc (drop (i + 1) events) = ap (λ (l : List Event). events_by e.proc l) whole ∙ events-append e.proc (take (i + 1) events) (drop (i + 1) events) in
    let one : events_by e.proc (take (i + 1) events) ≡ events_by e.proc (take i events) ++ e ∷ [] = events-more e.proc events i d lt ∙ ap (λ (l : List Event). events_by e.proc (take i events) ++ l) (one-event e.proc e refl) in
    let a = ap (λ (l : List Event). length l) split in
    let b = ap (λ (l : List Event). length l) one in
    let f = length-append (events_by e.proc (take (i + 1) events)) (events_by e.proc (drop (i + 1) events)) in
    let g = length-append (events_by e.proc (take i events)) (e ∷ []) in
    omega arith

-- The answers to the first i events are those that each worker gave first.
pub record Merges {X : Type 0} (events : List Event) (given : List (List X)) (i : ℕ) (next : List ℕ) (more : List X) : Type 0 where
  pub counts : (w : ℕ) → get_or next w 0 ≡ length (events_by w (take i events))
  pub size : length more ≡ i
  pub each : (w : ℕ) → answers_by w (take i events) more ≡ take (get_or next w 0) (get_or given w [])

pub merges-more : {X : Type 0} (events : List Event) (given : List (List X)) (i at : ℕ) (next : List ℕ) (more : List X) (d : Event) (a : X) → i < length events → (get_or events i d).proc < length next
    → at ≡ get_or next (get_or events i d).proc 0 → at < length (get_or given (get_or events i d).proc []) → a ≡ get_or (get_or given (get_or events i d).proc []) at a → Merges events given i next more
    → Merges events given (i + 1) (set next (get_or events i d).proc (at + 1)) (more ++ a ∷ [])
merges-more events given i at next more d a lt inside is_at low is_a was =
    let e = get_or events i d in
    let same-at : get_or (set next e.proc (at + 1)) e.proc 0 ≡ at + 1 = get_or-set_same next e.proc (at + 1) 0 inside in
    let few : length (take i events) ≡ i = length-take-le i events (omega arith) in
    let long : length more ≡ length (take i events) = was.size ∙ sym few in
    let answered : (w : ℕ) → answers_by w (take (i + 1) events) (more ++ a ∷ []) ≡ answers_by w (take i events) more ++ answers_by w (e ∷ []) (a ∷ []) = λ w.
    ap (λ (l : List Event). answers_by w l (more ++ a ∷ [])) (take_more events i d lt) ∙ answers-append w (take i events) (e ∷ []) more (a ∷ []) long in
    record {
      counts = λ w. elim (cases_eq w e.proc) [
        | inl same ↦ (
            let old = was.counts e.proc in
            let one : events_by e.proc (take (i + 1) events) ≡ events_by e.proc (take i events) ++ e ∷ [] = events-more e.proc events i d lt ∙ ap (λ (l : List Event). events_by e.proc (take i events) ++ l) (one-event e.proc e refl) in
            let b = ap (λ (l : List Event). length l) one in
            let f = length-append (events_by e.proc (take i events)) (e ∷ []) in
            let there : get_or (set next e.proc (at + 1)) e.proc 0 ≡ length (events_by e.proc (take (i + 1) events)) = omega arith in
            rw same there)
        | inr other ↦ (
            let one : events_by w (take (i + 1) events) ≡ events_by w (take i events) = events-more w events i d lt ∙ ap (λ (l : List Event). events_by w (take i events) ++ l) (no-event w e (λ q. other (sym q))) ∙ append-nil (events_by w (take i events)) in
            get_or-set_other next e.proc w (at + 1) 0 other ∙ was.counts w ∙ ap (λ (l : List Event). length l) (sym one))
      ];
      size = (let f = length-append more (a ∷ []) in let s = was.size in omega arith);
      each = λ w. elim (cases_eq w e.proc) [
        | inl same ↦ (
            let mine : answers_by e.proc (take (i + 1) events) (more ++ a ∷ []) ≡ answers_by e.proc (take i events) more ++ a ∷ [] = answered e.proc ∙ ap (λ (l : List _). answers_by e.proc (take i events) more ++ l) (one-answer e.proc e a refl) in
            let old : answers_by e.proc (take i events) more ≡ take at (get_or given e.proc []) = was.each e.proc ∙ ap (λ (n : ℕ). take n (get_or given e.proc [])) (sym is_at) in
            let next-one : take (at + 1) (get_or given e.proc []) ≡ take at (get_or given e.proc []) ++ a ∷ [] = take_more (get_or given e.proc []) at a low ∙ ap (λ (x : _). take at (get_or given e.proc []) ++ x ∷ []) (sym is_a) in
            let there : answers_by e.proc (take (i + 1) events) (more ++ a ∷ []) ≡ take (get_or (set next e.proc (at + 1)) e.proc 0) (get_or given e.proc []) =
            mine ∙ ap (λ (l : List _). l ++ a ∷ []) old ∙ sym next-one ∙ ap (λ (n : ℕ). take n (get_or given e.proc [])) (sym same-at) in
            rw same there)
        | inr other ↦ (
            answered w ∙ ap (λ (l : List _). answers_by w (take i events) more ++ l) (no-answer w e a (λ q. other (sym q))) ∙ append-nil (answers_by w (take i events) more)
            ∙ was.each w ∙ ap (λ (n : ℕ). take n (get_or given w [])) (sym (get_or-set_other next e.proc w (at + 1) 0 other)))
      ];
    }

-- behind the last event all answers are merged
pub merged-all : {X : Type 0} (events : List Event) (given : List (List X)) (i : ℕ) (next : List ℕ) (more : List X) → length events ≤ i → i ≤ length events → ((w : ℕ) → length (get_or given w []) ≡ length (events_by w events)) → Merges events given i next more
    → (length more ≡ length events) × ((w : ℕ) → answers_by w events more ≡ get_or given w [])
merged-all events given i next more end low sizes was =
    let whole : take i events ≡ events = take_all i events end in (
      (let s = was.size in omega arith),
      λ w. (
          let n : get_or next w 0 ≡ length (events_by w events) = was.counts w ∙ ap (λ (l : List Event). length (events_by w l)) whole in
          let long : length (get_or given w []) ≤ get_or next w 0 = (let s = sizes w in omega arith) in
          ap (λ (l : List Event). answers_by w l more) (sym whole) ∙ was.each w ∙ take_all (get_or next w 0) (get_or given w []) long),
    )

-- one more answer was put behind all
pub merged-push : {X : Type 0} (events : List Event) (given : List (List X)) (i at : ℕ) (next : List ℕ) (first old now : List X) (more : List X) (d : Event) (a : X) (s : List X) → i < length events
    → (get_or events i d).proc < length next → at ≡ get_or next (get_or events i d).proc 0 → ((w : ℕ) → length (get_or given w []) ≡ length (events_by w events)) → s ≡ get_or given (get_or events i d).proc []
    → old ≡ first ++ more → now ≡ old ++ a ∷ [] → (at < length s → a ≡ get_or s at a) → Merges events given i next more
    → (all : List X) × (now ≡ first ++ all) × Merges events given (i + 1) (set next (get_or events i d).proc (at + 1)) all
merged-push events given i at next first old now more d a s lt inside is_at sizes slice grown pushed is_a was =
    let low : at < length (get_or given (get_or events i d).proc []) = (let l = events-left events i d lt in let n = was.counts (get_or events i d).proc in let z = sizes (get_or events i d).proc in omega arith) in
    let low' : at < length s = rw slice low in
    let mine : a ≡ get_or (get_or given (get_or events i d).proc []) at a = is_a low' ∙ ap (λ (l : List _). get_or l at a) slice in (
      more ++ a ∷ [],
      pushed ∙ ap (λ (l : List _). l ++ a ∷ []) grown ∙ append_assoc first more (a ∷ []),
      merges-more events given i at next more d a lt inside is_at low mine was,
    )

-- ---- the numbers of buckets

no-buckets : (known : List Bucket) → length known ≡ 0 → known ≡ []
no-buckets [] none = refl
no-buckets (b ∷ known) none = absurd (omega arith)

-- where no bucket is known
pub no-numbers : (known : List Bucket) (events : List Event) → length known ≡ 0 → map (number_of known) events ≡ replicate (length events) 0
no-numbers known [] none = refl
no-numbers known (e ∷ events) none =
    let zeros = no-numbers known events none in
    let number : number_of known e ≡ 0 = rw (no-buckets known none) (elim (cases_Bool (eqb e.size 0)) [ inl on ↦ rw on refl | inr off ↦ rw off refl ]) in
    ap (λ (n : ℕ). n ∷ map (number_of known) events) number ∙ ap (λ (l : List ℕ). 0 ∷ l) zeros

-- the numbers behind those of the cycles before, by processors
pub numbers-last : (f : Event → ℕ) (events : List Event) (old all : List ℕ) (n : ℕ) → all ≡ old ++ map f events → n ≡ length old → take (length all - n) (drop n all) ≡ map f events
numbers-last f events old all n is at =
    let rest : drop n all ≡ map f events = rw (is, at) (drop-append_seam old (map f events)) in
    let long : length all ≡ length old + length (map f events) = ap (λ (l : List ℕ). length l) is ∙ length-append old (map f events) in
    let whole : take (length all - n) (map f events) ≡ map f events = take_all (length all - n) (map f events) (omega arith) in
    ap (λ (l : List ℕ). take (length all - n) l) rest ∙ whole

-- and each processor's are those of its events
pub numbers-behind : (f : Event → ℕ) (w : ℕ) (events : List Event) (old all : List ℕ) (n : ℕ) → all ≡ old ++ map f events → n ≡ length old → answers_by w events (take (length all - n) (drop n all)) ≡ map f (events_by w events)
numbers-behind f w events old all n is at = ap (λ (l : List ℕ). answers_by w events l) (numbers-last f events old all n is at) ∙ answers-map f w events

-- ---- what a single processor gave

-- is what all events came to
pub merged-one : {X : Type 0} (events : List Event) (given : List (List X)) (only : List X) → length given ≡ 1 → only ≡ get_or given 0 [] → All (λ (e : Event). e.proc < length given) events
    → ((w : ℕ) → length (get_or given w []) ≡ length (events_by w events)) → (length only ≡ length events) × ((w : ℕ) → answers_by w events only ≡ get_or given w [])
merged-one events [] only one is below sizes = absurd (omega arith)
merged-one events (g ∷ h ∷ given) only one is below sizes = absurd (omega arith)
merged-one events (g ∷ []) only one is below sizes =
    let all : AllByRecursion (λ (e : Event). e.proc < 1) events = recursion_from_All (λ (e : Event). e.proc < 1) events below in
    let mine : events_by 0 events ≡ events = sym (answers-self 0 events) ∙ all-mine events events all refl 0 in
    let same : length only ≡ length events = ap (λ (l : List _). length l) is ∙ sizes 0 ∙ ap (λ (l : List Event). length l) mine in
    (same, λ w. all-mine events only all same w ∙ ap (λ (l : List _). get_or (l ∷ []) w []) is)
