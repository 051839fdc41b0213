-- Lists that grow behind what they had.
use Rattle.std.proofs.Common.{◌≡◌, ◌≢◌, ℕ, zero, suc, ◌+◌, ◌<◌, ◌≤◌, All, List, [], ◌∷◌, ◌++◌, set, take, length, get_or, refl, sym, ◌∙◌, ap, arith, inl, inr}
use Rattle.std.proofs.lemmas.Bool.{cases_eq}
use Rattle.std.proofs.lemmas.List.{append-nil, append_assoc, drop-append-le, drop_all, get_or-set_same, get_or-set_other, take_all}
use Rattle.trace_reader.specs.declared.trace.Event.{Event}
use Rattle.heap_run.specs.Gains.{HasKept, HaveKept, behind, gains}
use Rattle.heap_run.specs.Served.{answers_by, events_by}
use Rattle.heap_run.proofs.Queued.{merged-one}

-- ---- one list

-- as it was it got nothing
pub behind-none : {X : Type 0} (old new : List X) → new ≡ old → behind old new ≡ []
behind-none old new same = drop_all (length old) new (let l = ap (λ (xs : List _). length xs) same in omega arith)

-- an item more
pub behind-push : {X : Type 0} (old now : List X) (x : X) → length old ≤ length now → behind old (now ++ x ∷ []) ≡ behind old now ++ x ∷ []
behind-push old now x le = drop-append-le (length old) now (x ∷ []) le

pub kept-none : {X : Type 0} (old new : List X) → new ≡ old → HasKept old new
kept-none old new same = same ∙ sym (append-nil old) ∙ ap (λ (xs : List _). old ++ xs) (sym (behind-none old new same))

pub kept-push : {X : Type 0} (old now : List X) (x : X) → length old ≤ length now → HasKept old now → HasKept old (now ++ x ∷ [])
kept-push old now x le kept = ap (λ (xs : List _). xs ++ x ∷ []) kept ∙ append_assoc old (behind old now) (x ∷ []) ∙ ap (λ (xs : List _). old ++ xs) (sym (behind-push old now x le))

-- ---- several lists

-- what the list of a number got
pub gains-at : {X : Type 0} (old new : List (List X)) (w : ℕ) → length new ≡ length old → get_or (gains old new) w [] ≡ behind (get_or old w []) (get_or new w [])
gains-at [] [] zero same = refl
gains-at [] [] (suc w) same = refl
gains-at [] (n ∷ new) w same = absurd (omega arith)
gains-at (o ∷ old) [] w same = absurd (omega arith)
gains-at (o ∷ old) (n ∷ new) zero same = refl
gains-at (o ∷ old) (n ∷ new) (suc w) same = gains-at old new w (omega arith)

pub gains-length : {X : Type 0} (old new : List (List X)) → length new ≡ length old → length (gains old new) ≡ length old
gains-length [] [] same = refl
gains-length [] (n ∷ new) same = absurd (omega arith)
gains-length (o ∷ old) [] same = absurd (omega arith)
gains-length (o ∷ old) (n ∷ new) same = ap suc (gains-length old new (omega arith))

gains-next : {X : Type 0} (old now : List (List X)) (k : ℕ) (x : List X) → k < length old → length now ≡ length old → take (suc k) (gains old (set now k x)) ≡ take k (gains old now) ++ behind (get_or old k []) x ∷ []
gains-next [] now k x lt same = absurd (omega arith)
gains-next (o ∷ old) [] k x lt same = absurd (omega arith)
gains-next (o ∷ old) (n ∷ now) zero x lt same = refl
gains-next (o ∷ old) (n ∷ now) (suc k) x lt same = ap (λ (l : List (List _)). behind o n ∷ l) (gains-next old now k x (omega arith) (omega arith))

-- the first lists, and the next one changed
pub gains-turn : {X : Type 0} (old now : List (List X)) (k : ℕ) (x : List X) → k < length old → length now ≡ length old → take (k + 1) (gains old (set now k x)) ≡ take k (gains old now) ++ behind (get_or old k []) x ∷ []
gains-turn old now k x lt same = (let n : k + 1 ≡ suc k = omega arith in ap (λ (m : ℕ). take m (gains old (set now k x))) n) ∙ gains-next old now k x lt same

-- all of them
pub gains-all : {X : Type 0} (old now : List (List X)) (k : ℕ) → length old ≤ k → length now ≡ length old → take k (gains old now) ≡ gains old now
gains-all old now k end same = take_all k (gains old now) (let l = gains-length old now same in omega arith)

-- the next list as it was before it is changed, and those behind it
pub rest-turn : {X : Type 0} (old now : List (List X)) (k : ℕ) (x : List X) → ((w : ℕ) → k ≤ w → get_or now w [] ≡ get_or old w []) → (w : ℕ) → k + 1 ≤ w → get_or (set now k x) w [] ≡ get_or old w []
rest-turn old now k x was w high = get_or-set_other now k w x [] (λ same. omega arith) ∙ was w (omega arith)

-- each list has what it had
pub kept-all : {X : Type 0} (lists : List (List X)) → HaveKept lists lists
kept-all lists w = kept-none (get_or lists w []) (get_or lists w []) refl

pub kept-turn : {X : Type 0} (old now : List (List X)) (k : ℕ) (x : List X) → k < length now → HaveKept old now → HasKept (get_or old k []) x → HaveKept old (set now k x)
kept-turn old now k x lt was kept w = elim (cases_eq w k) [
  | inl same ↦ (
      let there : HasKept (get_or old k []) (get_or (set now k x) k []) = rw (get_or-set_same now k x [] lt) kept in
      rw same there)
  | inr other ↦ rw (get_or-set_other now k w x [] other) (was w)
]

-- ---- lists that were lent

-- of several processors each was lent an empty one
pub lent-several : {X : Type 0} (lent given : List (List X)) (w : ℕ) → length given ≡ length lent → ((v : ℕ) → get_or lent v [] ≡ []) → get_or (gains lent given) w [] ≡ get_or given w []
lent-several lent given w same empty = gains-at lent given w same ∙ ap (λ (l : List _). behind l (get_or given w [])) (empty w)

-- a single one was lent what the run had
lent-one : {X : Type 0} (events : List Event) (lent given : List (List X)) (old new : List X) → lent ≡ old ∷ [] → length given ≡ 1 → HaveKept lent given → All (λ (e : Event). e.proc < length given) events
    → ((w : ℕ) → length (get_or (gains lent given) w []) ≡ length (events_by w events)) → new ≡ get_or given 0 []
    → (more : List X) × (new ≡ old ++ more) × (length more ≡ length events) × ((w : ℕ) → answers_by w events more ≡ get_or (gains lent given) w [])
lent-one events lent given old new is one kept below sizes taken =
    let long : length lent ≡ 1 = ap (λ (l : List (List _)). length l) is in
    let same : length given ≡ length lent = omega arith in
    let first : get_or lent 0 [] ≡ old = ap (λ (l : List (List _)). get_or l 0 []) is in
    let got : behind old (get_or given 0 []) ≡ get_or (gains lent given) 0 [] = ap (λ (l : List _). behind l (get_or given 0 [])) (sym first) ∙ sym (gains-at lent given 0 same) in
    let has : HasKept old (get_or given 0 []) = rw first at (kept 0) in
    let size = gains-length lent given same in
    let low : All (λ (e : Event). e.proc < length (gains lent given)) events = (let n : length (gains lent given) ≡ length given = omega arith in rw n below) in
    let all = merged-one events (gains lent given) (behind old (get_or given 0 [])) (omega arith) got low sizes in
    (behind old (get_or given 0 []), taken ∙ has, all.0, all.1)

-- what the run has as it takes the lists back: what all events came to is behind what it had
pub taken-back : {X : Type 0} (events : List Event) (procs : ℕ) (lent given : List (List X)) (old mid new : List X) → length lent ≡ procs → length given ≡ procs → HaveKept lent given
    → (procs ≡ 1 → lent ≡ old ∷ []) → (procs ≢ 1 → (w : ℕ) → get_or lent w [] ≡ []) → (procs ≢ 1 → mid ≡ old) → All (λ (e : Event). e.proc < length given) events
    → ((w : ℕ) → length (get_or (gains lent given) w []) ≡ length (events_by w events)) → (length given ≡ 1 → new ≡ get_or given 0 [])
    → (length given ≢ 1 → (more : List X) × (new ≡ mid ++ more) × (length more ≡ length events) × ((w : ℕ) → answers_by w events more ≡ get_or given w []))
    → (more : List X) × (new ≡ old ++ more) × (length more ≡ length events) × ((w : ℕ) → answers_by w events more ≡ get_or (gains lent given) w [])
taken-back events procs lent given old mid new long same kept one several stays below sizes single merged = elim (cases_eq procs 1) [
  | inl is ↦ lent-one events lent given old new (one is) (omega arith) kept below sizes (single (omega arith))
  | inr other ↦ (
      let m = merged (λ q. other (omega arith)) in
      let back : mid ++ m.0 ≡ old ++ m.0 = ap (λ (l : List _). l ++ m.0) (stays other) in
      (m.0, m.1 ∙ back, m.2, λ w. m.3 w ∙ sym (lent-several lent given w (omega arith) (several other))))
]
