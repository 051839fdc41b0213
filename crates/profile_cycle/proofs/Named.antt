-- How the buckets of a trace are named.
use Rattle.std.proofs.Common.{◌≡◌, ℕ, zero, suc, ◌+◌, ◌*◌, ◌/◌, ◌<◌, ◌≤◌, Bool, true, List, [], ◌∷◌, ◌++◌, length, get_or, drop, refl, sym, ap, subst, ◌∙◌, arith, inl, inr, length-append}
use Rattle.std.specs.Prelude.{fold, if◌then◌else◌}
use Rattle.std.specs.List.{AllByRecursion, flat_map, list_any}
use Rattle.std.proofs.Math.Dec.{leb, eqb}
use Rattle.std.proofs.lemmas.List.{drop_more}
use Rattle.std.proofs.lemmas.Bool.{cases_Bool, cases_lt, cases_eq, le-leb, lt-leb}
use Rattle.size_classes.specs.Table.{slot_sizes}
use Rattle.size_classes.specs.Classes.{IsLeastClass, slot_of}
use Rattle.trace_reader.specs.declared.trace.Event.{Event}
use Rattle.trace_reader.specs.declared.trace.Cycle.{Cycle}
use Rattle.trace_reader.specs.Limits.{EventFits}
use Rattle.profile_cycle.specs.declared.buckets.Bucket.{Bucket}
use Rattle.profile_cycle.specs.Naming.{HasSize, first_from, slot_for, pairs_of, is_same, named}

-- ---- slots

-- the first of a list that is large enough
first-least : (least : ℕ) (xs : List ℕ) (k : ℕ) → k < length xs → least ≤ get_or xs k 0 → ((j : ℕ) → j < k → get_or xs j 0 < least) → first_from least xs ≡ get_or xs k 0
first-least least [] k lt le below = absurd (omega arith)
first-least least (x ∷ xs) zero lt le below = let e = le-leb least x le in rw e refl
first-least least (x ∷ xs) (suc k) lt le below =
    let first : x < least = below 0 (omega arith) in
    let e = lt-leb least x first in
    rw e (first-least least xs k (omega arith) le (λ j less. below (suc j) (omega arith)))

pick : (b : Bool) (x y : ℕ) → b ≡ true → (if b then x else y) ≡ x
pick b x y e = rw e refl

pub slot-small : (size class : ℕ) → 1 ≤ size → size ≤ 32768 → IsLeastClass size class → slot_of class ≡ slot_for size
unfolding slot_of slot_for
slot-small size class some small is =
    let e = le-leb size 32768 small in
    let most = is.is_class.1 in
    let count : length slot_sizes ≡ 68 = refl in
    sym (first-least size slot_sizes class (omega arith) is.room (λ j less. below j less most))
    ∙ sym (pick (leb size 32768) (first_from size slot_sizes) (8192 * ((size + 8191) / 8192)) e)
  where
    below : (j : ℕ) → j < class → class ≤ 67 → get_or slot_sizes j 0 < size
    below j less most = elim (cases_eq j 0) [
      | inl first ↦ subst (λ (k : ℕ). get_or slot_sizes k 0 < size) (sym first) some
      | inr later ↦ elim (cases_lt (get_or slot_sizes j 0) size) [
        | inl is_less ↦ is_less
        | inr ge ↦ (let le = is.least j (omega arith, omega arith) ge in absurd (omega arith))
      ]
    ]

pub slot-large : (size pages : ℕ) → 32768 < size → pages ≡ (size + 8191) / 8192 → 8192 * pages ≡ slot_for size
unfolding slot_for
slot-large size pages large is = let e = lt-leb size 32768 large in rw e (ap (λ (p : ℕ). 8192 * p) is)

-- ---- names

-- one event more
pub names-next : (e : Event) (es : List Event) (known : List Bucket) → fold named (fold named known (pairs_of (e ∷ []))) (pairs_of es) ≡ fold named known (pairs_of (e ∷ es))
names-next e es known = elim (cases_Bool (eqb e.size 0)) [
  | inl on ↦ rw on refl
  | inr off ↦ rw off refl
]

pairs-append : (xs ys : List Event) → pairs_of (xs ++ ys) ≡ pairs_of xs ++ pairs_of ys
pairs-append [] ys = refl
pairs-append (e ∷ xs) ys = elim (cases_Bool (eqb e.size 0)) [
  | inl on ↦ rw on (pairs-append xs ys)
  | inr off ↦ rw off (ap (λ (ps : List Bucket). record { stack = e.stack; slot = slot_for e.size } ∷ ps) (pairs-append xs ys))
]

fold-append : (known ps qs : List Bucket) → fold named known (ps ++ qs) ≡ fold named (fold named known ps) qs
fold-append known [] qs = refl
fold-append known (p ∷ ps) qs = fold-append (named known p) ps qs

-- one cycle more
pub names-cycle : (xs ys : List Event) (known : List Bucket) → fold named (fold named known (pairs_of xs)) (pairs_of ys) ≡ fold named known (pairs_of (xs ++ ys))
names-cycle xs ys known = sym (fold-append known (pairs_of xs) (pairs_of ys)) ∙ ap (λ (ps : List Bucket). fold named known ps) (sym (pairs-append xs ys))

pub cycle-next : (cycles : List Cycle) (i : ℕ) (c : Cycle) → i < length cycles → c ≡ get_or cycles i c
    → flat_map (λ (d : Cycle). d.events) (drop i cycles) ≡ c.events ++ flat_map (λ (d : Cycle). d.events) (drop (i + 1) cycles)
cycle-next cycles i c lt is = ap (λ (cs : List Cycle). flat_map (λ (d : Cycle). d.events) cs)
    (subst (λ (d : Cycle). drop i cycles ≡ d ∷ drop (i + 1) cycles) (sym is) (drop_more cycles i c lt))

-- ---- how many there are

length-named : (known : List Bucket) (p : Bucket) → length (named known p) ≤ length known + 1
length-named known p = elim (cases_Bool (list_any (is_same p) known)) [
  | inl on ↦ rw on (omega arith)
  | inr off ↦ rw off (let len = length-append known (p ∷ []) in let one : length (p ∷ []) ≡ 1 = refl in omega arith)
]

length-fold : (ps known : List Bucket) → length (fold named known ps) ≤ length known + length ps
length-fold [] known = omega arith
length-fold (p ∷ ps) known = let rest = length-fold ps (named known p) in let one = length-named known p in omega arith

length-pairs : (es : List Event) → length (pairs_of es) ≤ length es
length-pairs [] = omega arith
length-pairs (e ∷ es) = elim (cases_Bool (eqb e.size 0)) [
  | inl on ↦ rw on (let rest = length-pairs es in omega arith)
  | inr off ↦ rw off (let rest = length-pairs es in omega arith)
]

pub few : (es : List Event) → length (fold named [] (pairs_of es)) ≤ length es
few es = let a = length-fold (pairs_of es) [] in let b = length-pairs es in let z : length {A = Bucket} [] ≡ 0 = refl in omega arith

-- ---- sizes

pub sizes : (procs : ℕ) (es : List Event) → AllByRecursion (EventFits procs) es → AllByRecursion HasSize es
sizes procs [] all = tt
sizes procs (e ∷ es) all = (all.0.size, sizes procs es all.1)

pub sizes-split : (xs ys : List Event) → AllByRecursion HasSize (xs ++ ys) → AllByRecursion HasSize xs × AllByRecursion HasSize ys
sizes-split [] ys all = (tt, all)
sizes-split (e ∷ xs) ys all = let rest = sizes-split xs ys all.1 in ((all.0, rest.0), rest.1)
