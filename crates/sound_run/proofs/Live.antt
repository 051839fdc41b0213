-- Living objects, and the journal at the end of a cycle.
use Rattle.std.proofs.Common.{◌≡◌, ℕ, zero, suc, ◌<◌, ◌≤◌, true, false, ◌||◌, leb, eqb, List, [], ◌∷◌, refl, arith, ◌⊎◌, inl, inr}
use Rattle.std.proofs.lemmas.Bool.{le-leb, lt-leb, eqb-true, eq-eqb, cases_lt, cases_Bool, and_parts, and_from, or_cases, or_left, or_right}
use Rattle.page_bitmap.specs.declared.line.Line.{Line}
use Rattle.page_alloc.specs.Journal.{cycle_of, at_end, IsBy, LegalFor}
use Rattle.cycle_history.specs.Requests.{Marking}
use Rattle.cycle_history.specs.Objects.{Object, is_placed, live}
use Rattle.sound_run.specs.Run.{Lasts}

pub at_end-now : (c : ℕ) (past : List Line) → IsBy c past → at_end c past ≡ past
at_end-now c [] by = refl
at_end-now c (line ∷ past) by = let e : leb (cycle_of line) c ≡ true = le-leb (cycle_of line) c by in rw e refl

pub at_end-before : (c m : ℕ) (line : Line) (past : List Line) → cycle_of line ≡ c → m < c → at_end m (line ∷ past) ≡ at_end m past
at_end-before c m line past is lt = let e : leb (cycle_of line) m ≡ false = lt-leb (cycle_of line) m (omega arith) in rw e refl

pub by-later : (c d : ℕ) (past : List Line) → c ≤ d → IsBy c past → IsBy d past
by-later c d [] le by = tt
by-later c d (line ∷ past) le by = omega arith

pub legal-at_end : (procs region goal c : ℕ) (past : List Line) → LegalFor procs region goal past → LegalFor procs region goal (at_end c past)
legal-at_end procs region goal c [] legal = tt
legal-at_end procs region goal c (line ∷ past) legal =
    elim (cases_Bool (leb (cycle_of line) c)) [
      | inl is ↦ rw is legal
      | inr isnt ↦ rw isnt (legal-at_end procs region goal c past legal.2)
    ]

pub live-placed : (marked : Marking) (c : ℕ) (o : Object) → live marked c o ≡ true → is_placed o.answer ≡ true
live-placed marked c o h = (and_parts (is_placed o.answer) (eqb o.cycle c || marked c o.id) h).0

pub live-cases : (marked : Marking) (c : ℕ) (o : Object) → live marked c o ≡ true → (o.cycle ≡ c) ⊎ (marked c o.id ≡ true)
live-cases marked c o h =
    elim (or_cases (eqb o.cycle c) (marked c o.id) (and_parts (is_placed o.answer) (eqb o.cycle c || marked c o.id) h).1) [
      | inl is ↦ inl (eqb-true o.cycle c is)
      | inr is ↦ inr is
    ]

pub live-of : (marked : Marking) (c : ℕ) (o : Object) → is_placed o.answer ≡ true → o.cycle ≡ c → live marked c o ≡ true
live-of marked c o placed is = and_from (is_placed o.answer) (eqb o.cycle c || marked c o.id) placed (or_left (eqb o.cycle c) (marked c o.id) (eq-eqb o.cycle c is))

pub live-marked : (marked : Marking) (c : ℕ) (o : Object) → is_placed o.answer ≡ true → marked c o.id ≡ true → live marked c o ≡ true
live-marked marked c o placed is = and_from (is_placed o.answer) (eqb o.cycle c || marked c o.id) placed (or_right (eqb o.cycle c) (marked c o.id) is)

-- a marked object is of an earlier cycle
pub marked-after : (marked : Marking) (o : Object) (m : ℕ) → Lasts marked o → marked m o.id ≡ true → o.cycle < m
marked-after marked o zero lasts h = let f = lasts.first in cc
marked-after marked o (suc m) lasts h =
    elim (lasts.next m h) [ inl is ↦ omega arith | inr is ↦ omega arith ]

pub live-after : (marked : Marking) (o : Object) (m : ℕ) → Lasts marked o → live marked m o ≡ true → o.cycle ≤ m
live-after marked o m lasts h =
    elim (live-cases marked m o h) [ inl is ↦ omega arith | inr is ↦ (let lt = marked-after marked o m lasts is in omega arith) ]

-- an object lives on without a break
pub live-before : (marked : Marking) (o : Object) (c d : ℕ) → Lasts marked o → o.cycle ≤ c → c ≤ d → live marked d o ≡ true → live marked c o ≡ true
live-before marked o c zero lasts from le h = let e : c ≡ 0 = omega arith in rw e h
live-before marked o c (suc m) lasts from le h =
    elim (cases_lt m c) [
      | inl is ↦ (let e : c ≡ suc m = omega arith in rw e h)
      | inr is ↦ (
          let placed = live-placed marked (suc m) o h in
          elim (live-cases marked (suc m) o h) [
            | inl same ↦ absurd (omega arith)
            | inr mark ↦ elim (lasts.next m mark) [
              | inl here ↦ live-before marked o c m lasts from is (live-of marked m o placed here)
              | inr earlier ↦ live-before marked o c m lasts from is (live-marked marked m o placed earlier.1)
            ]
          ])
    ]

-- a placed object of a cycle is live in it and in no other before its marks
pub unmarked-live : (marked : Marking) (c : ℕ) (o : Object) → live marked c o ≡ true → marked c o.id ≡ false → o.cycle ≡ c
unmarked-live marked c o h off = elim (live-cases marked c o h) [ inl is ↦ is | inr mark ↦ cc ]
