-- The notes of a run's sweeps: each step keeps them, and at the end they are rule 7's.
use Rattle.std.proofs.Common.{◌≡◌, ℕ, suc, ◌<◌, List, [], ◌∷◌, reverse, refl, sym, arith, ◌⊎◌, inl, inr}
use mathlib.Core.List.{reverse_aux}
use Rattle.std.proofs.lemmas.Bool.{cases_lt}
use Rattle.page_bitmap.specs.declared.line.Line.{Line}
use Rattle.page_alloc.specs.Lists.{In, AllApart}
use Rattle.page_alloc.specs.Lives.{Life, open_lives}
use Rattle.page_alloc.specs.Blocks.{open_blocks}
use Rattle.page_alloc.specs.Journal.{AreAllowed, IsBy}
use Rattle.span_state.specs.declared.sweep.SweepNote.{SweepNote}
use Rattle.trace_reader.specs.declared.trace.Trace.{Trace}
use Rattle.cycle_history.specs.declared.Report.{Report}
use Rattle.cycle_history.specs.Requests.{Marking, marked_by, region_of, last_cycle, caching_procs}
use Rattle.cycle_history.specs.Objects.{Object}
use Rattle.cycle_history.specs.Orders.{IsSweepBefore}
use Rattle.cycle_history.specs.Sweeps.{IsOpenAfter, AreSwept, AreTotals}
use Rattle.cycle_history.specs.Sound.{past_in, HasAnswers, HasProfile}
use Rattle.cycle_history.specs.Broken.{MeetsUpTo}
use Rattle.sound_run.specs.Run.{IsRun}
use Rattle.sound_run.specs.Notes.{AllDone, HasNotes}
use Rattle.sound_run.proofs.Live.{at_end-now}
use Rattle.sound_run.proofs.Ends.{run-sound}

-- ---- open lives

-- what is open in cycle c
pub open-now : (c : ℕ) (past : List Line) (life : Life) → IsBy c past → IsOpenAfter past c life → In life (open_lives past)
open-now c past life by h = rw (at_end-now c past by) at h

pub open-after : (c : ℕ) (past : List Line) (life : Life) → IsBy c past → In life (open_lives past) → IsOpenAfter past c life
open-after c past life by h = rw (at_end-now c past by) h

-- ---- the steps of a run keep its notes

-- nothing is noted at the start
pub notes-start : (marked : Marking) → HasNotes marked 0 0 [] [] []
notes-start marked = record { early = omega arith; noted = λ note h. absurd h; done = λ m lt. absurd (omega arith); gives = tt; order = tt }

-- the sweeps of a mark end are done
pub notes-ended : (marked : Marking) (c ended : ℕ) (past : List Line) (objects : List Object) (notes : List SweepNote) → HasNotes marked c ended past objects notes
    → ended < c → AllDone marked past objects notes ended → HasNotes marked c (suc ended) past objects notes
notes-ended marked c ended past objects notes has lt all = record {
  early = omega arith;
  noted = has.noted;
  done = λ m less life h. elim (cases_lt m ended) [
    | inl before ↦ has.done m before life h
    | inr last ↦ (
        let e : m ≡ ended = omega arith in
        let h' : IsOpenAfter past ended life = rw e at h in
        rw e (all life h'))
  ];
  gives = has.gives;
  order = has.order;
}

-- the next mark end
pub notes-next : (marked : Marking) (c ended : ℕ) (past : List Line) (objects : List Object) (notes : List SweepNote) → HasNotes marked c ended past objects notes
    → HasNotes marked (suc c) ended past objects notes
notes-next marked c ended past objects notes has = record {
  early = (let le = has.early in omega arith);
  noted = λ note h. (
      let old = has.noted note h in
      let lt = old.2.early in
      (old.0, old.1, record { early = omega arith; alive = old.2.alive; right = old.2.right }));
  done = has.done;
  gives = has.gives;
  order = has.order;
}

-- ---- the order of a report's list

in-reverse_aux : {X : Type 0} (x : X) (xs ys : List X) → In x xs ⊎ In x ys → In x (reverse_aux xs ys)
in-reverse_aux x [] ys h = elim h [ inl h' ↦ absurd h' | inr h' ↦ h' ]
in-reverse_aux x (y ∷ xs) ys h = in-reverse_aux x xs (y ∷ ys) (elim h [
  | inl first ↦ elim first [ inl here ↦ inr (inl here) | inr there ↦ inl there ]
  | inr later ↦ inr (inr later)
])

from-reverse_aux : {X : Type 0} (x : X) (xs ys : List X) → In x (reverse_aux xs ys) → In x xs ⊎ In x ys
from-reverse_aux x [] ys h = inr h
from-reverse_aux x (y ∷ xs) ys h = elim (from-reverse_aux x xs (y ∷ ys) h) [
  | inl first ↦ inl (inr first)
  | inr later ↦ elim later [ inl here ↦ inl (inl here) | inr there ↦ inr there ]
]

pub in-reverse : {X : Type 0} (x : X) (xs : List X) → In x xs → In x (reverse xs)
in-reverse x xs h = in-reverse_aux x xs [] (inl h)

pub from-reverse : {X : Type 0} (x : X) (xs : List X) → In x (reverse xs) → In x xs
from-reverse x xs h = elim (from-reverse_aux x xs [] h) [ inl h' ↦ h' | inr h' ↦ absurd h' ]

apart-reverse_aux : {X : Type 0} (R : X → X → Type 0) (xs ys : List X) → AllApart R ys → AllApart (λ (newer older : X). R older newer) xs → ((x y : X) → In x xs → In y ys → R x y)
    → AllApart R (reverse_aux xs ys)
apart-reverse_aux R [] ys later first across = later
apart-reverse_aux R (x ∷ xs) ys later first across =
    apart-reverse_aux R xs (x ∷ ys) ((λ y h. across x y (inl refl) h), later) first.1 (λ a b ha hb. elim hb [
      | inl here ↦ rw (sym here) (first.0 a ha)
      | inr there ↦ across a b (inr ha) there
    ])

apart-reverse : {X : Type 0} (R : X → X → Type 0) (xs : List X) → AllApart (λ (newer older : X). R older newer) xs → AllApart R (reverse xs)
apart-reverse R xs all = apart-reverse_aux R xs [] tt all (λ x y hx hy. absurd hy)

-- ---- the end

-- rule 7, where the report's sweeps are the notes in the order in which they were made
pub notes-swept : (marked : Marking) (last : ℕ) (past : List Line) (objects : List Object) (notes : List SweepNote) → HasNotes marked last last past objects notes
    → AreSwept marked last past objects (reverse notes)
notes-swept marked last past objects notes has = record {
  order = apart-reverse IsSweepBefore notes has.order;
  each = λ m life lt h. (let done = (has.done m lt life h).note in (done.0, in-reverse done.0 notes done.1, done.2));
  no_other = λ note h. (let old = has.noted note (from-reverse note notes h) in (old.0, old.1, old.2.early, old.2.alive, old.2.right));
  gives = has.gives;
  empty = λ m life lt h none. (has.done m lt life h).empty none;
}

-- all nine rules
pub run-sound_to_9 : (t : Trace) (report : Report) (objects : List Object) (notes : List SweepNote) → IsRun (marked_by t) (region_of t) t.header.goal (last_cycle t) (past_in report) objects
    → AreAllowed (caching_procs t) (past_in report) → open_blocks (past_in report) ≡ [] → HasAnswers t report objects → HasNotes (marked_by t) (last_cycle t) (last_cycle t) (past_in report) objects notes → report.sweeps ≡ reverse notes
    → AreTotals (marked_by t) (last_cycle t) objects report.totals → HasProfile t report objects → MeetsUpTo 9 t report objects
run-sound_to_9 t report objects notes run allowed settled answers has sweeps totals profile =
    let six = run-sound t report objects run allowed settled answers in
    record {
      answers = λ le. answers;
      journal = λ le. six.journal (omega arith);
      misses = λ le. six.misses (omega arith);
      places = λ le. six.places (omega arith);
      apart = λ le. six.apart (omega arith);
      filling = λ le. six.filling (omega arith);
      sweeps = λ le. rw sweeps (notes-swept (marked_by t) (last_cycle t) (past_in report) objects notes has);
      totals = λ le. totals;
      profile = λ le. profile;
    }
