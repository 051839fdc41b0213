-- Logs of calls that follow one another, and what such calls keep.
use Rattle.std.proofs.Common.{◌≡◌, ℕ, ◌+◌, ◌<◌, List, [], ◌∷◌, ◌++◌, refl, sym, ap, ◌∙◌, append_assoc, arith}
use Rattle.std.proofs.lemmas.List.{append-nil}
use Rattle.span_state.specs.declared.sweep.SweepNote.{SweepNote}
use Rattle.sweep_laws.specs.Counts.{total}
use Rattle.worker_log.specs.declared.Entry.{Entry}
use Rattle.worker_log.specs.declared.Entry.TheVariants.{Looked, LookedEmptyCell, Popped, Pushed, Swept, Took, Missed, Gave, Allocated, Found, Read, Added, Pulled, NoPage, Cut as CutEntry, NoCut, Settled}
use Rattle.worker_log.specs.Entries.{is_placing_in, many}
use Rattle.span_laws.specs.Asks.{mine}
use Rattle.span_laws.specs.Calls.{Keeps, is_placing, note_in, notes_of}
use Rattle.span_laws.specs.Views.{Seen, acts}

pub total-append : {A : Type 0} (f : A → ℕ) (xs ys : List A) → total f (xs ++ ys) ≡ total f xs + total f ys
total-append f [] ys = omega arith
total-append f (x ∷ xs) ys = let rest = total-append f xs ys in omega arith

pub notes-append : (g : ℕ) (later first : List Entry) → notes_of g (later ++ first) ≡ notes_of g first ++ notes_of g later
notes-append g [] first = sym (append-nil (notes_of g first))
notes-append g (e ∷ later) first = ap (λ (l : List SweepNote). l ++ note_in g e) (notes-append g later first) ∙ append_assoc (notes_of g first) (notes_of g later) (note_in g e)

-- a log that places nothing places nothing in a page
pub no-placing : (p : ℕ) (log : List Entry) → many is_placing log ≡ 0 → many (is_placing_in p) log ≡ 0
no-placing p [] e = refl
no-placing p (Allocated a ∷ log) e = absurd (omega arith)
no-placing p (Swept s ∷ log) e = let z = no-placing p log (omega arith) in omega arith
no-placing p (Looked s h t ∷ log) e = let z = no-placing p log (omega arith) in omega arith
no-placing p (LookedEmptyCell s i ∷ log) e = let z = no-placing p log (omega arith) in omega arith
no-placing p (Pulled number line ∷ log) e = let z = no-placing p log (omega arith) in omega arith
no-placing p (NoPage ∷ log) e = let z = no-placing p log (omega arith) in omega arith
no-placing p (CutEntry page pages class ∷ log) e = let z = no-placing p log (omega arith) in omega arith
no-placing p (NoCut pages left ∷ log) e = let z = no-placing p log (omega arith) in omega arith
no-placing p (Settled number ∷ log) e = let z = no-placing p log (omega arith) in omega arith
no-placing p (Popped s q ∷ log) e = let z = no-placing p log (omega arith) in omega arith
no-placing p (Pushed s q ∷ log) e = let z = no-placing p log (omega arith) in omega arith
no-placing p (Took m x ∷ log) e = let z = no-placing p log (omega arith) in omega arith
no-placing p (Missed m x ∷ log) e = let z = no-placing p log (omega arith) in omega arith
no-placing p (Gave q m ∷ log) e = let z = no-placing p log (omega arith) in omega arith
no-placing p (Found q w ∷ log) e = let z = no-placing p log (omega arith) in omega arith
no-placing p (Read w x ∷ log) e = let z = no-placing p log (omega arith) in omega arith
no-placing p (Added w x ∷ log) e = let z = no-placing p log (omega arith) in omega arith

pub keeps-refl : (a : Seen) → Keeps a a
keeps-refl a = record {
  table = refl;
  number = refl;
  away = refl;
  view = refl;
  cached = refl;
  fresh = refl;
  claimed = refl;
  reset = refl;
  sweeping = λ q. refl;
  popped = λ q. refl;
  bodies = λ q l. refl;
}

-- two calls, of which the first lets go of no span that the worker had
pub keeps-trans : (a b d : Seen) → Keeps a b → Keeps b d → ((q : ℕ) → 0 < mine q a.view.own → 0 < mine q b.view.own) → Keeps a d
keeps-trans a b d x y still = record {
  table = y.table ∙ x.table;
  number = y.number ∙ x.number;
  away = y.away ∙ x.away;
  view = y.view ∙ ap (λ v. acts v d.view.own) x.view;
  cached = y.cached ∙ x.cached;
  fresh = y.fresh ∙ x.fresh;
  claimed = y.claimed ∙ x.claimed;
  reset = y.reset ∙ x.reset;
  sweeping = λ q. y.sweeping q ∙ x.sweeping q;
  popped = λ q. y.popped q ∙ x.popped q;
  bodies = λ q l. y.bodies q (still q l) ∙ x.bodies q l;
}
