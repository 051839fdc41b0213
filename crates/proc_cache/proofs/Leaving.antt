-- Calls one after the other.
use Rattle.std.proofs.Common.{◌≡◌, ℕ, ◌+◌, List, [], ◌∷◌, ◌++◌, refl, ap, sym, subst, ◌∙◌, arith, append_assoc}
use Rattle.std.specs.List.{AllByRecursion}
use Rattle.std.proofs.lemmas.List.{append-nil}
use Rattle.atomic_table.specs.Seated.{TableId}
use Rattle.profile_cycle.specs.History.{RingId}
use Rattle.span_state.specs.MarkSet.{MarkSet}
use Rattle.span_state.specs.declared.sweep.SweepNote.{SweepNote}
use Rattle.sweep_laws.specs.Counts.{total}
use Rattle.worker_log.specs.declared.Entry.{Entry}
use Rattle.span_laws.specs.Asks.{IsIdle}
use Rattle.span_laws.specs.Calls.{note_in, notes_of, number_added, pages_swept}
use Rattle.span_laws.specs.Views.{Seen, acts}
use Rattle.span_laws.specs.declared.view.View.{View}
use Rattle.span_set.specs.Asks.{WorksBy}
use Rattle.span_set.specs.Tallies.{Frees}
use Rattle.span_set.specs.declared.hand.Hand.{Hand}
use Rattle.span_set.proofs.Asks.{works_still}
use Rattle.proc_cache.specs.Leaves.{Leaves}

pub total-append : {A : Type 0} (f : A → ℕ) (xs ys : List A) → total f (xs ++ ys) ≡ total f xs + total f ys
total-append f [] ys = omega arith
total-append f (x ∷ xs) ys = let r = total-append f xs ys in omega arith

pub notes_of-append : (g : ℕ) (later first : List Entry) → notes_of g (later ++ first) ≡ notes_of g first ++ notes_of g later
notes_of-append g [] first = sym (append-nil (notes_of g first))
notes_of-append g (e ∷ later) first = ap (λ (l : List SweepNote). l ++ note_in g e) (notes_of-append g later first) ∙ append_assoc (notes_of g first) (notes_of g later) (note_in g e)

pub all-append : (P : Entry → Type 0) (xs ys : List Entry) → AllByRecursion P xs → AllByRecursion P ys → AllByRecursion P (xs ++ ys)
all-append P [] ys a b = b
all-append P (x ∷ xs) ys a b = (a.0, all-append P xs ys a.1 b)

pub leaves-trans : (later first : List Entry) (a b d : Hand) → Leaves first a b → Leaves later b d → Leaves (later ++ first) a d
leaves-trans later first a b d x y = record {
  log = y.log ∙ ap (λ (l : List Entry). later ++ l) x.log ∙ sym (append_assoc later first a.worker.view.own.log);
  away = y.away ∙ x.away;
  table = y.table ∙ x.table;
  number = y.number ∙ x.number;
  caching = y.caching ∙ x.caching;
  view = subst (λ v. d.worker.view ≡ acts v d.worker.view.own) x.view y.view;
  reset = y.reset ∙ x.reset;
  idle = y.idle;
  pages = let m = total-append (number_added 2) later first in let n = total-append pages_swept later first in let p = x.pages in let q = y.pages in omega arith;
  notes = y.notes ∙ (λ i. x.notes i ++ notes_of (x.view i).generation later)
      ∙ append_assoc a.notes.items (notes_of a.worker.view.generation first) (notes_of a.worker.view.generation later)
      ∙ ap (λ (l : List SweepNote). a.notes.items ++ l) (sym (notes_of-append a.worker.view.generation later first));
}

pub leaves_from : (said : List Entry) (a b d : Hand) → a.worker ≡ b.worker → a.notes.items ≡ b.notes.items → Leaves said a d → Leaves said b d
leaves_from said a b d w n x = record {
  log = x.log ∙ ap (λ (s : Seen). said ++ s.view.own.log) w;
  away = x.away ∙ ap (λ (s : Seen). s.away) w;
  table = x.table ∙ ap (λ (s : Seen). s.table) w;
  number = x.number ∙ ap (λ (s : Seen). s.number) w;
  caching = x.caching ∙ ap (λ (s : Seen). s.caching) w;
  view = x.view ∙ ap (λ (s : Seen). acts s.view d.worker.view.own) w;
  reset = x.reset ∙ ap (λ (s : Seen). s.view.own.reset) w;
  idle = x.idle;
  pages = x.pages;
  notes = x.notes ∙ (λ i. n i ++ notes_of (w i).view.generation said);
}

pub leaves_nothing : (a b : Hand) → IsIdle a.worker.view.own → b.worker ≡ a.worker → b.notes.items ≡ a.notes.items → Leaves [] a b
leaves_nothing a b idle w n = record {
  log = ap (λ (s : Seen). s.view.own.log) w;
  away = ap (λ (s : Seen). s.away) w;
  table = ap (λ (s : Seen). s.table) w;
  number = ap (λ (s : Seen). s.number) w;
  caching = ap (λ (s : Seen). s.caching) w;
  view = subst (λ (s : Seen). s.view ≡ acts a.worker.view s.view.own) (sym w) refl;
  reset = ap (λ (s : Seen). s.view.own.reset) w;
  idle = subst (λ (s : Seen). IsIdle s.view.own) (sym w) idle;
  pages = refl;
  notes = n ∙ sym (append-nil a.notes.items);
}

-- a hand still works by the same behind a call
pub leaves_works : (t : TableId) (r : RingId) (m : MarkSet) (old new : Hand) (said : List Entry) → Leaves said old new → Frees m old new → WorksBy t r m old → WorksBy t r m new
leaves_works t r m old new said x f works = works_still t r m old new x.table x.away (ap (λ (v : View). v.marks) x.view) f works
