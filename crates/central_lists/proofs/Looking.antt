-- What a look into the swept partial set did.
use Rattle.std.proofs.Common.{◌≡◌, ℕ, suc, eq-eqb, List, [], ◌∷◌, ◌++◌, refl, sym, ap, ◌∙◌, append_assoc, arith}
use Rattle.std.proofs.lemmas.List.{append-nil}
use Rattle.std.specs.Prelude.{Ok, Err}
use Rattle.sweep_laws.specs.Counts.{times}
use Rattle.sweep_laws.specs.Lists.{has}
use Rattle.worker_log.specs.declared.Entry.{Entry}
use Rattle.worker_log.specs.declared.Entry.TheVariants.{Looked, LookedEmptyCell, Popped, Read}
use Rattle.worker_log.specs.SetNumbers.{swept_set}
use Rattle.worker_log.specs.Entries.{is_pop_of, many}
use Rattle.worker_log.proofs.Logs.{many-append}
use Rattle.span_state.specs.declared.body.Body.{Body}
use Rattle.span_state.specs.declared.sweep.SweepNote.{SweepNote}
use Rattle.span_laws.specs.declared.view.Part.{Part}
use Rattle.span_laws.specs.declared.said.Said.TheVariants.{Looks, LooksCell, Reads}
use Rattle.span_laws.specs.declared.said.SaidOf.TheVariants.{Pops}
use Rattle.span_laws.specs.Asks.{mine}
use Rattle.span_laws.specs.Views.{Seen, span_at, span_of}
use Rattle.span_laws.specs.OwnSteps.{after_of, after_said}
use Rattle.span_laws.proofs.Has.{has_last}
use Rattle.span_laws.proofs.WordMoves.{span_else, span_here}
use Rattle.span_set.specs.declared.hand.Hand.{Hand}
use Rattle.span_set.proofs.Fits.{fits-none}
use Rattle.span_set.specs.declared.answers.Pop.TheVariants.{Taken, Empty as EmptySet, NotYet as NotFilled}
use Rattle.span_set.specs.Pops.{PopsSwept, with_looks}
use Rattle.span_set.proofs.Numbers.{class_is, partial_is}
use Rattle.central_lists.specs.declared.answers.Look.TheVariants.{Empty, NotYet}
use Rattle.central_lists.specs.Works.{Says, nothing}
use Rattle.central_lists.specs.Lists.{LooksFirst}
use Rattle.central_lists.proofs.Saying.{blank, last_look, looks_note, looks_sweep, says-trans, taken}
use Rattle.central_lists.proofs.Trying.{keeps_by, times_more}

module _ (class : ℕ) (a d : Hand) (notes : d.notes.items ≡ a.notes.items) where
  abbrev g : ℕ
  g = a.worker.view.generation

  abbrev set : ℕ
  set = swept_set g class 0

  no_notes : (l : List SweepNote) → l ≡ [] → d.notes.items ≡ a.notes.items ++ l
  no_notes l e = notes ∙ sym (ap (λ (x : List SweepNote). a.notes.items ++ x) e ∙ append-nil a.notes.items)

  -- a span was popped
  module _ (b : Body) (pops : PopsSwept set a.worker d.worker (Taken b)) where
    abbrev own : Part
    own = a.worker.view.own

    abbrev after : Seen → Seen
    after x = after_of (Pops set) (span_of b) (after_said (LooksCell set pops.0 (suc b.page)) x)

    abbrev looks : Seen
    looks = after_said (Looks set pops.0 pops.1) (with_looks pops.3.said pops.3.cells (after_said (Reads 1 g) a.worker))

    whole : d.worker ≡ after looks
    whole = pops.5 ∙ ap after pops.3.view

    abbrev said : List Entry
    said = Popped set b.page ∷ Looked set pops.0 pops.1 ∷ (pops.3.said ++ Read 1 g ∷ [])

    log : d.worker.view.own.log ≡ said ++ own.log
    log = ap (λ (x : Seen). x.view.own.log) whole ∙ ap (λ (x : List Entry). Popped set b.page ∷ Looked set pops.0 pops.1 ∷ x) (sym (append_assoc pops.3.said (Read 1 g ∷ []) own.log))

    says : Says g class 0 nothing said
    says = says-trans g class 0 0 0 nothing nothing nothing (Looked set pops.0 pops.1 ∷ (pops.3.said ++ Read 1 g ∷ [])) (Popped set b.page ∷ []) (last_look g class set pops.0 pops.1 g pops.3.said pops.3.looks) (taken g class b.page) (omega arith) (λ p. omega arith)

    pub looked_taken : LooksFirst g class a d (Ok b)
    looked_taken = (
      record {
        of_class = sym pops.6.class ∙ class_is g class 0 (omega arith);
        room = pops.6.room (partial_is g class);
        held = ap (λ (x : Seen). has b.page x.view.own.held) whole ∙ has_last b.page own.held;
        lent = ap (λ (x : Seen). span_at b.page x.view.own.spans) whole ∙ span_here (span_of b) own.spans;
        before = pops.7.nothing;
        unpopped = λ j low part full. let z = pops.7.unpopped (partial_is g class) j low part full in let y = says.pops_no_full j b.page part full in
            let x = many-append (is_pop_of j b.page) said own.log in let w = ap (many (is_pop_of j b.page)) log in omega arith;
      },
      pops.6.used,
      record {
        said = said;
        log = log;
        says = says;
        sets = fits-none g nothing said a.worker d.worker (span_of b ∷ []) (looks_sweep set g pops.3.said pops.3.looks) (ap (λ (x : Seen). x.view.own.spans) whole);
        property = rw (eq-eqb set set refl, eq-eqb b.page b.page refl) (omega arith);
        keeps = keeps_by a.worker d.worker (after looks).view.own whole refl refl refl refl (λ q. refl) (λ q. refl)
            (λ q m. span_else (span_of b) own.spans q (λ x. let z = ap (λ (y : ℕ). mine y own) x in let y = pops.7.nothing in omega arith));
        caching = ap (λ (w : Seen). w.caching) whole;
        held = λ q. ap (λ (x : Seen). times q x.view.own.held) whole ∙ times_more q b.page own.held;
        notes = no_notes _ (ap (λ (x : List SweepNote). (x ++ []) ++ []) (looks_note g set g pops.3.said pops.3.looks));
      },
    )

  pub looked_empty : (head tail : ℕ) → PopsSwept set a.worker d.worker (EmptySet head tail) → LooksFirst g class a d (Err (Empty head))
  looked_empty head tail pops = let same = pops.0 in let l = pops.1 in record {
    said = Looked set head tail ∷ (l.said ++ Read 1 g ∷ []);
    log = ap (λ (w : Seen). w.view.own.log) l.view ∙ ap (λ (x : List Entry). Looked set head tail ∷ x) (sym (append_assoc l.said (Read 1 g ∷ []) a.worker.view.own.log));
    says = last_look g class set head tail g l.said l.looks;
    sets = fits-none g nothing (Looked set head tail ∷ (l.said ++ Read 1 g ∷ [])) a.worker d.worker [] (looks_sweep set g l.said l.looks) (ap (λ (w : Seen). w.view.own.spans) l.view);
    property = rw (eq-eqb set set refl, eq-eqb head head refl, eq-eqb tail head (sym same)) (omega arith);
    keeps = keeps_by a.worker d.worker (record a.worker.view.own { log = Looked set head tail ∷ (l.said ++ Read 1 g ∷ a.worker.view.own.log); read = l.cells ++ a.worker.view.own.read }) l.view refl refl refl refl (λ q. refl) (λ q. refl) (λ q m. refl);
    caching = ap (λ (w : Seen). w.caching) l.view;
    held = λ q. let z = ap (λ (w : Seen). times q w.view.own.held) l.view in omega arith;
    notes = no_notes _ (ap (λ (x : List SweepNote). x ++ []) (looks_note g set g l.said l.looks));
  }

  pub looked_blank : (head : ℕ) → PopsSwept set a.worker d.worker (NotFilled head) → LooksFirst g class a d (Err (NotYet head))
  looked_blank head pops = let tail = pops.0 in let l = pops.2 in let e = pops.4 in let whole = e ∙ ap (after_said (LooksCell set head 0)) l.view in let looks = Looked set head tail ∷ (l.said ++ Read 1 g ∷ []) in record {
    said = LookedEmptyCell set head ∷ looks;
    log = ap (λ (w : Seen). w.view.own.log) whole ∙ ap (λ (x : List Entry). LookedEmptyCell set head ∷ Looked set head tail ∷ x) (sym (append_assoc l.said (Read 1 g ∷ []) a.worker.view.own.log));
    says = says-trans g class 0 0 0 nothing nothing nothing looks (LookedEmptyCell set head ∷ []) (last_look g class set head tail g l.said l.looks) (blank g class set head) (omega arith) (λ p. omega arith);
    sets = fits-none g nothing (LookedEmptyCell set head ∷ looks) a.worker d.worker [] (looks_sweep set g l.said l.looks) (ap (λ (w : Seen). w.view.own.spans) whole);
    property = rw (eq-eqb set set refl, eq-eqb head head refl) (omega arith);
    keeps = keeps_by a.worker d.worker (record a.worker.view.own { log = LookedEmptyCell set head ∷ Looked set head tail ∷ (l.said ++ Read 1 g ∷ a.worker.view.own.log); read = l.cells ++ a.worker.view.own.read }) whole refl refl refl refl (λ q. refl) (λ q. refl) (λ q m. refl);
    caching = ap (λ (w : Seen). w.caching) whole;
    held = λ q. let z = ap (λ (w : Seen). times q w.view.own.held) whole in omega arith;
    notes = no_notes _ (ap (λ (x : List SweepNote). (x ++ []) ++ []) (looks_note g set g l.said l.looks));
  }
