-- What one part of a call did and then another, is what both did.
use Rattle.std.proofs.Common.{◌≡◌, ℕ, ◌+◌, List, [], ◌∷◌, ◌++◌, refl, ap, sym, ◌∙◌, subst, append_assoc, arith}
use Rattle.std.proofs.lemmas.List.{append-nil}
use Rattle.span_state.specs.declared.sweep.SweepNote.{SweepNote}
use Rattle.sweep_laws.specs.Counts.{times}
use Rattle.worker_log.specs.declared.Entry.{Entry}
use Rattle.span_laws.specs.TakeAnswers.{cycle_at}
use Rattle.span_laws.specs.Views.{Seen}
use Rattle.span_set.specs.declared.hand.Hand.{Hand}
use Rattle.span_set.specs.Fits.{FitsSets, no_page}
use Rattle.span_set.proofs.Fits.{fits-both, fits-none}
use Rattle.sweeper.specs.Work.{WorkerSweeps, OnlySweeps, Stays, HandSweeps, notes_of}
use Rattle.sweeper.proofs.Counting.{notes-append, nothing-sweeps, sweeps-append}

pub stays-same : (a : Seen) → Stays a a
stays-same a = record { away = refl; table = refl; number = refl; caching = refl; region = refl; goal = refl; procs = refl; generation = refl; marks = refl; before = refl; carried = refl; parts = refl; sweeping = refl; cached = refl; claimed = refl; fresh = refl; reset = refl; bodies = λ q h. refl }

times_front : (q : ℕ) (xs ys : List ℕ) → times q (xs ++ ys) ≡ times q xs + times q ys
times_front q [] ys = omega arith
times_front q (x ∷ xs) ys = let r = times_front q xs ys in omega arith

module _ (a b d : Seen) (more also : List ℕ) (said then : List Entry) (x : WorkerSweeps more said a b) (y : WorkerSweeps also then b d) where
  stays-both : Stays a d
  stays-both = let s = x.stays in let t = y.stays in record {
    away = t.away ∙ s.away;
    table = t.table ∙ s.table;
    number = t.number ∙ s.number;
    caching = t.caching ∙ s.caching;
    region = t.region ∙ s.region;
    goal = t.goal ∙ s.goal;
    procs = t.procs ∙ s.procs;
    generation = t.generation ∙ s.generation;
    marks = t.marks ∙ s.marks;
    before = t.before ∙ s.before;
    carried = t.carried ∙ s.carried;
    parts = t.parts ∙ s.parts;
    sweeping = t.sweeping ∙ s.sweeping;
    cached = t.cached ∙ s.cached;
    claimed = t.claimed ∙ s.claimed;
    fresh = t.fresh ∙ s.fresh;
    reset = t.reset ∙ s.reset;
    bodies = λ q h. t.bodies q (let c = times_front q a.view.own.held more in let x₁ = ap (times q) x.held in let x₂ = ap (times q) s.sweeping in let x₃ = ap (times q) s.cached in omega arith) ∙ s.bodies q h;
  }

  pub does-both : WorkerSweeps (more ++ also) (then ++ said) a d
  does-both = record {
    log = y.log ∙ ap (λ (l : List Entry). then ++ l) x.log ∙ sym (append_assoc then said a.view.own.log);
    sweeps = sweeps-append a.view.generation then said (subst (λ (g : ℕ). OnlySweeps g then) x.stays.generation y.sweeps) x.sweeps;
    sets = fits-both a.view.generation no_page no_page no_page then said a b d (λ p z. z) (λ p z. z) x.sets (subst (λ (g : ℕ). FitsSets g no_page then b d) x.stays.generation y.sets);
    held = y.held ∙ ap (λ (l : List ℕ). l ++ also) x.held ∙ append_assoc a.view.own.held more also;
    stays = stays-both;
  }

pub does-nothing : (a : Seen) → WorkerSweeps [] [] a a
does-nothing a = record { log = refl; sweeps = nothing-sweeps a.view.generation; sets = fits-none a.view.generation no_page [] a a [] refl refl; held = sym (append-nil a.view.own.held); stays = stays-same a }

module _ (P Q : List Entry → Type 0) where
  pub works-as : (more : List ℕ) (a b : Hand) → HandSweeps more P a b → ((s : List Entry) → P s → Q s) → HandSweeps more Q a b
  works-as more a b w f = record { said = w.said; did = f w.said w.did; does = w.does; notes = w.notes; popped = w.popped }

  pub works-both : (R : List Entry → Type 0) (more : List ℕ) (a b d : Hand) → HandSweeps [] P a b → HandSweeps more Q b d → ((s t : List Entry) → P s → Q t → R (t ++ s)) → HandSweeps more R a d
  works-both R more a b d x y both = record {
    said = y.said ++ x.said;
    did = both x.said y.said x.did y.did;
    does = does-both a.worker b.worker d.worker [] more x.said y.said x.does y.does;
    notes = y.notes ∙ ap (λ (l : List SweepNote). l ++ notes_of (cycle_at b.worker.view.generation) y.said) x.notes ∙ append_assoc a.notes.items (notes_of (cycle_at a.worker.view.generation) x.said) (notes_of (cycle_at b.worker.view.generation) y.said)
        ∙ ap (λ (g : ℕ). a.notes.items ++ (notes_of (cycle_at a.worker.view.generation) x.said ++ notes_of (cycle_at g) y.said)) x.does.stays.generation
        ∙ ap (λ (l : List SweepNote). a.notes.items ++ l) (sym (notes-append (cycle_at a.worker.view.generation) y.said x.said));
    popped = y.popped;
  }

-- what a call added to the log sweeps alone, too
pub works-tidy : (P : List Entry → Type 0) (more : List ℕ) (a b : Hand) → HandSweeps more P a b → HandSweeps more (λ said. P said × OnlySweeps a.worker.view.generation said) a b
works-tidy P more a b w = record { said = w.said; did = (w.did, w.does.sweeps); does = w.does; notes = w.notes; popped = w.popped }

-- a call that has not done anything yet
pub works-nothing : (P : List Entry → Type 0) (a b : Hand) → b.worker ≡ a.worker → b.notes.items ≡ a.notes.items → a.worker.view.own.popped ≡ [] → P [] → HandSweeps [] P a b
works-nothing P a b same notes none p = record {
  said = [];
  did = p;
  does = subst (λ (w : Seen). WorkerSweeps [] [] a.worker w) (sym same) (does-nothing a.worker);
  notes = notes ∙ sym (append-nil a.notes.items);
  popped = ap (λ (w : Seen). w.view.own.popped) same ∙ none;
}

-- a step of the worker alone, without a sweep
pub works-step : (P : List Entry → Type 0) (more : List ℕ) (said : List Entry) (a b : Hand) → WorkerSweeps more said a.worker b.worker → notes_of (cycle_at a.worker.view.generation) said ≡ [] → b.notes.items ≡ a.notes.items → b.worker.view.own.popped ≡ [] → P said → HandSweeps more P a b
works-step P more said a b d none notes popped p = record {
  said = said;
  did = p;
  does = d;
  notes = notes ∙ sym (append-nil a.notes.items) ∙ ap (λ (l : List SweepNote). a.notes.items ++ l) (sym none);
  popped = popped;
}
