-- Looks over many pages or sets, as parts of a call.
use Rattle.std.proofs.Common.{◌≡◌, ℕ, false, List, [], ◌∷◌, refl, ap, sym, subst, ◌∙◌, arith}
use Rattle.std.proofs.lemmas.List.{append-nil}
use Rattle.std.specs.List.{AllByRecursion}
use Rattle.sweep_laws.specs.Counts.{total}
use Rattle.sweep_laws.specs.Reading.{is_swept_set}
use Rattle.worker_log.specs.declared.Entry.{Entry}
use Rattle.worker_log.specs.declared.Entry.TheVariants.{Looked, LookedEmptyCell, Popped, Pushed, Swept, Took, Missed, Gave, Allocated, Found, Read, Added, Pulled, NoPage, Cut as CutEntry, NoCut, Settled}
use Rattle.worker_log.specs.Logs.{sweepings}
use Rattle.worker_log.specs.Entries.{is_sweep_of, many}
use Rattle.span_laws.specs.TakeAnswers.{cycle_at}
use Rattle.span_laws.specs.Scans.{IsEmptyLook, IsPassing, PassesPages, logs}
use Rattle.span_laws.specs.Views.{Seen}
use Rattle.span_set.specs.declared.hand.Hand.{Hand}
use Rattle.span_set.specs.Fits.{no_page}
use Rattle.span_set.proofs.Fits.{fits-none}
use Rattle.sweeper.specs.Entries.{pages_given}
use Rattle.sweeper.specs.ReclaimSteps.{CoversPages}
use Rattle.sweeper.specs.Tries.{SweepsNone}
use Rattle.sweeper.specs.Work.{OnlySweeps, Stays, HandSweeps}
use Rattle.sweeper.proofs.Counting.{none-append, none-both, nothing-none, nothing-sweeps, notes-none, sweeps-append}
use Rattle.sweeper.proofs.Popping.{one_none, one_quiet}
use Rattle.sweeper.proofs.Working.{works-step}

-- entries that only look: nothing is swept or given back
pub record Looks (g : ℕ) (said : List Entry) : Type 0 where
  pub sweeps : OnlySweeps g said
  pub none : SweepsNone said
  pub given : total pages_given said ≡ 0
  pub unswept : (p : ℕ) → many (is_sweep_of p) said ≡ 0

looks_nothing : (g : ℕ) → Looks g []
looks_nothing g = record { sweeps = nothing-sweeps g; none = nothing-none; given = refl; unswept = λ p. refl }

-- a first entry and those behind it
pub looks_more : (g : ℕ) (e : Entry) (said : List Entry) → Looks g (e ∷ []) → Looks g said → Looks g (e ∷ said)
looks_more g e said a r = record {
  sweeps = sweeps-append g (e ∷ []) said a.sweeps r.sweeps;
  none = none-append (e ∷ []) said a.none r.none;
  given = (let x = a.given in let y = r.given in omega arith);
  unswept = λ p. none-both (is_sweep_of p) (e ∷ []) said (a.unswept p) (r.unswept p);
}

looks_found : (g page word : ℕ) → Looks g (Found page word ∷ [])
looks_found g page word = record {
  sweeps = record { unplaced = refl; unspent = refl; swept_pages = refl; given = λ p. refl; pushed = λ p. refl; unpopped = λ j p s. refl; unlooked = λ j s. refl; untouched = λ p. refl };
  none = record { none = refl; plain = record { takes_none = record { untaken = refl; unmissed = refl }; unclaimed = refl; unread = λ i. refl; keeps_block = refl } };
  given = refl;
  unswept = λ p. refl;
}

pub looks_empty : (g s x y : ℕ) → is_swept_set g s ≡ false → Looks g (Looked s x y ∷ [])
looks_empty g s x y off = record { sweeps = one_quiet s x y g off; none = one_none s x y; given = refl; unswept = λ p. refl }

-- pages that are passed over
pub passing_looks : (g h from to : ℕ) (said : List Entry) → AllByRecursion (IsPassing h from to) said → Looks g said
passing_looks g h from to [] a = looks_nothing g
passing_looks g h from to (Found page word ∷ said) a = looks_more g (Found page word) said (looks_found g page word) (passing_looks g h from to said a.1)
passing_looks g h from to (Looked s x y ∷ said) a = absurd a.0
passing_looks g h from to (LookedEmptyCell s i ∷ said) a = absurd a.0
passing_looks g h from to (Pulled number line ∷ said) a = absurd a.0
passing_looks g h from to (NoPage ∷ said) a = absurd a.0
passing_looks g h from to (CutEntry page pages class ∷ said) a = absurd a.0
passing_looks g h from to (NoCut pages left ∷ said) a = absurd a.0
passing_looks g h from to (Settled number ∷ said) a = absurd a.0
passing_looks g h from to (Popped s p ∷ said) a = absurd a.0
passing_looks g h from to (Pushed s p ∷ said) a = absurd a.0
passing_looks g h from to (Swept s ∷ said) a = absurd a.0
passing_looks g h from to (Took m l ∷ said) a = absurd a.0
passing_looks g h from to (Missed m l ∷ said) a = absurd a.0
passing_looks g h from to (Gave p m ∷ said) a = absurd a.0
passing_looks g h from to (Allocated x ∷ said) a = absurd a.0
passing_looks g h from to (Read w x ∷ said) a = absurd a.0
passing_looks g h from to (Added w x ∷ said) a = absurd a.0

pub covers_passed : (g h : ℕ) (marks : List (ℕ × ℕ)) (from to : ℕ) (said : List Entry) → PassesPages h marks from to said → Looks g said → CoversPages marks from to 0 said
covers_passed g h marks from to said w q = record {
  covers = λ p a b u. let x = w.whole p a b u in omega arith;
  given_is = (let x = q.given in omega arith);
  spares = λ p l. absurd (let x = q.unswept p in omega arith);
  plain = q.none.plain;
}

-- sets that are seen empty
pub empty_looks : (g : ℕ) (said : List Entry) → AllByRecursion (IsEmptyLook g) said → Looks g said
empty_looks g [] a = looks_nothing g
empty_looks g (Looked s x y ∷ said) a = looks_more g (Looked s x y) said (looks_empty g s x y a.0.0) (empty_looks g said a.1)
empty_looks g (Found p w ∷ said) a = absurd a.0
empty_looks g (LookedEmptyCell s i ∷ said) a = absurd a.0
empty_looks g (Pulled number line ∷ said) a = absurd a.0
empty_looks g (NoPage ∷ said) a = absurd a.0
empty_looks g (CutEntry page pages class ∷ said) a = absurd a.0
empty_looks g (NoCut pages left ∷ said) a = absurd a.0
empty_looks g (Settled number ∷ said) a = absurd a.0
empty_looks g (Popped s p ∷ said) a = absurd a.0
empty_looks g (Pushed s p ∷ said) a = absurd a.0
empty_looks g (Swept s ∷ said) a = absurd a.0
empty_looks g (Took m l ∷ said) a = absurd a.0
empty_looks g (Missed m l ∷ said) a = absurd a.0
empty_looks g (Gave p m ∷ said) a = absurd a.0
empty_looks g (Allocated x ∷ said) a = absurd a.0
empty_looks g (Read w x ∷ said) a = absurd a.0
empty_looks g (Added w x ∷ said) a = absurd a.0

-- a step of the worker that only adds such entries
pub logs_works : (old : Hand) (said : List Entry) (new : Seen) → new ≡ logs said old.worker → OnlySweeps old.worker.view.generation said → sweepings said ≡ [] → old.worker.view.own.popped ≡ []
    → HandSweeps [] (λ s. s ≡ said) old (record old { worker = new })
logs_works old said new e sweeps none popped = works-step (λ s. s ≡ said) [] said old (record old { worker = new })
    (record {
      log = ap (λ (x : Seen). x.view.own.log) e;
      sweeps = sweeps;
      sets = fits-none old.worker.view.generation no_page said old.worker new [] none (ap (λ (x : Seen). x.view.own.spans) e);
      held = ap (λ (x : Seen). x.view.own.held) e ∙ sym (append-nil old.worker.view.own.held);
      stays = subst (Stays old.worker) (sym e) (record { away = refl; table = refl; number = refl; caching = refl; region = refl; goal = refl; procs = refl; generation = refl; marks = refl; before = refl; carried = refl; parts = refl; sweeping = refl; cached = refl; claimed = refl; fresh = refl; reset = refl; bodies = λ q h. refl });
    })
    (notes-none (cycle_at old.worker.view.generation) said none) refl (ap (λ (x : Seen). x.view.own.popped) e ∙ popped) refl
