-- What the calls beneath leave of a hand that holds nothing.
use Rattle.std.proofs.Common.{◌≡◌, ℕ, ◌+◌, ◌<◌, List, [], ◌∷◌, ◌++◌, refl, ap, sym, subst, ◌∙◌, arith, append_assoc}
use Rattle.std.specs.Prelude.{◌==◌}
use Rattle.sweep_laws.specs.Counts.{one_if, times}
use Rattle.sweep_laws.specs.Lists.{has}
use Rattle.sweep_laws.proofs.Naming.{has_times}
use Rattle.sweep_laws.proofs.Totals.{same_one, other_one}
use mathlib.Core.Logic.{dite}
use native.Mathlib.Decide.{ℕ_discrete}
use Rattle.span_state.specs.declared.sweep.SweepNote.{SweepNote}
use Rattle.worker_log.specs.declared.Entry.{Entry}
use Rattle.worker_log.specs.Entries.{is_pop_of, many}
use Rattle.worker_log.proofs.Logs.{many-append}
use Rattle.span_laws.specs.declared.view.View.{View}
use Rattle.span_laws.specs.Asks.{IsIdle}
use Rattle.span_laws.specs.Calls.{notes_of, number_added, pages_swept}
use Rattle.span_laws.specs.Views.{acts}
use Rattle.span_set.specs.declared.hand.Hand.{Hand}
use Rattle.span_set.specs.Fits.{FitsSets, no_page}
use Rattle.span_set.proofs.Fits.{fits-both, fits-more}
use Rattle.central_lists.specs.Works as lists
use Rattle.sweeper.specs.Work as work
use Rattle.proc_cache.specs.Leaves.{Holds, Leaves, Sums}
use Rattle.proc_cache.proofs.Leaving.{notes_of-append, total-append}
use Rattle.sweeper.proofs.Bridging.{keeps_of, notes-same}
use Rattle.proc_cache.proofs.Logging.{adds_none}

none_in : (xs : List ℕ) → ((q : ℕ) → times q xs ≡ 0) → xs ≡ []
none_in [] e = refl
none_in (x ∷ xs) e = absurd (let z = e x in let o = same_one x in omega arith)

one_in : (p : ℕ) (xs : List ℕ) → ((q : ℕ) → times q xs ≡ one_if (p == q)) → xs ≡ p ∷ []
one_in p [] e = absurd (let z = e p in let o = same_one p in omega arith)
one_in p (x ∷ xs) e = dite (ℕ_discrete p x)
    (λ s. (λ i. sym s i ∷ none_in xs (λ q. let z = subst (λ (y : ℕ). one_if (y == q) + times q xs ≡ one_if (p == q)) (sym s) (e q) in omega arith) i))
    (λ d. absurd (let z = e x in let o = same_one x in let n = other_one p x d in omega arith))

-- a hand that holds nothing, after a call of the sweeper
module _ (more : List ℕ) (P : List Entry → Type 0) (old new : Hand) (idle : IsIdle old.worker.view.own) (w : work.HandSweeps more P old new) where
  pub of_sweeper : Holds more w.said old new
  of_sweeper = let s = w.does.stays in let o = w.does.sweeps in record {
    log = w.does.log;
    away = s.away;
    table = s.table;
    number = s.number;
    caching = s.caching;
    view = (keeps_of old.worker new.worker s (w.popped ∙ sym idle.popped)).view;
    reset = s.reset;
    sweeping = s.sweeping ∙ idle.sweeping;
    held = w.does.held ∙ ap (λ (l : List ℕ). l ++ more) idle.held;
    popped = w.popped;
    claimed = s.claimed ∙ idle.claimed;
    cached = s.cached;
    fresh = s.fresh;
    bodies = λ q h. s.bodies q (let t = has_times q old.worker.view.own.cached h in omega arith);
    unpopped = λ j p part full. o.unpopped j p part;
    sets = fits-more old.worker.view.generation no_page (λ q. times q more) w.said old.worker new.worker (λ p z. absurd (omega arith)) w.does.sets;
    swept = o.swept_pages;
    notes = w.notes ∙ ap (λ (l : List SweepNote). old.notes.items ++ l) (notes-same old.worker.view.generation w.said);
  }

  -- and what its log sums up to
  pub sums_of : (took missed : ℕ) → many Rattle.span_laws.specs.Logs.is_taking w.said ≡ took → many Rattle.span_laws.specs.Calls.is_missing w.said ≡ missed → Sums 0 took missed 0 w.said
  sums_of took missed t m = let o = w.does.sweeps in record {
    spends = adds_none 3 w.said o.unspent;
    takes = t;
    misses = m;
    places = o.unplaced;
  }

-- and after a call for a cached span
module _ (class tried : ℕ) (more kept : ℕ → ℕ) (P : List Entry → Type 0) (old new : Hand) (idle : IsIdle old.worker.view.own) (d : lists.HandSearches old.worker.view.generation class tried more kept P old new) where
  counted : (q : ℕ) → times q new.worker.view.own.held ≡ more q
  counted q = let h = d.held q in let z = ap (times q) idle.held in omega arith

  holds_list : (pages : List ℕ) → ((q : ℕ) → 0 < kept q → 0 < times q pages) → new.worker.view.own.held ≡ pages → Holds pages d.said old new
  holds_list pages keeps e = let k = d.keeps in record {
    log = d.log;
    away = k.away;
    table = k.table;
    number = k.number;
    caching = d.caching;
    view = k.view;
    reset = k.reset;
    sweeping = none_in _ (λ q. k.sweeping q ∙ ap (times q) idle.sweeping);
    held = e;
    popped = none_in _ (λ q. k.popped q ∙ ap (times q) idle.popped);
    claimed = k.claimed ∙ idle.claimed;
    cached = k.cached;
    fresh = k.fresh;
    bodies = λ q h. k.bodies q (let t = has_times q old.worker.view.own.cached h in omega arith);
    unpopped = d.says.pops_no_full;
    sets = fits-more old.worker.view.generation kept (λ q. times q pages) d.said old.worker new.worker keeps d.sets;
    swept = d.says.adds_pages;
    notes = d.notes;
  }

  pub holds_none : ((q : ℕ) → kept q ≡ 0) → ((q : ℕ) → more q ≡ 0) → Holds [] d.said old new
  holds_none n e = holds_list [] (λ q l. absurd (let z = n q in omega arith)) (none_in _ (λ q. counted q ∙ e q))

  pub holds_one : (p : ℕ) → ((q : ℕ) → 0 < kept q → 0 < one_if (p == q)) → ((q : ℕ) → more q ≡ one_if (p == q)) → Holds (p ∷ []) d.said old new
  holds_one p k e = holds_list (p ∷ []) (λ q l. let z = k q l in omega arith) (one_in p _ (λ q. counted q ∙ e q))

  pub sums_of_lists : Sums 0 0 0 0 d.said
  sums_of_lists = record { spends = d.says.spends_nothing; takes = d.says.takes_nothing; misses = d.says.misses_nothing; places = d.says.places_nothing }

-- one call after another; of what the first swept it keeps nothing
pub holds-then : (held pages : List ℕ) (later first : List Entry) (a b d : Hand) → FitsSets a.worker.view.generation no_page first a.worker b.worker → Holds held first a b → Holds pages later b d → Holds pages (later ++ first) a d
holds-then held pages later first a b d f x y = record {
  log = y.log ∙ ap (λ (l : List Entry). later ++ l) x.log ∙ sym (append_assoc later first a.worker.view.own.log);
  away = y.away ∙ x.away;
  table = y.table ∙ x.table;
  number = y.number ∙ x.number;
  caching = y.caching ∙ x.caching;
  view = subst (λ (v : View). d.worker.view ≡ acts v d.worker.view.own) x.view y.view;
  reset = y.reset ∙ x.reset;
  sweeping = y.sweeping;
  held = y.held;
  popped = y.popped;
  claimed = y.claimed;
  cached = y.cached ∙ x.cached;
  fresh = y.fresh ∙ x.fresh;
  bodies = λ q h. y.bodies q (ap (has q) x.cached ∙ h) ∙ x.bodies q h;
  unpopped = λ j p part full. let m = many-append (is_pop_of j p) later first in let u = x.unpopped j p part full in
      let v = y.unpopped j p (ap (λ (z : View). Rattle.sweep_laws.specs.Reading.is_swept_set z.generation j) x.view ∙ part) full in omega arith;
  sets = fits-both a.worker.view.generation no_page (λ q. times q pages) (λ q. times q pages) later first a.worker b.worker d.worker (λ p z. absurd (omega arith)) (λ p z. z) f
      (subst (λ (v : View). FitsSets v.generation (λ q. times q pages) later b.worker d.worker) x.view y.sets);
  swept = let m = total-append (number_added 2) later first in let n = total-append pages_swept later first in let p = x.swept in let q = y.swept in omega arith;
  notes = y.notes ∙ (λ i. x.notes i ++ notes_of (x.view i).generation later)
      ∙ append_assoc a.notes.items (notes_of a.worker.view.generation first) (notes_of a.worker.view.generation later)
      ∙ ap (λ (l : List SweepNote). a.notes.items ++ l) (sym (notes_of-append a.worker.view.generation later first));
}

pub holds-trans : (pages : List ℕ) (later first : List Entry) (a b d : Hand) → Holds [] first a b → Holds pages later b d → Holds pages (later ++ first) a d
holds-trans pages later first a b d x y = holds-then [] pages later first a b d x.sets x y

pub holds_nothing : (said : List Entry) (a b : Hand) → Holds [] said a b → Leaves said a b
holds_nothing said a b x = record {
  log = x.log;
  away = x.away;
  table = x.table;
  number = x.number;
  caching = x.caching;
  view = x.view;
  reset = x.reset;
  idle = record { sweeping = x.sweeping; held = x.held; popped = x.popped; claimed = x.claimed };
  pages = x.swept;
  notes = x.notes;
}

pub idle_after : (said : List Entry) (a b : Hand) → Holds [] said a b → IsIdle b.worker.view.own
idle_after said a b x = record { sweeping = x.sweeping; held = x.held; popped = x.popped; claimed = x.claimed }
