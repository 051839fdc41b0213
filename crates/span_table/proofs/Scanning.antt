-- A look over many sets or pages comes one further.
use Rattle.std.proofs.Common.{◌≡◌, ◌≢◌, ⊎_elim, ℕ, ◌+◌, ◌<◌, ◌≤◌, eq-eqb, List, [], ◌∷◌, ◌++◌, ap, sym, subst, ◌∙◌, arith}
use Rattle.std.specs.List.{AllByRecursion}
use mathlib.Core.Logic.{dite}
use native.Mathlib.Decide.{ℕ_discrete}
use Rattle.sweep_laws.specs.Lists.{erase}
use Rattle.sweep_laws.specs.Reading.{is_swept_set}
use Rattle.sweep_reads.specs.Waiting.{HasNoMark}
use Rattle.worker_log.specs.declared.Entry.{Entry}
use Rattle.worker_log.specs.declared.Entry.TheVariants.{Looked, LookedEmptyCell, Popped, Pushed, Swept, Took, Missed, Gave, Allocated, Found, Read, Added, Pulled, NoPage, Cut as CutEntry, NoCut, Settled}
use Rattle.span_laws.specs.Scans.{IsPassing, logs, nth_unswept}
use Rattle.span_laws.specs.OwnSteps.{after_said}
use Rattle.span_laws.specs.Views.{Seen, acts}
use Rattle.span_laws.specs.declared.said.Said.TheVariants.{Finds, Looks}
use Rattle.span_laws.proofs.Scans.{nth_unswept_off}
use Rattle.span_table.specs.Scanned.{PassesPage, PassesTo, SeesTo}

-- pages up to a later one
passing_below : (g from m to : ℕ) → m ≤ to → (said : List Entry) → AllByRecursion (IsPassing g from m) said → AllByRecursion (IsPassing g from to) said
passing_below g from m to l [] a = a
passing_below g from m to l (e ∷ said) a = (one e a.0, passing_below g from m to l said a.1)
  where
    one : (e : Entry) → IsPassing g from m e → IsPassing g from to e
    one (Found page word) x = (x.0, (let y = x.1 in omega arith), x.2)
    one (Looked s h t) x = absurd x
    one (LookedEmptyCell s i) x = absurd x
    one (Pulled number line) x = absurd x
    one NoPage x = absurd x
    one (CutEntry page pages class) x = absurd x
    one (NoCut pages left) x = absurd x
    one (Settled number) x = absurd x
    one (Popped s q) x = absurd x
    one (Pushed s q) x = absurd x
    one (Swept s) x = absurd x
    one (Took i l) x = absurd x
    one (Missed i l) x = absurd x
    one (Gave q i) x = absurd x
    one (Allocated z) x = absurd x
    one (Read w y) x = absurd x
    one (Added w y) x = absurd x

-- one set more was seen empty
pub sees_more : (from i : ℕ) (old w new : Seen) (k : SeesTo from i old w) (set head tail : ℕ) → set ≡ nth_unswept old.view.generation i → head ≡ tail → new ≡ after_said (Looks set head tail) w → SeesTo from (i + 1) old new
sees_more from i old w new k set head tail is same e = let g = old.view.generation in record {
  said = Looked set head tail ∷ k.said;
  sets = record {
    only = ((ap (is_swept_set g) is ∙ nth_unswept_off g i, same), k.sets.only);
    whole = λ j a b. dite (ℕ_discrete j i)
        (λ s. rw (eq-eqb set (nth_unswept g j) (is ∙ ap (nth_unswept g) (sym s)), eq-eqb head tail same) (omega arith))
        (λ d. let x = k.sets.whole j a (omega arith) in omega arith);
  };
  view = e ∙ ap (after_said (Looks set head tail)) k.view;
}

-- and the next one was not
pub sees_other : (from i : ℕ) (old w new : Seen) (k : SeesTo from i old w) (set head tail : ℕ) → set ≡ nth_unswept old.view.generation i → new ≡ after_said (Looks set head tail) w
    → new ≡ logs (Looked (nth_unswept old.view.generation i) head tail ∷ k.said) old
sees_other from i old w new k set head tail is e = e ∙ ap (after_said (Looks set head tail)) k.view ∙ ap (λ (j : ℕ). logs (Looked j head tail ∷ k.said) old) is

-- a page with a mark is passed
pub passes_marked : (from p : ℕ) (old w : Seen) (k : PassesTo from p old w) → (HasNoMark old.view.marks p → ⊥) → PassesTo from (p + 1) old w
passes_marked from p old w k marked = record {
  said = k.said;
  pages = record {
    only = passing_below old.view.generation from p (p + 1) (omega arith) k.said k.pages.only;
    whole = λ q a b u. dite (ℕ_discrete q p) (λ s. absurd (marked (subst (HasNoMark old.view.marks) s u))) (λ d. k.pages.whole q a (omega arith) u);
  };
  view = k.view;
}

-- a page with another word is, and told
pub passes_found : (from p : ℕ) (old w new : Seen) (k : PassesTo from p old w) (word : ℕ) → from ≤ p → old.view.own.popped ≡ [] → word + 2 ≢ old.view.generation → new ≡ after_said (Finds p word) w → PassesTo from (p + 1) old new
passes_found from p old w new k word le unpopped other e = record {
  said = Found p word ∷ k.said;
  pages = record {
    only = ((le, (let z : p < p + 1 = omega arith in z), other), passing_below old.view.generation from p (p + 1) (omega arith) k.said k.pages.only);
    whole = λ q a b u. dite (ℕ_discrete q p) (λ s. rw (eq-eqb p q (sym s)) (omega arith)) (λ d. let x = k.pages.whole q a (omega arith) u in omega arith);
  };
  view = e ∙ ap (after_said (Finds p word)) k.view ∙ (λ j. record old { view = acts old.view (record old.view.own { popped = erased j; log = Found p word ∷ (k.said ++ old.view.own.log) }) });
}
  where
    erased : erase p old.view.own.popped ≡ old.view.own.popped
    erased = ap (erase p) unpopped ∙ sym unpopped

-- one page of such a look, where nothing was taken
pub passes_one : (from p : ℕ) (old w new : Seen) (k : PassesTo from p old w) → from ≤ p → old.view.own.popped ≡ [] → PassesPage p w new → PassesTo from (p + 1) old new
passes_one from p old w new k le unpopped one = ⊎_elim
    (λ (x : (HasNoMark w.view.marks p → ⊥) × (new ≡ w)). subst (PassesTo from (p + 1) old) (sym x.1) (passes_marked from p old w k (λ u. x.0 (subst (λ (z : Seen). HasNoMark z.view.marks p) (sym k.view) u))))
    (λ (x : (word : ℕ) × (word + 2 ≢ w.view.generation) × (new ≡ after_said (Finds p word) w)). passes_found from p old w new k x.0 le unpopped (λ e. x.1 (e ∙ sym (ap (λ (z : Seen). z.view.generation) k.view))) x.2)
    one
