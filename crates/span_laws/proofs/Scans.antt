-- Looks over many pages or sets keep all that holds of the lent state, and tell what they found.
use Rattle.std.proofs.Common.{◌≡◌, ℕ, zero, suc, ◌+◌, ◌/◌, ◌%◌, ◌<◌, ◌≤◌, Bool, eqb, eq-eqb, ne_eqb, true, false, true≢false, List, [], ◌∷◌, ◌++◌, get_or, refl, ap, sym, subst, ◌∙◌, arith}
use Rattle.std.specs.Prelude.{Option}
use Rattle.std.specs.List.{AllByRecursion}
use Rattle.std.proofs.lemmas.Bool.{eqb-true}
use mathlib.Core.Logic.{dite}
use native.Mathlib.Decide.{ℕ_discrete}
use Rattle.page_alloc.specs.Heap.{PageHeap}
use Rattle.span_state.specs.declared.body.Body.{Body}
use Rattle.sweep_laws.specs.Lists.{erase, has}
use Rattle.sweep_laws.specs.Reading.{is_swept_set, set_of}
use Rattle.sweep_laws.specs.State.{CoreState}
use Rattle.worker_log.specs.declared.Entry.{Entry}
use Rattle.worker_log.specs.declared.Entry.TheVariants.{Looked, LookedEmptyCell, Popped, Pushed, Swept, Took, Missed, Gave, Allocated, Found, Read, Added, Pulled, NoPage, Cut as CutEntry, NoCut, Settled}
use Rattle.worker_log.specs.Entries.{is_seen_empty, many}
use Rattle.span_laws.specs.Cycle.{Kept}
use Rattle.span_laws.specs.Scans.{IsPassing, PassesPages, SeesEmpty, nth_unswept}
use Rattle.span_laws.specs.Scanned.{AreEmpty, NoneWaits, found_in, looks_in}
use Rattle.span_laws.specs.Views.{acts}
use Rattle.span_laws.specs.declared.said.Said.TheVariants.{Finds, Looks}
use Rattle.span_laws.specs.declared.view.View.{View}
use Rattle.span_laws.proofs.Kept.{kept_note}

-- ---- the state

module _ (c : CoreState) (heap : PageHeap) (homes : List (Option Body)) (n : ℕ) (v : View) (k : Kept c heap homes n v) where
  abbrev with_log : List Entry → View
  with_log said = acts v (record v.own { log = said ++ v.own.log })

  -- what is found at pages, where nothing is popped
  pub found_keeps : v.own.popped ≡ [] → (from m : ℕ) → Kept c heap homes n (with_log (found_in c from m))
  found_keeps none from zero = k
  found_keeps none from (suc m) = go (found_keeps none from m) (eqb (get_or c.words (from + m) 0 + 2) c.generation) refl
    where
      p : ℕ
      p = from + m

      unpopped : has p v.own.popped ≡ false
      unpopped = ap (has p) none

      erased : erase p v.own.popped ≡ v.own.popped
      erased = ap (erase p) none ∙ sym none

      go : Kept c heap homes n (with_log (found_in c from m)) → (b : Bool) → eqb (get_or c.words p 0 + 2) c.generation ≡ b → Kept c heap homes n (with_log (found_in c from (suc m)))
      go rest true e = rw e rest
      go rest false e = rw e (subst (λ (l : List ℕ). Kept c heap homes n (acts v (record v.own { popped = l; log = Found p (get_or c.words p 0) ∷ (found_in c from m ++ v.own.log) }))) erased
          (kept_note c heap homes n (with_log (found_in c from m)) rest (Finds p (get_or c.words p 0)) unpopped refl))

  -- what is seen of sets
  pub looks_keep : (from m : ℕ) → Kept c heap homes n (with_log (looks_in c from m))
  looks_keep from zero = k
  looks_keep from (suc m) = let j = nth_unswept c.generation (from + m) in kept_note c heap homes n (with_log (looks_in c from m)) (looks_keep from m) (Looks j (set_of c j).head (set_of c j).tail) tt (refl, refl)

-- ---- what it tells

-- pages up to a later one
passing_below : (g from m to : ℕ) → m ≤ to → (said : List Entry) → AllByRecursion (IsPassing g from m) said → AllByRecursion (IsPassing g from to) said
passing_below g from m to l [] a = a
passing_below g from m to l (e ∷ said) a = (one e a.0, passing_below g from m to l said a.1)
  where
    one : (e : Entry) → IsPassing g from m e → IsPassing g from to e
    one (Found page word) x = (x.0, (let y = x.1 in omega arith), x.2)
    one (Looked s h t) x = absurd x
    one (LookedEmptyCell s i) x = absurd x
    one (Pulled number line) x = absurd x
    one NoPage x = absurd x
    one (CutEntry page pages class) x = absurd x
    one (NoCut pages left) x = absurd x
    one (Settled number) x = absurd x
    one (Popped s q) x = absurd x
    one (Pushed s q) x = absurd x
    one (Swept s) x = absurd x
    one (Took i l) x = absurd x
    one (Missed i l) x = absurd x
    one (Gave q i) x = absurd x
    one (Allocated z) x = absurd x
    one (Read w y) x = absurd x
    one (Added w y) x = absurd x

module _ (c : CoreState) (g : ℕ) (gen : g ≡ c.generation) (marks : List (ℕ × ℕ)) (from : ℕ) where
  passes_some : (m : ℕ) → NoneWaits c marks from (from + m) → PassesPages g marks from (from + m) (found_in c from m)
  passes_some zero waits = record { only = tt; whole = λ p a b u. absurd (omega arith) }
  passes_some (suc m) waits = go (passes_some m (λ p a b u. waits p a (omega arith) u)) (eqb (get_or c.words (from + m) 0 + 2) c.generation) refl
    where
      q : ℕ
      q = from + m

      go : PassesPages g marks from q (found_in c from m) → (b : Bool) → eqb (get_or c.words q 0 + 2) c.generation ≡ b → PassesPages g marks from (from + suc m) (found_in c from (suc m))
      go rest true e = rw e (record {
        only = passing_below g from q (from + suc m) (omega arith) (found_in c from m) rest.only;
        whole = λ p a b u. dite (ℕ_discrete p q)
            (λ s. absurd (waits p a b u (ap (λ (x : ℕ). get_or c.words x 0 + 2) s ∙ eqb-true (get_or c.words q 0 + 2) c.generation e)))
            (λ d. rest.whole p a (omega arith) u);
      })
      go rest false e = rw e (record {
        only = ((omega arith, omega arith, λ s. true≢false (sym (eq-eqb (get_or c.words q 0 + 2) c.generation (s ∙ gen)) ∙ e)), passing_below g from q (from + suc m) (omega arith) (found_in c from m) rest.only);
        whole = λ p a b u. dite (ℕ_discrete p q)
            (λ s. rw (eq-eqb q p (sym s)) (omega arith))
            (λ d. let x = rest.whole p a (omega arith) u in omega arith);
      })

  -- the pages up to one that waits, or to the last
  pub passes_to : (to : ℕ) → from ≤ to → NoneWaits c marks from to → (m : ℕ) → m + from ≡ to → PassesPages g marks from to (found_in c from m)
  passes_to to l waits m e = subst (λ (x : ℕ). PassesPages g marks from x (found_in c from m)) (let a : from + m ≡ to = omega arith in a)
      (passes_some m (subst (NoneWaits c marks from) (let a : to ≡ from + m = omega arith in a) waits))

-- the sets
pub nth_unswept_off : (g i : ℕ) → is_swept_set g (nth_unswept g i) ≡ false
nth_unswept_off g i = ne_eqb (nth_unswept g i % 2) ((g / 2) % 2) (λ e. omega arith)

module _ (c : CoreState) (g : ℕ) (gen : g ≡ c.generation) (from : ℕ) where
  sees_some : (m : ℕ) → AreEmpty c from (from + m) → SeesEmpty c.generation from (from + m) (looks_in c from m)
  sees_some zero empty = record { only = tt; whole = λ i a b. absurd (omega arith) }
  sees_some (suc m) empty =
      let q : ℕ = from + m in let j = nth_unswept c.generation q in
      let rest = sees_some m (λ i a b. empty i a (omega arith)) in
      let same : (set_of c j).head ≡ (set_of c j).tail = empty q (omega arith) (omega arith) in record {
        only = ((nth_unswept_off c.generation q, same), rest.only);
        whole = λ i a b. dite (ℕ_discrete i q)
            (λ s. subst (λ (x : ℕ). 0 < many (is_seen_empty (nth_unswept c.generation x)) (looks_in c from (suc m))) (sym s) (rw (eq-eqb j j refl, eq-eqb (set_of c j).head (set_of c j).tail same) (omega arith)))
            (λ d. let x = rest.whole i a (omega arith) in omega arith);
      }

  -- the sets up to one with an entry, or to the last
  pub sees_to : (to : ℕ) → from ≤ to → AreEmpty c from to → (m : ℕ) → m + from ≡ to → SeesEmpty g from to (looks_in c from m)
  sees_to to l empty m e = subst (λ (x : ℕ). SeesEmpty x from to (looks_in c from m)) (sym gen)
      (subst (λ (x : ℕ). SeesEmpty c.generation from x (looks_in c from m)) (let a : from + m ≡ to = omega arith in a) (sees_some m (subst (AreEmpty c from) (let a : to ≡ from + m = omega arith in a) empty)))
