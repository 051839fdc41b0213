-- Allocate and PopUnswept keep what the swept sets name.
use Rattle.std.proofs.Common.{◌≡◌, ◌≢◌, ℕ, ◌+◌, ◌<◌, ◌≤◌, ◌⊎◌, inl, inr, ⊎_elim, true, false, true≢false, eqb, List, [], ◌∷◌, ◌++◌, length, get_or, set, sym, refl, ap, ◌∙◌, subst, arith, eq-eqb, ne_eqb}
use Rattle.std.specs.Prelude.{Option, None}
use mathlib.Core.Logic.{dite}
use mathlib.Core.Option.{some}
use lib.ListN.{get_elem?}
use native.Mathlib.Decide.{ℕ_discrete}
use Rattle.sweep_laws.proofs.NeedsMet.{some_none}
use Rattle.sweep_laws.specs.State.{LifeState, SetState, HandState}
use Rattle.sweep_laws.specs.Reading.{cell_of, class_of_set, is_swept_set, life_in}
use Rattle.sweep_laws.specs.Counts.{times, total}
use Rattle.sweep_laws.specs.Named.{is_class, claimers, queued, holders, cachers}
use Rattle.sweep_laws.specs.OwnedSets.{IsPage}
use Rattle.sweep_laws.specs.Standing.{tally, Kept}
use Rattle.sweep_laws.proofs.Totals.{part_le}
use Rattle.sweep_laws.proofs.Naming.{at_set}
use Rattle.sweep_laws.proofs.Standings.{cached_list}
use Rattle.worker_log.specs.declared.Entry.{Entry}
use Rattle.worker_log.specs.SetNumbers.{is_full_set}
use Rattle.worker_log.specs.Entries.{many, is_pop_of}
use Rattle.swept_set_laws.specs.Entered.{Entered, IsEntry, is_full_life, log_of}
use Rattle.swept_set_laws.proofs.EnteredKept.{ClaimedIn, claimer_of, queued_by}
use Rattle.swept_set_laws.proofs.Stays.{change_else}
use Rattle.sweep_laws.specs.ChangesOfLives.{change_life, allocate_index}

change_here : (p m : ℕ) (f : LifeState → LifeState) → ((l : LifeState) → (f l).page ≡ l.page) → ((l : LifeState) → (f l).class ≡ l.class) → (ls : List LifeState) → is_class p m ls ≡ true
    → (life_in p (change_life p f ls) ≡ f (life_in p ls)) × (is_class p m (change_life p f ls) ≡ true)
change_here p m f e c [] i = absurd (true≢false (sym i))
change_here p m f e c (l ∷ ls) i = dite (ℕ_discrete l.page p)
    (λ s. let a = eq-eqb l.page p s in let b = eq-eqb (f l).page p (e l ∙ s) in let j : eqb l.class m ≡ true = rw a at i in
    (rw (a, b) refl, rw (a, b) (ap (λ (z : ℕ). eqb z m) (c l) ∙ j)))
    (λ s. let a = ne_eqb l.page p s in let j : is_class p m ls ≡ true = rw a at i in let t = change_here p m f e c ls j in (rw (a, a) t.0, rw (a, a) t.1))

module _ (g : ℕ) (ws : List ℕ) (os : List (Option ℕ)) (ls : List LifeState) (ss : List SetState) (hs : List HandState) (kept : Kept g ws os ls ss hs) (logs : List (List Entry)) (names : ℕ → ℕ → ℕ)
    (e : Entered g (length ws) ws ls ss hs logs names) where
  -- a page that a hand has cached is named by popped cells alone
  pub cached_popped : (n : ℕ) (h : HandState) → get_elem? hs n ≡ some h → (p : ℕ) → p < length ws → 0 < times p h.cached
      → (j : ℕ) (s : SetState) → get_elem? ss j ≡ some s → is_swept_set g j ≡ true → (i : ℕ) → s.head ≤ i → i < s.tail → names j i ≢ p
  cached_popped n h at p low has j s there part i from l is =
      ⊎_elim blank (λ (c : cell_of s i ≡ names j i + 1). let q = queued_by g ws os ls ss hs kept logs names e n h at j s there part i from l p (omega arith) in let x = alone in let x₂ = x.2 in let z : ⊥ = omega arith in z) ((e.sets_name j s there part).cell i l)
    where
      alone : ((get_or ws p 0 ≡ g + 1) ⊎ (get_or ws p 0 ≡ g + 3)) × (cachers p hs ≡ 1) × (total (λ (y : HandState). times p y.sweeping) hs + holders p hs + queued g p ss ≡ 0)
      alone = cached_list g (tally g ws ls ss hs p) (kept.page p low).standing (let y = part_le (λ (y : HandState). times p y.cached) hs n h at in omega arith)

      blank : cell_of s i ≡ 0 → ⊥
      blank c = ⊎_elim
          (λ (y : IsPage (length ws) (λ z. is_class z (class_of_set j) ls ≡ true) (cell_of s i)). let y₁ = y.1 in let z : ⊥ = omega arith in z)
          (λ (y : (cell_of s i ≡ 0) × (claimers j i hs ≡ 1)). by_claimer (claimer_of j i hs (let y₁ = y.1 in omega arith)))
          (kept.sets_fit.swept_cell j s there part i from l)
        where
          by_claimer : ClaimedIn j i hs → ⊥
          by_claimer t =
              let d = t.2 in let f = kept.sets_fit.claim t.0 t.1 t.3 d t.4 in
              let page : d.page ≡ p = sym (e.claim t.0 t.1 t.3 d t.4) ∙ ap (λ (z : ℕ). names z d.index) t.5 ∙ ap (names j) t.6 ∙ is in
              let own : 0 < times p t.1.held = subst (λ (z : ℕ). 0 < times z t.1.held) page f.held in
              let y = part_le (λ (y : HandState). times p y.held) hs t.0 t.1 t.3 in let x = alone in let x₂ = x.2 in omega arith

  -- Allocate: one index more in a life that has a free one, and that no unpopped cell or claim names
  module _ (p i : ℕ) (free : is_full_life (life_in p ls) ≡ false) (apart : (k : ℕ) (s : SetState) → get_elem? ss k ≡ some s → is_swept_set g k ≡ true → (j : ℕ) → s.head ≤ j → j < s.tail → names k j ≢ p) where
    entry_after : (k q : ℕ) → IsEntry g (length ws) ws ls k q → IsEntry g (length ws) ws (change_life p (allocate_index i) ls) k q
    entry_after k q r = dite (ℕ_discrete q p)
        (λ s. subst (IsEntry g (length ws) ws (change_life p (allocate_index i) ls) k) (sym s) (here (subst (IsEntry g (length ws) ws ls k) s r)))
        (λ d. let t = change_else p q (allocate_index i) (λ l. refl) ls d in record {
          low = r.low;
          class = t.1 (class_of_set k) ∙ r.class;
          word = r.word;
          used = subst (λ (l : LifeState). 0 < length l.allocated) (sym t.0) r.used;
          full = λ f. ap is_full_life t.0 ∙ r.full f;
        })
      where
        here : IsEntry g (length ws) ws ls k p → IsEntry g (length ws) ws (change_life p (allocate_index i) ls) k p
        here r = let t = change_here p (class_of_set k) (allocate_index i) (λ l. refl) (λ l. refl) ls r.class in record {
          low = r.low;
          class = t.1;
          word = r.word;
          used = subst (λ (l : LifeState). 0 < length l.allocated) (sym t.0) (some_there (life_in p ls).allocated);
          full = λ f. absurd (true≢false (sym (r.full f) ∙ free));
        }
          where
            some_there : (xs : List ℕ) → 0 < length (xs ++ i ∷ [])
            some_there [] = omega arith
            some_there (x ∷ xs) = omega arith

    pub allocate_enters : Entered g (length ws) ws (change_life p (allocate_index i) ls) ss hs logs names
    allocate_enters = record {
      sets_name = λ k s a part. let m = e.sets_name k s a part in record {
        cell = m.cell;
        gone = m.gone;
        once = m.once;
        entry = λ j l. entry_after k (names k j) (m.entry j l);
        room = λ f j from l. ap is_full_life (change_else p (names k j) (allocate_index i) (λ y. refl) ls (apart k s a part j from l)).0 ∙ m.room f j from l;
      };
      claim = e.claim;
      told = e.told;
      known = λ m x a k s b part j l held. ⊎_elim
          (λ (z : 0 < many (is_pop_of k (names k j)) (log_of logs m)). inl z)
          (λ (z : (is_full_set k ≡ false) × (is_full_life (life_in (names k j) ls) ≡ true)). inr (
            z.0,
            ap is_full_life (change_else p (names k j) (allocate_index i) (λ y. refl) ls
                (λ s. true≢false (sym z.1 ∙ ap (λ (q : ℕ). is_full_life (life_in q ls)) s ∙ free))).0 ∙ z.1,
          ))
          (e.known m x a k s b part j l held);
    }

  -- PopUnswept, and each other change of a set of the unswept part, with a hand that holds and has cached what it did
  module _ (j : ℕ) (s' : SetState) (part : is_swept_set g j ≡ false) (n : ℕ) (h h' : HandState) (at : get_elem? hs n ≡ some h) (claims : h'.claimed ≡ h.claimed) (held : h'.held ≡ h.held) (cached : h'.cached ≡ h.cached)
      (logs' : List (List Entry)) (pops : (m k q : ℕ) → is_swept_set g k ≡ true → many (is_pop_of k q) (log_of logs' m) ≡ many (is_pop_of k q) (log_of logs m)) where
    was_set : (k : ℕ) (s : SetState) → get_elem? (set ss j s') k ≡ some s → is_swept_set g k ≡ true → get_elem? ss k ≡ some s
    was_set k s a q = ⊎_elim (λ (t : (k ≡ j) × (s' ≡ s)). absurd (true≢false (sym q ∙ ap (is_swept_set g) t.0 ∙ part))) (λ (t : (k ≢ j) × (get_elem? ss k ≡ some s)). t.1) (at_set ss j k s' s a)

    was_hand : (m : ℕ) (x : HandState) → get_elem? (set hs n h') m ≡ some x → (y : HandState) × (get_elem? hs m ≡ some y) × (x.claimed ≡ y.claimed) × ((q : ℕ) → times q x.held + times q x.cached ≡ times q y.held + times q y.cached)
    was_hand m x a = ⊎_elim
        (λ (t : (m ≡ n) × (h' ≡ x)). let z : (y : HandState) × (get_elem? hs m ≡ some y) × (x.claimed ≡ y.claimed) × ((q : ℕ) → times q x.held + times q x.cached ≡ times q y.held + times q y.cached) =
        (h, ap (get_elem? hs) t.0 ∙ at, ap (λ (y : HandState). y.claimed) (sym t.1) ∙ claims, λ q. ap (λ (y : HandState). times q y.held + times q y.cached) (sym t.1) ∙ (let a = ap (times q) held in let b = ap (times q) cached in omega arith)) in z)
        (λ (t : (m ≢ n) × (get_elem? hs m ≡ some x)). (x, t.1, refl, λ q. refl))
        (at_set hs n m h' x a)

    pub unswept_enters : Entered g (length ws) ws ls (set ss j s') (set hs n h') logs' names
    unswept_enters = record {
      sets_name = λ k s a q. e.sets_name k s (was_set k s a q) q;
      claim = λ m x a d c. let w = was_hand m x a in e.claim m w.0 w.1 d (sym w.2 ∙ c);
      told = λ m x a k s b q p pop. let w = was_hand m x a in e.told m w.0 w.1 k s (was_set k s b q) q p (let z = pops m k p q in omega arith);
      known = λ m x a k s b q i l y. let w = was_hand m x a in ⊎_elim
          (λ (z : 0 < many (is_pop_of k (names k i)) (log_of logs m)). inl (let v = pops m k (names k i) q in omega arith))
          (λ (z : (is_full_set k ≡ false) × (is_full_life (life_in (names k i) ls) ≡ true)). inr z)
          (e.known m w.0 w.1 k s (was_set k s b q) q i l (let v = w.3 (names k i) in omega arith));
    }

-- where the swept sets are empty and nobody claims, nothing is named: at the start, and after each mark end
pub empty_enters : (g pages : ℕ) (ws : List ℕ) (ls : List LifeState) (ss : List SetState) (hs : List HandState) (logs : List (List Entry)) (names : ℕ → ℕ → ℕ)
    → ((k : ℕ) (s : SetState) → get_elem? ss k ≡ some s → is_swept_set g k ≡ true → (s.head ≡ 0) × (s.tail ≡ 0))
    → ((n : ℕ) (h : HandState) → get_elem? hs n ≡ some h → h.claimed ≡ None) → ((n : ℕ) → log_of logs n ≡ []) → Entered g pages ws ls ss hs logs names
empty_enters g pages ws ls ss hs logs names empty none silent = record {
  sets_name = λ k s a part. let z = empty k s a part in let z₀ = z.0 in let z₁ = z.1 in record {
    cell = λ i l. absurd (omega arith);
    gone = λ i l. absurd (omega arith);
    once = λ i j l m x. absurd (omega arith);
    entry = λ i l. absurd (omega arith);
    room = λ f i l m. absurd (omega arith);
  };
  claim = λ n h a d c. absurd (some_none d (sym c ∙ none n h a));
  told = λ n h a k s b part p pop. let z = ap (many (is_pop_of k p)) (silent n) in absurd (omega arith);
  known = λ n h a k s b part i l. let z = empty k s b part in let z₀ = z.0 in absurd (omega arith);
}
