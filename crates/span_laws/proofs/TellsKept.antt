-- What the parts tell stays so, where one page, one part and the sets change.
use Rattle.std.proofs.Common.{◌≡◌, ◌≢◌, ℕ, ◌+◌, ◌<◌, ◌≤◌, ◌⊎◌, ⊎_elim, Bool, ◌&&◌, true, false, eqb, List, set, get_or, refl, sym, ap, ◌∙◌, subst, arith}
use mathlib.Core.Logic.{dite}
use mathlib.Core.Option.{some}
use lib.ListN.{get_elem?}
use native.Mathlib.Decide.{ℕ_discrete}
use Rattle.sweep_laws.specs.Lists.{has}
use Rattle.sweep_laws.specs.Reading.{cell_of, class_of_set, is_swept_set, life_in, no_set}
use Rattle.sweep_laws.specs.OwnedLives.{EachAt}
use Rattle.sweep_laws.specs.State.{LifeState, SetState}
use Rattle.sweep_laws.proofs.Naming.{at_set}
use Rattle.span_laws.specs.declared.view.Part.{Part}
use Rattle.span_laws.specs.Logs.{is_look, is_placing_at}
use Rattle.worker_log.specs.Entries.{many, is_pop, is_pop_of, is_seen_empty}
use Rattle.span_laws.specs.Tells.{IsFilled, IsPlaced, Tells}
use Rattle.span_laws.specs.Views.{has_cell}
use Rattle.span_laws.proofs.Parts.{has3, has_none}

-- what a step leaves as it is, besides the words of a page
pub record Leads (g : ℕ) (ws : List ℕ) (ls : List LifeState) (ss : List SetState) (ws' : List ℕ) (ls' : List LifeState) (ss' : List SetState) (p : ℕ) : Type 0 where
  pub words : (q : ℕ) → q ≢ p → get_or ws' q 0 ≡ get_or ws q 0
  pub placed : (q i : ℕ) → IsPlaced g ws ls q i → IsPlaced g ws' ls' q i
  pub waits : (q : ℕ) → get_or ws' q 0 + 2 ≡ g → (get_or ws q 0 + 2 ≡ g) × ((life_in q ls').class ≡ (life_in q ls).class)
  pub empty : (k : ℕ) → is_swept_set g k ≡ false → (get_or ss k no_set).head ≡ (get_or ss k no_set).tail → (get_or ss' k no_set).head ≡ (get_or ss' k no_set).tail
  pub cells : (k i q : ℕ) → cell_of (get_or ss k no_set) i ≡ q + 1 → cell_of (get_or ss' k no_set) i ≡ q + 1
  pub filled : (k : ℕ) → is_swept_set g k ≡ false → IsFilled (get_or ss k no_set) → IsFilled (get_or ss' k no_set)
  pub grow : (k : ℕ) → ((get_or ss k no_set).head ≤ (get_or ss' k no_set).head) × ((get_or ss k no_set).tail ≤ (get_or ss' k no_set).tail)

module _ (g : ℕ) (ws : List ℕ) (ls : List LifeState) (ss : List SetState) (ws' : List ℕ) (ls' : List LifeState) (ss' : List SetState) (p : ℕ) (lead : Leads g ws ls ss ws' ls' ss' p) where
  both_false : (a b c : Bool) → a ≡ (b && c) → b ≡ false → (d : Bool) → a ≡ (b && d)
  both_false a b c e f d = rw f at e ∙ sym (ap (λ (z : Bool). z && d) f)

  further : (k x y : ℕ) → (x ≤ (get_or ss k no_set).head) × (y ≤ (get_or ss k no_set).tail) → (x ≤ (get_or ss' k no_set).head) × (y ≤ (get_or ss' k no_set).tail)
  further k x y l = let a = l.0 in let b = l.1 in let m = (lead.grow k).0 in let n = (lead.grow k).1 in (omega arith, omega arith)

  still_waits : (h : Part) → Tells g ws ls ss h → (k q : ℕ) → is_swept_set g k ≡ false → 0 < many (is_pop_of k q) h.log → get_or ws' q 0 + 2 ≡ g → (life_in q ls').class ≡ class_of_set k
  still_waits h t k q u m w = let z = lead.waits q w in z.1 ∙ t.waits k q u m z.0

  -- a part without the page
  pub else_tells : (x : Part) → has3 p x ≡ 0 → Tells g ws ls ss x → Tells g ws' ls' ss' x
  else_tells x none t = record {
    fresh = λ q. dite (ℕ_discrete q p)
        (λ e. both_false (has q x.fresh) (has q x.cached) (eqb (get_or ws q 0) (g + 3)) (t.fresh q) (has_none q x.cached (let z = subst (λ (y : ℕ). has3 y x ≡ 0) (sym e) none in omega arith)) (eqb (get_or ws' q 0) (g + 3)))
        (λ d. t.fresh q ∙ ap (λ (w : ℕ). has q x.cached && eqb w (g + 3)) (sym (lead.words q d)));
    placed = λ q i m. lead.placed q i (t.placed q i m);
    waits = still_waits x t;
    emptied = λ k u m. lead.empty k u (t.emptied k u m);
    read = λ k i q r. lead.cells k i q (t.read k i q r);
    filled = λ k u. lead.filled k u (t.filled k u);
    grown = λ k x y m. further k x y (t.grown k x y m);
    passed = λ k. let a = t.passed k in let b = (lead.grow k).0 in omega arith;
  }

  -- the part that changes
  module _ (h h' : Part) (t : Tells g ws ls ss h) (fresh : (q : ℕ) → has q h'.fresh ≡ (has q h'.cached && eqb (get_or ws' q 0) (g + 3)))
      (log : (q i : ℕ) → 0 < many (is_placing_at q i) h'.log → (0 < many (is_placing_at q i) h.log) ⊎ IsPlaced g ws' ls' q i)
      (pops : (k q : ℕ) → is_swept_set g k ≡ false → 0 < many (is_pop_of k q) h'.log → (0 < many (is_pop_of k q) h.log) ⊎ (get_or ws' q 0 + 2 ≡ g → (life_in q ls').class ≡ class_of_set k))
      (seen : (k : ℕ) → is_swept_set g k ≡ false → 0 < many (is_seen_empty k) h'.log → (0 < many (is_seen_empty k) h.log) ⊎ ((get_or ss' k no_set).head ≡ (get_or ss' k no_set).tail))
      (read : (k i q : ℕ) → has_cell k i q h'.read ≡ true → (has_cell k i q h.read ≡ true) ⊎ (cell_of (get_or ss' k no_set) i ≡ q + 1))
      (look : (k x y : ℕ) → 0 < many (is_look k x y) h'.log → (0 < many (is_look k x y) h.log) ⊎ ((x ≤ (get_or ss' k no_set).head) × (y ≤ (get_or ss' k no_set).tail)))
      (pop : (k : ℕ) → many (is_pop k) h'.log ≤ (get_or ss' k no_set).head) where
    pub own_tells : Tells g ws' ls' ss' h'
    own_tells = record {
      fresh = fresh;
      placed = λ q i m. ⊎_elim (λ (a : 0 < many (is_placing_at q i) h.log). lead.placed q i (t.placed q i a)) (λ (a : IsPlaced g ws' ls' q i). a) (log q i m);
      waits = λ k q u m w. ⊎_elim (λ (a : 0 < many (is_pop_of k q) h.log). still_waits h t k q u a w) (λ (a : get_or ws' q 0 + 2 ≡ g → (life_in q ls').class ≡ class_of_set k). a w) (pops k q u m);
      emptied = λ k u m. ⊎_elim (λ (a : 0 < many (is_seen_empty k) h.log). lead.empty k u (t.emptied k u a)) (λ (a : (get_or ss' k no_set).head ≡ (get_or ss' k no_set).tail). a) (seen k u m);
      read = λ k i q r. ⊎_elim (λ (a : has_cell k i q h.read ≡ true). lead.cells k i q (t.read k i q a)) (λ (a : cell_of (get_or ss' k no_set) i ≡ q + 1). a) (read k i q r);
      filled = λ k u. lead.filled k u (t.filled k u);
      grown = λ k x y m. ⊎_elim (λ (a : 0 < many (is_look k x y) h.log). further k x y (t.grown k x y a)) (λ (a : (x ≤ (get_or ss' k no_set).head) × (y ≤ (get_or ss' k no_set).tail)). a) (look k x y m);
      passed = pop;
    }

  -- so all parts
  pub tells_turn : (ps : List Part) (n : ℕ) (h' : Part) → EachAt ps (λ m x. Tells g ws ls ss x) → ((m : ℕ) (x : Part) → m ≢ n → get_elem? ps m ≡ some x → has3 p x ≡ 0) → Tells g ws' ls' ss' h'
      → EachAt (set ps n h') (λ m x. Tells g ws' ls' ss' x)
  tells_turn ps n h' all others own m x a = ⊎_elim
      (λ (t : (m ≡ n) × (h' ≡ x)). subst (Tells g ws' ls' ss') t.1 own)
      (λ (t : (m ≢ n) × (get_elem? ps m ≡ some x)). else_tells x (others m x t.0 t.1) (all m x t.1))
      (at_set ps n m h' x a)

-- where nothing but a part changes
pub same_leads : (g : ℕ) (ws : List ℕ) (ls : List LifeState) (ss : List SetState) (p : ℕ) → Leads g ws ls ss ws ls ss p
same_leads g ws ls ss p = record { words = λ q d. refl; placed = λ q i x. x; waits = λ q w. (w, refl); empty = λ k u e. e; cells = λ k i q e. e; filled = λ k u f. f; grow = λ k. (omega arith, omega arith) }

pub tells_stay : (g : ℕ) (ws : List ℕ) (ls : List LifeState) (ss : List SetState) (ps : List Part) (n : ℕ) (h' : Part) → EachAt ps (λ m x. Tells g ws ls ss x) → Tells g ws ls ss h' → EachAt (set ps n h') (λ m x. Tells g ws ls ss x)
tells_stay g ws ls ss ps n h' all own m x a = ⊎_elim
    (λ (t : (m ≡ n) × (h' ≡ x)). subst (Tells g ws ls ss) t.1 own)
    (λ (t : (m ≢ n) × (get_elem? ps m ≡ some x)). all m x t.1)
    (at_set ps n m h' x a)
