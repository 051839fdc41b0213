-- One page goes from one standing to another: its word and one hand change, all other pages stand as they were.
use Rattle.std.proofs.Common.{◌≡◌, ◌≢◌, ℕ, ◌+◌, ◌<◌, ◌≤◌, inl, inr, ⊎_elim, true, not, eqb, List, length, set, get_or, sym, refl, ap, ◌∙◌, subst, arith}
use Rattle.std.specs.Prelude.{Option, Some}
use Rattle.std.specs.List.{AllByRecursion}
use mathlib.Core.Logic.{dite}
use mathlib.Core.Option.{some}
use lib.ListN.{get_elem?}
use native.Mathlib.Decide.{ℕ_discrete}
use Rattle.sweep_laws.proofs.Naming.{at_set}
use Rattle.sweep_laws.specs.declared.moves.Claimed.{Claimed}
use Rattle.sweep_laws.specs.State.{LifeState, SetState, HandState}
use Rattle.sweep_laws.specs.Reading.{cell_of, class_of_set, is_swept_set}
use Rattle.sweep_laws.specs.Counts.{one_if, times, total, total_from}
use Rattle.sweep_laws.specs.Named.{is_claim, claimers, covers, only, names_in, unswept, unswept_own, is_class}
use Rattle.sweep_laws.specs.OwnedLives.{PulledApart, ObjectsFit}
use Rattle.sweep_laws.specs.OwnedSets.{IsPage, ClaimFits, SetsFit}
use Rattle.sweep_laws.specs.Standing.{tally, Page, Kept}
use Rattle.sweep_laws.proofs.Totals.{total_set}
use Rattle.sweep_laws.proofs.Lives.{Alike, alike_covers, alike_owner, alike_begins, alike_class, alike_whole}
use Rattle.sweep_laws.proofs.Standings.{standing_word, same_tally}

-- the hand names each page but p as often as before
pub record NamesElse (p : ℕ) (h h' : HandState) : Type 0 where
  pub sweeping : (q : ℕ) → q ≢ p → times q h'.sweeping ≡ times q h.sweeping
  pub held : (q : ℕ) → q ≢ p → times q h'.held ≡ times q h.held
  pub cached : (q : ℕ) → q ≢ p → times q h'.cached ≡ times q h.cached
  pub popped : (q : ℕ) → q ≢ p → times q h'.popped ≡ times q h.popped
  pub swept : (q : ℕ) → q ≢ p → times q h'.swept ≡ times q h.swept

pub total_kept : {A : Type 0} (f : A → ℕ) (l : List A) (n : ℕ) (a b : A) → get_elem? l n ≡ some a → f b ≡ f a → total f (set l n b) ≡ total f l
total_kept f l n a b at e = let t = total_set f l n a b at in omega arith

-- a page of the same class in two lists of lives
pub same_own : (g p : ℕ) (ls ms : List LifeState) (ss : List SetState) → ((j : ℕ) → is_class p j ms ≡ is_class p j ls) → unswept_own g p ms ss ≡ unswept_own g p ls ss
same_own g p ls ms ss same = λ i. total_from (λ k s. only (same (class_of_set k) i) (only (not (is_swept_set g k)) (names_in p s))) 0 ss

pub alike_own : (g p : ℕ) (ls ms : List LifeState) (ss : List SetState) → Alike ls ms → unswept_own g p ms ss ≡ unswept_own g p ls ss
alike_own g p ls ms ss a = same_own g p ls ms ss (λ j. sym (alike_class p j ls ms a))

-- the claims of an index by hands of which one keeps its claim
pub claimers_kept : (k i : ℕ) (hs : List HandState) (n : ℕ) (h h' : HandState) → get_elem? hs n ≡ some h → h'.claimed ≡ h.claimed → claimers k i (set hs n h') ≡ claimers k i hs
claimers_kept k i hs n h h' at e = total_kept (λ (x : HandState). one_if (is_claim k i x.claimed)) hs n h h' at (ap (λ (d : Option Claimed). one_if (is_claim k i d)) e)

module _ (g : ℕ) (ws : List ℕ) (os : List (Option ℕ)) (ls : List LifeState) (ss : List SetState) (hs : List HandState) (n : ℕ) (h h' : HandState) (at : get_elem? hs n ≡ some h) where
  -- a page that neither words, lives nor hands speak of otherwise
  pub tally_else : (ws' : List ℕ) (ls' : List LifeState) (p q : ℕ) → q ≢ p → get_or ws' q 0 ≡ get_or ws q 0 → unswept_own g q ls' ss ≡ unswept_own g q ls ss → NamesElse p h h'
      → tally g ws' ls' ss (set hs n h') q ≡ tally g ws ls ss hs q
  tally_else ws' ls' p q other word own e =
      let a = total_kept (λ (x : HandState). times q x.sweeping) hs n h h' at (e.sweeping q other) in
      let b = total_kept (λ (x : HandState). times q x.held) hs n h h' at (e.held q other) in
      let c = total_kept (λ (x : HandState). times q x.cached) hs n h h' at (e.cached q other) in
      let d = total_kept (λ (x : HandState). times q x.popped) hs n h h' at (e.popped q other) in
      let f = total_kept (λ (x : HandState). times q x.swept) hs n h h' at (e.swept q other) in
      same_tally (tally g ws' ls' ss (set hs n h') q) (tally g ws ls ss hs q) word a b c refl (λ i. own i + d i) (λ i. unswept g q ss + d i) f

  claim_moved : (pages pages' : ℕ) (ls' : List LifeState) (x y : HandState) (d : Claimed) → pages ≡ pages' → is_class d.page (class_of_set d.set) ls' ≡ true → 0 < times d.page y.held → ClaimFits g pages ls ss x d → ClaimFits g pages' ls' ss y d
  claim_moved pages pages' ls' x y d e class held c = record {
    set_at = c.set_at;
    is_set = c.is_set;
    is_swept = c.is_swept;
    from_head = c.from_head;
    below_tail = c.below_tail;
    blank = c.blank;
    is_page = subst (λ (k : ℕ). d.page < k) e c.is_page;
    held = held;
    class = class;
  }

  -- the sets fit as before where a hand keeps its claim and the claimed page, and the pages that cells and claims
  -- name keep their class
  pub sets_moved : (pages pages' : ℕ) (ls' : List LifeState) → pages ≡ pages' → h'.claimed ≡ h.claimed → ((d : Claimed) → h.claimed ≡ Some d → 0 < times d.page h'.held)
      → ((j : ℕ) (x : SetState) (i : ℕ) → get_elem? ss j ≡ some x → is_swept_set g j ≡ true → x.head ≤ i → i < x.tail → (c : IsPage pages (λ p. is_class p (class_of_set j) ls ≡ true) (cell_of x i)) → is_class c.0 (class_of_set j) ls' ≡ true)
      → ((m : ℕ) (x : HandState) → get_elem? hs m ≡ some x → (d : Claimed) → x.claimed ≡ Some d → ClaimFits g pages ls ss x d → is_class d.page (class_of_set d.set) ls' ≡ true)
      → SetsFit g pages ls ss hs → SetsFit g pages' ls' ss (set hs n h')
  sets_moved pages pages' ls' e same held cells claims s = record {
    order = s.order;
    beyond = s.beyond;
    unswept_cell = λ k x a u i l m. let c = s.unswept_cell k x a u i l m in (c.0, c.1, subst (λ (z : ℕ). c.0 < z) e c.2, tt);
    swept_cell = λ k x a u i l m. ⊎_elim
        (λ (c : IsPage pages (λ p. is_class p (class_of_set k) ls ≡ true) (cell_of x i)). inl (c.0, c.1, subst (λ (z : ℕ). c.0 < z) e c.2, cells k x i a u l m c))
        (λ (c : (cell_of x i ≡ 0) × (claimers k i hs ≡ 1)). inr (c.0, claimers_kept k i hs n h h' at same ∙ c.1))
        (s.swept_cell k x a u i l m);
    claim = λ m x a d f. ⊎_elim
        (λ (t : (m ≡ n) × (h' ≡ x)). let was = sym same ∙ ap (λ (z : HandState). z.claimed) t.1 ∙ f in let c = s.claim n h at d was in
        subst (λ (z : HandState). ClaimFits g pages' ls' ss z d) t.1 (claim_moved pages pages' ls' h h' d e (claims n h at d was c) (held d was) c))
        (λ (t : (m ≢ n) × (get_elem? hs m ≡ some x)). let c = s.claim m x t.1 d f in claim_moved pages pages' ls' x x d e (claims m x t.1 d f c) c.held c)
        (at_set hs n m h' x a);
  }

  sets_kept : (pages pages' : ℕ) (ls' : List LifeState) → pages ≡ pages' → Alike ls ls' → h'.claimed ≡ h.claimed → ((d : Claimed) → h.claimed ≡ Some d → 0 < times d.page h'.held)
      → SetsFit g pages ls ss hs → SetsFit g pages' ls' ss (set hs n h')
  sets_kept pages pages' ls' e alike same held s = sets_moved pages pages' ls' e same held
      (λ j x i a u l m c. sym (alike_class c.0 (class_of_set j) ls ls' alike) ∙ c.3)
      (λ m x a d f c. sym (alike_class d.page (class_of_set d.set) ls ls' alike) ∙ c.class) s

  -- the pulled lists name each page as often as before, and lives cover it no more often
  pub pulled_as : (ls' : List LifeState) → h'.pulled ≡ h.pulled → ((q : ℕ) → covers q ls' ≤ covers q ls) → PulledApart ls hs → PulledApart ls' (set hs n h')
  pulled_as ls' same fewer apart q = let t = total_kept (λ (x : HandState). times q x.pulled) hs n h h' at (ap (times q) same) in
      let a = apart q in let f = fewer q in omega arith

  -- page p stands as the new lists say, all else as before
  pub turned_pulled : (k : Kept g ws os ls ss hs) (p : ℕ) (ws' : List ℕ) (ls' : List LifeState)
      → length ws' ≡ length ws → ((q : ℕ) → q ≢ p → get_or ws' q 0 ≡ get_or ws q 0)
      → (p < length ws → not (eqb (get_or ws' p 0) 0) ≡ not (eqb (get_or ws p 0) 0))
      → Alike ls ls' → AllByRecursion ObjectsFit ls'
      → NamesElse p h h' → PulledApart ls' (set hs n h') → h'.claimed ≡ h.claimed → ((d : Claimed) → h.claimed ≡ Some d → 0 < times d.page h'.held)
      → (p < length ws → Page g (tally g ws' ls' ss (set hs n h') p))
      → Kept g ws' os ls' ss (set hs n h')
  turned_pulled k p ws' ls' len else_word owned alike objects names pulled same held page = record {
    generation = k.generation;
    lives_fit = record {
      entries = k.lives_fit.entries ∙ sym len;
      word = λ q low. standing_word g (tally g ws' ls' ss (set hs n h') q) (pages q low).standing;
      begin = λ q low. sym (alike_begins q ls ls' alike) ∙ k.lives_fit.begin q (low_of q low) ∙ dite (ℕ_discrete q p)
          (λ e. subst (λ (z : ℕ). not (eqb (get_or ws z 0) 0) ≡ not (eqb (get_or ws' z 0) 0)) (sym e) (sym (owned (subst (λ (z : ℕ). z < length ws) e (low_of q low)))))
          (λ d. ap (λ (z : ℕ). not (eqb z 0)) (sym (else_word q d)));
      owner_is = λ q low. k.lives_fit.owner_is q (low_of q low) ∙ alike_owner q ls ls' alike;
      apart = λ q. subst (λ (z : ℕ). z ≤ 1) (alike_covers q ls ls' alike) (k.lives_fit.apart q);
      whole = alike_whole ls ls' alike k.lives_fit.whole;
    };
    pulled = pulled;
    page = pages;
    sets_fit = sets_kept (length ws) (length ws') ls' (sym len) alike same held k.sets_fit;
    objects = objects;
  }
    where
      low_of : (q : ℕ) → q < length ws' → q < length ws
      low_of q low = omega arith

      pages : (q : ℕ) → q < length ws' → Page g (tally g ws' ls' ss (set hs n h') q)
      pages q low = dite (ℕ_discrete q p)
          (λ e. subst (λ (z : ℕ). Page g (tally g ws' ls' ss (set hs n h') z)) (sym e) (page (subst (λ (z : ℕ). z < length ws) e (low_of q low))))
          (λ d. subst (Page g) (sym (tally_else ws' ls' p q d (else_word q d) (alike_own g q ls ls' ss alike) names)) (k.page q (low_of q low)))

  -- the same where the hand keeps its pulled list
  pub turned : (k : Kept g ws os ls ss hs) (p : ℕ) (ws' : List ℕ) (ls' : List LifeState)
      → length ws' ≡ length ws → ((q : ℕ) → q ≢ p → get_or ws' q 0 ≡ get_or ws q 0)
      → (p < length ws → not (eqb (get_or ws' p 0) 0) ≡ not (eqb (get_or ws p 0) 0))
      → Alike ls ls' → AllByRecursion ObjectsFit ls'
      → NamesElse p h h' → h'.pulled ≡ h.pulled → h'.claimed ≡ h.claimed → ((d : Claimed) → h.claimed ≡ Some d → 0 < times d.page h'.held)
      → (p < length ws → Page g (tally g ws' ls' ss (set hs n h') p))
      → Kept g ws' os ls' ss (set hs n h')
  turned k p ws' ls' len else_word owned alike objects names pulled same held page =
      turned_pulled k p ws' ls' len else_word owned alike objects names (pulled_as ls' pulled (λ q. let e = alike_covers q ls ls' alike in omega arith) k.pulled) same held page
