-- A step keeps the rule where its move is allowed and what it says suits.
use Rattle.std.proofs.Common.{◌≡◌, ℕ, ◌+◌, inl, inr, ⊎_elim, Bool, ◌&&◌, ◌||◌, not, eqb, true, List, length, get_or, refl, ap, sym, ◌∙◌}
use Rattle.std.specs.Prelude.{None, Some, Option}
use Rattle.std.specs.Option.{is_some}
use Rattle.std.proofs.lemmas.Bool.{eqb-true, ltb-true}
use Rattle.page_alloc.specs.Heap.{PageHeap}
use Rattle.span_state.specs.declared.body.Body.{Body}
use Rattle.sweep_laws.specs.Changes.{after_fill_of}
use Rattle.sweep_laws.specs.declared.moves.Claimed.{Claimed}
use Rattle.sweep_laws.specs.Lists.{has}
use Rattle.sweep_laws.specs.Reading.{hand_of, life_of}
use Rattle.sweep_laws.specs.NeedsOfRange.{refusal}
use Rattle.sweep_laws.specs.NeedsOfPages.{free_index}
use Rattle.sweep_laws.specs.Needs.{release_needs, cache_needs, uncache_needs, stale_uncache_needs, allocate_needs, pop_unswept_needs}
use Rattle.sweep_laws.specs.Owned.{Owned}
use Rattle.sweep_laws.specs.State.{CoreState, HandState}
use Rattle.sweep_laws.specs.Step.{after, needs_of}
use Rattle.sweep_laws.specs.Tidy.{IsTidy, HasSpace}
use Rattle.sweep_laws.proofs.NeedsMet.{all_met, both, either_one, holder_is, none_there, not_true}
use Rattle.swept_set_laws.specs.Entered.{IsSettled}
use Rattle.span_laws.specs.declared.said.Said.{Said}
use Rattle.span_laws.specs.declared.said.Said.TheVariants.{Finds, Caches, Uncaches, UncachesStale, Fills, PopsEntry}
use Rattle.span_laws.specs.declared.said.SaidOf.{SaidOf}
use Rattle.span_laws.specs.declared.said.SaidOf.TheVariants.{Acquires, Releases, Takes, Pops, Places, Cuts}
use Rattle.span_laws.specs.declared.view.Span.{Span}
use Rattle.span_laws.specs.declared.view.View.{View}
use Rattle.span_laws.specs.Moves.{move_of, move_on}
use Rattle.span_laws.specs.Rule.{Rule}
use Rattle.span_laws.specs.Suits.{Suits, SuitsOf}
use Rattle.span_laws.specs.Views.{acts, hand_state}
use Rattle.span_laws.specs.OwnSteps.{told, told_of}
use Rattle.span_laws.proofs.LifeMoves.{release_keeps}
use Rattle.span_laws.proofs.Notes.{drop_keeps}
use Rattle.span_laws.proofs.Placing.{place_keeps}
use Rattle.span_laws.proofs.RuleKept.{RuleOf, own_hand}
use Rattle.span_laws.proofs.SetMoves.{entry_keeps, fill_keeps}
use Rattle.span_laws.proofs.WordMoves.{cache_keeps, stale_keeps, uncache_keeps}

module _ (c : CoreState) (heap : PageHeap) (homes : List (Option Body)) (n : ℕ) (v : View) (k : Rule c heap homes n v) where
  in_own : (f : HandState → List ℕ) (p : ℕ) → has p (f (hand_of c n)) ≡ true → has p (f (hand_state v.own)) ≡ true
  in_own f p h = sym (ap (λ (s : HandState). has p (f s)) (own_hand c heap homes n v k)) ∙ h

  unclaimed_own : not (is_some (hand_of c n).claimed) ≡ true → v.own.claimed ≡ None
  unclaimed_own h = none_there v.own.claimed (not_true (is_some v.own.claimed) (sym (ap (λ (s : HandState). not (is_some s.claimed)) (own_hand c heap homes n v k)) ∙ h))

  pub said_keeps : (s : Said) → Suits c v.own s → let c' = after c (move_of n s) in refusal (needs_of c (move_of n s)) ≡ None → Owned c' → IsTidy c' → HasSpace c' → RuleOf c' heap homes n (acts v (told s v.own)) k.known
  said_keeps (Finds p w) u a o t r = drop_keeps c heap homes n v k p w _ refl o t r
  said_keeps (Caches p) u a o t r = let m = all_met (cache_needs c n p) a in
      cache_keeps c heap homes n v k p (ltb-true p (length c.words) m.1.0) (in_own (λ s. s.held) p m.1.1.0) (unclaimed_own m.1.1.1.0) _ refl o t r
  said_keeps (Uncaches p) u a o t r = let m = all_met (uncache_needs c n p) a in
      uncache_keeps c heap homes n v k p (ltb-true p (length c.words) m.1.0) (in_own (λ s. s.cached) p m.1.1.0) (eqb-true _ _ m.1.1.1.0) _ refl o t r
  said_keeps (UncachesStale p) u a o t r = let m = all_met (stale_uncache_needs c n p) a in
      stale_keeps c heap homes n v k p (ltb-true p (length c.words) m.1.0) (in_own (λ s. s.cached) p m.1.1.0) (eqb-true _ _ m.1.1.1.0) _ refl o t r
  said_keeps (Fills set page) u a o t r = let d : Claimed = record { set = set; index = u.0; page = page } in
      let is : (hand_of c n).claimed ≡ Some d = ap (λ (s : HandState). s.claimed) (own_hand c heap homes n v k) ∙ u.1 in
      fill_keeps c heap homes n v k d u.1 _ (ap (λ (q : Option Claimed). after_fill_of q c n) is) o t r
  said_keeps (PopsEntry set page) u a o t r = let m = all_met (pop_unswept_needs c n set) a in
      entry_keeps c heap homes n v k set page u.2 (not_true _ m.1.1.0) (ltb-true _ _ m.1.1.1.0) u.0 u.1 _ refl o t r
  said_keeps _ u a o t r = absurd u

  pub of_keeps : (s : SaidOf) (b : Span) → SuitsOf c heap v s b → let c' = after c (move_on n s b) in refusal (needs_of c (move_on n s b)) ≡ None → Owned c' → IsTidy c' → HasSpace c' → RuleOf c' heap homes n (acts v (told_of s b v.own)) k.known
  of_keeps Releases b u a o t r = let m = all_met (release_needs c n b.page) a in
      release_keeps c heap homes n v k b (ltb-true b.page (length c.words) m.1.0) (in_own (λ s. s.sweeping) b.page m.1.1.0) u.0 u.1 _ refl o t r
  of_keeps (Places i) b u a o t r = let m = all_met (allocate_needs c n b.page i) a in
      place_keeps c heap homes n v k b u.0 i u.1 u.2 u.3 (ltb-true b.page (length c.words) m.1.0) (holder_is i (free_index c b.page) m.1.1.1.1.0) (settled m.1.1.1.0) u.4 u.5 _ refl o t r
    where
      settled : ((has b.page (hand_of c n).cached && eqb (get_or c.words b.page 0) (c.generation + 3)) || (has b.page (hand_of c n).held && (eqb (get_or c.words b.page 0) c.generation && eqb (life_of c b.page).count 1))) ≡ true
          → IsSettled c.generation (get_or c.words b.page 0)
      settled z =
          let cached : Bool = has b.page (hand_of c n).cached in let held : Bool = has b.page (hand_of c n).held in let fresh : Bool = eqb (get_or c.words b.page 0) (c.generation + 3) in
          let swept : Bool = eqb (get_or c.words b.page 0) c.generation in let one : Bool = eqb (life_of c b.page).count 1 in
          ⊎_elim (λ (y : (cached && fresh) ≡ true). inr (eqb-true (get_or c.words b.page 0) (c.generation + 3) (both cached fresh y).1))
          (λ (y : (held && (swept && one)) ≡ true). inl (eqb-true (get_or c.words b.page 0) c.generation (both swept one (both held (swept && one) y).1).0))
          (either_one (cached && fresh) (held && (swept && one)) z)
  of_keeps Acquires b u a o t r = absurd u
  of_keeps (Takes y) b u a o t r = absurd u
  of_keeps (Pops y) b u a o t r = absurd u
  of_keeps (Cuts left) b u a o t r = absurd u
