-- Each allowed move leaves a state with the rule tidy.
use Rattle.std.proofs.Common.{◌≡◌, ◌≢◌, ℕ, ◌+◌, ◌-◌, ◌<◌, ◌≤◌, ⊎_elim, true, List, [], ◌∷◌, ◌++◌, map, length, set, sym, refl, ◌∙◌, subst, arith, ltb, eq-eqb, ne_eqb, length-set}
use Rattle.std.specs.Prelude.{Option, None}
use Rattle.std.specs.List.{AllByRecursion}
use Rattle.std.proofs.lemmas.Bool.{ltb-true}
use mathlib.Core.Logic.{dite}
use mathlib.Core.Option.{some}
use lib.ListN.{get_elem?}
use native.Mathlib.Decide.{ℕ_discrete, dec_le}
use Rattle.sweep_laws.specs.declared.moves.Claimed.{Claimed}
use Rattle.sweep_laws.specs.declared.moves.Move.{Move}
use Rattle.sweep_laws.specs.declared.moves.Move.TheVariants.{Lock, Unlock, Take, Give, Acquire, Release, Cache, Allocate, Uncache, StaleUncache, Claim, Fill, PopSwept, PopUnswept, DropPopped, Pull, Cut, Drop, Next}
use Rattle.sweep_laws.specs.State.{LifeState, SetState, HandState, CoreState}
use Rattle.sweep_laws.specs.Lists.{erase}
use Rattle.sweep_laws.specs.Reading.{hand_of, set_of, cell_of, life_in, life_of, class_of_set, free_block}
use Rattle.sweep_laws.specs.NeedsOfRange.{refusal}
use Rattle.sweep_laws.specs.Needs.{allocate_needs, claim_needs, fill_needs, pop_swept_needs, pop_unswept_needs, pull_needs, cut_needs, drop_needs, next_needs}
use Rattle.sweep_laws.specs.ChangesOfHands.{hold, let_go, start_sweep, end_sweep, put_in_cache, take_from_cache, sweep_from_cache, claim_cell, fill_cell, pop_entry, drop_entry, pull_pages, cut_span, drop_pulled, forget_swept}
use Rattle.sweep_laws.specs.ChangesOfLives.{change_life, new_life, keep_marked, allocate_index, mark_life}
use Rattle.sweep_laws.specs.ChangesOfSets.{head_base}
use Rattle.sweep_laws.specs.Changes.{after_fill_of}
use Rattle.sweep_laws.specs.Step.{needs_of, after}
use Rattle.sweep_laws.specs.Counts.{times}
use Rattle.sweep_laws.specs.Named.{is_class, claimers}
use Rattle.sweep_laws.specs.OwnedLives.{EachAt}
use Rattle.sweep_laws.specs.OwnedSets.{IsPage}
use Rattle.sweep_laws.specs.Owned.{Owned}
use Rattle.sweep_laws.specs.Standing.{CoreKept}
use Rattle.sweep_laws.specs.Tidy.{NamesNever, IsTidyLife, IsTidy}
use Rattle.sweep_laws.proofs.Totals.{times_end, times_end_else, at_mapped}
use Rattle.sweep_laws.proofs.Naming.{times_erase_else, at_set}
use Rattle.sweep_laws.proofs.NeedsMet.{all_met, not_true, eqb-false, holder_is, some_there}
use Rattle.sweep_laws.proofs.LivesChange.{all_append, all_drop}
use Rattle.sweep_laws.proofs.MarkEnd.{all_index, all_mapped}
use Rattle.sweep_laws.proofs.PulledPages.{block_free, erased_le}
use Rattle.sweep_laws.proofs.MovesKept.{hand_at, set_at, base_is}
use Rattle.sweep_laws.proofs.MarksOnce.{marks_once}
use Rattle.sweep_laws.proofs.Forms.{kept_of}
use Rattle.sweep_laws.proofs.ListsShort.{free_unlisted}

-- a hand names no number from n on
abbrev Within : ℕ → HandState → Type 0
Within n h = (p : ℕ) → n ≤ p → NamesNever p h

-- no hand does
abbrev AllWithin : ℕ → List HandState → Type 0
AllWithin n hands = EachAt hands (λ _ h. Within n h)

hands_within : (n : ℕ) (hs : List HandState) (w : ℕ) (h : HandState) → AllWithin n hs → Within n h → AllWithin n (set hs w h)
hands_within n hs w h all here i x e = ⊎_elim
    (λ (t : (i ≡ w) × (h ≡ x)). subst (Within n) t.1 here)
    (λ (t : (i ≢ w) × (get_elem? hs i ≡ some x)). all i x t.1)
    (at_set hs w i h x e)

-- one hand, for a page below n
module _ (n page : ℕ) (low : page < n) (h : HandState) (all : Within n h) where
  added : (xs : List ℕ) (p : ℕ) → n ≤ p → times p xs ≡ 0 → times p (xs ++ page ∷ []) ≡ 0
  added xs p far z = times_end_else p page xs (λ e. omega arith) ∙ z

  erased : (xs : List ℕ) (p : ℕ) → n ≤ p → times p xs ≡ 0 → times p (erase page xs) ≡ 0
  erased xs p far z = times_erase_else p page xs (λ e. omega arith) ∙ z

  hold_within : Within n (hold page h)
  hold_within p far = let z = all p far in record { sweeping = z.sweeping; held = added h.held p far z.held; cached = z.cached; popped = z.popped; swept = z.swept; pulled = z.pulled }

  let_go_within : Within n (let_go page h)
  let_go_within p far = let z = all p far in record { sweeping = z.sweeping; held = erased h.held p far z.held; cached = z.cached; popped = z.popped; swept = z.swept; pulled = z.pulled }

  start_sweep_within : Within n (start_sweep page h)
  start_sweep_within p far = let z = all p far in record { sweeping = added h.sweeping p far z.sweeping; held = z.held; cached = z.cached; popped = erased h.popped p far z.popped; swept = z.swept; pulled = z.pulled }

  end_sweep_within : Within n (end_sweep page h)
  end_sweep_within p far = let z = all p far in record { sweeping = erased h.sweeping p far z.sweeping; held = added h.held p far z.held; cached = z.cached; popped = z.popped; swept = added h.swept p far z.swept; pulled = z.pulled }

  put_in_cache_within : Within n (put_in_cache page h)
  put_in_cache_within p far = let z = all p far in record { sweeping = z.sweeping; held = erased h.held p far z.held; cached = added h.cached p far z.cached; popped = z.popped; swept = z.swept; pulled = z.pulled }

  take_from_cache_within : Within n (take_from_cache page h)
  take_from_cache_within p far = let z = all p far in record { sweeping = z.sweeping; held = added h.held p far z.held; cached = erased h.cached p far z.cached; popped = z.popped; swept = z.swept; pulled = z.pulled }

  sweep_from_cache_within : Within n (sweep_from_cache page h)
  sweep_from_cache_within p far = let z = all p far in record { sweeping = added h.sweeping p far z.sweeping; held = z.held; cached = erased h.cached p far z.cached; popped = z.popped; swept = z.swept; pulled = z.pulled }

  fill_cell_within : Within n (fill_cell page h)
  fill_cell_within p far = let z = all p far in record { sweeping = z.sweeping; held = erased h.held p far z.held; cached = z.cached; popped = z.popped; swept = z.swept; pulled = z.pulled }

  pop_entry_within : Within n (pop_entry page h)
  pop_entry_within p far = let z = all p far in record { sweeping = z.sweeping; held = z.held; cached = z.cached; popped = added h.popped p far z.popped; swept = z.swept; pulled = z.pulled }

  drop_entry_within : Within n (drop_entry page h)
  drop_entry_within p far = let z = all p far in record { sweeping = z.sweeping; held = z.held; cached = z.cached; popped = erased h.popped p far z.popped; swept = z.swept; pulled = z.pulled }

  cut_span_within : (pages : ℕ) → Within n (cut_span page pages h)
  cut_span_within pages p far = let z = all p far in record {
    sweeping = z.sweeping;
    held = added h.held p far z.held;
    cached = z.cached;
    popped = z.popped;
    swept = z.swept;
    pulled = let a = erased_le p page pages h.pulled in let b = z.pulled in omega arith;
  }

pull_pages_within : (n : ℕ) (xs : List ℕ) (h : HandState) → ((p : ℕ) → n ≤ p → times p xs ≡ 0) → Within n h → Within n (pull_pages xs h)
pull_pages_within n xs h out all p far = let z = all p far in record { sweeping = z.sweeping; held = z.held; cached = z.cached; popped = z.popped; swept = z.swept; pulled = out p far }

claim_cell_within : (n s i page : ℕ) (h : HandState) → Within n h → Within n (claim_cell s i page h)
claim_cell_within n s i page h all p far = let z = all p far in record { sweeping = z.sweeping; held = z.held; cached = z.cached; popped = z.popped; swept = z.swept; pulled = z.pulled }

forget_within : (n : ℕ) (hs : List HandState) → AllWithin n hs → AllWithin n (map forget_swept hs)
forget_within n hs all i x e = let t = at_mapped forget_swept hs i x e in subst (Within n) t.2
    (λ p far. let z = all i t.0 t.1 p far in record { sweeping = z.sweeping; held = z.held; cached = z.cached; popped = z.popped; swept = refl; pulled = z.pulled })

-- the first life that begins at a page changes
all_changed : (P : LifeState → Type 0) (p : ℕ) (f : LifeState → LifeState) (ls : List LifeState) → (P (life_in p ls) → P (f (life_in p ls))) → AllByRecursion P ls → AllByRecursion P (change_life p f ls)
all_changed P p f [] fits all = tt
all_changed P p f (l ∷ ls) fits all = dite (ℕ_discrete l.page p)
    (λ e. let t = eq-eqb l.page p e in rw t (subst (λ (m : LifeState). P m → P (f m)) (rw t refl) fits all.0, all.1))
    (λ d. let t = ne_eqb l.page p d in rw t (all.0, all_changed P p f ls (subst (λ (m : LifeState). P m → P (f m)) (rw t refl) fits) all.1))

kept_tidy : (n : ℕ) (l : LifeState) → IsTidyLife n l → IsTidyLife n (keep_marked l)
kept_tidy n l t = record { page = t.page; allocated = t.kept; kept = t.kept }

allocated_tidy : (n i : ℕ) (l : LifeState) → times i l.allocated ≡ 0 → IsTidyLife n l → IsTidyLife n (allocate_index i l)
allocated_tidy n i l out t = record {
  page = t.page;
  allocated = λ j. dite (ℕ_discrete j i)
      (λ e. let a = times_end i l.allocated in subst (λ (x : ℕ). times x (l.allocated ++ i ∷ []) ≤ 1) (sym e) (omega arith))
      (λ d. let a = times_end_else j i l.allocated d in let b = t.allocated j in omega arith);
  kept = t.kept;
}

module _ (c : CoreState) (k : CoreKept c) (t : IsTidy c) where
  -- the hands and the lives afterwards, in a region of as many pages
  tidy_as : (d : CoreState) → length d.words ≡ length c.words → AllWithin (length c.words) d.hands → AllByRecursion (IsTidyLife (length c.words)) d.lives → IsTidy d
  tidy_as d e hands lives = record {
    hands = subst (λ (n : ℕ). AllWithin n d.hands) (sym e) hands;
    lives = subst (λ (n : ℕ). AllByRecursion (IsTidyLife n) d.lives) (sym e) lives;
  }

  one_hand : (w : ℕ) (h : HandState) → Within (length c.words) h → AllWithin (length c.words) (set c.hands w h)
  one_hand w h here = hands_within (length c.words) c.hands w h t.hands here

  before : (w : ℕ) → ltb w (length c.hands) ≡ true → Within (length c.words) (hand_of c w)
  before w low = t.hands w (hand_of c w) (hand_at c k w low)

  move_tidy : (move : Move) → refusal (needs_of c move) ≡ None → IsTidy (after c move)
  move_tidy (Lock w) e = record { hands = t.hands; lives = t.lives }
  move_tidy (Unlock w) e = record { hands = t.hands; lives = t.lives }
  move_tidy (Take w page pages count class) e = let m = all_met (needs_of c (Take w page pages count class)) e in let low = ltb-true page (length c.words) m.1.0 in
      tidy_as (after c (Take w page pages count class)) (length-set c.words page c.generation)
      (one_hand w (hold page (hand_of c w)) (hold_within (length c.words) page low (hand_of c w) (before w m.0)))
      (all_append (IsTidyLife (length c.words)) c.lives (new_life page pages count class) t.lives (record { page = low; allocated = λ i. omega arith; kept = λ i. omega arith }))
  move_tidy (Give w page) e = let m = all_met (needs_of c (Give w page)) e in let low = ltb-true page (length c.words) m.1.0 in
      tidy_as (after c (Give w page)) (length-set c.words page 0)
      (one_hand w (let_go page (hand_of c w)) (let_go_within (length c.words) page low (hand_of c w) (before w m.0)))
      (all_drop (IsTidyLife (length c.words)) page c.lives t.lives)
  move_tidy (Acquire w page) e = let m = all_met (needs_of c (Acquire w page)) e in let low = ltb-true page (length c.words) m.1.0 in
      tidy_as (after c (Acquire w page)) (length-set c.words page (c.generation - 1))
      (one_hand w (start_sweep page (hand_of c w)) (start_sweep_within (length c.words) page low (hand_of c w) (before w m.0))) t.lives
  move_tidy (Release w page) e = let m = all_met (needs_of c (Release w page)) e in let low = ltb-true page (length c.words) m.1.0 in
      tidy_as (after c (Release w page)) (length-set c.words page c.generation)
      (one_hand w (end_sweep page (hand_of c w)) (end_sweep_within (length c.words) page low (hand_of c w) (before w m.0)))
      (all_changed (IsTidyLife (length c.words)) page keep_marked c.lives (kept_tidy (length c.words) (life_in page c.lives)) t.lives)
  move_tidy (Cache w page) e = let m = all_met (needs_of c (Cache w page)) e in let low = ltb-true page (length c.words) m.1.0 in
      tidy_as (after c (Cache w page)) (length-set c.words page (c.generation + 3))
      (one_hand w (put_in_cache page (hand_of c w)) (put_in_cache_within (length c.words) page low (hand_of c w) (before w m.0))) t.lives
  move_tidy (Allocate w page i) e = let m = all_met (allocate_needs c w page i) e in let free = holder_is i _ m.1.1.1.1.0 in
      tidy_as (after c (Allocate w page i)) refl t.hands
      (all_changed (IsTidyLife (length c.words)) page (allocate_index i) c.lives
      (allocated_tidy (length c.words) i (life_in page c.lives) (free_unlisted (life_of c page).allocated _ i free)) t.lives)
  move_tidy (Uncache w page) e = let m = all_met (needs_of c (Uncache w page)) e in let low = ltb-true page (length c.words) m.1.0 in
      tidy_as (after c (Uncache w page)) (length-set c.words page c.generation)
      (one_hand w (take_from_cache page (hand_of c w)) (take_from_cache_within (length c.words) page low (hand_of c w) (before w m.0))) t.lives
  move_tidy (StaleUncache w page) e = let m = all_met (needs_of c (StaleUncache w page)) e in let low = ltb-true page (length c.words) m.1.0 in
      tidy_as (after c (StaleUncache w page)) (length-set c.words page (c.generation - 1))
      (one_hand w (sweep_from_cache page (hand_of c w)) (sweep_from_cache_within (length c.words) page low (hand_of c w) (before w m.0))) t.lives
  move_tidy (Claim w s page) e = let m = all_met (claim_needs c w s page) e in
      tidy_as (after c (Claim w s page)) refl
      (one_hand w (claim_cell s (set_of c s).tail page (hand_of c w)) (claim_cell_within (length c.words) s (set_of c s).tail page (hand_of c w) (before w m.0))) t.lives
  move_tidy (Fill w) e = let m = all_met (fill_needs c w) e in let claim = some_there (hand_of c w).claimed m.1.0 in
      let f = k.sets_fit.claim w (hand_of c w) (hand_at c k w m.0) claim.0 claim.1 in
      subst (λ (o : Option Claimed). IsTidy (after_fill_of o c w)) (sym claim.1)
      (tidy_as (after_fill_of (Rattle.std.specs.Prelude.Some claim.0) c w) refl
      (one_hand w (fill_cell claim.0.page (hand_of c w)) (fill_cell_within (length c.words) claim.0.page f.is_page (hand_of c w) (before w m.0))) t.lives)
  move_tidy (PopSwept w s) e = let m = all_met (pop_swept_needs c w s) e in let there = set_at c k s m.1.0 in let x : SetState = set_of c s in let more = ltb-true x.head x.tail m.1.1.1.0 in
      let base : head_base c s < length c.words = ⊎_elim
      (λ (i : IsPage (length c.words) (λ p. is_class p (class_of_set s) c.lives ≡ true) (cell_of x x.head)). subst (λ (p : ℕ). p < length c.words) (sym (base_is (length c.words) (cell_of x x.head) i.0 i.1 i.2)) i.2)
      (λ (i : (cell_of x x.head ≡ 0) × (claimers s x.head c.hands ≡ 1)). absurd (eqb-false _ _ (not_true _ m.1.1.1.1.0) i.0))
      (k.sets_fit.swept_cell s x there m.1.1.0 x.head (omega arith) more) in
      tidy_as (after c (PopSwept w s)) refl
      (one_hand w (hold (head_base c s) (hand_of c w)) (hold_within (length c.words) (head_base c s) base (hand_of c w) (before w m.0))) t.lives
  move_tidy (PopUnswept w s) e = let m = all_met (pop_unswept_needs c w s) e in let there = set_at c k s m.1.0 in let x : SetState = set_of c s in let more = ltb-true x.head x.tail m.1.1.1.0 in
      let i = k.sets_fit.unswept_cell s x there (not_true _ m.1.1.0) x.head (omega arith) more in
      let base : head_base c s < length c.words = subst (λ (p : ℕ). p < length c.words) (sym (base_is (length c.words) (cell_of x x.head) i.0 i.1 i.2)) i.2 in
      tidy_as (after c (PopUnswept w s)) refl
      (one_hand w (pop_entry (head_base c s) (hand_of c w)) (pop_entry_within (length c.words) (head_base c s) base (hand_of c w) (before w m.0))) t.lives
  move_tidy (DropPopped w page) e = let m = all_met (needs_of c (DropPopped w page)) e in let low = ltb-true page (length c.words) m.1.0 in
      tidy_as (after c (DropPopped w page)) refl
      (one_hand w (drop_entry page (hand_of c w)) (drop_entry_within (length c.words) page low (hand_of c w) (before w m.0))) t.lives
  move_tidy (Pull w) e = let m = all_met (pull_needs c w) e in let b = block_free c in
      tidy_as (after c (Pull w)) refl (one_hand w (pull_pages (free_block c) (hand_of c w)) (pull_pages_within (length c.words) (free_block c) (hand_of c w)
      (λ p far. dite (dec_le 1 (times p (free_block c))) (λ l. let f = (b.free p (omega arith)).0 in absurd (omega arith)) (λ l. omega arith)) (before w m.0))) t.lives
  move_tidy (Cut w page pages count class) e = let m = all_met (cut_needs c w page pages count class) e in let low = ltb-true page (length c.words) m.1.0 in
      tidy_as (after c (Cut w page pages count class)) (length-set c.words page c.generation)
      (one_hand w (cut_span page pages (hand_of c w)) (cut_span_within (length c.words) page low (hand_of c w) (before w m.0) pages))
      (all_append (IsTidyLife (length c.words)) c.lives (new_life page pages count class) t.lives (record { page = low; allocated = λ i. omega arith; kept = λ i. omega arith }))
  move_tidy (Drop w) e = let m = all_met (drop_needs c w) e in
      tidy_as (after c (Drop w)) refl (one_hand w (drop_pulled (hand_of c w)) (pull_pages_within (length c.words) [] (hand_of c w) (λ p far. refl) (before w m.0))) t.lives
  move_tidy (Next marks) e = let m = all_met (next_needs c marks) e in
      tidy_as (after c (Next marks)) refl (forget_within (length c.words) c.hands t.hands)
      (all_mapped (IsTidyLife (length c.words)) (mark_life marks) c.lives (λ n l at. let y = all_index (IsTidyLife (length c.words)) c.lives n l t.lives at in
      record { page = y.page; allocated = y.allocated; kept = marks_once marks m.0 l.page }))

-- each allowed move leaves a state with the rule tidy
pub stays_tidy : (c : CoreState) (move : Move) → refusal (needs_of c move) ≡ None → Owned c → IsTidy c → IsTidy (after c move)
stays_tidy c move e o t = move_tidy c (kept_of c o) t move e
