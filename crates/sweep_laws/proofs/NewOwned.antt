-- A new core has the rule.
use Rattle.std.proofs.Common.{◌≡◌, ℕ, zero, suc, ◌+◌, ◌<◌, ◌≤◌, inl, Bool, true, false, not, eq-eqb, List, [], ◌∷◌, map, length, get_or, sym, refl, ap, ◌∙◌, subst, arith}
use Rattle.std.specs.Prelude.{Option, None}
use Rattle.std.specs.List.{range_with_len}
use mathlib.Core.Option.{some}
use lib.ListN.{get_elem?}
use Rattle.sweep_laws.specs.State.{SetState, HandState, CoreState}
use Rattle.sweep_laws.specs.Reading.{cell_of, is_swept_set, no_set, no_hand}
use Rattle.sweep_laws.specs.Counts.{times, total, total_from}
use Rattle.sweep_laws.specs.Named.{only, names_in}
use Rattle.sweep_laws.specs.Owned.{Owned}
use Rattle.sweep_laws.specs.Start.{copies, new_state}
use Rattle.sweep_laws.specs.Standing.{tally, is_free, Page, Kept}
use Rattle.sweep_laws.proofs.Totals.{total_none, total_from-same, at_mapped}
use Rattle.sweep_laws.proofs.NeedsMet.{some_none}
use Rattle.sweep_laws.proofs.Forms.{owned_of}

get_copies : {A : Type 0} (a : A) (xs : List ℕ) (i : ℕ) → get_or (map (λ _. a) xs) i a ≡ a
get_copies a [] i = refl
get_copies a (x ∷ xs) zero = refl
get_copies a (x ∷ xs) (suc i) = get_copies a xs i

length_copies : {A : Type 0} (a : A) (xs : List ℕ) → length (map (λ _. a) xs) ≡ length xs
length_copies a [] = refl
length_copies a (x ∷ xs) = ap suc (length_copies a xs)

zeros : (k : ℕ) (ss : List SetState) → total_from (λ j s. 0) k ss ≡ 0
zeros k [] = refl
zeros k (s ∷ ss) = let t = zeros (k + 1) ss in omega arith

only_none : (b : Bool) → only b 0 ≡ 0
only_none true = refl
only_none false = refl

module _ (pages : ℕ) (ss : List SetState) (hs : List HandState) (each_set : (i : ℕ) (s : SetState) → get_elem? ss i ≡ some s → no_set ≡ s) (each_hand : (i : ℕ) (h : HandState) → get_elem? hs i ≡ some h → no_hand ≡ h) where
  none_of : (f : HandState → ℕ) → f no_hand ≡ 0 → total f hs ≡ 0
  none_of f z = total_none f hs (λ i h e. ap f (sym (each_hand i h e)) ∙ z)

  no_names : (f : ℕ → SetState → ℕ) → ((j : ℕ) → f j no_set ≡ 0) → total_from f 0 ss ≡ 0
  no_names f z = total_from-same f (λ j s. 0) 0 ss (λ i s e. ap (f (0 + i)) (sym (each_set i s e)) ∙ z (0 + i)) ∙ zeros 0 ss

  page_fits : (p : ℕ) → Page 4 (tally 4 (copies pages 0) [] ss hs p)
  page_fits p = let w = get_copies (let z : ℕ = 0 in z) (range_with_len 0 pages) p in
      let a = none_of (λ h. times p h.sweeping) refl in let b = none_of (λ h. times p h.held) refl in let c = none_of (λ h. times p h.cached) refl in
      let d = none_of (λ h. times p h.popped) refl in let e = none_of (λ h. times p h.swept) refl in
      let q = no_names (λ k s. only (is_swept_set 4 k) (names_in p s)) (λ j. only_none (is_swept_set 4 j)) in
      let u = no_names (λ k s. only (not (is_swept_set 4 k)) (names_in p s)) (λ j. only_none (not (is_swept_set 4 j))) in record {
        standing = is_free w (omega arith);
        waiting = omega arith;
        listed = omega arith;
        listed_word = λ l. inl w;
      }

  -- the rule of generation 4, free pages, no lives, and sets and hands with nothing in them
  pub new_kept : Kept 4 (copies pages 0) (copies pages None) [] ss hs
  new_kept = record {
    generation = record { even = refl; low = omega arith; high = omega arith };
    lives_fit = record {
      entries = length_copies None (range_with_len 0 pages) ∙ sym (length_copies (let z : ℕ = 0 in z) (range_with_len 0 pages));
      word = λ p low. inl (get_copies 0 (range_with_len 0 pages) p);
      begin = λ p low. sym (ap not (eq-eqb (get_or (copies pages 0) p 0) 0 (get_copies 0 (range_with_len 0 pages) p)));
      owner_is = λ p low. get_copies None (range_with_len 0 pages) p;
      apart = λ p. omega arith;
      whole = tt;
    };
    pulled = λ p. let z = none_of (λ h. times p h.pulled) refl in omega arith;
    page = λ p low. page_fits p;
    sets_fit = record {
      order = λ k s e. subst (λ (x : SetState). x.head ≤ x.tail) (each_set k s e) (omega arith);
      beyond = λ k s e. subst (λ (x : SetState). (i : ℕ) → x.tail ≤ i → cell_of x i ≡ 0) (each_set k s e) (λ i l. refl);
      unswept_cell = λ k s e u i l m. let same = each_set k s e in let a : i < no_set.tail = subst (λ (x : SetState). i < x.tail) (sym same) m in absurd (omega arith);
      swept_cell = λ k s e u i l m. let same = each_set k s e in let a : i < no_set.tail = subst (λ (x : SetState). i < x.tail) (sym same) m in absurd (omega arith);
      claim = λ n h e d f. absurd (some_none d (sym f ∙ ap (λ (x : HandState). x.claimed) (sym (each_hand n h e))));
    };
    objects = tt;
  }

pub each_mapped : {A : Type 0} (a : A) (xs : List ℕ) (i : ℕ) (b : A) → get_elem? (map (λ _. a) xs) i ≡ some b → a ≡ b
each_mapped a xs i b e = (at_mapped (λ _. a) xs i b e).2

-- a core of generation 4 with free pages, no lives and nothing in its sets and hands has the rule
pub new_owned : (pages : ℕ) (sets hands : List ℕ) (lock : Option ℕ) (room prepared : ℕ) → Owned record {
  generation = 4;
  words = copies pages 0;
  owners = copies pages None;
  lives = [];
  sets = map (λ _. no_set) sets;
  lock = lock;
  hands = map (λ _. no_hand) hands;
  room = room;
  prepared = prepared;
}
new_owned pages sets hands lock room prepared = owned_of _ (new_kept pages (map (λ _. no_set) sets) (map (λ _. no_hand) hands) (each_mapped no_set sets) (each_mapped no_hand hands))

pub owned_as : (new : CoreState) (pages workers : ℕ) → new ≡ new_state pages workers → Owned new
owned_as new pages workers e = subst Owned (sym e) (new_owned pages (range_with_len 0 544) (range_with_len 0 workers) None 0 0)
