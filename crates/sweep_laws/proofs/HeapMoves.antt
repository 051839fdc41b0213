-- Take, Cut and Give keep the rule.
use Rattle.std.proofs.Common.{◌≡◌, ◌≢◌, ℕ, suc, ◌+◌, ◌<◌, ◌≤◌, ◌⊎◌, inl, inr, ⊎_elim, Bool, true, false, true≢false, not, eqb, ne_eqb, List, [], ◌∷◌, ◌++◌, length, set, get_or, sym, refl, ap, ◌∙◌, subst, arith, length-set, get_or-set_other, get_or-set_same}
use Rattle.std.specs.Prelude.{Option, Some, None}
use mathlib.Core.Logic.{dite}
use mathlib.Core.Option.{some}
use lib.ListN.{get_elem?}
use native.Mathlib.Decide.{ℕ_discrete, dec_le}
use Rattle.sweep_laws.specs.State.{LifeState, SetState, HandState}
use Rattle.sweep_laws.specs.Lists.{put_run, erase_run}
use Rattle.sweep_laws.specs.Reading.{cell_of, is_swept_set, life_in}
use Rattle.sweep_laws.specs.ChangesOfHands.{hold, let_go, cut_span}
use Rattle.sweep_laws.specs.ChangesOfLives.{new_life, drop_life}
use Rattle.sweep_laws.specs.Counts.{one_if, times}
use Rattle.sweep_laws.specs.Named.{is_covered, covers, owner, begins, pullers, only, names_in}
use Rattle.sweep_laws.specs.OwnedLives.{LivesFit, PulledApart, ObjectsFit}
use Rattle.sweep_laws.specs.Standing.{tally, is_free, is_swept, Page, Kept}
use Rattle.sweep_laws.proofs.Totals.{times_append, times_end, times_end_else, two_parts_le}
use Rattle.sweep_laws.proofs.Naming.{times_erase, times_erase_else}
use Rattle.sweep_laws.proofs.Unpopped.{hit_between}
use Rattle.sweep_laws.proofs.NeedsMet.{some_none}
use Rattle.sweep_laws.proofs.Standings.{free_word, held_list, standing_word}
use Rattle.sweep_laws.proofs.LivesChange.{is_in, is_below, is_above, uncovered_owner, unowned_covers, uncovered_begins, covers_append, owner_append_new, owner_append_else, begins_append_new, begins_append_else, class_append_else, class_append_kept, all_append, covers_drop, owner_drop, begins_drop, class_drop, all_drop, all_at, life_page, length_run, run_here, run_else}
use Rattle.sweep_laws.proofs.Deltas.{deltas, parts}
use Rattle.sweep_laws.proofs.Reset.{sets_part}
use Rattle.sweep_laws.proofs.PulledPages.{erased_else, erased_here}
use Rattle.sweep_laws.proofs.Turned.{total_kept, same_own, tally_else, sets_moved, pulled_as}

-- a word that no life begins at
unbegun : (w : ℕ) → not (eqb w 0) ≡ false → w ≡ 0
unbegun w e = dite (ℕ_discrete w 0) (λ z. z) (λ o. absurd (true≢false (sym (ap not (ne_eqb w 0 o)) ∙ e)))

owned_word : (w : ℕ) → 0 < w → not (eqb w 0) ≡ true
owned_word w l = ap not (ne_eqb w 0 (λ e. omega arith))

-- where a page is, seen from a run
outside : (q p n : ℕ) → ((p ≤ q) × (q < p + n)) ⊎ ((q < p) ⊎ (p + n ≤ q))
outside q p n = dite (dec_le p q) (λ a. dite (dec_le (suc q) (p + n)) (λ b. inl (a, b)) (λ b. inr (inr (omega arith)))) (λ a. inr (inl (omega arith)))

-- a page that no life covers has the word 0
pub free_uncovered : (g : ℕ) (ws : List ℕ) (os : List (Option ℕ)) (ls : List LifeState) → LivesFit g ws os ls → (p : ℕ) → p < length ws → covers p ls ≡ 0 → get_or ws p 0 ≡ 0
free_uncovered g ws os ls f p low e = unbegun (get_or ws p 0) (sym (f.begin p low) ∙ uncovered_begins p ls f.whole e)

-- so has one that has no owner
pub free_before : (g : ℕ) (ws : List ℕ) (os : List (Option ℕ)) (ls : List LifeState) → LivesFit g ws os ls → (p : ℕ) → p < length ws → get_or os p None ≡ None → get_or ws p 0 ≡ 0
free_before g ws os ls f p low e = free_uncovered g ws os ls f p low (unowned_covers p ls (sym (f.owner_is p low) ∙ e))

module _ (g : ℕ) (ws : List ℕ) (os : List (Option ℕ)) (ls : List LifeState) (ss : List SetState) (hs : List HandState) (k : Kept g ws os ls ss hs) (n : ℕ) (h : HandState) (at : get_elem? hs n ≡ some h) (p : ℕ) (low : p < length ws) where
  -- a life begins at pages that no life covers, and its hand keeps some pulled pages
  begun_keeps : (pages count class : ℕ) (rest : List ℕ) → p + pages ≤ length ws → 0 < pages → ((q : ℕ) → p ≤ q → q < p + pages → covers q ls ≡ 0)
      → PulledApart (ls ++ new_life p pages count class ∷ []) (set hs n (record (hold p h) { pulled = rest }))
      → Kept g (set ws p g) (put_run os p pages (Some p)) (ls ++ new_life p pages count class ∷ []) ss (set hs n (record (hold p h) { pulled = rest }))
  begun_keeps pages count class rest inside some_page free pulled = record {
    generation = k.generation;
    lives_fit = record {
      entries = length_run os p pages (Some p) ∙ k.lives_fit.entries ∙ sym (length-set ws p g);
      word = λ q l. standing_word g (tally g ws' ls' ss hs' q) (pages_fit q l).standing;
      begin = λ q l. dite (ℕ_discrete q p)
          (λ e. begins_append_new q ls m (sym e) ∙ sym (owned_word (get_or ws' q 0) (let z = ap (λ (x : ℕ). get_or ws' x 0) e ∙ here_word in let o = k.generation.low in omega arith)))
          (λ o. begins_append_else q ls m (λ e. o (sym e)) ∙ k.lives_fit.begin q (low_of q l) ∙ ap (λ (z : ℕ). not (eqb z 0)) (sym (get_or-set_other ws p q g 0 o)));
      owner_is = λ q l. ⊎_elim
          (λ (i : (p ≤ q) × (q < p + pages)). run_here os p pages q (Some p) None i.0 i.1 (let z = k.lives_fit.entries in let y = low_of q l in omega arith)
          ∙ sym (owner_append_new q ls m (uncovered_owner q ls (free q i.0 i.1)) (is_in q m i.0 i.1)))
          (λ (i : (q < p) ⊎ (p + pages ≤ q)). run_else os p pages q (Some p) None i ∙ k.lives_fit.owner_is q (low_of q l) ∙ sym (owner_append_else q ls m (not_in q i)))
          (outside q p pages);
      apart = λ q. ⊎_elim
          (λ (i : (p ≤ q) × (q < p + pages)). let a = covers_append q ls m in let b = free q i.0 i.1 in let c = ap one_if (is_in q m i.0 i.1) in omega arith)
          (λ (i : (q < p) ⊎ (p + pages ≤ q)). let a = covers_append q ls m in let b = k.lives_fit.apart q in let c = ap one_if (not_in q i) in omega arith)
          (outside q p pages);
      whole = all_append (λ l. 1 ≤ l.pages) ls m k.lives_fit.whole some_page;
    };
    pulled = pulled;
    page = pages_fit;
    sets_fit = sets_moved g ws os ls ss hs n h h' at (length ws) (length ws') ls' (sym (length-set ws p g)) refl
        (λ d e. let z = (k.sets_fit.claim n h at d e).held in let y = times_append d.page h.held (p ∷ []) in omega arith)
        (λ j x i a u l r c. class_append_kept c.0 _ ls m c.3)
        (λ j x a d e c. class_append_kept d.page _ ls m c.class) k.sets_fit;
    objects = all_append ObjectsFit ls m k.objects (record { kept = λ i e. absurd (omega arith); allocated = λ i e. absurd (omega arith) });
  }
    where
      m : LifeState
      m = new_life p pages count class

      h' : HandState
      h' = record (hold p h) { pulled = rest }

      ws' : List ℕ
      ws' = set ws p g

      ls' : List LifeState
      ls' = ls ++ m ∷ []

      hs' : List HandState
      hs' = set hs n h'

      here_word : get_or ws' p 0 ≡ g
      here_word = get_or-set_same ws p g 0 low

      low_of : (q : ℕ) → q < length ws' → q < length ws
      low_of q l = omega (arith, length-set ws p g)

      not_in : (q : ℕ) → (q < p) ⊎ (p + pages ≤ q) → is_covered q m ≡ false
      not_in q i = ⊎_elim (λ (z : q < p). is_below q m z) (λ (z : p + pages ≤ q). is_above q m z) i

      was_free : get_or ws p 0 ≡ 0
      was_free = free_uncovered g ws os ls k.lives_fit p low (free p (omega arith) (omega arith))

      here_page : Page g (tally g ws' ls' ss hs' p)
      here_page = let d = deltas hs n h h' at p in let r = k.page p low in let f = free_word g (tally g ws ls ss hs p) k.generation.low r.standing was_free in
          let a = times_end p h.held in let w = here_word in record {
            standing = is_swept w (omega arith) (omega arith);
            waiting = let z = r.waiting in omega arith;
            listed = let z = r.listed in omega arith;
            listed_word = λ l. inr (inl w);
          }

      pages_fit : (q : ℕ) → q < length ws' → Page g (tally g ws' ls' ss hs' q)
      pages_fit q l = dite (ℕ_discrete q p)
          (λ e. subst (λ (z : ℕ). Page g (tally g ws' ls' ss hs' z)) (sym e) here_page)
          (λ o. subst (Page g) (sym (tally_else g ws os ls ss hs n h h' at ws' ls' p q o (get_or-set_other ws p q g 0 o) (same_own g q ls ls' ss (λ j. class_append_else q j ls m (λ e. o (sym e))))
          record { sweeping = λ x y. refl; held = λ x y. times_end_else x p h.held y; cached = λ x y. refl; popped = λ x y. refl; swept = λ x y. refl })) (k.page q (low_of q l)))

  -- how many lives cover a page where one comes in
  begun_covers : (pages count class q : ℕ) → ((p ≤ q) × (q < p + pages) × (covers q (ls ++ new_life p pages count class ∷ []) ≡ covers q ls + 1)) ⊎ (((p ≤ q → q < p + pages → ⊥)) × (covers q (ls ++ new_life p pages count class ∷ []) ≡ covers q ls))
  begun_covers pages count class q = let m : LifeState = new_life p pages count class in let a = covers_append q ls m in ⊎_elim
      (λ (i : (p ≤ q) × (q < p + pages)). inl (i.0, i.1, (let c = ap one_if (is_in q m i.0 i.1) in omega arith)))
      (λ (i : (q < p) ⊎ (p + pages ≤ q)). inr (
        (λ x y. ⊎_elim (λ (z : q < p). let v : ⊥ = omega arith in v) (λ (z : p + pages ≤ q). let v : ⊥ = omega arith in v) i),
        (let c = ap one_if (⊎_elim (λ (z : q < p). is_below q m z) (λ (z : p + pages ≤ q). is_above q m z) i) in omega arith),
      ))
      (outside q p pages)

  pub take_keeps : (pages count class : ℕ) → p + pages ≤ length ws → 0 < pages → ((q : ℕ) → p ≤ q → q < p + pages → get_or os q None ≡ None) → ((q : ℕ) → p ≤ q → q < p + pages → pullers q hs ≡ 0)
      → Kept g (set ws p g) (put_run os p pages (Some p)) (ls ++ new_life p pages count class ∷ []) ss (set hs n (hold p h))
  take_keeps pages count class inside some_page free unpulled = begun_keeps pages count class h.pulled inside some_page uncovered
      (λ q. let t = total_kept (λ (x : HandState). times q x.pulled) hs n h (hold p h) at refl in let r = k.pulled q in ⊎_elim
      (λ (i : (p ≤ q) × (q < p + pages) × (covers q (ls ++ new_life p pages count class ∷ []) ≡ covers q ls + 1)). let a = uncovered q i.0 i.1 in let b = unpulled q i.0 i.1 in let c = i.2 in omega arith)
      (λ (i : (p ≤ q → q < p + pages → ⊥) × (covers q (ls ++ new_life p pages count class ∷ []) ≡ covers q ls)). let c = i.1 in omega arith)
      (begun_covers pages count class q))
    where
      uncovered : (q : ℕ) → p ≤ q → q < p + pages → covers q ls ≡ 0
      uncovered q a b = unowned_covers q ls (sym (k.lives_fit.owner_is q (omega arith)) ∙ free q a b)

  -- no life covers a page that a hand has pulled
  pub pulled_uncovered : (q : ℕ) → 0 < times q h.pulled → covers q ls ≡ 0
  pulled_uncovered q has = let a = (parts hs n h at q).pulled in let r = k.pulled q in omega arith

  pub cut_keeps : (pages count class : ℕ) → p + pages ≤ length ws → 0 < pages → ((q : ℕ) → p ≤ q → q < p + pages → 0 < times q h.pulled)
      → Kept g (set ws p g) (put_run os p pages (Some p)) (ls ++ new_life p pages count class ∷ []) ss (set hs n (cut_span p pages h))
  cut_keeps pages count class inside some_page mine = begun_keeps pages count class (erase_run p pages h.pulled) inside some_page (λ q a b. pulled_uncovered q (mine q a b))
      (λ q. let d = (deltas hs n h (cut_span p pages h) at q).pulled in let r = k.pulled q in let s = (parts hs n h at q).pulled in ⊎_elim
      (λ (i : (p ≤ q) × (q < p + pages) × (covers q (ls ++ new_life p pages count class ∷ []) ≡ covers q ls + 1)). let a = erased_here q p pages h.pulled i.0 i.1 (mine q i.0 i.1) in let c = i.2 in omega arith)
      (λ (i : (p ≤ q → q < p + pages → ⊥) × (covers q (ls ++ new_life p pages count class ∷ []) ≡ covers q ls)). let a = erased_else q p pages h.pulled i.0 in let c = i.1 in omega arith)
      (begun_covers pages count class q))

  pub give_keeps : 0 < times p h.held → h.claimed ≡ None → Kept g (set ws p 0) (put_run os p (life_in p ls).pages None) (drop_life p ls) ss (set hs n (let_go p h))
  give_keeps has unclaimed = record {
    generation = k.generation;
    lives_fit = record {
      entries = length_run os p m.pages None ∙ k.lives_fit.entries ∙ sym (length-set ws p 0);
      word = λ q l. standing_word g (tally g ws' ls' ss hs' q) (pages_fit q l).standing;
      begin = λ q l. dite (ℕ_discrete q p)
          (λ e. ap (λ (z : ℕ). begins z ls') e ∙ gone ∙ ap (λ (z : ℕ). not (eqb z 0)) (sym (ap (λ (z : ℕ). get_or ws' z 0) e ∙ here_word)))
          (λ o. begins_drop p q ls o ∙ k.lives_fit.begin q (low_of q l) ∙ ap (λ (z : ℕ). not (eqb z 0)) (sym (get_or-set_other ws p q 0 0 o)));
      owner_is = λ q l. ⊎_elim
          (λ (i : (p ≤ q) × (q < p + m.pages)). run_here os p m.pages q None None i.0 i.1 (let z = k.lives_fit.entries in let y = low_of q l in omega arith)
          ∙ sym (uncovered_owner q ls' (uncovered q (in_life q i.0 i.1))))
          (λ (i : (q < p) ⊎ (p + m.pages ≤ q)). run_else os p m.pages q None None i ∙ k.lives_fit.owner_is q (low_of q l) ∙ sym (owner_drop p q ls begun (not_in q i)))
          (outside q p m.pages);
      apart = λ q. let a = covers_drop p q ls begun in let b = k.lives_fit.apart q in omega arith;
      whole = all_drop (λ l. 1 ≤ l.pages) p ls k.lives_fit.whole;
    };
    pulled = pulled_as g ws os ls ss hs n h h' at ls' refl (λ q. let a = covers_drop p q ls begun in omega arith) k.pulled;
    page = pages_fit;
    sets_fit = sets_moved g ws os ls ss hs n h h' at (length ws) (length ws') ls' (sym (length-set ws p 0)) refl
        (λ d e. absurd (some_none d (sym e ∙ unclaimed)))
        (λ j x i a u l r c. class_drop p c.0 _ ls (λ e. unqueued j x i a u l r (c.1 ∙ ap (λ (z : ℕ). z + 1) e)) ∙ c.3)
        (λ j x a d e c. class_drop p d.page _ ls (unclaimed_page j x a d e c.held) ∙ c.class) k.sets_fit;
    objects = all_drop ObjectsFit p ls k.objects;
  }
    where
      m : LifeState
      m = life_in p ls

      h' : HandState
      h' = let_go p h

      ws' : List ℕ
      ws' = set ws p 0

      ls' : List LifeState
      ls' = drop_life p ls

      hs' : List HandState
      hs' = set hs n h'

      here_word : get_or ws' p 0 ≡ 0
      here_word = get_or-set_same ws p 0 0 low

      low_of : (q : ℕ) → q < length ws' → q < length ws
      low_of q l = omega (arith, length-set ws p 0)

      held_by_it : (get_or ws p 0 ≡ g) × (Rattle.sweep_laws.specs.Named.holders p hs ≡ 1) × (Rattle.sweep_laws.specs.Named.sweepers p hs + Rattle.sweep_laws.specs.Named.cachers p hs + Rattle.sweep_laws.specs.Named.queued g p ss ≡ 0)
      held_by_it = let i = parts hs n h at p in held_list g (tally g ws ls ss hs p) (k.page p low).standing (omega arith)

      begun : begins p ls ≡ true
      begun = k.lives_fit.begin p low ∙ owned_word (get_or ws p 0) (let z = held_by_it.0 in let o = k.generation.low in omega arith)

      at_page : m.page ≡ p
      at_page = life_page p ls begun

      some_pages : 1 ≤ m.pages
      some_pages = all_at (λ l. 1 ≤ l.pages) p ls k.lives_fit.whole begun

      in_life : (q : ℕ) → p ≤ q → q < p + m.pages → is_covered q m ≡ true
      in_life q a b = let e = at_page in is_in q m (omega arith) (omega arith)

      not_in : (q : ℕ) → (q < p) ⊎ (p + m.pages ≤ q) → is_covered q m ≡ false
      not_in q i = let e = at_page in ⊎_elim (λ (z : q < p). is_below q m (omega arith)) (λ (z : p + m.pages ≤ q). is_above q m (omega arith)) i

      uncovered : (q : ℕ) → is_covered q m ≡ true → covers q ls' ≡ 0
      uncovered q c = let a = covers_drop p q ls begun in let b = k.lives_fit.apart q in let o = ap one_if c in omega arith

      gone : begins p ls' ≡ false
      gone = uncovered_begins p ls' (all_drop (λ l. 1 ≤ l.pages) p ls k.lives_fit.whole) (uncovered p (in_life p (omega arith) (let z = some_pages in omega arith)))

      unqueued : (j : ℕ) (x : SetState) (i : ℕ) → get_elem? ss j ≡ some x → is_swept_set g j ≡ true → x.head ≤ i → i < x.tail → cell_of x i ≡ p + 1 → ⊥
      unqueued j x i a u l r e = let t = hit_between (cell_of x) (p + 1) x.head x.tail i l r e in
          let y = sets_part (λ z w. only (is_swept_set g z) (names_in p w)) ss j x a in
          let v = ap (λ (b : Bool). only b (names_in p x)) u in let f = held_by_it.2 in omega arith

      unclaimed_page : (j : ℕ) (x : HandState) → get_elem? hs j ≡ some x → (d : _) → x.claimed ≡ Some d → 0 < times d.page x.held → d.page ≢ p
      unclaimed_page j x a d e held same = dite (ℕ_discrete n j)
          (λ s. absurd (some_none d (sym e ∙ ap (λ (z : HandState). z.claimed) (mathlib.Core.Option.some-injective x h (sym a ∙ ap (get_elem? hs) (sym s) ∙ at)) ∙ unclaimed)))
          (λ o. let t = two_parts_le (λ (y : HandState). times p y.held) hs n j h x o at a in let f = held_by_it.1 in let z = ap (λ (y : ℕ). times y x.held) same in absurd (omega arith))

      here_page : Page g (tally g ws' ls' ss hs' p)
      here_page = let d = deltas hs n h h' at p in let r = k.page p low in let f = held_by_it in let f₁ = f.1 in let f₂ = f.2 in
          let a = times_erase p h.held has in let w = here_word in record {
            standing = is_free w (omega arith);
            waiting = let z = r.waiting in omega arith;
            listed = let z = r.listed in omega arith;
            listed_word = λ l. inl w;
          }

      pages_fit : (q : ℕ) → q < length ws' → Page g (tally g ws' ls' ss hs' q)
      pages_fit q l = dite (ℕ_discrete q p)
          (λ e. subst (λ (z : ℕ). Page g (tally g ws' ls' ss hs' z)) (sym e) here_page)
          (λ o. subst (Page g) (sym (tally_else g ws os ls ss hs n h h' at ws' ls' p q o (get_or-set_other ws p q 0 0 o) (same_own g q ls ls' ss (λ j. class_drop p q j ls o))
          record { sweeping = λ x y. refl; held = λ x y. times_erase_else x p h.held y; cached = λ x y. refl; popped = λ x y. refl; swept = λ x y. refl })) (k.page q (low_of q l)))
