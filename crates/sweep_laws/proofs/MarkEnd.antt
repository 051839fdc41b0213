-- Next keeps the rule.
use Rattle.std.proofs.Common.{◌≡◌, ◌≢◌, ℕ, zero, suc, ◌+◌, ◌/◌, ◌%◌, ◌^◌, ◌<◌, ◌≤◌, ◌⊎◌, inr, ⊎_elim, Bool, true, false, true≢false, not, eqb, eq-eqb, ne_eqb, List, [], ◌∷◌, map, length, get_or, sym, refl, ap, ◌∙◌, subst, arith}
use Rattle.std.specs.Prelude.{Option, None}
use Rattle.std.specs.List.{AllByRecursion}
use mathlib.Core.Logic.{dite}
use mathlib.Core.Option.{some, some-injective, some-ne-none}
use lib.ListN.{get_elem?}
use native.Mathlib.Decide.{ℕ_discrete, dec_le}
use Rattle.sweep_laws.specs.State.{LifeState, SetState, HandState}
use Rattle.sweep_laws.specs.Reading.{cell_of, class_of_set, is_swept_set}
use Rattle.sweep_laws.specs.ChangesOfHands.{forget_swept}
use Rattle.sweep_laws.specs.ChangesOfLives.{mark_life, marks_at}
use Rattle.sweep_laws.specs.ChangesOfSets.{empty_unswept}
use Rattle.sweep_laws.specs.Counts.{times, total_from}
use Rattle.sweep_laws.specs.Named.{claimers, only, names_in, queued, unswept, unswept_own, is_class}
use Rattle.sweep_laws.specs.OwnedLives.{ObjectsFit}
use Rattle.sweep_laws.specs.OwnedSets.{IsPage}
use Rattle.sweep_laws.specs.Standing.{tally, is_free, is_unswept, is_stale, Page, Kept}
use Rattle.sweep_laws.proofs.Totals.{total_none, total_mapped, total_from-same, at_mapped}
use Rattle.sweep_laws.proofs.Unpopped.{found_between}
use Rattle.sweep_laws.proofs.NeedsMet.{some_none}
use Rattle.sweep_laws.proofs.Lives.{mapped_alike, alike_covers, alike_owner, alike_begins, alike_class, alike_whole}
use Rattle.sweep_laws.proofs.Standings.{free_word, swept_word, cached_word}
use Rattle.sweep_laws.proofs.Claims.{no_claimers}

-- the parts of the sets change places
pub turns : (g j : ℕ) → is_swept_set (g + 2) j ≡ not (is_swept_set g j)
turns g j = let a : ℕ = j % 2 in let b : ℕ = g / 2 % 2 in let c : ℕ = (g + 2) / 2 % 2 in
    let e : (g + 2) / 2 ≡ g / 2 + 1 = omega arith in let s : b + c ≡ 1 = omega arith in let l : a < 2 = omega arith in
    dite (ℕ_discrete a b) (λ x. eqb_no a c (omega arith) ∙ ap not (sym (eq-eqb a b x))) (λ x. eq-eqb a c (omega arith) ∙ ap not (sym (ne_eqb a b x)))
  where
    eqb_no : (a c : ℕ) → a ≢ c → eqb a c ≡ false
    eqb_no a c o = ne_eqb a c o

-- a set after the mark end
abbrev pub emptied : ℕ → ℕ → SetState → SetState
emptied g j s = Rattle.std.specs.Prelude.if◌then◌else◌ (is_swept_set g j) s (record s { head = 0; tail = 0; cells = [] })

emptied_swept : (g j : ℕ) (s : SetState) → is_swept_set g j ≡ true → emptied g j s ≡ s
emptied_swept g j s e = rw e refl

emptied_unswept : (g j : ℕ) (s : SetState) → is_swept_set g j ≡ false → emptied g j s ≡ record s { head = 0; tail = 0; cells = [] }
emptied_unswept g j s e = rw e refl

total_emptied : (f : ℕ → SetState → ℕ) (g k : ℕ) (ss : List SetState) → total_from f k (empty_unswept g k ss) ≡ total_from (λ j s. f j (emptied g j s)) k ss
total_emptied f g k [] = refl
total_emptied f g k (s ∷ ss) = ap (λ (z : ℕ). f k (emptied g k s) + z) (total_emptied f g (k + 1) ss)

at_emptied_from : (g k : ℕ) (ss : List SetState) (j : ℕ) (x : SetState) → get_elem? (empty_unswept g k ss) j ≡ some x → (s : SetState) × (get_elem? ss j ≡ some s) × (emptied g (k + j) s ≡ x)
at_emptied_from g k [] j x e = absurd (some-ne-none x (sym e))
at_emptied_from g k (s ∷ ss) zero x e = (s, refl, subst (λ (z : ℕ). emptied g z s ≡ x) (let y : k ≡ k + 0 = omega arith in y) (some-injective (emptied g k s) x e))
at_emptied_from g k (s ∷ ss) (suc j) x e = let t = at_emptied_from g (k + 1) ss j x e in (t.0, t.1, subst (λ (z : ℕ). emptied g z t.0 ≡ x) (let y : k + 1 + j ≡ k + suc j = omega arith in y) t.2)

at_emptied : (g : ℕ) (ss : List SetState) (j : ℕ) (x : SetState) → get_elem? (empty_unswept g 0 ss) j ≡ some x → (s : SetState) × (get_elem? ss j ≡ some s) × (emptied g j s ≡ x)
at_emptied g ss j x e = let t = at_emptied_from g 0 ss j x e in (t.0, t.1, subst (λ (z : ℕ). emptied g z t.0 ≡ x) (let y : 0 + j ≡ j = omega arith in y) t.2)

-- all of a list by its items
pub all_index : (P : LifeState → Type 0) (ls : List LifeState) (n : ℕ) (l : LifeState) → AllByRecursion P ls → get_elem? ls n ≡ some l → P l
all_index P [] n l a e = absurd (some-ne-none l (sym e))
all_index P (x ∷ xs) zero l a e = subst P (some-injective x l e) a.0
all_index P (x ∷ xs) (suc n) l a e = all_index P xs n l a.1 e

pub all_mapped : (P : LifeState → Type 0) (f : LifeState → LifeState) (ls : List LifeState) → ((n : ℕ) (l : LifeState) → get_elem? ls n ≡ some l → P (f l)) → AllByRecursion P (map f ls)
all_mapped P f [] h = tt
all_mapped P f (x ∷ xs) h = (h 0 x refl, all_mapped P f xs (λ n l e. h (suc n) l e))

-- a list without items names nothing
none_named : (p : ℕ) (xs : List ℕ) → xs ≡ [] → times p xs ≡ 0
none_named p xs e = ap (times p) e

module _ (g : ℕ) (ws : List ℕ) (os : List (Option ℕ)) (ls : List LifeState) (ss : List SetState) (hs : List HandState) (k : Kept g ws os ls ss hs) (marks : List (ℕ × ℕ)) where
  pub next_keeps : g < 2 ^ 63
      → ((n : ℕ) (h : HandState) → get_elem? hs n ≡ some h → (h.sweeping ≡ []) × (h.held ≡ []) × (h.popped ≡ []) × (h.claimed ≡ None))
      → ((p : ℕ) → p < length ws → (get_or ws p 0 ≡ 0) ⊎ (get_or ws p 0 ≡ g) ⊎ (get_or ws p 0 ≡ g + 3))
      → ((n : ℕ) (l : LifeState) → get_elem? ls n ≡ some l → (i : ℕ) → 0 < times i (marks_at l.page marks) → 0 < times i l.allocated)
      → Kept (g + 2) ws os (map (mark_life marks) ls) (empty_unswept g 0 ss) (map forget_swept hs)
  next_keeps room idle settled marked = record {
    generation = record { even = let e = k.generation.even in omega arith; low = let l = k.generation.low in omega arith; high = let e = k.generation.even in omega arith };
    lives_fit = record {
      entries = k.lives_fit.entries;
      word = λ p low. Rattle.sweep_laws.proofs.Standings.standing_word (g + 2) (tally (g + 2) ws ls' ss' hs' p) (pages p low).standing;
      begin = λ p low. sym (alike_begins p ls ls' alike) ∙ k.lives_fit.begin p low;
      owner_is = λ p low. k.lives_fit.owner_is p low ∙ alike_owner p ls ls' alike;
      apart = λ p. subst (λ (z : ℕ). z ≤ 1) (alike_covers p ls ls' alike) (k.lives_fit.apart p);
      whole = alike_whole ls ls' alike k.lives_fit.whole;
    };
    pulled = λ p. let t = total_mapped forget_swept (λ (h : HandState). times p h.pulled) hs in let a = k.pulled p in let e = alike_covers p ls ls' alike in omega arith;
    page = pages;
    sets_fit = record {
      order = λ j x a. let t = at_emptied g ss j x a in subst (λ (z : SetState). z.head ≤ z.tail) t.2 (by_part (λ z. z.head ≤ z.tail) j t.0 (λ e. k.sets_fit.order j t.0 t.1) (λ e. omega arith));
      beyond = λ j x a. let t = at_emptied g ss j x a in subst (λ (z : SetState). (i : ℕ) → z.tail ≤ i → cell_of z i ≡ 0) t.2
          (by_part (λ z. (i : ℕ) → z.tail ≤ i → cell_of z i ≡ 0) j t.0 (λ e. k.sets_fit.beyond j t.0 t.1) (λ e i l. refl));
      unswept_cell = λ j x a u. let t = at_emptied g ss j x a in let is = was_swept j u in subst (λ (z : SetState). (i : ℕ) → z.head ≤ i → i < z.tail → IsPage (length ws) (λ p. Unit {0}) (cell_of z i)) t.2
          (subst (λ (z : SetState). (i : ℕ) → z.head ≤ i → i < z.tail → IsPage (length ws) (λ p. Unit {0}) (cell_of z i)) (sym (emptied_swept g j t.0 is))
          (λ i l m. ⊎_elim (λ (c : IsPage (length ws) (λ p. is_class p (class_of_set j) ls ≡ true) (cell_of t.0 i)). (c.0, c.1, c.2, tt))
          (λ (c : (cell_of t.0 i ≡ 0) × (claimers j i hs ≡ 1)). let z = unclaimed j i in let y = c.1 in absurd (omega arith))
          (k.sets_fit.swept_cell j t.0 t.1 is i l m)));
      swept_cell = λ j x a u. let t = at_emptied g ss j x a in let is = was_unswept j u in
          subst (λ (z : SetState). (i : ℕ) → z.head ≤ i → i < z.tail → IsPage (length ws) (λ p. is_class p (class_of_set j) ls' ≡ true) (cell_of z i) ⊎ ((cell_of z i ≡ 0) × (claimers j i hs' ≡ 1))) t.2
          (subst (λ (z : SetState). (i : ℕ) → z.head ≤ i → i < z.tail → IsPage (length ws) (λ p. is_class p (class_of_set j) ls' ≡ true) (cell_of z i) ⊎ ((cell_of z i ≡ 0) × (claimers j i hs' ≡ 1))) (sym (emptied_unswept g j t.0 is))
          (λ i l m. absurd (omega arith)));
      claim = λ n x a d e. let t = at_mapped forget_swept hs n x a in let i = idle n t.0 t.1 in absurd (some_none d (sym e ∙ ap (λ (z : HandState). z.claimed) (sym t.2) ∙ i.3));
    };
    objects = all_mapped ObjectsFit (mark_life marks) ls (λ n l at. let f = all_index ObjectsFit ls n l k.objects at in record { kept = marked n l at; allocated = f.allocated });
  }
    where
      ls' : List LifeState
      ls' = map (mark_life marks) ls

      ss' : List SetState
      ss' = empty_unswept g 0 ss

      hs' : List HandState
      hs' = map forget_swept hs

      alike : Rattle.sweep_laws.proofs.Lives.Alike ls (map (mark_life marks) ls)
      alike = mapped_alike (mark_life marks) (λ l. record { page = refl; pages = refl; class = refl }) ls

      not_false : (b : Bool) → not b ≡ false → b ≡ true
      not_false true e = refl
      not_false false e = absurd (true≢false e)

      not_true : (b : Bool) → not b ≡ true → b ≡ false
      not_true true e = absurd (true≢false (sym e))
      not_true false e = refl

      was_swept : (j : ℕ) → is_swept_set (g + 2) j ≡ false → is_swept_set g j ≡ true
      was_swept j e = not_false (is_swept_set g j) (sym (turns g j) ∙ e)

      was_unswept : (j : ℕ) → is_swept_set (g + 2) j ≡ true → is_swept_set g j ≡ false
      was_unswept j e = not_true (is_swept_set g j) (sym (turns g j) ∙ e)

      by_bool : (b : Bool) (P : Type 0) → (b ≡ true → P) → (b ≡ false → P) → P
      by_bool true P yes_case no_case = yes_case refl
      by_bool false P yes_case no_case = no_case refl

      by_part : (P : SetState → Type 0) (j : ℕ) (s : SetState) → (is_swept_set g j ≡ true → P s) → (is_swept_set g j ≡ false → P (record s { head = 0; tail = 0; cells = [] })) → P (emptied g j s)
      by_part P j s a b = by_bool (is_swept_set g j) (P (emptied g j s)) (λ e. subst P (sym (emptied_swept g j s e)) (a e)) (λ e. subst P (sym (emptied_unswept g j s e)) (b e))

      unclaimed : (j i : ℕ) → claimers j i hs ≡ 0
      unclaimed j i = no_claimers j i hs (λ m x a d e. let c = (idle m x a).3 in absurd (some_none d (sym e ∙ c)))

      no_queue : (p : ℕ) → queued (g + 2) p ss' ≡ 0
      no_queue p = total_emptied (λ j s. only (is_swept_set (g + 2) j) (names_in p s)) g 0 ss
          ∙ total_from-same (λ j s. only (is_swept_set (g + 2) j) (names_in p (emptied g j s))) (λ j s. 0) 0 ss
          (λ n s a. by_bool (is_swept_set g (0 + n)) (only (is_swept_set (g + 2) (0 + n)) (names_in p (emptied g (0 + n) s)) ≡ 0)
          (λ e. ap (λ (b : Bool). only b (names_in p (emptied g (0 + n) s))) (turns g (0 + n) ∙ ap not e))
          (λ e. (λ i. only ((turns g (0 + n) ∙ ap not e) i) (names_in p (emptied_unswept g (0 + n) s e i)))))
          ∙ zeros 0 ss
        where
          zeros : (k : ℕ) (ss : List SetState) → total_from (λ j s. 0) k ss ≡ 0
          zeros k [] = refl
          zeros k (s ∷ ss) = let t = zeros (k + 1) ss in omega arith

      same_unswept : (p : ℕ) → unswept (g + 2) p ss' ≡ queued g p ss
      same_unswept p = total_emptied (λ j s. only (not (is_swept_set (g + 2) j)) (names_in p s)) g 0 ss
          ∙ total_from-same (λ j s. only (not (is_swept_set (g + 2) j)) (names_in p (emptied g j s))) (λ j s. only (is_swept_set g j) (names_in p s)) 0 ss
          (λ n s a. one_set n s)
        where
          one_set : (n : ℕ) (s : SetState) → only (not (is_swept_set (g + 2) (0 + n))) (names_in p (emptied g (0 + n) s)) ≡ only (is_swept_set g (0 + n)) (names_in p s)
          one_set n s = by_bool (is_swept_set g (0 + n)) _
              (λ e. (λ i. only (not ((turns g (0 + n) ∙ ap not e) i)) (names_in p (emptied_swept g (0 + n) s e i))) ∙ ap (λ (b : Bool). only b (names_in p s)) (sym e))
              (λ e. ap (λ (b : Bool). only (not b) (names_in p (emptied g (0 + n) s))) (turns g (0 + n) ∙ ap not e) ∙ ap (λ (b : Bool). only b (names_in p s)) (sym e))

      same_own : (p : ℕ) → unswept_own (g + 2) p ls' ss' ≡ queued g p ss
      same_own p = total_emptied (λ j s. only (is_class p (class_of_set j) ls') (only (not (is_swept_set (g + 2) j)) (names_in p s))) g 0 ss
          ∙ total_from-same (λ j s. only (is_class p (class_of_set j) ls') (only (not (is_swept_set (g + 2) j)) (names_in p (emptied g j s)))) (λ j s. only (is_swept_set g j) (names_in p s)) 0 ss
          (λ n s a. subst (λ (z : ℕ). only (is_class p (class_of_set z) ls') (only (not (is_swept_set (g + 2) z)) (names_in p (emptied g z s))) ≡ only (is_swept_set g z) (names_in p s)) (let y : n ≡ 0 + n = omega arith in y) (one_set n s a))
        where
          only_none : (b : Bool) → only b 0 ≡ 0
          only_none true = refl
          only_none false = refl

          of_class : (n : ℕ) (s : SetState) → get_elem? ss n ≡ some s → is_swept_set g n ≡ true → 0 < names_in p s → is_class p (class_of_set n) ls ≡ true
          of_class n s a e some_cell = let f = found_between (cell_of s) (p + 1) s.head s.tail some_cell in ⊎_elim
              (λ (c : IsPage (length ws) (λ q. is_class q (class_of_set n) ls ≡ true) (cell_of s f.0)). subst (λ (z : ℕ). is_class z (class_of_set n) ls ≡ true) (let x = c.1 in let y = f.3 in let z : c.0 ≡ p = omega arith in z) c.3)
              (λ (c : (cell_of s f.0 ≡ 0) × (claimers n f.0 hs ≡ 1)). let x = c.0 in let y = f.3 in absurd (omega arith))
              (k.sets_fit.swept_cell n s a e f.0 f.1 f.2)

          one_set : (n : ℕ) (s : SetState) → get_elem? ss n ≡ some s → only (is_class p (class_of_set n) ls') (only (not (is_swept_set (g + 2) n)) (names_in p (emptied g n s))) ≡ only (is_swept_set g n) (names_in p s)
          one_set n s a = by_bool (is_swept_set g n) _
              (λ e. (λ i. only (is_class p (class_of_set n) ls') (only (not ((turns g n ∙ ap not e) i)) (names_in p (emptied_swept g n s e i))))
              ∙ dite (dec_le 1 (names_in p s))
              (λ l. ap (λ (b : Bool). only b (names_in p s)) (sym (alike_class p (class_of_set n) ls ls' alike) ∙ of_class n s a e l))
              (λ l. let z : names_in p s ≡ 0 = omega arith in ap (only (is_class p (class_of_set n) ls')) z ∙ only_none (is_class p (class_of_set n) ls') ∙ sym z)
              ∙ ap (λ (b : Bool). only b (names_in p s)) (sym e))
              (λ e. (λ i. only (is_class p (class_of_set n) ls') (only (not ((turns g n ∙ ap not e) i)) (names_in p (emptied g n s)))) ∙ only_none (is_class p (class_of_set n) ls') ∙ ap (λ (b : Bool). only b (names_in p s)) (sym e))

      pages : (p : ℕ) → p < length ws → Page (g + 2) (tally (g + 2) ws ls' ss' hs' p)
      pages p low = let old = k.generation.low in let r = k.page p low in let q = no_queue p in let u = same_unswept p in let o = same_own p in
          let s' = total_mapped forget_swept (λ (h : HandState). times p h.sweeping) hs in let s = total_none (λ (h : HandState). times p h.sweeping) hs (λ n h a. none_named p h.sweeping (idle n h a).0) in
          let h' = total_mapped forget_swept (λ (h : HandState). times p h.held) hs in let h = total_none (λ (h : HandState). times p h.held) hs (λ n x a. none_named p x.held (idle n x a).1) in
          let c' = total_mapped forget_swept (λ (h : HandState). times p h.cached) hs in
          let p' = total_mapped forget_swept (λ (h : HandState). times p h.popped) hs in let w = total_none (λ (h : HandState). times p h.popped) hs (λ n x a. none_named p x.popped (idle n x a).2) in
          let l' = total_mapped forget_swept (λ (h : HandState). times p h.swept) hs in let l = total_none (λ (h : HandState). 0) hs (λ n x a. refl) in
          ⊎_elim
          (λ (e : get_or ws p 0 ≡ 0). let f = free_word g (tally g ws ls ss hs p) old r.standing e in
          record { standing = is_free e (omega arith); waiting = omega arith; listed = omega arith; listed_word = λ x. absurd (omega arith) })
          (λ (y : (get_or ws p 0 ≡ g) ⊎ (get_or ws p 0 ≡ g + 3)). ⊎_elim
          (λ (e : get_or ws p 0 ≡ g). let f = swept_word g (tally g ws ls ss hs p) old r.standing e in let f₀ = f.0 in let f₁ = f.1 in
          record { standing = is_unswept (omega arith) (omega arith) (omega arith); waiting = omega arith; listed = omega arith; listed_word = λ x. absurd (omega arith) })
          (λ (e : get_or ws p 0 ≡ g + 3). let f = cached_word g (tally g ws ls ss hs p) old r.standing (inr e) in let f₀ = f.0 in let f₁ = f.1 in
          record { standing = is_stale (omega arith) (omega arith) (omega arith); waiting = omega arith; listed = omega arith; listed_word = λ x. absurd (omega arith) })
          y)
          (settled p low)
