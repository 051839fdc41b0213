-- Fill, PopSwept and Allocate keep what the swept sets name.
use Rattle.std.proofs.Common.{◌≡◌, ◌≢◌, ℕ, ◌+◌, ◌/◌, ◌%◌, ◌<◌, ◌≤◌, ◌⊎◌, inl, inr, ⊎_elim, Bool, true, false, true≢false, eqb, List, [], ◌∷◌, length, get_or, set, sym, refl, ap, ◌∙◌, subst, arith, eq-eqb, ne_eqb}
use Rattle.std.specs.Prelude.{Option, Some}
use mathlib.Core.Logic.{dite}
use mathlib.Core.Option.{some, some-injective}
use lib.ListN.{get_elem?}
use native.Mathlib.Decide.{ℕ_discrete}
use Rattle.sweep_laws.proofs.NeedsMet.{some_none, eqb-false}
use Rattle.std.proofs.lemmas.Bool.{eqb-true}
use Rattle.sweep_laws.specs.declared.moves.Claimed.{Claimed}
use Rattle.sweep_laws.specs.State.{LifeState, SetState, HandState}
use Rattle.sweep_laws.specs.Reading.{cell_of, class_of_set, is_swept_set, life_in}
use Rattle.sweep_laws.specs.ChangesOfHands.{hold, fill_cell}
use Rattle.sweep_laws.specs.ChangesOfSets.{raise_head, name_page}
use Rattle.sweep_laws.specs.Counts.{one_if, times}
use Rattle.sweep_laws.specs.Named.{is_class, holders, cachers}
use Rattle.sweep_laws.specs.OwnedSets.{ClaimFits}
use Rattle.sweep_laws.specs.Lists.{put_cell}
use Rattle.sweep_laws.specs.Standing.{tally, Kept}
use Rattle.sweep_laws.proofs.Totals.{times_end_else, part_le}
use Rattle.sweep_laws.proofs.Naming.{at_set}
use Rattle.sweep_laws.proofs.Unpopped.{put_cell_here, put_cell_else}
use Rattle.sweep_laws.proofs.Standings.{queued_list}
use Rattle.worker_log.specs.declared.Entry.{Entry}
use Rattle.worker_log.specs.declared.Entry.TheVariants.{Popped}
use Rattle.worker_log.specs.SetNumbers.{is_full_set}
use Rattle.worker_log.specs.Entries.{many, is_pop_of}
use Rattle.swept_set_laws.specs.Entered.{Entered, NamesPages, IsEntry, Knows, is_full_life, log_of}
use Rattle.swept_set_laws.proofs.EnteredKept.{queued_by}

module _ (g : ℕ) (ws : List ℕ) (os : List (Option ℕ)) (ls : List LifeState) (ss : List SetState) (hs : List HandState) (kept : Kept g ws os ls ss hs) (logs : List (List Entry)) (names : ℕ → ℕ → ℕ)
    (e : Entered g (length ws) ws ls ss hs logs names) (n : ℕ) (h : HandState) (at : get_elem? hs n ≡ some h) where
  -- Fill: the cell of a claim names what the claim did
  module _ (d : Claimed) (has : h.claimed ≡ Some d) (s : SetState) (there : get_elem? ss d.set ≡ some s) where
    pub fill_enters : Entered g (length ws) ws ls (set ss d.set (name_page d.index d.page s)) (set hs n (fill_cell d.page h)) logs names
    fill_enters = record {
      sets_name = λ k x a q. ⊎_elim
          (λ (t : (k ≡ d.set) × (name_page d.index d.page s ≡ x)). subst (λ (z : ℕ × SetState). NamesPages g (length ws) ws ls z.0 z.1 (names z.0)) (λ i. (sym t.0 i, t.1 i)) here)
          (λ (t : (k ≢ d.set) × (get_elem? ss k ≡ some x)). e.sets_name k x t.1 q)
          (at_set ss d.set k (name_page d.index d.page s) x a);
      claim = λ m x a f c. ⊎_elim
          (λ (t : (m ≡ n) × (fill_cell d.page h ≡ x)). absurd (some_none f (sym c ∙ ap (λ (z : HandState). z.claimed) (sym t.1))))
          (λ (t : (m ≢ n) × (get_elem? hs m ≡ some x)). e.claim m x t.1 f c)
          (at_set hs n m (fill_cell d.page h) x a);
      told = λ m x a k y b q z pop. let w = was_hand m x a in let v = was_set k y b in let r = e.told m w.0 w.1 k v.0 v.1 q z pop in
          (r.0, (let u = r.1 in let t = v.2 in omega arith), r.2);
      known = λ m x a k y b q i l. let w = was_hand m x a in let v = was_set k y b in
          λ held. e.known m w.0 w.1 k v.0 v.1 q i (let t = v.2 in omega arith) (let o = w.2 (names k i) in omega arith);
    }
      where
        fits : ClaimFits g (length ws) ls ss h d
        fits = kept.sets_fit.claim n h at d has

        same_set : fits.set_at ≡ s
        same_set = some-injective fits.set_at s (sym fits.is_set ∙ there)

        from_head : s.head ≤ d.index
        from_head = subst (λ (z : SetState). z.head ≤ d.index) same_set fits.from_head

        m₀ : NamesPages g (length ws) ws ls d.set s (names d.set)
        m₀ = e.sets_name d.set s there fits.is_swept

        here : NamesPages g (length ws) ws ls d.set (name_page d.index d.page s) (names d.set)
        here = record {
          cell = λ i l. dite (ℕ_discrete i d.index)
              (λ z. inr (ap (λ (y : ℕ). get_or (put_cell s.cells d.index (d.page + 1)) y 0) z ∙ put_cell_here s.cells d.index (d.page + 1) ∙ ap (λ (y : ℕ). y + 1) (sym (e.claim n h at d has) ∙ ap (names d.set) (sym z))))
              (λ z. subst (λ (y : ℕ). (y ≡ 0) ⊎ (y ≡ names d.set i + 1)) (sym (put_cell_else s.cells d.index i (d.page + 1) z)) (m₀.cell i l));
          gone = λ i l. subst (λ (y : ℕ). 0 < y) (sym (put_cell_else s.cells d.index i (d.page + 1) (λ z. let f = from_head in omega arith))) (m₀.gone i l);
          once = m₀.once;
          entry = m₀.entry;
          room = m₀.room;
        }

        was_hand : (m : ℕ) (x : HandState) → get_elem? (set hs n (fill_cell d.page h)) m ≡ some x → (y : HandState) × (get_elem? hs m ≡ some y) × ((q : ℕ) → times q x.held + times q x.cached ≤ times q y.held + times q y.cached)
        was_hand m x a = ⊎_elim
            (λ (t : (m ≡ n) × (fill_cell d.page h ≡ x)). let z : (y : HandState) × (get_elem? hs m ≡ some y) × ((q : ℕ) → times q x.held + times q x.cached ≤ times q y.held + times q y.cached) =
            (h, ap (get_elem? hs) t.0 ∙ at, λ q. subst (λ (y : HandState). times q y.held + times q y.cached ≤ times q h.held + times q h.cached) t.1 (let b = times_erase_le q h.held in omega arith)) in z)
            (λ (t : (m ≢ n) × (get_elem? hs m ≡ some x)). (x, t.1, λ q. omega arith))
            (at_set hs n m (fill_cell d.page h) x a)
          where
            times_erase_le : (q : ℕ) (xs : List ℕ) → times q (Rattle.sweep_laws.specs.Lists.erase d.page xs) ≤ times q xs
            times_erase_le q xs = dite (ℕ_discrete q d.page)
                (λ z. subst (λ (y : ℕ). times y (Rattle.sweep_laws.specs.Lists.erase d.page xs) ≤ times y xs) (sym z) (Rattle.sweep_laws.proofs.Naming.times_erase_le d.page xs))
                (λ z. let y = Rattle.sweep_laws.proofs.Naming.times_erase_else q d.page xs z in omega arith)

        was_set : (k : ℕ) (y : SetState) → get_elem? (set ss d.set (name_page d.index d.page s)) k ≡ some y → (x : SetState) × (get_elem? ss k ≡ some x) × (x.head ≡ y.head)
        was_set k y b = ⊎_elim
            (λ (t : (k ≡ d.set) × (name_page d.index d.page s ≡ y)). let z : (x : SetState) × (get_elem? ss k ≡ some x) × (x.head ≡ y.head) = (s, ap (get_elem? ss) t.0 ∙ there, ap (λ (w : SetState). w.head) t.1) in z)
            (λ (t : (k ≢ d.set) × (get_elem? ss k ≡ some y)). (y, t.1, refl))
            (at_set ss d.set k (name_page d.index d.page s) y b)

  -- PopSwept: the head rises, the worker holds the page, and its log has the pop
  module _ (j : ℕ) (s : SetState) (there : get_elem? ss j ≡ some s) (part : is_swept_set g j ≡ true) (more : s.head < s.tail) (p : ℕ) (low : p < length ws) (filled : cell_of s s.head ≡ p + 1)
      (logs' : List (List Entry)) (mine : (k q : ℕ) → many (is_pop_of k q) (log_of logs' n) ≡ many (is_pop_of k q) (log_of logs n) + one_if (is_pop_of k q (Popped j p)))
      (others : (m : ℕ) → m ≢ n → log_of logs' m ≡ log_of logs m) where
    named : names j s.head ≡ p
    named = ⊎_elim (λ (z : cell_of s s.head ≡ 0). absurd (omega arith)) (λ (z : cell_of s s.head ≡ names j s.head + 1). let y : names j s.head ≡ p = omega arith in y) ((e.sets_name j s there part).cell s.head more)

    -- before the pop nobody holds the page or has it cached
    nobodys : holders p hs + cachers p hs ≡ 0
    nobodys = let q = queued_by g ws os ls ss hs kept logs names e n h at j s there part s.head (omega arith) more p filled in
        let x = queued_list g (tally g ws ls ss hs p) (kept.page p low).standing q in let x₂ = x.2 in omega arith

    first : IsEntry g (length ws) ws ls j p
    first = subst (IsEntry g (length ws) ws ls j) named ((e.sets_name j s there part).entry s.head more)

    pop_told : (k q m : ℕ) → 0 < many (is_pop_of k q) (log_of logs' m) → (0 < many (is_pop_of k q) (log_of logs m)) ⊎ ((m ≡ n) × (k ≡ j) × (q ≡ p))
    pop_told k q m l = dite (ℕ_discrete m n)
        (λ z. dite (ℕ_discrete j k)
        (λ a. dite (ℕ_discrete p q) (λ b. inr (z, sym a, sym b))
        (λ b. inl (let y = subst (λ (w : ℕ). many (is_pop_of k q) (log_of logs' w) ≡ many (is_pop_of k q) (log_of logs w) + one_if (is_pop_of k q (Popped j p))) (sym z) (mine k q) in let w : one_if (is_pop_of k q (Popped j p)) ≡ 0 = rw (eq-eqb j k a, ne_eqb p q b) refl in omega arith)))
        (λ a. inl (let y = subst (λ (w : ℕ). many (is_pop_of k q) (log_of logs' w) ≡ many (is_pop_of k q) (log_of logs w) + one_if (is_pop_of k q (Popped j p))) (sym z) (mine k q) in let w : one_if (is_pop_of k q (Popped j p)) ≡ 0 = rw (ne_eqb j k a) refl in omega arith)))
        (λ z. inl (subst (λ (y : List Entry). 0 < many (is_pop_of k q) y) (others m z) l))

    pop_more : (k q m : ℕ) → 0 < many (is_pop_of k q) (log_of logs m) → 0 < many (is_pop_of k q) (log_of logs' m)
    pop_more k q m l = dite (ℕ_discrete m n)
        (λ z. let y = subst (λ (w : ℕ). many (is_pop_of k q) (log_of logs' w) ≡ many (is_pop_of k q) (log_of logs w) + one_if (is_pop_of k q (Popped j p))) (sym z) (mine k q) in omega arith)
        (λ z. subst (λ (y : List Entry). 0 < many (is_pop_of k q) y) (sym (others m z)) l)

    pop_mine : 0 < many (is_pop_of j p) (log_of logs' n)
    pop_mine = let y = mine j p in let w : one_if (is_pop_of j p (Popped j p)) ≡ 1 = rw (eq-eqb j j refl, eq-eqb p p refl) refl in omega arith

    -- a popped cell of another set names the page too: that set is a partial one, and the life is full
    both_sets : (k : ℕ) (x : SetState) → get_elem? ss k ≡ some x → is_swept_set g k ≡ true → k ≢ j → (i : ℕ) → i < x.tail → names k i ≡ p → (is_full_set k ≡ false) × (is_full_life (life_in p ls) ≡ true)
    both_sets k x b q d i l is =
        let r : IsEntry g (length ws) ws ls k p = subst (IsEntry g (length ws) ws ls k) is ((e.sets_name k x b q).entry i l) in
        let c : class_of_set k ≡ class_of_set j = one_class ls p (class_of_set k) (class_of_set j) r.class first.class in
        let t = eqb-true (k % 2) ((g / 2) % 2) q in let u = eqb-true (j % 2) ((g / 2) % 2) part in
        by_full (is_full_set j) refl (is_full_set k) refl r c t u
      where
        one_class : (l : List LifeState) (q a b : ℕ) → is_class q a l ≡ true → is_class q b l ≡ true → a ≡ b
        one_class [] q a b x y = absurd (true≢false (sym x))
        one_class (z ∷ l) q a b x y = dite (ℕ_discrete z.page q)
            (λ t. let o = eq-eqb z.page q t in let v : eqb z.class a ≡ true = rw o at x in let w : eqb z.class b ≡ true = rw o at y in sym (eqb-true z.class a v) ∙ eqb-true z.class b w)
            (λ t. let o = ne_eqb z.page q t in let v : is_class q a l ≡ true = rw o at x in let w : is_class q b l ≡ true = rw o at y in one_class l q a b v w)

        by_full : (f : Bool) → is_full_set j ≡ f → (f' : Bool) → is_full_set k ≡ f' → IsEntry g (length ws) ws ls k p → class_of_set k ≡ class_of_set j → k % 2 ≡ (g / 2) % 2 → j % 2 ≡ (g / 2) % 2 → (is_full_set k ≡ false) × (is_full_life (life_in p ls) ≡ true)
        by_full true a false b r c t u = (b, first.full a)
        by_full false a true b r c t u = absurd (true≢false (sym (r.full b) ∙ ap (λ (z : ℕ). is_full_life (life_in z ls)) (sym named) ∙ (e.sets_name j s there part).room a s.head (omega arith) more))
        by_full true a true b r c t u = let v = eqb-true ((j / 2) % 2) 1 a in let w = eqb-true ((k / 2) % 2) 1 b in absurd (d (omega arith))
        by_full false a false b r c t u = let v = eqb-false ((j / 2) % 2) 1 a in let w = eqb-false ((k / 2) % 2) 1 b in absurd (d (omega arith))

    pub pop_swept_enters : Entered g (length ws) ws ls (set ss j (raise_head s)) (set hs n (hold p h)) logs' names
    pop_swept_enters = record {
      sets_name = λ k x a q. ⊎_elim
          (λ (t : (k ≡ j) × (raise_head s ≡ x)). subst (λ (z : ℕ × SetState). NamesPages g (length ws) ws ls z.0 z.1 (names z.0)) (λ i. (sym t.0 i, t.1 i)) here)
          (λ (t : (k ≢ j) × (get_elem? ss k ≡ some x)). e.sets_name k x t.1 q)
          (at_set ss j k (raise_head s) x a);
      claim = λ m x a d c. ⊎_elim
          (λ (t : (m ≡ n) × (hold p h ≡ x)). e.claim n h at d (ap (λ (z : HandState). z.claimed) t.1 ∙ c))
          (λ (t : (m ≢ n) × (get_elem? hs m ≡ some x)). e.claim m x t.1 d c)
          (at_set hs n m (hold p h) x a);
      told = λ m x a k y b q z pop. ⊎_elim
          (λ (o : 0 < many (is_pop_of k z) (log_of logs m)). let w = was_hand m x a in let v = was_set k y b in let r = e.told m w.0 w.1 k v.0 v.1 q z o in (r.0, (let u = r.1 in let t = v.2 in omega arith), r.2))
          (λ (o : (m ≡ n) × (k ≡ j) × (z ≡ p)). ⊎_elim
          (λ (t : (k ≡ j) × (raise_head s ≡ y)). let r : (i : ℕ) × (i < y.head) × (names k i ≡ z) = (s.head, (let u = ap (λ (w : SetState). w.head) t.1 in omega arith), ap (λ (w : ℕ). names w s.head) t.0 ∙ named ∙ sym o.2) in r)
          (λ (t : (k ≢ j) × (get_elem? ss k ≡ some y)). absurd (t.0 o.1))
          (at_set ss j k (raise_head s) y b))
          (pop_told k z m pop);
      known = λ m x a k y b q i l held. ⊎_elim
          (λ (t : (k ≡ j) × (raise_head s ≡ y)). known_here m x a k t.0 i (let u = ap (λ (w : SetState). w.head) t.1 in omega arith) held)
          (λ (t : (k ≢ j) × (get_elem? ss k ≡ some y)). known_there m x a k y t.0 t.1 q i l held)
          (at_set ss j k (raise_head s) y b);
    }
      where
        m₀ : NamesPages g (length ws) ws ls j s (names j)
        m₀ = e.sets_name j s there part

        here : NamesPages g (length ws) ws ls j (raise_head s) (names j)
        here = record {
          cell = m₀.cell;
          gone = λ i l. dite (ℕ_discrete i s.head) (λ z. subst (λ (y : ℕ). 0 < cell_of s y) (sym z) (omega arith)) (λ z. m₀.gone i (omega arith));
          once = m₀.once;
          entry = m₀.entry;
          room = λ f i from l. m₀.room f i (omega arith) l;
        }

        was_hand : (m : ℕ) (x : HandState) → get_elem? (set hs n (hold p h)) m ≡ some x → (y : HandState) × (get_elem? hs m ≡ some y) × ((q : ℕ) → (m ≡ n → q ≢ p) → times q x.held + times q x.cached ≡ times q y.held + times q y.cached)
        was_hand m x a = ⊎_elim
            (λ (t : (m ≡ n) × (hold p h ≡ x)). let z : (y : HandState) × (get_elem? hs m ≡ some y) × ((q : ℕ) → (m ≡ n → q ≢ p) → times q x.held + times q x.cached ≡ times q y.held + times q y.cached) =
            (h, ap (get_elem? hs) t.0 ∙ at, λ q d. subst (λ (y : HandState). times q y.held + times q y.cached ≡ times q h.held + times q h.cached) t.1 (let b = times_end_else q p h.held (d t.0) in omega arith)) in z)
            (λ (t : (m ≢ n) × (get_elem? hs m ≡ some x)). (x, t.1, λ q d. refl))
            (at_set hs n m (hold p h) x a)

        was_set : (k : ℕ) (y : SetState) → get_elem? (set ss j (raise_head s)) k ≡ some y → (x : SetState) × (get_elem? ss k ≡ some x) × (x.head ≤ y.head)
        was_set k y b = ⊎_elim
            (λ (t : (k ≡ j) × (raise_head s ≡ y)). let z : (x : SetState) × (get_elem? ss k ≡ some x) × (x.head ≤ y.head) = (s, ap (get_elem? ss) t.0 ∙ there, (let u = ap (λ (w : SetState). w.head) t.1 in omega arith)) in z)
            (λ (t : (k ≢ j) × (get_elem? ss k ≡ some y)). (y, t.1, omega arith))
            (at_set ss j k (raise_head s) y b)

        -- who did not get the page knows what it knew
        still : (m : ℕ) (x : HandState) (a : get_elem? (set hs n (hold p h)) m ≡ some x) (k : ℕ) (y : SetState) → get_elem? ss k ≡ some y → is_swept_set g k ≡ true → (i : ℕ) → i < y.head → (m ≡ n → names k i ≢ p) → Knows ls x (log_of logs' m) k (names k i)
        still m x a k y b q i l d held = let w = was_hand m x a in ⊎_elim
            (λ (z : 0 < many (is_pop_of k (names k i)) (log_of logs m)). inl (pop_more k (names k i) m z))
            (λ (z : (is_full_set k ≡ false) × (is_full_life (life_in (names k i) ls) ≡ true)). inr z)
            (e.known m w.0 w.1 k y b q i l (let u = w.2 (names k i) d in omega arith))

        known_here : (m : ℕ) (x : HandState) → get_elem? (set hs n (hold p h)) m ≡ some x → (k : ℕ) → k ≡ j → (i : ℕ) → i < s.head + 1 → Knows ls x (log_of logs' m) k (names k i)
        known_here m x a k same i l = subst (λ (z : ℕ). Knows ls x (log_of logs' m) z (names z i)) (sym same)
            (dite (ℕ_discrete i s.head)
            (λ z. subst (λ (y : ℕ). Knows ls x (log_of logs' m) j y) (sym (ap (names j) z ∙ named))
            (λ held. dite (ℕ_discrete m n) (λ y. inl (subst (λ (w : ℕ). 0 < many (is_pop_of j p) (log_of logs' w)) (sym y) pop_mine))
            (λ y. let w = was_hand m x a in let u = w.2 p (λ v. absurd (y v)) in let b = part_le (λ (v : HandState). times p v.held) hs m w.0 w.1 in let c = part_le (λ (v : HandState). times p v.cached) hs m w.0 w.1 in let f = nobodys in absurd (omega arith))))
            (λ z. still m x a j s there part i (omega arith) (λ _ y. z (m₀.once i s.head (omega arith) more (y ∙ sym named)))))

        known_there : (m : ℕ) (x : HandState) → get_elem? (set hs n (hold p h)) m ≡ some x → (k : ℕ) (y : SetState) → k ≢ j → get_elem? ss k ≡ some y → is_swept_set g k ≡ true → (i : ℕ) → i < y.head → Knows ls x (log_of logs' m) k (names k i)
        known_there m x a k y d b q i l = dite (ℕ_discrete (names k i) p)
            (λ z. let o = kept.sets_fit.order k y b in let r = both_sets k y b q d i (omega arith) z in λ held. inr (r.0, ap (λ (w : ℕ). is_full_life (life_in w ls)) z ∙ r.1))
            (λ z. still m x a k y b q i l (λ _ w. z w))
