-- The moves keep what the swept sets name: the law over plain lists.
use Rattle.std.proofs.Common.{◌≡◌, ◌≢◌, ℕ, suc, ◌+◌, ◌<◌, ◌≤◌, ◌⊎◌, inl, inr, ⊎_elim, Bool, true, false, true≢false, List, [], ◌∷◌, length, get_or, set, sym, refl, ap, ◌∙◌, subst, arith, eq-eqb, ne_eqb}
use Rattle.std.specs.Prelude.{Option, Some, None}
use mathlib.Core.Logic.{dite}
use mathlib.Core.Option.{some, some-injective}
use lib.ListN.{get_elem?}
use native.Mathlib.Decide.{ℕ_discrete, dec_le}
use Rattle.sweep_laws.proofs.Claims.{claim_else}
use Rattle.sweep_laws.proofs.NeedsMet.{some_none}
use Rattle.sweep_laws.specs.declared.moves.Claimed.{Claimed}
use Rattle.sweep_laws.specs.State.{LifeState, SetState, HandState}
use Rattle.sweep_laws.specs.Reading.{cell_of, class_of_set, is_swept_set, life_in}
use Rattle.sweep_laws.specs.ChangesOfHands.{claim_cell}
use Rattle.sweep_laws.specs.ChangesOfSets.{raise_tail}
use Rattle.sweep_laws.specs.Counts.{one_if, times, total}
use Rattle.sweep_laws.specs.Named.{is_class, is_claim, claimers, queued, names_in, only, holders, cachers}
use Rattle.sweep_laws.specs.OwnedSets.{IsPage}
use Rattle.sweep_laws.specs.Standing.{tally, Kept}
use Rattle.sweep_laws.proofs.Totals.{part_le, part_from_le, two_parts_le}
use Rattle.sweep_laws.proofs.Naming.{at_set}
use Rattle.sweep_laws.proofs.Unpopped.{hit_between}
use Rattle.sweep_laws.proofs.Standings.{held_list}
use Rattle.worker_log.specs.declared.Entry.{Entry}
use Rattle.worker_log.specs.SetNumbers.{is_full_set}
use Rattle.worker_log.specs.Entries.{many, is_pop_of}
use Rattle.swept_set_laws.specs.Entered.{Entered, NamesPages, IsEntry, IsSettled, Knows, is_full_life, log_of}
use Rattle.swept_set_laws.specs.NamesGoOn.{put_name}
use Rattle.swept_set_laws.proofs.Pigeons.{pigeons}

module _ (g pages : ℕ) (ws : List ℕ) (ls : List LifeState) (ss : List SetState) (hs : List HandState) (logs : List (List Entry)) (names : ℕ → ℕ → ℕ)
    (e : Entered g pages ws ls ss hs logs names) where
  -- the pages of a swept set differ, so there are no more than pages
  pub tail_bound : (k : ℕ) (s : SetState) → get_elem? ss k ≡ some s → is_swept_set g k ≡ true → s.tail ≤ pages
  tail_bound k s at part = let m = e.sets_name k s at part in pigeons (names k) s.tail pages (λ i l. (m.entry i l).low) m.once

  -- where words and lives change
  module _ (ws' : List ℕ) (ls' : List LifeState) (stays : (q : ℕ) → q < pages → IsSettled g (get_or ws q 0) → 0 < length (life_in q ls).allocated
      → IsSettled g (get_or ws' q 0) × (life_in q ls' ≡ life_in q ls) × ((m : ℕ) → is_class q m ls' ≡ is_class q m ls)) where
    entry_stays : (k p : ℕ) → IsEntry g pages ws ls k p → IsEntry g pages ws' ls' k p
    entry_stays k p n = let t = stays p n.low n.word n.used in record {
      low = n.low;
      class = t.2 (class_of_set k) ∙ n.class;
      word = t.0;
      used = subst (λ (l : LifeState). 0 < length l.allocated) (sym t.1) n.used;
      full = λ f. ap is_full_life t.1 ∙ n.full f;
    }

    same_life : (k p : ℕ) → IsEntry g pages ws ls k p → life_in p ls' ≡ life_in p ls
    same_life k p n = (stays p n.low n.word n.used).1

    names_stay : (k : ℕ) (s : SetState) (f : ℕ → ℕ) → NamesPages g pages ws ls k s f → NamesPages g pages ws' ls' k s f
    names_stay k s f m = record {
      cell = m.cell;
      gone = m.gone;
      once = m.once;
      entry = λ i l. entry_stays k (f i) (m.entry i l);
      room = λ part i a b. ap is_full_life (same_life k (f i) (m.entry i b)) ∙ m.room part i a b;
    }

    -- one hand changes as well, and the logs by entries that are no pops of swept sets: Take, Give, Acquire, Release, Cache, Uncache, StaleUncache
    pub turned_enters : (n : ℕ) (h h' : HandState) (logs' : List (List Entry)) → get_elem? hs n ≡ some h → ((k : ℕ) (s : SetState) → get_elem? ss k ≡ some s → s.head ≤ s.tail) → h'.claimed ≡ h.claimed
        → ((q : ℕ) → q < pages → IsSettled g (get_or ws q 0) → 0 < length (life_in q ls).allocated → 0 < times q h'.held + times q h'.cached → 0 < times q h.held + times q h.cached)
        → ((m k q : ℕ) → is_swept_set g k ≡ true → many (is_pop_of k q) (log_of logs' m) ≡ many (is_pop_of k q) (log_of logs m))
        → Entered g pages ws' ls' ss (set hs n h') logs' names
    turned_enters n h h' logs' at order claims has pops = record {
      sets_name = λ k s a part. names_stay k s (names k) (e.sets_name k s a part);
      claim = λ m x a d c. ⊎_elim
          (λ (t : (m ≡ n) × (h' ≡ x)). e.claim n h at d (sym claims ∙ ap (λ (z : HandState). z.claimed) t.1 ∙ c))
          (λ (t : (m ≢ n) × (get_elem? hs m ≡ some x)). e.claim m x t.1 d c)
          (at_set hs n m h' x a);
      told = λ m x a k s b part p pop. let w = was m x a in e.told m w.0 w.1 k s b part p (let z = pops m k p part in omega arith);
      known = λ m x a k s b part i l held. let w = was m x a in let y = e.sets_name k s b part in let o = order k s b in let r = y.entry i (omega arith) in
          ⊎_elim (λ (z : 0 < many (is_pop_of k (names k i)) (log_of logs m)). inl (let v = pops m k (names k i) part in omega arith))
          (λ (z : (is_full_set k ≡ false) × (is_full_life (life_in (names k i) ls) ≡ true)). inr (z.0, ap is_full_life (same_life k (names k i) r) ∙ z.1))
          (e.known m w.0 w.1 k s b part i l (w.2 (names k i) r.low r.word r.used held));
    }
      where
        was : (m : ℕ) (x : HandState) → get_elem? (set hs n h') m ≡ some x → (y : HandState) × (get_elem? hs m ≡ some y)
            × ((q : ℕ) → q < pages → IsSettled g (get_or ws q 0) → 0 < length (life_in q ls).allocated → 0 < times q x.held + times q x.cached → 0 < times q y.held + times q y.cached)
        was m x a = ⊎_elim
            (λ (t : (m ≡ n) × (h' ≡ x)). let z : (y : HandState) × (get_elem? hs m ≡ some y) × ((q : ℕ) → q < pages → IsSettled g (get_or ws q 0) → 0 < length (life_in q ls).allocated → 0 < times q x.held + times q x.cached → 0 < times q y.held + times q y.cached) =
            (h, ap (get_elem? hs) t.0 ∙ at, λ q l w u v. has q l w u (subst (λ (y : HandState). 0 < times q y.held + times q y.cached) (sym t.1) v)) in z)
            (λ (t : (m ≢ n) × (get_elem? hs m ≡ some x)). (x, t.1, λ q l w u v. v))
            (at_set hs n m h' x a)

-- the hand that claims an index
abbrev pub ClaimedIn : ℕ → ℕ → List HandState → Type 0
ClaimedIn k i hs = (m : ℕ) × (x : HandState) × (d : Claimed) × (get_elem? hs m ≡ some x) × (x.claimed ≡ Some d) × (d.set ≡ k) × (d.index ≡ i)

claimed_later : (k i : ℕ) (x : HandState) (hs : List HandState) → ClaimedIn k i hs → ClaimedIn k i (x ∷ hs)
claimed_later k i x hs t = (suc t.0, t.1, t.2, t.3, t.4, t.5, t.6)

pub claimer_of : (k i : ℕ) (hs : List HandState) → 0 < claimers k i hs → ClaimedIn k i hs
claimer_of k i [] e = absurd (omega arith)
claimer_of k i (x ∷ hs) e = go (claimer_of k i hs) x.claimed refl
  where
    go : (0 < claimers k i hs → ClaimedIn k i hs) → (o : Option Claimed) → x.claimed ≡ o → ClaimedIn k i (x ∷ hs)
    go rest None c = claimed_later k i x hs (rest (let z = ap (λ (o : Option Claimed). one_if (is_claim k i o)) c in omega arith))
    go rest (Some d) c = dite (ℕ_discrete d.set k)
        (λ a. dite (ℕ_discrete d.index i)
        (λ b. (0, x, d, refl, c, a, b))
        (λ b. claimed_later k i x hs (rest (let z = ap (λ (o : Option Claimed). one_if (is_claim k i o)) c in let y = claim_else k i d (λ p q. b q) in omega arith))))
        (λ a. claimed_later k i x hs (rest (let z = ap (λ (o : Option Claimed). one_if (is_claim k i o)) c in let y = claim_else k i d (λ p q. a p) in omega arith)))

-- names with one more
pub name_here : (names : ℕ → ℕ → ℕ) (k t p : ℕ) → put_name names k t p k t ≡ p
name_here names k t p = rw (eq-eqb k k refl, eq-eqb t t refl) refl

pub name_else : (names : ℕ → ℕ → ℕ) (k t p j i : ℕ) → (j ≡ k → i ≢ t) → put_name names k t p j i ≡ names j i
name_else names k t p j i o = dite (ℕ_discrete j k)
    (λ e. rw (eq-eqb j k e, ne_eqb i t (o e)) refl)
    (λ d. rw (ne_eqb j k d) refl)

module _ (g : ℕ) (ws : List ℕ) (os : List (Option ℕ)) (ls : List LifeState) (ss : List SetState) (hs : List HandState) (kept : Kept g ws os ls ss hs) (logs : List (List Entry)) (names : ℕ → ℕ → ℕ)
    (e : Entered g (length ws) ws ls ss hs logs names) (n : ℕ) (h : HandState) (at : get_elem? hs n ≡ some h) where
  -- what an unpopped cell names is queued
  pub queued_by : (j : ℕ) (s : SetState) → get_elem? ss j ≡ some s → is_swept_set g j ≡ true → (i : ℕ) → s.head ≤ i → i < s.tail → (p : ℕ) → cell_of s i ≡ p + 1 → 0 < queued g p ss
  queued_by j s there part i a b p c =
      let hit = hit_between (cell_of s) (p + 1) s.head s.tail i a b c in
      let le = part_from_le (λ (k : ℕ) (z : SetState). only (is_swept_set g k) (names_in p z)) 0 ss j s there in
      let one : only (is_swept_set g (0 + j)) (names_in p s) ≡ names_in p s = subst (λ (z : ℕ). only (is_swept_set g z) (names_in p s) ≡ names_in p s) (let z : j ≡ 0 + j = omega arith in z) (ap (λ (b : Bool). only b (names_in p s)) part) in omega arith

  module _ (p : ℕ) (low : p < length ws) (has : 0 < times p h.held) (unclaimed : h.claimed ≡ None) where
    -- a page that a hand without a claim holds is named by popped cells alone
    pub held_popped : (j : ℕ) (s : SetState) → get_elem? ss j ≡ some s → is_swept_set g j ≡ true → (i : ℕ) → i < s.tail → names j i ≡ p → i < s.head
    held_popped j s there part i l is = dite (dec_le s.head i)
        (λ from. absurd (⊎_elim (blank from) (λ (c : cell_of s i ≡ names j i + 1). let q = queued_by j s there part i from l p (omega arith) in let x = alone in let x₂ = x.2 in let z : ⊥ = omega arith in z) ((e.sets_name j s there part).cell i l)))
        (λ near. omega arith)
      where
        alone : (get_or ws p 0 ≡ g) × (holders p hs ≡ 1) × (total (λ (y : HandState). times p y.sweeping) hs + cachers p hs + queued g p ss ≡ 0)
        alone = held_list g (tally g ws ls ss hs p) (kept.page p low).standing (let y = part_le (λ (y : HandState). times p y.held) hs n h at in omega arith)

        blank : s.head ≤ i → cell_of s i ≡ 0 → ⊥
        blank from c = ⊎_elim
            (λ (y : IsPage (length ws) (λ z. is_class z (class_of_set j) ls ≡ true) (cell_of s i)). let y₁ = y.1 in let z : ⊥ = omega arith in z)
            (λ (y : (cell_of s i ≡ 0) × (claimers j i hs ≡ 1)). by_claimer (claimer_of j i hs (let y₁ = y.1 in omega arith)))
            (kept.sets_fit.swept_cell j s there part i from l)
          where
            by_claimer : ClaimedIn j i hs → ⊥
            by_claimer t =
                let d = t.2 in let f = kept.sets_fit.claim t.0 t.1 t.3 d t.4 in
                let page : d.page ≡ p = sym (e.claim t.0 t.1 t.3 d t.4) ∙ ap (λ (z : ℕ). names z d.index) t.5 ∙ ap (names j) t.6 ∙ is in
                let own : 0 < times p t.1.held = subst (λ (z : ℕ). 0 < times z t.1.held) page f.held in
                dite (ℕ_discrete n t.0)
                (λ same. let x : h ≡ t.1 = some-injective h t.1 (sym at ∙ ap (get_elem? hs) same ∙ t.3) in some_none d (sym t.4 ∙ ap (λ (z : HandState). z.claimed) (sym x) ∙ unclaimed))
                (λ apart. let two = two_parts_le (λ (y : HandState). times p y.held) hs n t.0 h t.1 apart at t.3 in let x = alone in let x₁ = x.1 in let z : ⊥ = omega arith in z)

    -- Claim: one name more, at the tail
    module _ (j : ℕ) (s : SetState) (there : get_elem? ss j ≡ some s) (part : is_swept_set g j ≡ true) (class : is_class p (class_of_set j) ls ≡ true) (used : 0 < length (life_in p ls).allocated)
        (fullness : is_full_set j ≡ is_full_life (life_in p ls)) (unpopped : many (is_pop_of j p) (log_of logs n) ≡ 0) where
      -- no cell or claim of the set names the page yet
      fresh_name : (i : ℕ) → i < s.tail → names j i ≢ p
      fresh_name i l is = let gone = held_popped j s there part i l is in
          ⊎_elim (λ (z : 0 < many (is_pop_of j (names j i)) (log_of logs n)). let y : 0 < many (is_pop_of j p) (log_of logs n) = subst (λ (q : ℕ). 0 < many (is_pop_of j q) (log_of logs n)) is z in let u = unpopped in let v : ⊥ = omega arith in v)
          (λ (z : (is_full_set j ≡ false) × (is_full_life (life_in (names j i) ls) ≡ true)). true≢false (sym z.1 ∙ ap (λ (q : ℕ). is_full_life (life_in q ls)) is ∙ sym fullness ∙ z.0))
          (e.known n h at j s there part i gone (subst (λ (q : ℕ). 0 < times q h.held + times q h.cached) (sym is) (let x = has in omega arith)))

      -- so there are fewer than pages
      pub claim_room : s.tail < length ws
      claim_room = let b = pigeons (λ i. put_name names j s.tail p j i) (s.tail + 1) (length ws) lows onces in omega arith
        where
          old : (i : ℕ) → i < s.tail → put_name names j s.tail p j i ≡ names j i
          old i l = name_else names j s.tail p j i (λ _ z. omega arith)

          lows : (i : ℕ) → i < s.tail + 1 → put_name names j s.tail p j i < length ws
          lows i l = dite (ℕ_discrete i s.tail)
              (λ z. subst (λ (y : ℕ). put_name names j s.tail p j y < length ws) (sym z) (let y = name_here names j s.tail p in let x = low in omega arith))
              (λ z. let m : i < s.tail = omega arith in let y = old i m in let r = ((e.sets_name j s there part).entry i m).low in omega arith)

          onces : (i k : ℕ) → i < s.tail + 1 → k < s.tail + 1 → put_name names j s.tail p j i ≡ put_name names j s.tail p j k → i ≡ k
          onces i k a b z = dite (ℕ_discrete i s.tail)
              (λ x. dite (ℕ_discrete k s.tail) (λ y. omega arith)
              (λ y. let m : k < s.tail = omega arith in absurd (fresh_name k m (sym (old k m) ∙ sym z ∙ ap (put_name names j s.tail p j) x ∙ name_here names j s.tail p))))
              (λ x. let w : i < s.tail = omega arith in dite (ℕ_discrete k s.tail)
              (λ y. absurd (fresh_name i w (sym (old i w) ∙ z ∙ ap (put_name names j s.tail p j) y ∙ name_here names j s.tail p)))
              (λ y. let m : k < s.tail = omega arith in (e.sets_name j s there part).once i k w m (sym (old i w) ∙ z ∙ old k m)))

      pub claim_enters : Entered g (length ws) ws ls (set ss j (raise_tail s)) (set hs n (claim_cell j s.tail p h)) logs (put_name names j s.tail p)
      claim_enters = record {
        sets_name = λ k x a q. ⊎_elim
            (λ (t : (k ≡ j) × (raise_tail s ≡ x)). subst (λ (z : ℕ × SetState). NamesPages g (length ws) ws ls z.0 z.1 (put_name names j s.tail p z.0)) (λ i. (sym t.0 i, t.1 i)) here)
            (λ (t : (k ≢ j) × (get_elem? ss k ≡ some x)). other k x t.0 (e.sets_name k x t.1 q))
            (at_set ss j k (raise_tail s) x a);
        claim = λ m x a d c. ⊎_elim
            (λ (t : (m ≡ n) × (claim_cell j s.tail p h ≡ x)). let was : Some mine ≡ Some d = ap (λ (z : HandState). z.claimed) t.1 ∙ c in
            subst (λ (z : Claimed). put_name names j s.tail p z.set z.index ≡ z.page) (same_claim mine d was) (name_here names j s.tail p))
            (λ (t : (m ≢ n) × (get_elem? hs m ≡ some x)). let f = kept.sets_fit.claim m x t.1 d c in
            name_else names j s.tail p d.set d.index (λ y z. let w : f.set_at ≡ s = some-injective f.set_at s (sym f.is_set ∙ ap (get_elem? ss) y ∙ there) in
            let l : d.index < s.tail = subst (λ (v : SetState). d.index < v.tail) w f.below_tail in omega arith) ∙ e.claim m x t.1 d c)
            (at_set hs n m (claim_cell j s.tail p h) x a);
        told = λ m x a k y b q z pop. let w = was_hand m x a in let v = was_set k y b in let r = e.told m w.0 w.1 k v.0 v.1 q z pop in
            (r.0, (let u = r.1 in let t = v.2 in omega arith), v.3 r.0 (let u = r.1 in let o = kept.sets_fit.order k v.0 v.1 in omega arith) ∙ r.2);
        known = λ m x a k y b q i l. let w = was_hand m x a in let v = was_set k y b in
            let i' : i < v.0.head = (let t = v.2 in omega arith) in
            subst (λ (z : ℕ). Knows ls x (log_of logs m) k z) (sym (v.3 i (let o = kept.sets_fit.order k v.0 v.1 in omega arith)))
            (λ held. e.known m w.0 w.1 k v.0 v.1 q i i' (let o = w.2 (names k i) in omega arith));
      }
        where
          mine : Claimed
          mine = record { set = j; index = s.tail; page = p }

          same_claim : (a b : Claimed) → Some a ≡ Some b → a ≡ b
          same_claim a b e = cc

          old : (i : ℕ) → i < s.tail → put_name names j s.tail p j i ≡ names j i
          old i l = name_else names j s.tail p j i (λ _ z. omega arith)

          by_place : (P : ℕ → Type 0) (i : ℕ) → i < s.tail + 1 → P s.tail → ((m : ℕ) → m < s.tail → P m) → P i
          by_place P i l a b = dite (ℕ_discrete i s.tail) (λ z. subst P (sym z) a) (λ z. b i (omega arith))

          m₀ : NamesPages g (length ws) ws ls j s (names j)
          m₀ = e.sets_name j s there part

          settled : IsSettled g (get_or ws p 0)
          settled = inl (held_list g (tally g ws ls ss hs p) (kept.page p low).standing (let y = part_le (λ (y : HandState). times p y.held) hs n h at in omega arith)).0

          new_entry : IsEntry g (length ws) ws ls j p
          new_entry = record { low = low; class = class; word = settled; used = used; full = λ f. sym fullness ∙ f }

          onces : (i k : ℕ) → i < s.tail + 1 → k < s.tail + 1 → put_name names j s.tail p j i ≡ put_name names j s.tail p j k → i ≡ k
          onces i k a b z = dite (ℕ_discrete i s.tail)
              (λ x. dite (ℕ_discrete k s.tail) (λ y. omega arith)
              (λ y. let m : k < s.tail = omega arith in absurd (fresh_name k m (sym (old k m) ∙ sym z ∙ ap (put_name names j s.tail p j) x ∙ name_here names j s.tail p))))
              (λ x. let w : i < s.tail = omega arith in dite (ℕ_discrete k s.tail)
              (λ y. absurd (fresh_name i w (sym (old i w) ∙ z ∙ ap (put_name names j s.tail p j) y ∙ name_here names j s.tail p)))
              (λ y. let m : k < s.tail = omega arith in m₀.once i k w m (sym (old i w) ∙ z ∙ old k m)))

          here : NamesPages g (length ws) ws ls j (raise_tail s) (put_name names j s.tail p j)
          here = record {
            cell = λ i l. by_place (λ k. (cell_of s k ≡ 0) ⊎ (cell_of s k ≡ put_name names j s.tail p j k + 1)) i l (inl (kept.sets_fit.beyond j s there s.tail (omega arith)))
                (λ k m. ⊎_elim (λ (y : cell_of s k ≡ 0). inl y) (λ (y : cell_of s k ≡ names j k + 1). inr (y ∙ ap (λ (z : ℕ). z + 1) (sym (old k m)))) (m₀.cell k m));
            gone = m₀.gone;
            once = onces;
            entry = λ i l. by_place (λ k. IsEntry g (length ws) ws ls j (put_name names j s.tail p j k)) i l
                (subst (IsEntry g (length ws) ws ls j) (sym (name_here names j s.tail p)) new_entry)
                (λ k m. subst (IsEntry g (length ws) ws ls j) (sym (old k m)) (m₀.entry k m));
            room = λ f i from l. by_place (λ k. s.head ≤ k → is_full_life (life_in (put_name names j s.tail p j k) ls) ≡ false) i l
                (λ _. ap (λ (z : ℕ). is_full_life (life_in z ls)) (name_here names j s.tail p) ∙ sym fullness ∙ f)
                (λ k m v. ap (λ (z : ℕ). is_full_life (life_in z ls)) (old k m) ∙ m₀.room f k v m) from;
          }

          other : (k : ℕ) (x : SetState) → k ≢ j → NamesPages g (length ws) ws ls k x (names k) → NamesPages g (length ws) ws ls k x (put_name names j s.tail p k)
          other k x d m = record {
            cell = λ i l. ⊎_elim (λ (y : cell_of x i ≡ 0). inl y) (λ (y : cell_of x i ≡ names k i + 1). inr (y ∙ ap (λ (z : ℕ). z + 1) (sym (same i)))) (m.cell i l);
            gone = m.gone;
            once = λ a b l r z. m.once a b l r (sym (same a) ∙ z ∙ same b);
            entry = λ i l. subst (IsEntry g (length ws) ws ls k) (sym (same i)) (m.entry i l);
            room = λ f i from l. ap (λ (z : ℕ). is_full_life (life_in z ls)) (same i) ∙ m.room f i from l;
          }
            where
              same : (i : ℕ) → put_name names j s.tail p k i ≡ names k i
              same i = name_else names j s.tail p k i (λ y. absurd (d y))

          was_hand : (m : ℕ) (x : HandState) → get_elem? (set hs n (claim_cell j s.tail p h)) m ≡ some x → (y : HandState) × (get_elem? hs m ≡ some y) × ((q : ℕ) → times q x.held + times q x.cached ≡ times q y.held + times q y.cached)
          was_hand m x a = ⊎_elim
              (λ (t : (m ≡ n) × (claim_cell j s.tail p h ≡ x)). let z : (y : HandState) × (get_elem? hs m ≡ some y) × ((q : ℕ) → times q x.held + times q x.cached ≡ times q y.held + times q y.cached) =
              (h, ap (get_elem? hs) t.0 ∙ at, λ q. sym (ap (λ (y : HandState). times q y.held + times q y.cached) t.1)) in z)
              (λ (t : (m ≢ n) × (get_elem? hs m ≡ some x)). (x, t.1, λ q. refl))
              (at_set hs n m (claim_cell j s.tail p h) x a)

          was_set : (k : ℕ) (y : SetState) → get_elem? (set ss j (raise_tail s)) k ≡ some y → (x : SetState) × (get_elem? ss k ≡ some x) × (x.head ≡ y.head) × ((i : ℕ) → i < x.tail → put_name names j s.tail p k i ≡ names k i)
          was_set k y b = ⊎_elim
              (λ (t : (k ≡ j) × (raise_tail s ≡ y)). let z : (x : SetState) × (get_elem? ss k ≡ some x) × (x.head ≡ y.head) × ((i : ℕ) → i < x.tail → put_name names j s.tail p k i ≡ names k i) =
              (s, ap (get_elem? ss) t.0 ∙ there, ap (λ (w : SetState). w.head) t.1, λ i l. name_else names j s.tail p k i (λ _ v. omega arith)) in z)
              (λ (t : (k ≢ j) × (get_elem? ss k ≡ some y)). (y, t.1, refl, λ i l. name_else names j s.tail p k i (λ v. absurd (t.0 v))))
              (at_set ss j k (raise_tail s) y b)
