-- A cache serves its worker, and goes on to serve it as one of its spans changes.
use Rattle.std.proofs.Common.{◌≡◌, ◌≢◌, ℕ, zero, suc, map, get_or, ◌+◌, ◌<◌, ◌≤◌, true, false, true≢false, List, [], ◌∷◌, ◌++◌, length, ◌⊎◌, inr, refl, ap, sym, subst, ◌∙◌, arith, inl, eq-eqb, ne_eqb}
use Rattle.std.specs.List.{range_with_len}
use Rattle.std.specs.Prelude.{None, Some, Option, ◌==◌, if◌then◌else◌}
use mathlib.Core.Logic.{dite}
use native.Mathlib.Decide.{ℕ_discrete}
use Rattle.sweep_laws.specs.Counts.{times}
use Rattle.sweep_laws.specs.Lists.{erase, has}
use Rattle.sweep_laws.specs.Start.{copies}
use Rattle.sweep_laws.proofs.Naming.{has_times, times_erase, times_erase_else, times_erase_le, times_has}
use Rattle.sweep_laws.proofs.Totals.{times_end, times_end_else}
use Rattle.profile_cycle.specs.Sampling.{Countdown}
use Rattle.span_state.specs.declared.body.Body.{Body}
use Rattle.worker_log.specs.declared.Entry.{Entry}
use Rattle.worker_log.specs.SetNumbers.{swept_set}
use Rattle.worker_log.specs.Entries.{is_pop_of, many}
use Rattle.worker_log.proofs.Logs.{many-append}
use Rattle.span_laws.specs.Asks.{HasBody, MayPlace}
use Rattle.span_laws.specs.Views.{span_at, span_of}
use Rattle.span_laws.specs.OwnSteps.{told_of}
use Rattle.span_laws.specs.MarkEnds.{rested}
use Rattle.span_laws.specs.declared.said.SaidOf.TheVariants.{Places}
use Rattle.span_laws.specs.declared.view.Part.{Part}
use Rattle.span_laws.specs.declared.view.Span.{Span}
use Rattle.span_laws.proofs.Parts.{has_end_else, has_end_here, has_erase_else, has_none}
use Rattle.span_laws.proofs.WordMoves.{span_else, span_here}
use Rattle.proc_cache.specs.Cache.{Cache, slot_at, with_slot}
use Rattle.proc_cache.specs.Hits.{IsPlacedIn}
use Rattle.proc_cache.specs.Serves.{IsCachedAt, IsUsedCache, Serves}
use Rattle.proc_cache.proofs.Slots.{slot_else, slot_here, slot_low}

pub same_some : {A : Type 0} (a b : A) → Some a ≡ Some b → a ≡ b
same_some a b e = cc

module _ (g : ℕ) (h : Part) (c : Cache) (v : Serves g h c) where
  -- two slots have no span of one page
  pub one_slot : (j k : ℕ) (s t : Span) → slot_at c j ≡ Some s → slot_at c k ≡ Some t → s.page ≡ t.page → j ≡ k
  one_slot j k s t a b e =
      let x = v.slots j s a in let y = v.slots k t b in
      let same : s ≡ t = same_some s t (sym x.lent ∙ ap (λ (p : ℕ). span_at p h.spans) e ∙ y.lent) in
      sym x.class ∙ ap (λ (u : Span). u.class) same ∙ y.class

  -- objects may be placed in a cached span
  pub may_place : h.held ≡ [] → c.flushed ≡ g → (k : ℕ) (b : Body) → slot_at c k ≡ Some (span_of b) → HasBody h b × MayPlace h b
  may_place none f k b at = let x = v.slots k (span_of b) at in (
    x.lent,
    inl (
      x.cached,
      v.fresh b.page x.cached ∙ eq-eqb c.flushed g f,
      λ q s hq lent same.
          let a = v.all q hq in let t = a.1 in let y = v.slots a.0 t a.2 in
          let is : t ≡ s = same_some t s (sym y.lent ∙ ap (λ (p : ℕ). span_at p h.spans) a.3 ∙ lent) in
          let e : a.0 ≡ k = sym y.class ∙ ap (λ (u : Span). u.class) is ∙ same ∙ x.class in
          sym a.3 ∙ ap (λ (u : Span). u.page) (same_some t (span_of b) (sym a.2 ∙ ap (slot_at c) e ∙ at)),
      λ q hq placed. absurd (true≢false (sym hq ∙ ap (has q) none)),
    ),
  )

  module _ (k index : ℕ) (s t : Span) (at : slot_at c k ≡ Some s) (is : IsPlacedIn index s t) where
    placed : Part
    placed = told_of (Places index) t h

    pub serves_placed : Serves g (told_of (Places index) t h) (with_slot k (Some t) c)
    serves_placed = record {
      slots = λ j u e. dite (ℕ_discrete j k)
          (λ q. here j u q (same_some t u (sym (slot_here c k (Some t) (slot_low c k s at)) ∙ ap (slot_at (with_slot k (Some t) c)) (sym q) ∙ e)))
          (λ d. there j u d (sym (slot_else c k j (Some t) d) ∙ e));
      all = λ p hp. let a = v.all p hp in dite (ℕ_discrete a.0 k)
          (λ q. (k, t, slot_here c k (Some t) (slot_low c k s at), is.page ∙ ap (λ (u : Span). u.page) (same_some s a.1 (sym at ∙ ap (slot_at c) (sym q) ∙ a.2)) ∙ a.3))
          (λ d. (a.0, a.1, slot_else c k a.0 (Some t) d ∙ a.2, a.3));
      once = v.once;
      fresh = v.fresh;
      early = v.early;
    }
      where
        old : IsCachedAt g h k s
        old = v.slots k s at

        here : (j : ℕ) (u : Span) → j ≡ k → t ≡ u → IsCachedAt g (told_of (Places index) t h) j u
        here j u q e = subst (λ (i : ℕ). IsCachedAt g (told_of (Places index) t h) i u) (sym q) (subst (IsCachedAt g (told_of (Places index) t h) k) e (record {
          cached = ap (λ (p : ℕ). has p h.cached) is.page ∙ old.cached;
          lent = span_here t h.spans;
          class = is.class ∙ old.class;
          unpopped = subst (λ (p : ℕ). many (is_pop_of (swept_set g k 1) p) (told_of (Places index) t h).log ≡ 0) (sym is.page) (let z = old.unpopped in omega arith);
        }))

        there : (j : ℕ) (u : Span) → j ≢ k → slot_at c j ≡ Some u → IsCachedAt g (told_of (Places index) t h) j u
        there j u d e = let x = v.slots j u e in record {
          cached = x.cached;
          lent = span_else t h.spans u.page (λ q. d (one_slot j k u s e at (q ∙ is.page))) ∙ x.lent;
          class = x.class;
          unpopped = let z = x.unpopped in omega arith;
        }

  -- a span leaves the cache, and nothing is popped meanwhile
  module _ (k : ℕ) (s : Span) (at : slot_at c k ≡ Some s) (h' : Part) (d : Cache) (said : List Entry) (log : h'.log ≡ said ++ h.log) (cached : h'.cached ≡ erase s.page h.cached) (fresh : (q : ℕ) → q ≢ s.page → has q h'.fresh ≡ has q h.fresh)
      (bodies : (q : ℕ) → q ≢ s.page → span_at q h'.spans ≡ span_at q h.spans) (unpopped : (j p : ℕ) → many (is_pop_of j p) said ≡ 0)
      (same : d.flushed ≡ c.flushed) (slots : (j : ℕ) → slot_at d j ≡ (if j == k then None else slot_at c j)) where
    gone : has s.page h'.cached ≡ false
    gone = has_none s.page h'.cached (let t = v.once s.page in let e = times_erase s.page h.cached (has_times s.page h.cached (v.slots k s at).cached) in
        subst (λ (l : List ℕ). times s.page l ≡ 0) (sym cached) (omega arith))

    other : (p : ℕ) → has p h'.cached ≡ true → (p ≢ s.page) × (has p h.cached ≡ true)
    other p hp =
        let d : p ≢ s.page = λ (e : p ≡ s.page). true≢false (sym hp ∙ ap (λ (q : ℕ). has q h'.cached) e ∙ gone) in
        (d, sym (has_erase_else p s.page h.cached d) ∙ ap (has p) (sym cached) ∙ hp)

    left : (j : ℕ) → j ≢ k → slot_at d j ≡ slot_at c j
    left j d = slots j ∙ rw (ne_eqb j k d) refl

    pub serves_without : Serves g h' d
    serves_without = record {
      slots = λ j u e. dite (ℕ_discrete j k)
          (λ q. absurd (let z : None ≡ Some u = sym (slots j ∙ rw (eq-eqb j k q) refl) ∙ e in cc))
          (λ n.
          let b = sym (left j n) ∙ e in let x = v.slots j u b in
          let far : u.page ≢ s.page = λ (q : u.page ≡ s.page). n (one_slot j k u s b at q) in
          record {
            cached = ap (has u.page) cached ∙ has_erase_else u.page s.page h.cached far ∙ x.cached;
            lent = bodies u.page far ∙ x.lent;
            class = x.class;
            unpopped = let a = many-append (is_pop_of (swept_set g j 1) u.page) said h.log in let y = x.unpopped in let z = unpopped (swept_set g j 1) u.page in
                ap (many (is_pop_of (swept_set g j 1) u.page)) log ∙ omega arith;
          });
      all = λ p hp. let o = other p hp in let a = v.all p o.1 in
          let n : a.0 ≢ k = λ (q : a.0 ≡ k). o.0 (sym a.3 ∙ ap (λ (u : Span). u.page) (same_some a.1 s (sym a.2 ∙ ap (slot_at c) q ∙ at))) in
          (a.0, a.1, left a.0 n ∙ a.2, a.3);
      once = λ p. subst (λ (l : List ℕ). times p l ≤ 1) (sym cached) (dite (ℕ_discrete p s.page)
          (λ e. subst (λ (q : ℕ). times q (erase s.page h.cached) ≤ 1) (sym e) (let t = times_erase_le s.page h.cached in let o = v.once s.page in omega arith))
          (λ n. let t = times_erase_else p s.page h.cached n in let o = v.once p in omega arith));
      fresh = λ p hp. fresh p (other p hp).0 ∙ v.fresh p (other p hp).1 ∙ ap (λ (f : ℕ). f == g) (sym same);
      early = let e = v.early in omega arith;
    }

-- what a cache rests on stays
pub serves_through : (g : ℕ) (h h' : Part) (c : Cache) → Serves g h c → h'.cached ≡ h.cached → h'.fresh ≡ h.fresh → ((q : ℕ) → has q h.cached ≡ true → span_at q h'.spans ≡ span_at q h.spans)
    → ((k : ℕ) (s : Span) → slot_at c k ≡ Some s → many (is_pop_of (swept_set g k 1) s.page) h'.log ≡ 0) → Serves g h' c
serves_through g h h' c v cached fresh bodies unpopped = record {
  slots = λ k s at. let x = v.slots k s at in record { cached = ap (has s.page) cached ∙ x.cached; lent = bodies s.page x.cached ∙ x.lent; class = x.class; unpopped = unpopped k s at };
  all = λ p hp. v.all p (sym (ap (has p) cached) ∙ hp);
  once = λ p. subst (λ (l : List ℕ). times p l ≤ 1) (sym cached) (v.once p);
  fresh = λ p hp. ap (has p) fresh ∙ v.fresh p (sym (ap (has p) cached) ∙ hp);
  early = v.early;
}

-- a processor without a cached span serves a worker that has none cached
pub serves_nothing : (g : ℕ) (h : Part) (c : Cache) → ((k : ℕ) → slot_at c k ≡ None) → ((p : ℕ) → has p h.cached ≡ false) → ((p : ℕ) → times p h.cached ≤ 1) → c.flushed ≤ g → Serves g h c
serves_nothing g h c none nothing once early = record {
  slots = λ k s at. absurd (let z : None ≡ Some s = sym (none k) ∙ at in cc);
  all = λ p hp. absurd (true≢false (sym hp ∙ nothing p));
  once = once;
  fresh = λ p hp. absurd (true≢false (sym hp ∙ nothing p));
  early = early;
}

has_not : (p : ℕ) (xs : List ℕ) → has p xs ≡ false → times p xs ≡ 0
has_not p xs e = elim (zero_or (times p xs)) [ inl z ↦ z | inr l ↦ absurd (true≢false (sym (times_has p xs l) ∙ e)) ]
  where
    zero_or : (n : ℕ) → (n ≡ 0) ⊎ (0 < n)
    zero_or n = grind arith

-- a span comes into the cache
module _ (g : ℕ) (h h' : Part) (c : Cache) (v : Serves g h c) (k : ℕ) (s : Span) (low : k < length c.slots) (empty : slot_at c k ≡ None) (stamp : c.flushed ≡ g)
    (cached : h'.cached ≡ h.cached ++ s.page ∷ []) (fresh : h'.fresh ≡ h.fresh ++ s.page ∷ []) (spans : h'.spans ≡ h.spans) (log : (j p : ℕ) → many (is_pop_of j p) h'.log ≡ many (is_pop_of j p) h.log)
    (before : has s.page h.cached ≡ false) (lent : span_at s.page h.spans ≡ Some s) (class : s.class ≡ k) (unpopped : many (is_pop_of (swept_set g k 1) s.page) h.log ≡ 0) where
  pub serves_with : Serves g h' (with_slot k (Some s) c)
  serves_with = record {
    slots = λ j u e. dite (ℕ_discrete j k)
        (λ q. subst (λ (i : ℕ). IsCachedAt g h' i u) (sym q) (subst (IsCachedAt g h' k) (same_some s u (sym (slot_here c k (Some s) low) ∙ ap (slot_at (with_slot k (Some s) c)) (sym q) ∙ e)) (record {
          cached = ap (has s.page) cached ∙ has_end_here s.page h.cached;
          lent = ap (span_at s.page) spans ∙ lent;
          class = class;
          unpopped = log (swept_set g k 1) s.page ∙ unpopped;
        })))
        (λ d. let x = v.slots j u (sym (slot_else c k j (Some s) d) ∙ e) in record {
          cached = ap (has u.page) cached ∙ has_end_else u.page s.page h.cached (far u.page x.cached) ∙ x.cached;
          lent = ap (span_at u.page) spans ∙ x.lent;
          class = x.class;
          unpopped = log (swept_set g j 1) u.page ∙ x.unpopped;
        });
    all = λ p hp. dite (ℕ_discrete p s.page)
        (λ q. (k, s, slot_here c k (Some s) low, sym q))
        (λ d. let a = v.all p (sym (has_end_else p s.page h.cached d) ∙ ap (has p) (sym cached) ∙ hp) in
        let n : a.0 ≢ k = λ (q : a.0 ≡ k). (let z : None ≡ Some a.1 = sym empty ∙ ap (slot_at c) (sym q) ∙ a.2 in let w : ⊥ = cc in w) in
        (a.0, a.1, slot_else c k a.0 (Some s) n ∙ a.2, a.3));
    once = λ p. subst (λ (l : List ℕ). times p l ≤ 1) (sym cached) (dite (ℕ_discrete p s.page)
        (λ q. subst (λ (x : ℕ). times x (h.cached ++ s.page ∷ []) ≤ 1) (sym q) (let t = times_end s.page h.cached in let z = has_not s.page h.cached before in omega arith))
        (λ d. let t = times_end_else p s.page h.cached d in let o = v.once p in omega arith));
    fresh = λ p hp. dite (ℕ_discrete p s.page)
        (λ q. ap (has p) fresh ∙ subst (λ (x : ℕ). has x (h.fresh ++ s.page ∷ []) ≡ true) (sym q) (has_end_here s.page h.fresh) ∙ sym (eq-eqb c.flushed g stamp))
        (λ d. ap (has p) fresh ∙ has_end_else p s.page h.fresh d ∙ v.fresh p (sym (has_end_else p s.page h.cached d) ∙ ap (has p) (sym cached) ∙ hp));
    early = v.early;
  }
    where
      far : (q : ℕ) → has q h.cached ≡ true → q ≢ s.page
      far q hq e = true≢false (sym hq ∙ ap (λ (x : ℕ). has x h.cached) e ∙ before)

-- ---- for a run

-- a new processor serves a worker without a cached span
pub serves_start : (g n m : ℕ) (t : Countdown) (h : Part) → h.cached ≡ [] → Serves g h (record { number = n; flushed = 0; slots = copies m None; countdown = t })
serves_start g n m t h e = serves_nothing g h (record { number = n; flushed = 0; slots = copies m None; countdown = t }) (none_copied (range_with_len 0 m)) (λ p. ap (has p) e) (λ p. subst (λ (l : List ℕ). times p l ≤ 1) (sym e) (omega arith)) (omega arith)
  where
    none_copied : (xs : List ℕ) (k : ℕ) → get_or (map (λ _. let o : Option Span = None in o) xs) k None ≡ None
    none_copied [] k = refl
    none_copied (x ∷ xs) zero = refl
    none_copied (x ∷ xs) (suc k) = none_copied xs k

-- a processor serves its worker over a mark end
pub serves_rested : (g : ℕ) (h : Part) (c : Cache) → Serves g h c → Serves (g + 2) (rested h) c
serves_rested g h c v = record {
  slots = λ k s at. let x = v.slots k s at in record { cached = x.cached; lent = x.lent; class = x.class; unpopped = refl };
  all = v.all;
  once = v.once;
  fresh = λ p hp. sym (ne_eqb c.flushed (g + 2) (λ e. let z = v.early in let w : ⊥ = omega arith in w));
  early = let z = v.early in omega arith;
}

-- then it has no span that was cached since, and none that was is unused
pub used_rested : (h : Part) → IsUsedCache (rested h)
used_rested h p hp fp = absurd (true≢false (sym fp))

-- the same where nothing is cached
pub used_start : (h : Part) → h.cached ≡ [] → IsUsedCache h
used_start h e p hp fp = absurd (true≢false (sym hp ∙ ap (has p) e))
