-- A span leaves the cache of its own worker: it was cached in this cycle, or before. No slot moves.
use Rattle.std.proofs.Common.{◌≡◌, ◌≢◌, ℕ, ◌+◌, ◌-◌, ◌<◌, ◌≤◌, ◌&&◌, ⊎_elim, inr, Bool, true, false, true≢false, not, eqb, eq-eqb, get_or, set, refl, sym, ap, subst, ◌∙◌, arith}
use Rattle.std.proofs.lemmas.Bool.{eqb-true}
use Rattle.std.specs.Prelude.{Some}
use mathlib.Core.Logic.{dite}
use mathlib.Core.Option.{none, some}
use native.Mathlib.Decide.{ℕ_discrete}
use lib.ListN.{get_elem?}
use Rattle.atomic_table.specs.Table.{State, keeps, step, Allows}
use Rattle.span_state.specs.declared.body.Body.{Body}
use Rattle.sweep_laws.specs.Counts.{times}
use Rattle.sweep_laws.specs.Lists.{has}
use Rattle.sweep_laws.specs.Step.{after}
use Rattle.sweep_laws.specs.declared.moves.Move.TheVariants.{StaleUncache, Uncache}
use Rattle.sweep_laws.proofs.Naming.{has_times, times_erase, times_erase_else}
use Rattle.sweep_laws.proofs.Totals.{times_end}
use Rattle.span_laws.specs.Asks.{HasBody}
use Rattle.span_laws.specs.Bodies.{Fits, is_claimed, lends}
use Rattle.span_laws.specs.OwnSteps.{told}
use Rattle.span_laws.specs.Views.{parts_of, span_of}
use Rattle.span_laws.specs.declared.said.Said.TheVariants.{Uncaches, UncachesStale}
use Rattle.span_laws.specs.declared.view.Part.{Part}
use Rattle.span_laws.specs.declared.view.Span.{Span as SpanSeen}
use Rattle.span_laws.proofs.Allowed.{cached_low, cached_word, stale_allowed, uncache_allowed as uncache_met}
use Rattle.span_laws.proofs.Kept.{kept_said}
use Rattle.span_laws.proofs.Parts.{own_once}
use Rattle.span_laws.proofs.RuleKept.{part_at}
use Rattle.span_laws.proofs.Uses.{has_marked, untouched}
use Rattle.span_laws.proofs.WordMoves.{cached_lent, lent_now, own_tells_of, unsettled}
use Rattle.span_table.specs.Plays.{Uncached, UncachedStale}
use Rattle.span_table.specs.Running.{Running}
use Rattle.span_table.specs.Seats.{SeatState, says}
use Rattle.span_table.specs.declared.view.Item.{Item}
use Rattle.span_table.specs.declared.view.SeatView.{SeatView}
use Rattle.span_table.specs.Turning.{Ruled}
use Rattle.span_table.proofs.Ruling.{lift}
use Rattle.span_table.proofs.Core.{own_kept, plain_rule, still_counts, unclaimed}
use Rattle.span_table.proofs.Joined.{along}
use Rattle.span_table.proofs.Locking.{only_more}
use Rattle.span_table.proofs.Made.{made, times_more}
use Rattle.span_table.proofs.StoredKept.{stored_still}
use Rattle.span_table.proofs.WordsKept.{words_page}

some_same : (a b : SpanSeen) → Some a ≡ Some b → a ≡ b
some_same a b e = cc

-- a page that leaves the cache is lent as it was, since it is not claimed
uncached_lends : (h : Part) (p q : ℕ) → 0 < times p h.cached → is_claimed p h.claimed ≡ false → lends q h ≤ lends q (told (Uncaches p) h)
uncached_lends h p q has free = dite (ℕ_discrete q p)
    (λ z. let u = times_erase p h.cached has in let t = times_end p h.held in subst (λ (y : ℕ). lends y h ≤ lends y (told (Uncaches p) h)) (sym z) (rw free (omega arith)))
    (λ z. let u = times_erase_else q p h.cached z in let t = only_more (not (is_claimed q h.claimed)) (times q h.held) (times q (told (Uncaches p) h).held) (times_more q p h.held) in omega arith)

stale_lends : (h : Part) (p q : ℕ) → 0 < times p h.cached → lends q h ≤ lends q (told (UncachesStale p) h)
stale_lends h p q has = dite (ℕ_discrete q p)
    (λ z. let u = times_erase p h.cached has in let t = times_end p h.sweeping in subst (λ (y : ℕ). lends y h ≤ lends y (told (UncachesStale p) h)) (sym z) (omega arith))
    (λ z. let u = times_erase_else q p h.cached z in let t = times_more q p h.sweeping in omega arith)

module _ (R : ℕ) where
  module _ (s : State Item SeatView) (r : Running R s) (id : ℕ) (w : SeatView) (at : get_elem? s.views id ≡ some w) (out : w.out ≡ true) (p : ℕ) (cached : has p w.view.own.cached ≡ true) where
    -- the word of a cached page, by whether it was cached in this cycle
    word_is : has p w.view.own.fresh ≡ eqb (get_or r.joint.core.words p 0) (r.joint.core.generation + 3)
    word_is = let g = r.joint in let k = (own_kept R s r id w at out).rule in
        (own_tells_of g.core g.heap g.homes w.number (along g.parts w.view) k).fresh p ∙ ap (λ (b : Bool). b && eqb (get_or g.core.words p 0) (g.core.generation + 3)) cached

    pub low_cached : p < R
    low_cached = let g = r.joint in let k = (own_kept R s r id w at out).rule in let l = cached_low g.core g.heap g.homes w.number (along g.parts w.view) k p cached in let m = r.words.many in omega arith

  pub uncache_allowed : (slots id : ℕ) (me : SeatState) (p x : ℕ) → me.0.out ≡ true → x ≡ me.0.view.generation → has p me.0.view.own.cached ≡ true → has p me.0.view.own.fresh ≡ true
      → Allows (Ruled R) slots id me (p + 75) (λ _. x) (λ _. Uncached p (step slots (p + 75) x 0 none) me x)
  uncache_allowed slots id me p x out known cached fresh = lift R slots id me (p + 75) (λ _. x) (λ _. Uncached p (step slots (p + 75) x 0 none) me x) out (λ s r _ at _.
      let w = me.0 in let g = r.joint in let c = g.core in let n = w.number in let v = along g.parts w.view in
      let k = own_kept R s r id w at out in let own = (r.seats id w at).own_is out in
      let inside = cached_low c g.heap g.homes n v k.rule p cached in let low : p < R = low_cached s r id w at out p cached in
      let word : get_or c.words p 0 ≡ c.generation + 3 = eqb-true (get_or c.words p 0) (c.generation + 3) (sym (word_is s r id w at out p cached) ∙ fresh) in
      let needs = uncache_met c g.heap g.homes n v k.rule p cached word in
      let m = made c (Uncache n p) (record { owned = k.rule.owned; tidy = k.rule.tidy; space = k.rule.space }) needs tt in
      let once = own_once c k.rule.owned (parts_of n v) k.rule.hands p inside n w.view.own (part_at c g.heap g.homes n v k.rule) in let some = has_times p w.view.own.cached cached in
      let part : Part = told (Uncaches p) w.view.own in (
        says (Uncaches p) w,
        keeps,
        tt,
        plain_rule R s r id w at out part (after c (Uncache n p)) (kept_said c g.heap g.homes n v k (Uncaches p) tt needs m.owned m.tidy m.space)
            (set s.words (p + 75) x) (words_page R c r.blocks g.lock s.words r.words (after c (Uncache n p)) p x low refl (ap (set c.words p) (let y : c.generation ≡ x = (let z = k.rule.generation in omega arith) in y)) refl)
            (still_counts R s r id w at out part (λ z. omega arith) refl (p + 75) x (λ y a l e. omega arith))
            (stored_still R g s.homes r.stored n w.view.own own part (after c (Uncache n p)) g.heap (λ _. refl) (λ q. uncached_lends w.view.own p q some (unclaimed R s r id w at out p (let z : times p w.view.own.held ≡ 0 = omega arith in z)))),
        refl,
      ))

  pub stale_uncache_allowed : (slots id : ℕ) (me : SeatState) (b : Body) (x : ℕ) → me.0.out ≡ true → x + 1 ≡ me.0.view.generation → has b.page me.0.view.own.cached ≡ true → has b.page me.0.view.own.fresh ≡ false → HasBody me.0.view.own b
      → Allows (Ruled R) slots id me (b.page + 75) (λ _. x) (λ _. UncachedStale (span_of b) (step slots (b.page + 75) x 0 none) me x)
  stale_uncache_allowed slots id me b x out known cached fresh lent = lift R slots id me (b.page + 75) (λ _. x) (λ _. UncachedStale (span_of b) (step slots (b.page + 75) x 0 none) me x) out (λ s r _ at _.
      let w = me.0 in let g = r.joint in let c = g.core in let n = w.number in let v = along g.parts w.view in let p = b.page in
      let k = own_kept R s r id w at out in let own = (r.seats id w at).own_is out in
      let inside = cached_low c g.heap g.homes n v k.rule p cached in let low : p < R = low_cached s r id w at out p cached in
      let other : get_or c.words p 0 ≢ c.generation + 3 = (λ e. true≢false (sym (eq-eqb (get_or c.words p 0) (c.generation + 3) e) ∙ sym (word_is s r id w at out p cached) ∙ fresh)) in
      let word : get_or c.words p 0 ≡ c.generation + 1 = ⊎_elim (λ (y : get_or c.words p 0 ≡ c.generation + 1). y) (λ (y : get_or c.words p 0 ≡ c.generation + 3). absurd (other y)) (cached_word c g.heap g.homes n v k.rule p cached) in
      let needs = stale_allowed c g.heap g.homes n v k.rule p cached other in
      let m = made c (StaleUncache n p) (record { owned = k.rule.owned; tidy = k.rule.tidy; space = k.rule.space }) needs tt in
      let some = has_times p w.view.own.cached cached in let part : Part = told (UncachesStale p) w.view.own in
      let l = lent_now c g.heap g.homes n v k.rule p (cached_lent c g.heap g.homes n v k.rule p cached) in
      let fits : Fits k.rule.known c.lives p (span_of b) = subst (Fits k.rule.known c.lives p) (some_same l.0 (span_of b) (sym l.1 ∙ lent)) l.2 in (
        says (UncachesStale p) w,
        keeps,
        tt,
        plain_rule R s r id w at out part (after c (StaleUncache n p)) (kept_said c g.heap g.homes n v k (UncachesStale p) tt needs m.owned m.tidy m.space)
            (set s.words (p + 75) x) (words_page R c r.blocks g.lock s.words r.words (after c (StaleUncache n p)) p x low refl (ap (set c.words p) (let y : c.generation - 1 ≡ x = (let z = k.rule.generation in omega arith) in y)) refl)
            (still_counts R s r id w at out part (λ z. omega arith) refl (p + 75) x (λ y a t e. omega arith))
            (stored_still R g s.homes r.stored n w.view.own own part (after c (StaleUncache n p)) g.heap (λ _. refl) (λ q. stale_lends w.view.own p q some)),
        (refl, has_marked c g.heap g.homes n v k.rule b fits, untouched c g.heap g.homes n v k.rule p inside (unsettled c g.heap g.homes n v k.rule _ (inr (inr word)))),
      ))
