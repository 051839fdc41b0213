-- Stores in a page's word by the worker that has the span: the end of a sweep, and the beginning of its caching. No slot moves.
use Rattle.std.proofs.Common.{◌≡◌, ℕ, ◌+◌, ◌<◌, ◌≤◌, true, false, not, [], ◌∷◌, ◌++◌, set, refl, sym, ap, subst, ◌∙◌, arith}
use Rattle.std.specs.Prelude.{None}
use mathlib.Core.Logic.{dite}
use mathlib.Core.Option.{none}
use native.Mathlib.Decide.{ℕ_discrete}
use Rattle.atomic_table.specs.Table.{keeps, step, Allows}
use Rattle.span_state.specs.Bits.{bit_of}
use Rattle.span_state.specs.declared.body.Body.{Body}
use Rattle.span_state.specs.MarkSet.{has_pair}
use Rattle.sweep_laws.specs.Counts.{times}
use Rattle.sweep_laws.specs.Lists.{has}
use Rattle.sweep_laws.specs.Step.{after}
use Rattle.sweep_laws.specs.declared.moves.Move.TheVariants.{Cache, Release}
use Rattle.sweep_laws.proofs.Naming.{has_times, times_erase, times_erase_else}
use Rattle.sweep_laws.proofs.Totals.{times_end}
use Rattle.span_laws.specs.Bodies.{is_claimed, lends}
use Rattle.span_laws.specs.OwnSteps.{told, told_of}
use Rattle.span_laws.specs.Suits.{WasLent}
use Rattle.span_laws.specs.Asks.{HasSpan}
use Rattle.span_laws.specs.Views.{parts_of, span_of}
use Rattle.span_laws.specs.declared.said.Said.TheVariants.{Caches}
use Rattle.span_laws.specs.declared.said.SaidOf.TheVariants.{Releases}
use Rattle.span_laws.specs.declared.view.Part.{Part}
use Rattle.span_laws.specs.declared.view.Span.{Span as SpanSeen}
use Rattle.span_laws.proofs.Allowed.{cache_allowed as cache_met, held_low, release_allowed as release_met, sweeping_low}
use Rattle.span_laws.proofs.Kept.{kept_of, kept_said}
use Rattle.span_laws.proofs.Parts.{own_once}
use Rattle.span_laws.proofs.RuleKept.{part_at}
use Rattle.span_table.specs.Plays.{Cached, Released}
use Rattle.span_table.specs.Seats.{SeatState, says, says_of}
use Rattle.span_table.specs.Turning.{Ruled}
use Rattle.span_table.proofs.Ruling.{lift}
use Rattle.span_table.proofs.Core.{own_kept, still_counts, plain_rule, unclaimed}
use Rattle.span_table.proofs.Joined.{along}
use Rattle.span_table.proofs.Locking.{only_more}
use Rattle.span_table.proofs.Made.{made, times_more}
use Rattle.span_table.proofs.StoredKept.{stored_still}
use Rattle.span_table.proofs.WordsKept.{words_page}

-- the body as the worker got it is of the same place
pub was_lent : (h : Part) (b : Body) → HasSpan h b → WasLent h (span_of b)
was_lent h b is = (is.0, is.1, let l = is.2 in record { page = l.page; pages = l.pages; count = l.count; class = l.class; life = l.life })

-- a swept page is lent as it was swept
released_lends : (b : SpanSeen) (h : Part) (p q : ℕ) → b.page ≡ p → 0 < times p h.sweeping → is_claimed p h.claimed ≡ false → lends q h ≤ lends q (told_of Releases b h)
released_lends b h p q e has free = dite (ℕ_discrete q b.page)
    (λ z. let at : q ≡ p = z ∙ e in let o : is_claimed q h.claimed ≡ false = ap (λ (y : ℕ). is_claimed y h.claimed) at ∙ free in let s : 0 < times b.page h.sweeping = subst (λ (y : ℕ). 0 < times y h.sweeping) (sym e) has in
    let u = times_erase b.page h.sweeping s in let t = times_end b.page h.held in
    subst (λ (y : ℕ). lends y h ≤ lends y (told_of Releases b h)) (sym z) (rw (sym (ap (λ (y : ℕ). is_claimed y h.claimed) z) ∙ o) (omega arith)))
    (λ z. let u = times_erase_else q b.page h.sweeping z in let t = only_more (not (is_claimed q h.claimed)) (times q h.held) (times q (h.held ++ b.page ∷ [])) (times_more q b.page h.held) in omega arith)

cached_lends : (h : Part) (p q : ℕ) → 0 < times p h.held → h.claimed ≡ None → lends q h ≤ lends q (told (Caches p) h)
cached_lends h p q has free = dite (ℕ_discrete q p)
    (λ z. let u = times_erase p h.held has in let t = times_end p h.cached in subst (λ (y : ℕ). lends y h ≤ lends y (told (Caches p) h)) (sym z) (rw free (omega arith)))
    (λ z. let u = times_erase_else q p h.held z in let t = times_more q p h.cached in rw free (omega arith))

module _ (R : ℕ) where
  pub release_allowed : (slots id : ℕ) (me : SeatState) (b : SpanSeen) (x : ℕ) → me.0.out ≡ true → x ≡ me.0.view.generation → has b.page me.0.view.own.sweeping ≡ true → WasLent me.0.view.own b → ((k : ℕ) → bit_of b.bits k ≡ has_pair me.0.view.marks b.page k)
      → Allows (Ruled R) slots id me (b.page + 75) (λ _. x) (λ _. Released b (step slots (b.page + 75) x 0 none) me x)
  release_allowed slots id me b x out known sweeps lent marks = lift R slots id me (b.page + 75) (λ _. x) (λ _. Released b (step slots (b.page + 75) x 0 none) me x) out (λ s r _ at _.
      let w = me.0 in let g = r.joint in let c = g.core in let n = w.number in let v = along g.parts w.view in let p = b.page in
      let k = own_kept R s r id w at out in let own = (r.seats id w at).own_is out in
      let inside = sweeping_low c g.heap g.homes n v k.rule p sweeps in let low : p < R = (let m = r.words.many in omega arith) in
      let needs = release_met c g.heap g.homes n v k.rule p sweeps in
      let m = made c (Release n p) (record { owned = k.rule.owned; tidy = k.rule.tidy; space = k.rule.space }) needs tt in
      let once = own_once c k.rule.owned (parts_of n v) k.rule.hands p inside n w.view.own (part_at c g.heap g.homes n v k.rule) in let some = has_times p w.view.own.sweeping sweeps in
      let part : Part = told_of Releases b w.view.own in (
        says_of Releases b w,
        keeps,
        tt,
        plain_rule R s r id w at out part (after c (Release n p)) (kept_of c g.heap g.homes n v k Releases b (lent, marks) tt needs m.owned m.tidy m.space)
            (set s.words (p + 75) x) (words_page R c r.blocks g.lock s.words r.words (after c (Release n p)) p x low refl (ap (set c.words p) (let y : c.generation ≡ x = (let z = k.rule.generation in omega arith) in y)) refl) (still_counts R s r id w at out part (λ z. omega arith) refl (p + 75) x (λ y a l e. omega arith))
            (stored_still R g s.homes r.stored n w.view.own own part (after c (Release n p)) g.heap (λ _. refl) (λ q. released_lends b w.view.own p q refl some (unclaimed R s r id w at out p (let z : times p w.view.own.held ≡ 0 = omega arith in z)))),
        refl,
      ))

  pub cache_allowed : (slots id : ℕ) (me : SeatState) (p x : ℕ) → me.0.out ≡ true → x ≡ me.0.view.generation + 3 → has p me.0.view.own.held ≡ true → me.0.view.own.claimed ≡ None
      → Allows (Ruled R) slots id me (p + 75) (λ _. x) (λ _. Cached p (step slots (p + 75) x 0 none) me x)
  cache_allowed slots id me p x out known held free = lift R slots id me (p + 75) (λ _. x) (λ _. Cached p (step slots (p + 75) x 0 none) me x) out (λ s r _ at _.
      let w = me.0 in let g = r.joint in let c = g.core in let n = w.number in let v = along g.parts w.view in
      let k = own_kept R s r id w at out in let own = (r.seats id w at).own_is out in
      let inside = held_low c g.heap g.homes n v k.rule p held in let low : p < R = (let m = r.words.many in omega arith) in
      let needs = cache_met c g.heap g.homes n v k.rule p held free in
      let m = made c (Cache n p) (record { owned = k.rule.owned; tidy = k.rule.tidy; space = k.rule.space }) needs tt in
      let part : Part = told (Caches p) w.view.own in (
        says (Caches p) w,
        keeps,
        tt,
        plain_rule R s r id w at out part (after c (Cache n p)) (kept_said c g.heap g.homes n v k (Caches p) tt needs m.owned m.tidy m.space)
            (set s.words (p + 75) x) (words_page R c r.blocks g.lock s.words r.words (after c (Cache n p)) p x low refl (ap (set c.words p) (let y : c.generation + 3 ≡ x = (let z = k.rule.generation in omega arith) in y)) refl) (still_counts R s r id w at out part (λ z. omega arith) refl (p + 75) x (λ y a l e. omega arith))
            (stored_still R g s.homes r.stored n w.view.own own part (after c (Cache n p)) g.heap (λ _. refl) (λ q. cached_lends w.view.own p q (has_times p w.view.own.held held) free)),
        refl,
      ))
