-- An object is placed: an add of 1 to the word of the worker's allocations. No slot moves.
use Rattle.std.proofs.Common.{◌≡◌, ◌⊎◌, inl, inr, ⊎_elim, ℕ, ◌+◌, ◌%◌, ◌^◌, ◌<◌, true, get_or, set, refl, sym, subst, ◌∙◌, arith}
use Rattle.std.specs.Prelude.{None, Some}
use mathlib.Core.Option.{none}
use Rattle.atomic_table.specs.Table.{keeps, step, Allows}
use Rattle.span_state.specs.Bits.{HasFree, with_bit}
use Rattle.span_state.specs.Spans.{IsSameSpan, allocated}
use Rattle.span_state.specs.declared.body.Body.{Body}
use Rattle.sweep_laws.specs.Counts.{times}
use Rattle.sweep_laws.specs.NeedsOfRange.{refusal}
use Rattle.sweep_laws.specs.Needs.{allocate_needs}
use Rattle.sweep_laws.specs.Step.{after}
use Rattle.sweep_laws.specs.declared.moves.Move.TheVariants.{Allocate}
use Rattle.span_laws.specs.Asks.{HasBody, MayPlace}
use Rattle.span_laws.specs.Bodies.{lends}
use Rattle.span_laws.specs.OwnSteps.{told_of}
use Rattle.span_laws.specs.Suits.{PlacesAlone, SuitsOf}
use Rattle.span_laws.specs.Views.{span_at, span_of}
use Rattle.span_laws.specs.declared.said.SaidOf.TheVariants.{Places}
use Rattle.span_laws.specs.declared.view.Part.{Part}
use Rattle.span_laws.proofs.Kept.{kept_of}
use Rattle.span_laws.proofs.Uses.{place_allowed as place_met, place_has, place_way}
use Rattle.table_words.specs.Names.{EventWord}
use Rattle.span_table.specs.Plays.{Placed}
use Rattle.span_table.specs.Running.{Counted, Running}
use Rattle.span_table.specs.Seats.{SeatState, says_of}
use Rattle.span_table.specs.Turning.{Ruled}
use Rattle.span_table.proofs.CountsKept.{counts_event}
use Rattle.span_table.proofs.Ruling.{lift}
use Rattle.span_table.proofs.Core.{own_kept, plain_rule}
use Rattle.span_table.proofs.Joined.{along}
use Rattle.span_table.proofs.Made.{made}
use Rattle.span_table.proofs.StoredKept.{stored_still}
use Rattle.span_table.proofs.WordsKept.{words_free}

-- whether the object is placed alone, by what the call asks of the body before
alone_in : (h : Part) (b b' : Body) (i : ℕ) → MayPlace h b → IsSameSpan b b' → PlacesAlone h (Places i) (span_of b')
alone_in h b b' i may same = ⊎_elim
    (λ x. inl ((λ q s m e c. x.2 q s m e (c ∙ same.class) ∙ sym same.page), (λ q m l. x.3 q m l ∙ sym same.page)))
    (λ x. inr (same.count ∙ x.2))
    may

module _ (R : ℕ) where
  place_runs : (slots id : ℕ) (me : SeatState) (b b' : Body) (i word : ℕ) → me.0.out ≡ true → word < 70 → word ≡ me.0.number → HasBody me.0.view.own b → MayPlace me.0.view.own b → HasFree b.count (allocated b) i
      → IsSameSpan b b' → ((k : ℕ) → allocated b' k ≡ with_bit i (allocated b) k)
      → Allows (Running R) slots id me (word + 5) (λ n. (n + 1) % 2 ^ 64) (Placed i (span_of b') (step slots (word + 5) 1 0 none) me)
  place_runs slots id me b b' i word out low mine lent may free same bits s r _ at _ =
      let w = me.0 in let g = r.joint in let c = g.core in let n = w.number in let v = along g.parts w.view in let x = get_or s.words (word + 5) 0 in
      let k = own_kept R s r id w at out in let own = (r.seats id w at).own_is out in let part : Part = told_of (Places i) (span_of b') w.view.own in
      let needs : refusal (allocate_needs c n b'.page i) ≡ None = subst (λ (q : ℕ). refusal (allocate_needs c n q i) ≡ None) (sym same.page) (place_met c g.heap g.homes n v k.rule b i lent may free) in
      let m = made c (Allocate n b'.page i) (record { owned = k.rule.owned; tidy = k.rule.tidy; space = k.rule.space }) needs tt in
      let suits : SuitsOf c g.heap v (Places i) (span_of b') = (
        span_of b,
        subst (λ (q : ℕ). span_at q w.view.own.spans ≡ Some (span_of b)) (sym same.page) lent,
        record { page = sym same.page; pages = sym same.pages; count = sym same.count; class = sym same.class; life = sym same.life },
        bits,
        subst (λ (q : ℕ). 0 < lends q w.view.own) (sym same.page) (place_has c g.heap g.homes n v k.rule b i lent may free),
        subst (λ (q : ℕ). (0 < times q w.view.own.cached) ⊎ ((0 < times q w.view.own.held) × (w.view.own.claimed ≡ None))) (sym same.page) (place_way c g.heap g.homes n v k.rule b i lent may free),
      ) in (
        says_of (Places i) (span_of b') w,
        keeps,
        tt,
        plain_rule R s r id w at out part (after c (Allocate n b'.page i)) (kept_of c g.heap g.homes n v k (Places i) (span_of b') suits (alone_in w.view.own b b' i may same) needs m.owned m.tidy m.space)
            (set s.words (word + 5) ((x + 1) % 2 ^ 64)) (still_words r.words)
            (subst (λ (q : ℕ). Counted g.events (set g.parts n part) (set s.words (q + 5) ((get_or s.words (q + 5) 0 + 1) % 2 ^ 64))) (sym mine)
            (counts_event g.events g.parts s.words r.counted n w.view.own own part (λ z. omega arith) (omega arith) (let y = mine in omega arith) (let y = r.words.size in let z = mine in omega arith)))
            (stored_still R g s.homes r.stored n w.view.own own part (after c (Allocate n b'.page i)) g.heap (λ _. refl) (λ q. omega arith)),
        refl,
      )
    where
      still_words : Rattle.span_table.specs.Running.Words R r.joint.core r.blocks r.joint.lock s.words
          → Rattle.span_table.specs.Running.Words R (after r.joint.core (Allocate me.0.number b'.page i)) r.blocks r.joint.lock (set s.words (word + 5) ((get_or s.words (word + 5) 0 + 1) % 2 ^ 64))
      still_words k = let y = words_free R r.joint.core r.blocks r.joint.lock s.words k (EventWord word) low (λ e. e) ((get_or s.words (word + 5) 0 + 1) % 2 ^ 64) in
          Rattle.span_table.proofs.WordsKept.words_same R r.joint.core r.blocks r.joint.lock (set s.words (word + 5) ((get_or s.words (word + 5) 0 + 1) % 2 ^ 64)) y (after r.joint.core (Allocate me.0.number b'.page i)) refl refl refl

  pub place_allowed : (slots id : ℕ) (me : SeatState) (b b' : Body) (i word : ℕ) → me.0.out ≡ true → word < 70 → word ≡ me.0.number → HasBody me.0.view.own b → MayPlace me.0.view.own b → HasFree b.count (allocated b) i
      → IsSameSpan b b' → ((k : ℕ) → allocated b' k ≡ with_bit i (allocated b) k)
      → Allows (Ruled R) slots id me (word + 5) (λ n. (n + 1) % 2 ^ 64) (Placed i (span_of b') (step slots (word + 5) 1 0 none) me)
  place_allowed slots id me b b' i word out low mine lent may free same bits = lift R slots id me (word + 5) (λ n. (n + 1) % 2 ^ 64) (Placed i (span_of b') (step slots (word + 5) 1 0 none) me) out (place_runs slots id me b b' i word out low mine lent may free same bits)
