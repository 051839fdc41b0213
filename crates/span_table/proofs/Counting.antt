-- The counters: one is read, or a number is added to it.
use Rattle.std.proofs.Common.{◌≡◌, ◌≢◌, ℕ, ◌+◌, ◌%◌, ◌^◌, ◌<◌, true, get_or, set, refl, sym, arith, eq-eqb, ne_eqb}
use mathlib.Core.Option.{none}
use Rattle.atomic_table.specs.Table.{keeps, step, Allows}
use Rattle.span_laws.specs.Calls.{added}
use Rattle.span_laws.specs.OwnSteps.{told}
use Rattle.span_laws.specs.declared.said.Said.TheVariants.{Adds, Reads}
use Rattle.span_laws.specs.declared.view.Part.{Part}
use Rattle.span_laws.proofs.Kept.{kept_note}
use Rattle.table_words.specs.Names.{CounterWord}
use Rattle.span_table.specs.Plays.{AddedTo, ReadCounter}
use Rattle.span_table.specs.Seats.{SeatState, says}
use Rattle.span_table.specs.Turning.{Ruled}
use Rattle.span_table.proofs.Ruling.{lift}
use Rattle.span_table.proofs.Core.{found_counts, own_kept, plain_rule}
use Rattle.span_table.proofs.CountsKept.{counts_added}
use Rattle.span_table.proofs.Joined.{along}
use Rattle.span_table.proofs.StoredKept.{stored_still}
use Rattle.span_table.proofs.WordsKept.{words_found, words_free}

module _ (R : ℕ) where
  pub counter_read : (slots id : ℕ) (me : SeatState) (i : ℕ) → me.0.out ≡ true → Allows (Ruled R) slots id me i (λ n. n) (ReadCounter (step slots i 0 0 none) me)
  counter_read slots id me i out = lift R slots id me i (λ n. n) (ReadCounter (step slots i 0 0 none) me) out (λ s r _ at _.
      let w = me.0 in let g = r.joint in let x = get_or s.words i 0 in let part : Part = told (Reads i x) w.view.own in let own = (r.seats id w at).own_is out in (
        says (Reads i x) w,
        keeps,
        tt,
        plain_rule R s r id w at out part g.core (kept_note g.core g.heap g.homes w.number (along g.parts w.view) (own_kept R s r id w at out) (Reads i x) tt tt)
            (set s.words i x) (words_found R g.core r.blocks g.lock s.words r.words i) (found_counts R s r id w at out part (λ z. omega arith) refl i)
            (stored_still R g s.homes r.stored w.number w.view.own own part g.core g.heap (λ _. refl) (λ q. omega arith)),
        refl,
      ))

  -- the log's entry adds the number to this counter alone
  adds_here : (h : Part) (i x number : ℕ) → added i (told (Adds i x number) h).log ≡ number + added i h.log
  adds_here h i x number = rw (eq-eqb i i refl) (omega arith)

  adds_else : (h : Part) (i x number word : ℕ) → word ≢ i → added word (told (Adds i x number) h).log ≡ added word h.log
  adds_else h i x number word other = rw (ne_eqb i word (λ e. other (sym e))) (omega arith)

  pub add_allowed : (slots id : ℕ) (me : SeatState) (i number : ℕ) → i < 3 → me.0.out ≡ true
      → Allows (Ruled R) slots id me (i + 2) (λ n. (n + number) % 2 ^ 64) (AddedTo (step slots (i + 2) number 0 none) me)
  add_allowed slots id me i number low out = lift R slots id me (i + 2) (λ n. (n + number) % 2 ^ 64) (AddedTo (step slots (i + 2) number 0 none) me) out (λ s r _ at _.
      let w = me.0 in let g = r.joint in let x = get_or s.words (i + 2) 0 in let part : Part = told (Adds (i + 2) x number) w.view.own in let own = (r.seats id w at).own_is out in
      let size = r.words.size in (
        says (Adds (i + 2) x number) w,
        keeps,
        tt,
        plain_rule R s r id w at out part g.core (kept_note g.core g.heap g.homes w.number (along g.parts w.view) (own_kept R s r id w at out) (Adds (i + 2) x number) tt tt)
            (set s.words (i + 2) ((x + number) % 2 ^ 64)) (words_free R g.core r.blocks g.lock s.words r.words (CounterWord i) low (λ e. e) ((x + number) % 2 ^ 64))
            (counts_added g.events g.parts s.words r.counted w.number w.view.own own part i number low (omega arith) (adds_here w.view.own (i + 2) x number) (λ y e. adds_else w.view.own (i + 2) x number y e) refl)
            (stored_still R g s.homes r.stored w.number w.view.own own part g.core g.heap (λ _. refl) (λ q. omega arith)),
        refl,
      ))
