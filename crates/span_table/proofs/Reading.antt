-- Loads: head and tail of a set.
use Rattle.std.proofs.Common.{◌≡◌, ℕ, ◌+◌, ◌<◌, true, get_or, set, refl, ap, subst, ◌∙◌, arith}
use mathlib.Core.Option.{none, some}
use lib.ListN.{get_elem?}
use Rattle.atomic_table.specs.Table.{State, keeps, step, Allows}
use Rattle.sweep_laws.specs.Reading.{no_set, set_of}
use Rattle.sweep_laws.proofs.Naming.{at_low}
use Rattle.span_laws.specs.OwnSteps.{told}
use Rattle.span_laws.specs.declared.said.Said.TheVariants.{Looks}
use Rattle.span_laws.specs.declared.view.Part.{Part}
use Rattle.span_laws.proofs.Kept.{kept_note}
use Rattle.span_laws.proofs.Uses.{ahead}
use Rattle.table_words.specs.Names.{head_of, SetWord, tail_of}
use Rattle.span_table.specs.Turning.{Ruled}
use Rattle.span_table.proofs.Ruling.{lift}
use Rattle.span_table.proofs.Halves.{head_is, tail_is}
use Rattle.span_table.specs.Running.{Running}
use Rattle.span_table.specs.Plays.{Looked, LooksAt}
use Rattle.span_table.specs.Seats.{SeatState, says}
use Rattle.span_table.specs.declared.view.Item.{Item}
use Rattle.span_table.specs.declared.view.SeatView.{SeatView}
use Rattle.span_table.proofs.Joined.{along}
use Rattle.span_table.proofs.WordsKept.{words_found}
use Rattle.span_table.proofs.StoredKept.{stored_still}
use Rattle.span_table.proofs.Core.{found_counts, own_kept, plain_rule}

module _ (R : ℕ) where
  -- a set's word says its head and tail
  module _ (s : State Item SeatView) (r : Running R s) (id : ℕ) (w : SeatView) (at : get_elem? s.views id ≡ some w) (out : w.out ≡ true) (j : ℕ) (low : j < 544) where
    pub tail_fits : (set_of r.joint.core j).tail < 4294967296
    tail_fits = let k = (own_kept R s r id w at out).rule in let m = k.small in
        let t = k.space.tails j (set_of r.joint.core j) (at_low r.joint.core.sets j no_set (let z = k.sets in omega arith)) in omega arith

    pub head_seen : head_of (get_or s.words (j + (R + 75)) 0) ≡ (set_of r.joint.core j).head
    head_seen = ap head_of (r.words.shows (SetWord j) low) ∙ head_is (set_of r.joint.core j).head (set_of r.joint.core j).tail tail_fits

    pub tail_seen : tail_of (get_or s.words (j + (R + 75)) 0) ≡ (set_of r.joint.core j).tail
    tail_seen = ap tail_of (r.words.shows (SetWord j) low) ∙ tail_is (set_of r.joint.core j).head (set_of r.joint.core j).tail tail_fits

  pub look_allowed : (slots id : ℕ) (me : SeatState) (j : ℕ) → j < 544 → me.0.out ≡ true → Allows (Ruled R) slots id me (j + (R + 75)) (λ n. n) (Looked (step slots (j + (R + 75)) 0 0 none) me)
  look_allowed slots id me j low out = lift R slots id me (j + (R + 75)) (λ n. n) (Looked (step slots (j + (R + 75)) 0 0 none) me) out (λ s r deep at _.
      let w = me.0 in let g = r.joint in let x = get_or s.words (j + (R + 75)) 0 in let part : Part = told (Looks j (head_of x) (tail_of x)) w.view.own in
      let k = own_kept R s r id w at out in let own = (r.seats id w at).own_is out in let h = head_seen s r id w at out j low in let t = tail_seen s r id w at out j low in
      let z = r.stored.deep in (
        says (Looks j (head_of x) (tail_of x)) w,
        keeps,
        tt,
        plain_rule R s r id w at out part g.core
            (kept_note g.core g.heap g.homes w.number (along g.parts w.view) k (Looks j (head_of x) (tail_of x)) tt (h, t))
            (set s.words (j + (R + 75)) x) (words_found R g.core r.blocks g.lock s.words r.words (j + (R + 75))) (found_counts R s r id w at out part (λ z. omega arith) refl (j + (R + 75)))
            (stored_still R g s.homes r.stored w.number w.view.own own part g.core g.heap (λ _. refl) (λ p. omega arith)),
        λ q e. let same : j ≡ q = omega arith in
            subst (λ (k : ℕ). LooksAt k x me (says (Looks j (head_of x) (tail_of x)) w, me.1)) same
            (refl, ahead g.core g.heap g.homes w.number (along g.parts w.view) k.rule j (head_of x) (tail_of x) low h t),
      ))
