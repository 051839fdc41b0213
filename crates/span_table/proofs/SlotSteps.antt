-- A load of the lock's word by which the empty slot of a page in hand comes home, or goes out; and a load of the generation.
use Rattle.std.proofs.Common.{◌≡◌, ℕ, zero, suc, ◌+◌, ◌<◌, true, List, ◌∷◌, length, get_or, set, refl, sym, subst, ◌∙◌, ap, arith}
use mathlib.Core.Logic.{dite}
use mathlib.Core.Option.{none, some}
use native.Mathlib.Decide.{dec_le, ℕ_discrete}
use lib.ListN.{get_elem?}
use Rattle.atomic_table.specs.Table.{State, gives, keeps, takes, step, Allows}
use Rattle.span_laws.specs.Bodies.{lends}
use Rattle.span_laws.specs.OwnSteps.{told}
use Rattle.span_laws.specs.declared.said.Said.TheVariants.{Reads}
use Rattle.span_laws.specs.declared.view.Part.{Part}
use Rattle.span_laws.proofs.Kept.{kept_note}
use Rattle.span_laws.proofs.Parts.{alone, lends-le, set_else}
use Rattle.span_laws.proofs.RuleKept.{own_never, part_at}
use Rattle.span_laws.specs.Views.{parts_of}
use Rattle.table_words.specs.Names.{GenerationWord}
use Rattle.span_table.specs.Running.{Running}
use Rattle.span_table.specs.Plays.{Fetched, Read, Returned}
use Rattle.span_table.specs.Seats.{SeatState, with_slot, without_slot, says}
use Rattle.span_table.specs.declared.view.Item.{Item}
use Rattle.span_table.specs.declared.view.Item.TheVariants.{Nothing}
use Rattle.span_table.specs.declared.view.SeatView.{SeatView}
use Rattle.span_table.specs.Turning.{Ruled}
use Rattle.span_table.proofs.Ruling.{lift}
use Rattle.span_table.proofs.Acquiring.{far_put}
use Rattle.span_table.proofs.Core.{core_rule, found_counts, lock_still, own_kept, plain_rule}
use Rattle.span_table.proofs.Joined.{along}
use Rattle.span_table.proofs.SetSteps.{far_home}
use Rattle.span_table.proofs.StoredKept.{put, put_else, put_here, stored_gives, stored_still, stored_takes}
use Rattle.span_table.proofs.WordsKept.{words_found}

module _ (R : ℕ) where
  return_known : (slots id : ℕ) (w : SeatView) (p : ℕ) (more : List (ℕ × Item)) → w.out ≡ true → p < R → w.slot_out ≡ p + 1 → 0 < lends p w.view.own
      → Allows (Running R) slots id (w, (p + 1, Nothing) ∷ more) 0 (λ n. n) (Returned (step slots 0 0 0 none) (w, (p + 1, Nothing) ∷ more))
  return_known slots id w p more out low slot_out has s r _ at _ = let g = r.joint in let n = w.number in let own = (r.seats id w at).own_is out in (
    without_slot w,
    gives,
    tt,
    core_rule R s r id w at out w.view.own g.core g.heap g.homes g.lock (put g.taker p 0) 0 w.heap w.journal (own_kept R s r id w at out)
        (lock_still R s r id w at out)
        (λ past is. (r.seats id w at).told_is out past is)
        (λ q e. dite (ℕ_discrete q p) (λ z. let u = put_here g.taker p 0 q z in absurd (omega arith)) (λ z. let u = (r.seats id w at).slot_is out q (far_home g.taker p n q e) in absurd (z (omega arith))))
        (λ m q d e. far_home g.taker p m q e)
        (set s.words 0 (get_or s.words 0 0)) (set s.homes (p + 1) (some Nothing))
        (words_found R g.core r.blocks g.lock s.words r.words 0) (found_counts R s r id w at out w.view.own (λ z. omega arith) refl (0))
        (stored_gives R g s.homes r.stored n w.view.own own w.view.own g.core p Nothing g.homes low (λ q d. omega arith) (λ q d. refl)
        (λ b e u. let z = u n w.view.own (Rattle.sweep_laws.proofs.Naming.set_here g.parts n w.view.own (Rattle.sweep_laws.proofs.Totals.inside_at g.parts n w.view.own own)) in absurd (omega arith))),
    refl,
  )

  pub return_allowed : (slots id : ℕ) (me : SeatState) (w : SeatView) (p : ℕ) (more : List (ℕ × Item)) → me ≡ (w, (p + 1, Nothing) ∷ more) → w.out ≡ true → p < R → w.slot_out ≡ p + 1 → 0 < lends p w.view.own
      → Allows (Ruled R) slots id me 0 (λ n. n) (Returned (step slots 0 0 0 none) me)
  return_allowed slots id me w p more is out low slot_out has = lift R slots id me 0 (λ n. n) (Returned (step slots 0 0 0 none) me) (ap (λ (z : SeatState). z.0.out) is ∙ out)
      (subst (λ (z : SeatState). Allows (Running R) slots id z 0 (λ n. n) (Returned (step slots 0 0 0 none) z)) (sym is) (return_known slots id w p more out low slot_out has))

  -- who has a page has one of the region
  lent_low : (s : State Item SeatView) (r : Running R s) (id : ℕ) (w : SeatView) (at : get_elem? s.views id ≡ some w) (out : w.out ≡ true) (p : ℕ) → 0 < lends p w.view.own → p < R
  lent_low s r id w at out p has = dite (dec_le (suc p) R) (λ l. l)
      (λ d. let g = r.joint in let k = (own_kept R s r id w at out).rule in let m = r.words.many in let le = lends-le p w.view.own in
      let none = own_never g.core g.heap g.homes w.number (along g.parts w.view) k p (omega arith) in let a = none.sweeping in let b = none.held in let c = none.cached in absurd (omega arith))

  fetch_runs : (slots id : ℕ) (me : SeatState) (p : ℕ) → me.0.out ≡ true → me.0.slot_out ≡ 0 → 0 < lends p me.0.view.own
      → Allows (Running R) slots id me 0 (λ n. n) (Fetched p (step slots 0 0 0 none) me)
  fetch_runs slots id me p out empty has s r _ at _ =
      let low = lent_low s r id me.0 at out p has in
      let w = me.0 in let g = r.joint in let n = w.number in let own = (r.seats id w at).own_is out in let home = r.stored.at_home p low (nobody (g.taker p) refl) in (
        with_slot p w,
        takes (p + 1) home.0,
        home.1,
        core_rule R s r id w at out w.view.own g.core g.heap g.homes g.lock (put g.taker p (n + 1)) (p + 1) w.heap w.journal (own_kept R s r id w at out)
            (lock_still R s r id w at out)
            (λ past is. (r.seats id w at).told_is out past is)
            (λ q z. dite (ℕ_discrete q p) (λ y. omega arith) (λ y. let u = (r.seats id w at).slot_is out q (sym (put_else g.taker p (n + 1) q y) ∙ z) in absurd (omega arith)))
            (λ m q d e. far_put g.taker p n m q d e)
            (set s.words 0 (get_or s.words 0 0)) (set s.homes (p + 1) none)
            (words_found R g.core r.blocks g.lock s.words r.words 0) (found_counts R s r id w at out w.view.own (λ z. omega arith) refl (0))
            (stored_takes R g s.homes r.stored n w.view.own own w.view.own g.core p g.homes low (λ q d. refl) (λ q d. omega arith) has),
        (home.0, refl),
      )
    where
      -- nobody has the slot out: whoever had it would have the page, and would be the worker itself
      nobody : (x : ℕ) → r.joint.taker p ≡ x → r.joint.taker p ≡ 0
      nobody zero e = e
      nobody (suc m) e =
          let w = me.0 in let g = r.joint in let n = w.number in let own = (r.seats id w at).own_is out in let k = (own_kept R s r id w at out).rule in let t = r.stored.taker_lent p m (e ∙ omega arith) in
          let inside : p < length g.core.words = (let l = lent_low s r id w at out p has in let y = r.words.many in omega arith) in
          dite (ℕ_discrete m n)
          (λ z. let u = (r.seats id w at).slot_is out p (e ∙ omega arith) in absurd (omega arith))
          (λ z. let a = lends-le p w.view.own in
          let y = alone g.core k.owned (parts_of n (along g.parts w.view)) k.hands p inside n w.view.own (part_at g.core g.heap g.homes n (along g.parts w.view) k) (omega arith) m t.0 z (set_else g.parts n w.view.own m z ∙ t.1) in
          let b = lends-le p t.0 in let c = t.2 in absurd (omega arith))

  pub fetch_allowed : (slots id : ℕ) (me : SeatState) (p : ℕ) → me.0.out ≡ true → me.0.slot_out ≡ 0 → 0 < lends p me.0.view.own
      → Allows (Ruled R) slots id me 0 (λ n. n) (Fetched p (step slots 0 0 0 none) me)
  fetch_allowed slots id me p out empty has = lift R slots id me 0 (λ n. n) (Fetched p (step slots 0 0 0 none) me) out (fetch_runs slots id me p out empty has)

  pub read_allowed : (slots id : ℕ) (me : SeatState) → me.0.out ≡ true → Allows (Ruled R) slots id me 1 (λ n. n) (Read (step slots 1 0 0 none) me)
  read_allowed slots id me out = lift R slots id me 1 (λ n. n) (Read (step slots 1 0 0 none) me) out (λ s r _ at _.
      let w = me.0 in let g = r.joint in let x = get_or s.words 1 0 in let part : Part = told (Reads 1 x) w.view.own in
      let k = own_kept R s r id w at out in let own = (r.seats id w at).own_is out in let shown : x ≡ g.core.generation = r.words.shows GenerationWord tt in
      let old = k.rule.owned.lives.generation.low in let early = k.rule.early in let gen = k.rule.generation in (
        says (Reads 1 x) w,
        keeps,
        tt,
        plain_rule R s r id w at out part g.core
            (kept_note g.core g.heap g.homes w.number (along g.parts w.view) k (Reads 1 x) tt tt)
            (set s.words 1 x) (words_found R g.core r.blocks g.lock s.words r.words 1) (found_counts R s r id w at out part (λ z. omega arith) refl (1))
            (stored_still R g s.homes r.stored w.number w.view.own own part g.core g.heap (λ _. refl) (λ q. omega arith)),
        (refl, omega arith, omega arith, omega arith),
      ))
