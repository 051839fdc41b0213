-- A span is given back under the heap lock: its word becomes 0, and its body is nobody's. The heap has the runs of the spans that a worker
-- holds, which the worker is told with the lock.
use Rattle.std.proofs.Common.{◌≡◌, ◌≢◌, ℕ, ◌+◌, ◌<◌, ◌≤◌, true, true≢false, not, List, length, get_or, set, refl, sym, ap, subst, ◌∙◌, arith}
use Rattle.std.specs.Prelude.{None, Some, Option}
use mathlib.Core.Logic.{dite}
use mathlib.Core.Option.{none, some}
use native.Mathlib.Decide.{dec_le}
use lib.ListN.{get_elem?}
use Rattle.atomic_table.specs.Table.{State, keeps, step, Allows}
use Rattle.page_alloc.specs.Heap.{AddsLine, PageHeap}
use Rattle.page_alloc.specs.Lists.{In}
use Rattle.page_alloc.specs.Lives.{Life, open_lives}
use Rattle.page_bitmap.specs.declared.line.Line.{Line}
use Rattle.page_bitmap.specs.declared.line.Line.TheVariants.{Give as GiveLine}
use Rattle.sound_run.proofs.Journals.{covers, lies}
use Rattle.span_state.specs.declared.body.Body.{Body}
use Rattle.sweep_laws.specs.Changes.{after_give}
use Rattle.sweep_laws.specs.Lists.{has}
use Rattle.sweep_laws.specs.Named.{only}
use Rattle.sweep_laws.specs.Reading.{life_in}
use Rattle.sweep_laws.specs.State.{CoreState, HandState}
use Rattle.sweep_laws.specs.Step.{after}
use Rattle.sweep_laws.specs.declared.moves.Move.TheVariants.{Give, Lock, Unlock}
use Rattle.sweep_laws.proofs.Naming.{times_erase_else}
use Rattle.worker_log.specs.SweptLast.{is_swept_last}
use Rattle.span_laws.specs.Asks.{HasBody}
use Rattle.span_laws.specs.BodyAsks.{IsEmptyBody}
use Rattle.span_laws.specs.Bodies.{Fits, is_claimed, lends}
use Rattle.span_laws.specs.OwnSteps.{told}
use Rattle.span_laws.specs.Cycle.{Kept}
use Rattle.span_laws.specs.TakeAnswers.{cycle_at}
use Rattle.span_laws.specs.Views.{span_of}
use Rattle.span_laws.specs.declared.said.Said.TheVariants.{Gives}
use Rattle.span_laws.specs.declared.view.Part.{Part}
use Rattle.span_laws.specs.declared.view.View.{View}
use Rattle.span_laws.proofs.Allowed.{give_allowed as give_met, lock_allowed as lock_met, unlock_given}
use Rattle.span_laws.proofs.Kept.{kept_give}
use Rattle.span_laws.proofs.Ready.{first_in}
use Rattle.span_laws.proofs.RuleKept.{log_own, low_number, own_hand, part_at}
use Rattle.span_laws.proofs.Uses.{held_fits, held_low}
use Rattle.span_table.specs.Turning.{Ruled}
use Rattle.span_table.proofs.Ruling.{lift}
use Rattle.span_table.specs.Asks.{HasRun, MayGive}
use Rattle.span_table.specs.Plays.{Gave}
use Rattle.span_table.specs.Running.{Running}
use Rattle.span_table.specs.Seats.{SeatState, locks, says}
use Rattle.span_table.specs.declared.view.Item.{Item}
use Rattle.span_table.specs.declared.view.SeatView.{SeatView}
use Rattle.span_table.proofs.Adaptors.{none_some}
use Rattle.span_table.proofs.Core.{core_rule, lock_kept, own_kept, still_counts}
use Rattle.span_table.proofs.Joined.{along}
use Rattle.span_table.proofs.Lending.{held_lent}
use Rattle.span_table.proofs.Made.{made}
use Rattle.span_table.proofs.StoredKept.{stored_drops}
use Rattle.span_table.proofs.WordsKept.{words_page}

-- the run of a span that a worker holds
module _ (c : CoreState) (heap : PageHeap) (homes : List (Option Body)) (n : ℕ) (v : View) (all : Kept c heap homes n v) (b : Body) (f : Fits all.rule.known c.lives b.page (span_of b)) where
  -- the lives that the journal has open
  open_here : (l : Life) → In l (open_lives heap.past) → l.page ≡ b.page → l.pages ≡ b.pages
  open_here l here at = let y = all.cycle in
      let shown = y.blocks.lives l (subst (λ (past : List Line). In l (open_lives past)) y.since here) in
      sym shown.1.pages ∙ ap (λ (p : ℕ). (life_in p c.lives).pages) at ∙ sym f.body.pages

  -- one that it swept last is an old one, which is in the journal
  pub run_here : is_swept_last b.page v.own.log ≡ true → HasRun heap b
  run_here last = let k = all.rule in let y = all.cycle in
      let old = y.shows.tell.old n b.page (ap (is_swept_last b.page) (log_own c heap homes n v k v.own) ∙ last) in
      let l = old.0 in let here = subst (λ (past : List Line). In l (open_lives past)) (sym y.since) old.1 in let page = old.2 in
      let w = lies heap.region heap.goal heap.past l k.legal here in let some = w.0 in let end = w.1 in record {
        low = omega arith;
        begins = covers heap.region heap.goal heap.past l b.page k.legal here (omega arith) (omega arith) ∙ ap Some page;
        pages = open_here;
      }

  none_allocated : IsEmptyBody b → length (life_in b.page c.lives).allocated ≡ 0
  none_allocated empty = dite (dec_le (length (life_in b.page c.lives).allocated) 0) (λ z. omega arith)
      (λ z. let i = first_in (life_in b.page c.lives).allocated (omega arith) in absurd (true≢false (sym i.1 ∙ sym (f.body.bits i.0) ∙ empty i.0)))

-- of each other page the worker has what it had
given_lends : (h : Part) (p pages q : ℕ) → q ≢ p → lends q h ≤ lends q (told (Gives p pages) h)
given_lends h p pages q d = let u = ap (only (not (is_claimed q h.claimed))) (times_erase_else q p h.held d) in omega arith

module _ (R : ℕ) where
  -- with the lock a worker is told of the runs of its spans
  pub has_runs : (s : State Item SeatView) (r : Running R s) (id : ℕ) (w : SeatView) (at : get_elem? s.views id ≡ some w) (out : w.out ≡ true) (b : Body)
      → has b.page w.view.own.held ≡ true → w.view.own.claimed ≡ None → HasBody w.view.own b → is_swept_last b.page w.view.own.log ≡ true → HasRun r.joint.heap b
  has_runs s r id w at out b held free lent last = let g = r.joint in let k = own_kept R s r id w at out in
      run_here g.core g.heap g.homes w.number (along g.parts w.view) k b (held_fits g.core g.heap g.homes w.number (along g.parts w.view) k.rule b held free lent) last

  module _ (slots id : ℕ) (me : SeatState) (h heap' : PageHeap) (b : Body) (out : me.0.out ≡ true) (empty : me.0.slot_out ≡ 0) (mine : me.0.heap ≡ Some h) (line : AddsLine h heap' (GiveLine (cycle_at me.0.view.generation) b.page b.pages)) (may : MayGive b me.0) where
    give_runs : Allows (Running R) slots id me (b.page + 75) (λ _. 0) (λ _. Gave (span_of b) heap' (step slots (b.page + 75) 0 0 none) me 0)
    give_runs s r _ at _ =
        let w = me.0 in let g = r.joint in let c = g.core in let n = w.number in let v = along g.parts w.view in let p = b.page in
        let k = own_kept R s r id w at out in let own = (r.seats id w at).own_is out in let held = (r.seats id w at).lock_is out h mine in
        let line₀ : AddsLine g.heap heap' (GiveLine (cycle_at w.view.generation) p b.pages) = subst (λ (z : PageHeap). AddsLine z heap' (GiveLine (cycle_at w.view.generation) p b.pages)) (sym held.1) line in
        let fits = held_fits c g.heap g.homes n v k.rule b may.held may.unclaimed may.lent in
        let low₀ = held_low c g.heap g.homes n v k.rule b may.held may.unclaimed may.lent in let many = r.words.many in let low : p < R = omega arith in
        let number = low_number c g.heap g.homes n v k.rule in let hand = own_hand c g.heap g.homes n v k.rule in
        let nothing = none_allocated c g.heap g.homes n v k b fits may.empty in
        let has_it : 0 < lends p w.view.own = held_lent p w.view.own may.held may.unclaimed in
        let bare : get_or g.homes p None ≡ None = k.rule.bodies.gone n w.view.own (part_at c g.heap g.homes n v k.rule) p has_it in
        let a = made c (Lock n) (record { owned = k.rule.owned; tidy = k.rule.tidy; space = k.rule.space }) (lock_met c n number k.rule.unlocked) tt in
        let t = made (after c (Lock n)) (Give n p) a (give_met c n p number low₀ (ap (λ (x : HandState). has p x.held) hand ∙ may.held) (ap (λ (x : HandState). x.claimed) hand ∙ may.unclaimed) nothing) tt in
        let z = made (after (after c (Lock n)) (Give n p)) (Unlock n) t (unlock_given c n p number) tt in
        let c' : CoreState = record (after_give c n p) { lock = None } in
        let part : Part = told (Gives p b.pages) w.view.own in (
          locks heap' (says (Gives p b.pages) w),
          keeps,
          tt,
          core_rule R s r id w at out part c' heap' g.homes g.lock g.taker w.slot_out (Some heap') None
              (kept_give c g.heap g.homes n v k p b.pages low₀ may.held may.unclaimed nothing (sym fits.body.pages) may.last (cycle_at w.view.generation) (ap cycle_at k.rule.generation) heap' line₀ c' refl z.owned z.tidy z.space)
              (lock_kept R s r id w at out heap' held.0)
              (λ past is. none_some past is)
              (λ q is. (r.seats id w at).slot_is out q is)
              (λ m q d e. e)
              (set s.words (p + 75) 0) s.homes
              (words_page R c r.blocks g.lock s.words r.words c' p 0 low refl refl refl) (still_counts R s r id w at out part (λ y. omega arith) refl (p + 75) 0 (λ y a l e. omega arith))
              (stored_drops R g s.homes r.stored n w.view.own own part c' heap' p (λ e. let l = held.0 in absurd (omega arith)) bare (λ e. let u = (r.seats id w at).slot_is out p e in omega arith) (λ q d. given_lends w.view.own p b.pages q d)),
          refl,
        )

    pub give_allowed : Allows (Ruled R) slots id me (b.page + 75) (λ _. 0) (λ _. Gave (span_of b) heap' (step slots (b.page + 75) 0 0 none) me 0)
    give_allowed = lift R slots id me (b.page + 75) (λ _. 0) (λ _. Gave (span_of b) heap' (step slots (b.page + 75) 0 0 none) me 0) out give_runs
