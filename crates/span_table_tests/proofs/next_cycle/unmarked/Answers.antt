use Rattle.std.proofs.Common.{◌≡◌, ◌∙◌, ◌<◌, ℕ, true, ◌&&◌, ◌||◌, eqb, List, sym, ap, subst}
use Rattle.std.proofs.lemmas.Bool.{eqb-true}
use Rattle.sweep_laws.proofs.NeedsMet.{both}
use Rattle.span_state.specs.MarkSet.{has_pair}
use Rattle.worker_log.specs.Entries.{many}
use Rattle.span_laws.specs.Logs.{is_placing_at}
use Rattle.span_laws.specs.Views.{Seen}
use Rattle.span_table_tests.specs.Rows.{HasPlaced}
use Rattle.span_table_tests.proofs.Driving.{own_of}
use Rattle.span_table_tests.proofs.next_cycle.unmarked.Goals as goal

-- the one pair is that of the first span
of_one : (w : Seen) (p q k : ℕ) → HasPlaced p w → (eqb q p && eqb k 0) ≡ true → 0 < many (is_placing_at q k) w.view.own.log
of_one w p q k h e = let t = both (eqb q p) (eqb k 0) e in subst (λ (z : ℕ × ℕ). 0 < many (is_placing_at z.0 z.1) w.view.own.log) (λ i. (sym (eqb-true q p t.0) i, sym (eqb-true k 0 t.1) i)) h

pub turn-requires-clause-placed : goal.turn-requires-clause-placed
turn-requires-clause-placed g c = λ q k e. of_one c.place-2.new.w c.in_ok-first.first q k (c.in_ok-second.ensures.others c.in_ok-first.first 0 c.in_ok-first.ensures.placed)
    (ap (λ (l : List (ℕ × ℕ)). has_pair l q k || (eqb q c.in_ok-first.first && eqb k 0)) (sym c.empty-marks.ensures.pairs) ∙ sym (c.in_ok-add.ensures.marked q k) ∙ e)

pub acquire_unmarked-requires-clause-unpopped : goal.acquire_unmarked-requires-clause-unpopped
acquire_unmarked-requires-clause-unpopped g c = (own_of c.args.shared.now c.turn.new.w c.in_ok-turn.ensures.turned.idle).popped

pub acquire_unmarked-requires-2-clause-unpopped : goal.acquire_unmarked-requires-2-clause-unpopped
acquire_unmarked-requires-2-clause-unpopped g c = ap (λ (x : Seen). x.view.own.popped) c.in-None.ensures.2 ∙ (own_of c.args.shared.now c.turn.new.w c.in_ok-turn.ensures.turned.idle).popped
