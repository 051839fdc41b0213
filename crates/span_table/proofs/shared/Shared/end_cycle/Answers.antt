use Rattle.std.proofs.Common.{◌≡◌, ◌++◌, ℕ, List, eqb, eq-eqb, sym, ap, ◌∙◌, subst}
use Rattle.std.specs.Prelude.{Some}
use Rattle.page_alloc.specs.Journal.{AreAllowed}
use Rattle.page_bitmap.specs.declared.line.Line.{Line}
use Rattle.span_laws.specs.Cycle.{EndsCycle, cycle_ended}
use Rattle.span_laws.specs.Views.{Seen}
use Rattle.span_table.specs.Asks.{HasEnded}
use Rattle.span_table.specs.Known.{known}
use Rattle.span_table.specs.Seats.{SeatState, hears, locks, unlocks}
use Rattle.span_table.proofs.Resting.{rests_bare}
use Rattle.span_table.proofs.shared.Shared.end_cycle.Goals as goal

pub lock_alone-heap-requires-clause-alone : goal.lock_alone-heap-requires-clause-alone
lock_alone-heap-requires-clause-alone c = (
  c.driver.invariant.drives ∙ ap (λ (k : Seen). eqb k.number 69) c.driver.view_is ∙ eq-eqb c.args.driver.now.number 69 c.requires.may.rest.driver,
  ap (λ (k : Seen). k.away) c.driver.view_is ∙ c.requires.works.1,
)

pub unlock_settled-requires-clause-alone : goal.unlock_settled-requires-clause-alone
unlock_settled-requires-clause-alone c = (
  ap (λ (z : SeatState). z.0.drives) c.lock_alone-heap.ensures.view ∙ c.driver.invariant.drives ∙ ap (λ (k : Seen). eqb k.number 69) c.driver.view_is ∙ eq-eqb c.args.driver.now.number 69 c.requires.may.rest.driver,
  ap (λ (z : SeatState). z.0.away) c.lock_alone-heap.ensures.view ∙ ap (λ (k : Seen). k.away) c.driver.view_is ∙ c.requires.works.1,
)

pub unlock_settled-requires-clause-bare : goal.unlock_settled-requires-clause-bare
unlock_settled-requires-clause-bare c = let i = c.driver.inside in
    ap (λ (z : SeatState). z.0.view.own.cache) c.lock_alone-heap.ensures.view
    ∙ rests_bare i.number i.generation i.goal i.spares i.cache i.line i.seat.table_id i.seat.me c.driver.invariant
    (c.driver.invariant.drives ∙ ap (λ (k : Seen). eqb k.number 69) c.driver.view_is ∙ eq-eqb c.args.driver.now.number 69 c.requires.may.rest.driver)

pub returns : goal.returns
returns c = let h = c.lock_alone-heap.result in let seen = c.lock_alone-heap.ensures.heap in let s = c.driver.inside.seat.me.0 in
    let e : HasEnded h.past (locks h s) = subst (λ (z : SeatState). HasEnded h.past z.0) c.lock_alone-heap.ensures.view c.unlock_settled.ensures.ended in
    let past = e.2 ∙ ap (λ (k : Seen). e.0 ++ k.view.before) c.driver.view_is in
    let viewed : c.unlock_settled.new.seat.me.0 ≡ unlocks (hears (Some h.past) (locks h s)) = ap (λ (z : SeatState). z.0) c.unlock_settled.ensures.view ∙ ap (λ (z : SeatState). unlocks (hears (Some h.past) z.0)) c.lock_alone-heap.ensures.view in (
      e.0,
      e.1,
      (λ i. known ((c.unlock_settled.ensures.table ∙ c.lock_alone-heap.ensures.table) i) (viewed i)) ∙ (λ i. record (c.driver.view_is i) { journal = Some (past i) }),
      (λ journal is. sym past ∙ seen.told journal (ap (λ (k : Seen). k.journal) c.driver.view_is ∙ is)),
      subst (λ (k : Seen). EndsCycle k.view.region k.view.goal (cycle_ended k.number k.view e.0 e.1)) c.driver.view_is e.3,
      subst (λ (z : ℕ × List Line). AreAllowed z.0 z.1) (λ i. ((c.driver.view_is i).view.procs, past i)) e.4,
    )
