use Rattle.std.proofs.Common.{◌≡◌, ℕ, ap, eqb, ◌∙◌, subst}
use Rattle.page_alloc.specs.Journal.{LegalFor}
use Rattle.span_laws.specs.ScavengeAnswers.{told_if}
use Rattle.span_laws.specs.Views.{Seen}
use Rattle.span_table.specs.Known.{known}
use Rattle.span_table.specs.Seats.{SeatState, hears, locks, unlocks}
use Rattle.span_table.proofs.shared.Shared.learn_journal.Goals as goal

pub returns : goal.returns
returns c = let h = c.lock_alone-heap.result in let seen = c.lock_alone-heap.ensures.heap in let s = c.driver.inside.seat.me.0 in
    let drives = c.driver.invariant.drives ∙ ap (λ (k : Seen). eqb k.number 69) c.driver.view_is ∙ c.requires.drives in
    let viewed : c.unlock_told.new.seat.me.0 ≡ unlocks (hears (told_if s.drives h.past) (locks h s)) = ap (λ (z : SeatState). z.0) c.unlock_told.ensures.view ∙ ap (λ (z : SeatState). unlocks (hears (told_if z.0.drives h.past) z.0)) c.lock_alone-heap.ensures.view in (
      h.past,
      subst (λ (k : Seen). LegalFor k.view.procs k.view.region k.view.goal h.past) c.driver.view_is (subst (λ (z : ℕ × ℕ). LegalFor c.driver.inside.seat.me.0.view.procs z.0 z.1 h.past) (λ i. (seen.region i, seen.goal i)) seen.legal),
      (λ past is. seen.told past (ap (λ (k : Seen). k.journal) c.driver.view_is ∙ is)),
      (λ i. known ((c.unlock_told.ensures.table ∙ c.lock_alone-heap.ensures.table) i) (viewed i)) ∙ (λ i. record (c.driver.view_is i) { journal = told_if (drives i) h.past }),
    )
