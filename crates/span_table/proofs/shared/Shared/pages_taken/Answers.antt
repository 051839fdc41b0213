use Rattle.std.proofs.Common.{ℕ, ap, ◌∙◌, subst}
use Rattle.page_alloc.specs.Journal.{LegalFor}
use Rattle.page_alloc.specs.Owners.{taken}
use Rattle.span_laws.specs.Views.{Seen}
use Rattle.span_table.proofs.shared.Shared.pages_taken.Goals as goal

pub returns-clause-taken : goal.returns-clause-taken
returns-clause-taken g c = let h = c.lock-heap.result in let seen = c.lock-heap.ensures.heap in (
  h.past,
  subst (λ (k : Seen). LegalFor k.view.procs k.view.region k.view.goal h.past) c.w.view_is (subst (λ (z : ℕ × ℕ). LegalFor c.w.inside.seat.me.0.view.procs z.0 z.1 h.past) (λ i. (seen.region i, seen.goal i)) seen.legal),
  (λ known is. seen.told known (ap (λ (k : Seen). k.journal) c.w.view_is ∙ is)),
  c.taken-taken.ensures ∙ ap (λ (z : ℕ). taken z h.past) (seen.region ∙ ap (λ (k : Seen). k.view.region) c.w.view_is),
)
