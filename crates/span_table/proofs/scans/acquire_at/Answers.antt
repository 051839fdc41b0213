use Rattle.std.proofs.Common.{inl, inr, ℕ, true≢false, List, refl, sym, subst, ◌∙◌}
use Rattle.sweep_reads.specs.Waiting.{HasNoMark}
use Rattle.span_table.proofs.scans.acquire_at.Goals as goal

pub returns-then-has_mark : goal.returns-then-has_mark
returns-then-has_mark c = inl ((λ u. true≢false (sym c.if-has_mark.true ∙ c.has_mark.ensures.1 (subst (λ (l : List (ℕ × ℕ)). HasNoMark l c.args.page) (sym c.requires.marks) u))), refl)

pub returns-in-Got : goal.returns-in-Got
returns-in-Got c = (subst (λ (l : List (ℕ × ℕ)). HasNoMark l c.args.page) c.requires.marks (c.has_mark.ensures.0 c.if-has_mark.false), c.in-Got.ensures)

pub returns-in-Other : goal.returns-in-Other
returns-in-Other c = let s = c.in-Other.ensures in inr (c.in-Other.field-0, s.0, s.1)
