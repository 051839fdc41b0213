use Rattle.std.proofs.Common.{sym, ap, ◌∙◌}
use Rattle.trace_reader.specs.Draft.{marks_in}
use Rattle.trace_reader.proofs.Keeping.{kept_last}
use Rattle.trace_reader.proofs.draft.kept_by.Goals as goal

pub returns-in_default-mark : goal.returns-in_default-mark
returns-in_default-mark c = let last = rw c.in-Some.is at c.last.ensures.value in sym (kept_last c.args.cycles.now c.in-Some.last.now last ∙ ap marks_in c.in_default-mark.is)

pub returns : goal.returns
returns c = let last = rw c.in-Some.is at c.last.ensures.value in c.as_slice.ensures ∙ sym (kept_last c.args.cycles.now c.in-Some.last.now last ∙ ap marks_in c.in-Some-mark.is)
