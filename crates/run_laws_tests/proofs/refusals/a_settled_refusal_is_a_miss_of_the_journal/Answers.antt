use Rattle.std.proofs.Common.{◌≡◌, List, ◌++◌, Some, sym, ◌∙◌, ap, subst}
use Rattle.page_bitmap.specs.declared.line.Line.{Line}
use Rattle.span_laws.specs.TakeAnswers.{cycle_at}
use Rattle.span_laws.specs.Views.{Seen}
use Rattle.run_laws_tests.specs.Refusals.{IsMissOf}
use Rattle.run_laws_tests.proofs.Missing.{miss_of}
use Rattle.run_laws_tests.proofs.refusals.a_settled_refusal_is_a_miss_of_the_journal.Goals as goal

pub returns : goal.returns
returns c = λ old new w x past settles told at.
    let all = settles.0 ++ old.view.before in
    let both : Some past ≡ Some all = sym told ∙ ap (λ (s : Seen). s.journal) settles.2 in
    let same : all ≡ past = cc in
    subst (λ (l : List Line). IsMissOf old.view.region l (cycle_at old.view.generation) x) same
    (miss_of old.view.region old.view.goal (cycle_at old.view.generation) x all settles.4.writes.legal (settles.4.misses.named w x at))
