use Rattle.std.proofs.Common.{◌∙◌, ℕ, ap, sym}
use Rattle.std.specs.Prelude.{option_map}
use Rattle.std.specs.List.{prefix_len}
use Rattle.std.proofs.lemmas.List.Sums.{prefix_len-le-length}
use Rattle.sweep_laws.specs.Reading.{allocated_at}
use Rattle.sweep_laws.specs.NeedsOfMarkEnd.{wrong_mark}
use Rattle.sweep_generation.proofs.Runs.{is_of, wrong_past, wrong_first}
use Rattle.sweep_generation.proofs.state.Core.wrong_mark.Goals as goal

pub split_at-requires : goal.split_at-requires
split_at-requires c =
    let page = c.in-Some.mark.now.0 in
    rw c.count_allocated-count.ensures (prefix_len-le-length (is_of page (allocated_at c.args.self.now page)) c.loop-mark.rest.now)

pub loop-mark-preserved : goal.loop-mark-preserved
loop-mark-preserved c =
    rw (c.split_at.ensures.back, c.count_allocated-count.ensures)
    (c.loop-mark.invariant ∙ ap (option_map (λ (mark : ℕ × ℕ). mark.1)) (wrong_past c.args.self.now c.in-Some.mark.now.0 c.loop-mark.rest.now))

pub returns-then-count-eq0 : goal.returns-then-count-eq0
returns-then-count-eq0 c =
    let page = c.in-Some.mark.now.0 in
    let at = c.in-Some.ensures.cases.0 in
    let none = sym (ap (prefix_len (is_of page (allocated_at c.args.self.now page))) at) ∙ sym c.count_allocated-count.ensures ∙ c.if-count-eq0.true in
    sym (c.loop-mark.invariant ∙ ap (wrong_mark c.args.self.now) at
    ∙ ap (option_map (λ (mark : ℕ × ℕ). mark.1)) (wrong_first c.args.self.now c.in-Some.mark.now c.in-Some.field-0-1.now none))
