use Rattle.std.proofs.Common.{◌<◌, ◌^◌, ℕ, ap, subst, sym}
use Rattle.std.proofs.lemmas.Bool.{ltb-true}
use Rattle.sweep_laws.specs.Needs.{next_needs}
use Rattle.sweep_laws.specs.State.{CoreState}
use Rattle.sweep_laws.proofs.NeedsMet.{all_met}
use Rattle.sweep_generation.proofs.Seen.{kept-same-room}
use Rattle.sweep_generation.proofs.mark_end.next_marked.Goals as goal

pub invariant_of-core-2 : goal.invariant_of-core-2
invariant_of-core-2 c = kept-same-room _ c.mark_by.new.self _ c.in_ok-mark_by.ensures.ok c.core.invariant

pub begin_cycle-requires : goal.begin_cycle-requires
begin_cycle-requires c =
    let met = all_met (next_needs c.args.core.now c.args.marks.now.pairs) c.requires.met in
    let is = ap (λ (s : CoreState). s.generation) c.core.view_is in
    subst (λ (n : ℕ). n < 2 ^ 63) (sym is) (ltb-true c.args.core.now.generation (2 ^ 63) met.1.1.0)
