use Rattle.std.proofs.Common.{◌∙◌, ℕ, ap, arith, List, get_or, sym, subst}
use Rattle.cycle_history.specs.declared.Answer.{Answer}
use Rattle.cycle_history.specs.Before.{IsLimited}
use Rattle.tiny_alloc.specs.declared.base.Based.{Based}
use Rattle.tiny_alloc.specs.declared.part.Part.{Part}
use Rattle.tiny_alloc.specs.declared.part.Part.TheVariants.{Other}
use Rattle.tiny_alloc.specs.Base.{IsBase, IsBaseBy}
use Rattle.tiny_alloc.specs.Marks.{HaveLeads}
use Rattle.tiny_alloc.specs.Parts.{part_by}
use Rattle.tiny_alloc.specs.Riders.{part_at}
use Rattle.tiny_alloc.proofs.Leads.{ok-map}
use Rattle.tiny_alloc.proofs.Limited.{base-limited}
use Rattle.tiny_alloc.proofs.Listed.{base-by}
use Rattle.tiny_alloc.proofs.Parted.{leads-few}
use Rattle.tiny_alloc.proofs.base.base_of.Goals as goal

pub based_by-requires-clause-leads : goal.based_by-requires-clause-leads
based_by-requires-clause-leads c =
    let size = c.in_ok-parts.ensures.size in
    let few = c.requires.limited.objects in
    subst (λ (xs : List Part). HaveLeads (part_by xs)) (sym c.as_slice-3.ensures.value)
    (leads-few c.args.trace.now c.as_slice.result.now c.in_ok-parts.parts.items c.in_ok-parts.ensures.parts (omega arith))

pub returns-clause-base : goal.returns-clause-base
returns-clause-base c =
    let t = c.args.trace.now in
    let answers = c.args.answers.now in
    let parts = c.as_slice-3.result.now in
    let agree = λ (i : ℕ). ap (λ (xs : List Part). get_or xs i Other) c.as_slice-3.ensures.value ∙ c.in_ok-parts.ensures.parts i ∙ ap (λ (xs : List Answer). part_at t xs i) c.as_slice.ensures in
    ok-map c.based_by.result (λ (based : Based). IsBaseBy (part_by parts) t c.as_slice-2.result.now based) (IsBase t answers)
    (λ based is. base-by (part_by parts) (part_at t answers) t answers based agree (subst (λ (xs : List Answer). IsBaseBy (part_by parts) t xs based) c.as_slice-2.ensures is))
    c.based_by.ensures

pub returns-clause-limited : goal.returns-clause-limited
returns-clause-limited c =
    let t = c.args.trace.now in
    let answers = c.args.answers.now in
    let parts = c.as_slice-3.result.now in
    let agree = λ (i : ℕ). ap (λ (xs : List Part). get_or xs i Other) c.as_slice-3.ensures.value ∙ c.in_ok-parts.ensures.parts i ∙ ap (λ (xs : List Answer). part_at t xs i) c.as_slice.ensures in
    ok-map c.based_by.result (λ (based : Based). IsBaseBy (part_by parts) t c.as_slice-2.result.now based) (λ (based : Based). IsLimited based.trace)
    (λ based is. base-limited t answers based c.requires.limited
    (base-by (part_by parts) (part_at t answers) t answers based agree (subst (λ (xs : List Answer). IsBaseBy (part_by parts) t xs based) c.as_slice-2.ensures is)))
    c.based_by.ensures
