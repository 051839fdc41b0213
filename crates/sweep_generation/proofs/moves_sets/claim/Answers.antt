use Rattle.std.proofs.Common.{◌∙◌, ◌<◌, length, subst, ap, refl, sym}
use Rattle.std.specs.Vec.{with_item}
use Rattle.sweep_laws.specs.State.{CoreState, SetState}
use Rattle.sweep_laws.specs.ChangesOfHands.{claim_cell}
use Rattle.sweep_laws.specs.ChangesOfSets.{raise_tail}
use Rattle.sweep_generation.proofs.Seen.{set-changed, set-is, kept-set, swept-same, hand-changed, kept-hand, low-hand, low-set}
use Rattle.sweep_laws.specs.declared.moves.Reply.TheVariants.{Index}
use Rattle.sweep_generation.specs.Kept.{core_view}
use Rattle.sweep_laws.specs.declared.moves.Move.TheVariants.{Claim}
use Rattle.sweep_generation.proofs.Tried.{refused}
use Rattle.std.proofs.lemmas.Result.{err_from_is_err_and}
use Rattle.sweep_generation.proofs.moves_sets.claim.Goals as goal

pub raise_tail-index-requires : goal.raise_tail-index-requires
raise_tail-index-requires c = rw (← ap (λ (s : SetState). s.tail) (set-is c.core.inside c.args.core.now c.core.view_is c.args.set c.in_ok-try_claim.ensures.set c.index_mut.result.now c.index_mut.ensures.value)) c.in_ok-try_claim.ensures.tail

pub invariant_of-core : goal.invariant_of-core
invariant_of-core c =
    let k = kept-set c.core.inside c.args.set (low-set c.core.inside c.args.core.now c.core.view_is c.args.set c.in_ok-try_claim.ensures.set) c.index_mut.result.now c.raise_tail-index.new.self c.index_mut.ensures.value c.raise_tail-index.ensures.room
    _ (swept-same c.core.inside c.args.core.now c.core.view_is c.args.set c.in_ok-try_claim.ensures.part c.raise_tail-index.new.self c.core.invariant) c.core.invariant in
    kept-hand (record c.core.inside { sets = with_item c.core.inside.sets c.args.set c.raise_tail-index.new.self }) c.args.worker (low-hand c.core.inside c.args.core.now c.core.view_is c.args.worker c.in_ok-try_claim.ensures.worker) c.index_mut-2.result.now _ c.index_mut-2.ensures.value c.claim_cell.ensures.room k

pub returns : goal.returns
returns c =
    let index = c.raise_tail-index.ensures.index ∙ ap (λ (s : SetState). s.tail) (sym (set-is c.core.inside c.args.core.now c.core.view_is c.args.set c.in_ok-try_claim.ensures.set c.index_mut.result.now c.index_mut.ensures.value)) in
    let e = set-changed c.core.inside c.args.core.now c.core.view_is c.args.set c.in_ok-try_claim.ensures.set c.index_mut.result.now c.raise_tail-index.new.self raise_tail c.index_mut.ensures.value c.raise_tail-index.ensures.view in
    let f = hand-changed c.core.inside c.args.core.now c.core.view_is c.args.worker c.in_ok-try_claim.ensures.worker c.index_mut-2.result.now c.claim_cell.new.self (claim_cell c.args.set c.raise_tail-index.result c.args.page) c.index_mut-2.ensures.value c.claim_cell.ensures.view in
    let low = subst (λ (s : CoreState). c.args.set < length s.sets) (sym c.core.view_is) c.in_ok-try_claim.ensures.set in
    let i = c.raise_tail-index.ensures.index ∙ ap (λ (s : SetState). s.tail) (sym (set-is c.core.inside (core_view c.core.inside) refl c.args.set low c.index_mut.result.now c.index_mut.ensures.value)) in
    (c.in_ok-try_claim.ensures.tried, rw (← c.core.view_is, e, f, i) refl, ap Index index)

pub returns-in_err-try_claim : goal.returns-in_err-try_claim
returns-in_err-try_claim c =
    let p = err_from_is_err_and c.from_residual.result c.from_residual.ensures.1 in
    rw (p.1, p.2) (refused (Unit {0}) c.args.core.now (Claim c.args.worker c.args.set c.args.page) _ c.in_err-try_claim.ensures.tried)
