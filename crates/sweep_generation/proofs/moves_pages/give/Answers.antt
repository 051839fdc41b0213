use Rattle.std.proofs.Common.{◌∙◌, ℕ, List, Option, length, ap, refl}
use Rattle.sweep_laws.specs.ChangesOfHands.{let_go}
use Rattle.sweep_generation.proofs.Seen.{hand-changed, low-hand, kept-hand, kept-word, kept-owners, kept-same-room, items-whole}
use Rattle.sweep_laws.specs.declared.moves.Move.TheVariants.{Give}
use Rattle.sweep_generation.proofs.Tried.{refused}
use Rattle.std.proofs.lemmas.Result.{err_from_is_err_and}
use Rattle.sweep_generation.proofs.moves_pages.give.Goals as goal

pub invariant_of-core : goal.invariant_of-core
invariant_of-core c =
    kept-word _ c.put.new.self c.args.page _ c.put.ensures (kept-owners _ c.put_owner.new.owners (kept-same-room _ c.drop_life-pages.new.self _ c.drop_life-pages.ensures.lives
    (kept-hand c.core.inside c.args.worker (low-hand c.core.inside c.args.core.now c.core.view_is c.args.worker c.in_ok-try_give.ensures.worker) c.index_mut.result.now _ c.index_mut.ensures.value c.let_go.ensures.room c.core.invariant)))

pub returns : goal.returns
returns c =
    let f = hand-changed c.core.inside c.args.core.now c.core.view_is c.args.worker c.in_ok-try_give.ensures.worker c.index_mut.result.now c.let_go.new.self (let_go c.args.page) c.index_mut.ensures.value c.let_go.ensures.view in (
      c.in_ok-try_give.ensures.tried,
      rw (← c.core.view_is, c.put.ensures, f, items-whole c.core.inside.owners c.put_owner.new.owners (c.put_owner.auto.owners ∙ ap (λ (xs : List (Option ℕ)). length xs) c.deref_mut.ensures.value), c.put_owner.ensures, c.deref_mut.ensures.value, c.drop_life-pages.ensures.lives, c.drop_life-pages.ensures.pages) refl,
      refl,
    )

pub returns-in_err-try_give : goal.returns-in_err-try_give
returns-in_err-try_give c =
    let p = err_from_is_err_and c.from_residual.result c.from_residual.ensures.1 in
    rw (p.1, p.2) (refused (Unit {0}) c.args.core.now (Give c.args.worker c.args.page) _ c.in_err-try_give.ensures.tried)
