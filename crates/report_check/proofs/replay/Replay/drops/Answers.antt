use Rattle.std.proofs.Common.{◌≡◌, ◌<◌, false, Option, Some, sym, ◌∙◌, refl, ap, arith}
use Rattle.std.specs.Prelude.{is_some}
use Rattle.page_bitmap.specs.declared.line.Line.TheVariants.{Drop}
use Rattle.page_cache.specs.declared.block.Block.{Block}
use Rattle.page_cache.specs.Cache.{Cache}
use Rattle.report_check.specs.Replays.{procs_in}
use Rattle.report_check.proofs.Steps.{of-settled}
use Rattle.report_check.proofs.Moves.{StandsAt, accept-drop, drop-by, drop-cut, refuse-left, refuse-none, same-place, some-out}
use Rattle.report_check.proofs.replay.Replay.drops.Goals.{then-block-page-via-then-block-page, then-block-page-via-else-block-page+then-count-n}
use Rattle.report_check.proofs.replay.Replay.drops.Goals as goal

pub returns-in_default : goal.returns-in_default
returns-in_default c =
    let inside : c.args.proc < procs_in c.args.self.now = (let len = c.len.ensures in let lt = c.if-index-len.false in omega (arith, c.args.self.now.caches.ok.0)) in
    let at : StandsAt c.args.self.now c.args.proc c.index.result.now = record { inside = inside; value = c.index.ensures } in
    let off : is_some c.index.result.now.block ≡ false = ap (λ (o : Option Block). is_some o) (sym c.block.ensures.block ∙ c.in_default.is) in
    refuse-none c.args.self.now c.args.cycle c.args.proc c.args.page c.args.n c.index.result.now c.requires.sound at off

pub returns-then-block-page : goal.returns-then-block-page
returns-then-block-page c =
    let inside : c.args.proc < procs_in c.args.self.now = (let len = c.len.ensures in let lt = c.if-index-len.false in omega (arith, c.args.self.now.caches.ok.0)) in
    let at : StandsAt c.args.self.now c.args.proc c.index.result.now = record { inside = inside; value = c.index.ensures } in
    let here : c.index.result.now.block ≡ Some c.in-Some.block = sym c.block.ensures.block ∙ c.in-Some.is in
    elim c.then-block-page.branch [
      | then-block-page-via-then-block-page w ↦
          refuse-left c.args.self.now c.args.cycle c.args.proc c.args.page c.args.n c.index.result.now c.in-Some.block c.requires.sound c.requires.order at here (λ both. w.if-block-page.true both.0)
      | then-block-page-via-else-block-page+then-count-n w ↦
          refuse-left c.args.self.now c.args.cycle c.args.proc c.args.page c.args.n c.index.result.now c.in-Some.block c.requires.sound c.requires.order at here (λ both. w.if-count-n.true (w.count.ensures ∙ both.1))
    ]

pub settle-requires-clause-cycle : goal.settle-requires-clause-cycle
settle-requires-clause-cycle c =
    let inside : c.args.proc < procs_in c.args.self.now = (let len = c.len.ensures in let lt = c.if-index-len.false in omega (arith, c.args.self.now.caches.ok.0)) in
    let at : StandsAt c.args.self.now c.args.proc c.index_mut.result.now = record { inside = inside; value = c.index_mut.ensures.value } in
    drop-by c.args.self.now c.args.cycle c.args.proc c.args.page c.args.n c.index_mut.result.now c.requires.sound c.requires.order at

pub settle-requires-clause-blocks : goal.settle-requires-clause-blocks
settle-requires-clause-blocks c = of-settled c.args.self.now (Drop c.args.cycle c.args.proc c.args.page c.args.n) c.requires.order

pub settle-requires-clause-cut : goal.settle-requires-clause-cut
settle-requires-clause-cut c =
    let inside : c.args.proc < procs_in c.args.self.now = (let len = c.len.ensures in let lt = c.if-index-len.false in omega (arith, c.args.self.now.caches.ok.0)) in
    let at : StandsAt c.args.self.now c.args.proc c.index.result.now = record { inside = inside; value = c.index.ensures } in
    let at' : StandsAt c.args.self.now c.args.proc c.index_mut.result.now = record { inside = inside; value = c.index_mut.ensures.value } in
    let here : c.index.result.now.block ≡ Some c.in-Some.block = sym c.block.ensures.block ∙ c.in-Some.is in
    let same = same-place c.args.self.now c.args.proc c.index_mut.result.now c.index.result.now at' at in
    drop-cut c.args.self.now c.args.proc c.index_mut.result.now c.in-Some.block c.requires.sound at' (ap (λ (k : Cache). k.block) same ∙ here)

pub overflow_sub-self : goal.overflow_sub-self
overflow_sub-self c =
    let inside : c.args.proc < procs_in c.args.self.now = (let len = c.len.ensures in let lt = c.if-index-len.false in omega (arith, c.args.self.now.caches.ok.0)) in
    let at : StandsAt c.args.self.now c.args.proc c.index.result.now = record { inside = inside; value = c.index.ensures } in
    let here : c.index.result.now.block ≡ Some c.in-Some.block = sym c.block.ensures.block ∙ c.in-Some.is in
    some-out c.args.self.now c.args.proc c.index.result.now c.in-Some.block c.requires.sound at here

pub returns : goal.returns
returns c =
    let inside : c.args.proc < procs_in c.args.self.now = (let len = c.len.ensures in let lt = c.if-index-len.false in omega (arith, c.args.self.now.caches.ok.0)) in
    let at : StandsAt c.args.self.now c.args.proc c.index.result.now = record { inside = inside; value = c.index.ensures } in
    let at' : StandsAt c.args.self.now c.args.proc c.index_mut.result.now = record { inside = inside; value = c.index_mut.ensures.value } in
    let here : c.index.result.now.block ≡ Some c.in-Some.block = sym c.block.ensures.block ∙ c.in-Some.is in
    let same = same-place c.args.self.now c.args.proc c.index_mut.result.now c.index.result.now at' at in
    let some = some-out c.args.self.now c.args.proc c.index.result.now c.in-Some.block c.requires.sound at here in
    accept-drop c.args.self.now _ c.args.cycle c.args.proc c.args.page c.args.n c.index_mut.result.now c.settle.new.cache c.in-Some.block c.requires.sound c.requires.order at' (ap (λ (k : Cache). k.block) same ∙ here)
    c.if-block-page.false (sym c.count.ensures ∙ c.if-count-n.false) c.settle.ensures.settled c.settle.ensures.cleared refl refl refl (omega arith)
