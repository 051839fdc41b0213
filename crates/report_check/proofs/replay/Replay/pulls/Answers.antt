use Rattle.std.proofs.Common.{◌≡◌, ◌<◌, true, false, Option, sym, ◌∙◌, refl, ap, arith}
use Rattle.std.specs.Prelude.{is_some}
use Rattle.page_cache.specs.declared.block.Block.{Block}
use Rattle.page_cache.specs.Cache.{Cache, only}
use Rattle.report_check.specs.Replays.{procs_in}
use Rattle.report_check.proofs.Moves.{StandsAt, accept-pull, no-cuts, none-out, pull-blocks, refuse-full, refuse-other, refuse-second, room-out, same-place}
use Rattle.report_check.proofs.replay.Replay.pulls.Goals.{then-index-len-via-then-index-len, then-index-len-via-else-index-len+then-is_some, then-block-page-via-then-block-page, then-block-page-via-else-block-page+then-count-n}
use Rattle.report_check.proofs.replay.Replay.pulls.Goals as goal

pub returns-then-index-len : goal.returns-then-index-len
returns-then-index-len c =
    let len = c.len.ensures in
    elim c.then-index-len.branch [
      | then-index-len-via-then-index-len w ↦ (λ may. (let lt = may.0 in let beyond = w.if-index-len.true in absurd (omega (arith, c.args.self.now.caches.ok.0))))
      | then-index-len-via-else-index-len+then-is_some w ↦ (
          let inside : c.args.proc < procs_in c.args.self.now = (let lt = w.if-index-len.false in omega (arith, c.args.self.now.caches.ok.0)) in
          let at : StandsAt c.args.self.now c.args.proc w.index.result.now = record { inside = inside; value = w.index.ensures } in
          let here : is_some w.block.result ≡ true = cc in
          let on : is_some w.index.result.now.block ≡ true = ap (λ (o : Option Block). is_some o) (sym w.block.ensures.block) ∙ here in
          refuse-second c.args.self.now c.args.cycle c.args.proc c.args.page c.args.n w.index.result.now c.requires.sound at on)
    ]

pub pull-requires-clause-blocks : goal.pull-requires-clause-blocks
pull-requires-clause-blocks c = pull-blocks c.args.self.now c.reserve_pull.new.self c.args.cycle c.args.proc c.args.page c.args.n c.requires.order c.in_ok-reserve_pull.ensures.same

pub pull-requires-clause-none_out : goal.pull-requires-clause-none_out
pull-requires-clause-none_out c =
    let inside : c.args.proc < procs_in c.args.self.now = (let len = c.len.ensures in let lt = c.if-index-len.false in omega (arith, c.args.self.now.caches.ok.0)) in
    let at : StandsAt c.args.self.now c.args.proc c.index.result.now = record { inside = inside; value = c.index.ensures } in
    let here : is_some c.block.result ≡ false = cc in
    let off : is_some c.index.result.now.block ≡ false = ap (λ (o : Option Block). is_some o) (sym c.block.ensures.block) ∙ here in
    none-out c.args.self.now c.reserve_pull.new.self c.args.proc c.index.result.now c.requires.sound at off c.in_ok-reserve_pull.ensures.same

pub returns-in_default : goal.returns-in_default
returns-in_default c =
    refuse-full c.args.self.now c.reserve_pull.new.self c.args.cycle c.args.proc c.args.page c.args.n c.requires.sound c.requires.order c.in_ok-reserve_pull.ensures.same c.in_default.ensures.none

pub returns-then-block-page : goal.returns-then-block-page
returns-then-block-page c = elim c.then-block-page.branch [
  | then-block-page-via-then-block-page w ↦
      refuse-other c.args.self.now c.reserve_pull.new.self c.pull.new.self c.args.cycle c.args.proc c.args.page c.args.n c.in-Some.block c.requires.sound c.requires.order c.in_ok-reserve_pull.ensures.same
      c.in-Some.ensures.pulled (λ both. w.if-block-page.true both.0)
  | then-block-page-via-else-block-page+then-count-n w ↦
      refuse-other c.args.self.now c.reserve_pull.new.self c.pull.new.self c.args.cycle c.args.proc c.args.page c.args.n c.in-Some.block c.requires.sound c.requires.order c.in_ok-reserve_pull.ensures.same
      c.in-Some.ensures.pulled (λ both. w.if-count-n.true (w.count.ensures ∙ both.1))
]

pub fill-requires-clause-no_cuts : goal.fill-requires-clause-no_cuts
fill-requires-clause-no_cuts c =
    let inside : c.args.proc < procs_in c.args.self.now = (let len = c.len.ensures in let lt = c.if-index-len.false in omega (arith, c.args.self.now.caches.ok.0)) in
    let at : StandsAt c.args.self.now c.args.proc c.index.result.now = record { inside = inside; value = c.index.ensures } in
    let at' : StandsAt c.args.self.now c.args.proc c.index_mut.result.now = record { inside = inside; value = c.index_mut.ensures.value } in
    let here : is_some c.block.result ≡ false = cc in
    let off : is_some c.index.result.now.block ≡ false = ap (λ (o : Option Block). is_some o) (sym c.block.ensures.block) ∙ here in
    ap (λ (k : Cache). k.cuts) (same-place c.args.self.now c.args.proc c.index_mut.result.now c.index.result.now at' at) ∙ no-cuts c.args.self.now c.args.proc c.index.result.now c.requires.sound at off

pub overflow_add-self : goal.overflow_add-self
overflow_add-self c =
    let len = c.len.ensures in
    let inside : c.args.proc < procs_in c.args.self.now = (let lt = c.if-index-len.false in omega (arith, c.args.self.now.caches.ok.0)) in
    let at : StandsAt c.args.self.now c.args.proc c.index.result.now = record { inside = inside; value = c.index.ensures } in
    let here : is_some c.block.result ≡ false = cc in
    let off : is_some c.index.result.now.block ≡ false = ap (λ (o : Option Block). is_some o) (sym c.block.ensures.block) ∙ here in
    let room = room-out c.args.self.now c.args.proc c.index.result.now c.requires.sound at off in
    omega (arith, c.args.self.now.caches.ok.0, c.len.type_inv)

pub returns : goal.returns
returns c =
    let inside : c.args.proc < procs_in c.args.self.now = (let len = c.len.ensures in let lt = c.if-index-len.false in omega (arith, c.args.self.now.caches.ok.0)) in
    let at : StandsAt c.args.self.now c.args.proc c.index.result.now = record { inside = inside; value = c.index.ensures } in
    let at' : StandsAt c.args.self.now c.args.proc c.index_mut.result.now = record { inside = inside; value = c.index_mut.ensures.value } in
    let here : is_some c.block.result ≡ false = cc in
    let off : is_some c.index.result.now.block ≡ false = ap (λ (o : Option Block). is_some o) (sym c.block.ensures.block) ∙ here in
    let same = same-place c.args.self.now c.args.proc c.index_mut.result.now c.index.result.now at' at in
    accept-pull c.args.self.now _ c.reserve_pull.new.self c.args.cycle c.args.proc c.args.page c.args.n c.in-Some.block c.index.result.now c.fill.new.self c.requires.sound c.requires.order at off
    c.in_ok-reserve_pull.ensures.same c.in-Some.ensures.pulled c.if-block-page.false (sym c.count.ensures ∙ c.if-count-n.false)
    (c.fill.ensures ∙ ap (λ (k : Cache). only k.proc (Option.Some c.in-Some.block)) same) refl refl refl refl
