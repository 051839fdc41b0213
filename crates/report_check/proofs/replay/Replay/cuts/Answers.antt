use Rattle.std.proofs.Common.{◌<◌, refl, arith}
use Rattle.report_check.specs.Replays.{procs_in}
use Rattle.report_check.proofs.Moves.{StandsAt, accept-cut, refuse-later, refuse-no_run}
use Rattle.report_check.proofs.replay.Replay.cuts.Goals as goal

pub returns-in_default : goal.returns-in_default
returns-in_default c =
    let inside : c.args.proc < procs_in c.args.self.now = (let len = c.len.ensures in let lt = c.if-index-len.false in omega (arith, c.args.self.now.caches.ok.0)) in
    let at : StandsAt c.args.self.now c.args.proc c.index_mut.result.now = record { inside = inside; value = c.index_mut.ensures.value } in
    refuse-later c.args.self.now c.args.cycle c.args.proc c.args.page c.args.n c.args.class c.in-Some.first c.index_mut.result.now c.requires.sound c.requires.order at c.in-Some.ensures.first c.if-first-page.false

pub returns-in_default-2 : goal.returns-in_default-2
returns-in_default-2 c =
    let inside : c.args.proc < procs_in c.args.self.now = (let len = c.len.ensures in let lt = c.if-index-len.false in omega (arith, c.args.self.now.caches.ok.0)) in
    let at : StandsAt c.args.self.now c.args.proc c.index_mut.result.now = record { inside = inside; value = c.index_mut.ensures.value } in
    refuse-no_run c.args.self.now c.args.cycle c.args.proc c.args.page c.args.n c.args.class c.index_mut.result.now c.requires.sound c.requires.order at c.in_default.ensures.none

pub returns : goal.returns
returns c =
    let inside : c.args.proc < procs_in c.args.self.now = (let len = c.len.ensures in let lt = c.if-index-len.false in omega (arith, c.args.self.now.caches.ok.0)) in
    let at : StandsAt c.args.self.now c.args.proc c.index_mut.result.now = record { inside = inside; value = c.index_mut.ensures.value } in
    let size = c.if-not-is_span_size.ensures in
    accept-cut c.args.self.now _ c.args.cycle c.args.proc c.args.n c.args.class c.in-Some.first c.args.page c.index_mut.result.now c.cut.new.self c.requires.sound c.requires.order at
    size.0 c.if-n-ge-CUT_PAGES.false size.1 c.in-Some.ensures.first c.in-Some.ensures.taken c.if-first-page.true refl refl refl refl refl
