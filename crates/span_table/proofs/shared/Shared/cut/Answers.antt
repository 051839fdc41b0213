use Rattle.std.proofs.Common.{sym, ◌∙◌}
use Rattle.page_alloc.proofs.Lives.{span_pages}
use Rattle.span_table.proofs.CacheCalls.{block_with, cut_inside, cut_leaves, cuts_new, cuts_run, rests_cut}
use Rattle.span_table.proofs.shared.Shared.cut.Goals as goal

pub cut-requires-clause-some : goal.cut-requires-clause-some
cut-requires-clause-some c = span_pages c.args.class c.args.n c.requires.size

pub unreachable-requires : goal.unreachable-requires
unreachable-requires c =
    let e = c.in-Some-cut.ensures in let b = block_with c.in-Some.cache.block c.args.n c.in-Some-cut.page (span_pages c.args.class c.args.n c.requires.size) e.first.run in
    cut_leaves c.in-Some.cache.block c.cut.new.self.block b.0 b.1 e.taken.first (sym c.block-2.ensures.block ∙ c.in_default-block.is)

pub cut_off-requires-clause-region : goal.cut_off-requires-clause-region
cut_off-requires-clause-region c =
    let i = c.w.inside in let e = c.in-Some-cut.ensures in let size = c.requires.size in
    let b = block_with c.in-Some.cache.block c.args.n c.in-Some-cut.page (span_pages c.args.class c.args.n size) e.first.run in let new = c.new_body-body.ensures in
    (c.w.invariant.region, cut_inside i.number i.generation i.goal i.spares i.cache i.line i.seat.table_id i.seat.me c.w.invariant c.in-Some.cache c.in-Some.is b.0 b.1 c.cut.new.self c.in-Some-block-2.block c.new_body-body.result c.args.n c.in-Some-cut.page c.args.class new.is_new new.page size e.taken (sym c.block-2.ensures.block ∙ c.in-Some-block-2.is) e.first)

pub cut_off-requires-clause-cut : goal.cut_off-requires-clause-cut
cut_off-requires-clause-cut c =
    let i = c.w.inside in let e = c.in-Some-cut.ensures in let size = c.requires.size in
    let b = block_with c.in-Some.cache.block c.args.n c.in-Some-cut.page (span_pages c.args.class c.args.n size) e.first.run in let new = c.new_body-body.ensures in
    cuts_run i.number i.generation i.goal i.spares i.cache i.line i.seat.table_id i.seat.me c.w.invariant c.in-Some.cache c.in-Some.is b.0 b.1 c.cut.new.self c.in-Some-block-2.block c.new_body-body.result c.args.n c.in-Some-cut.page c.args.class new.is_new new.page size e.taken (sym c.block-2.ensures.block ∙ c.in-Some-block-2.is) e.first c.requires.few new.life

pub invariant_of-w-2 : goal.invariant_of-w-2
invariant_of-w-2 c =
    let i = c.w.inside in let e = c.in-Some-cut.ensures in let size = c.requires.size in
    let b = block_with c.in-Some.cache.block c.args.n c.in-Some-cut.page (span_pages c.args.class c.args.n size) e.first.run in let new = c.new_body-body.ensures in
    rests_cut i.number i.generation i.goal i.spares i.cache i.line i.seat.table_id i.seat.me c.w.invariant c.in-Some.cache c.in-Some.is b.0 b.1 c.cut.new.self c.in-Some-block-2.block c.new_body-body.result c.args.n c.in-Some-cut.page c.args.class new.is_new new.page size e.taken (sym c.block-2.ensures.block ∙ c.in-Some-block-2.is) e.first c.cut_off.new.seat.table_id c.cut_off.new.seat.me c.cut_off.ensures.table c.cut_off.ensures.view

pub returns : goal.returns
returns c =
    let i = c.w.inside in let e = c.in-Some-cut.ensures in let size = c.requires.size in
    let b = block_with c.in-Some.cache.block c.args.n c.in-Some-cut.page (span_pages c.args.class c.args.n size) e.first.run in let new = c.new_body-body.ensures in
    cuts_new i.number i.generation i.goal i.spares i.cache i.line i.seat.table_id i.seat.me c.w.invariant c.in-Some.cache c.in-Some.is b.0 b.1 c.cut.new.self c.in-Some-block-2.block c.new_body-body.result c.args.n c.in-Some-cut.page c.args.class new.is_new new.page size e.taken (sym c.block-2.ensures.block ∙ c.in-Some-block-2.is) e.first c.args.w.now c.w.view_is c.cut_off.new.seat.table_id c.cut_off.new.seat.me c.cut_off.ensures.table c.cut_off.ensures.view new.life c.cut_off.ensures.untouched c.cut_off.ensures.nothing
