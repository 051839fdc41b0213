use Rattle.std.proofs.Common.{◌≡◌, ◌≤◌, ◌+◌, ◌*◌, ◌/◌, ◌%◌, Option, Some, None, length, refl, ◌∙◌, sym, ap, arith}
use Rattle.std.specs.Prelude.{IfNone}
use Rattle.std.proofs.lemmas.List.{with_items_is}
use Rattle.page_cache.specs.declared.block.Block.{Block}
use Rattle.page_bitmap.specs.CountLaws.{count_below-le}
use Rattle.page_alloc.specs.Kept.{region_of, past_in}
use Rattle.page_alloc.specs.Region.{free_in, scavenged_in}
use Rattle.page_alloc.proofs.Adding.{by-view, keeps-view, none-view, pulls, sound-after, spare-view}
use Rattle.page_alloc.proofs.Keeping.{kept_small, no-run}
use Rattle.page_alloc.proofs.Pulling.{kept-pull, least-block, none-below, pull-loose, pull-outside, pulled-pages}
use Rattle.page_alloc.proofs.Sums.{right-block}
use Rattle.page_alloc.proofs.Words.{pages-count, pages-few}
use Rattle.page_alloc.proofs.allocator.Pages.pull.Goals as goal

if-none : {T : Type 0} (r : Option T) (P : Type 0) → P → IfNone r P
if-none None P p = p
if-none (Some x) P p = tt

pub returns-in_err-first-clause-none : goal.returns-in_err-first-clause-none
returns-in_err-first-clause-none c = if-none c.from_residual.result _ (rw (← c.self.view_is) (no-run c.self.invariant.kept (rw c.as_slice.ensures.value at c.in_err-first.ensures.none)))

pub overflow_add-self : goal.overflow_add-self
overflow_add-self c =
    let small = kept_small c.self.invariant.kept in
    let few = c.self.invariant.few_chunks in
    let count : c.take_block.result ≤ 64 = rw c.take_block.ensures.count (count_below-le _ _) in
    omega arith

pub update-requires-clause-others : goal.update-requires-clause-others
update-requires-clause-others c =
    let chunks : length c.take_block.new.chunks ≡ length c.self.inside.chunks.items = c.take_block.auto.chunks ∙ ap length c.as_mut_slice.ensures.value in
    let with_chunks : c.as_slice-3.result.now ≡ c.take_block.new.chunks = c.as_slice-3.ensures.value ∙ with_items_is c.self.inside.chunks c.take_block.new.chunks (chunks ∙ sym c.self.inside.chunks.ok.0) in
    let page = c.in_ok-first.first / 64 * 64 in
    rw (with_chunks, chunks) (right-block (free_in c.self.inside.chunks.items) (free_in c.take_block.new.chunks) _ page c.self.inside.levels (omega arith)
    (pull-outside (free_in c.self.inside.chunks.items) (free_in c.take_block.new.chunks) page (rw c.as_mut_slice.ensures.value at c.take_block.ensures.free)) c.self.invariant.levels)

pub overflow_add-self-3 : goal.overflow_add-self-3
overflow_add-self-3 c =
    let small = kept_small c.self.invariant.kept in
    let few = c.self.invariant.few_chunks in
    let count : c.count-pages.result ≤ 64 = rw c.count-pages.ensures (pages-few _) in
    omega arith

pub invariant_of-self : goal.invariant_of-self
invariant_of-self c =
    let sound = c.self.invariant in
    let room = sound.room in
    let append = c.append.ensures in
    let lives = sound.kept.lives in
    let out = sound.blocks in
    let few = sound.few_chunks in
    let spare = spare-view c.self.inside c.args.self.now 130 c.self.view_is c.requires.spare in
    let first = c.in_ok-first.first in
    let page = first / 64 * 64 in
    let is : page ≡ 64 * (first / 64) = omega arith in
    let chunks : length c.take_block.new.chunks ≡ length c.self.inside.chunks.items = c.take_block.auto.chunks ∙ ap length c.as_mut_slice.ensures.value in
    let with_chunks : c.as_slice-3.result.now ≡ c.take_block.new.chunks = c.as_slice-3.ensures.value ∙ with_items_is c.self.inside.chunks c.take_block.new.chunks (chunks ∙ sym c.self.inside.chunks.ok.0) in
    let fit = rw c.as_slice.ensures.value at c.in_ok-first.ensures.found in
    let word = rw c.as_slice-2.ensures.value at c.free_word-free.ensures in
    let frees = rw c.as_mut_slice.ensures.value at c.take_block.ensures.free in
    let scavenges = rw c.as_mut_slice.ensures.value at c.take_block.ensures.scavenged in
    let count = c.count-pages.ensures ∙ pages-count (free_in c.self.inside.chunks.items) (record { page = page; free = c.free_word-free.result }) word in
    let least = least-block first page c.count-pages.result sound.kept (omega arith) is fit count in
    rw (rw c.as_mut_slice.ensures.value at c.take_block.ensures.count) (
    sound-after c.self.inside _ c.take_block.new.chunks c.self.inside.starts.items c.self.inside.lengths.items _ sound
    (with_items_is c.self.inside.chunks c.take_block.new.chunks (chunks ∙ sym c.self.inside.chunks.ok.0)) refl refl chunks refl refl append.past
    (kept-pull _ _ c.args.cycle c.args.proc page c.count-pages.result sound.kept (by-view c.self.inside c.args.self.now c.args.cycle c.self.view_is c.requires.cycle)
    (keeps-view c.self.inside c.args.self.now _ c.args.cycle c.self.view_is refl c.requires.blocks sound) (none-view c.self.inside c.args.self.now c.args.proc c.self.view_is c.requires.none_out) least frees scavenges)
    (omega arith) (λ next. tt) (omega arith) (rw with_chunks at c.update.ensures)
    (none-below (free_in c.self.inside.chunks.items) (free_in c.take_block.new.chunks) (region_of c.self.inside) first page is fit frees)
    (let within = sound.top_within in omega arith)
    (λ p le. pull-loose (free_in c.self.inside.chunks.items) (free_in c.take_block.new.chunks) (scavenged_in c.self.inside.chunks.items) (scavenged_in c.take_block.new.chunks) page p frees scavenges (sound.above_top p le)))

pub returns-clause-pulled : goal.returns-clause-pulled
returns-clause-pulled c =
    let sound = c.self.invariant in
    let first = c.in_ok-first.first in
    let page = first / 64 * 64 in
    let is : page ≡ 64 * (first / 64) = omega arith in
    let chunks : length c.take_block.new.chunks ≡ length c.self.inside.chunks.items = c.take_block.auto.chunks ∙ ap length c.as_mut_slice.ensures.value in
    let same = with_items_is c.self.inside.chunks c.take_block.new.chunks (chunks ∙ sym c.self.inside.chunks.ok.0) in
    let fit = rw c.as_slice.ensures.value at c.in_ok-first.ensures.found in
    let word = rw c.as_slice-2.ensures.value at c.free_word-free.ensures in
    let block : Block = record { page = page; free = c.free_word-free.result } in
    let count = c.count-pages.ensures ∙ pages-count (free_in c.self.inside.chunks.items) block word in
    let least = least-block first page c.count-pages.result sound.kept (omega arith) is fit count in
    pulls c.self.inside _ c.args.self.now c.args.cycle c.args.proc c.count-pages.result block c.self.view_is (invariant_of-self c) (ap length same ∙ chunks) refl c.append.ensures.past c.count-pages.ensures
    c.append.ensures.len c.append.ensures.capacity least (pulled-pages block sound.kept least word)
    (none-view c.self.inside c.args.self.now c.args.proc c.self.view_is c.requires.none_out)
