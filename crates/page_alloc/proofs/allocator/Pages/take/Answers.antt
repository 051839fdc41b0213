use Rattle.std.proofs.Common.{◌≡◌, ◌≤◌, false, length, refl, ◌∙◌, sym, ap, arith, length-set}
use Rattle.std.proofs.lemmas.List.{with_items_is}
use Rattle.page_bitmap.specs.CountLaws.{count_below-le}
use Rattle.page_alloc.specs.FreeRuns.{IsFirstFit}
use Rattle.page_alloc.specs.Kept.{region_of, past_in}
use Rattle.page_alloc.specs.Region.{free_in, scavenged_in}
use Rattle.page_alloc.proofs.Tops.{take-loose}
use Rattle.page_alloc.proofs.Keeping.{first-fit, kept-miss, kept-take, kept_small, no-run}
use Rattle.page_alloc.proofs.Adding.{adds-line, sound-after, by-view, keeps-view, size-view, spare-view}
use Rattle.page_alloc.proofs.Sums.{right-but, search-after}
use Rattle.page_alloc.proofs.allocator.Pages.take.Goals as goal

pub invariant_of-self : goal.invariant_of-self
invariant_of-self c =
    let sound = c.self.invariant in
    let room = sound.room in
    let append = c.append.ensures in
    let lives = sound.kept.lives in
    let out = sound.blocks in
    let spare = spare-view c.self.inside c.args.self.now 2 c.self.view_is c.requires.spare in
    sound-after c.self.inside _ c.self.inside.chunks.items c.self.inside.starts.items c.self.inside.lengths.items _ sound refl refl refl refl refl refl append.past
    (kept-miss sound.kept (by-view c.self.inside c.args.self.now c.args.cycle c.self.view_is c.requires.cycle) (keeps-view c.self.inside c.args.self.now _ c.args.cycle c.self.view_is refl c.requires.blocks sound) c.requires.some
    (no-run sound.kept (rw c.as_slice.ensures.value at c.in_default.ensures.none)))
    sound.blocks (λ next. tt) (omega arith) sound.levels sound.below_search sound.top_within sound.above_top

pub returns-in_default-clause-missed : goal.returns-in_default-clause-missed
returns-in_default-clause-missed c =
    adds-line c.self.inside _ c.args.self.now _ c.self.view_is (λ procs. tt) (invariant_of-self c) refl refl c.append.ensures.past c.append.ensures.len c.append.ensures.capacity

pub overflow_add-self : goal.overflow_add-self
overflow_add-self c =
    let small = kept_small c.self.invariant.kept in
    let few = c.self.invariant.few_chunks in
    let fit = first-fit c.self.invariant.kept (rw c.as_slice.ensures.value at c.in-Some.ensures.found) in
    let inside = fit.here.inside in
    let count : c.take_run.result ≤ c.args.n = rw c.take_run.ensures.count (count_below-le _ _) in
    omega arith

pub overflow_add-self-2 : goal.overflow_add-self-2
overflow_add-self-2 c =
    let small = kept_small c.self.invariant.kept in
    let few = c.self.invariant.few_chunks in
    let fit = first-fit c.self.invariant.kept (rw c.as_slice.ensures.value at c.in-Some.ensures.found) in
    let inside = fit.here.inside in
    omega arith

pub update-requires-clause-others : goal.update-requires-clause-others
update-requires-clause-others c =
    let chunks : length c.take_run.new.chunks ≡ length c.self.inside.chunks.items = c.take_run.auto.chunks ∙ ap length c.as_mut_slice.ensures.value in
    let with_chunks : c.as_slice-2.result.now ≡ c.take_run.new.chunks = c.as_slice-2.ensures.value ∙ with_items_is c.self.inside.chunks c.take_run.new.chunks (chunks ∙ sym c.self.inside.chunks.ok.0) in
    rw (with_chunks, chunks) (right-but _ _ _ c.in-Some.page c.args.n false c.self.inside.levels c.requires.some (rw c.as_mut_slice.ensures.value at c.take_run.ensures.free) c.self.invariant.levels)

pub invariant_of-self-2 : goal.invariant_of-self-2
invariant_of-self-2 c =
    let sound = c.self.invariant in
    let room = sound.room in
    let append = c.append-2.ensures in
    let lives = sound.kept.lives in
    let out = sound.blocks in
    let spare = spare-view c.self.inside c.args.self.now 2 c.self.view_is c.requires.spare in
    let numbers = sound.numbers in
    let inside = (rw c.as_slice.ensures.value at c.in-Some.ensures.found).here.inside in
    let fit : IsFirstFit (region_of c.self.inside) (past_in c.self.inside) c.in-Some.page c.args.n = first-fit sound.kept (rw c.as_slice.ensures.value at c.in-Some.ensures.found) in
    let size = size-view c.self.inside c.args.self.now c.args.n c.args.class c.self.view_is c.requires.size c.in-Some.page fit in
    let chunks : length c.take_run.new.chunks ≡ length c.self.inside.chunks.items = c.take_run.auto.chunks ∙ ap length c.as_mut_slice.ensures.value in
    let maps : length c.mark_start.new.starts ≡ length c.self.inside.starts.items = c.mark_start.auto.starts ∙ ap length c.as_mut_slice-2.ensures.value in
    let with_chunks : c.as_slice-2.result.now ≡ c.take_run.new.chunks = c.as_slice-2.ensures.value ∙ with_items_is c.self.inside.chunks c.take_run.new.chunks (chunks ∙ sym c.self.inside.chunks.ok.0) in
    rw (rw c.as_mut_slice.ensures.value at c.take_run.ensures.count) (
    sound-after c.self.inside _ c.take_run.new.chunks c.mark_start.new.starts _ _ sound
    (with_items_is c.self.inside.chunks c.take_run.new.chunks (chunks ∙ sym c.self.inside.chunks.ok.0))
    (with_items_is c.self.inside.starts c.mark_start.new.starts (maps ∙ sym c.self.inside.starts.ok.0)) refl chunks maps (length-set _ _ _) append.past
    (kept-take _ _ _ c.args.cycle c.in-Some.page c.args.n c.args.class sound.kept (by-view c.self.inside c.args.self.now c.args.cycle c.self.view_is c.requires.cycle) (keeps-view c.self.inside c.args.self.now _ c.args.cycle c.self.view_is refl c.requires.blocks sound) size fit (omega arith)
    (rw c.as_mut_slice.ensures.value at c.take_run.ensures.free) (rw c.as_mut_slice.ensures.value at c.take_run.ensures.scavenged) (rw c.as_mut_slice-2.ensures.value at c.mark_start.ensures))
    sound.blocks (λ next. tt) (omega arith) (rw with_chunks at c.update.ensures)
    (search-after _ _ (region_of c.self.inside) c.in-Some.page c.args.n c.self.inside.search _ c.requires.some inside (rw c.as_mut_slice.ensures.value at c.take_run.ensures.free) sound.below_search
    (rw c.as_slice.ensures.value at c.in-Some.ensures.found) c.raised-self-inside.ensures)
    (let within = sound.top_within in omega arith)
    (λ p le. take-loose (free_in c.self.inside.chunks.items) (free_in c.take_run.new.chunks) (scavenged_in c.self.inside.chunks.items) (scavenged_in c.take_run.new.chunks) c.in-Some.page c.args.n p
    (rw c.as_mut_slice.ensures.value at c.take_run.ensures.free) (rw c.as_mut_slice.ensures.value at c.take_run.ensures.scavenged) (sound.above_top p le)))

pub returns-clause-taken : goal.returns-clause-taken
returns-clause-taken c =
    let chunks : length c.take_run.new.chunks ≡ length c.self.inside.chunks.items = c.take_run.auto.chunks ∙ ap length c.as_mut_slice.ensures.value in
    let same = with_items_is c.self.inside.chunks c.take_run.new.chunks (chunks ∙ sym c.self.inside.chunks.ok.0) in
    adds-line c.self.inside _ c.args.self.now _ c.self.view_is (λ procs. tt) (invariant_of-self-2 c) (ap length same ∙ chunks) refl c.append-2.ensures.past c.append-2.ensures.len c.append-2.ensures.capacity
