use Rattle.std.proofs.Common.{◌≡◌, ◌<◌, true, length, refl, ◌∙◌, sym, ap, arith}
use Rattle.std.proofs.lemmas.List.{get_or_read, with_items_is}
use Rattle.page_alloc.proofs.Keeping.{given, kept-give}
use Rattle.page_alloc.proofs.Adding.{adds-line, sound-after, owner-view, by-view, keeps-view}
use Rattle.page_alloc.proofs.Sums.{right-but}
use Rattle.page_alloc.proofs.Tops.{give-loose}
use Rattle.page_alloc.specs.Region.{free_in, scavenged_in}
use Rattle.page_alloc.proofs.allocator.Pages.give.Goals as goal

pub index-pages-requires : goal.index-pages-requires
index-pages-requires c =
    let life = given c.self.invariant.kept (owner-view c.self.inside c.args.self.now c.args.page c.args.page c.self.view_is c.requires.begins) in
    let inside = life.1.run.inside in
    let some = life.1.some in
    let numbers = c.self.invariant.numbers in
    let ok = c.self.inside.lengths.ok.0 in
    omega arith

pub free_run-requires-clause-taken : goal.free_run-requires-clause-taken
free_run-requires-clause-taken c =
    let life = given c.self.invariant.kept (owner-view c.self.inside c.args.self.now c.args.page c.args.page c.self.view_is c.requires.begins) in
    let lt : c.args.page < length c.self.inside.lengths.items = (let i = life.1.run.inside in let s = life.1.some in let n = c.self.invariant.numbers in omega arith) in
    let read : c.index-pages.result.now ≡ life.0.pages = get_or_read c.self.inside.lengths.items _ _ lt c.index-pages.ensures 0 ∙ life.1.pages in
    rw (c.as_mut_slice.ensures.value, read) life.1.run

pub overflow_add-page : goal.overflow_add-page
overflow_add-page c =
    let life = given c.self.invariant.kept (owner-view c.self.inside c.args.self.now c.args.page c.args.page c.self.view_is c.requires.begins) in
    let lt : c.args.page < length c.self.inside.lengths.items = (let i = life.1.run.inside in let s = life.1.some in let n = c.self.invariant.numbers in omega arith) in
    let read : c.index-pages.result.now ≡ life.0.pages = get_or_read c.self.inside.lengths.items _ _ lt c.index-pages.ensures 0 ∙ life.1.pages in
    let inside = life.1.run.inside in
    let some = life.1.some in
    let few = c.self.invariant.few_chunks in
    omega arith

pub overflow_sub-page : goal.overflow_sub-page
overflow_sub-page c =
    let life = given c.self.invariant.kept (owner-view c.self.inside c.args.self.now c.args.page c.args.page c.self.view_is c.requires.begins) in
    let lt : c.args.page < length c.self.inside.lengths.items = (let i = life.1.run.inside in let s = life.1.some in let n = c.self.invariant.numbers in omega arith) in
    let read : c.index-pages.result.now ≡ life.0.pages = get_or_read c.self.inside.lengths.items _ _ lt c.index-pages.ensures 0 ∙ life.1.pages in
    let inside = life.1.run.inside in
    let some = life.1.some in
    let few = c.self.invariant.few_chunks in
    omega arith

pub chunk_behind-requires : goal.chunk_behind-requires
chunk_behind-requires c =
    let life = given c.self.invariant.kept (owner-view c.self.inside c.args.self.now c.args.page c.args.page c.self.view_is c.requires.begins) in
    let lt : c.args.page < length c.self.inside.lengths.items = (let i = life.1.run.inside in let s = life.1.some in let n = c.self.invariant.numbers in omega arith) in
    let read : c.index-pages.result.now ≡ life.0.pages = get_or_read c.self.inside.lengths.items _ _ lt c.index-pages.ensures 0 ∙ life.1.pages in
    let inside = life.1.run.inside in
    let few = c.self.invariant.few_chunks in
    omega arith

pub update-requires-clause-order : goal.update-requires-clause-order
update-requires-clause-order c =
    let life = given c.self.invariant.kept (owner-view c.self.inside c.args.self.now c.args.page c.args.page c.self.view_is c.requires.begins) in
    let lt : c.args.page < length c.self.inside.lengths.items = (let i = life.1.run.inside in let s = life.1.some in let n = c.self.invariant.numbers in omega arith) in
    let read : c.index-pages.result.now ≡ life.0.pages = get_or_read c.self.inside.lengths.items _ _ lt c.index-pages.ensures 0 ∙ life.1.pages in
    let inside = life.1.run.inside in
    let some = life.1.some in
    let few = c.self.invariant.few_chunks in
    omega arith

pub update-requires-clause-within : goal.update-requires-clause-within
update-requires-clause-within c =
    let life = given c.self.invariant.kept (owner-view c.self.inside c.args.self.now c.args.page c.args.page c.self.view_is c.requires.begins) in
    let lt : c.args.page < length c.self.inside.lengths.items = (let i = life.1.run.inside in let s = life.1.some in let n = c.self.invariant.numbers in omega arith) in
    let read : c.index-pages.result.now ≡ life.0.pages = get_or_read c.self.inside.lengths.items _ _ lt c.index-pages.ensures 0 ∙ life.1.pages in
    let inside = life.1.run.inside in
    let some = life.1.some in
    let few = c.self.invariant.few_chunks in
    let chunks : length c.free_run.new.chunks ≡ length c.self.inside.chunks.items = c.free_run.auto.chunks ∙ ap length c.as_mut_slice.ensures.value in
    let with_chunks : c.as_slice.result.now ≡ c.free_run.new.chunks = c.as_slice.ensures.value ∙ with_items_is c.self.inside.chunks c.free_run.new.chunks (chunks ∙ sym c.self.inside.chunks.ok.0) in
    let all : length c.as_slice.result.now ≡ length c.self.inside.chunks.items = ap length with_chunks ∙ chunks in
    omega arith

pub update-requires-clause-others : goal.update-requires-clause-others
update-requires-clause-others c =
    let life = given c.self.invariant.kept (owner-view c.self.inside c.args.self.now c.args.page c.args.page c.self.view_is c.requires.begins) in
    let lt : c.args.page < length c.self.inside.lengths.items = (let i = life.1.run.inside in let s = life.1.some in let n = c.self.invariant.numbers in omega arith) in
    let read : c.index-pages.result.now ≡ life.0.pages = get_or_read c.self.inside.lengths.items _ _ lt c.index-pages.ensures 0 ∙ life.1.pages in
    let chunks : length c.free_run.new.chunks ≡ length c.self.inside.chunks.items = c.free_run.auto.chunks ∙ ap length c.as_mut_slice.ensures.value in
    let with_chunks : c.as_slice.result.now ≡ c.free_run.new.chunks = c.as_slice.ensures.value ∙ with_items_is c.self.inside.chunks c.free_run.new.chunks (chunks ∙ sym c.self.inside.chunks.ok.0) in
    rw (with_chunks, chunks) (right-but _ _ _ c.args.page c.index-pages.result.now true c.self.inside.levels (let s = life.1.some in omega arith) (rw c.as_mut_slice.ensures.value at c.free_run.ensures.free) c.self.invariant.levels)

pub overflow_sub-self : goal.overflow_sub-self
overflow_sub-self c =
    let life = given c.self.invariant.kept (owner-view c.self.inside c.args.self.now c.args.page c.args.page c.self.view_is c.requires.begins) in
    let lt : c.args.page < length c.self.inside.lengths.items = (let i = life.1.run.inside in let s = life.1.some in let n = c.self.invariant.numbers in omega arith) in
    let read : c.index-pages.result.now ≡ life.0.pages = get_or_read c.self.inside.lengths.items _ _ lt c.index-pages.ensures 0 ∙ life.1.pages in
    rw read life.1.owned_pages

pub overflow_sub-self-2 : goal.overflow_sub-self-2
overflow_sub-self-2 c = (given c.self.invariant.kept (owner-view c.self.inside c.args.self.now c.args.page c.args.page c.self.view_is c.requires.begins)).1.lives

pub mark_start-requires : goal.mark_start-requires
mark_start-requires c =
    let life = given c.self.invariant.kept (owner-view c.self.inside c.args.self.now c.args.page c.args.page c.self.view_is c.requires.begins) in
    let inside = life.1.run.inside in
    let some = life.1.some in
    let maps = c.self.invariant.maps in
    let value = ap length c.as_mut_slice-2.ensures.value in
    omega arith

pub append-requires : goal.append-requires
append-requires c =
    let lives = (given c.self.invariant.kept (owner-view c.self.inside c.args.self.now c.args.page c.args.page c.self.view_is c.requires.begins)).1.lives in
    let room = c.self.invariant.room in
    omega arith

pub invariant_of-self : goal.invariant_of-self
invariant_of-self c =
    let sound = c.self.invariant in
    let life = given sound.kept (owner-view c.self.inside c.args.self.now c.args.page c.args.page c.self.view_is c.requires.begins) in
    let lives = life.1.lives in
    let room = sound.room in
    let out = sound.blocks in
    let append = c.append.ensures in
    let lt : c.args.page < length c.self.inside.lengths.items = (let i = life.1.run.inside in let s = life.1.some in let n = c.self.invariant.numbers in omega arith) in
    let read : c.index-pages.result.now ≡ life.0.pages = get_or_read c.self.inside.lengths.items _ _ lt c.index-pages.ensures 0 ∙ life.1.pages in
    let chunks : length c.free_run.new.chunks ≡ length c.self.inside.chunks.items = c.free_run.auto.chunks ∙ ap length c.as_mut_slice.ensures.value in
    let maps : length c.mark_start.new.starts ≡ length c.self.inside.starts.items = c.mark_start.auto.starts ∙ ap length c.as_mut_slice-2.ensures.value in
    let with_chunks : c.as_slice.result.now ≡ c.free_run.new.chunks = c.as_slice.ensures.value ∙ with_items_is c.self.inside.chunks c.free_run.new.chunks (chunks ∙ sym c.self.inside.chunks.ok.0) in
    sound-after c.self.inside _ c.free_run.new.chunks c.mark_start.new.starts c.self.inside.lengths.items _ sound
    (with_items_is c.self.inside.chunks c.free_run.new.chunks (chunks ∙ sym c.self.inside.chunks.ok.0)) (with_items_is c.self.inside.starts c.mark_start.new.starts (maps ∙ sym c.self.inside.starts.ok.0)) refl chunks maps refl append.past
    (kept-give _ _ _ c.args.cycle c.args.page c.index-pages.result.now life.0 sound.kept (by-view c.self.inside c.args.self.now c.args.cycle c.self.view_is c.requires.cycle) (keeps-view c.self.inside c.args.self.now _ c.args.cycle c.self.view_is refl c.requires.blocks sound) life.1.here life.1.first (sym read)
    (rw c.as_mut_slice.ensures.value at c.free_run.ensures.free) (rw c.as_mut_slice.ensures.value at c.free_run.ensures.scavenged) (rw c.as_mut_slice-2.ensures.value at c.mark_start.ensures))
    sound.blocks (λ next. tt) (omega arith) (rw with_chunks at c.update.ensures)
    (λ p lt. (rw c.as_mut_slice.ensures.value at c.free_run.ensures.free).below p (omega arith) ∙ sound.below_search p (omega arith))
    (let within = sound.top_within in let inside = life.1.run.inside in let some = life.1.some in let least = c.chunk_behind.ensures.least in let most = c.max-self-inside.ensures in omega arith)
    (λ p le. give-loose (free_in c.self.inside.chunks.items) (free_in c.free_run.new.chunks) (scavenged_in c.self.inside.chunks.items) (scavenged_in c.free_run.new.chunks) c.args.page c.index-pages.result.now p
    (rw c.as_mut_slice.ensures.value at c.free_run.ensures.free) (rw c.as_mut_slice.ensures.value at c.free_run.ensures.scavenged)
    (let behind = c.chunk_behind.ensures.behind in let most = c.max-self-inside.ensures in omega arith) (sound.above_top p (let most = c.max-self-inside.ensures in omega arith)))

pub returns : goal.returns
returns c =
    let life = given c.self.invariant.kept (owner-view c.self.inside c.args.self.now c.args.page c.args.page c.self.view_is c.requires.begins) in
    let lt : c.args.page < length c.self.inside.lengths.items = (let i = life.1.run.inside in let s = life.1.some in let n = c.self.invariant.numbers in omega arith) in
    let read : c.index-pages.result.now ≡ life.0.pages = get_or_read c.self.inside.lengths.items _ _ lt c.index-pages.ensures 0 ∙ life.1.pages in
    let chunks : length c.free_run.new.chunks ≡ length c.self.inside.chunks.items = c.free_run.auto.chunks ∙ ap length c.as_mut_slice.ensures.value in
    let same = with_items_is c.self.inside.chunks c.free_run.new.chunks (chunks ∙ sym c.self.inside.chunks.ok.0) in
    let sound = invariant_of-self c in
    record {
      given = rw (← c.self.view_is) (life.0, life.1.here, life.1.first, rw (← read) (adds-line c.self.inside _ _ _ refl (λ procs. tt) sound (ap length same ∙ chunks) refl c.append.ensures.past c.append.ensures.len c.append.ensures.capacity));
    }
