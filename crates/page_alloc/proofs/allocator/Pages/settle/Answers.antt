use Rattle.std.proofs.Common.{◌≡◌, ◌≤◌, ◌<◌, ◌+◌, ◌*◌, ◌/◌, ◌%◌, ℕ, Bool, ◌||◌, List, ◌∷◌, Some, true, false, length, refl, ◌∙◌, sym, ap, subst, arith, inl, inr}
use Rattle.std.specs.List.{AllByRecursion}
use Rattle.std.proofs.lemmas.List.{with_items_is}
use Rattle.page_cache.specs.declared.block.Block.{Block}
use Rattle.page_cache.specs.declared.block.CutNote.{CutNote}
use Rattle.page_cache.specs.Blocks.{has_page}
use Rattle.page_cache.specs.Cache.{Cache}
use Rattle.page_alloc.specs.declared.allocator.Pages.TheInside.{Inside}
use Rattle.page_alloc.specs.Blocks.{AreOfCycle}
use Rattle.page_bitmap.specs.declared.line.Line.{Line}
use Rattle.page_bitmap.specs.declared.line.Line.TheVariants.{Drop}
use Rattle.page_alloc.specs.Cuts.{IsCutFrom, behind_cuts, with_lengths}
use Rattle.page_alloc.specs.Heap.{PageHeap}
use Rattle.page_alloc.specs.Journal.{IsBy}
use Rattle.page_alloc.specs.Kept.{IsSound, heap_of, region_of, past_in}
use Rattle.page_alloc.specs.Region.{free_in, loose_in, pages_in, scavenged_in}
use Rattle.page_alloc.proofs.Adding.{by-view, cut-view, cycle-view, settles, sound-with}
use Rattle.page_alloc.proofs.Cutting.{IsSettling, blocks-settled, cut-from, kept-settled, left-few, length-lengths, settled-outside, settling}
use Rattle.page_alloc.proofs.Sums.{right-block}
use Rattle.page_alloc.proofs.Tops.{loose-alike}
use Rattle.page_alloc.proofs.Words.{word-pages}
use Rattle.page_alloc.proofs.allocator.Pages.settle.Goals as goal

-- what is known of the block as it is settled
known : (a : Inside) (v : PageHeap) (cycle proc : ℕ) (cache : Cache) (cuts : List CutNote) (block : Block) → heap_of a ≡ v → IsSound a → IsBy cycle v.past → AreOfCycle cycle v.past → IsCutFrom v.past cache
    → proc ≡ cache.proc → cuts ≡ cache.cuts → cache.block ≡ Some block
    → IsSettling (region_of a) a.goal (past_in a) cycle proc cuts block (free_in a.chunks.items) (scavenged_in a.chunks.items) (pages_in a.starts.items) a.lengths.items a.live a.taken a.backed
known a v cycle proc cache cuts block view sound by of_cycle from p q b =
    settling cycle proc cuts block sound.kept (by-view a v cycle view by) (cycle-view a v cycle view of_cycle) sound.whole (let n = sound.numbers in omega arith)
    (cut-from (past_in a) cache proc cuts block (cut-view a v cache view from) p q b)

pub note_cuts-requires-clause-starts : goal.note_cuts-requires-clause-starts
note_cuts-requires-clause-starts c =
    let sound = c.self.invariant in
    let s = known c.self.inside c.args.self.now c.args.cycle c.proc-proc.result c.args.cache.now c.cuts-cuts.result.now c.in-Some.block c.self.view_is sound c.requires.cycle c.requires.blocks c.requires.cut
    c.proc-proc.ensures c.cuts-cuts.ensures.cuts (sym c.block.ensures.block ∙ c.in-Some.is) in
    let size : region_of c.self.inside ≡ 512 * length c.as_mut_slice.result.now = (let m = sound.maps in let e = ap length c.as_mut_slice.ensures.value in omega arith) in
    subst (λ (n : ℕ). AllByRecursion (λ (cut : CutNote). cut.page < n) c.cuts-cuts.result.now) size s.cut_pages

pub note_cuts-requires-clause-lengths : goal.note_cuts-requires-clause-lengths
note_cuts-requires-clause-lengths c =
    let sound = c.self.invariant in
    let s = known c.self.inside c.args.self.now c.args.cycle c.proc-proc.result c.args.cache.now c.cuts-cuts.result.now c.in-Some.block c.self.view_is sound c.requires.cycle c.requires.blocks c.requires.cut
    c.proc-proc.ensures c.cuts-cuts.ensures.cuts (sym c.block.ensures.block ∙ c.in-Some.is) in
    let size : region_of c.self.inside ≡ length c.as_mut_slice-2.result.now = (let m = sound.numbers in let e = ap length c.as_mut_slice-2.ensures.value in omega arith) in
    subst (λ (n : ℕ). AllByRecursion (λ (cut : CutNote). cut.page < n) c.cuts-cuts.result.now) size s.cut_pages

pub free_block-requires-clause-inside : goal.free_block-requires-clause-inside
free_block-requires-clause-inside c =
    let s = known c.self.inside c.args.self.now c.args.cycle c.proc-proc.result c.args.cache.now c.cuts-cuts.result.now c.in-Some.block c.self.view_is c.self.invariant c.requires.cycle c.requires.blocks c.requires.cut
    c.proc-proc.ensures c.cuts-cuts.ensures.cuts (sym c.block.ensures.block ∙ c.in-Some.is) in
    let inside = s.inside in
    let e = ap length c.as_mut_slice-3.ensures.value in
    omega arith

pub update-requires-clause-within : goal.update-requires-clause-within
update-requires-clause-within c =
    let s = known c.self.inside c.args.self.now c.args.cycle c.proc-proc.result c.args.cache.now c.cuts-cuts.result.now c.in-Some.block c.self.view_is c.self.invariant c.requires.cycle c.requires.blocks c.requires.cut
    c.proc-proc.ensures c.cuts-cuts.ensures.cuts (sym c.block.ensures.block ∙ c.in-Some.is) in
    let inside = s.inside in
    let chunks : length c.free_block.new.chunks ≡ length c.self.inside.chunks.items = c.free_block.auto.chunks ∙ ap length c.as_mut_slice-3.ensures.value in
    let with_chunks : c.as_slice.result.now ≡ c.free_block.new.chunks = c.as_slice.ensures.value ∙ with_items_is c.self.inside.chunks c.free_block.new.chunks (chunks ∙ sym c.self.inside.chunks.ok.0) in
    let all : length c.as_slice.result.now ≡ length c.self.inside.chunks.items = ap length with_chunks ∙ chunks in
    omega arith

pub update-requires-clause-others : goal.update-requires-clause-others
update-requires-clause-others c =
    let block = c.in-Some.block in
    let chunks : length c.free_block.new.chunks ≡ length c.self.inside.chunks.items = c.free_block.auto.chunks ∙ ap length c.as_mut_slice-3.ensures.value in
    let with_chunks : c.as_slice.result.now ≡ c.free_block.new.chunks = c.as_slice.ensures.value ∙ with_items_is c.self.inside.chunks c.free_block.new.chunks (chunks ∙ sym c.self.inside.chunks.ok.0) in
    let frees = λ (p : ℕ). (rw c.as_mut_slice-3.ensures.value at c.free_block.ensures.free) p ∙ ap (λ (b : Bool). free_in c.self.inside.chunks.items p || b) (word-pages block p c.in-Some.ensures.aligned) in
    rw (with_chunks, chunks) (right-block (free_in c.self.inside.chunks.items) (free_in c.free_block.new.chunks) _ block.page c.self.inside.levels c.in-Some.ensures.aligned
    (settled-outside (free_in c.self.inside.chunks.items) (free_in c.free_block.new.chunks) block frees) c.self.invariant.levels)

pub overflow_sub-self : goal.overflow_sub-self
overflow_sub-self c =
    let s = known c.self.inside c.args.self.now c.args.cycle c.proc-proc.result c.args.cache.now c.cuts-cuts.result.now c.in-Some.block c.self.view_is c.self.invariant c.requires.cycle c.requires.blocks c.requires.cut
    c.proc-proc.ensures c.cuts-cuts.ensures.cuts (sym c.block.ensures.block ∙ c.in-Some.is) in
    let few = left-few c.args.cycle c.proc-proc.result c.cuts-cuts.result.now c.in-Some.block s in
    rw c.count-pages.ensures few

pub invariant_of-self : goal.invariant_of-self
invariant_of-self c =
    let sound = c.self.invariant in
    let block = c.in-Some.block in
    let cuts = c.cuts-cuts.result.now in
    let s = known c.self.inside c.args.self.now c.args.cycle c.proc-proc.result c.args.cache.now cuts block c.self.view_is sound c.requires.cycle c.requires.blocks c.requires.cut
    c.proc-proc.ensures c.cuts-cuts.ensures.cuts (sym c.block.ensures.block ∙ c.in-Some.is) in
    let inside = s.inside in
    let room = sound.room in
    let out = sound.blocks in
    let one = blocks-settled c.args.cycle c.proc-proc.result c.count-pages.result cuts block s in
    let few = c.cuts-cuts.ensures.few in
    let note = c.note_cuts.ensures in
    let append = c.append.ensures in
    let chunks : length c.free_block.new.chunks ≡ length c.self.inside.chunks.items = c.free_block.auto.chunks ∙ ap length c.as_mut_slice-3.ensures.value in
    let maps : length c.note_cuts.new.starts ≡ length c.self.inside.starts.items = c.note_cuts.auto.starts ∙ ap length c.as_mut_slice.ensures.value in
    let counts : length c.note_cuts.new.lengths ≡ length c.self.inside.lengths.items = c.note_cuts.auto.lengths ∙ ap length c.as_mut_slice-2.ensures.value in
    let with_chunks : c.as_slice.result.now ≡ c.free_block.new.chunks = c.as_slice.ensures.value ∙ with_items_is c.self.inside.chunks c.free_block.new.chunks (chunks ∙ sym c.self.inside.chunks.ok.0) in
    let frees = λ (p : ℕ). (rw c.as_mut_slice-3.ensures.value at c.free_block.ensures.free) p ∙ ap (λ (b : Bool). free_in c.self.inside.chunks.items p || b) (word-pages block p c.in-Some.ensures.aligned) in
    let scavenges = rw c.as_mut_slice-3.ensures.value at c.free_block.ensures.scavenged in
    let begins = rw c.as_mut_slice.ensures.value at note.starts in
    let lengths = note.lengths ∙ ap (λ (l : List ℕ). with_lengths cuts l) c.as_mut_slice-2.ensures.value in
    let outside = settled-outside (free_in c.self.inside.chunks.items) (free_in c.free_block.new.chunks) block frees in
    sound-with c.self.inside _ c.free_block.new.chunks c.note_cuts.new.starts (with_lengths cuts c.self.inside.lengths.items) _ sound
    (with_items_is c.self.inside.chunks c.free_block.new.chunks (chunks ∙ sym c.self.inside.chunks.ok.0)) (with_items_is c.self.inside.starts c.note_cuts.new.starts (maps ∙ sym c.self.inside.starts.ok.0))
    (with_items_is c.self.inside.lengths c.note_cuts.new.lengths (counts ∙ sym c.self.inside.lengths.ok.0) ∙ lengths) chunks maps (length-lengths cuts c.self.inside.lengths.items)
    (append.past ∙ ap (λ (l : List Line). Drop c.args.cycle c.proc-proc.result block.page c.count-pages.result ∷ l) note.past)
    (kept-settled (free_in c.free_block.new.chunks) (scavenged_in c.free_block.new.chunks) (pages_in c.note_cuts.new.starts) c.args.cycle c.proc-proc.result c.count-pages.result cuts block s
    (cycle-view c.self.inside c.args.self.now c.args.cycle c.self.view_is c.requires.blocks) c.count-pages.ensures begins frees scavenges)
    (omega arith) (λ next. tt) (omega arith) (rw with_chunks at c.update.ensures)
    (λ p lt. outside p (inl (let least = c.min-self-inside.ensures in omega arith)) ∙ sound.below_search p (let least = c.min-self-inside.ensures in omega arith))
    (let within = sound.top_within in let most = c.max-self-inside.ensures in omega arith)
    (λ p le. loose-alike (free_in c.self.inside.chunks.items) (free_in c.free_block.new.chunks) (scavenged_in c.self.inside.chunks.items) (scavenged_in c.free_block.new.chunks) p
    (outside p (inr (let most = c.max-self-inside.ensures in let whole = c.in-Some.ensures.aligned in omega arith))) (scavenges p) (sound.above_top p (let most = c.max-self-inside.ensures in omega arith)))

pub returns-clause-settled : goal.returns-clause-settled
returns-clause-settled c =
    let block = c.in-Some.block in
    let here = sym c.block.ensures.block ∙ c.in-Some.is in
    let note = c.note_cuts.ensures in
    let append = c.append.ensures in
    let cuts_len = ap length c.cuts-cuts.ensures.cuts in
    let chunks : length c.free_block.new.chunks ≡ length c.self.inside.chunks.items = c.free_block.auto.chunks ∙ ap length c.as_mut_slice-3.ensures.value in
    let same = with_items_is c.self.inside.chunks c.free_block.new.chunks (chunks ∙ sym c.self.inside.chunks.ok.0) in
    settles c.self.inside _ c.args.self.now c.args.cycle c.count-pages.result c.args.cache.now block c.self.view_is (invariant_of-self c) (ap length same ∙ chunks) refl
    (append.past ∙ ap (λ (l : List Line). Drop c.args.cycle c.proc-proc.result block.page c.count-pages.result ∷ l) note.past
    ∙ ap (λ (z : ℕ × List CutNote). Drop c.args.cycle z.0 block.page c.count-pages.result ∷ behind_cuts c.args.cycle z.0 z.1 (past_in c.self.inside)) (λ i. (c.proc-proc.ensures i, c.cuts-cuts.ensures.cuts i)))
    c.count-pages.ensures here (omega arith) (omega arith)
