use Rattle.std.proofs.Common.{◌≡◌, ◌+◌, ◌≤◌, length, refl, ◌∙◌, sym, ap, arith}
use Rattle.std.proofs.lemmas.List.{with_items_is}
use Rattle.page_alloc.specs.FreeRuns.{IsScavengeRun}
use Rattle.page_alloc.specs.Kept.{region_of, past_in}
use Rattle.page_alloc.proofs.Keeping.{kept-scavenge, scavenge-run, scavenge_small}
use Rattle.page_alloc.proofs.Adding.{adds-line, sound-after, by-view, keeps-view, spare-view}
use Rattle.page_alloc.proofs.Sums.{right-same}
use Rattle.page_alloc.proofs.Tops.{loose-above, scavenge-loose}
use Rattle.page_alloc.specs.Region.{free_in, scavenged_in}
use Rattle.page_alloc.proofs.allocator.Pages.scavenge.Goals as goal

pub overflow_sub-self : goal.overflow_sub-self
overflow_sub-self c =
    let run : IsScavengeRun (region_of c.self.inside) (past_in c.self.inside) c.in-Some.run'.page c.in-Some.run'.pages =
    scavenge-run c.self.invariant.kept (rw c.as_slice.ensures.value at c.in-Some.ensures.found) in
    scavenge_small c.self.invariant.kept run

pub invariant_of-self-2 : goal.invariant_of-self-2
invariant_of-self-2 c =
    let sound = c.self.invariant in
    let room = sound.room in
    let append = c.append.ensures in
    let lives = sound.kept.lives in
    let out = sound.blocks in
    let spare = spare-view c.self.inside c.args.self.now 1 c.self.view_is (omega arith) in
    let run : IsScavengeRun (region_of c.self.inside) (past_in c.self.inside) c.in-Some.run'.page c.in-Some.run'.pages =
    scavenge-run sound.kept (rw c.as_slice.ensures.value at c.in-Some.ensures.found) in
    let chunks : length c.scavenge_run.new.chunks ≡ length c.self.inside.chunks.items = c.scavenge_run.auto.chunks ∙ ap length c.as_mut_slice.ensures.value in
    sound-after c.self.inside _ c.scavenge_run.new.chunks c.self.inside.starts.items c.self.inside.lengths.items _ sound
    (with_items_is c.self.inside.chunks c.scavenge_run.new.chunks (chunks ∙ sym c.self.inside.chunks.ok.0)) refl refl chunks refl refl append.past
    (kept-scavenge _ _ c.args.cycle c.in-Some.run'.page c.in-Some.run'.pages sound.kept (by-view c.self.inside c.args.self.now c.args.cycle c.self.view_is c.requires.cycle) (keeps-view c.self.inside c.args.self.now _ c.args.cycle c.self.view_is refl c.requires.blocks sound) c.if-self.false run
    (rw c.as_mut_slice.ensures.value at c.scavenge_run.ensures.free) (rw c.as_mut_slice.ensures.value at c.scavenge_run.ensures.scavenged))
    sound.blocks (λ next. tt) (omega arith) (rw chunks (right-same _ _ _ c.self.inside.levels (rw c.as_mut_slice.ensures.value at c.scavenge_run.ensures.free) sound.levels))
    (λ p lt. rw c.as_mut_slice.ensures.value at c.scavenge_run.ensures.free p ∙ sound.below_search p lt)
    (let within = run.inside in let least = c.chunk_behind-self-inside.ensures.least in omega arith)
    (λ p le. (
    let behind = c.chunk_behind-self-inside.ensures.behind in
    let above : c.in-Some.run'.page + c.in-Some.run'.pages ≤ p = omega arith in
    let top = rw c.as_slice.ensures.value at c.in-Some.ensures.found in
    scavenge-loose (free_in c.self.inside.chunks.items) (free_in c.scavenge_run.new.chunks) (scavenged_in c.self.inside.chunks.items) (scavenged_in c.scavenge_run.new.chunks) c.in-Some.run'.page c.in-Some.run'.pages p
    (rw c.as_mut_slice.ensures.value at c.scavenge_run.ensures.free) (rw c.as_mut_slice.ensures.value at c.scavenge_run.ensures.scavenged) above
    (loose-above c.self.inside.chunks.items p (λ lt. top.highest p above lt))))

pub returns-clause-released : goal.returns-clause-released
returns-clause-released c =
    let chunks : length c.scavenge_run.new.chunks ≡ length c.self.inside.chunks.items = c.scavenge_run.auto.chunks ∙ ap length c.as_mut_slice.ensures.value in
    let same = with_items_is c.self.inside.chunks c.scavenge_run.new.chunks (chunks ∙ sym c.self.inside.chunks.ok.0) in
    adds-line c.self.inside _ c.args.self.now _ c.self.view_is (λ procs. tt) (invariant_of-self-2 c) (ap length same ∙ chunks) refl c.append.ensures.past c.append.ensures.len c.append.ensures.capacity

pub invariant_of-self : goal.invariant_of-self
invariant_of-self c =
    let sound = c.self.invariant in
    record {
      some_chunks = sound.some_chunks;
      few_chunks = sound.few_chunks;
      maps = sound.maps;
      numbers = sound.numbers;
      kept = sound.kept;
      levels = sound.levels;
      below_search = sound.below_search;
      top_within = omega arith;
      above_top = λ p le. loose-above c.self.inside.chunks.items p (λ lt. (rw c.as_slice.ensures.value at c.in_default.ensures.none) p lt);
      blocks = sound.blocks;
      whole = sound.whole;
      room = sound.room;
    }
