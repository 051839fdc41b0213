use Rattle.std.proofs.Common.{◌≡◌, ℕ, ◌*◌, ◌<◌, true, false, get_or, refl, ◌∙◌, ap, arith, inl, inr}
use Rattle.std.proofs.lemmas.Bool.{cases_lt}
use Rattle.std.proofs.lemmas.List.{get_or-replicate}
use Rattle.page_bitmap.specs.declared.bitmap.Bitmap.{Bitmap}
use Rattle.page_bitmap.specs.declared.chunk.Chunk.{Chunk}
use Rattle.page_bitmap.specs.Pages.{is_free, is_scavenged}
use Rattle.page_alloc.specs.Region.{free_in, pages_of_map, scavenged_in}
use Rattle.page_alloc.proofs.Keeping.{kept-new}
use Rattle.page_alloc.proofs.Tops.{new-loose, out-loose}
use Rattle.page_alloc.proofs.Walks.{over-each, over-past}
use Rattle.page_alloc.proofs.allocator.Pages.new.Goals as goal

pub invariant_of-result : goal.invariant_of-result
invariant_of-result c =
    let chunks = c.in_ok-chunks.ensures.items_if_clones_equal (λ y e. e) in
    let maps = c.in_ok-vec.ensures.items_if_clones_equal (λ y e. e) in
    let numbers = c.in_ok-vec-2.ensures.items_if_clones_equal (λ y e. e) in
    let count = c.in_ok-chunks.ensures.len in
    let ok = c.in_ok-chunks.chunks.ok.0 in
    let ok2 = c.in_ok-vec.field-0.ok.0 in
    let ok3 = c.in_ok-vec-2.field-0.ok.0 in
    let count2 = c.in_ok-vec.ensures.len in
    let count3 = c.in_ok-vec-2.ensures.len in
    let len = c.new-3.ensures.len in
    let chunk : (k : ℕ) (d : Chunk) → k < c.args.chunks → get_or c.in_ok-chunks.chunks.items k d ≡ c.new.result =
    λ k d lt. rw chunks (get_or-replicate {A = Chunk} c.args.chunks k c.new.result d lt) in
    let map : (k : ℕ) (d : Bitmap) → k < c.args.chunks → get_or c.in_ok-vec.field-0.items k d ≡ c.empty.result =
    λ k d lt. rw maps (get_or-replicate {A = Bitmap} c.args.chunks k c.empty.result d lt) in
    let free = over-each is_free c.in_ok-chunks.chunks.items c.new.result true (λ k j lt low. ap (λ (x : Chunk). is_free x j) (chunk k c.new.result (omega arith)) ∙ c.new.ensures.free.each j (omega arith) low) in
    let scavenged = over-each is_scavenged c.in_ok-chunks.chunks.items c.new.result true (λ k j lt low. ap (λ (x : Chunk). is_scavenged x j) (chunk k c.new.result (omega arith)) ∙ c.new.ensures.scavenged.each j (omega arith) low) in
    record {
      some_chunks = omega arith;
      few_chunks = omega arith;
      maps = omega arith;
      numbers = omega arith;
      kept = rw c.new-3.ensures.items (kept-new _ _ _ _ _ _
          free
          scavenged
          (λ p lt. over-each pages_of_map c.in_ok-vec.field-0.items c.empty.result false (λ k j ltk low. ap (λ (x : Bitmap). pages_of_map x j) (map k c.empty.result (omega arith)) ∙ c.empty.ensures j) p (omega arith)));
      levels = rw c.as_slice.ensures.value at c.in_ok-levels.ensures;
      below_search = λ p lt. absurd (omega arith);
      top_within = omega arith;
      above_top = λ p le. elim (cases_lt p (512 * c.args.chunks)) [
        | inl low ↦ new-loose (free_in c.in_ok-chunks.chunks.items) (scavenged_in c.in_ok-chunks.chunks.items) p (scavenged p (omega arith))
        | inr high ↦ out-loose (free_in c.in_ok-chunks.chunks.items) (scavenged_in c.in_ok-chunks.chunks.items) p (over-past is_free c.in_ok-chunks.chunks.items p (omega arith))
      ];
      blocks = rw c.new-3.ensures.items refl;
      whole = λ line. rw c.new-3.ensures.items tt;
      room = omega arith;
    }
