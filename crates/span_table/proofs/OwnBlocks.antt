-- What a worker is told with the heap lock of the blocks of page caches that are out, its own among them.
use Rattle.std.proofs.Common.{◌≡◌, ℕ, ◌+◌, ◌-◌, ◌/◌, ◌<◌, true, List, [], ◌∷◌, length, get_or, refl, sym, ap, subst, ◌∙◌, arith}
use Rattle.std.specs.Prelude.{None, Some, Option}
use mathlib.Core.Option.{some}
use lib.ListN.{get_elem?}
use Rattle.atomic_table.specs.Table.{State}
use Rattle.page_alloc.specs.Blocks.{AreOfCycle, HasNoBlock}
use Rattle.page_alloc.specs.Cuts.{IsCutFrom}
use Rattle.page_alloc.specs.Heap.{PageHeap}
use Rattle.page_alloc.specs.Owners.{IsUnheld}
use Rattle.page_bitmap.specs.declared.line.Line.{Line}
use Rattle.page_cache.specs.Cache.{Cache}
use Rattle.page_cache.specs.declared.block.CutNote.{CutNote}
use Rattle.std.proofs.lemmas.List.{length-append}
use Rattle.span_laws.specs.Caches.{noted}
use Rattle.run_laws.specs.Blocks.{CutOut, OutBlock, out_of}
use Rattle.run_laws.specs.Shown.{bits_of}
use Rattle.span_state.specs.declared.body.Body.{Body}
use Rattle.sweep_laws.specs.Named.{pullers}
use Rattle.sweep_laws.specs.State.{CoreState}
use Rattle.span_laws.specs.Cycle.{Kept, cycle_seen}
use Rattle.span_laws.specs.TakeAnswers.{cycle_at}
use Rattle.span_laws.specs.declared.view.View.{View}
use Rattle.span_laws.specs.CacheAnswers.{IsEmptyCache}
use Rattle.span_laws.proofs.Caches.{idle_pulled}
use Rattle.span_laws.proofs.RuleKept.{part_at}
use Rattle.span_laws.proofs.OwnCaches.{block_cut, blocks_of_cycle, no_block_out, unheld_free}
use Rattle.span_table.specs.Running.{Running}
use Rattle.span_table.specs.declared.view.Item.{Item}
use Rattle.span_table.specs.declared.view.SeatView.{SeatView}
use Rattle.span_table.proofs.Core.{own_kept}
use Rattle.span_table.proofs.Joined.{along}

-- the blocks that are out were pulled in the cycle of a worker's generation
pub blocks_now : (w : SeatView) (generation : ℕ) (heap more : PageHeap) → AreOfCycle (cycle_at w.view.generation) heap.past → more.past ≡ heap.past → generation ≡ w.view.generation → AreOfCycle ((generation - 4) / 2) more.past
blocks_now w generation heap more blocks same is = subst (λ (z : ℕ). AreOfCycle ((z - 4) / 2) more.past) (sym is) (subst (AreOfCycle (cycle_at w.view.generation)) (sym same) blocks)

-- a page that nobody has by the journal is free in the core
pub free_core : (c : CoreState) (heap : PageHeap) (homes : List (Option Body)) (n : ℕ) (v : View) → Kept c heap homes n v → (p : ℕ) → p < length c.words → IsUnheld heap.past p → (get_or c.owners p None ≡ None) × (pullers p c.hands ≡ 0)
free_core c heap homes n v k p low free = unheld_free c heap homes n v k.rule k.cycle p low free

-- a cut is noted once
length_noted : (cuts : List CutOut) → length (noted cuts) ≡ length cuts
length_noted [] = refl
length_noted (x ∷ cuts) = let y = length_noted cuts in let z = length-append (noted cuts) (record { page = x.page; pages = x.pages; class = x.class } ∷ []) in omega arith

module _ (R : ℕ) (s : State Item SeatView) (r : Running R s) (id : ℕ) (w : SeatView) (at : get_elem? s.views id ≡ some w) (out : w.out ≡ true) where
  abbrev own : Kept r.joint.core r.joint.heap r.joint.homes w.number (along r.joint.parts w.view)
  own = own_kept R s r id w at out

  pub heap_blocks : AreOfCycle (cycle_at w.view.generation) r.joint.heap.past
  heap_blocks = blocks_of_cycle r.joint.core r.joint.heap r.joint.homes w.number (along r.joint.parts w.view) own.rule own.cycle

  pub heap_none_out : IsEmptyCache w.view.own.cache → HasNoBlock r.joint.heap.past w.number
  heap_none_out empty = no_block_out r.joint.core r.joint.heap r.joint.homes w.number (along r.joint.parts w.view) own.rule own.cycle
      (idle_pulled w.number w.view.own (own.rule.caches w.number w.view.own (part_at r.joint.core r.joint.heap r.joint.homes w.number (along r.joint.parts w.view) own.rule)) empty.0 empty.1 empty.2).0

  pub heap_cut : (k : Cache) (o : OutBlock) → w.view.own.cache ≡ Some k → out_of w.view.own.log ≡ Some o → IsCutFrom r.joint.heap.past k × (length k.cuts ≡ length o.cuts)
  heap_cut k o is has = (
    block_cut r.joint.core r.joint.heap r.joint.homes w.number (along r.joint.parts w.view) own.rule own.cycle k o is has,
    ap (λ (l : List CutNote). length l) (((own.rule.caches w.number w.view.own (part_at r.joint.core r.joint.heap r.joint.homes w.number (along r.joint.parts w.view) own.rule)).some k is).out o has).notes ∙ length_noted o.cuts,
  )
