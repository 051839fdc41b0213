-- What the calls of the page heap ask for the own page cache, and what they then wrote, by the rule and the cycle under way.
use Rattle.std.proofs.Common.{◌≡◌, ℕ, ◌<◌, ◌&&◌, not, List, ◌++◌, length, get_or, sym, ap, ◌∙◌, subst}
use Rattle.std.specs.Prelude.{Option, Some, None}
use Rattle.page_alloc.specs.Blocks.{AreOfCycle, HasNoBlock}
use Rattle.page_alloc.specs.Cuts.{IsCutFrom, Settles}
use Rattle.page_alloc.specs.Heap.{PageHeap}
use Rattle.page_alloc.specs.Owners.{IsUnheld, within, is_held}
use Rattle.page_alloc.specs.Blocks.{IsLeastBlock}
use Rattle.page_bitmap.specs.declared.line.Line.{Line}
use Rattle.page_cache.specs.declared.block.Block.{Block}
use Rattle.page_cache.specs.Blocks.{has_page, page_count}
use Rattle.page_cache.specs.Cache.{Cache}
use Rattle.span_state.specs.declared.body.Body.{Body}
use Rattle.sweep_laws.specs.Named.{pullers}
use Rattle.sweep_laws.specs.Reading.{free_block, hand_of}
use Rattle.sweep_laws.specs.State.{CoreState, HandState}
use Rattle.swept_set_laws.specs.Entered.{log_of}
use Rattle.run_laws.specs.Blocks.{OutBlock, out_of, settled_lines}
use Rattle.run_laws.specs.CycleSoFar.{CycleSoFar}
use Rattle.run_laws.specs.Shown.{bits_of}
use Rattle.span_laws.specs.declared.view.View.{View}
use Rattle.span_laws.specs.Cycle.{KeepsCycle, cycle_seen}
use Rattle.span_laws.specs.OwnSteps.{pages_of}
use Rattle.span_laws.specs.Rule.{Rule, logs_of}
use Rattle.span_laws.specs.TakeAnswers.{cycle_at}
use Rattle.span_laws.proofs.Allowed.{own_tells}
use Rattle.span_laws.proofs.CacheLines.{block-pages, free_in_core, held_in_core, none-out, of-cycle, settle-asks, settled-heap}
use Rattle.span_laws.proofs.RuleKept.{log_own, own_hand}

module _ (c : CoreState) (heap : PageHeap) (homes : List (Option Body)) (n : ℕ) (v : View) (k : Rule c heap homes n v) (y : KeepsCycle c heap n v k.known) where
  abbrev seen : CycleSoFar
  seen = cycle_seen n v y.lines k.known (bits_of c)

  -- the own log and the own pulled pages
  own_log : log_of (logs_of n v) n ≡ v.own.log
  own_log = log_own c heap homes n v k v.own

  pulled_is : (hand_of c n).pulled ≡ v.own.pulled
  pulled_is = ap (λ (s : HandState). s.pulled) (own_hand c heap homes n v k)

  -- a page is free in the core exactly where nobody has it by the journal
  pub unheld_free : (p : ℕ) → p < length c.words → IsUnheld heap.past p → (get_or c.owners p None ≡ None) × (pullers p c.hands ≡ 0)
  unheld_free p low u = free_in_core c seen y.blocks k.owned p low (subst (λ (l : List Line). IsUnheld l p) y.since u)

  pub free_unheld : (p : ℕ) → p < length c.words → get_or c.owners p None ≡ None → pullers p c.hands ≡ 0 → IsUnheld heap.past p
  free_unheld p low free none = subst (λ (l : List Line). IsUnheld l p) (sym y.since) (held_in_core c seen y.blocks k.owned p low free none)

  -- what the calls ask
  pub blocks_of_cycle : AreOfCycle (cycle_at v.generation) heap.past
  blocks_of_cycle = subst (AreOfCycle (cycle_at v.generation)) (sym y.since) (of-cycle seen y.knows)

  pub no_block_out : out_of v.own.log ≡ None → HasNoBlock heap.past n
  no_block_out none = subst (λ (l : List Line). HasNoBlock l n) (sym y.since) (none-out seen n y.knows (ap out_of own_log ∙ none))

  pub pages_pulled : (block : Block) → IsLeastBlock heap.region heap.past block.page (page_count block) → ((p : ℕ) → has_page block p ≡ (within p block.page 64 && not (is_held heap.past p))) → pages_of block ≡ free_block c
  pages_pulled block least pages =
      block-pages c seen y.blocks k.owned block (subst (λ (z : ℕ × List Line). IsLeastBlock z.0 z.1 block.page (page_count block)) (λ i. (k.heap_region i, y.since i)) least)
      (subst (λ (l : List Line). (p : ℕ) → has_page block p ≡ (within p block.page 64 && not (is_held l p))) y.since pages)

  module _ (x : Cache) (o : OutBlock) (is : v.own.cache ≡ Some x) (out : out_of v.own.log ≡ Some o) where
    pub block_cut : IsCutFrom heap.past x
    block_cut = subst (λ (l : List Line). IsCutFrom l x) (sym y.since) (settle-asks n v.own x o c seen (own_tells c heap homes n v k) is out y.blocks own_log pulled_is y.knows)

    -- what settling wrote
    pub block_settled : (cycle : ℕ) (heap' : PageHeap) → Settles heap heap' cycle x → heap'.past ≡ settled_lines cycle n (Some o) ++ heap.past
    block_settled cycle heap' s = settled-heap n v.own x o c seen (own_tells c heap homes n v k) is out y.blocks own_log pulled_is cycle heap heap' s
