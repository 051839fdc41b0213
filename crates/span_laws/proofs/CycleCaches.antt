-- The cycle under way as a worker pulls a block, cuts spans of it and settles it, and as it gets another page cache.
use Rattle.std.proofs.Common.{◌≡◌, ℕ, ◌+◌, List, ◌∷◌, ◌++◌, length, refl, ap, sym, subst, ◌∙◌, arith}
use Rattle.std.specs.Prelude.{None, Some, Option}
use Rattle.std.proofs.lemmas.List.{append_assoc}
use Rattle.page_alloc.specs.Heap.{PageHeap}
use Rattle.page_alloc.specs.Blocks.{IsLeastBlock}
use Rattle.page_alloc.specs.Lives.{life_of}
use Rattle.page_bitmap.specs.declared.line.Line.{Line}
use Rattle.page_bitmap.specs.declared.line.Line.TheVariants.{Pull as PullLine}
use Rattle.page_cache.specs.declared.block.Block.{Block}
use Rattle.page_cache.specs.Blocks.{page_count}
use Rattle.page_cache.specs.Cache.{Cache}
use Rattle.sound_run.specs.Run.{IsJournal, count_for}
use Rattle.span_state.specs.declared.body.Body.{Body}
use Rattle.sweep_laws.specs.Changes.{after_cut, after_drop, after_lock, after_pull}
use Rattle.sweep_laws.specs.NeedsOfRange.{refusal}
use Rattle.sweep_laws.specs.Needs.{cut_needs, drop_needs, lock_needs, pull_needs}
use Rattle.sweep_laws.specs.State.{CoreState}
use Rattle.sweep_laws.specs.declared.moves.Move.TheVariants.{Cut, Drop, Pull}
use Rattle.worker_log.specs.declared.Entry.TheVariants.{Pulled, Cut as CutEntry, Settled}
use Rattle.run_laws.specs.Blocks.{OutBlock, out_of, settled_lines}
use Rattle.run_laws.specs.ShowsBlocks.{after_cut_out, after_pulled, after_settled}
use Rattle.span_laws.specs.TakeAnswers.{cycle_at}
use Rattle.span_laws.specs.Cycle.{KeepsCycle}
use Rattle.span_laws.specs.Handed.{with_cache}
use Rattle.span_laws.specs.Rule.{Rule}
use Rattle.span_laws.specs.Views.{acts}
use Rattle.span_laws.specs.OwnSteps.{told, told_of}
use Rattle.span_laws.specs.declared.said.Said.TheVariants.{Pulls, Settles}
use Rattle.span_laws.specs.declared.said.SaidOf.TheVariants.{Cuts}
use Rattle.span_laws.specs.declared.view.Span.{Span}
use Rattle.span_laws.specs.declared.view.View.{View}
use Rattle.span_laws.proofs.CycleKept.{ShowsAll, all_shown, cycle_moved, cycle_quiet, e, move_all, put_log, seen_by, still_unplaced, tell_same}
use Rattle.span_laws.proofs.CycleLives.{locked_move, number_of}
use Rattle.span_laws.proofs.RuleKept.{log_own}

module _ (c : CoreState) (heap : PageHeap) (homes : List (Option Body)) (n : ℕ) (v : View) (k : Rule c heap homes n v) (y : KeepsCycle c heap n v k.known) where
  -- the block that the own log has out is out in the cycle
  own_out : (o : Option OutBlock) → out_of v.own.log ≡ o → out_of ((e c heap homes n v k y).logs n) ≡ o
  own_out o is = ap out_of (log_own c heap homes n v k v.own) ∙ is

  -- a block is pulled, by the line of its number
  module _ (block : Block) (lock : refusal (lock_needs c n) ≡ None) (a : refusal (pull_needs (after_lock c n) n) ≡ None) (none : out_of v.own.log ≡ None) (line cycle : ℕ) (is_now : cycle ≡ cycle_at v.generation) (heap' : PageHeap)
      (least : IsLeastBlock v.region heap.past block.page (page_count block)) (legal : IsJournal v.region v.goal (PullLine cycle n block.page (page_count block) ∷ heap.past)) (past : heap'.past ≡ PullLine cycle n block.page (page_count block) ∷ heap.past)
      (number : length heap.past ≡ line) where
    pub pull_cycle : KeepsCycle (record (after_pull c n) { lock = None }) heap' n (acts v (told (Pulls line cycle n block) v.own)) k.known
    pull_cycle = let h = told (Pulls line cycle n block) v.own in let c' : CoreState = record (after_pull c n) { lock = None } in
        let now = cycle_at v.generation in let count = page_count block in
        let legal' = subst (λ (z : ℕ × List Line). IsJournal v.region v.goal (PullLine z.0 n block.page count ∷ z.1)) (λ i. (is_now i, y.since i)) legal in
        let least' = subst (λ (z : ℕ × List Line). IsLeastBlock z.0 z.1 block.page count) (λ i. (k.region i, y.since i)) least in
        let s : ShowsAll v.region v.goal c' (after_pulled (e c heap homes n v k y) n block.page count) =
        locked_move c heap homes n v k y (Pull n) (after_pulled (e c heap homes n v k y) n block.page count) lock a (block.page, count, legal', refl) (block.page, count, own_out None none, least', refl) in
        cycle_moved c heap homes n v k y c' heap' h (PullLine now n block.page count ∷ y.lines) k.known (past ∙ (λ i. PullLine (is_now i) n block.page count ∷ y.since i))
        (seen_by c heap homes n v k y c' h (PullLine now n block.page count ∷ y.lines) k.known _ _ s
        (put_log c heap homes n v k y h (Pulled (length (y.lines ++ v.before)) (PullLine now n block.page count)) (λ i. Pulled (sym (number_of c heap homes n v k y line number) i) (PullLine (is_now i) n block.page count) ∷ v.own.log)))
        (still_unplaced c heap homes n v k y h refl (λ q. omega arith))

  -- the block that is out is settled: its cuts and the Drop of what is left are written
  module _ (o : OutBlock) (out : out_of v.own.log ≡ Some o) (lock : refusal (lock_needs c n) ≡ None) (a : refusal (drop_needs (after_lock c n) n) ≡ None) (cycle : ℕ) (is_now : cycle ≡ cycle_at v.generation) (heap' : PageHeap)
      (legal : IsJournal v.region v.goal (settled_lines cycle n (Some o) ++ heap.past)) (past : heap'.past ≡ settled_lines cycle n (Some o) ++ heap.past) where
    pub settle_cycle : KeepsCycle (record (after_drop c n) { lock = None }) heap' n (acts v (told (Settles (length o.cuts + length heap.past)) v.own)) k.known
    settle_cycle = let h = told (Settles (length o.cuts + length heap.past)) v.own in let c' : CoreState = record (after_drop c n) { lock = None } in
        let lines = settled_lines (cycle_at v.generation) n (Some o) in
        let legal' = subst (λ (z : ℕ × List Line). IsJournal v.region v.goal (settled_lines z.0 n (Some o) ++ z.1)) (λ i. (is_now i, y.since i)) legal in
        let s : ShowsAll v.region v.goal c' (after_settled (e c heap homes n v k y) n o) =
        locked_move c heap homes n v k y (Drop n) (after_settled (e c heap homes n v k y) n o) lock a (o, own_out (Some o) out, legal', refl) (o, own_out (Some o) out, refl) in
        cycle_moved c heap homes n v k y c' heap' h (lines ++ y.lines) k.known (past ∙ (λ i. settled_lines (is_now i) n (Some o) ++ y.since i) ∙ sym (append_assoc lines y.lines v.before))
        (seen_by c heap homes n v k y c' h (lines ++ y.lines) k.known _ _ s
        (put_log c heap homes n v k y h (Settled (length o.cuts + length (y.lines ++ v.before))) (λ i. Settled (length o.cuts + length (y.since i)) ∷ v.own.log)))
        (still_unplaced c heap homes n v k y h refl (λ q. omega arith))

  -- a span is cut of the block that is out, of the life of the block's Pull line
  module _ (b : Span) (left : Block) (o : OutBlock) (out : out_of v.own.log ≡ Some o) (a : refusal (cut_needs c n b.page b.pages b.count b.class) ≡ None) (count : b.count ≡ count_for b.class) where
    pub cut_cycle : KeepsCycle (after_cut c n b.page b.pages b.count b.class) heap n (acts v (told_of (Cuts left) b v.own)) (life_of o.number (cycle_at v.generation) b.page b.pages b.class ∷ k.known)
    cut_cycle = let h = told_of (Cuts left) b v.own in let c' = after_cut c n b.page b.pages b.count b.class in let known = life_of o.number (cycle_at v.generation) b.page b.pages b.class ∷ k.known in
        let next = after_cut_out (e c heap homes n v k y) n o.number b.page b.pages b.class in
        let s : ShowsAll v.region v.goal c' next = move_all v.region v.goal c (e c heap homes n v k y) (all_shown c heap homes n v k y) k.owned (Cut n b.page b.pages b.count b.class) next a
        (o, own_out (Some o) out, count, refl) (o, own_out (Some o) out, count, refl) in
        cycle_moved c heap homes n v k y c' heap h y.lines known y.since
        (seen_by c heap homes n v k y c' h y.lines known _ _ s (put_log c heap homes n v k y h (CutEntry b.page b.pages b.class) refl))
        (still_unplaced c heap homes n v k y h refl (λ q. omega arith))

  -- the worker gets another page cache, or none
  pub recache_cycle : (x : Option Cache) → KeepsCycle c heap n (acts v (with_cache x v.own)) k.known
  recache_cycle x = let h = with_cache x v.own in
      cycle_quiet c heap homes n v k y c h (all_shown c heap homes n v k y) (tell_same v.own.log) (still_unplaced c heap homes n v k y h refl (λ q. refl))
