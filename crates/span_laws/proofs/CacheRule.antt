-- The steps of page caches keep the rule: a block is pulled or settled, a span is cut, and a worker's page cache comes or goes.
use Rattle.std.proofs.Common.{◌≡◌, ℕ, ◌-◌, ◌/◌, ◌<◌, inl, inr, false, List, ◌∷◌, length, get_or, refl, ap, ◌∙◌, arith}
use Rattle.std.specs.Prelude.{Option, None, option_map}
use Rattle.page_alloc.specs.Heap.{PageHeap}
use Rattle.page_alloc.specs.Lives.{life_of}
use Rattle.page_alloc.specs.Journal.{AreAllowed, IsBy}
use Rattle.page_cache.specs.declared.block.Block.{Block}
use Rattle.page_cache.specs.Cache.{Cache}
use Rattle.sound_run.specs.Run.{IsJournal}
use Rattle.span_state.specs.Bits.{bit_of}
use Rattle.span_state.specs.declared.body.Body.{Body}
use Rattle.sweep_laws.specs.ChangesOfHands.{cut_span, drop_pulled, pull_pages}
use Rattle.sweep_laws.specs.Changes.{after_cut, after_drop, after_pull}
use Rattle.sweep_laws.specs.Lists.{erase_run}
use Rattle.sweep_laws.specs.Owned.{Owned}
use Rattle.sweep_laws.specs.Reading.{free_block}
use Rattle.sweep_laws.specs.State.{CoreState}
use Rattle.sweep_laws.specs.Tidy.{HasSpace, IsTidy}
use Rattle.worker_log.specs.declared.Entry.TheVariants.{Cut as CutEntry}
use Rattle.span_laws.specs.declared.said.Said.TheVariants.{Pulls, Settles}
use Rattle.span_laws.specs.declared.said.SaidOf.TheVariants.{Cuts}
use Rattle.span_laws.specs.declared.view.Span.{Span}
use Rattle.span_laws.specs.declared.view.View.{View}
use Rattle.span_laws.specs.Caches.{CacheTells}
use Rattle.span_laws.specs.Handed.{with_cache}
use Rattle.span_laws.specs.OwnSteps.{after_cut as after_cut_of, pages_of, told, told_of}
use Rattle.span_laws.specs.Rule.{Rule}
use Rattle.span_laws.specs.Views.{acts, hand_state}
use Rattle.span_laws.proofs.LifeMoves.{begin_keeps}
use Rattle.span_laws.proofs.Notes.{line_changes, log_changes}
use Rattle.span_laws.proofs.RuleKept.{RuleOf}

module _ (c : CoreState) (heap : PageHeap) (homes : List (Option Body)) (n : ℕ) (v : View) (k : Rule c heap homes n v) where
  module _ (heap' : PageHeap) (region : heap'.region ≡ heap.region) (goal : heap'.goal ≡ heap.goal) (legal : IsJournal heap'.region heap'.goal heap'.past) (allowed : AreAllowed v.procs heap'.past) (by : IsBy ((c.generation - 4) / 2) heap'.past) where
    -- a block is pulled, of all free pages of the core's
    pub pull_keeps : (line now : ℕ) (block : Block) → pages_of block ≡ free_block c → CacheTells n (told (Pulls line now n block) v.own) → (c' : CoreState) → c' ≡ record (after_pull c n) { lock = None } → Owned c' → IsTidy c' → HasSpace c'
        → RuleOf c' heap' homes n (acts v (told (Pulls line now n block) v.own)) k.known
    pull_keeps line now block pages tells c' e o t r = let h = told (Pulls line now n block) v.own in
        line_changes c heap homes n v k h refl refl refl (λ j q. omega arith) (λ q i. omega arith) (λ s u m. inl (omega arith)) (λ s i q m. inl m) (λ s x y m. inl (omega arith)) (λ s. omega arith) refl refl refl tells
        (pull_pages (free_block c)) (ap (λ (l : List ℕ). pull_pages l (hand_state v.own)) pages) heap' region goal legal allowed by c' e o t r

    -- a block is settled
    pub settle_keeps : (line : ℕ) → CacheTells n (told (Settles line) v.own) → (c' : CoreState) → c' ≡ record (after_drop c n) { lock = None } → Owned c' → IsTidy c' → HasSpace c' → RuleOf c' heap' homes n (acts v (told (Settles line) v.own)) k.known
    settle_keeps line tells c' e o t r = let h = told (Settles line) v.own in
        line_changes c heap homes n v k h refl refl refl (λ j q. omega arith) (λ q i. omega arith) (λ s u m. inl (omega arith)) (λ s i q m. inl m) (λ s x y m. inl (omega arith)) (λ s. omega arith) refl refl refl tells
        drop_pulled refl heap' region goal legal allowed by c' e o t r

  -- a span is cut out of the worker's block, as one of a life of any number
  module _ (left : Block) (b : Span) (low : b.page < length c.words) (free : get_or c.owners b.page None ≡ None) (empty : (j : ℕ) → bit_of b.bits j ≡ false) (cycle : ℕ) (tells : CacheTells n (told_of (Cuts left) b v.own)) where
    pub cut_keeps : (c' : CoreState) → c' ≡ after_cut c n b.page b.pages b.count b.class → Owned c' → IsTidy c' → HasSpace c'
        → RuleOf c' heap homes n (acts v (told_of (Cuts left) b v.own)) (life_of b.life cycle b.page b.pages b.class ∷ k.known)
    cut_keeps c' e o t r = begin_keeps c heap homes n v k b low free empty (cut_span b.page b.pages) (erase_run b.page b.pages v.own.pulled) (option_map (after_cut_of left b) v.own.cache) (CutEntry b.page b.pages b.class) refl (λ j q. refl) (λ q i. refl) (λ s. refl) (λ s x y. refl) (λ s. refl)
        tells heap refl refl k.legal k.allowed k.cycle (life_of b.life cycle b.page b.pages b.class ∷ k.known)
        (cycle, inl refl) (λ s x. (x.0, inr x.1)) c' (e ∙ ap (λ (l : Option ℕ). record (after_cut c n b.page b.pages b.count b.class) { lock = l }) k.unlocked) o t r

  -- the worker has another page cache, or none
  pub recache_keeps : (x : Option Cache) → CacheTells n (with_cache x v.own) → RuleOf c heap homes n (acts v (with_cache x v.own)) k.known
  recache_keeps x tells =
      log_changes c heap homes n v k (with_cache x v.own) refl refl refl (λ j q. refl) (λ q i. refl) (λ s u m. inl m) (λ s i q m. inl m) (λ s x y m. inl m) (λ s. refl) refl refl refl tells refl heap refl refl k.legal k.allowed k.cycle
