-- Steps on page caches: a block is pulled and settled under the heap lock, by an add to the worker's own event word; a span is cut out of a block
-- by the store of G in its word; and a worker finds no page to pull, or no run to cut.
use Rattle.std.proofs.Common.{◌≡◌, ℕ, ◌+◌, ◌-◌, ◌/◌, ◌%◌, ◌^◌, ◌<◌, ◌≤◌, true, not, List, [], ◌∷◌, length, get_or, set, refl, sym, ap, subst, ◌∙◌, arith}
use Rattle.std.specs.Prelude.{None, Some}
use mathlib.Core.Option.{none, some}
use lib.ListN.{get_elem?}
use Rattle.atomic_table.specs.Table.{State, gives, keeps, step, Allows}
use Rattle.page_alloc.specs.Cuts.{Pulls as PullsBlock, Settles as SettlesBlock}
use Rattle.page_alloc.specs.FreeRuns.{IsSpanSize}
use Rattle.page_alloc.specs.Heap.{HasMoreRoom, PageHeap}
use Rattle.page_alloc.specs.Owners.{IsUnheld}
use Rattle.page_alloc.proofs.Lives.{span_pages}
use Rattle.page_bitmap.specs.declared.line.Line.{Line}
use Rattle.page_cache.specs.declared.block.Block.{Block}
use Rattle.page_cache.specs.Cache.{Cache, only}
use Rattle.run_laws.specs.Blocks.{OutBlock, out_of}
use Rattle.span_state.specs.declared.body.Body.{Body}
use Rattle.sweep_laws.specs.Changes.{after_cut, after_drop, after_pull}
use Rattle.sweep_laws.specs.Counts.{times}
use Rattle.sweep_laws.specs.Named.{only as only_if, pullers}
use Rattle.sweep_laws.specs.Reading.{hand_of}
use Rattle.sweep_laws.specs.State.{CoreState, HandState}
use Rattle.sweep_laws.specs.Step.{after}
use Rattle.sweep_laws.specs.declared.moves.Move.TheVariants.{Cut, Drop, Lock, Pull, Unlock}
use Rattle.span_laws.specs.Bodies.{is_claimed}
use Rattle.span_laws.specs.OwnSteps.{told, told_of}
use Rattle.span_laws.specs.TakeAnswers.{IsNew, cycle_at}
use Rattle.span_laws.specs.Views.{span_of}
use Rattle.span_laws.specs.declared.said.Said.TheVariants.{FindsNoCut, FindsNoPage, Pulls, Settles}
use Rattle.span_laws.specs.declared.said.SaidOf.TheVariants.{Cuts}
use Rattle.span_laws.specs.declared.view.Part.{Part}
use Rattle.span_laws.proofs.Allowed.{drop_allowed as drop_met, lock_allowed as lock_met, own_cut_allowed as cut_met, pull_allowed as pull_met, unlock_dropped, unlock_pulled}
use Rattle.span_laws.proofs.Caches.{idle_pulled}
use Rattle.span_laws.proofs.Kept.{cut_mine, cut_untouched, kept_cut, kept_note, kept_pull, kept_ready, kept_room, kept_settle}
use Rattle.span_laws.proofs.RuleKept.{low_number, own_hand, part_at}
use Rattle.table_words.specs.Names.{EventWord}
use Rattle.span_table.specs.Asks.{CutsRun, PullsRun, SettlesRun}
use Rattle.span_table.specs.Plays.{CutOff, FoundNoCut, FoundNoPage, Pulled, SettledBlock}
use Rattle.span_laws.specs.Calls.{added}
use Rattle.span_table.specs.Running.{Counted, Running, Words, events_told}
use Rattle.span_table.specs.Seats.{SeatState, locks, says, says_of, unlocks}
use Rattle.span_table.specs.Turning.{Ruled}
use Rattle.span_table.specs.declared.view.Item.{Item}
use Rattle.span_table.specs.declared.view.Item.TheVariants.{Heap}
use Rattle.span_table.specs.declared.view.SeatView.{SeatView}
use Rattle.span_table.proofs.Adaptors.{none_some}
use Rattle.span_table.proofs.Core.{core_rule, found_counts, lock_kept, lock_left, own_kept, plain_rule, still_counts}
use Rattle.span_table.proofs.CountsKept.{counts_event}
use Rattle.span_table.proofs.Joined.{along}
use Rattle.span_table.proofs.Locking.{only_more}
use Rattle.span_table.proofs.Made.{made, times_more}
use Rattle.span_table.proofs.OwnBlocks.{free_core}
use Rattle.span_table.proofs.Ruling.{lift}
use Rattle.span_table.proofs.StoredKept.{stored_locks, stored_still}
use Rattle.span_table.proofs.WordsKept.{words_found, words_free, words_lock, words_page, words_same}

module _ (R : ℕ) where
  -- an event of the worker of a number
  module _ (slots id : ℕ) (me : SeatState) (word : ℕ) (out : me.0.out ≡ true) (low : word < 70) (mine : word ≡ me.0.number) where
    event_words : (s : State Item SeatView) (r : Running R s) (c' : CoreState) → c'.generation ≡ r.joint.core.generation → c'.words ≡ r.joint.core.words → c'.sets ≡ r.joint.core.sets
        → Words R c' r.blocks r.joint.lock (set s.words (word + 5) ((get_or s.words (word + 5) 0 + 1) % 2 ^ 64))
    event_words s r c' g u t = let x = (get_or s.words (word + 5) 0 + 1) % 2 ^ 64 in
        words_same R r.joint.core r.blocks r.joint.lock (set s.words (word + 5) x) (words_free R r.joint.core r.blocks r.joint.lock s.words r.words (EventWord word) low (λ e. e) x) c' g u t

    event_counts : (s : State Item SeatView) (r : Running R s) → get_elem? s.views id ≡ some me.0 → (part : Part) → ((q : ℕ) → added q part.log ≡ added q me.0.view.own.log) → events_told part.log ≡ events_told me.0.view.own.log + 1
        → Counted r.joint.events (set r.joint.parts me.0.number part) (set s.words (word + 5) ((get_or s.words (word + 5) 0 + 1) % 2 ^ 64))
    event_counts s r at part same one = let g = r.joint in
        subst (λ (q : ℕ). Counted g.events (set g.parts me.0.number part) (set s.words (q + 5) ((get_or s.words (q + 5) 0 + 1) % 2 ^ 64))) (sym mine)
        (counts_event g.events g.parts s.words r.counted me.0.number me.0.view.own ((r.seats id me.0 at).own_is out) part same one (let y = mine in omega arith) (let y = r.words.size in let z = mine in omega arith))

    -- a block is pulled
    module _ (heap' : PageHeap) (line : ℕ) (block : Block) (run : PullsRun heap' line block me.0) where
      pull_runs : Allows (Running R) slots id me (word + 5) (λ n. (n + 1) % 2 ^ 64) (Pulled line block heap' (step slots (word + 5) 1 0 none) me)
      pull_runs s r _ at _ =
          let w = me.0 in let g = r.joint in let c = g.core in let n = w.number in let v = along g.parts w.view in
          let k = own_kept R s r id w at out in let own = (r.seats id w at).own_is out in let held = (r.seats id w at).lock_is out run.old run.had in
          let more₀ : HasMoreRoom g.heap run.more = subst (λ (z : PageHeap). HasMoreRoom z run.more) (sym held.1) run.room in
          let k₁ = kept_room c g.heap g.homes n v k run.more more₀ in
          let number = low_number c run.more g.homes n v k₁.rule in
          let least = run.pulls.least in let inside = least.free.here.inside in let region = k₁.rule.heap_region in
          let free = free_core c run.more g.homes n v k₁ least.least (omega arith) (least.free.here.free least.least (omega arith) (omega arith)) in
          let nothing : (hand_of c n).pulled ≡ [] = ap (λ (x : HandState). x.pulled) (own_hand c run.more g.homes n v k₁.rule)
          ∙ (idle_pulled n w.view.own (k₁.rule.caches n w.view.own (part_at c run.more g.homes n v k₁.rule)) (only n None) run.empty refl).1 in
          let a = made c (Lock n) (record { owned = k.rule.owned; tidy = k.rule.tidy; space = k.rule.space }) (lock_met c n number k.rule.unlocked) tt in
          let t = made (after c (Lock n)) (Pull n) a (pull_met c n least.least number nothing (omega arith) free.0 free.1) tt in
          let z = made (after (after c (Lock n)) (Pull n)) (Unlock n) t (unlock_pulled c n number) tt in
          let c' : CoreState = record (after_pull c n) { lock = None } in
          let part : Part = told (Pulls line (cycle_at w.view.generation) n block) w.view.own in (
            locks heap' (says (Pulls line (cycle_at w.view.generation) n block) w),
            keeps,
            tt,
            core_rule R s r id w at out part c' heap' g.homes g.lock g.taker w.slot_out (Some heap') None
                (subst (λ (q : ℕ). Rattle.span_laws.specs.Cycle.Kept c' heap' g.homes n (Rattle.span_laws.specs.Views.acts v (told (Pulls q (cycle_at w.view.generation) n block) w.view.own))) run.number
                (kept_pull c run.more g.homes n v k₁ (cycle_at w.view.generation) (ap cycle_at k.rule.generation) block heap' run.pulls run.allowed.1 run.allowed.0 run.empty c' refl z.owned z.tidy z.space))
                (lock_kept R s r id w at out heap' held.0)
                (λ past is. none_some past is)
                (λ p is. (r.seats id w at).slot_is out p is)
                (λ m p d e. e)
                (set s.words (word + 5) ((get_or s.words (word + 5) 0 + 1) % 2 ^ 64)) s.homes
                (event_words s r c' refl refl refl)
                (event_counts s r at part (λ q. omega arith) (omega arith))
                (stored_still R g s.homes r.stored n w.view.own own part c' heap' (λ e. let l = held.0 in absurd (omega arith)) (λ q. omega arith)),
            refl,
          )

      pub pull_allowed : Allows (Ruled R) slots id me (word + 5) (λ n. (n + 1) % 2 ^ 64) (Pulled line block heap' (step slots (word + 5) 1 0 none) me)
      pull_allowed = lift R slots id me (word + 5) (λ n. (n + 1) % 2 ^ 64) (Pulled line block heap' (step slots (word + 5) 1 0 none) me) out pull_runs

    -- the worker's block is settled
    module _ (heap' : PageHeap) (line : ℕ) (run : SettlesRun heap' line me.0) where
      settle_runs : Allows (Running R) slots id me (word + 5) (λ n. (n + 1) % 2 ^ 64) (SettledBlock line heap' (step slots (word + 5) 1 0 none) me)
      settle_runs s r _ at _ =
          let w = me.0 in let g = r.joint in let c = g.core in let n = w.number in let v = along g.parts w.view in
          let k = own_kept R s r id w at out in let own = (r.seats id w at).own_is out in let held = (r.seats id w at).lock_is out run.old run.had in
          let number = low_number c g.heap g.homes n v k.rule in
          let settles₀ : SettlesBlock g.heap heap' (cycle_at w.view.generation) run.cache = subst (λ (z : PageHeap). SettlesBlock z heap' (cycle_at w.view.generation) run.cache) (sym held.1) run.settles in
          let number₀ : length run.out.cuts + length g.heap.past ≡ line = ap (λ (z : PageHeap). length run.out.cuts + length z.past) held.1 ∙ sym run.number in
          let a = made c (Lock n) (record { owned = k.rule.owned; tidy = k.rule.tidy; space = k.rule.space }) (lock_met c n number k.rule.unlocked) tt in
          let t = made (after c (Lock n)) (Drop n) a (drop_met c n number) tt in
          let z = made (after (after c (Lock n)) (Drop n)) (Unlock n) t (unlock_dropped c n number) tt in
          let c' : CoreState = record (after_drop c n) { lock = None } in
          let part : Part = told (Settles line) w.view.own in (
            locks heap' (says (Settles line) w),
            keeps,
            tt,
            core_rule R s r id w at out part c' heap' g.homes g.lock g.taker w.slot_out (Some heap') None
                (subst (λ (q : ℕ). Rattle.span_laws.specs.Cycle.Kept c' heap' g.homes n (Rattle.span_laws.specs.Views.acts v (told (Settles q) w.view.own))) number₀
                (kept_settle c g.heap g.homes n v k run.cache run.has_cache run.out run.is_out (cycle_at w.view.generation) (ap cycle_at k.rule.generation) heap' settles₀ c' refl z.owned z.tidy z.space))
                (lock_kept R s r id w at out heap' held.0)
                (λ past is. none_some past is)
                (λ p is. (r.seats id w at).slot_is out p is)
                (λ m p d e. e)
                (set s.words (word + 5) ((get_or s.words (word + 5) 0 + 1) % 2 ^ 64)) s.homes
                (event_words s r c' refl refl refl)
                (event_counts s r at part (λ q. omega arith) (omega arith))
                (stored_still R g s.homes r.stored n w.view.own own part c' heap' (λ e. let l = held.0 in absurd (omega arith)) (λ q. omega arith)),
            refl,
          )

      pub settle_allowed : Allows (Ruled R) slots id me (word + 5) (λ n. (n + 1) % 2 ^ 64) (SettledBlock line heap' (step slots (word + 5) 1 0 none) me)
      settle_allowed = lift R slots id me (word + 5) (λ n. (n + 1) % 2 ^ 64) (SettledBlock line heap' (step slots (word + 5) 1 0 none) me) out settle_runs

    -- no run of so many pages is in the worker's block
    pub no_cut_allowed : (pages left : ℕ) → Allows (Ruled R) slots id me (word + 5) (λ n. n) (FoundNoCut pages left (step slots (word + 5) 0 0 none) me)
    no_cut_allowed pages left = lift R slots id me (word + 5) (λ n. n) (FoundNoCut pages left (step slots (word + 5) 0 0 none) me) out (λ s r _ at _.
        let w = me.0 in let g = r.joint in let part : Part = told (FindsNoCut pages left) w.view.own in let own = (r.seats id w at).own_is out in (
          says (FindsNoCut pages left) w,
          keeps,
          tt,
          plain_rule R s r id w at out part g.core (kept_note g.core g.heap g.homes w.number (along g.parts w.view) (own_kept R s r id w at out) (FindsNoCut pages left) tt tt)
              (set s.words (word + 5) (get_or s.words (word + 5) 0)) (words_found R g.core r.blocks g.lock s.words r.words (word + 5)) (found_counts R s r id w at out part (λ q. omega arith) refl (word + 5))
              (stored_still R g s.homes r.stored w.number w.view.own own part g.core g.heap (λ _. refl) (λ q. omega arith)),
          refl,
        ))

  -- the heap comes home, where no page was free
  barren_known : (slots id : ℕ) (w : SeatView) (h h' : PageHeap) (more : List (ℕ × Item)) → w.out ≡ true → w.heap ≡ Some h → HasMoreRoom h h'
      → Allows (Running R) slots id (w, (0, Heap h') ∷ more) 0 (λ _. 0) (λ _. FoundNoPage (step slots 0 0 0 none) (w, (0, Heap h') ∷ more) 0)
  barren_known slots id w h h' more out mine room s r _ at _ =
      let g = r.joint in let n = w.number in let v = along g.parts w.view in let own = (r.seats id w at).own_is out in let held = (r.seats id w at).lock_is out h mine in let k = own_kept R s r id w at out in
      let part : Part = told FindsNoPage w.view.own in (
        unlocks (says FindsNoPage w),
        gives,
        tt,
        core_rule R s r id w at out part g.core h' g.homes 0 g.taker w.slot_out None w.journal
            (kept_note g.core h' g.homes n v (kept_room g.core g.heap g.homes n v k h' (subst (λ (z : PageHeap). HasMoreRoom z h') (sym held.1) room)) FindsNoPage tt tt)
            (lock_left R s r id w at out h' held.0)
            (λ past is. let t = (r.seats id w at).told_is out past is in (room.past ∙ sym (ap (λ (z : PageHeap). z.past) held.1) ∙ t.0, t.1))
            (λ p is. (r.seats id w at).slot_is out p is)
            (λ m p d e. e)
            (set s.words 0 0) (set s.homes 0 (some (Heap h')))
            (words_lock R g.core r.blocks g.lock s.words r.words 0) (still_counts R s r id w at out part (λ z. omega arith) refl (0) 0 (λ y a l e. omega arith))
            (stored_locks R g s.homes r.stored n w.view.own own part g.core h' 0 (some (Heap h')) (λ _. refl) (λ p. omega arith)),
        refl,
      )

  pub barren_allowed : (slots id : ℕ) (me : SeatState) (w : SeatView) (h h' : PageHeap) (more : List (ℕ × Item)) → me ≡ (w, (0, Heap h') ∷ more) → w.out ≡ true → w.heap ≡ Some h → HasMoreRoom h h'
      → Allows (Ruled R) slots id me 0 (λ _. 0) (λ _. FoundNoPage (step slots 0 0 0 none) me 0)
  barren_allowed slots id me w h h' more is out mine room = lift R slots id me 0 (λ _. 0) (λ _. FoundNoPage (step slots 0 0 0 none) me 0) (ap (λ (z : SeatState). z.0.out) is ∙ out)
      (subst (λ (z : SeatState). Allows (Running R) slots id z 0 (λ _. 0) (λ _. FoundNoPage (step slots 0 0 0 none) z 0)) (sym is) (barren_known slots id w h h' more out mine room))

  -- a span is cut out of the worker's block
  module _ (slots id : ℕ) (me : SeatState) (x : ℕ) (b : Body) (left : Block) (out : me.0.out ≡ true) (known : x ≡ me.0.view.generation) (low : b.page < me.0.view.region) (run : CutsRun b left me.0) (is_new : IsNew b.pages b.class b) (small : b.class < 136) where
    cut_runs : Allows (Running R) slots id me (b.page + 75) (λ _. x) (λ _. CutOff (span_of b) left (step slots (b.page + 75) x 0 none) me x)
    cut_runs s r _ at _ =
        let w = me.0 in let g = r.joint in let c = g.core in let n = w.number in let v = along g.parts w.view in
        let k = own_kept R s r id w at out in let own = (r.seats id w at).own_is out in
        let c₁ : CoreState = record c { prepared = b.count } in
        let same_room : HasMoreRoom g.heap g.heap = record { region = refl; goal = refl; past = refl; spare = omega arith } in
        let k₁ = kept_ready c g.heap g.homes n v k g.heap same_room c₁ b.count refl in
        let some_pages = span_pages b.class b.pages run.size in
        let region = k₁.rule.region in let many = r.words.many in let inside : b.page < R = omega arith in
        let gen = k.rule.generation in
        let t = made c₁ (Cut n b.page b.pages b.count b.class) (record { owned = k₁.rule.owned; tidy = k₁.rule.tidy; space = k₁.rule.space })
        (cut_met c₁ g.heap g.homes n v k₁.rule run.cache b.page b.pages b.count b.class run.has_cache some_pages b.some_object small run.cut.first.run) (omega arith) in
        let c' : CoreState = after_cut c₁ n b.page b.pages b.count b.class in
        let part : Part = told_of (Cuts left) (span_of b) w.view.own in (
          says_of (Cuts left) (span_of b) w,
          keeps,
          tt,
          plain_rule R s r id w at out part c'
              (kept_cut c₁ g.heap g.homes n v k₁ b.pages b.class b is_new small run.few run.size run.cache run.has_cache left run.cut run.block run.has_block run.first run.out run.is_out run.life c' refl t.owned t.tidy t.space)
              (set s.words (b.page + 75) x)
              (words_page R c r.blocks g.lock s.words r.words c' b.page x inside refl (ap (set c.words b.page) (let y : c.generation ≡ x = omega arith in y)) refl)
              (still_counts R s r id w at out part (λ z. omega arith) refl (b.page + 75) x (λ y a l e. omega arith))
              (stored_still R g s.homes r.stored n w.view.own own part c' g.heap (λ _. refl)
              (λ q. let y = only_more (not (is_claimed q w.view.own.claimed)) (times q w.view.own.held) (times q part.held) (times_more q b.page w.view.own.held) in omega arith)),
          (refl, cut_untouched c₁ g.heap g.homes n v k₁ run.cache run.has_cache b.page b.pages some_pages run.cut.first.run, cut_mine c₁ g.heap g.homes n v k₁ run.cache run.has_cache b.page b.pages some_pages run.cut.first.run),
        )

    pub cut_allowed : Allows (Ruled R) slots id me (b.page + 75) (λ _. x) (λ _. CutOff (span_of b) left (step slots (b.page + 75) x 0 none) me x)
    cut_allowed = lift R slots id me (b.page + 75) (λ _. x) (λ _. CutOff (span_of b) left (step slots (b.page + 75) x 0 none) me x) out cut_runs
