-- Under the heap lock: it is taken with the heap, a run is taken, and the heap comes home.
use Rattle.std.proofs.Common.{◌≡◌, ◌≢◌, ℕ, ◌+◌, ◌-◌, ◌/◌, ◌^◌, ◌<◌, ◌≤◌, true, false, eqb, eq-eqb, ne_eqb, Bool, List, [], ◌∷◌, ◌++◌, length, get_or, set, refl, sym, ap, subst, ◌∙◌, arith}
use Rattle.std.specs.Prelude.{None, Some}
use mathlib.Core.Option.{none, some}
use prog.Atomic.{either}
use Rattle.atomic_table.specs.Table.{carried_after, gives, keeps, takes, step, Allows}
use Rattle.page_alloc.specs.Heap.{AddsLine, HasMoreRoom, PageHeap}
use Rattle.page_alloc.proofs.BlocksOut.{legal-for}
use Rattle.page_alloc.proofs.Lives.{span_pages}
use Rattle.page_alloc.specs.Journal.{IsBy}
use Rattle.page_bitmap.specs.declared.line.Line.TheVariants.{Miss as MissLine, Take as TakeLine}
use Rattle.span_state.specs.declared.body.Body.{Body}
use Rattle.sweep_laws.specs.Changes.{after_take}
use Rattle.sweep_laws.specs.Counts.{times}
use Rattle.sweep_laws.specs.Named.{only, pullers}
use Rattle.sweep_laws.specs.State.{CoreState}
use Rattle.sweep_laws.specs.Step.{after}
use Rattle.sweep_laws.specs.declared.moves.Move.TheVariants.{Lock, Take, Unlock}
use Rattle.span_laws.specs.Bodies.{is_claimed}
use Rattle.span_laws.specs.OwnSteps.{told, told_of}
use Rattle.span_laws.specs.TakeAnswers.{IsNew, cycle_at}
use Rattle.span_laws.specs.Views.{parts_of, span_of}
use Rattle.span_laws.specs.declared.said.Said.TheVariants.{Misses}
use Rattle.span_laws.specs.declared.said.SaidOf.TheVariants.{Takes}
use Rattle.span_laws.specs.declared.view.Part.{Part}
use Rattle.span_laws.proofs.Allowed.{lock_allowed as lock_met, take_allowed as take_met, unlock_allowed as unlock_met}
use Rattle.span_laws.proofs.Calls.{run_mine, run_untouched}
use Rattle.span_laws.proofs.Kept.{kept_miss, kept_ready, kept_room, kept_run}
use Rattle.span_laws.proofs.RuleKept.{low_number}
use Rattle.table_words.specs.Names.{LockWord}
use Rattle.span_table.specs.Running.{Running}
use Rattle.span_table.specs.Plays.{Locked, LockedAlone, LocksBy, Missed, Took, Unlocked}
use Rattle.span_table.specs.Seats.{SeatState, locks, says, says_of, unlocks}
use Rattle.span_table.specs.declared.view.Item.{Item}
use Rattle.span_table.specs.declared.view.Item.TheVariants.{Heap}
use Rattle.span_table.specs.declared.view.SeatView.{SeatView}
use Rattle.span_table.specs.Turning.{Ruled}
use Rattle.span_table.proofs.Ruling.{lift}
use Rattle.span_table.proofs.Adaptors.{exchanges, none_some}
use Rattle.span_table.proofs.Core.{core_rule, lock_kept, lock_left, lock_won, still_counts, own_kept, unmoved}
use Rattle.span_table.proofs.Driver.{unlocked}
use Rattle.span_table.proofs.Giving.{has_runs}
use Rattle.span_table.proofs.Joined.{along}
use Rattle.span_table.proofs.Made.{made, times_more}
use Rattle.span_table.proofs.OwnBlocks.{free_core, heap_blocks, heap_cut, heap_none_out}
use Rattle.span_table.proofs.StoredKept.{stored_locks, stored_still}
use Rattle.span_table.proofs.WordsKept.{words_lock, words_page}

pub only_more : (b : Bool) (x y : ℕ) → x ≤ y → only b x ≤ only b y
only_more true x y le = le
only_more false x y le = omega arith

module _ (R : ℕ) where
  lock_known : (slots id : ℕ) (me : SeatState) → me.0.out ≡ true
      → Allows (Running R) slots id me 0 (λ n. either (eqb n 0) (me.0.number + 1) n) (Locked (step slots 0 0 (me.0.number + 1) none) me)
  lock_known slots id me out = exchanges (Running R) slots id me 0 0 (me.0.number + 1) (Locked (step slots 0 0 (me.0.number + 1) none) me)
      (λ s r deep at _ hit. let w = me.0 in let g = r.joint in let n = w.number in let own = (r.seats id w at).own_is out in
      let open_now : g.lock ≡ 0 = sym (r.words.shows LockWord tt) ∙ hit in (
        locks g.heap w,
        takes 0 (Heap g.heap),
        r.stored.heap_home open_now,
        core_rule R s r id w at out w.view.own g.core g.heap g.homes (n + 1) g.taker w.slot_out (Some g.heap) w.journal (own_kept R s r id w at out)
            (lock_won R s r id w at out open_now)
            (λ past is. (r.seats id w at).told_is out past is)
            (λ p is. (r.seats id w at).slot_is out p is)
            (λ m p d e. e)
            (set s.words 0 (n + 1)) (set s.homes 0 none)
            (words_lock R g.core r.blocks g.lock s.words r.words (n + 1)) (still_counts R s r id w at out w.view.own (λ z. omega arith) refl (0) (n + 1) (λ y a l e. omega arith))
            (stored_locks R g s.homes r.stored n w.view.own own w.view.own g.core g.heap (n + 1) none (λ e. absurd (omega arith)) (λ p. omega arith)),
        subst (λ (won : Bool). LocksBy won me (locks g.heap w, (0, Heap g.heap) ∷ me.1)) (sym (eq-eqb (get_or s.words 0 0) 0 hit)) (g.heap, refl, (let k = (own_kept R s r id w at out).rule in record { region = k.heap_region ∙ sym k.region; goal = sym k.goal; legal = legal-for 64 w.view.procs g.heap.region g.heap.goal g.heap.past k.allowed k.legal; cycle = subst (λ (y : ℕ). IsBy (cycle_at y) g.heap.past) (sym k.generation) k.cycle; told = λ past is. ((r.seats id w at).told_is out past is).0; blocks = heap_blocks R s r id w at out; none_out = heap_none_out R s r id w at out; cut = heap_cut R s r id w at out; runs = has_runs R s r id w at out })),
      ))
      (λ s r _ at _ miss. (
        me.0,
        keeps,
        tt,
        unmoved R s r id me.0 at out 0,
        subst (λ (won : Bool). LocksBy won me me) (sym (ne_eqb (get_or s.words 0 0) 0 miss)) refl,
      ))

  lock_runs : (slots id : ℕ) (me : SeatState) (number : ℕ) → number ≡ me.0.number → me.0.out ≡ true
      → Allows (Running R) slots id me 0 (λ n. either (eqb n 0) (number + 1) n) (Locked (step slots 0 0 (number + 1) none) me)
  lock_runs slots id me number is out = subst (λ (k : ℕ). Allows (Running R) slots id me 0 (λ n. either (eqb n 0) (k + 1) n) (Locked (step slots 0 0 (k + 1) none) me)) (sym is) (lock_known slots id me out)

  pub lock_allowed : (slots id : ℕ) (me : SeatState) (number : ℕ) → number ≡ me.0.number → me.0.out ≡ true
      → Allows (Ruled R) slots id me 0 (λ n. either (eqb n 0) (number + 1) n) (Locked (step slots 0 0 (number + 1) none) me)
  lock_allowed slots id me number is out = lift R slots id me 0 (λ n. either (eqb n 0) (number + 1) n) (Locked (step slots 0 0 (number + 1) none) me) out (lock_runs slots id me number is out)

  -- the driver wins the lock while no worker is out
  pub lock_alone_allowed : (slots id : ℕ) (me : SeatState) (number : ℕ) → number ≡ me.0.number → me.0.out ≡ true → me.0.drives ≡ true → me.0.away ≡ [] → me.0.heap ≡ None
      → Allows (Ruled R) slots id me 0 (λ n. either (eqb n 0) (number + 1) n) (LockedAlone (step slots 0 0 (number + 1) none) me)
  lock_alone_allowed slots id me number is out drives home empty = lift R slots id me 0 (λ n. either (eqb n 0) (number + 1) n) (LockedAlone (step slots 0 0 (number + 1) none) me) out (λ s r deep at fits.
      let seat = r.seats id me.0 at in let t = lock_runs slots id me number is (seat.drives drives).1 s r deep at fits in
      let open_now : get_or s.words 0 0 ≡ 0 = r.words.shows LockWord tt ∙ unlocked r.joint id me.0 seat drives home r.locked empty r.joint.lock refl in
      (t.0, t.1, t.2, t.3, subst (λ (won : Bool). LocksBy won me (t.0, carried_after me.1 t.1)) (eq-eqb (get_or s.words 0 0) 0 open_now) t.4))

  unlock_known : (slots id : ℕ) (w : SeatView) (h h' : PageHeap) (more : List (ℕ × Item)) → w.out ≡ true → w.heap ≡ Some h → HasMoreRoom h h'
      → Allows (Running R) slots id (w, (0, Heap h') ∷ more) 0 (λ _. 0) (λ _. Unlocked (step slots 0 0 0 none) (w, (0, Heap h') ∷ more) 0)
  unlock_known slots id w h h' more out mine room s r _ at _ =
      let g = r.joint in let n = w.number in let own = (r.seats id w at).own_is out in let held = (r.seats id w at).lock_is out h mine in (
        unlocks w,
        gives,
        tt,
        core_rule R s r id w at out w.view.own g.core h' g.homes 0 g.taker w.slot_out None w.journal
            (kept_room g.core g.heap g.homes n (along g.parts w.view) (own_kept R s r id w at out) h' (subst (λ (z : PageHeap). HasMoreRoom z h') (sym held.1) room))
            (lock_left R s r id w at out h' held.0)
            (λ past is. let t = (r.seats id w at).told_is out past is in (room.past ∙ sym (ap (λ (z : PageHeap). z.past) held.1) ∙ t.0, t.1))
            (λ p is. (r.seats id w at).slot_is out p is)
            (λ m p d e. e)
            (set s.words 0 0) (set s.homes 0 (some (Heap h')))
            (words_lock R g.core r.blocks g.lock s.words r.words 0) (still_counts R s r id w at out w.view.own (λ z. omega arith) refl (0) 0 (λ y a l e. omega arith))
            (stored_locks R g s.homes r.stored n w.view.own own w.view.own g.core h' 0 (some (Heap h')) (λ _. refl) (λ p. omega arith)),
        refl,
      )

  pub unlock_allowed : (slots id : ℕ) (me : SeatState) (w : SeatView) (h h' : PageHeap) (more : List (ℕ × Item)) → me ≡ (w, (0, Heap h') ∷ more) → w.out ≡ true → w.heap ≡ Some h → HasMoreRoom h h'
      → Allows (Ruled R) slots id me 0 (λ _. 0) (λ _. Unlocked (step slots 0 0 0 none) me 0)
  unlock_allowed slots id me w h h' more is out mine room = lift R slots id me 0 (λ _. 0) (λ _. Unlocked (step slots 0 0 0 none) me 0) (ap (λ (z : SeatState). z.0.out) is ∙ out)
      (subst (λ (z : SeatState). Allows (Running R) slots id z 0 (λ _. 0) (λ _. Unlocked (step slots 0 0 0 none) z 0)) (sym is) (unlock_known slots id w h h' more out mine room))

  -- the store of 0 that lets go of the lock, where the journal's last line says that no run was free
  miss_known : (slots id : ℕ) (w : SeatView) (h heap₁ h' : PageHeap) (line pages class : ℕ) (more : List (ℕ × Item)) → w.out ≡ true → w.heap ≡ Some h → HasMoreRoom h heap₁ → AddsLine heap₁ h' (MissLine (cycle_at w.view.generation) pages class) → length heap₁.past ≡ line
      → Allows (Running R) slots id (w, (0, Heap h') ∷ more) 0 (λ _. 0) (λ _. Missed line pages class (step slots 0 0 0 none) (w, (0, Heap h') ∷ more) 0)
  miss_known slots id w h heap₁ h' line pages class more out mine room adds number s r _ at _ =
      let g = r.joint in let n = w.number in let own = (r.seats id w at).own_is out in let held = (r.seats id w at).lock_is out h mine in let k = own_kept R s r id w at out in
      let more₁ : HasMoreRoom g.heap heap₁ = subst (λ (z : PageHeap). HasMoreRoom z heap₁) (sym held.1) room in
      let part : Part = told (Misses line (cycle_at w.view.generation) pages class) w.view.own in (
        unlocks (says (Misses line (cycle_at w.view.generation) pages class) w),
        gives,
        tt,
        core_rule R s r id w at out part g.core h' g.homes 0 g.taker w.slot_out None None
            (kept_miss g.core heap₁ g.homes n (along g.parts w.view) (kept_room g.core g.heap g.homes n (along g.parts w.view) k heap₁ more₁) line (cycle_at w.view.generation) pages class (ap cycle_at k.rule.generation) h' adds number)
            (lock_left R s r id w at out h' held.0)
            (λ past is. none_some past is)
            (λ p is. (r.seats id w at).slot_is out p is)
            (λ m p d e. e)
            (set s.words 0 0) (set s.homes 0 (some (Heap h')))
            (words_lock R g.core r.blocks g.lock s.words r.words 0) (still_counts R s r id w at out part (λ z. omega arith) refl (0) 0 (λ y a l e. omega arith))
            (stored_locks R g s.homes r.stored n w.view.own own part g.core h' 0 (some (Heap h')) (λ _. refl) (λ p. omega arith)),
        refl,
      )

  pub miss_allowed : (slots id : ℕ) (me : SeatState) (w : SeatView) (h heap₁ h' : PageHeap) (line pages class : ℕ) (more : List (ℕ × Item)) → me ≡ (w, (0, Heap h') ∷ more) → w.out ≡ true → w.heap ≡ Some h → HasMoreRoom h heap₁ → AddsLine heap₁ h' (MissLine (cycle_at w.view.generation) pages class) → length heap₁.past ≡ line
      → Allows (Ruled R) slots id me 0 (λ _. 0) (λ _. Missed line pages class (step slots 0 0 0 none) me 0)
  miss_allowed slots id me w h heap₁ h' line pages class more is out mine room adds number = lift R slots id me 0 (λ _. 0) (λ _. Missed line pages class (step slots 0 0 0 none) me 0) (ap (λ (z : SeatState). z.0.out) is ∙ out)
      (subst (λ (z : SeatState). Allows (Running R) slots id z 0 (λ _. 0) (λ _. Missed line pages class (step slots 0 0 0 none) z 0)) (sym is) (miss_known slots id w h heap₁ h' line pages class more out mine room adds number))

  -- the store of G, at the first page of the run that the journal's line took
  module _ (slots id : ℕ) (me : SeatState) (x : ℕ) (h heap₁ heap' : PageHeap) (page pages class : ℕ) (b : Body) (out : me.0.out ≡ true) (mine : me.0.heap ≡ Some h) (known : x ≡ me.0.view.generation) (more : HasMoreRoom h heap₁)
      (line : AddsLine heap₁ heap' (TakeLine (cycle_at me.0.view.generation) page pages class)) (is_new : IsNew pages class b) (at_page : b.page ≡ page) (small : class < 136) (number : length heap₁.past ≡ b.life) where
    take_runs : Allows (Running R) slots id me (page + 75) (λ _. x) (λ _. Took (span_of b) heap' (step slots (page + 75) x 0 none) me x)
    take_runs s r _ at _ =
        let w = me.0 in let g = r.joint in let c = g.core in let n = w.number in let v = along g.parts w.view in
        let k = own_kept R s r id w at out in let own = (r.seats id w at).own_is out in let held = (r.seats id w at).lock_is out h mine in
        let more₀ : HasMoreRoom g.heap heap₁ = subst (λ (z : PageHeap). HasMoreRoom z heap₁) (sym held.1) more in
        let c₁ : CoreState = record c { prepared = b.count } in
        let k₁ = kept_ready c g.heap g.homes n v k heap₁ more₀ c₁ b.count refl in
        let low₁ = low_number c₁ heap₁ g.homes n v k₁.rule in let region₁ = k₁.rule.heap_region in let inside = line.may_follow.1.here.inside in
        let some_pages = span_pages class pages line.may_follow.0 in
        let many = r.words.many in let low : page < R = omega arith in
        let gen = k.rule.generation in
        let a = made c₁ (Lock n) (record { owned = k₁.rule.owned; tidy = k₁.rule.tidy; space = k₁.rule.space }) (lock_met c₁ n low₁ k₁.rule.unlocked) tt in
        let t = made (after c₁ (Lock n)) (Take n page pages b.count class) a
        (take_met c₁ n page pages b.count class low₁ (omega arith) some_pages b.some_object small (λ q l u. (free_core c₁ heap₁ g.homes n v k₁ q (omega arith) (line.may_follow.1.here.free q l u)).0) (λ q l u. (free_core c₁ heap₁ g.homes n v k₁ q (omega arith) (line.may_follow.1.here.free q l u)).1)) (omega arith) in
        let z = made (after (after c₁ (Lock n)) (Take n page pages b.count class)) (Unlock n) t (unlock_met c₁ n page pages b.count class low₁) tt in
        let c' : CoreState = record (after_take c₁ n page pages b.count class) { lock = None } in
        let unowned : get_or c₁.owners b.page None ≡ None = ap (λ (q : ℕ). get_or c₁.owners q None) at_page ∙ (free_core c₁ heap₁ g.homes n v k₁ page (omega arith) (line.may_follow.1.here.free page (omega arith) (omega arith))).0 in
        let part : Part = told_of (Takes (cycle_at w.view.generation)) (span_of b) w.view.own in (
          locks heap' (says_of (Takes (cycle_at w.view.generation)) (span_of b) w),
          keeps,
          tt,
          core_rule R s r id w at out part c' heap' g.homes g.lock g.taker w.slot_out (Some heap') None
              (kept_run c g.heap g.homes n v k heap₁ more₀ c₁ b.count refl (cycle_at w.view.generation) page pages class (ap cycle_at gen) heap' line b is_new at_page small number c' refl z.owned z.tidy z.space)
              (lock_kept R s r id w at out heap' held.0)
              (λ past is. none_some past is)
              (λ p is. (r.seats id w at).slot_is out p is)
              (λ m p d e. e)
              (set s.words (page + 75) x) s.homes
              (words_page R c r.blocks g.lock s.words r.words c' page x low refl (ap (set c.words page) (let y : c.generation ≡ x = omega arith in y)) refl) (still_counts R s r id w at out part (λ z. omega arith) refl (page + 75) x (λ y a l e. omega arith))
              (stored_still R g s.homes r.stored n w.view.own own part c' heap' (λ e. let l = held.0 in absurd (omega arith))
              (λ q. let y = only_more (Rattle.std.proofs.Common.not (is_claimed q w.view.own.claimed)) (times q w.view.own.held) (times q part.held) (times_more q b.page w.view.own.held) in omega arith)),
          (
            refl,
            run_untouched c g.heap g.homes n v k.rule heap₁ more₀ c₁ b.count refl (cycle_at w.view.generation) page pages class heap' line b is_new at_page unowned,
            run_mine c g.heap g.homes n v k.rule heap₁ more₀ c₁ b.count refl (cycle_at w.view.generation) page pages class heap' line b is_new at_page unowned,
          ),
        )

    pub take_allowed : Allows (Ruled R) slots id me (page + 75) (λ _. x) (λ _. Took (span_of b) heap' (step slots (page + 75) x 0 none) me x)
    take_allowed = lift R slots id me (page + 75) (λ _. x) (λ _. Took (span_of b) heap' (step slots (page + 75) x 0 none) me x) out take_runs
