-- From a law of the lent state, the words and the slots to the rule: what every step of a worker uses.
use Rattle.std.proofs.Common.{◌≡◌, ◌≢◌, ℕ, ◌+◌, ◌<◌, ◌≤◌, true, false, ne_eqb, List, length, get_or, set, refl, sym, subst, arith}
use Rattle.std.specs.Prelude.{None, Some, Option}
use mathlib.Core.Option.{some}
use lib.ListN.{get_elem?}
use lib.Seq.{set-get_or}
use Rattle.std.proofs.Math.ListN.{length-set}
use Rattle.atomic_table.specs.Table.{State}
use Rattle.atomic_table.proofs.Lists.{set_again}
use Rattle.page_alloc.specs.Heap.{PageHeap}
use Rattle.page_bitmap.specs.declared.line.Line.{Line}
use Rattle.span_state.specs.declared.body.Body.{Body}
use Rattle.sweep_laws.specs.Counts.{times}
use Rattle.sweep_laws.specs.State.{CoreState}
use Rattle.sweep_laws.specs.declared.moves.Claimed.{Claimed as Claim}
use Rattle.span_laws.specs.Bodies.{is_claimed}
use Rattle.span_laws.specs.Calls.{added}
use Rattle.span_laws.specs.Cycle.{Kept}
use Rattle.span_laws.specs.Views.{acts, hand_state}
use Rattle.span_laws.specs.declared.view.Part.{Part}
use Rattle.span_laws.proofs.RuleKept.{own_at}
use Rattle.block_laws.specs.Blocked.{BlockState}
use Rattle.span_table.specs.Running.{Counted, Present, Running, Stored, Slots, Traced, Words, events_told}
use Rattle.span_table.specs.declared.view.Found.{Found}
use Rattle.span_table.specs.declared.view.Item.{Item}
use Rattle.span_table.specs.declared.view.SeatView.{SeatView}
use Rattle.span_table.proofs.CountsKept.{counts_found, counts_still}
use Rattle.span_table.proofs.Adaptors.{none_some, one_some}
use Rattle.span_table.proofs.Joined.{along, inside, kept_all, kept_own, turned}
use Rattle.span_table.proofs.PresentKept.{present_act}
use Rattle.span_table.proofs.SeatsKept.{LockTurn, seats_act, stepped_view}
use Rattle.span_table.proofs.StoredKept.{stored_still}
use Rattle.span_table.proofs.Tracing.{IsTraced, Stand, traced_act, traced_same}

module _ (R : ℕ) (s : State Item SeatView) (r : Running R s) (id : ℕ) (w : SeatView) (at : get_elem? s.views id ≡ some w) (out : w.out ≡ true) where
  -- the rule of the lent state, as the seat's view shows it
  pub own_kept : Kept r.joint.core r.joint.heap r.joint.homes w.number (along r.joint.parts w.view)
  own_kept = kept_own r.joint id w (r.seats id w at) out r.lawful

  -- the own claim is of a page that the worker holds
  pub unclaimed : (q : ℕ) → times q w.view.own.held ≡ 0 → is_claimed q w.view.own.claimed ≡ false
  unclaimed q nothing = by_claim w.view.own.claimed refl
    where
      by_claim : (o : Option Claim) → w.view.own.claimed ≡ o → is_claimed q o ≡ false
      by_claim None e = refl
      by_claim (Some d) e = let g = r.joint in let k = own_kept.rule in let f = (k.owned.sets.claim w.number (hand_state w.view.own) (own_at g.core g.heap g.homes w.number (along g.parts w.view) k) d e).held in
          ne_eqb d.page q (λ z. let y = subst (λ (t : ℕ). 0 < times t w.view.own.held) z f in absurd (omega arith))

  -- the log adds nothing to a counter, and a word that is none is written, or a word is read
  pub still_counts : (h : Part) → ((word : ℕ) → added word h.log ≡ added word w.view.own.log) → events_told h.log ≡ events_told w.view.own.log → (i x : ℕ) → ((j : ℕ) → 2 ≤ j → j < 75 → j ≢ i) → Counted r.joint.events (set r.joint.parts w.number h) (set s.words i x)
  still_counts h = counts_still r.joint.events r.joint.parts s.words r.counted w.number w.view.own ((r.seats id w at).own_is out) h

  pub found_counts : (h : Part) → ((word : ℕ) → added word h.log ≡ added word w.view.own.log) → events_told h.log ≡ events_told w.view.own.log → (i : ℕ) → Counted r.joint.events (set r.joint.parts w.number h) (set s.words i (get_or s.words i 0))
  found_counts h = counts_found r.joint.events r.joint.parts s.words r.counted w.number w.view.own ((r.seats id w at).own_is out) h

  -- nobody takes the lock or lets it go
  pub lock_still : LockTurn r.joint w.number r.joint.heap r.joint.lock w.heap
  lock_still = record { own = (r.seats id w at).lock_is out; holds = (r.seats id w at).holds out; others = λ m d e. (e, refl); back = λ m d e. e; low = r.locked }

  -- the worker takes the lock, which nobody had
  pub lock_won : r.joint.lock ≡ 0 → LockTurn r.joint w.number r.joint.heap (w.number + 1) (Some r.joint.heap)
  lock_won open_now = record { own = λ x is. (refl, one_some r.joint.heap x is); holds = λ e. refl; others = λ m d e. absurd (omega arith); back = λ m d e. absurd (d (omega arith)); low = (let l = inside r.joint id w (r.seats id w at) out in omega arith) }

  -- it lets the lock go, or keeps it; the heap may be another
  pub lock_left : (heap : PageHeap) → r.joint.lock ≡ w.number + 1 → LockTurn r.joint w.number heap 0 None
  lock_left heap held = record { own = λ x is. none_some x is; holds = λ e. absurd (omega arith); others = λ m d e. absurd (d (omega arith)); back = λ m d e. absurd (omega arith); low = omega arith }

  pub lock_kept : (heap : PageHeap) → r.joint.lock ≡ w.number + 1 → LockTurn r.joint w.number heap r.joint.lock (Some heap)
  lock_kept heap held = record { own = λ x is. (held, one_some heap x is); holds = λ e. refl; others = λ m d e. absurd (d (omega arith)); back = λ m d e. e; low = r.locked }

  -- the general rule of a step: the own part, the core, the slots, the lock, spines and blocks, and what the seat knows of them
  pub block_rule : (h : Part) (c : CoreState) (heap : PageHeap) (homes : List (Option Body)) (lock : ℕ) (taker : ℕ → ℕ) (slot_out : ℕ) (known : Option PageHeap) (told : Option (List Line)) (b : BlockState) (spares : List ℕ) (found : Option Found)
      → Kept c heap homes w.number (acts (along r.joint.parts w.view) h)
      → LockTurn r.joint w.number heap lock known → ((past : List Line) → told ≡ Some past → (heap.past ≡ past) × ((m : ℕ) → m < length r.joint.parts → r.joint.owner m ≡ id)) → ((p : ℕ) → taker p ≡ w.number + 1 → slot_out ≡ p + 1)
      → ((m p : ℕ) → m ≢ w.number → taker p ≡ m + 1 → r.joint.taker p ≡ m + 1)
      → (ws : List ℕ) (hs : Slots) → Words R c b lock ws → Counted r.joint.events (set r.joint.parts w.number h) ws → Stored R (turned r.joint w.number h c heap homes lock taker) hs
      → Stand r.blocks b → ((m : ℕ) → m < length r.joint.parts → r.joint.owner m ≢ id → b.spare m ≡ r.blocks.spare m) → IsTraced r.joint.owner (length r.joint.parts) b id (stepped_view w h slot_out known told spares found)
      → Running R record { words = ws; homes = hs; views = set s.views id (stepped_view w h slot_out known told spares found) }
  block_rule h c heap homes lock taker slot_out known told b spares found now turn own_told own_slot far ws hs words counted stored stand others own_traced = record {
    joint = turned r.joint w.number h c heap homes lock taker;
    blocks = b;
    lawful = kept_all r.joint id w (r.seats id w at) out r.lawful h c heap homes lock taker now;
    locked = subst (λ (z : ℕ). lock ≤ z) (sym (length-set r.joint.parts w.number h)) turn.low;
    words = words;
    seats = seats_act r.joint s.views r.seats id w at out h c heap homes lock taker slot_out known told spares found turn own_told own_slot far;
    stored = stored;
    counted = record { sums = counted.sums; each = counted.each };
    present = subst (λ (many : ℕ). Present r.joint.owner r.joint.driver many (set s.views id (stepped_view w h slot_out known told spares found))) (sym (length-set r.joint.parts w.number h))
        (present_act r.joint.owner r.joint.driver (length r.joint.parts) s.views r.present id w at (stepped_view w h slot_out known told spares found) refl refl refl refl);
    traced = subst (λ (many : ℕ). Traced r.joint.owner many b (set s.views id (stepped_view w h slot_out known told spares found))) (sym (length-set r.joint.parts w.number h))
        (traced_act r.joint.owner (length r.joint.parts) r.blocks s.views r.traced id b (stepped_view w h slot_out known told spares found) stand others own_traced);
  }

  -- spines and blocks stay, but that cells of blocks may be filled
  pub cells_rule : (h : Part) (c : CoreState) (heap : PageHeap) (homes : List (Option Body)) (lock : ℕ) (taker : ℕ → ℕ) (slot_out : ℕ) (known : Option PageHeap) (told : Option (List Line)) (cells : ℕ → ℕ → ℕ → ℕ)
      → Kept c heap homes w.number (acts (along r.joint.parts w.view) h)
      → LockTurn r.joint w.number heap lock known → ((past : List Line) → told ≡ Some past → (heap.past ≡ past) × ((m : ℕ) → m < length r.joint.parts → r.joint.owner m ≡ id)) → ((p : ℕ) → taker p ≡ w.number + 1 → slot_out ≡ p + 1)
      → ((m p : ℕ) → m ≢ w.number → taker p ≡ m + 1 → r.joint.taker p ≡ m + 1)
      → (ws : List ℕ) (hs : Slots) → Words R c (record (r.blocks) { cell = cells }) lock ws → Counted r.joint.events (set r.joint.parts w.number h) ws → Stored R (turned r.joint w.number h c heap homes lock taker) hs
      → Running R record { words = ws; homes = hs; views = set s.views id (stepped_view w h slot_out known told w.spares w.found) }
  cells_rule h c heap homes lock taker slot_out known told cells now turn own_told own_slot far ws hs words counted stored =
      block_rule h c heap homes lock taker slot_out known told (record (r.blocks) { cell = cells }) w.spares w.found now turn own_told own_slot far ws hs words counted stored
      (λ p e x is. is) (λ m low d. refl)
      (let t = traced_same r.joint.owner (length r.joint.parts) r.blocks s.views r.traced id w at out w refl refl refl in record { wide = λ z. t.wide out; spares = λ z. t.spares out; found = λ z. t.found out })

  pub core_rule : (h : Part) (c : CoreState) (heap : PageHeap) (homes : List (Option Body)) (lock : ℕ) (taker : ℕ → ℕ) (slot_out : ℕ) (known : Option PageHeap) (told : Option (List Line))
      → Kept c heap homes w.number (acts (along r.joint.parts w.view) h)
      → LockTurn r.joint w.number heap lock known → ((past : List Line) → told ≡ Some past → (heap.past ≡ past) × ((m : ℕ) → m < length r.joint.parts → r.joint.owner m ≡ id)) → ((p : ℕ) → taker p ≡ w.number + 1 → slot_out ≡ p + 1)
      → ((m p : ℕ) → m ≢ w.number → taker p ≡ m + 1 → r.joint.taker p ≡ m + 1)
      → (ws : List ℕ) (hs : Slots) → Words R c r.blocks lock ws → Counted r.joint.events (set r.joint.parts w.number h) ws → Stored R (turned r.joint w.number h c heap homes lock taker) hs
      → Running R record { words = ws; homes = hs; views = set s.views id (stepped_view w h slot_out known told w.spares w.found) }
  core_rule h c heap homes lock taker slot_out known told now turn own_told own_slot far ws hs words counted stored =
      cells_rule h c heap homes lock taker slot_out known told r.blocks.cell now turn own_told own_slot far ws hs words counted stored

  -- neither the lock nor the slots change
  pub plain_rule : (h : Part) (c : CoreState)
      → Kept c r.joint.heap r.joint.homes w.number (acts (along r.joint.parts w.view) h)
      → (ws : List ℕ) → Words R c r.blocks r.joint.lock ws → Counted r.joint.events (set r.joint.parts w.number h) ws → Stored R (turned r.joint w.number h c r.joint.heap r.joint.homes r.joint.lock r.joint.taker) s.homes
      → Running R record { words = ws; homes = s.homes; views = set s.views id (record w { view = acts w.view h }) }
  plain_rule h c now ws words counted stored = core_rule h c r.joint.heap r.joint.homes r.joint.lock r.joint.taker w.slot_out w.heap w.journal now
      lock_still (λ past is. (r.seats id w at).told_is out past is) (λ p is. (r.seats id w at).slot_is out p is) (λ m p d e. e) ws s.homes words counted stored

  -- the seat found an entry, or forgets the one that it found
  pub found_rule : (h : Part) (found : Option Found) → ((f : Found) → found ≡ Some f → r.blocks.entry f.set f.entry ≡ f.block + 1)
      → Kept r.joint.core r.joint.heap r.joint.homes w.number (acts (along r.joint.parts w.view) h)
      → (ws : List ℕ) → Words R r.joint.core r.blocks r.joint.lock ws → Counted r.joint.events (set r.joint.parts w.number h) ws → Stored R (turned r.joint w.number h r.joint.core r.joint.heap r.joint.homes r.joint.lock r.joint.taker) s.homes
      → Running R record { words = ws; homes = s.homes; views = set s.views id (record w { view = acts w.view h; found = found }) }
  found_rule h found names now ws words counted stored = block_rule h r.joint.core r.joint.heap r.joint.homes r.joint.lock r.joint.taker w.slot_out w.heap w.journal r.blocks w.spares found now
      lock_still (λ past is. (r.seats id w at).told_is out past is) (λ p is. (r.seats id w at).slot_is out p is) (λ m p d e. e) ws s.homes words counted stored
      (λ p e x is. is) (λ m low d. refl)
      (let t = traced_same r.joint.owner (length r.joint.parts) r.blocks s.views r.traced id w at out w refl refl refl in record { wide = λ z. t.wide out; spares = λ z. t.spares out; found = λ z. names })

  -- a cell of a block is filled
  pub filled_rule : (h : Part) (c : CoreState) (cells : ℕ → ℕ → ℕ → ℕ) → Kept c r.joint.heap r.joint.homes w.number (acts (along r.joint.parts w.view) h)
      → (ws : List ℕ) → Words R c (record (r.blocks) { cell = cells }) r.joint.lock ws → Counted r.joint.events (set r.joint.parts w.number h) ws → Stored R (turned r.joint w.number h c r.joint.heap r.joint.homes r.joint.lock r.joint.taker) s.homes
      → Running R record { words = ws; homes = s.homes; views = set s.views id (record w { view = acts w.view h }) }
  filled_rule h c cells now ws words counted stored = cells_rule h c r.joint.heap r.joint.homes r.joint.lock r.joint.taker w.slot_out w.heap w.journal cells now
      lock_still (λ past is. (r.seats id w at).told_is out past is) (λ p is. (r.seats id w at).slot_is out p is) (λ m p d e. e) ws s.homes words counted stored

  -- neither do core nor parts: only spines and blocks, and what the seat knows of them
  pub spine_rule : (b : BlockState) (spares : List ℕ) (found : Option Found) (ws : List ℕ) → Words R r.joint.core b r.joint.lock ws → Counted r.joint.events (set r.joint.parts w.number w.view.own) ws
      → Stand r.blocks b → ((m : ℕ) → m < length r.joint.parts → r.joint.owner m ≢ id → b.spare m ≡ r.blocks.spare m) → IsTraced r.joint.owner (length r.joint.parts) b id (record w { spares = spares; found = found })
      → Running R record { words = ws; homes = s.homes; views = set s.views id (record w { spares = spares; found = found }) }
  spine_rule b spares found ws words counted stand others own_traced = block_rule w.view.own r.joint.core r.joint.heap r.joint.homes r.joint.lock r.joint.taker w.slot_out w.heap w.journal b spares found own_kept
      lock_still (λ past is. (r.seats id w at).told_is out past is) (λ p is. (r.seats id w at).slot_is out p is) (λ m p d e. e) ws s.homes words counted
      (stored_still R r.joint s.homes r.stored w.number w.view.own ((r.seats id w at).own_is out) w.view.own r.joint.core r.joint.heap (λ _. refl) (λ p. omega arith)) stand others
      (record { wide = own_traced.wide; spares = own_traced.spares; found = own_traced.found })

  -- a step that changes nothing
  pub unmoved : (i : ℕ) → Running R record { words = set s.words i (get_or s.words i 0); homes = s.homes; views = set s.views id w }
  unmoved i = subst (λ (t : List ℕ × List SeatView). Running R record { words = t.0; homes = s.homes; views = t.1 }) (λ j. (sym (set-get_or s.words i 0) j, sym (set_again s.views id w at) j))
      record { joint = r.joint; blocks = r.blocks; lawful = r.lawful; locked = r.locked; words = r.words; seats = r.seats; stored = r.stored; counted = r.counted; present = r.present; traced = r.traced }
