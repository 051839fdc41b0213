-- The cycle under way stays as the own part and the core change: what all steps share.
use Rattle.std.proofs.Common.{◌≡◌, ℕ, Bool, true, List, [], ◌∷◌, ◌++◌, set, refl, ap, sym, subst, ◌∙◌}
use Rattle.std.specs.Prelude.{None, Option}
use Rattle.std.specs.List.{AllByRecursion}
use mathlib.Core.Logic.{dite}
use mathlib.Core.Option.{some-injective}
use lib.ListN.{get_elem?}
use native.Mathlib.Decide.{ℕ_discrete}
use Rattle.page_alloc.specs.Heap.{PageHeap}
use Rattle.page_alloc.specs.Lives.{Life}
use Rattle.page_bitmap.specs.declared.line.Line.{Line}
use Rattle.span_state.specs.MarkSet.{has_pair}
use Rattle.span_state.specs.declared.body.Body.{Body}
use Rattle.sweep_laws.specs.NeedsOfRange.{refusal}
use Rattle.sweep_laws.specs.Owned.{Owned}
use Rattle.sweep_laws.specs.State.{CoreState}
use Rattle.sweep_laws.specs.Step.{after, needs_of}
use Rattle.sweep_laws.specs.declared.moves.Move.{Move}
use Rattle.sweep_laws.proofs.Naming.{set_here}
use Rattle.swept_set_laws.specs.Entered.{log_of}
use Rattle.worker_log.specs.declared.Entry.{Entry}
use Rattle.worker_log.specs.declared.Entry.TheVariants.{Looked, LookedEmptyCell, Popped, Pushed, Swept, Took, Missed, Gave, Allocated, Found, Read, Added, Pulled, NoPage, Cut as CutEntry, NoCut, Settled}
use Rattle.worker_log.specs.Entries.{is_placing_in, is_quiet, many}
use Rattle.worker_log.proofs.Logs.{LookAlike, all-alike}
use Rattle.run_laws.specs.CycleSoFar.{CycleSoFar}
use Rattle.run_laws.specs.GoesOn.{GoesOn}
use Rattle.run_laws.specs.Known.{KnowsBlocks}
use Rattle.run_laws.specs.Shown.{bits_of}
use Rattle.run_laws.specs.ShowsBlocks.{BlocksGoOn, ShowsBlocks}
use Rattle.run_laws.specs.ShowsCycle.{ShowsCycle}
use Rattle.run_laws.specs.Steps.{put, with_logs}
use Rattle.run_laws.proofs.BlockLogs.{SameBlocks, same_blocks}
use Rattle.run_laws.proofs.BlockPulls.{logs_blocks, move_blocks}
use Rattle.run_laws.proofs.EachMove.{move-shows}
use Rattle.run_laws.proofs.Known.{logs_know, move_knows}
use Rattle.run_laws.proofs.Turns.{logs-show}
use Rattle.run_laws.proofs.Underway.{put_here, put_else}
use Rattle.span_laws.specs.TakeAnswers.{cycle_at}
use Rattle.span_laws.specs.Cycle.{IsClaimUnplaced, KeepsCycle, cycle_seen}
use Rattle.span_laws.specs.Rule.{Rule, logs_of}
use Rattle.span_laws.specs.Views.{acts}
use Rattle.span_laws.specs.declared.view.Part.{Part}
use Rattle.span_laws.specs.declared.view.View.{View}
use Rattle.span_laws.proofs.Parts.{set_else}
use Rattle.span_laws.proofs.RuleKept.{log_else, log_own, part_at}

-- a log looks like itself
pub same_alike : (log : List Entry) → LookAlike log log
same_alike log = record { placed = refl; swept = refl; refused = refl; took = refl; last = λ p. refl }

-- two logs tell the same to the laws
pub record TellSame (new old : List Entry) : Type 0 where
  pub alike : LookAlike new old
  pub blocks : SameBlocks new old

pub tell_same : (log : List Entry) → TellSame log log
tell_same log = record { alike = same_alike log; blocks = same_blocks log }

-- an entry at which the laws don't look tells nothing of blocks
quiet_blocks : (x : Entry) (log : List Entry) → is_quiet x ≡ true → SameBlocks (x ∷ log) log
quiet_blocks (Allocated a) log h = cc
quiet_blocks (Swept s) log h = cc
quiet_blocks (Missed number line) log h = cc
quiet_blocks (Took number line) log h = cc
quiet_blocks (Gave page pages) log h = cc
quiet_blocks (Looked set head tail) log h = record { out = refl; lines = λ cycle w. refl; pullings = refl; settlings = refl; cuts = refl }
quiet_blocks (LookedEmptyCell set index) log h = record { out = refl; lines = λ cycle w. refl; pullings = refl; settlings = refl; cuts = refl }
quiet_blocks (Pulled number line) log h = cc
quiet_blocks NoPage log h = record { out = refl; lines = λ cycle w. refl; pullings = refl; settlings = refl; cuts = refl }
quiet_blocks (CutEntry page pages class) log h = cc
quiet_blocks (NoCut pages left) log h = record { out = refl; lines = λ cycle w. refl; pullings = refl; settlings = refl; cuts = refl }
quiet_blocks (Settled number) log h = cc
quiet_blocks (Popped set page) log h = record { out = refl; lines = λ cycle w. refl; pullings = refl; settlings = refl; cuts = refl }
quiet_blocks (Pushed set page) log h = record { out = refl; lines = λ cycle w. refl; pullings = refl; settlings = refl; cuts = refl }
quiet_blocks (Found page word) log h = record { out = refl; lines = λ cycle w. refl; pullings = refl; settlings = refl; cuts = refl }
quiet_blocks (Read word value) log h = record { out = refl; lines = λ cycle w. refl; pullings = refl; settlings = refl; cuts = refl }
quiet_blocks (Added word value) log h = record { out = refl; lines = λ cycle w. refl; pullings = refl; settlings = refl; cuts = refl }

-- nor do several
pub tell_more : (said log : List Entry) → AllByRecursion (λ x. is_quiet x ≡ true) said → TellSame (said ++ log) log
tell_more said log quiet = record { alike = all-alike said log quiet; blocks = go said quiet }
  where
    go : (said : List Entry) → AllByRecursion (λ x. is_quiet x ≡ true) said → SameBlocks (said ++ log) log
    go [] quiet = same_blocks log
    go (x ∷ said) quiet = let one = quiet_blocks x (said ++ log) quiet.0 in let rest = go said quiet.1 in record {
      out = one.out ∙ rest.out;
      lines = λ cycle w. one.lines cycle w ∙ rest.lines cycle w;
      pullings = one.pullings ∙ rest.pullings;
      settlings = one.settlings ∙ rest.settlings;
      cuts = one.cuts ∙ rest.cuts;
    }

-- a cycle that the view has, with these lines, known lives, bits and logs
abbrev pub cycle_of : View → List Line → List Life → (ℕ → ℕ → Bool) → (ℕ → List Entry) → CycleSoFar
cycle_of v lines known bits logs = record { cycle = cycle_at v.generation; before = v.before; lines = lines; known = known; carried = has_pair v.carried; marks = has_pair v.marks; bits = bits; logs = logs; news = []; notes = [] }

-- ---- a state shows a cycle, and with the logs its blocks and the lives that are known

pub record ShowsAll (region goal : ℕ) (c : CoreState) (e : CycleSoFar) : Type 0 where
  pub shows : ShowsCycle region goal c e
  pub blocks : ShowsBlocks c e
  pub knows : KnowsBlocks e

module _ (region goal : ℕ) (c : CoreState) (e : CycleSoFar) (all : ShowsAll region goal c e) where
  -- so it goes on at a move
  pub move_all : Owned c → (move : Move) (next : CycleSoFar) → refusal (needs_of c move) ≡ None → GoesOn region goal c e move next → BlocksGoOn c e move next → ShowsAll region goal (after c move) next
  move_all o move next met on goes = record { shows = move-shows region goal c e all.shows all.blocks o move next met on; blocks = move_blocks c e all.blocks o move next met goes; knows = move_knows c e all.knows move next goes }

  -- as logs grow by what the laws don't look at
  pub logs_all : (logs : ℕ → List Entry) → ((w : ℕ) → TellSame (logs w) (e.logs w)) → ShowsAll region goal c (with_logs e logs)
  logs_all logs same = record { shows = logs-show region goal c e all.shows all.blocks logs (λ w. (same w).alike); blocks = logs_blocks c e all.blocks logs (λ w. (same w).blocks); knows = logs_know e all.knows logs (λ w. (same w).blocks.out) (λ w. (same w).blocks.cuts) e.bits }

  -- and with another lock, and other room
  pub spare_all : (lock : Option ℕ) (x r : ℕ) → ShowsAll region goal (record c { lock = lock; prepared = x; room = r }) e
  spare_all lock x r = let y = all.shows in let b = all.blocks in record {
    shows = record { under = y.under; bits = y.bits; marks = y.marks; lives = record { begin = y.lives.begin; same = y.lives.same }; room = y.room; tell = y.tell; size = y.size; by = y.by };
    blocks = record {
      lines = b.lines;
      named = b.named;
      settled = b.settled;
      pulled = b.pulled;
      none = b.none;
      size = b.size;
      owned = b.owned;
      cuts = λ w z h. let s = b.cuts w z h in record { begin = s.begin; pages = s.pages; class = s.class; count = s.count };
      lives = b.lives;
      each = b.each;
    };
    knows = all.knows;
  }

module _ (c : CoreState) (heap : PageHeap) (homes : List (Option Body)) (n : ℕ) (v : View) (k : Rule c heap homes n v) (y : KeepsCycle c heap n v k.known) where
  abbrev pub e : CycleSoFar
  e = cycle_seen n v y.lines k.known (bits_of c)

  pub all_shown : ShowsAll v.region v.goal c e
  all_shown = record { shows = y.shows; blocks = y.blocks; knows = y.knows }

  -- the bits and logs that a state shows, by other functions with the same values
  pub seen_by : (c' : CoreState) (h : Part) (lines : List Line) (known : List Life) (bits : ℕ → ℕ → Bool) (logs : ℕ → List Entry) → ShowsAll v.region v.goal c' (cycle_of v lines known bits logs)
      → ((m : ℕ) → logs m ≡ log_of (logs_of n (acts v h)) m) → ShowsAll v.region v.goal c' (cycle_seen n (acts v h) lines known (bits_of c'))
  seen_by c' h lines known bits logs s same = subst (λ (z : (ℕ → ℕ → Bool) × (ℕ → List Entry)). ShowsAll v.region v.goal c' (cycle_of v lines known z.0 z.1)) (λ i. (λ p j. s.shows.bits p j i, λ m. same m i)) s

  -- the own log has one entry more
  pub put_log : (h : Part) (x : Entry) → h.log ≡ x ∷ v.own.log → (m : ℕ) → put e.logs n (x ∷ e.logs n) m ≡ log_of (logs_of n (acts v h)) m
  put_log h x is m = dite (ℕ_discrete m n)
      (λ s. put_here e.logs n m (x ∷ e.logs n) s ∙ ap (λ (l : List Entry). x ∷ l) (log_own c heap homes n v k v.own) ∙ sym is ∙ sym (log_own c heap homes n v k h) ∙ ap (log_of (logs_of n (acts v h))) (sym s))
      (λ d. put_else e.logs n m (x ∷ e.logs n) d ∙ sym (log_else c heap homes n v k h m d))

  -- the own log has nothing more that the laws look at
  quiet_log : (h : Part) → TellSame h.log v.own.log → (m : ℕ) → TellSame (log_of (logs_of n (acts v h)) m) (e.logs m)
  quiet_log h alike m = dite (ℕ_discrete m n)
      (λ s. subst (λ (j : ℕ). TellSame (log_of (logs_of n (acts v h)) j) (e.logs j)) (sym s)
      (subst (λ (z : List Entry × List Entry). TellSame z.0 z.1) (λ i. (sym (log_own c heap homes n v k h) i, sym (log_own c heap homes n v k v.own) i)) alike))
      (λ d. subst (λ (l : List Entry). TellSame l (e.logs m)) (sym (log_else c heap homes n v k h m d)) (tell_same (e.logs m)))

  pub quiet_shows : (c' : CoreState) (h : Part) → ShowsAll v.region v.goal c' e → TellSame h.log v.own.log → ShowsAll v.region v.goal c' (cycle_seen n (acts v h) y.lines k.known (bits_of c'))
  quiet_shows c' h s alike = seen_by c' h y.lines k.known (bits_of c) (log_of (logs_of n (acts v h))) (logs_all v.region v.goal c' e s (log_of (logs_of n (acts v h))) (quiet_log h alike)) (λ m. refl)

  -- the record, from its parts
  pub cycle_moved : (c' : CoreState) (heap' : PageHeap) (h : Part) (lines : List Line) (known : List Life) → heap'.past ≡ lines ++ v.before → ShowsAll v.region v.goal c' (cycle_seen n (acts v h) lines known (bits_of c'))
      → IsClaimUnplaced h → KeepsCycle c' heap' n (acts v h) known
  cycle_moved c' heap' h lines known since shown unplaced = record {
    lines = lines;
    since = since;
    shows = shown.shows;
    blocks = shown.blocks;
    knows = shown.knows;
    unplaced = λ m x a. dite (ℕ_discrete m n)
        (λ s. subst IsClaimUnplaced (some-injective h x (sym (set_here v.parts n h k.number) ∙ ap (get_elem? (set v.parts n h)) (sym s) ∙ a)) unplaced)
        (λ d. y.unplaced m x (set_else v.parts n v.own m d ∙ sym (set_else v.parts n h m d) ∙ a));
  }

  pub own_unplaced : IsClaimUnplaced v.own
  own_unplaced = y.unplaced n v.own (part_at c heap homes n v k)

  -- the claim and the own placings are the same
  pub still_unplaced : (h : Part) → h.claimed ≡ v.own.claimed → ((q : ℕ) → many (is_placing_in q) h.log ≡ many (is_placing_in q) v.own.log) → IsClaimUnplaced h
  still_unplaced h claimed same d is part = same d.page ∙ own_unplaced d (sym claimed ∙ is) part

  -- no line is written
  pub cycle_quiet : (c' : CoreState) (h : Part) → ShowsAll v.region v.goal c' e → TellSame h.log v.own.log → IsClaimUnplaced h → KeepsCycle c' heap n (acts v h) k.known
  cycle_quiet c' h s alike unplaced = cycle_moved c' heap h y.lines k.known y.since (quiet_shows c' h s alike) unplaced

  -- nor at a move at which the cycle stays as it is
  pub cycle_stays : (move : Move) (h : Part) → refusal (needs_of c move) ≡ None → GoesOn v.region v.goal c e move e → BlocksGoOn c e move e → TellSame h.log v.own.log → IsClaimUnplaced h → KeepsCycle (after c move) heap n (acts v h) k.known
  cycle_stays move h met on goes alike unplaced = cycle_quiet (after c move) h (move_all v.region v.goal c e all_shown k.owned move e met on goes) alike unplaced
