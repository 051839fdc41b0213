-- All that holds of the lent state stays at each call's step: the rule, and the cycle under way.
use Rattle.std.proofs.Common.{◌≡◌, ℕ, ◌+◌, ◌-◌, ◌/◌, ◌<◌, ◌≤◌, ⊎_elim, ◌⊎◌, ◌≢◌, inl, inr, ltb, true, false, List, [], ◌∷◌, ◌++◌, length, map, get_or, set, refl, ap, sym, subst, ◌∙◌, arith}
use Rattle.std.specs.Prelude.{None, Some, Option, IfNone, IfSome}
use Rattle.std.specs.List.{AllByRecursion}
use Rattle.std.proofs.lemmas.Bool.{cases_lt, lt-ltb, ltb-true}
use Rattle.std.proofs.lemmas.List.{set-get_or}
use Rattle.std.proofs.Math.ListN.{length-set}
use Rattle.size_classes.specs.declared.TheConstants.{MAX_PAGES}
use Rattle.page_alloc.specs.Heap.{AddsLine, HasMoreRoom, PageHeap}
use Rattle.size_classes.proofs.Bounds.{objects_bounds}
use Rattle.page_alloc.specs.Lists.{In}
use Rattle.page_alloc.specs.Lives.{Life, life_of, others}
use Rattle.page_alloc.specs.Blocks.{AreOfCycle, HasBlock, HasNoBlock, IsLeastBlock, OpenBlock, open_blocks}
use Rattle.page_alloc.specs.Cuts.{IsCutFrom}
use Rattle.page_alloc.specs.Cuts.{Pulls as PullsBlock, Settles as SettlesBlock}
use Rattle.page_alloc.proofs.BlocksOut.{legal-allowed}
use Rattle.page_alloc.specs.FreeRuns.{IsSpanSize}
use Rattle.page_alloc.specs.Journal.{AreAllowed, IsBy, cycle_of}
use Rattle.page_alloc.proofs.Lives.{span_pages}
use Rattle.page_bitmap.specs.declared.line.Line.{Line}
use Rattle.page_bitmap.specs.declared.line.Line.TheVariants.{Take as TakeLine, Miss as MissLine, Give as GiveLine, Scav, Pull as PullLine, Cut as CutLine, Drop as DropLine}
use Rattle.page_bitmap.specs.declared.line.Run.{Run}
use Rattle.page_cache.specs.declared.block.Block.{Block}
use Rattle.page_cache.specs.Blocks.{page_count}
use Rattle.page_cache.specs.Cache.{Cache, in_block, only}
use Rattle.page_cache.specs.Runs.{IsRun}
use Rattle.sound_run.specs.Run.{IsJournal, count_for}
use Rattle.span_state.specs.declared.body.Body.{Body}
use Rattle.sweep_laws.specs.Changes.{after_acquire, after_claim, after_cut, after_drop, after_give, after_next, after_pop_swept, after_pull, after_take}
use Rattle.sweep_laws.specs.Counts.{one_if, times}
use Rattle.sweep_laws.specs.Lists.{has, rises}
use Rattle.sweep_laws.specs.Reading.{cell_of, hand_of, is_swept_set, life_in, set_of}
use Rattle.sweep_laws.specs.NeedsOfRange.{refusal}
use Rattle.sweep_laws.specs.Needs.{allocate_needs, release_needs}
use Rattle.sweep_laws.specs.Owned.{Owned}
use Rattle.sweep_laws.specs.OwnedLives.{EachAt}
use Rattle.sweep_laws.specs.Start.{copies, new_state}
use Rattle.sweep_laws.specs.State.{CoreState, HandState}
use Rattle.sweep_laws.specs.Step.{after, needs_of}
use Rattle.sweep_laws.specs.Tidy.{HasSpace, IsTidy, TailsFit}
use Rattle.sweep_laws.specs.declared.moves.Claimed.{Claimed}
use Rattle.sweep_laws.proofs.HeapMoves.{pulled_uncovered}
use Rattle.sweep_laws.proofs.LivesChange.{uncovered_owner}
use Rattle.sweep_laws.proofs.NeedsMet.{all_met, some_none}
use Rattle.worker_log.specs.SweptLast.{is_swept_last}
use Rattle.worker_log.specs.SetNumbers.{is_full_set}
use Rattle.worker_log.specs.Entries.{is_placing_in, is_pop_of, many}
use Rattle.run_laws.specs.Blocks.{CutOut, OutBlock, cut_line, out_of, settled_lines}
use Rattle.run_laws.proofs.KnownLives.{from_but}
use Rattle.span_laws.specs.TakeAnswers.{IsNew, cycle_at}
use Rattle.span_laws.specs.CacheAnswers.{IsCutOf}
use Rattle.span_laws.specs.Caches.{CacheTells}
use Rattle.span_laws.specs.Answers.{IsOfSet}
use Rattle.span_laws.specs.Asks.{HasBody, IsUntouched, mine}
use Rattle.span_laws.specs.MarkEndAsks.{IsAtRest, IsKnown}
use Rattle.span_laws.specs.Cycle.{KeepsCycle, Kept}
use Rattle.span_laws.specs.Moves.{move_of, move_on}
use Rattle.span_laws.specs.Rule.{Rule}
use Rattle.span_laws.specs.Suits.{IsQuiet, PlacesAlone, Suits, SuitsOf}
use Rattle.span_laws.specs.Truth.{IsSo}
use Rattle.span_laws.specs.Views.{acts, first_view, hand_state, no_part, parts_of, span_of}
use Rattle.span_laws.specs.OwnSteps.{told, told_of}
use Rattle.span_laws.specs.Handed.{handed, with_cache}
use Rattle.span_laws.specs.MarkEnds.{marked}
use Rattle.span_laws.specs.declared.said.Said.{Said}
use Rattle.span_laws.specs.declared.said.Said.TheVariants.{Claims, Gives, Misses, Pulls, Settles}
use Rattle.span_laws.specs.declared.said.SaidOf.{SaidOf}
use Rattle.span_laws.specs.declared.said.SaidOf.TheVariants.{Acquires, Releases, Takes, Pops, Places, Cuts}
use Rattle.span_laws.specs.declared.view.Part.{Part}
use Rattle.span_laws.specs.declared.view.Span.{Span}
use Rattle.span_laws.specs.declared.view.View.{View}
use Rattle.span_laws.proofs.Allowed.{acquire_allowed, cut_low, drop_allowed, give_allowed, lock_allowed, own_cut_allowed, own_tells, pop_swept_allowed, pull_allowed, take_allowed}
use Rattle.span_laws.proofs.CacheRule.{cut_keeps, pull_keeps, recache_keeps, settle_keeps}
use Rattle.span_laws.proofs.Caches.{cache_cuts, cache_pulls, cache_renews, cache_settles, idle_pulled}
use Rattle.span_laws.proofs.Calls.{acquire_rule, claim_rule, pop_rule, ready_rule, run_rule}
use Rattle.span_laws.proofs.CycleCaches.{cut_cycle, pull_cycle, recache_cycle, settle_cycle}
use Rattle.span_laws.proofs.CycleKept.{e}
use Rattle.span_laws.proofs.CycleLives.{give_cycle, place_cycle, release_cycle, take_cycle}
use Rattle.span_laws.proofs.CycleSteps.{acquire_cycle, claim_cycle, note_cycle, pop_cycle, said_cycle}
use Rattle.span_laws.proofs.CycleTurns.{life_cycle, miss_cycle, next_cycle, room_cycle, scav_cycle, seat_cycle, start_cycle}
use Rattle.span_laws.proofs.LifeMoves.{free_has, free_unsettled, give_keeps}
use Rattle.span_laws.proofs.MarkEnd.{next_keeps}
use Rattle.span_laws.proofs.Notes.{heap_keeps, miss_keeps, note_keeps, room_keeps, seat_keeps}
use Rattle.sweep_laws.specs.Named.{pullers}
use Rattle.span_laws.proofs.OwnCaches.{block_cut, block_settled, blocks_of_cycle, no_block_out, pages_pulled, unheld_free}
use Rattle.span_laws.proofs.Parts.{set_apart}
use Rattle.span_laws.proofs.RuleKept.{RuleOf, kept_by, log_own, low_number, own_at, own_hand}
use Rattle.span_laws.proofs.SaidKept.{of_keeps, said_keeps}
use Rattle.span_laws.proofs.Start.{start_rule}
use Rattle.span_laws.proofs.Uses.{claim_allowed, untouched}
use Rattle.span_laws.proofs.WordMoves.{kept, once}

-- the processor of a block that is out, and those of the lines that settle it
block_allowed : (procs : ℕ) (past : List Line) → AreAllowed procs past → (block : OpenBlock) → In block (open_blocks past) → block.proc < procs
block_allowed procs [] a block h = absurd h
block_allowed procs (TakeLine cycle page pages class ∷ past) a block h = block_allowed procs past a.1 block h
block_allowed procs (MissLine cycle pages class ∷ past) a block h = block_allowed procs past a.1 block h
block_allowed procs (GiveLine cycle page pages ∷ past) a block h = block_allowed procs past a.1 block h
block_allowed procs (Scav cycle page pages ∷ past) a block h = block_allowed procs past a.1 block h
block_allowed procs (PullLine cycle proc page pages ∷ past) a block (inl is) = subst (λ (z : OpenBlock). z.proc < procs) is a.0
block_allowed procs (PullLine cycle proc page pages ∷ past) a block (inr h) = block_allowed procs past a.1 block h
block_allowed procs (CutLine cycle proc page pages class ∷ past) a block h = block_allowed procs past a.1 block h
block_allowed procs (DropLine cycle proc page pages ∷ past) a block h = block_allowed procs past a.1 block (from_but proc (open_blocks past) block h).0

settled_allowed : (procs cycle n : ℕ) (o : Option OutBlock) (past : List Line) → n < procs → AreAllowed procs past → AreAllowed procs (settled_lines cycle n o ++ past)
settled_allowed procs cycle n None past low a = a
settled_allowed procs cycle n (Some b) past low a = (low, go b.cuts)
  where
    go : (cuts : List CutOut) → AreAllowed procs (map (cut_line cycle n) cuts ++ past)
    go [] = a
    go (x ∷ cuts) = (low, go cuts)

not_below : (a b : ℕ) → b ≤ a → ltb a b ≡ false
not_below a b le = grind arith

-- the objects of a new body are those of its class
new_count : (pages class : ℕ) (b : Body) → IsNew pages class b → b.count ≡ count_for class
new_count pages class b is = elim (cases_lt class 2) [
  | inl low ↦ (let z = lt-ltb class 2 low in rw z (is.large low).0)
  | inr high ↦ (let z = not_below class 2 high in rw z (is.small high).0)
]

new_some : (pages class : ℕ) (b : Body) → IsNew pages class b → IsSpanSize class pages → 1 ≤ b.count
new_some pages class b is size = elim (cases_lt class 2) [
  | inl low ↦ (let z = (is.large low).0 in omega arith)
  | inr high ↦ (let z = (is.small high).0 in let y = (objects_bounds (class / 2) (size.0 high).0).0 in omega arith)
]

-- a line as the view has it, behind which the journal is legal
line_legal : (c : CoreState) (heap : PageHeap) (homes : List (Option Body)) (n : ℕ) (v : View) → Rule c heap homes n v → (heap' : PageHeap) (past : List Line) → heap'.region ≡ heap.region → heap'.goal ≡ heap.goal
    → IsJournal heap'.region heap'.goal heap'.past → heap'.past ≡ past → IsJournal v.region v.goal past
line_legal c heap homes n v k heap' past region goal legal is = subst (λ (z : ℕ × ℕ × List Line). IsJournal z.0 z.1 z.2) (λ i. ((region ∙ k.heap_region ∙ sym k.region) i, (goal ∙ sym k.goal) i, is i)) legal

-- a line that is of a cycle that is no later
line_by : (g : ℕ) (past past' : List Line) (line : Line) → cycle_of line ≤ g → past' ≡ line ∷ past → IsBy g past'
line_by g past past' line le is = subst (IsBy g) (sym is) le

module _ (c : CoreState) (heap : PageHeap) (homes : List (Option Body)) (n : ℕ) (v : View) (k : Kept c heap homes n v) where
  -- the marks of the cycle of a generation
  cycle_now : (c.generation - 4) / 2 ≡ cycle_at v.generation
  cycle_now = ap cycle_at (sym k.rule.generation)

  legal_now : (heap' : PageHeap) (past : List Line) → heap'.region ≡ heap.region → heap'.goal ≡ heap.goal → IsJournal heap'.region heap'.goal heap'.past → heap'.past ≡ past → IsJournal v.region v.goal past
  legal_now heap' past region goal legal is = line_legal c heap homes n v k.rule heap' past region goal legal is

  pub kept_said : (s : Said) → Suits c v.own s → let c' = after c (move_of n s) in refusal (needs_of c (move_of n s)) ≡ None → Owned c' → IsTidy c' → HasSpace c' → Kept c' heap homes n (acts v (told s v.own))
  kept_said s u a o t r = kept_by _ heap homes n _ k.rule.known (said_keeps c heap homes n v k.rule s u a o t r) (said_cycle c heap homes n v k.rule k.cycle s u a)

  pub kept_note : (s : Said) → IsQuiet v.own s → IsSo c heap s → Kept c heap homes n (acts v (told s v.own))
  kept_note s q o = kept_by c heap homes n _ k.rule.known (note_keeps c heap homes n v k.rule s q o) (note_cycle c heap homes n v k.rule k.cycle s q)

  in_own : (f : HandState → List ℕ) (p : ℕ) → has p (f (hand_of c n)) ≡ true → has p (f (hand_state v.own)) ≡ true
  in_own f p h = sym (ap (λ (s : HandState). has p (f s)) (own_hand c heap homes n v k.rule)) ∙ h

  -- the own claim is not of a page that the worker has cached, or it has none
  elsewhere : (p : ℕ) → p < length c.words → (0 < times p v.own.cached) ⊎ ((0 < times p v.own.held) × (v.own.claimed ≡ None)) → (d : Claimed) → v.own.claimed ≡ Some d → d.page ≡ p → ⊥
  elsewhere p low way d is at = ⊎_elim
      (λ (x : 0 < times p v.own.cached). let f = ((kept c heap homes n v k.rule).sets_fit.claim n (hand_state v.own) (own_at c heap homes n v k.rule) d is).held in
      let held = subst (λ (q : ℕ). 0 < times q v.own.held) at f in let one = once c heap homes n v k.rule p low in let none : ⊥ = omega arith in none)
      (λ (x : (0 < times p v.own.held) × (v.own.claimed ≡ None)). some_none d (sym is ∙ x.1))
      way

  pub kept_of : (s : SaidOf) (b : Span) → SuitsOf c heap v s b → PlacesAlone v.own s b → let c' = after c (move_on n s b) in refusal (needs_of c (move_on n s b)) ≡ None → Owned c' → IsTidy c' → HasSpace c'
      → Kept c' heap homes n (acts v (told_of s b v.own))
  kept_of Releases b u x a o t r = let m = all_met (release_needs c n b.page) a in
      kept_by _ heap homes n _ k.rule.known (of_keeps c heap homes n v k.rule Releases b u a o t r) (release_cycle c heap homes n v k.rule k.cycle b a (ltb-true b.page (length c.words) m.1.0) (in_own (λ s. s.sweeping) b.page m.1.1.0) u.0 u.1)
  kept_of (Places i) b u x a o t r = let m = all_met (allocate_needs c n b.page i) a in
      kept_by _ heap homes n _ k.rule.known (of_keeps c heap homes n v k.rule (Places i) b u a o t r) (place_cycle c heap homes n v k.rule k.cycle b u.0 i a u.1 u.2 u.4 x (elsewhere b.page (ltb-true b.page (length c.words) m.1.0) u.5))
  kept_of Acquires b u x a o t r = absurd u
  kept_of (Takes y) b u x a o t r = absurd u
  kept_of (Pops y) b u x a o t r = absurd u
  kept_of (Cuts y) b u x a o t r = absurd u

  pub kept_acquire : (p : ℕ) (low : p < length c.words) (w : get_or c.words p 0 + 2 ≡ c.generation) (b : Body) (at : get_or homes p None ≡ Some b) → (c' : CoreState) → c' ≡ after_acquire c n p → Owned c' → IsTidy c' → HasSpace c'
      → Kept c' heap (set homes p None) n (acts v (told_of Acquires (span_of b) v.own))
  kept_acquire p low w b at c' e o t r = kept_by c' heap (set homes p None) n _ k.rule.known (acquire_rule c heap homes n v k.rule p low w b at c' e o t r)
      (acquire_cycle c heap homes n v k.rule k.cycle b p (acquire_allowed c n p (low_number c heap homes n v k.rule) low w) c' e)

  pub kept_pop : (j p : ℕ) (there : j < 544) (part : is_swept_set c.generation j ≡ true) (more : (set_of c j).head < (set_of c j).tail) (filled : cell_of (set_of c j) (set_of c j).head ≡ p + 1) (b : Body) (at : get_or homes p None ≡ Some b)
      → (c' : CoreState) → c' ≡ after_pop_swept c n j → Owned c' → IsTidy c' → HasSpace c' → Kept c' heap (set homes p None) n (acts v (told_of (Pops j) (span_of b) v.own))
  kept_pop j p there part more filled b at c' e o t r = kept_by c' heap (set homes p None) n _ k.rule.known (pop_rule c heap homes n v k.rule j p there part more filled b at c' e o t r)
      (pop_cycle c heap homes n v k.rule k.cycle b j (pop_swept_allowed c n j (low_number c heap homes n v k.rule) (let x = k.rule.sets in omega arith) part more (λ z. omega arith)) c' e)

  pub kept_claim : (b : Body) (held : has b.page v.own.held ≡ true) (free : v.own.claimed ≡ None) (lent : HasBody v.own b) (j : ℕ) (there : j < 544) (part : is_swept_set c.generation j ≡ true) (fits : IsOfSet j b) (unpopped : many (is_pop_of j b.page) v.own.log ≡ 0)
      (unplaced : is_full_set j ≡ false → many (is_placing_in b.page) v.own.log ≡ 0) → (c' : CoreState) → c' ≡ after_claim c n j b.page → Owned c' → IsTidy c' → HasSpace c'
      → Kept c' heap (set homes b.page (Some b)) n (acts v (told (Claims j (set_of c j).tail b.page) v.own))
  kept_claim b held free lent j there part fits unpopped unplaced c' e o t r = kept_by c' heap (set homes b.page (Some b)) n _ k.rule.known (claim_rule c heap homes n v k.rule b held free lent j there part fits unpopped c' e o t r)
      (claim_cycle c heap homes n v k.rule k.cycle j b.page (set_of c j).tail (claim_allowed c heap homes n v k.rule b held free lent j there part fits unpopped) unplaced c' e)

  -- ---- lines

  pub kept_room : (heap' : PageHeap) → HasMoreRoom heap heap' → Kept c heap' homes n v
  kept_room heap' m = kept_by c heap' homes n v k.rule.known (room_keeps c heap homes n v k.rule heap' m) (room_cycle c heap homes n v k.rule k.cycle heap' m)

  -- there is room for a line and for a life
  module _ (heap₁ : PageHeap) (more : HasMoreRoom heap heap₁) (c₁ : CoreState) (x : ℕ) (same : c₁ ≡ record c { prepared = x }) where
    ready_cycle : KeepsCycle c₁ heap₁ n v k.rule.known
    ready_cycle =
        let a = room_keeps c heap homes n v k.rule heap₁ more in
        let y = life_cycle c heap₁ homes n v a.0 (subst (KeepsCycle c heap₁ n v) (sym a.1) (room_cycle c heap homes n v k.rule k.cycle heap₁ more)) x in
        subst (λ (s : CoreState). KeepsCycle s heap₁ n v k.rule.known) (sym same) (subst (KeepsCycle (record c { prepared = x }) heap₁ n v) a.1 y)

    pub kept_ready : Kept c₁ heap₁ homes n v
    kept_ready = kept_by c₁ heap₁ homes n v k.rule.known (ready_rule c heap homes n v k.rule heap₁ more c₁ x same) ready_cycle

  pub kept_miss : (line now pages class : ℕ) → now ≡ (c.generation - 4) / 2 → (heap' : PageHeap) → AddsLine heap heap' (MissLine now pages class) → length heap.past ≡ line → Kept c heap' homes n (acts v (told (Misses line now pages class) v.own))
  kept_miss line now pages class is heap' a number =
      let legal = a.legal 64 k.rule.legal in
      kept_by c heap' homes n _ k.rule.known
      (miss_keeps c heap homes n v k.rule line now pages class heap' a.region a.goal legal (line_by ((c.generation - 4) / 2) heap.past heap'.past (MissLine now pages class) (omega arith) a.past) a.past)
      (miss_cycle c heap homes n v k.rule k.cycle line now pages class (is ∙ cycle_now) heap' (legal_now heap' (MissLine now pages class ∷ heap.past) a.region a.goal legal a.past) a.past number)

  -- a span is given back
  pub kept_give : (p pages : ℕ) (low : p < length c.words) (held : has p v.own.held ≡ true) (free : v.own.claimed ≡ None) (empty : length (life_in p c.lives).allocated ≡ 0) (size : (life_in p c.lives).pages ≡ pages) (last : is_swept_last p v.own.log ≡ true)
      (now : ℕ) (is : now ≡ (c.generation - 4) / 2) (heap' : PageHeap) (line : AddsLine heap heap' (GiveLine now p pages)) → (c' : CoreState) → c' ≡ record (after_give c n p) { lock = None } → Owned c' → IsTidy c' → HasSpace c'
      → Kept c' heap' homes n (acts v (told (Gives p pages) v.own))
  kept_give p pages low held free empty size last now is heap' line c' e o t r =
      let legal = line.legal 64 k.rule.legal in let known = others p k.rule.known in
      kept_by c' heap' homes n _ known
      (give_keeps c heap homes n v k.rule p pages low held free empty size now heap' line.region line.goal legal (line_by ((c.generation - 4) / 2) heap.past heap'.past (GiveLine now p pages) (omega arith) line.past) line.past c' e o t r)
      (subst (λ (s : CoreState). KeepsCycle s heap' n (acts v (told (Gives p pages) v.own)) known) (sym e)
      (give_cycle c heap homes n v k.rule k.cycle p pages (lock_allowed c n (low_number c heap homes n v k.rule) k.rule.unlocked)
      (give_allowed c n p (low_number c heap homes n v k.rule) low (ap (λ (s : HandState). has p s.held) (own_hand c heap homes n v k.rule) ∙ held) (ap (λ (s : HandState). s.claimed) (own_hand c heap homes n v k.rule) ∙ free) empty)
      size last now (is ∙ cycle_now) heap' (legal_now heap' (GiveLine now p pages ∷ heap.past) line.region line.goal legal line.past) line.past))

  -- a scavenging step
  pub kept_scav : (cycle : ℕ) → cycle ≡ (c.generation - 4) / 2 → (heap' : PageHeap) (o : Option Run) → IfSome o (λ run. AddsLine heap heap' (Scav cycle run.page run.pages)) → IfNone o (HasMoreRoom heap heap') → Kept c heap' homes n v
  kept_scav cycle is heap' (Some run) a s =
      let legal = a.legal 64 k.rule.legal in
      kept_by c heap' homes n v k.rule.known
      (heap_keeps c heap homes n v k.rule heap' a.region a.goal legal (subst (AreAllowed v.procs) (sym a.past) (tt, k.rule.allowed)) (line_by ((c.generation - 4) / 2) heap.past heap'.past (Scav cycle run.page run.pages) (omega arith) a.past))
      (scav_cycle c heap homes n v k.rule k.cycle cycle run.page run.pages (is ∙ cycle_now) heap' (legal_now heap' (Scav cycle run.page run.pages ∷ heap.past) a.region a.goal legal a.past) a.past)
  kept_scav cycle is heap' None a s = kept_room heap' s

  -- ---- the way of the state, and a mark end

  -- another worker has the state, and the parts are the same by number
  kept_seat : (m : ℕ) (x : Part) (ps : List Part) → set ps m x ≡ parts_of n v → m < length ps → Kept c heap homes m (record v { own = x; parts = ps })
  kept_seat m x ps same low = kept_by c heap homes m _ k.rule.known (seat_keeps c heap homes n v k.rule m x ps same low) (seat_cycle c heap homes n v k.rule k.cycle m x ps same)

  pub kept_hand : (m : ℕ) → m < length v.parts → Kept c heap homes m (handed n m v)
  kept_hand m low = kept_seat m (get_or (parts_of n v) m no_part) (parts_of n v) (set-get_or (parts_of n v) m no_part) (subst (λ (x : ℕ). m < x) (sym (length-set v.parts n v.own)) low)

  -- no worker has a page cache
  pub kept_next : (marks : List (ℕ × ℕ)) → rises marks ≡ true → IsAtRest n v → EachAt (parts_of n v) (λ m h. h.cache ≡ None) → AllByRecursion (IsKnown n v) marks → (past : List Line) → heap.past ≡ past → v.generation < 8589934592
      → (c' : CoreState) → c' ≡ after_next c marks → Owned c' → IsTidy c' → HasSpace c' → Kept c' heap homes n (marked n past marks v)
  kept_next marks rising rest uncached known past before early c' e o t r = kept_by c' heap homes n _ k.rule.known (next_keeps c heap homes n v k.rule marks rising rest known uncached past early c' e o t r)
      (next_cycle c heap homes n v k.rule k.cycle rest uncached marks rising known past before c' e)

  -- ---- page caches

  -- the blocks that are out were pulled in this cycle
  pub blocks_now : AreOfCycle (cycle_at v.generation) heap.past
  blocks_now = blocks_of_cycle c heap homes n v k.rule k.cycle

  -- a worker whose log has no block out has none in the journal
  pub pull_asks : out_of v.own.log ≡ None → HasNoBlock heap.past n
  pull_asks none = no_block_out c heap homes n v k.rule k.cycle none

  tells : CacheTells n v.own
  tells = own_tells c heap homes n v k.rule

  -- a block is pulled
  pub kept_pull : (now : ℕ) → now ≡ (c.generation - 4) / 2 → (block : Block) (heap' : PageHeap) → PullsBlock heap heap' now n block → n < v.procs → n < 64 → v.own.cache ≡ Some (only n None)
      → (c' : CoreState) → c' ≡ record (after_pull c n) { lock = None } → Owned c' → IsTidy c' → HasSpace c' → Kept c' heap' homes n (acts v (told (Pulls (length heap.past) now n block) v.own))
  kept_pull now is block heap' p allowed small has c' same o t r =
      let y = k.cycle in let line = length heap.past in
      let idle = idle_pulled n v.own tells (only n None) has refl in
      let inside = p.least.free.here.inside in let region = k.rule.heap_region in let least = p.least.least in
      let free = unheld_free c heap homes n v k.rule y least (omega arith) (p.least.free.here.free least (omega arith) (omega arith)) in
      let legal = p.legal 64 small k.rule.legal in
      let number = low_number c heap homes n v k.rule in
      kept_by c' heap' homes n _ k.rule.known
      (pull_keeps c heap homes n v k.rule heap' p.region p.goal legal (subst (AreAllowed v.procs) (sym p.past) (allowed, k.rule.allowed))
      (line_by ((c.generation - 4) / 2) heap.past heap'.past (PullLine now n block.page (page_count block)) (omega arith) p.past)
      line now block (pages_pulled c heap homes n v k.rule y block p.least p.pages) (cache_pulls n v.own tells line now block has) c' same o t r)
      (subst (λ (s : CoreState). KeepsCycle s heap' n (acts v (told (Pulls line now n block) v.own)) k.rule.known) (sym same)
      (pull_cycle c heap homes n v k.rule y block (lock_allowed c n number k.rule.unlocked) (pull_allowed c n least number (ap (λ (s : HandState). s.pulled) (own_hand c heap homes n v k.rule) ∙ idle.1) (omega arith) free.0 free.1) idle.0 line now (is ∙ cycle_now) heap'
      (subst (λ (m : ℕ). IsLeastBlock m heap.past block.page (page_count block)) (region ∙ sym k.rule.region) p.least)
      (legal_now heap' (PullLine now n block.page (page_count block) ∷ heap.past) p.region p.goal legal p.past) p.past refl))

  -- the block that is out
  module _ (x : Cache) (has : v.own.cache ≡ Some x) (b : OutBlock) (out : out_of v.own.log ≡ Some b) where
    -- is as settling asks, and its processor may have one
    pub settle_asks : IsCutFrom heap.past x
    settle_asks = block_cut c heap homes n v k.rule k.cycle x b has out

    block_there : HasBlock heap.past n b.page
    block_there = subst (λ (past : List Line). HasBlock past n b.page) (sym k.cycle.since) (k.cycle.knows.out n b (ap out_of (log_own c heap homes n v k.rule v.own) ∙ out))

    pub settle_allowed : (procs : ℕ) → AreAllowed procs heap.past → n < procs
    settle_allowed procs allowed = subst (λ (m : ℕ). m < procs) block_there.of_proc (block_allowed procs heap.past allowed block_there.block block_there.out)

    -- it is settled
    pub kept_settle : (now : ℕ) → now ≡ (c.generation - 4) / 2 → (heap' : PageHeap) → SettlesBlock heap heap' now x → (c' : CoreState) → c' ≡ record (after_drop c n) { lock = None } → Owned c' → IsTidy c' → HasSpace c'
        → Kept c' heap' homes n (acts v (told (Settles (length b.cuts + length heap.past)) v.own))
    kept_settle now is heap' s c' same o t r =
        let line = length b.cuts + length heap.past in
        let past : heap'.past ≡ settled_lines now n (Some b) ++ heap.past = block_settled c heap homes n v k.rule k.cycle x b has out now heap' s in
        let proc = (tells.some x has).proc in
        let small = settle_allowed 64 (legal-allowed 64 heap.region heap.goal heap.past k.rule.legal) in
        let legal = s.legal 64 (omega arith) k.rule.legal in
        let number = low_number c heap homes n v k.rule in
        kept_by c' heap' homes n _ k.rule.known
        (settle_keeps c heap homes n v k.rule heap' s.region s.goal legal (subst (AreAllowed v.procs) (sym past) (settled_allowed v.procs now n (Some b) heap.past (settle_allowed v.procs k.rule.allowed) k.rule.allowed))
        (subst (IsBy ((c.generation - 4) / 2)) (sym past) (omega arith)) line (cache_settles n v.own tells line) c' same o t r)
        (subst (λ (z : CoreState). KeepsCycle z heap' n (acts v (told (Settles line) v.own)) k.rule.known) (sym same)
        (settle_cycle c heap homes n v k.rule k.cycle b out (lock_allowed c n number k.rule.unlocked) (drop_allowed c n number) now (is ∙ cycle_now) heap' (legal_now heap' (settled_lines now n (Some b) ++ heap.past) s.region s.goal legal past) past))

  -- a span is cut of the own block
  module _ (x : Cache) (has : v.own.cache ≡ Some x) (page pages : ℕ) (some : 1 ≤ pages) (run : IsRun (in_block x.block) page pages) where
    cut_inside : page + pages ≤ length c.words
    cut_inside = cut_low c heap homes n v k.rule x page pages has some run

    -- its first page is nobody's in the core
    cut_free : get_or c.owners page None ≡ None
    cut_free =
        let i = cut_inside in
        let f = kept c heap homes n v k.rule in
        let one : times page v.own.pulled ≡ 1 = (tells.some x has).pages page ∙ ap one_if (run page (omega arith) (omega arith)) in
        let low : page < length c.words = omega arith in
        f.lives_fit.owner_is page low ∙ uncovered_owner page c.lives (pulled_uncovered c.generation c.words c.owners c.lives c.sets c.hands f n (hand_state v.own) (own_at c heap homes n v k.rule) page low page (omega arith))

    pub cut_untouched : IsUntouched v.generation v.own page
    cut_untouched = let i = cut_inside in untouched c heap homes n v k.rule page (omega arith) (free_unsettled c heap homes n v k.rule page (omega arith) cut_free)

    pub cut_mine : mine page v.own ≡ 0
    cut_mine = let i = cut_inside in free_has c heap homes n v k.rule page (omega arith) cut_free

  pub kept_cut : (pages class : ℕ) (b : Body) → IsNew pages class b → class < 136 → pages < 16 → IsSpanSize class pages → (x : Cache) → v.own.cache ≡ Some x → (left : Block) → IsCutOf pages x b.page left → (block : Block) → x.block ≡ Some block → left.page ≡ block.page
      → (out : OutBlock) → out_of v.own.log ≡ Some out → b.life ≡ out.number → (c' : CoreState) → c' ≡ after_cut c n b.page b.pages b.count b.class → Owned c' → IsTidy c' → HasSpace c' → Kept c' heap homes n (acts v (told_of (Cuts left) (span_of b) v.own))
  kept_cut pages class b is_new small few size x has left cut block here first out is_out life c' same o t r =
      let s = span_of b in let cycle = cycle_at v.generation in
      let some : 1 ≤ b.pages = let z = is_new.pages in let y = span_pages class pages size in omega arith in
      let cut' : IsCutOf b.pages x b.page left = subst (λ (m : ℕ). IsCutOf m x b.page left) (sym is_new.pages) cut in
      let size' : IsSpanSize b.class b.pages = subst (λ (z : ℕ × ℕ). IsSpanSize z.0 z.1) (λ i. (sym is_new.class i, sym is_new.pages i)) size in
      let run = cut'.first.run in
      let free = cut_free x has b.page b.pages some run in
      let inside = cut_inside x has b.page b.pages some run in
      let few' : b.pages < 16 = let z = is_new.pages in omega arith in
      let small' : b.class < 136 = let z = is_new.class in omega arith in
      let known = life_of b.life cycle b.page b.pages b.class ∷ k.rule.known in
      kept_by c' heap homes n _ known
      (cut_keeps c heap homes n v k.rule left s (omega arith) free is_new.empty cycle (cache_cuts n v.own tells x block left s has here cut' first few' size') c' same o t r)
      (subst (λ (z : CoreState × ℕ). KeepsCycle z.0 heap n (acts v (told_of (Cuts left) s v.own)) (life_of z.1 cycle b.page b.pages b.class ∷ k.rule.known)) (λ i. (sym same i, sym life i))
      (cut_cycle c heap homes n v k.rule k.cycle s left out is_out
      (own_cut_allowed c heap homes n v k.rule x b.page b.pages b.count b.class has some (new_some pages class b is_new size) small' run)
      (new_count pages class b is_new ∙ ap count_for (sym is_new.class))))

  -- the worker gets another page cache, or none, while it has no block out
  pub kept_recache : (x : Option Cache) → out_of v.own.log ≡ None → v.own.pulled ≡ [] → (x ≡ None) ⊎ (x ≡ Some (only n None)) → Kept c heap homes n (acts v (with_cache x v.own))
  kept_recache x none nothing which = kept_by c heap homes n _ k.rule.known (recache_keeps c heap homes n v k.rule x (cache_renews n v.own x none nothing which)) (recache_cycle c heap homes n v k.rule k.cycle x)

-- a worker that was handed out is taken in by number n, in whose view nothing but the own part changed since
pub kept_join : (c : CoreState) (heap : PageHeap) (homes : List (Option Body)) (n m : ℕ) (v w : View) → Kept c heap homes m w → w ≡ acts (handed n m v) w.own → m ≢ n → n < length v.parts → Kept c heap homes n (record v { parts = set v.parts m w.own })
kept_join c heap homes n m v w k stays d low =
    kept_seat c heap homes m (acts (handed n m v) w.own) (subst (Kept c heap homes m) stays k) n v.own (set v.parts m w.own) (set_apart v.parts n m v.own w.own d)
    (subst (λ (x : ℕ). n < x) (sym (length-set v.parts m w.own)) low)

module _ (c : CoreState) (heap : PageHeap) (homes : List (Option Body)) (n : ℕ) (v : View) (k : Kept c heap homes n v) (heap₁ : PageHeap) (more : HasMoreRoom heap heap₁) (c₁ : CoreState) (x : ℕ) (same : c₁ ≡ record c { prepared = x }) where
  rule₁ : RuleOf c₁ heap₁ homes n v k.rule.known
  rule₁ = ready_rule c heap homes n v k.rule heap₁ more c₁ x same

  cycle₁ : KeepsCycle c₁ heap₁ n v rule₁.0.known
  cycle₁ = subst (KeepsCycle c₁ heap₁ n v) (sym rule₁.1) (ready_cycle c heap homes n v k heap₁ more c₁ x same)

  -- a line takes a run for a body
  pub kept_run : (now page pages class : ℕ) (is : now ≡ (c.generation - 4) / 2) (heap' : PageHeap) (line : AddsLine heap₁ heap' (TakeLine now page pages class)) (b : Body) (is_new : IsNew pages class b) (at : b.page ≡ page) → class < 136 → length heap₁.past ≡ b.life
      → (c' : CoreState) → c' ≡ record (after_take c₁ n page pages b.count class) { lock = None } → Owned c' → IsTidy c' → HasSpace c' → Kept c' heap' homes n (acts v (told_of (Takes now) (span_of b) v.own))
  kept_run now page pages class is heap' line b is_new at small number c' same' o t r =
      let own : AddsLine heap₁ heap' (TakeLine now b.page b.pages b.class) = subst (λ (z : ℕ × ℕ × ℕ). AddsLine heap₁ heap' (TakeLine now z.0 z.1 z.2)) (λ i. (sym at i, sym is_new.pages i, sym is_new.class i)) line in
      let number₁ = low_number c₁ heap₁ homes n v rule₁.0 in let region₁ = rule₁.0.heap_region in let inside = own.may_follow.1.here.inside in
      let some = span_pages b.class b.pages own.may_follow.0 in
      let free : (q : ℕ) → b.page ≤ q → q < b.page + b.pages → (get_or c₁.owners q None ≡ None) × (pullers q c₁.hands ≡ 0) = (λ q l h. unheld_free c₁ heap₁ homes n v rule₁.0 cycle₁ q (omega arith) (own.may_follow.1.here.free q l h)) in
      let known = life_of (length heap₁.past) now b.page b.pages b.class in
      let legal = own.legal 64 rule₁.0.legal in
      kept_by c' heap' homes n _ (known ∷ k.rule.known)
      (run_rule c heap homes n v k.rule heap₁ more c₁ x same now page pages class heap' line b is_new at (free b.page (omega arith) (omega arith)).0 (omega arith) number c' same' o t r)
      (subst (λ (z : CoreState × List Life). KeepsCycle z.0 heap' n (acts v (told_of (Takes now) (span_of b) v.own)) (known ∷ z.1)) (λ i. (sym same' i, rule₁.1 i))
      (subst (λ (z : ℕ × ℕ × ℕ). KeepsCycle (record (after_take c₁ n z.0 z.1 b.count z.2) { lock = None }) heap' n (acts v (told_of (Takes now) (span_of b) v.own)) (known ∷ rule₁.0.known)) (λ i. (at i, is_new.pages i, is_new.class i))
      (take_cycle c₁ heap₁ homes n v rule₁.0 cycle₁ (span_of b) (lock_allowed c₁ n number₁ rule₁.0.unlocked)
      (take_allowed c₁ n b.page b.pages b.count b.class number₁ (omega arith) some (new_some pages class b is_new (subst (λ (z : ℕ × ℕ). IsSpanSize z.0 z.1) (λ i. (is_new.class i, is_new.pages i)) own.may_follow.0)) (subst (λ (z : ℕ). z < 136) (sym is_new.class) small)
      (λ q l h. (free q l h).0) (λ q l h. (free q l h).1))
      (new_count pages class b is_new ∙ ap count_for (sym is_new.class)) now (is ∙ ap (λ (s : CoreState). (s.generation - 4) / 2) (sym same) ∙ ap cycle_at (sym rule₁.0.generation)) heap'
      (line_legal c₁ heap₁ homes n v rule₁.0 heap' (TakeLine now b.page b.pages b.class ∷ heap₁.past) own.region own.goal legal own.past) own.past number)))

-- a new core with the first view
pub start_kept : (core core' : CoreState) (heap : PageHeap) (homes : List (Option Body)) (v : View) (pages goal procs workers n : ℕ) → core ≡ new_state pages workers → Owned core → IsTidy core → TailsFit core → core' ≡ record core { room = length core.words } → n < workers
    → heap.region ≡ pages → heap.goal ≡ goal → heap.past ≡ [] → homes ≡ copies pages None → pages ≤ MAX_PAGES → v ≡ first_view pages goal procs workers → Kept core' heap homes n v
start_kept core core' heap homes v pages goal procs workers n e o t f r low region goal_is past places small is =
    kept_by core' heap homes n v [] (start_rule core core' heap homes v pages goal procs workers n e o t f r low region goal_is past places small is) (start_cycle core core' heap v pages goal procs workers n e r low past is)
