-- The cycle under way at lines without a move, as the state goes from worker to worker, at the start, at a mark end and as it ends.
use Rattle.std.proofs.Common.{◌≡◌, ℕ, zero, suc, ◌+◌, ◌<◌, ◌≤◌, inl, inr, Bool, true, false, List, [], ◌∷◌, ◌++◌, length, map, get_or, refl, ap, sym, subst, ◌∙◌, arith, set}
use Rattle.std.specs.Prelude.{None, Option, slice_index}
use Rattle.std.specs.List.{AllByRecursion}
use Rattle.std.proofs.lemmas.Bool.{cases_lt}
use mathlib.Core.Option.{some}
use lib.ListN.{get_elem?}
use Rattle.page_alloc.specs.Heap.{HasMoreRoom, PageHeap}
use Rattle.page_alloc.specs.Lists.{In}
use Rattle.page_alloc.specs.Lives.{Life, open_lives}
use Rattle.page_bitmap.specs.declared.line.Line.{Line}
use Rattle.page_bitmap.specs.declared.line.Line.TheVariants.{Miss as MissLine, Scav}
use Rattle.sound_run.specs.Run.{IsJournal}
use Rattle.sound_run.proofs.Journals.{same_page}
use Rattle.span_state.specs.MarkSet.{has_pair}
use Rattle.span_state.specs.declared.body.Body.{Body}
use Rattle.sweep_laws.specs.Changes.{after_next}
use Rattle.sweep_laws.specs.Counts.{times}
use Rattle.sweep_laws.specs.Lists.{has, rises}
use Rattle.sweep_laws.specs.NeedsOfRange.{refusal}
use Rattle.sweep_laws.specs.Needs.{next_needs}
use Rattle.sweep_laws.specs.OwnedLives.{EachAt}
use Rattle.sweep_laws.specs.Start.{new_state}
use Rattle.sweep_laws.specs.State.{CoreState, HandState}
use Rattle.sweep_laws.specs.declared.moves.Move.TheVariants.{Next}
use Rattle.sweep_laws.proofs.Naming.{times_has}
use Rattle.swept_set_laws.proofs.EachMove.{entered_some}
use Rattle.swept_set_laws.specs.Entered.{log_of}
use Rattle.worker_log.specs.declared.Entry.{Entry}
use Rattle.worker_log.specs.declared.Entry.TheVariants.{Missed}
use Rattle.worker_log.specs.declared.Placing.{Placing}
use Rattle.worker_log.specs.Entries.{is_placing_in, many}
use Rattle.worker_log.specs.Logs.{placings}
use Rattle.run_laws.specs.Blocks.{out_of}
use Rattle.run_laws.specs.Known.{known_number}
use Rattle.run_laws.specs.Occupied.{NamedHaveSome}
use Rattle.run_laws.specs.Shown.{bits_of, waits_of}
use Rattle.run_laws.specs.ShowsCycle.{after_mark_end}
use Rattle.run_laws.specs.Steps.{after_line, after_missed}
use Rattle.run_laws.proofs.BlockLogs.{SameBlocks, same_put}
use Rattle.run_laws.proofs.BlockPulls.{line_blocks, logs_blocks, start_blocks}
use Rattle.run_laws.proofs.Known.{cut-line, known-journal, logs_know, no-blocks-out, quiet_line_knows, start_knows}
use Rattle.run_laws.proofs.Shown.{settled-word}
use Rattle.run_laws.proofs.Start.{new-shows}
use Rattle.run_laws.proofs.Steps.{ended-holdings, ended-places, ended-sweeps}
use Rattle.run_laws.proofs.Turns.{missed-shows, next-settled, scav-shows, shows-ended}
use Rattle.span_laws.specs.TakeAnswers.{cycle_at}
use Rattle.span_laws.specs.MarkEndAsks.{IsAtRest, IsKnown}
use Rattle.span_laws.specs.Cycle.{EndsCycle, IsClaimUnplaced, KeepsCycle, cycle_ended, cycle_seen}
use Rattle.span_laws.specs.Rule.{Rule, logs_of}
use Rattle.span_laws.specs.Views.{acts, first_view, hand_state, no_part, parts_of}
use Rattle.span_laws.specs.OwnSteps.{told}
use Rattle.span_laws.specs.MarkEnds.{allocated_pairs, marked, rested}
use Rattle.span_laws.specs.declared.said.Said.TheVariants.{Misses}
use Rattle.span_laws.specs.declared.view.Part.{Part}
use Rattle.span_laws.specs.declared.view.View.{View}
use Rattle.span_laws.proofs.CycleKept.{ShowsAll, all_shown, cycle_moved, cycle_of, e, move_all, put_log, seen_by, spare_all, still_unplaced}
use Rattle.span_laws.proofs.CyclePairs.{pairs_are_bits}
use Rattle.span_laws.proofs.Lives.{marks_has}
use Rattle.span_laws.proofs.MarkEnd.{map_at, next_allowed, none_pulled, parts', silent}
use Rattle.span_laws.proofs.Start.{at_here, set_here as copy_here}
use Rattle.span_laws.proofs.Uses.{some_index}
use Rattle.span_laws.proofs.WordMoves.{four}

module _ (c : CoreState) (heap : PageHeap) (homes : List (Option Body)) (n : ℕ) (v : View) (k : Rule c heap homes n v) (y : KeepsCycle c heap n v k.known) where
  -- more room for lines, and for lives
  pub room_cycle : (heap' : PageHeap) → HasMoreRoom heap heap' → KeepsCycle c heap' n v k.known
  room_cycle heap' m = record { lines = y.lines; since = m.past ∙ y.since; shows = y.shows; blocks = y.blocks; knows = y.knows; unplaced = y.unplaced }

  pub life_cycle : (x : ℕ) → KeepsCycle (record c { prepared = x }) heap n v k.known
  life_cycle x = let s = spare_all v.region v.goal c (e c heap homes n v k y) (all_shown c heap homes n v k y) c.lock x c.room in
      record { lines = y.lines; since = y.since; shows = s.shows; blocks = s.blocks; knows = s.knows; unplaced = y.unplaced }

  -- ---- lines without a move

  -- no run was free
  pub miss_cycle : (line cycle pages class : ℕ) → cycle ≡ cycle_at v.generation → (heap' : PageHeap) → IsJournal v.region v.goal (MissLine cycle pages class ∷ heap.past) → heap'.past ≡ MissLine cycle pages class ∷ heap.past → length heap.past ≡ line
      → KeepsCycle c heap' n (acts v (told (Misses line cycle pages class) v.own)) k.known
  miss_cycle line cycle pages class is_now heap' legal past number = let h = told (Misses line cycle pages class) v.own in
      let now = cycle_at v.generation in
      let legal' = subst (λ (z : ℕ × List Line). IsJournal v.region v.goal (MissLine z.0 pages class ∷ z.1)) (λ i. (is_now i, y.since i)) legal in
      let long : length (y.lines ++ v.before) ≡ line = ap (λ (l : List Line). length l) (sym y.since) ∙ number in
      let lined = after_line (e c heap homes n v k y) (MissLine now pages class) in
      let next = after_missed (e c heap homes n v k y) n pages class in
      let same : (w : ℕ) → SameBlocks (next.logs w) ((e c heap homes n v k y).logs w) = same_put (e c heap homes n v k y).logs n (Missed (length (y.lines ++ v.before)) (MissLine now pages class)) (record { out = refl; lines = λ cycle w. refl; pullings = refl; settlings = refl; cuts = refl }) in
      let all : ShowsAll v.region v.goal c next = record {
        shows = missed-shows v.region v.goal c (e c heap homes n v k y) y.shows y.blocks n pages class legal';
        blocks = logs_blocks c lined (line_blocks c (e c heap homes n v k y) y.blocks (MissLine now pages class) (λ w. refl) (λ p. refl) (λ p. refl) refl) next.logs same;
        knows = logs_know lined (quiet_line_knows (e c heap homes n v k y) y.knows (MissLine now pages class) refl (λ w. refl) refl) next.logs (λ w. (same w).out) (λ w. (same w).cuts) (bits_of c);
      } in
      cycle_moved c heap homes n v k y c heap' h (MissLine now pages class ∷ y.lines) k.known (past ∙ (λ i. MissLine (is_now i) pages class ∷ y.since i))
      (seen_by c heap homes n v k y c h (MissLine now pages class ∷ y.lines) k.known _ _ all
      (put_log c heap homes n v k y h (Missed (length (y.lines ++ v.before)) (MissLine now pages class)) (λ i. Missed (sym long i) (MissLine (is_now i) pages class) ∷ v.own.log)))
      (still_unplaced c heap homes n v k y h refl (λ q. omega arith))

  -- pages were scavenged
  pub scav_cycle : (cycle page pages : ℕ) → cycle ≡ cycle_at v.generation → (heap' : PageHeap) → IsJournal v.region v.goal (Scav cycle page pages ∷ heap.past) → heap'.past ≡ Scav cycle page pages ∷ heap.past → KeepsCycle c heap' n v k.known
  scav_cycle cycle page pages is_now heap' legal past =
      let legal' = subst (λ (z : ℕ × List Line). IsJournal v.region v.goal (Scav z.0 page pages ∷ z.1)) (λ i. (is_now i, y.since i)) legal in
      record {
        lines = Scav (cycle_at v.generation) page pages ∷ y.lines;
        since = past ∙ (λ i. Scav (is_now i) page pages ∷ y.since i);
        shows = scav-shows v.region v.goal c (e c heap homes n v k y) y.shows y.blocks page pages legal';
        blocks = line_blocks c (e c heap homes n v k y) y.blocks (Scav (cycle_at v.generation) page pages) (λ w. refl) (λ p. refl) (λ p. refl) refl;
        knows = quiet_line_knows (e c heap homes n v k y) y.knows (Scav (cycle_at v.generation) page pages) refl (λ w. refl) refl;
        unplaced = y.unplaced;
      }

  -- ---- the state goes to another worker

  pub seat_cycle : (m : ℕ) (x : Part) (ps : List Part) → set ps m x ≡ parts_of n v → KeepsCycle c heap m (record v { own = x; parts = ps }) k.known
  seat_cycle m x ps same =
      let s = subst (λ (l : List Part). ShowsAll v.region v.goal c (cycle_of v y.lines k.known (bits_of c) (log_of (map (λ (h : Part). h.log) l)))) (sym same) (all_shown c heap homes n v k y) in
      record {
        lines = y.lines;
        since = y.since;
        shows = s.shows;
        blocks = s.blocks;
        knows = s.knows;
        unplaced = subst (λ (l : List Part). EachAt l (λ i h. IsClaimUnplaced h)) (sym same) y.unplaced;
      }

  -- ---- the end of a cycle

  -- where no worker has a page cache, no block is out
  none_out : EachAt (parts_of n v) (λ m h. h.cache ≡ None) → (w : ℕ) → out_of (log_of (logs_of n v) w) ≡ None
  none_out uncached w = go (parts_of n v) w (λ m h a. ((k.caches m h a).none (uncached m h a)).0)
    where
      go : (ps : List Part) (w : ℕ) → EachAt ps (λ m h. out_of h.log ≡ None) → out_of (get_or (map (λ (h : Part). h.log) ps) w []) ≡ None
      go [] w f = refl
      go (x ∷ ps) zero f = f 0 x refl
      go (x ∷ ps) (suc w) f = go ps w (λ m h a. f (suc m) h a)

  module _ (rest : IsAtRest n v) (uncached : EachAt (parts_of n v) (λ m h. h.cache ≡ None)) where
    met : refusal (next_needs c []) ≡ None
    met = next_allowed c heap homes n v k [] refl rest tt (none_pulled c heap homes n v k [] refl rest tt uncached)

    none_waits : (p : ℕ) → waits_of c p ≡ false
    none_waits p = let settled = next-settled v.region v.goal c (e c heap homes n v k y) y.shows y.blocks (none_out uncached) k.owned [] met in elim (cases_lt p (length c.words)) [
      | inl inside ↦ settled-word c.generation (slice_index c.words p) (four c heap homes n v k) (settled.words p inside)
      | inr out ↦ settled-word c.generation (slice_index c.words p) (four c heap homes n v k) (inl (beyond c.words p out))
    ]
      where
        beyond : (ws : List ℕ) (p : ℕ) → length ws ≤ p → slice_index ws p ≡ 0
        beyond [] p le = refl
        beyond (x ∷ ws) zero le = absurd (omega arith)
        beyond (x ∷ ws) (suc p) le = beyond ws p (omega arith)

    -- the state shows the cycle with the pairs that the marks and the logs tell
    ended_shown : ShowsAll v.region v.goal c (cycle_ended n v y.lines k.known)
    ended_shown = subst (λ (z : ℕ → ℕ → Bool). ShowsAll v.region v.goal c (cycle_seen n v y.lines k.known z))
        (λ i p j. pairs_are_bits v.region v.goal c (e c heap homes n v k y) y.shows none_waits v.marks (parts_of n v) (λ p j. refl) (λ w. refl) p j i) (all_shown c heap homes n v k y)

    -- each span that swept sets name or workers have cached has an object
    named : EachAt (parts_of n v) (λ i h. (p : ℕ) → has p h.cached ≡ true → 0 < many (is_placing_in p) h.log) → NamedHaveSome c
    named used = record {
      in_sets = λ j s i p at part le lt cell. entered_some c (logs_of n v) k.names k.entered j s i p at part lt cell;
      in_caches = λ m h at p l w. (let x = map_at hand_state (parts_of n v) m h (subst (λ (z : List HandState). get_elem? z m ≡ some h) k.hands at) in
          let cached = times_has p x.0.cached (subst (λ (z : HandState). 0 < times p z.cached) (sym x.2) l) in let i = some_index p x.0.log (used m x.0 x.1 p cached) in
          let t = (k.tells m x.0 x.1).placed p i.0 i.1 in (i.0, t.2));
    }

    -- an object was placed in a life of the number by which workers know it
    numbered : (w : ℕ) (a : Placing) (life : Life) → In a (placings (log_of (logs_of n v) w)) → In life (open_lives (y.lines ++ v.before)) → life.page ≡ a.page → a.number ≡ known_number (y.lines ++ v.before) life.number
    numbered w a life h here page =
        let u = y.shows.under in
        let at = u.numbered w a h in
        let written = known-journal (e c heap homes n v k y) y.knows (none_out uncached) at.0 at.1 in
        let same : written.0 ≡ life = same_page v.region v.goal (y.lines ++ v.before) written.0 life u.writes.legal written.1 here (sym written.2.page ∙ at.2 ∙ sym page) in
        sym at.3 ∙ written.2.number ∙ ap (λ (l : Life). known_number (y.lines ++ v.before) l.number) same

    pub settle_ends : EachAt (parts_of n v) (λ i h. (p : ℕ) → has p h.cached ≡ true → 0 < many (is_placing_in p) h.log) → EndsCycle v.region v.goal (cycle_ended n v y.lines k.known)
    settle_ends used = let s = ended_shown in let u = s.shows.under in
        let end = shows-ended v.region v.goal c (cycle_ended n v y.lines k.known) s.shows s.blocks (none_out uncached) k.owned [] met (named used) in record {
          writes = u.writes;
          by = s.shows.by;
          sweeps = ended-sweeps v.region v.goal (cycle_ended n v y.lines k.known) (waits_of c) u end;
          once = u.sweeps.once;
          one_sweeper = u.sweeps.one_sweeper;
          places = ended-places v.region v.goal (cycle_ended n v y.lines k.known) (waits_of c) u end;
          numbers = numbered;
          settled = no-blocks-out (cycle_ended n v y.lines k.known) s.knows (none_out uncached);
          holdings = ended-holdings v.region v.goal (cycle_ended n v y.lines k.known) (waits_of c) u end;
          fills = u.fills;
          misses = u.misses;
          took = s.shows.tell.took;
          cut = cut-line (cycle_ended n v y.lines k.known) s.knows (none_out uncached);
          marks_open = λ p j on. (let m = u.holds.marked_open p j on in (m.0, m.1, m.3));
        }

    -- ---- a mark end

    module _ (marks : List (ℕ × ℕ)) (rising : rises marks ≡ true) (known : AllByRecursion (IsKnown n v) marks) (past : List Line) (before_is : heap.past ≡ past) where
      cycle_is : cycle_at v.generation + 1 ≡ cycle_at (v.generation + 2)
      cycle_is = let l = four c heap homes n v k in let g = k.generation in omega arith

      next_shown : ShowsAll v.region v.goal (after_next c marks) (cycle_seen n (marked n past marks v) [] k.known (bits_of (after_next c marks)))
      next_shown = let s = move_all v.region v.goal c (cycle_ended n v y.lines k.known) ended_shown k.owned (Next marks) (after_mark_end (cycle_ended n v y.lines k.known) marks)
          (next_allowed c heap homes n v k marks rising rest known (none_pulled c heap homes n v k marks rising rest known uncached)) (none_out uncached, refl) (none_out uncached, refl) in
          subst (λ (z : ℕ × List Line × (ℕ → ℕ → Bool) × (ℕ → ℕ → Bool) × (ℕ → List Entry)). ShowsAll v.region v.goal (after_next c marks)
          (record { cycle = z.0; before = z.1; lines = []; known = k.known; carried = has_pair (allocated_pairs n v); marks = z.2; bits = z.3; logs = z.4; news = []; notes = [] }))
          (λ i. (
            cycle_is i,
            (sym y.since ∙ before_is) i,
            (λ p j. marks_has p j marks i),
            (λ p j. s.shows.bits p j i),
            (λ m. sym (ap (λ (l : List Part). get_or (map (λ (h : Part). h.log) l) m []) (parts' c heap homes n v k marks rising rest known) ∙ silent c heap homes n v k marks rising rest known (parts_of n v) m) i),
          )) s

      pub next_cycle : (c' : CoreState) → c' ≡ after_next c marks → KeepsCycle c' heap n (marked n past marks v) k.known
      next_cycle c' is = subst (λ (s : CoreState). KeepsCycle s heap n (marked n past marks v) k.known) (sym is) (record {
        lines = [];
        since = before_is;
        shows = next_shown.shows;
        blocks = next_shown.blocks;
        knows = next_shown.knows;
        unplaced = subst (λ (l : List Part). EachAt l (λ i h. IsClaimUnplaced h)) (sym (parts' c heap homes n v k marks rising rest known)) (λ i x a. (let z = map_at rested (parts_of n v) i x a in subst IsClaimUnplaced z.2 (λ d claim part. refl)));
      })

-- ---- the start

-- a new core with the first view keeps the first cycle
pub start_cycle : (core core' : CoreState) (heap : PageHeap) (v : View) (pages goal procs workers n : ℕ) → core ≡ new_state pages workers → core' ≡ record core { room = length core.words } → n < workers → heap.past ≡ [] → v ≡ first_view pages goal procs workers
    → KeepsCycle core' heap n v []
start_cycle core core' heap v pages goal procs workers n is room low past view = subst (λ (z : CoreState × View). KeepsCycle z.0 heap n z.1 []) (λ i. (sym (room ∙ ap (λ (s : CoreState). record s { room = length s.words }) is) i, sym view i)) (record {
  lines = [];
  since = past;
  shows = shown.shows;
  blocks = shown.blocks;
  knows = shown.knows;
  unplaced = λ m x a. subst IsClaimUnplaced (part_is m x a) (λ d claim part. refl);
})
  where
    parts : parts_of n (first_view pages goal procs workers) ≡ Rattle.sweep_laws.specs.Start.copies workers no_part
    parts = copy_here no_part workers n

    part_is : (m : ℕ) (x : Part) → get_elem? (parts_of n (first_view pages goal procs workers)) m ≡ some x → no_part ≡ x
    part_is m x a = at_here no_part (Rattle.std.specs.List.range_with_len 0 workers) m x (subst (λ (l : List Part). get_elem? l m ≡ some x) parts a)

    silent_start : (m : ℕ) → log_of (logs_of n (first_view pages goal procs workers)) m ≡ []
    silent_start m = ap (λ (l : List (List Entry)). get_or l m []) (ap (map (λ (h : Part). h.log)) parts ∙ Rattle.span_laws.proofs.Start.map_here no_part (λ (h : Part). h.log) (Rattle.std.specs.List.range_with_len 0 workers)) ∙ Rattle.span_laws.proofs.Start.get_here [] (Rattle.std.specs.List.range_with_len 0 workers) m

    first : ShowsAll pages goal (new_state pages workers) (cycle_of (first_view pages goal procs workers) [] [] (bits_of (new_state pages workers)) (λ m. []))
    first = record { shows = new-shows pages goal workers; blocks = start_blocks pages workers; knows = start_knows }

    shown : ShowsAll pages goal (record (new_state pages workers) { room = length (new_state pages workers).words }) (cycle_seen n (first_view pages goal procs workers) [] [] (bits_of (new_state pages workers)))
    shown = spare_all pages goal (new_state pages workers) (cycle_seen n (first_view pages goal procs workers) [] [] (bits_of (new_state pages workers)))
        (subst (λ (z : ℕ → List Entry). ShowsAll pages goal (new_state pages workers) (cycle_of (first_view pages goal procs workers) [] [] (bits_of (new_state pages workers)) z)) (λ i m. sym (silent_start m) i) first)
        None 0 (length (new_state pages workers).words)
