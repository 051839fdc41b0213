-- The steps that change a life keep the cycle under way: Release, Allocate, Take and Give.
use Rattle.std.proofs.Common.{◌≡◌, ◌≢◌, ℕ, ◌+◌, ◌<◌, ◌≤◌, inl, inr, ⊎_elim, Bool, ◌&&◌, not, true, false, true≢false, List, [], ◌∷◌, ◌++◌, length, get_or, refl, ap, sym, subst, ◌∙◌, arith, ne_eqb}
use Rattle.std.specs.Prelude.{None, Some, Option, unwrap_or}
use mathlib.Core.Logic.{dite}
use mathlib.Core.Option.{some-injective}
use native.Mathlib.Decide.{dec_le}
use Rattle.page_alloc.specs.Heap.{PageHeap}
use Rattle.page_alloc.specs.Lives.{Life, life_of, others}
use Rattle.page_alloc.specs.Owners.{cached, within}
use Rattle.page_alloc.proofs.Lives.{exclusive, is-number, within-true}
use Rattle.page_alloc.specs.Lists.{In}
use Rattle.page_bitmap.specs.declared.line.Line.{Line}
use Rattle.page_bitmap.specs.declared.line.Line.TheVariants.{Take as TakeLine, Give as GiveLine}
use Rattle.page_bitmap.specs.Counts.{one_if}
use Rattle.sound_run.specs.Run.{IsJournal, count_for}
use Rattle.sound_run.proofs.Journals.{covers, lies}
use Rattle.span_state.specs.Bits.{bit_of, count_below}
use Rattle.span_state.specs.Counts.{count_below-same}
use Rattle.span_state.specs.MarkSet.{has_pair}
use Rattle.span_state.specs.declared.body.Body.{Body}
use Rattle.sweep_laws.specs.Changes.{after_allocate, after_give, after_lock, after_release, after_take}
use Rattle.sweep_laws.specs.Counts.{times}
use Rattle.sweep_laws.specs.Counts.{one_if as total_one}
use Rattle.sweep_laws.specs.Lists.{has}
use Rattle.sweep_laws.specs.Reading.{life_in}
use Rattle.sweep_laws.specs.NeedsOfRange.{refusal}
use Rattle.sweep_laws.specs.Needs.{allocate_needs, give_needs, lock_needs, release_needs, take_needs}
use Rattle.sweep_laws.specs.Owned.{Owned}
use Rattle.sweep_laws.specs.Standing.{tally}
use Rattle.sweep_laws.specs.State.{CoreState, HandState}
use Rattle.sweep_laws.specs.Step.{after, needs_of}
use Rattle.sweep_laws.specs.declared.moves.Move.{Move}
use Rattle.sweep_laws.specs.declared.moves.Move.TheVariants.{Allocate, Give, Lock, Release, Take}
use Rattle.sweep_laws.proofs.Forms.{owned_of}
use Rattle.sweep_laws.proofs.LivesChange.{all_at}
use Rattle.sweep_laws.proofs.MovesKept.{move_kept}
use Rattle.sweep_laws.proofs.Naming.{has_times, times_has}
use Rattle.sweep_laws.proofs.NeedsMet.{some_none}
use Rattle.sweep_laws.proofs.Standings.{sweeping_list}
use Rattle.sweep_laws.proofs.Totals.{part_le}
use Rattle.worker_log.specs.declared.Entry.TheVariants.{Swept, Took, Gave, Allocated}
use Rattle.worker_log.specs.declared.Placing.{Placing}
use Rattle.worker_log.specs.declared.Sweeping.{Sweeping}
use Rattle.worker_log.specs.SweptLast.{is_swept_last}
use Rattle.worker_log.specs.Entries.{is_placing_in, many}
use Rattle.run_laws.specs.PlacingFacts.{IsIn}
use Rattle.run_laws.specs.Keeping.{HasOneOf}
use Rattle.run_laws.specs.Shown.{bits_of, has_of, marks_of}
use Rattle.run_laws.specs.Blocks.{CutOut, cut_times, cuts_of}
use Rattle.run_laws.specs.CycleSoFar.{CycleSoFar}
use Rattle.run_laws.specs.GoesOn.{GoesOn}
use Rattle.run_laws.specs.ShowsBlocks.{BlocksGoOn}
use Rattle.run_laws.specs.ShowsCycle.{IsSweepOf}
use Rattle.run_laws.specs.Steps.{after_gave, after_sweep, after_took}
use Rattle.run_laws.specs.Steps.{after_allocate as placed_next}
use Rattle.span_laws.specs.TakeAnswers.{cycle_at}
use Rattle.span_laws.specs.Bodies.{Fits, IsWaiting, lends}
use Rattle.span_laws.specs.Cycle.{KeepsCycle}
use Rattle.span_laws.specs.Rule.{Rule}
use Rattle.span_laws.specs.Suits.{IsPlaceOf, PlacesAlone, WasLent}
use Rattle.span_laws.specs.Views.{acts, hand_state, no_span, span_at}
use Rattle.span_laws.specs.OwnSteps.{told, told_of}
use Rattle.span_laws.specs.declared.said.Said.TheVariants.{Gives}
use Rattle.span_laws.specs.declared.said.SaidOf.TheVariants.{Places, Releases, Takes}
use Rattle.span_laws.specs.declared.view.Span.{Span}
use Rattle.span_laws.specs.declared.view.View.{View}
use Rattle.span_laws.proofs.CycleKept.{ShowsAll, all_shown, cycle_moved, e, move_all, put_log, seen_by, spare_all, still_unplaced}
use Rattle.span_laws.proofs.CycleSteps.{own_placing, placed_in}
use Rattle.span_laws.proofs.Lives.{marks_has}
use Rattle.span_laws.proofs.RuleKept.{log_own, own_at}
use Rattle.span_laws.proofs.WordMoves.{cached_lent, kept, lent_now}

some_same : (a b : Span) → Some a ≡ Some b → a ≡ b
some_same a b z = cc

some_lent : (o : Option Span) (s : Span) → o ≡ Some s → unwrap_or o no_span ≡ s
some_lent o s z = ap (λ (x : Option Span). unwrap_or x no_span) z

module _ (c : CoreState) (heap : PageHeap) (homes : List (Option Body)) (n : ℕ) (v : View) (k : Rule c heap homes n v) (y : KeepsCycle c heap n v k.known) where
  -- the sweep of a span ends, with a body that has its marks
  module _ (b : Span) (a : refusal (release_needs c n b.page) ≡ None) (low : b.page < length c.words) (sweeping : has b.page v.own.sweeping ≡ true) (was : WasLent v.own b) (bits : (j : ℕ) → bit_of b.bits j ≡ has_pair v.marks b.page j) where
    abbrev old : Span
    old = unwrap_or (span_at b.page v.own.spans) no_span

    -- the entry of the sweep
    abbrev sweep : Sweeping
    sweep = record { page = b.page; pages = b.pages; kept = count_below b.count (bit_of b.bits); freed = count_below b.count (λ j. bit_of old.bits j && not (bit_of b.bits j)) }

    waits : IsWaiting c.generation (get_or c.words b.page 0)
    waits = let t = has_times b.page v.own.sweeping sweeping in let q = part_le (λ (h : HandState). times b.page h.sweeping) c.hands n (hand_state v.own) (own_at c heap homes n v k) in
        let w = (sweeping_list c.generation (tally c.generation c.words c.lives c.sets c.hands b.page) ((kept c heap homes n v k).page b.page low).standing (omega arith)).0 in inr (inl w)

    fits : Fits k.known c.lives b.page was.0
    fits = let l = lent_now c heap homes n v k b.page (let t = has_times b.page v.own.sweeping sweeping in let o = Rattle.sweep_laws.specs.Named.only (not (Rattle.span_laws.specs.Bodies.is_claimed b.page v.own.claimed)) (times b.page v.own.held) in omega arith) in
        subst (Fits k.known c.lives b.page) (some_same l.0 was.0 (sym l.1 ∙ was.1)) l.2

    marks_are : (j : ℕ) → marks_of c b.page j ≡ bit_of b.bits j
    marks_are j = ap (has j) (k.marks.kept b.page low waits) ∙ marks_has b.page j v.marks ∙ sym (bits j)

    bits_are : (j : ℕ) → bits_of c b.page j ≡ bit_of old.bits j
    bits_are j = sym (fits.body.bits j) ∙ ap (λ (s : Span). bit_of s.bits j) (sym (some_lent (span_at b.page v.own.spans) was.0 was.1))

    count : b.count ≡ (life_in b.page c.lives).count
    count = sym was.2.count ∙ fits.body.count

    counts : IsSweepOf c b.page sweep
    counts = record {
      page = refl;
      kept = ap (λ (m : ℕ). count_below m (bit_of b.bits)) count ∙ count_below-same (life_in b.page c.lives).count (bit_of b.bits) (λ j. marks_of c b.page j) (λ j l. sym (marks_are j));
      freed = ap (λ (m : ℕ). count_below m (λ j. bit_of old.bits j && not (bit_of b.bits j))) count
          ∙ count_below-same (life_in b.page c.lives).count (λ j. bit_of old.bits j && not (bit_of b.bits j)) (λ j. bits_of c b.page j && not (marks_of c b.page j))
          (λ j l. λ i. sym (bits_are j) i && not (sym (marks_are j) i));
    }

    pub release_cycle : KeepsCycle (after_release c n b.page) heap n (acts v (told_of Releases b v.own)) k.known
    release_cycle = let h = told_of Releases b v.own in let life = life_of 0 0 b.page 0 0 in
        let s = move_all v.region v.goal c (e c heap homes n v k y) (all_shown c heap homes n v k y) k.owned (Release n b.page) (after_sweep (e c heap homes n v k y) n life sweep) a (life, sweep, refl, counts, refl) (life, sweep, refl) in
        cycle_moved c heap homes n v k y (after_release c n b.page) heap h y.lines k.known y.since
        (seen_by c heap homes n v k y (after_release c n b.page) h y.lines k.known _ _ s (put_log c heap homes n v k y h (Swept sweep) refl))
        (still_unplaced c heap homes n v k y h refl (λ q. omega arith))

  -- an object is placed at an index
  module _ (b s : Span) (i : ℕ) (a : refusal (allocate_needs c n b.page i) ≡ None) (lent : span_at b.page v.own.spans ≡ Some s) (place : IsPlaceOf s b) (has_it : 0 < lends b.page v.own) (alone : PlacesAlone v.own (Places i) b)
      (elsewhere : (d : Rattle.sweep_laws.specs.declared.moves.Claimed.Claimed) → v.own.claimed ≡ Some d → d.page ≡ b.page → ⊥) where
    span_fits : Fits k.known c.lives b.page s
    span_fits = let l = lent_now c heap homes n v k b.page has_it in subst (Fits k.known c.lives b.page) (some_same l.0 s (sym l.1 ∙ lent)) l.2

    abbrev placing : Placing
    placing = record { page = b.page; index = i; number = b.life; class = b.class }

    abbrev life : Life
    life = life_of s.life span_fits.line.0 s.page s.pages s.class

    here : In life k.known
    here = span_fits.line.1

    is_in : IsIn placing life
    is_in = record { page = place.page; class = place.class }

    -- the objects of a span of this class
    count_is : (life_in b.page c.lives).count ≡ count_for b.class
    count_is = ap (λ (q : ℕ). (life_in q c.lives).count) (sym place.page) ∙ (y.shows.lives.same life here).count ∙ ap count_for place.class

    one : HasOneOf (e c heap homes n v k y) (has_of c) n b.class b.page
    one z j h class there low free = ⊎_elim
        (λ (x : ((q : ℕ) (s : Span) → has q v.own.cached ≡ true → span_at q v.own.spans ≡ Some s → s.class ≡ b.class → q ≡ b.page) × ((q : ℕ) → has q v.own.held ≡ true → 0 < many (is_placing_in q) v.own.log → q ≡ b.page)).
        dite (dec_le 1 (times z.page v.own.cached))
        (λ t. let cached = times_has z.page v.own.cached t in let l = lent_now c heap homes n v k z.page (cached_lent c heap homes n v k z.page cached) in
        x.0 z.page l.0 cached l.1 (l.2.body.class ∙ class_of ∙ class))
        (λ t. let m = mine in x.1 z.page (times_has z.page v.own.held (omega arith)) (placed_in z z.page v.own.log (own_placing c heap homes n v k y z h) refl)))
        (λ (x : b.count ≡ 1). let size : count_for z.class ≡ 1 = ap count_for class ∙ sym count_is ∙ sym span_fits.body.count ∙ place.count ∙ x in
        let at = y.shows.under.places.below n z h in let same : z.index ≡ j = omega arith in
        absurd (true≢false (sym (y.shows.under.holds.placed n z h) ∙ ap (bits_of c z.page) same ∙ free)))
        alone
      where
        life_at : (life : Life) × In life k.known × IsIn z life
        life_at = y.shows.under.places.here n z h

        class_of : (life_in z.page c.lives).class ≡ z.class
        class_of = ap (λ (q : ℕ). (life_in q c.lives).class) (sym life_at.2.page) ∙ (y.shows.lives.same life_at.0 life_at.1).class ∙ life_at.2.class

        mine : 0 < times z.page v.own.held + times z.page v.own.cached
        mine = subst (λ (w : HandState). 0 < times z.page w.held + times z.page w.cached) (some-injective there.1 (hand_state v.own) (sym there.2 ∙ own_at c heap homes n v k)) there.3

    pub place_cycle : KeepsCycle (after_allocate c b.page i) heap n (acts v (told_of (Places i) b v.own)) k.known
    place_cycle = let h = told_of (Places i) b v.own in
        let s = move_all v.region v.goal c (e c heap homes n v k y) (all_shown c heap homes n v k y) k.owned (Allocate n b.page i) (placed_next (e c heap homes n v k y) n placing) a
        (life, placing, refl, refl, here, is_in, place.life, one, refl) (placing, refl) in
        cycle_moved c heap homes n v k y (after_allocate c b.page i) heap h y.lines k.known y.since
        (seen_by c heap homes n v k y (after_allocate c b.page i) h y.lines k.known _ _ s (put_log c heap homes n v k y h (Allocated placing) refl))
        (λ d is part. (let z = still d is part in let w = ap one_if (ne_eqb b.page d.page (λ t. elsewhere d is (sym t))) in omega arith))
      where
        still : Rattle.span_laws.specs.Cycle.IsClaimUnplaced v.own
        still = Rattle.span_laws.proofs.CycleKept.own_unplaced c heap homes n v k y

  -- under the lock
  pub locked : (met : refusal (lock_needs c n) ≡ None) → Owned (after_lock c n)
  locked met = owned_of (after_lock c n) (move_kept c (kept c heap homes n v k) (Lock n) met)

  pub lock_shown : ShowsAll v.region v.goal (after_lock c n) (e c heap homes n v k y)
  lock_shown = spare_all v.region v.goal c (e c heap homes n v k y) (all_shown c heap homes n v k y) (Some n) c.prepared c.room

  pub number_of : (m : ℕ) → length heap.past ≡ m → length (y.lines ++ v.before) ≡ m
  number_of m is = ap (λ (l : List Line). length l) (sym y.since) ∙ is

  -- a move under the lock, which is free behind it
  pub locked_move : (move : Move) (next : CycleSoFar) → refusal (lock_needs c n) ≡ None → refusal (needs_of (after_lock c n) move) ≡ None → GoesOn v.region v.goal (after_lock c n) (e c heap homes n v k y) move next
      → BlocksGoOn (after_lock c n) (e c heap homes n v k y) move next → ShowsAll v.region v.goal (record (after (after_lock c n) move) { lock = None }) next
  locked_move move next lock met on goes = let d = after (after_lock c n) move in
      spare_all v.region v.goal d next (move_all v.region v.goal (after_lock c n) (e c heap homes n v k y) lock_shown (locked lock) move next met on goes) None d.prepared d.room

  -- a span is taken, by the line of its number
  module _ (b : Span) (lock : refusal (lock_needs c n) ≡ None) (a : refusal (take_needs (after_lock c n) n b.page b.pages b.count b.class) ≡ None) (count : b.count ≡ count_for b.class) (cycle : ℕ) (is_now : cycle ≡ cycle_at v.generation) (heap' : PageHeap)
      (legal : IsJournal v.region v.goal (TakeLine cycle b.page b.pages b.class ∷ heap.past)) (past : heap'.past ≡ TakeLine cycle b.page b.pages b.class ∷ heap.past) (number : length heap.past ≡ b.life) where
    pub take_cycle : KeepsCycle (record (after_take c n b.page b.pages b.count b.class) { lock = None }) heap' n (acts v (told_of (Takes cycle) b v.own)) (life_of (length heap.past) cycle b.page b.pages b.class ∷ k.known)
    take_cycle = let h = told_of (Takes cycle) b v.own in let c' : CoreState = record (after_take c n b.page b.pages b.count b.class) { lock = None } in
        let legal' = subst (λ (z : ℕ × List Line). IsJournal v.region v.goal (TakeLine z.0 b.page b.pages b.class ∷ z.1)) (λ i. (is_now i, y.since i)) legal in
        let s : ShowsAll v.region v.goal c' (after_took (e c heap homes n v k y) n b.page b.pages b.class) =
        locked_move (Take n b.page b.pages b.count b.class) (after_took (e c heap homes n v k y) n b.page b.pages b.class) lock a (legal', count, refl) (count, refl) in
        let lines = TakeLine (cycle_at v.generation) b.page b.pages b.class ∷ y.lines in
        let known = life_of (length (y.lines ++ v.before)) (cycle_at v.generation) b.page b.pages b.class ∷ k.known in
        subst (KeepsCycle c' heap' n (acts v h)) (λ i. life_of (length (sym y.since i)) (sym is_now i) b.page b.pages b.class ∷ k.known)
        (cycle_moved c heap homes n v k y c' heap' h lines known
        (past ∙ (λ i. TakeLine (is_now i) b.page b.pages b.class ∷ y.since i))
        (seen_by c heap homes n v k y c' h lines known _ _ s
        (put_log c heap homes n v k y h (Took (length (y.lines ++ v.before)) (TakeLine (cycle_at v.generation) b.page b.pages b.class)) (λ i. Took (sym (number_of b.life number) i) (TakeLine (is_now i) b.page b.pages b.class) ∷ v.own.log)))
        (still_unplaced c heap homes n v k y h refl (λ q. omega arith)))

  -- no span that was cut and isn't in the journal yet begins where a worker swept an older one last
  uncut : (p : ℕ) → is_swept_last p v.own.log ≡ true → (w : ℕ) (x : CutOut) → In x (cuts_of ((e c heap homes n v k y).logs w)) → x.page ≢ p
  uncut p last w x h at =
      let old = y.shows.tell.old n p (ap (is_swept_last p) (log_own c heap homes n v k v.own) ∙ last) in
      let lie = lies v.region v.goal (y.lines ++ v.before) old.0 y.shows.under.writes.legal old.1 in
      let some = lie.0 in
      let page = old.2 in
      let own = covers v.region v.goal (y.lines ++ v.before) old.0 p y.shows.under.writes.legal old.1 (omega arith) (omega arith) in
      let cut = y.blocks.cuts w x h in
      let pages = cut.pages in
      let wide : 1 ≤ (life_in x.page c.lives).pages = all_at (λ l. 1 ≤ l.pages) x.page c.lives (kept c heap homes n v k).lives_fit.whole cut.begin in
      let covered = cut_here p (cuts_of ((e c heap homes n v k y).logs w)) x h (within-true p x.page x.pages (omega arith) (omega arith)) in
      let in_cache = is-number w (cached (y.lines ++ v.before) p) (one_true _ (let z = y.blocks.pulled w p in omega arith)) in
      some_none old.0.page (sym own ∙ exclusive 64 v.region v.goal (y.lines ++ v.before) p w y.shows.under.writes.legal in_cache)
    where
      one_true : (b : Bool) → 1 ≤ total_one b → b ≡ true
      one_true true h = refl
      one_true false h = absurd (omega arith)

      cut_here : (p : ℕ) (cuts : List CutOut) (x : CutOut) → In x cuts → within p x.page x.pages ≡ true → 1 ≤ cut_times p cuts
      cut_here p [] x h on = absurd h
      cut_here p (z ∷ cuts) x (inl is) on = let o = ap total_one (ap (λ (t : CutOut). within p t.page t.pages) is ∙ on) in omega arith
      cut_here p (z ∷ cuts) x (inr h) on = let r = cut_here p cuts x h on in omega arith

  -- a span without objects is given back, by the worker that swept it last
  module _ (p pages : ℕ) (lock : refusal (lock_needs c n) ≡ None) (a : refusal (give_needs (after_lock c n) n p) ≡ None) (size : (life_in p c.lives).pages ≡ pages) (last : is_swept_last p v.own.log ≡ true) (cycle : ℕ) (is_now : cycle ≡ cycle_at v.generation)
      (heap' : PageHeap) (legal : IsJournal v.region v.goal (GiveLine cycle p pages ∷ heap.past)) (past : heap'.past ≡ GiveLine cycle p pages ∷ heap.past) where
    pub give_cycle : KeepsCycle (record (after_give c n p) { lock = None }) heap' n (acts v (told (Gives p pages) v.own)) (others p k.known)
    give_cycle = let h = told (Gives p pages) v.own in let c' : CoreState = record (after_give c n p) { lock = None } in
        let size_is = (life_in p c.lives).pages in
        let legal' = subst (λ (z : ℕ × ℕ × List Line). IsJournal v.region v.goal (GiveLine z.0 p z.1 ∷ z.2)) (λ i. (is_now i, sym size i, y.since i)) legal in
        let s : ShowsAll v.region v.goal c' (after_gave (e c heap homes n v k y) n p size_is) =
        locked_move (Give n p) (after_gave (e c heap homes n v k y) n p size_is) lock a (ap (is_swept_last p) (log_own c heap homes n v k v.own) ∙ last, legal', refl) (uncut p last, refl) in
        let s' : ShowsAll v.region v.goal c' (after_gave (e c heap homes n v k y) n p pages) = subst (λ (m : ℕ). ShowsAll v.region v.goal c' (after_gave (e c heap homes n v k y) n p m)) size s in
        cycle_moved c heap homes n v k y c' heap' h (GiveLine (cycle_at v.generation) p pages ∷ y.lines) (others p k.known)
        (past ∙ (λ i. GiveLine (is_now i) p pages ∷ y.since i))
        (seen_by c heap homes n v k y c' h (GiveLine (cycle_at v.generation) p pages ∷ y.lines) (others p k.known) _ _ s' (put_log c heap homes n v k y h (Gave p pages) refl))
        (still_unplaced c heap homes n v k y h refl (λ q. omega arith))
