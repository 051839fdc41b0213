-- The steps that change no life keep the cycle under way: those on words, on sets and in the log.
use Rattle.std.proofs.Common.{◌≡◌, ℕ, zero, suc, ◌<◌, ⊎_elim, Bool, true, false, List, [], ◌∷◌, length, refl, ap, sym, subst, ◌∙◌, arith, eq-eqb}
use Rattle.std.specs.Prelude.{None, Some, Option}
use Rattle.page_alloc.specs.Heap.{PageHeap}
use Rattle.page_alloc.specs.Lists.{In}
use Rattle.page_bitmap.specs.Counts.{one_if}
use Rattle.span_state.specs.declared.body.Body.{Body}
use Rattle.sound_run.specs.Run.{count_for}
use Rattle.sweep_laws.specs.Changes.{after_acquire, after_claim, after_pop_swept}
use Rattle.sweep_laws.specs.Reading.{hand_of, life_in}
use Rattle.sweep_laws.specs.NeedsOfRange.{refusal}
use Rattle.sweep_laws.specs.Needs.{acquire_needs, claim_needs, pop_swept_needs}
use Rattle.sweep_laws.specs.OwnedSets.{ClaimFits}
use Rattle.sweep_laws.specs.State.{CoreState, HandState}
use Rattle.sweep_laws.specs.Step.{after, needs_of}
use Rattle.sweep_laws.specs.declared.moves.Claimed.{Claimed}
use Rattle.sweep_laws.specs.declared.moves.Move.TheVariants.{Acquire, Cache, Claim, DropPopped, Fill, PopSwept, PopUnswept, StaleUncache, Uncache}
use Rattle.swept_set_laws.specs.Entered.{is_full_life}
use Rattle.worker_log.specs.declared.Entry.{Entry}
use Rattle.worker_log.specs.declared.Entry.TheVariants.{Looked, LookedEmptyCell, Popped, Pushed, Swept, Took, Missed, Gave, Allocated, Found, Read, Added, Pulled, NoPage, Cut as CutEntry, NoCut, Settled}
use Rattle.worker_log.specs.declared.Placing.{Placing}
use Rattle.worker_log.specs.Logs.{placings}
use Rattle.worker_log.specs.SetNumbers.{is_full_set}
use Rattle.worker_log.specs.Entries.{is_placing_in, many}
use Rattle.run_laws.specs.Shown.{bits_of}
use Rattle.run_laws.specs.ShowsCycle.{MayLetGo}
use Rattle.span_laws.specs.Cycle.{KeepsCycle}
use Rattle.span_laws.specs.Moves.{move_of}
use Rattle.span_laws.specs.Rule.{Rule}
use Rattle.span_laws.specs.Suits.{IsQuiet, Suits}
use Rattle.span_laws.specs.Views.{acts, hand_state, span_of}
use Rattle.span_laws.specs.OwnSteps.{told, told_of}
use Rattle.span_laws.specs.declared.said.Said.{Said}
use Rattle.span_laws.specs.declared.said.Said.TheVariants.{Finds, Caches, Uncaches, UncachesStale, Looks, LooksCell, Claims, Fills, PopsEntry, Reads, Adds, Resets, FindsNoPage, FindsNoCut}
use Rattle.span_laws.specs.declared.said.SaidOf.TheVariants.{Acquires, Pops}
use Rattle.span_laws.specs.declared.view.Part.{Part}
use Rattle.span_laws.specs.declared.view.View.{View}
use Rattle.span_laws.proofs.CycleKept.{TellSame, all_shown, cycle_quiet, cycle_stays, e, still_unplaced, tell_more, tell_same}
use Rattle.span_laws.proofs.Ready.{all_in}
use Rattle.span_laws.proofs.RuleKept.{log_own, own_at, own_hand}
use Rattle.span_laws.proofs.WordMoves.{kept}

-- a log that has a placing in a page places in it
pub placed_in : (a : Placing) (p : ℕ) (log : List Entry) → In a (placings log) → a.page ≡ p → 0 < many (is_placing_in p) log
placed_in a p [] h at = absurd h
placed_in a p (Allocated b ∷ log) h at = ⊎_elim (λ (s : b ≡ a). let z = ap one_if (eq-eqb b.page p (ap (λ (x : Placing). x.page) s ∙ at)) in omega arith) (λ (t : In a (placings log)). let r = placed_in a p log t at in omega arith) h
placed_in a p (Swept s ∷ log) h at = let r = placed_in a p log h at in omega arith
placed_in a p (Looked s x y ∷ log) h at = let r = placed_in a p log h at in omega arith
placed_in a p (LookedEmptyCell s i ∷ log) h at = let r = placed_in a p log h at in omega arith
placed_in a p (Pulled number line ∷ log) h at = let r = placed_in a p log h at in omega arith
placed_in a p (NoPage ∷ log) h at = let r = placed_in a p log h at in omega arith
placed_in a p (CutEntry page pages class ∷ log) h at = let r = placed_in a p log h at in omega arith
placed_in a p (NoCut pages left ∷ log) h at = let r = placed_in a p log h at in omega arith
placed_in a p (Settled number ∷ log) h at = let r = placed_in a p log h at in omega arith
placed_in a p (Popped s q ∷ log) h at = let r = placed_in a p log h at in omega arith
placed_in a p (Pushed s q ∷ log) h at = let r = placed_in a p log h at in omega arith
placed_in a p (Took m x ∷ log) h at = let r = placed_in a p log h at in omega arith
placed_in a p (Missed m x ∷ log) h at = let r = placed_in a p log h at in omega arith
placed_in a p (Gave q m ∷ log) h at = let r = placed_in a p log h at in omega arith
placed_in a p (Found q w ∷ log) h at = let r = placed_in a p log h at in omega arith
placed_in a p (Read w x ∷ log) h at = let r = placed_in a p log h at in omega arith
placed_in a p (Added w x ∷ log) h at = let r = placed_in a p log h at in omega arith

module _ (c : CoreState) (heap : PageHeap) (homes : List (Option Body)) (n : ℕ) (v : View) (k : Rule c heap homes n v) (y : KeepsCycle c heap n v k.known) where
  -- a placing of the own log, as the cycle has it
  pub own_placing : (a : Placing) → In a (placings ((e c heap homes n v k y).logs n)) → In a (placings v.own.log)
  own_placing a h = subst (λ (l : List Entry). In a (placings l)) (log_own c heap homes n v k v.own) h

  -- a claim of a full set is for a full span, and one of a partial set for a span in which the worker placed nothing
  may_let_go : (d : Claimed) → v.own.claimed ≡ Some d → MayLetGo c (e c heap homes n v k y) n d.page
  may_let_go d claimed b j h at low = by_set (is_full_set d.set) refl
    where
      fits : ClaimFits c.generation (length c.words) c.lives c.sets (hand_state v.own) d
      fits = (kept c heap homes n v k).sets_fit.claim n (hand_state v.own) (own_at c heap homes n v k) d claimed

      by_set : (x : Bool) → is_full_set d.set ≡ x → bits_of c d.page j ≡ true
      by_set false part = let none = y.unplaced n v.own (Rattle.span_laws.proofs.RuleKept.part_at c heap homes n v k) d claimed part in let some = placed_in b d.page v.own.log (own_placing b h) at in absurd (omega arith)
      by_set true full =
          let names = k.entered.claim n (hand_state v.own) (own_at c heap homes n v k) d claimed in
          let entry = (k.entered.sets_name d.set fits.set_at fits.is_set fits.is_swept).entry d.index fits.below_tail in
          let is_full : is_full_life (life_in d.page c.lives) ≡ true = ap (λ (q : ℕ). is_full_life (life_in q c.lives)) (sym names) ∙ entry.full full in
          let life = y.shows.under.places.here n b h in
          let same = y.shows.lives.same life.0 life.1 in
          let count : (life_in d.page c.lives).count ≡ count_for b.class = ap (λ (q : ℕ). (life_in q c.lives).count) (sym (life.2.page ∙ at)) ∙ same.count ∙ ap count_for life.2.class in
          all_in (life_in d.page c.lives) is_full j (subst (λ (m : ℕ). j < m) (sym count) low)

  -- an entry without a move
  noted : (h : Part) → TellSame h.log v.own.log → h.claimed ≡ v.own.claimed → ((q : ℕ) → many (is_placing_in q) h.log ≡ many (is_placing_in q) v.own.log) → KeepsCycle c heap n (acts v h) k.known
  noted h alike claimed same = cycle_quiet c heap homes n v k y c h (all_shown c heap homes n v k y) alike (still_unplaced c heap homes n v k y h claimed same)

  -- a move that changes no body
  pub said_cycle : (s : Said) → Suits c v.own s → refusal (needs_of c (move_of n s)) ≡ None → KeepsCycle (after c (move_of n s)) heap n (acts v (told s v.own)) k.known
  said_cycle (Finds p w) u a = let h = told (Finds p w) v.own in
      cycle_stays c heap homes n v k y (DropPopped n p) h a refl refl (tell_more (Found p w ∷ []) v.own.log (refl, tt)) (still_unplaced c heap homes n v k y h refl (λ q. omega arith))
  said_cycle (Caches p) u a = let h = told (Caches p) v.own in
      cycle_stays c heap homes n v k y (Cache n p) h a refl refl (tell_same v.own.log) (still_unplaced c heap homes n v k y h refl (λ q. refl))
  said_cycle (Uncaches p) u a = let h = told (Uncaches p) v.own in
      cycle_stays c heap homes n v k y (Uncache n p) h a refl refl (tell_same v.own.log) (still_unplaced c heap homes n v k y h refl (λ q. refl))
  said_cycle (UncachesStale p) u a = let h = told (UncachesStale p) v.own in
      cycle_stays c heap homes n v k y (StaleUncache n p) h a refl refl (tell_same v.own.log) (still_unplaced c heap homes n v k y h refl (λ q. refl))
  said_cycle (Fills set page) u a = let h = told (Fills set page) v.own in let d : Claimed = record { set = set; index = u.0; page = page } in
      let is : (hand_of c n).claimed ≡ Some d = ap (λ (s : HandState). s.claimed) (own_hand c heap homes n v k) ∙ u.1 in
      cycle_stays c heap homes n v k y (Fill n) h a (λ x at. may_let_go x (sym (ap (λ (s : HandState). s.claimed) (own_hand c heap homes n v k)) ∙ at), refl) refl (tell_more (Pushed set page ∷ []) v.own.log (refl, tt))
      (λ x none. absurd (Rattle.sweep_laws.proofs.NeedsMet.some_none x (sym none)))
  said_cycle (PopsEntry set page) u a = let h = told (PopsEntry set page) v.own in
      cycle_stays c heap homes n v k y (PopUnswept n set) h a refl refl (tell_more (Popped set page ∷ []) v.own.log (refl, tt)) (still_unplaced c heap homes n v k y h refl (λ q. omega arith))
  said_cycle _ u a = absurd u

  -- an entry without a move
  pub note_cycle : (s : Said) → IsQuiet v.own s → KeepsCycle c heap n (acts v (told s v.own)) k.known
  note_cycle (Finds p w) q = noted (told (Finds p w) v.own) (tell_more (Found p w ∷ []) v.own.log (refl, tt)) refl (λ q. omega arith)
  note_cycle (Looks set head tail) q = noted (told (Looks set head tail) v.own) (tell_more (Looked set head tail ∷ []) v.own.log (refl, tt)) refl (λ q. omega arith)
  note_cycle (LooksCell set index cell) q = by_cell cell
    where
      by_cell : (x : ℕ) → KeepsCycle c heap n (acts v (told (LooksCell set index x) v.own)) k.known
      by_cell zero = noted (told (LooksCell set index 0) v.own) (tell_more (LookedEmptyCell set index ∷ []) v.own.log (refl, tt)) refl (λ q. omega arith)
      by_cell (suc x) = noted (told (LooksCell set index (suc x)) v.own) (tell_same v.own.log) refl (λ q. refl)
  note_cycle (Reads word value) q = noted (told (Reads word value) v.own) (tell_more (Read word value ∷ []) v.own.log (refl, tt)) refl (λ q. omega arith)
  note_cycle (Adds word value number) q = noted (told (Adds word value number) v.own) (tell_more (Added word number ∷ Read word value ∷ []) v.own.log (refl, (refl, tt))) refl (λ q. omega arith)
  note_cycle (Resets set) q = noted (told (Resets set) v.own) (tell_same v.own.log) refl (λ q. refl)
  note_cycle FindsNoPage q = noted (told FindsNoPage v.own) (tell_more (NoPage ∷ []) v.own.log (refl, tt)) refl (λ q. omega arith)
  note_cycle (FindsNoCut pages left) q = noted (told (FindsNoCut pages left) v.own) (tell_more (NoCut pages left ∷ []) v.own.log (refl, tt)) refl (λ q. omega arith)
  note_cycle _ q = absurd q

  -- a span that was at home is acquired
  pub acquire_cycle : (b : Body) (p : ℕ) → refusal (acquire_needs c n p) ≡ None → (c' : CoreState) → c' ≡ after_acquire c n p → KeepsCycle c' heap n (acts v (told_of Acquires (span_of b) v.own)) k.known
  acquire_cycle b p a c' same = let h = told_of Acquires (span_of b) v.own in subst (λ (s : CoreState). KeepsCycle s heap n (acts v h) k.known) (sym same)
      (cycle_stays c heap homes n v k y (Acquire n p) h a refl refl (tell_same v.own.log) (still_unplaced c heap homes n v k y h refl (λ q. refl)))

  -- an index is claimed, in a partial set for a span in which the worker placed nothing
  pub claim_cycle : (j p index : ℕ) → refusal (claim_needs c n j p) ≡ None → (is_full_set j ≡ false → many (is_placing_in p) v.own.log ≡ 0) → (c' : CoreState) → c' ≡ after_claim c n j p
      → KeepsCycle c' heap n (acts v (told (Claims j index p) v.own)) k.known
  claim_cycle j p index a none c' same = let h = told (Claims j index p) v.own in subst (λ (s : CoreState). KeepsCycle s heap n (acts v h) k.known) (sym same)
      (cycle_stays c heap homes n v k y (Claim n j p) h a refl refl (tell_same v.own.log) (λ d is part. unplaced d (some_same _ d is) part))
    where
      some_same : (x d : Claimed) → Some x ≡ Some d → x ≡ d
      some_same x d z = cc

      unplaced : (d : Claimed) → record { set = j; index = index; page = p } ≡ d → is_full_set d.set ≡ false → many (is_placing_in d.page) v.own.log ≡ 0
      unplaced d is part = subst (λ (x : Claimed). is_full_set x.set ≡ false → many (is_placing_in x.page) v.own.log ≡ 0) is none part

  -- a span is popped from a swept set
  pub pop_cycle : (b : Body) (j : ℕ) → refusal (pop_swept_needs c n j) ≡ None → (c' : CoreState) → c' ≡ after_pop_swept c n j → KeepsCycle c' heap n (acts v (told_of (Pops j) (span_of b) v.own)) k.known
  pop_cycle b j a c' same = let h = told_of (Pops j) (span_of b) v.own in subst (λ (s : CoreState). KeepsCycle s heap n (acts v h) k.known) (sym same)
      (cycle_stays c heap homes n v k y (PopSwept n j) h a refl refl (tell_more (Popped j b.page ∷ []) v.own.log (refl, tt)) (still_unplaced c heap homes n v k y h refl (λ q. omega arith)))
