-- The moves of span ownership keep the cycle under way.
use Rattle.std.proofs.Common.{◌≡◌, ◌≢◌, ℕ, ◌<◌, ◌≤◌, ◌∷◌, subst, Bool, true, false, ◌&&◌, not, List, [], ◌++◌, ◌+◌, length, length-set, refl, sym, ◌∙◌, ap, inl, inr}
use Rattle.std.specs.Prelude.{Some, slice_index}
use Rattle.std.proofs.lemmas.Bool.{cases_eq}
use Rattle.page_bitmap.specs.declared.line.Line.TheVariants.{Take, Give, Pull}
use Rattle.page_alloc.specs.Lists.{In}
use Rattle.page_alloc.specs.Lives.{Life, life_of, open_lives, others}
use Rattle.span_state.specs.Bits.{count_below, with_bit}
use Rattle.span_state.specs.Counts.{count_below-same}
use Rattle.sound_run.specs.Run.{count_for, IsJournal}
use Rattle.sweep_laws.specs.Named.{begins}
use Rattle.sweep_laws.specs.Standing.{CoreKept}
use Rattle.sweep_laws.specs.State.{LifeState, CoreState}
use Rattle.sweep_laws.specs.Lists.{has}
use Rattle.sweep_laws.specs.Reading.{allocated_at, life_in, life_of as life_at}
use Rattle.sweep_laws.specs.ChangesOfLives.{drop_life}
use Rattle.sweep_laws.specs.Changes.{after_release, after_allocate as core_allocate, after_take, after_give, after_cut}
use Rattle.worker_log.specs.declared.Placing.{Placing}
use Rattle.worker_log.specs.declared.Sweeping.{Sweeping}
use Rattle.worker_log.specs.declared.Entry.{Entry}
use Rattle.worker_log.specs.declared.Entry.TheVariants.{Took, Gave, Pulled, Cut as CutEntry, Settled}
use Rattle.worker_log.specs.Logs.{placings, sweepings, refusals}
use Rattle.worker_log.specs.SweptLast.{is_swept_last}
use Rattle.run_laws.specs.CycleSoFar.{CycleSoFar, past_after}
use Rattle.run_laws.specs.PlacingFacts.{IsIn}
use Rattle.run_laws.specs.Underway.{IsUnderway, LogsTell}
use Rattle.run_laws.specs.StepNeeds.{MaySweep}
use Rattle.run_laws.specs.Steps.{put, after_sweep, after_allocate, after_line, after_took, after_gave}
use Rattle.run_laws.specs.Keeping.{HasOneOf, KeepsRoom}
use Rattle.run_laws.specs.Shown.{bits_of, is_waiting, marks_of, waits_of, has_of, LivesShown}
use Rattle.run_laws.specs.Blocks.{OutBlock, settled_lines}
use Rattle.run_laws.specs.ShowsBlocks.{after_pulled, after_cut_out, after_settled}
use Rattle.run_laws.specs.ShowsCycle.{ShowsCycle}
use Rattle.run_laws.proofs.Underway.{put_here, put_else, sweep-keeps}
use Rattle.run_laws.specs.Lists.{begins_at}
use Rattle.run_laws.proofs.Steps.{allocate-keeps, take-adds, give-adds, pull-adds, settle-adds, life-known, with_known, with_lines}
use Rattle.run_laws.proofs.Whole.{underway-alike}
use Rattle.run_laws.proofs.Keeping.{may-allocate, room-allocate, room-sweep, room-gets, core-ones}
use Rattle.run_laws.proofs.Shown.{release-bits, release-waits, allocate-bits, take-bits, take-waits, give-bits, give-waits, settled-word}
use Rattle.run_laws.proofs.CoreEnded.{give-shown}
use Rattle.run_laws.proofs.Tell.{tell-sweep, tell-allocate, tell-took, tell-gave, tell-pulled, tell-cut, tell-settled, underway-logs, filter-more}

-- a move that changes neither bits nor waiting pages
pub shows-frame : (region goal : ℕ) (c new : CoreState) (e : CycleSoFar) → ShowsCycle region goal c e → ((p k : ℕ) → bits_of new p k ≡ bits_of c p k) → ((p : ℕ) → waits_of new p ≡ waits_of c p)
    → ((p k : ℕ) → waits_of c p ≡ true → marks_of new p k ≡ marks_of c p k) → LivesShown new e.known → KeepsRoom e (has_of new) → length new.words ≡ length c.words → ShowsCycle region goal new e
shows-frame region goal c new e now bits waits marks lives room size = record {
  under = underway-alike region goal e (waits_of c) (waits_of new) e.bits now.under (λ p k. refl) waits;
  bits = λ p k. now.bits p k ∙ sym (bits p k);
  marks = λ p k is. (let was : waits_of c p ≡ true = sym (waits p) ∙ is in marks p k was ∙ now.marks p k was);
  lives = lives;
  room = room;
  tell = now.tell;
  size = size ∙ now.size;
  by = now.by;
}

-- a release, where the entry has the counts of the life's bits and marks
pub shows-release : (region goal : ℕ) (c : CoreState) (e : CycleSoFar) (w : ℕ) (life : Life) (s : Sweeping) → ShowsCycle region goal c e → In life (open_lives e.before) → waits_of c life.page ≡ true
    → life.page < length c.words → begins life.page c.lives ≡ true → s.page ≡ life.page
    → s.kept ≡ count_below (count_for life.class) (λ k. marks_of c life.page k) → s.freed ≡ count_below (count_for life.class) (λ k. bits_of c life.page k && not (marks_of c life.page k))
    → 4 ≤ c.generation → ((p k : ℕ) → p ≢ life.page → marks_of (after_release c w life.page) p k ≡ marks_of c p k) → LivesShown (after_release c w life.page) e.known
    → ((v p : ℕ) → has_of c v p → has_of (after_release c w life.page) v p) → length (after_release c w life.page).words ≡ length c.words
    → ShowsCycle region goal (after_release c w life.page) (after_sweep e w life s)
shows-release region goal c e w life s now old waits inside begin page kept freed low others lives gains size =
    let new = after_release c w life.page in
    let marks_are : (k : ℕ) → marks_of c life.page k ≡ e.marks life.page k = λ k. now.marks life.page k waits in
    let carried : (k : ℕ) → bits_of c life.page k ≡ e.carried life.page k = λ k. sym (now.bits life.page k) ∙ now.under.waiting.as_before life.page k waits in
    let kept' : s.kept ≡ count_below (count_for life.class) (λ k. e.marks life.page k) = kept ∙ count_below-same (count_for life.class) (λ k. marks_of c life.page k) (λ k. e.marks life.page k) (λ k lt. marks_are k) in
    let freed' : s.freed ≡ count_below (count_for life.class) (λ k. e.carried life.page k && not (e.marks life.page k)) = freed ∙ count_below-same (count_for life.class) (λ k. bits_of c life.page k && not (marks_of c life.page k)) (λ k. e.carried life.page k && not (e.marks life.page k)) (λ k lt. and-alike (bits_of c life.page k) (e.carried life.page k) (not (marks_of c life.page k)) (not (e.marks life.page k)) (carried k) (ap not (marks_are k))) in
    let may : MaySweep e (waits_of c) life s = record { old = old; waits_now = waits; page = page; kept = kept'; freed = freed' } in
    let swept = sweep-keeps region goal e (waits_of c) w life s now.under may in
    record {
      under = underway-alike region goal (after_sweep e w life s) (put (waits_of c) life.page false) (waits_of new) (after_sweep e w life s).bits swept (λ p k. refl) (λ p. release-waits c w life.page low inside p);
      bits = λ p k. elim (cases_eq p life.page) [
        | inl same ↦ ap (λ (f : ℕ → Bool). f k) (put_here e.bits life.page p (e.marks life.page) same) ∙ sym (marks_are k)
            ∙ sym (release-bits c w life.page begin p k ∙ ap (λ (f : ℕ → Bool). f k) (put_here (bits_of c) life.page p (marks_of c life.page) same))
        | inr other ↦ ap (λ (f : ℕ → Bool). f k) (put_else e.bits life.page p (e.marks life.page) other) ∙ now.bits p k
            ∙ sym (release-bits c w life.page begin p k ∙ ap (λ (f : ℕ → Bool). f k) (put_else (bits_of c) life.page p (marks_of c life.page) other))
      ];
      marks = λ p k is. (
          let put_is : put (waits_of c) life.page false p ≡ true = sym (release-waits c w life.page low inside p) ∙ is in
          elim (cases_eq p life.page) [
            | inl same ↦ (let off = put_here (waits_of c) life.page p false same in let none : ⊥ = cc in absurd none)
            | inr other ↦ others p k other ∙ now.marks p k (sym (put_else (waits_of c) life.page p false other) ∙ put_is)
          ]);
      lives = lives;
      room = room-gets (after_sweep e w life s) (has_of c) (has_of new) gains (room-sweep region goal e (waits_of c) (has_of c) w life s now.under may now.room);
      tell = tell-sweep region goal e (waits_of c) w life s now.under may now.tell;
      size = size ∙ now.size;
      by = now.by;
    }
  where
    and-alike : (a b x y : Bool) → a ≡ b → x ≡ y → (a && x) ≡ (b && y)
    and-alike a b x y first second = rw (first, second) refl

-- an allocation in a span that the worker has
pub shows-allocate : (region goal : ℕ) (c : CoreState) (e : CycleSoFar) (w : ℕ) (life : Life) (a : Placing) → CoreKept c → ShowsCycle region goal c e → In life e.known → IsIn a life → life.number ≡ a.number
    → waits_of c a.page ≡ false → a.index < count_for a.class → bits_of c a.page a.index ≡ false → ((j : ℕ) → j < a.index → bits_of c a.page j ≡ true) → begins a.page c.lives ≡ true
    → has_of c w a.page → HasOneOf e (has_of c) w a.class a.page
    → ((p k : ℕ) → marks_of (core_allocate c a.page a.index) p k ≡ marks_of c p k) → LivesShown (core_allocate c a.page a.index) e.known
    → ShowsCycle region goal (core_allocate c a.page a.index) (after_allocate e w a)
shows-allocate region goal c e w life a kept now here is number swept below free least begin mine one marks lives =
    let may = may-allocate region goal e (waits_of c) (has_of c) w life a now.under now.room (core-ones c kept) (λ x y hx hy page. sym (now.lives.same x hx).class ∙ ap (λ (p : ℕ). (life_at c p).class) page ∙ (now.lives.same y hy).class) here is number swept below (now.bits a.page a.index ∙ free) (λ j lt. now.bits a.page j ∙ least j lt) mine one in
    record {
      under = allocate-keeps region goal e (waits_of c) w life a now.under may;
      bits = λ p k. elim (cases_eq p a.page) [
        | inl same ↦ ap (λ (f : ℕ → Bool). f k) (put_here e.bits a.page p (with_bit a.index (e.bits a.page)) same) ∙ bit-alike a.index k (e.bits a.page) (bits_of c a.page) (now.bits a.page k)
            ∙ sym (allocate-bits c a.page a.index begin p k ∙ ap (λ (f : ℕ → Bool). f k) (put_here (bits_of c) a.page p (with_bit a.index (bits_of c a.page)) same))
        | inr other ↦ ap (λ (f : ℕ → Bool). f k) (put_else e.bits a.page p (with_bit a.index (e.bits a.page)) other) ∙ now.bits p k
            ∙ sym (allocate-bits c a.page a.index begin p k ∙ ap (λ (f : ℕ → Bool). f k) (put_else (bits_of c) a.page p (with_bit a.index (bits_of c a.page)) other))
      ];
      marks = λ p k waits. marks p k ∙ now.marks p k waits;
      lives = lives;
      room = room-allocate e (has_of c) w a now.room mine;
      tell = tell-allocate e w a now.tell;
      size = now.size;
      by = now.by;
    }
  where
    bit-alike : (i k : ℕ) (f g : ℕ → Bool) → f k ≡ g k → with_bit i f k ≡ with_bit i g k
    bit-alike i k f g same = rw same refl

-- a Take, with its line and its entry
pub shows-take : (region goal : ℕ) (c : CoreState) (e : CycleSoFar) (w p pages count class : ℕ) → ShowsCycle region goal c e → IsJournal region goal (Take e.cycle p pages class ∷ past_after e) → begins_at p e.known ≡ false → 4 ≤ c.generation
    → p < length c.words → slice_index c.words p ≡ 0 → ((k : ℕ) → bits_of c p k ≡ false)
    → ((q k : ℕ) → waits_of c q ≡ true → marks_of (after_take c w p pages count class) q k ≡ marks_of c q k) → ((v q : ℕ) → has_of c v q → has_of (after_take c w p pages count class) v q)
    → LivesShown (after_take c w p pages count class) (life_of (length (past_after e)) e.cycle p pages class ∷ e.known) → length (after_take c w p pages count class).words ≡ length c.words
    → ShowsCycle region goal (after_take c w p pages count class) (after_took e w p pages class)
shows-take region goal c e w p pages count class now legal new low inside word none marks gains lives size =
    let took = take-adds region goal e (waits_of c) p pages class now.under record { legal = legal; fresh = λ k. now.bits p k ∙ none k; new = new } in
    let x : Entry = Took (length (past_after e)) (Take e.cycle p pages class) in
    let logs : ℕ → List Entry = put e.logs w (x ∷ e.logs w) in
    let told : IsUnderway region goal (after_took e w p pages class) (waits_of c) = underway-logs region goal (with_known (after_line e (Take e.cycle p pages class)) (life_of (length (past_after e)) e.cycle p pages class ∷ e.known)) (waits_of c) logs took
    (filter-more placings e.logs w x refl) (filter-more sweepings e.logs w x refl) (filter-more refusals e.logs w x refl) in
    let waits : (q : ℕ) → waits_of (after_take c w p pages count class) q ≡ waits_of c q = λ q. take-waits c w p pages count class low inside word q in
    record {
      under = underway-alike region goal (after_took e w p pages class) (waits_of c) (waits_of (after_take c w p pages count class)) e.bits told (λ q k. refl) waits;
      bits = λ q k. now.bits q k ∙ sym (take-bits c w p pages count class q k);
      marks = λ q k is. (let was : waits_of c q ≡ true = sym (waits q) ∙ is in marks q k was ∙ now.marks q k was);
      lives = lives;
      room = λ v b j h lt off. gains v b.page (now.room v b j (subst (λ (l : List Placing). In b l) (filter-more placings e.logs w x refl v) h) lt off);
      tell = tell-took e w p pages class now.tell;
      size = size ∙ now.size;
      by = now.by;
    }

-- a Give of an old life of which nothing is allocated, with its line and its entry
pub shows-give : (region goal : ℕ) (c : CoreState) (e : CycleSoFar) (w : ℕ) (life told : Life) → ShowsCycle region goal c e → IsJournal region goal (Give e.cycle life.page life.pages ∷ past_after e) → In life (open_lives (past_after e)) → In told e.known → told.page ≡ life.page
    → life.number < length e.before → slice_index c.words life.page ≡ c.generation
    → 4 ≤ c.generation → life.page < length c.words → allocated_at c life.page ≡ [] → begins life.page (drop_life life.page c.lives) ≡ false → is_swept_last life.page (e.logs w) ≡ true
    → ((q k : ℕ) → waits_of c q ≡ true → marks_of (after_give c w life.page) q k ≡ marks_of c q k) → ((v q : ℕ) → q ≢ life.page → has_of c v q → has_of (after_give c w life.page) v q)
    → length (after_give c w life.page).words ≡ length c.words → ShowsCycle region goal (after_give c w life.page) (after_gave e w life.page life.pages)
shows-give region goal c e w life told now legal here told-in told-page old word low inside none gone mine marks keeps size =
    let new = after_give c w life.page in
    let settled : waits_of c life.page ≡ false = settled-word c.generation (slice_index c.words life.page) low (inr (inl word)) in
    let empty : (k : ℕ) → e.bits life.page k ≡ false = λ k. now.bits life.page k ∙ ap (λ (xs : List ℕ). has k xs) none in
    let gave = give-adds region goal e (waits_of c) life told now.under record { legal = legal; here = here; old = old; swept = settled; empty = empty } told-in told-page in
    let x : Entry = Gave life.page life.pages in
    let logs : ℕ → List Entry = put e.logs w (x ∷ e.logs w) in
    let told : IsUnderway region goal (after_gave e w life.page life.pages) (waits_of c) = underway-logs region goal (with_known (after_line e (Give e.cycle life.page life.pages)) (others life.page e.known)) (waits_of c) logs gave
    (filter-more placings e.logs w x refl) (filter-more sweepings e.logs w x refl) (filter-more refusals e.logs w x refl) in
    let waits : (q : ℕ) → waits_of (after_give c w life.page) q ≡ waits_of c q = λ q. give-waits c w life.page low inside word q in
    record {
      under = underway-alike region goal (after_gave e w life.page life.pages) (waits_of c) (waits_of (after_give c w life.page)) e.bits told (λ q k. refl) waits;
      bits = λ q k. now.bits q k ∙ sym (give-bits c w life.page none gone q k);
      marks = λ q k is. (let was : waits_of c q ≡ true = sym (waits q) ∙ is in marks q k was ∙ now.marks q k was);
      lives = give-shown c e.known w life.page gone now.lives;
      room = λ v b j h' lt off. (
          let h : In b (placings (e.logs v)) = subst (λ (l : List Placing). In b l) (filter-more placings e.logs w x refl v) h' in
          elim (cases_eq b.page life.page) [
            | inl same ↦ (
                let on = now.under.holds.placed v b h in
                let off' : e.bits b.page b.index ≡ false = ap (λ (p : ℕ). e.bits p b.index) same ∙ empty b.index in
                let nothing : ⊥ = cc in
                absurd nothing)
            | inr other ↦ keeps v b.page other (now.room v b j h lt off)
          ]);
      tell = tell-gave region goal e (waits_of c) w life.page life.pages now.under mine now.tell;
      size = size ∙ now.size;
      by = now.by;
    }

-- a state with the same words and lives, and a cycle with the same bits, marks and known lives, in which the same was placed
moved : (region goal : ℕ) (c new : CoreState) (e : CycleSoFar) → ShowsCycle region goal c e → new.words ≡ c.words → new.lives ≡ c.lives → new.generation ≡ c.generation → ((v q : ℕ) → has_of c v q → has_of new v q)
    → (next : CycleSoFar) → IsUnderway region goal next (waits_of c) → next.bits ≡ e.bits → ((v : ℕ) → placings (next.logs v) ≡ placings (e.logs v)) → next.known ≡ e.known → LogsTell next → next.marks ≡ e.marks
    → next.cycle ≡ e.cycle → next.before ≡ e.before → ShowsCycle region goal new next
moved region goal c new e now words lives generation gains next under bits placed known tell marks cycle before =
    let waits : (p : ℕ) → waits_of new p ≡ waits_of c p = λ p. ap (λ (g : ℕ). is_waiting g (slice_index new.words p)) generation ∙ ap (λ (ws : List ℕ). is_waiting c.generation (slice_index ws p)) words in
    record {
      under = underway-alike region goal next (waits_of c) (waits_of new) next.bits under (λ p k. refl) waits;
      bits = λ p k. ap (λ (f : ℕ → ℕ → Bool). f p k) bits ∙ now.bits p k ∙ ap (λ (ls : List LifeState). has k (life_in p ls).allocated) (sym lives);
      marks = λ p k is. ap (λ (ls : List LifeState). has k (life_in p ls).kept) lives ∙ now.marks p k (sym (waits p) ∙ is) ∙ ap (λ (f : ℕ → ℕ → Bool). f p k) (sym marks);
      lives = record {
        begin = λ p. ap (begins p) lives ∙ now.lives.begin p ∙ ap (begins_at p) (sym known);
        same = λ life h. (
            let was = now.lives.same life (subst (λ (l : List Life). In life l) known h) in
            let is : life_in life.page new.lives ≡ life_in life.page c.lives = ap (life_in life.page) lives in
            record { pages = ap (λ (l : LifeState). l.pages) is ∙ was.pages; class = ap (λ (l : LifeState). l.class) is ∙ was.class; count = ap (λ (l : LifeState). l.count) is ∙ was.count });
      };
      room = λ v b j h lt off. gains v b.page (now.room v b j (subst (λ (l : List Placing). In b l) (placed v) h) lt (ap (λ (f : ℕ → ℕ → Bool). f b.page j) (sym bits) ∙ off));
      tell = tell;
      size = ap length words ∙ now.size;
      by = rw (cycle, before) now.by;
    }

-- a block is pulled, with its line and its entry
pub shows-pull : (region goal : ℕ) (c new : CoreState) (e : CycleSoFar) (w page pages : ℕ) → ShowsCycle region goal c e → IsJournal region goal (Pull e.cycle w page pages ∷ past_after e)
    → new.words ≡ c.words → new.lives ≡ c.lives → new.generation ≡ c.generation → ((v q : ℕ) → has_of c v q → has_of new v q) → ShowsCycle region goal new (after_pulled e w page pages)
shows-pull region goal c new e w page pages now legal words lives generation gains =
    let x : Entry = Pulled (length (past_after e)) (Pull e.cycle w page pages) in
    let logs : ℕ → List Entry = put e.logs w (x ∷ e.logs w) in
    let told : IsUnderway region goal (after_pulled e w page pages) (waits_of c) = underway-logs region goal (after_line e (Pull e.cycle w page pages)) (waits_of c) logs
    (pull-adds region goal e (waits_of c) w page pages now.under legal) (filter-more placings e.logs w x refl) (filter-more sweepings e.logs w x refl) (filter-more refusals e.logs w x refl) in
    moved region goal c new e now words lives generation gains (after_pulled e w page pages) told refl (λ v. filter-more placings e.logs w x refl v) refl (tell-pulled e w page pages now.tell) refl refl refl

-- a block is settled, with its lines and its entry
pub shows-settle : (region goal : ℕ) (c new : CoreState) (e : CycleSoFar) (w : ℕ) (b : OutBlock) → ShowsCycle region goal c e → IsJournal region goal (settled_lines e.cycle w (Some b) ++ past_after e)
    → new.words ≡ c.words → new.lives ≡ c.lives → new.generation ≡ c.generation → ((v q : ℕ) → has_of c v q → has_of new v q) → ShowsCycle region goal new (after_settled e w b)
shows-settle region goal c new e w b now legal words lives generation gains =
    let x : Entry = Settled (length b.cuts + length (past_after e)) in
    let logs : ℕ → List Entry = put e.logs w (x ∷ e.logs w) in
    let told : IsUnderway region goal (after_settled e w b) (waits_of c) = underway-logs region goal (with_lines e (settled_lines e.cycle w (Some b) ++ e.lines)) (waits_of c) logs
    (settle-adds region goal e (waits_of c) w b now.under legal) (filter-more placings e.logs w x refl) (filter-more sweepings e.logs w x refl) (filter-more refusals e.logs w x refl) in
    moved region goal c new e now words lives generation gains (after_settled e w b) told refl (λ v. filter-more placings e.logs w x refl v) refl (tell-settled e w b now.tell) refl refl refl

-- a span is cut out of a block, with its entry
pub shows-cut : (region goal : ℕ) (c : CoreState) (e : CycleSoFar) (w n p pages count class : ℕ) → ShowsCycle region goal c e → begins_at p e.known ≡ false → 4 ≤ c.generation → p < length c.words → slice_index c.words p ≡ 0
    → ((k : ℕ) → bits_of c p k ≡ false) → ((q k : ℕ) → waits_of c q ≡ true → marks_of (after_cut c w p pages count class) q k ≡ marks_of c q k) → ((v q : ℕ) → has_of c v q → has_of (after_cut c w p pages count class) v q)
    → LivesShown (after_cut c w p pages count class) (life_of n e.cycle p pages class ∷ e.known) → ShowsCycle region goal (after_cut c w p pages count class) (after_cut_out e w n p pages class)
shows-cut region goal c e w n p pages count class now new low inside word none marks gains lives =
    let x : Entry = CutEntry p pages class in
    let logs : ℕ → List Entry = put e.logs w (x ∷ e.logs w) in
    let grown = life-known region goal e (waits_of c) (life_of n e.cycle p pages class) now.under (λ k. now.bits p k ∙ none k) new in
    let told : IsUnderway region goal (after_cut_out e w n p pages class) (waits_of c) = underway-logs region goal (with_known e (life_of n e.cycle p pages class ∷ e.known)) (waits_of c) logs grown
    (filter-more placings e.logs w x refl) (filter-more sweepings e.logs w x refl) (filter-more refusals e.logs w x refl) in
    let waits : (q : ℕ) → waits_of (after_cut c w p pages count class) q ≡ waits_of c q = λ q. take-waits c w p pages count class low inside word q in
    record {
      under = underway-alike region goal (after_cut_out e w n p pages class) (waits_of c) (waits_of (after_cut c w p pages count class)) e.bits told (λ q k. refl) waits;
      bits = λ q k. now.bits q k ∙ sym (take-bits c w p pages count class q k);
      marks = λ q k is. (let was : waits_of c q ≡ true = sym (waits q) ∙ is in marks q k was ∙ now.marks q k was);
      lives = lives;
      room = λ v b j h lt off. gains v b.page (now.room v b j (subst (λ (l : List Placing). In b l) (filter-more placings e.logs w x refl v) h) lt off);
      tell = tell-cut e w n p pages class now.tell;
      size = length-set c.words p c.generation ∙ now.size;
      by = now.by;
    }
