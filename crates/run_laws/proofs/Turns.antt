-- The cycle under way as logs grow by what the laws don't look at, at a line without a move, at a mark end, and as it ends.
use Rattle.std.proofs.Common.{◌≡◌, ℕ, zero, suc, ◌+◌, ◌≤◌, inl, inr, true, false, not, eqb, List, [], ◌∷◌, length, map, refl, sym, ◌∙◌, ap, subst, arith}
use Rattle.std.specs.Prelude.{Option, Some, None, slice_index}
use Rattle.std.specs.List.{find}
use Rattle.std.proofs.lemmas.Bool.{cases_eq, cases_lt, cases_Bool, eq-eqb, ne_eqb}
use Rattle.page_bitmap.specs.declared.line.Line.{Line}
use Rattle.page_bitmap.specs.declared.line.Line.TheVariants.{Miss, Scav}
use Rattle.page_alloc.specs.Lists.{In}
use Rattle.page_alloc.specs.Lives.{open_lives}
use Rattle.page_alloc.specs.Journal.{IsBy}
use Rattle.sound_run.specs.Run.{IsJournal}
use Rattle.span_state.specs.declared.sweep.SweepNote.{SweepNote}
use Rattle.cycle_history.specs.Requests.{Marking}
use Rattle.cycle_history.specs.Objects.{Object}
use Rattle.cycle_history.specs.Sound.{IsScavenged}
use Rattle.sweep_laws.specs.Lists.{has}
use Rattle.sweep_laws.specs.Named.{begins}
use Rattle.sweep_laws.specs.Reading.{life_in}
use Rattle.sweep_laws.specs.NeedsOfRange.{refusal}
use Rattle.sweep_laws.specs.Needs.{next_needs}
use Rattle.sweep_laws.specs.ChangesOfLives.{marks_at, mark_life}
use Rattle.sweep_laws.specs.Changes.{after_next}
use Rattle.sweep_laws.specs.Owned.{Owned}
use Rattle.sweep_laws.specs.State.{LifeState, CoreState}
use Rattle.sweep_laws.proofs.Forms.{kept_of}
use Rattle.sweep_laws.proofs.Lives.{mapped_alike, alike_begins}
use Rattle.sweep_laws.proofs.LivesChange.{life_page}
use Rattle.sweep_laws.proofs.MovesKept.{settled_words}
use Rattle.sweep_laws.proofs.NeedsMet.{all_met, both, not_true, not_false, no_position, empty_list}
use Rattle.worker_log.specs.declared.Entry.{Entry}
use Rattle.worker_log.specs.Logs.{placings}
use Rattle.worker_log.specs.declared.Placing.{Placing}
use Rattle.worker_log.proofs.Logs.{LookAlike}
use Rattle.run_laws.specs.Lists.{begins_at}
use Rattle.run_laws.specs.CycleSoFar.{CycleSoFar, past_after, with_objects}
use Rattle.run_laws.specs.SweepFacts.{Notes}
use Rattle.run_laws.specs.ObjectFacts.{Objects}
use Rattle.run_laws.specs.Facts.{Marks, Facts}
use Rattle.run_laws.specs.Occupied.{IsSettled, NamedHaveSome}
use Rattle.run_laws.specs.Underway.{IsFresh}
use Rattle.run_laws.specs.Steps.{with_logs, after_line, after_missed}
use Rattle.run_laws.specs.Shown.{waits_of, LivesShown}
use Rattle.run_laws.specs.ShowsCycle.{ShowsCycle, has_mark, after_mark_end}
use Rattle.run_laws.proofs.Lines.{by-lines, page-there}
use Rattle.run_laws.proofs.Shown.{next-waits}
use Rattle.run_laws.specs.Blocks.{out_of}
use Rattle.run_laws.specs.ShowsBlocks.{ShowsBlocks}
use Rattle.run_laws.proofs.CoreEnded.{shown-begins, core-ended, journal-begins}
use Rattle.run_laws.proofs.Steps.{HasEnded, scav-adds, fresh-underway}
use Rattle.run_laws.proofs.Tell.{tell-missed, tell-scav, tell-logs, underway-logs, missed-keeps, filter-more}
use Rattle.run_laws.proofs.Whole.{underway-alike, underway-facts}

module _ (region goal : ℕ) (c : CoreState) (e : CycleSoFar) (now : ShowsCycle region goal c e) (blocks : ShowsBlocks c e) where
  -- the logs grow by what the laws don't look at
  pub logs-show : (logs : ℕ → List Entry) → ((w : ℕ) → LookAlike (logs w) (e.logs w)) → ShowsCycle region goal c (with_logs e logs)
  logs-show logs alike = record {
    under = underway-logs region goal e (waits_of c) logs now.under (λ w. (alike w).placed) (λ w. (alike w).swept) (λ w. (alike w).refused);
    bits = now.bits;
    marks = now.marks;
    lives = now.lives;
    room = λ v b j h lt off. now.room v b j (subst (λ (l : List Placing). In b l) (alike v).placed h) lt off;
    tell = tell-logs e logs alike now.tell;
    size = now.size;
    by = now.by;
  }

  -- no run of pages is free
  pub missed-shows : (w pages class : ℕ) → IsJournal region goal (Miss e.cycle pages class ∷ past_after e) → ShowsCycle region goal c (after_missed e w pages class)
  missed-shows w pages class legal = record {
    under = missed-keeps region goal e (waits_of c) w pages class now.under legal;
    bits = now.bits;
    marks = now.marks;
    lives = record { begin = now.lives.begin; same = now.lives.same };
    room = λ v b j h lt off. now.room v b j (subst (λ (l : List Placing). In b l) (filter-more placings e.logs w _ refl v) h) lt off;
    tell = tell-missed e w pages class now.tell;
    size = now.size;
    by = now.by;
  }

  -- pages are scavenged
  pub scav-shows : (page pages : ℕ) → IsJournal region goal (Scav e.cycle page pages ∷ past_after e) → ShowsCycle region goal c (after_line e (Scav e.cycle page pages))
  scav-shows page pages legal = record {
    under = scav-adds region goal e (waits_of c) page pages now.under legal;
    bits = now.bits;
    marks = now.marks;
    lives = record { begin = now.lives.begin; same = now.lives.same };
    room = now.room;
    tell = tell-scav e page pages now.tell;
    size = now.size;
    by = now.by;
  }

  -- ---- the end

  module _ (none_out : (w : ℕ) → out_of (e.logs w) ≡ None) (o : Owned c) (marks : List (ℕ × ℕ)) (met : refusal (next_needs c marks) ≡ None) where
    pub next-settled : IsSettled c
    next-settled =
        let m = all_met (next_needs c marks) met in
        record {
          words = settled_words c (kept_of c o) marks met;
          no_held = λ n h at. (let i = no_position _ c.hands (not_true _ m.1.1.1.0) n h at in let j = both _ _ (not_false _ i) in let l = both _ _ j.1 in empty_list h.held l.0);
        }

    -- where a mark end may come, the cycle has ended
    pub shows-ended : NamedHaveSome c → HasEnded e (waits_of c)
    shows-ended named = core-ended region goal e c now.under.writes.legal now.size (kept_of c o).generation.low now.lives now.bits blocks none_out o next-settled named

    -- ---- the mark end

    in-journal : (p : ℕ) → begins p c.lives ≡ true → begins_at p (open_lives (past_after e)) ≡ true
    in-journal p on = journal-begins c e blocks none_out p on

    -- workers know the lives of the journal
    journal-known : (p : ℕ) → begins_at p e.known ≡ begins_at p (open_lives (past_after e))
    journal-known p = elim (cases_Bool (begins_at p (open_lives (past_after e)))) [
      | inl there ↦ (
          let at = page-there p (open_lives (past_after e)) there in
          sym (now.lives.begin p) ∙ subst (λ (q : ℕ). begins q c.lives ≡ true) at.2 (blocks.lives at.0 at.1).0 ∙ sym there)
      | inr isnt ↦ elim (cases_Bool (begins_at p e.known)) [
        | inl is ↦ (let on = in-journal p (now.lives.begin p ∙ is) in let nothing : ⊥ = cc in absurd nothing)
        | inr off ↦ off ∙ sym isnt
      ]
    ]

    life-mapped : (q : ℕ) (ls : List LifeState) → begins q ls ≡ true → life_in q (map (mark_life marks) ls) ≡ mark_life marks (life_in q ls)
    life-mapped q [] is = let none : ⊥ = cc in absurd none
    life-mapped q (l ∷ ls) is = elim (cases_Bool (eqb l.page q)) [
      | inl on ↦ rw on refl
      | inr off ↦ (let is' : begins q ls ≡ true = rw off at is in rw off (life-mapped q ls is'))
    ]

    allocated-mapped : (q : ℕ) (ls : List LifeState) → (life_in q (map (mark_life marks) ls)).allocated ≡ (life_in q ls).allocated
    allocated-mapped q [] = refl
    allocated-mapped q (l ∷ ls) = elim (cases_Bool (eqb l.page q)) [ inl on ↦ rw on refl | inr off ↦ rw off (allocated-mapped q ls) ]

    waits-next : (p : ℕ) → waits_of (after_next c marks) p ≡ begins p c.lives
    waits-next p = elim (cases_lt p (length c.words)) [
      | inl lt ↦ next-waits c.generation (slice_index c.words p) (kept_of c o).generation.low (settled_words c (kept_of c o) marks met p lt) ∙ sym ((kept_of c o).lives_fit.begin p lt)
      | inr out ↦ (
          let none : slice_index c.words p ≡ 0 = beyond c.words p out in
          next-waits c.generation (slice_index c.words p) (kept_of c o).generation.low (inl none) ∙ ap not (eq-eqb (slice_index c.words p) 0 none) ∙ sym (no_life_beyond p out))
    ]
      where
        beyond : (ws : List ℕ) (p : ℕ) → length ws ≤ p → slice_index ws p ≡ 0
        beyond [] p le = refl
        beyond (x ∷ ws) zero le = absurd (omega arith)
        beyond (x ∷ ws) (suc p) le = beyond ws p (omega arith)

        no_life_beyond : (p : ℕ) → length c.words ≤ p → begins p c.lives ≡ false
        no_life_beyond p out = elim (cases_Bool (begins p c.lives)) [
          | inl on ↦ (
              let there = page-there p (open_lives (past_after e)) (in-journal p on) in
              let lie = Rattle.sound_run.proofs.Journals.lies region goal (past_after e) there.0 now.under.writes.legal there.1 in
              let a = lie.0 in
              let b = lie.1 in
              let s = now.size in
              let page = there.2 in
              absurd (omega arith))
          | inr off ↦ off
        ]

    next-lives : LivesShown (after_next c marks) e.known
    next-lives = record {
      begin = λ p. sym (alike_begins p c.lives (map (mark_life marks) c.lives) (mapped_alike (mark_life marks) (λ l. record { page = refl; pages = refl; class = refl }) c.lives)) ∙ now.lives.begin p;
      same = λ life h. (
          let was = now.lives.same life h in
          let is : life_in life.page (map (mark_life marks) c.lives) ≡ mark_life marks (life_in life.page c.lives) = life-mapped life.page c.lives (shown-begins c e.known life now.lives h) in
          record {
            pages = ap (λ (l : LifeState). l.pages) is ∙ was.pages;
            class = ap (λ (l : LifeState). l.class) is ∙ was.class;
            count = ap (λ (l : LifeState). l.count) is ∙ was.count;
          });
    }

    -- a marked page is the first page of a life
    mark-there : (p k : ℕ) → has_mark marks p k ≡ true → begins p c.lives ≡ true
    mark-there p k on = elim (cases_Bool (begins p c.lives)) [
      | inl is ↦ is
      | inr isnt ↦ (
          let m = all_met (next_needs c marks) met in
          let allocated = marks-name (not_true _ m.1.1.1.1.1.1.1.1.0) on in
          let none = Rattle.run_laws.proofs.Shown.absent-life p c.lives isnt in
          let empty : has k (life_in p c.lives).allocated ≡ false = ap (λ (l : LifeState). has k l.allocated) none in
          let nothing : ⊥ = cc in
          absurd nothing)
    ]
      where
        marks-name : Rattle.std.specs.Option.is_some (Rattle.sweep_laws.specs.NeedsOfMarkEnd.wrong_mark c marks) ≡ false → has k (marks_at p marks) ≡ true → has k (life_in p c.lives).allocated ≡ true
        marks-name none h = named marks (no-wrong marks (Rattle.sweep_laws.proofs.NeedsMet.none_there _ none)) h
          where
            no-wrong : (ms : List (ℕ × ℕ)) → Rattle.std.specs.Prelude.option_map (λ (mark : ℕ × ℕ). mark.1) (find (λ mark. not (Rattle.sweep_laws.specs.NeedsOfMarkEnd.is_allocated c mark)) ms) ≡ None
                → find (λ mark. not (Rattle.sweep_laws.specs.NeedsOfMarkEnd.is_allocated c mark)) ms ≡ None
            no-wrong ms f = go (find (λ mark. not (Rattle.sweep_laws.specs.NeedsOfMarkEnd.is_allocated c mark)) ms) f
              where
                go : (x : Option (ℕ × ℕ)) → Rattle.std.specs.Prelude.option_map (λ (mark : ℕ × ℕ). mark.1) x ≡ None → x ≡ None
                go None f = refl
                go (Some y) f = absurd (Rattle.sweep_laws.proofs.NeedsMet.some_none y.1 f)

            named : (ms : List (ℕ × ℕ)) → find (λ mark. not (Rattle.sweep_laws.specs.NeedsOfMarkEnd.is_allocated c mark)) ms ≡ None → has k (marks_at p ms) ≡ true → has k (life_in p c.lives).allocated ≡ true
            named [] f h = let nothing : ⊥ = cc in absurd nothing
            named (m ∷ ms) f h =
                elim (cases_Bool (Rattle.sweep_laws.specs.NeedsOfMarkEnd.is_allocated c m)) [
                  | inr off ↦ (let f' : Some m ≡ None = rw off at f in absurd (Rattle.sweep_laws.proofs.NeedsMet.some_none m f'))
                  | inl on ↦ (
                      let f' : find (λ mark. not (Rattle.sweep_laws.specs.NeedsOfMarkEnd.is_allocated c mark)) ms ≡ None = rw on at f in
                      elim (cases_eq m.0 p) [
                        | inl here ↦ (
                            let h' : has k (m.1 ∷ marks_at p ms) ≡ true = rw (eq-eqb m.0 p here) at h in
                            elim (cases_eq m.1 k) [
                              | inl same ↦ ap (λ (q : ℕ). has k (life_in q c.lives).allocated) (sym here) ∙ ap (λ (j : ℕ). has j (life_in m.0 c.lives).allocated) (sym same) ∙ on
                              | inr other ↦ named ms f' (rw (ne_eqb m.1 k other) at h')
                            ])
                        | inr there ↦ named ms f' (rw (ne_eqb m.0 p there) at h)
                      ])
                ]

    -- the next cycle begins: all open lives wait, nothing is written and no entry made
    pub next-shows : ShowsCycle region goal (after_next c marks) (after_mark_end e marks)
    next-shows =
        let new : CycleSoFar = after_mark_end e marks in
        let fresh : IsFresh region goal new = record {
          legal = now.under.writes.legal;
          no_lines = refl;
          known = journal-known;
          no_entries = λ w. refl;
          as_before = λ n k. refl;
          marks_of_lives = λ p k on. (let there = page-there p (open_lives (past_after e)) (in-journal p (mark-there p k on)) in (there.0, there.1, there.2));
        } in
        record {
          under = underway-alike region goal new (λ p. begins_at p (open_lives new.before)) (waits_of (after_next c marks)) new.bits (fresh-underway region goal new fresh) (λ p k. refl) (λ p. waits-next p ∙ now.lives.begin p ∙ journal-known p);
          bits = λ p k. now.bits p k ∙ sym (ap (λ (xs : List ℕ). has k xs) (allocated-mapped p c.lives));
          marks = λ p k is. (
              let begin : begins p c.lives ≡ true = sym (waits-next p) ∙ is in
              ap (λ (l : LifeState). has k l.kept) (life-mapped p c.lives begin) ∙ ap (λ (q : ℕ). has k (marks_at q marks)) (life_page p c.lives begin));
          lives = next-lives;
          room = λ v b j h lt off. absurd h;
          tell = record { old = λ w page on. (let none : ⊥ = cc in absurd none); took = λ w x h. absurd h };
          size = now.size;
          by = later (past_after e) (by-lines e.cycle e.lines e.before now.under.writes.now now.by);
        }
      where
        later : (past : List Line) → IsBy e.cycle past → IsBy (e.cycle + 1) past
        later [] by = tt
        later (line ∷ past) by = omega arith

-- ---- the facts of a cycle

-- where a mark end may come, a cycle under way has its facts with its objects, its notes and the marks of its beginning
pub shows-facts : (marked : Marking) (region goal : ℕ) (objects news : List Object) (notes : List SweepNote) (c : CoreState) (e : CycleSoFar) (marks : List (ℕ × ℕ)) → ShowsCycle region goal c e → ShowsBlocks c e → Owned c
    → refusal (next_needs c marks) ≡ None → ((w : ℕ) → out_of (e.logs w) ≡ None) → NamedHaveSome c → Notes (with_objects e news notes) → Marks marked objects (with_objects e news notes) → Objects marked objects (with_objects e news notes)
    → IsScavenged region goal (past_after e) → Facts marked region goal objects (with_objects e news notes)
shows-facts marked region goal objects news notes c e marks now blocks o met none_out named tells are objects_are scavenged =
    underway-facts marked region goal objects news notes e (waits_of c) now.under (shows-ended region goal c e now blocks none_out o marks met named) tells are objects_are scavenged
