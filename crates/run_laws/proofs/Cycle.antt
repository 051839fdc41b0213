-- A cycle at once keeps a run and its notes.
use Rattle.std.proofs.Common.{◌≡◌, ◌≢◌, ℕ, suc, ◌-◌, ◌<◌, ◌≤◌, true, List, [], ◌∷◌, ◌++◌, refl, sym, ◌∙◌, arith, inl, inr}
use Rattle.std.proofs.lemmas.Bool.{cases_lt}
use Rattle.page_bitmap.specs.declared.line.Line.{Line}
use Rattle.page_alloc.specs.Lists.{In}
use Rattle.page_alloc.specs.Lives.{Life, open_lives}
use Rattle.page_alloc.specs.Journal.{at_end, IsBy}
use Rattle.span_state.specs.declared.sweep.SweepNote.{SweepNote}
use Rattle.cycle_history.specs.Requests.{Marking}
use Rattle.cycle_history.specs.Objects.{Object, is_placed, live, IsHeld, kept}
use Rattle.cycle_history.specs.Orders.{IsSweepBefore}
use Rattle.cycle_history.specs.Rules.{AreFilled}
use Rattle.cycle_history.specs.Sweeps.{IsNote}
use Rattle.sound_run.specs.Run.{Lasts, HasSeat, IsRun}
use Rattle.sound_run.specs.Notes.{IsDone, HasNotes}
use Rattle.sound_run.proofs.Live.{at_end-now, by-later, live-placed, live-cases, live-after, live-before}
use Rattle.sound_run.proofs.Counts.{unmarked, kept-same, note-same, kept-counts}
use Rattle.run_laws.specs.Cycle.{IsCycle, AreNotes}
use Rattle.run_laws.proofs.Lists.{in-right, in-cases, apart-append, apart-map}
use Rattle.run_laws.proofs.Lines.{at_end-lines, by-lines, not_given}

-- ---- what earlier mark ends counted stays

pub notes-same : (marked : Marking) (c m : ℕ) (news objects : List Object) (life : Life) (note : SweepNote) → ((o : Object) → In o news → o.cycle ≡ c) → ((o : Object) → In o news → Lasts marked o) → m < c
    → IsNote marked objects (suc m) life note → IsNote marked (news ++ objects) (suc m) life note
notes-same marked c m [] objects life note now lasts lt is = is
notes-same marked c m (o ∷ news) objects life note now lasts lt is =
    let e = now o (inl refl) in
    note-same marked o (news ++ objects) m life note (lasts o (inl refl)) (omega arith) (notes-same marked c m news objects life note (λ x h. now x (inr h)) (λ x h. lasts x (inr h)) lt is)

pub kepts-same : (marked : Marking) (c m n : ℕ) (news objects : List Object) → ((o : Object) → In o news → o.cycle ≡ c) → ((o : Object) → In o news → Lasts marked o) → m ≤ c
    → kept marked (news ++ objects) m n ≡ kept marked objects m n
kepts-same marked c m n [] objects now lasts le = refl
kepts-same marked c m n (o ∷ news) objects now lasts le =
    let e = now o (inl refl) in
    kept-same marked o (news ++ objects) m n (unmarked marked o m (lasts o (inl refl)) (omega arith)) ∙ kepts-same marked c m n news objects (λ x h. now x (inr h)) (λ x h. lasts x (inr h)) le

held-news : (marked : Marking) (news objects : List Object) (c before n k : ℕ) → IsHeld marked objects c before n k → IsHeld marked (news ++ objects) c before n k
held-news marked news objects c before n k h = (h.0, in-right news objects h.0 h.1, h.2)

-- ---- the run

cycle-filled : (marked : Marking) (region goal c : ℕ) (past : List Line) (objects : List Object) (lines : List Line) (news : List Object)
    → IsRun marked region goal c past objects → IsCycle marked region goal c past objects lines news → AreFilled marked (news ++ objects)
cycle-filled marked region goal c past objects lines news run all = record {
  one_processor = λ a b ha hb sa sb cycle life. elim (in-cases news objects a ha) [
    | inl a-new ↦ elim (in-cases news objects b hb) [
      | inl b-new ↦ all.one_processor a b a-new b-new sa sb life
      | inr b-old ↦ (let e = all.now a a-new in let lt = all.older b b-old in absurd (omega arith))
    ]
    | inr a-old ↦ elim (in-cases news objects b hb) [
      | inl b-new ↦ (let e = all.now b b-new in let lt = all.older a a-old in absurd (omega arith))
      | inr b-old ↦ run.filling.one_processor a b a-old b-old sa sb cycle life
    ]
  ];
  no_gap = λ o h so j lt. elim (in-cases news objects o h) [
    | inl new ↦ (let e = all.now o new in rw e (all.no_gap o new so j lt))
    | inr old ↦ held-news marked news objects o.cycle o.id o.life j (run.filling.no_gap o old so j lt)
  ];
  full_first = λ a b ha hb sa sb cycle proc class before life j lt. elim (in-cases news objects a ha) [
    | inl a-new ↦ elim (in-cases news objects b hb) [
      | inl b-new ↦ (let e = all.now a a-new in rw e (all.full_first a b a-new b-new sa sb proc class before life j lt))
      | inr b-old ↦ (let e = all.now a a-new in let less = all.older b b-old in absurd (omega arith))
    ]
    | inr a-old ↦ elim (in-cases news objects b hb) [
      | inl b-new ↦ (let e = all.now b b-new in let less = all.older a a-old in absurd (omega arith))
      | inr b-old ↦ held-news marked news objects a.cycle b.id a.life j (run.filling.full_first a b a-old b-old sa sb cycle proc class before life j lt)
    ]
  ];
}

cycle-seats : (marked : Marking) (region goal c : ℕ) (past : List Line) (objects : List Object) (lines : List Line) (news : List Object)
    → IsRun marked region goal c past objects → IsCycle marked region goal c past objects lines news
    → (o : Object) → In o (news ++ objects) → is_placed o.answer ≡ true → (life : Life) × HasSeat marked (lines ++ past) o life
cycle-seats marked region goal c past objects lines news run all o h placed =
    let by = by-lines c lines past all.lines_now run.by in
    elim (in-cases news objects o h) [
      | inl new ↦ (
          let seat = all.seats o new placed in
          let e = all.now o new in (
            seat.0,
            record {
              number = seat.1.number;
              sits = seat.1.sits;
              stays = λ m lives. (
                  let late = live-after marked o m (all.lasts o new) lives in
                  rw (at_end-now m (lines ++ past) (by-later c m (lines ++ past) (omega arith) by)) seat.1.open_life);
            },
          ))
      | inr old ↦ (
          let seat = run.seats o old placed in (
            seat.0,
            record {
              number = seat.1.number;
              sits = seat.1.sits;
              stays = λ m lives. elim (cases_lt m c) [
                | inl lt ↦ rw (at_end-lines c m lines past all.lines_now lt) (seat.1.stays m lives)
                | inr ge ↦ (
                    let now = live-before marked o c m (run.lasts o old) (run.cycles o old) ge lives in
                    let was : In seat.0 (open_lives past) = rw (at_end-now m past (by-later c m past ge run.by)) at (seat.1.stays m lives) in
                    let some : 1 ≤ kept marked (news ++ objects) c seat.0.number = elim (live-cases marked c o now) [
                      | inl same ↦ (let lt = all.older o old in absurd (omega arith))
                      | inr mark ↦ kept-counts marked o (news ++ objects) c seat.0.number h placed (sym seat.1.number) mark
                    ] in
                    rw (at_end-now m (lines ++ past) (by-later c m (lines ++ past) ge by))
                    (not_given marked c (news ++ objects) lines past seat.0 all.lines_now all.gives was some))
              ];
            },
          ))
    ]

cycle-distinct : (marked : Marking) (region goal c : ℕ) (past : List Line) (objects : List Object) (lines : List Line) (news : List Object)
    → IsRun marked region goal c past objects → IsCycle marked region goal c past objects lines news
    → (m : ℕ) (a b : Object) → In a (news ++ objects) → In b (news ++ objects) → a.id ≢ b.id → live marked m a ≡ true → live marked m b ≡ true → a.life ≡ b.life → a.index ≢ b.index
cycle-distinct marked region goal c past objects lines news run all m a b ha hb ne la lb life =
    let old_marked : (n o : Object) → In n news → In o objects → live marked m n ≡ true → live marked m o ≡ true → marked c o.id ≡ true = λ n o hn ho ln lo. (
    let e = all.now n hn in
    let late = live-after marked n m (all.lasts n hn) ln in
    let now = live-before marked o c m (run.lasts o ho) (run.cycles o ho) (omega arith) lo in
    elim (live-cases marked c o now) [
      | inl same ↦ (let lt = all.older o ho in absurd (omega arith))
      | inr mark ↦ mark
    ]) in
    let pa = live-placed marked m a la in
    let pb = live-placed marked m b lb in
    elim (in-cases news objects a ha) [
      | inl a-new ↦ elim (in-cases news objects b hb) [
        | inl b-new ↦ all.apart_new a b a-new b-new pa pb ne life
        | inr b-old ↦ all.apart_old a b a-new b-old pa pb (old_marked a b a-new b-old la lb) life
      ]
      | inr a-old ↦ elim (in-cases news objects b hb) [
        | inl b-new ↦ (λ e. all.apart_old b a b-new a-old pb pa (old_marked b a b-new a-old lb la) (sym life) (sym e))
        | inr b-old ↦ run.distinct m a b a-old b-old ne la lb life
      ]
    ]

pub cycle-keeps : (marked : Marking) (region goal c : ℕ) (past : List Line) (objects : List Object) (lines : List Line) (news : List Object)
    → IsRun marked region goal c past objects → IsCycle marked region goal c past objects lines news → IsRun marked region goal c (lines ++ past) (news ++ objects)
cycle-keeps marked region goal c past objects lines news run all = record {
  journal = all.journal;
  by = by-lines c lines past all.lines_now run.by;
  cycles = λ o h. elim (in-cases news objects o h) [ inl new ↦ (let e = all.now o new in omega arith) | inr old ↦ run.cycles o old ];
  lasts = λ o h. elim (in-cases news objects o h) [ inl new ↦ all.lasts o new | inr old ↦ run.lasts o old ];
  fits = λ o h placed. elim (in-cases news objects o h) [ inl new ↦ all.fits o new placed | inr old ↦ run.fits o old placed ];
  seats = cycle-seats marked region goal c past objects lines news run all;
  distinct = cycle-distinct marked region goal c past objects lines news run all;
  misses = all.misses;
  filling = cycle-filled marked region goal c past objects lines news run all;
}

-- ---- the notes

-- a life that was done before the cycle
done-before : (marked : Marking) (region goal c m : ℕ) (past : List Line) (objects : List Object) (lines : List Line) (news : List Object) (notes news_notes : List SweepNote) (life : Life)
    → IsCycle marked region goal c past objects lines news → suc m < c → IsDone marked past objects notes m life → IsDone marked (lines ++ past) (news ++ objects) (news_notes ++ notes) m life
done-before marked region goal c m past objects lines news notes news_notes life all lt done =
    let same : kept marked (news ++ objects) (suc m) life.number ≡ kept marked objects (suc m) life.number = kepts-same marked c (suc m) life.number news objects all.now all.lasts (omega arith) in
    record {
      note = (done.note.0, in-right news_notes notes done.note.0 done.note.1, notes-same marked c m news objects life done.note.0 all.now all.lasts (omega arith) done.note.2);
      empty = λ none. elim (done.empty (sym same ∙ none)) [
        | inl gone ↦ inl (λ there. gone (rw (at_end-lines c (suc m) lines past all.lines_now lt) at there))
        | inr again ↦ inr (again.0, in-right news objects again.0 again.1, again.2, again.3, again.4)
      ];
    }

pub cycle-noted : (marked : Marking) (region goal c : ℕ) (past : List Line) (objects : List Object) (lines : List Line) (news : List Object) (notes old : List SweepNote)
    → ((m : ℕ) → c ≡ suc m → IsBy m past) → ((note : SweepNote) → In note old → note.cycle < c)
    → IsCycle marked region goal c past objects lines news → AreNotes marked c past objects lines news notes (notes ++ old) → HasNotes marked c (c - 1) past objects old
    → HasNotes marked c c (lines ++ past) (news ++ objects) (notes ++ old)
cycle-noted marked region goal c past objects lines news notes old by older all are has = record {
  early = omega arith;
  noted = λ note h. elim (in-cases notes old note h) [
    | inl new ↦ (
        let is = are.right note new in
        let here : at_end is.0 (lines ++ past) ≡ past = at_end-lines c is.0 lines past all.lines_now (let e = is.2 in omega arith) ∙ at_end-now is.0 past (by is.0 is.2) in
        (is.0, is.1, record { early = (let e = is.2 in omega arith); alive = rw here is.3; right = rw (sym is.2) is.4 }))
    | inr was ↦ (
        let is = has.noted note was in (
          is.0,
          is.1,
          record {
            early = is.2.early;
            alive = rw (at_end-lines c is.0 lines past all.lines_now is.2.early) is.2.alive;
            right = notes-same marked c is.0 news objects is.1 note all.now all.lasts is.2.early is.2.right;
          },
        ))
  ];
  done = λ m lt life h. elim (cases_lt m (c - 1)) [
    | inl less ↦ (
        let h' : In life (open_lives (at_end m past)) = rw (at_end-lines c m lines past all.lines_now lt) at h in
        done-before marked region goal c m past objects lines news old notes life all (omega arith) (has.done m less life h'))
    | inr last ↦ are.done m (omega arith) life h
  ];
  gives = all.gives;
  order = apart-append (λ (newer older : SweepNote). IsSweepBefore older newer) notes old
      (apart-map (λ (newer older : SweepNote). older.page < newer.page) (λ (newer older : SweepNote). IsSweepBefore older newer) notes (λ x y hx hy lt. (
      let ex = (are.right x hx).4.cycle in
      let ey = (are.right y hy).4.cycle in
      inr (ey ∙ sym ex, lt))) are.order)
      has.order
      (λ x y hx hy. (let ex = (are.right x hx).4.cycle in let lt = older y hy in inl (omega arith)));
}
