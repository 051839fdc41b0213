-- The law of a cycle: its facts keep a run sound.
use Rattle.std.proofs.Common.{◌≡◌, ◌≢◌, ℕ, suc, ◌+◌, ◌*◌, ◌<◌, ◌≤◌, Bool, true, ◌&&◌, not, eqb, List, [], ◌∷◌, ◌++◌, length, refl, sym, ◌∙◌, ap, arith, ◌⊎◌, inl, inr}
use Rattle.std.proofs.lemmas.Bool.{cases_lt, cases_Bool, and_from, eq-eqb}
use Rattle.page_bitmap.specs.declared.line.Line.{Line}
use Rattle.page_bitmap.specs.declared.line.Line.TheVariants.{Take, Miss, Give, Scav, Pull, Cut, Drop}
use Rattle.page_alloc.specs.Lists.{In, IsNumber}
use Rattle.page_alloc.specs.Lives.{Life, open_lives, all_lives}
use Rattle.page_alloc.specs.Journal.{cycle_of, at_end}
use Rattle.page_alloc.proofs.Lives.{to_others}
use Rattle.span_state.specs.Bits.{count_below}
use Rattle.span_state.specs.declared.sweep.SweepNote.{SweepNote}
use Rattle.cycle_history.specs.declared.Answer.{Answer}
use Rattle.cycle_history.specs.declared.Answer.TheVariants.{Placed, Missed}
use Rattle.cycle_history.specs.Requests.{Marking}
use Rattle.cycle_history.specs.Objects.{Object, is_placed, kept}
use Rattle.cycle_history.specs.Rules.{AreMissed}
use Rattle.cycle_history.specs.Sound.{AllWanted}
use Rattle.cycle_history.specs.Sweeps.{IsNote, IsUsedAgain}
use Rattle.sound_run.specs.Run.{count_for, IsRun}
use Rattle.sound_run.specs.Spans.{AreBits, HasMarkedIndex}
use Rattle.sound_run.proofs.Live.{at_end-now, by-later, live-placed, live-cases, live-of, live-marked}
use Rattle.sound_run.proofs.Counts.{kept-counts}
use Rattle.sound_run.proofs.Seats.{same_number, number-below}
use Rattle.worker_log.specs.declared.Entry.{Entry}
use Rattle.worker_log.specs.declared.Placing.{Placing}
use Rattle.worker_log.specs.declared.Sweeping.{Sweeping}
use Rattle.worker_log.specs.Logs.{Refusal, placings, sweepings, refusals}
use Rattle.run_laws.specs.CycleSoFar.{CycleSoFar, past_after}
use Rattle.run_laws.specs.Cycle.{IsCycle, IsNewSeat, AreNotes}
use Rattle.run_laws.specs.SweepFacts.{TellsOf}
use Rattle.run_laws.specs.ObjectFacts.{IsPlacing, IsRefusal, is_missed, missed_by}
use Rattle.run_laws.specs.Facts.{AreGivesOld, Facts}
use Rattle.cycle_history.specs.Profile.{placed_by}
use Rattle.run_laws.specs.Reached.{Began, Reached}
use Rattle.run_laws.proofs.Lists.{in-left, in-right, in-cases, apart-append, apart-map, apart-pick, number-kept, number-one, in-passing, passing-apart, paired-right, paired-apart}
use Rattle.run_laws.proofs.Lines.{at_end-lines, by-lines, older-by, life-older, longer, has_number, number-there, number-absent}
use Rattle.run_laws.proofs.Cycle.{cycle-keeps, cycle-noted, notes-same}
use Rattle.run_laws.proofs.Here.{one-less, same-old, note-at, cycle-gives, marked-here, object-placing, placed-parts, placing-object, placed-page}
use Rattle.run_laws.proofs.Filling.{log-no_gap, log-full_first, first-taken}

-- ---- seats

-- an object of the cycle sits in a life that is open as the cycle ends
new-seat : (marked : Marking) (region goal : ℕ) (objects : List Object) (e : CycleSoFar) → Facts marked region goal objects e → (o : Object) → In o e.news → is_placed o.answer ≡ true
    → (life : Life) × IsNewSeat (past_after e) o life
new-seat marked region goal objects e facts o h placed =
    let a = object-placing marked region goal objects e facts o h placed in
    let at = facts.places.here o.proc a.0 a.1 in
    let is = a.2 in
    let number : at.0.number ≡ o.life = is.life at.0 at.1 at.2.page in
    let many : o.need.count ≡ count_for a.0.class = (facts.objects_are.fits o h placed).count ∙ ap (λ (n : ℕ). count_for n) is.class in
    let below = facts.places.below o.proc a.0 a.1 in
    let i = is.index in
    let p = at.2.page in (
      at.0,
      record {
        open_life = at.1;
        number = number;
        sits = record {
          class = at.2.class ∙ sym is.class;
          pages = facts.objects_are.pages o at.0 h placed at.1 number;
          index = omega arith;
          address = is.address ∙ ap (λ (n : ℕ). Placed (0xc000000000 + 8192 * n + o.need.slot * a.0.index)) (sym p) ∙ ap (λ (n : ℕ). Placed (0xc000000000 + 8192 * at.0.page + o.need.slot * n)) (sym i);
        };
      },
    )

-- an object that a mark end marks sits in a life that is open as the cycle begins
old-life : (marked : Marking) (region goal c : ℕ) (past : List Line) (objects : List Object) → IsRun marked region goal c past objects → (o : Object) → In o objects → is_placed o.answer ≡ true
    → marked c o.id ≡ true → (life : Life) × In life (open_lives past) × (life.number ≡ o.life)
old-life marked region goal c past objects run o h placed mark =
    let seat = run.seats o h placed in
    let there : In seat.0 (open_lives past) = rw (at_end-now c past run.by) at (seat.1.stays c (live-marked marked c o placed mark)) in
    (seat.0, there, seat.1.number)

-- two objects of the cycle in one life are of one processor
one-processor : (marked : Marking) (region goal : ℕ) (objects : List Object) (e : CycleSoFar) → Facts marked region goal objects e → (a b : Object) → In a e.news → In b e.news
    → is_placed a.answer ≡ true → is_placed b.answer ≡ true → a.life ≡ b.life → a.proc ≡ b.proc
one-processor marked region goal objects e facts a b ha hb pa pb life =
    let x = object-placing marked region goal objects e facts a ha pa in
    let y = object-placing marked region goal objects e facts b hb pb in
    facts.places.one_log a.proc b.proc x.0 y.0 x.1 y.1 (placed-page marked region goal objects e facts a.proc b.proc a b x.0 y.0 x.1 y.1 x.2 y.2 life)

in-placed : (w : ℕ) (news : List Object) (o : Object) → In o news → o.proc ≡ w → is_placed o.answer ≡ true → In o (placed_by w news)
in-placed w news o h proc placed = in-passing _ news o h (and_from (eqb o.proc w) (is_placed o.answer) (eq-eqb o.proc w proc) placed)

apart-new : (marked : Marking) (region goal : ℕ) (objects : List Object) (e : CycleSoFar) → Facts marked region goal objects e → (a b : Object) → In a e.news → In b e.news
    → is_placed a.answer ≡ true → is_placed b.answer ≡ true → a.id ≢ b.id → a.life ≡ b.life → a.index ≢ b.index
apart-new marked region goal objects e facts a b ha hb pa pb ne life same =
    let proc = one-processor marked region goal objects e facts a b ha hb pa pb life in
    let apart = paired-apart (IsPlacing (past_after e)) (λ (x y : Placing). x.page ≡ y.page → x.index ≢ y.index) (λ (x y : Object). x.life ≡ y.life → x.index ≢ y.index) (placed_by b.proc e.news) (placings (e.logs b.proc))
    (facts.objects_are.placed b.proc) (facts.places.apart b.proc)
    (λ x y p q hp hq xp yq differ one two. differ (placed-page marked region goal objects e facts b.proc b.proc x y p q hp hq xp yq one) (sym xp.index ∙ two ∙ yq.index)) in
    elim (apart-pick (λ (x y : Object). x.life ≡ y.life → x.index ≢ y.index) (placed_by b.proc e.news) a b apart (in-placed b.proc e.news a ha proc pa) (in-placed b.proc e.news b hb refl pb)) [
      | inl one ↦ ne (ap (λ (o : Object). o.id) one)
      | inr two ↦ elim two [ inl first ↦ first life same | inr then ↦ then (sym life) (sym same) ]
    ]

apart-old : (marked : Marking) (region goal : ℕ) (objects : List Object) (notes : List SweepNote) (e : CycleSoFar) → Began marked region goal e.cycle e.before objects notes e.carried
    → Facts marked region goal objects e → (a b : Object) → In a e.news → In b objects
    → is_placed a.answer ≡ true → is_placed b.answer ≡ true → marked e.cycle b.id ≡ true → a.life ≡ b.life → a.index ≢ b.index
apart-old marked region goal objects notes e began facts a b ha hb pa pb mark life same =
    let x = object-placing marked region goal objects e facts a ha pa in
    let at = facts.places.here a.proc x.0 x.1 in
    let off = facts.places.unmarked a.proc x.0 x.1 in
    let old = old-life marked region goal e.cycle e.before objects began.run b hb pb mark in
    let one : at.0 ≡ old.0 = same-old e at.0 old.0 at.1 old.1 (x.2.life at.0 at.1 at.2.page ∙ life ∙ sym old.2) in
    let on : e.marks old.0.page b.index ≡ true = (facts.marks.right old.0 old.1).shown b hb pb mark (sym old.2) in
    let page : old.0.page ≡ x.0.page = ap (λ (l : Life). l.page) (sym one) ∙ at.2.page in
    let index : b.index ≡ x.0.index = sym same ∙ x.2.index in
    let on' : e.marks x.0.page x.0.index ≡ true = rw (page, index) at on in
    cc

-- ---- misses

missed-parts : (w : ℕ) (news : List Object) (o : Object) (line : ℕ) → In o news → o.proc ≡ w → o.answer ≡ Missed line → In o (missed_by w news)
missed-parts w news o line h proc miss =
    let is : is_missed o.answer ≡ true = rw miss refl in
    in-passing _ news o h (and_from (eqb o.proc w) (is_missed o.answer) (eq-eqb o.proc w proc) is)

same-line : (a b : Answer) (m n : ℕ) → a ≡ b → a ≡ Missed m → b ≡ Missed n → m ≡ n
same-line a b m n same is also = cc

new-miss : (marked : Marking) (region goal : ℕ) (objects : List Object) (e : CycleSoFar) → Facts marked region goal objects e → (o : Object) (line : ℕ) → In o e.news → o.answer ≡ Missed line
    → (x : Refusal) × In x (refusals (e.logs o.proc)) × (x.number ≡ line) × IsRefusal o x
new-miss marked region goal objects e facts o line h miss =
    let at = paired-right IsRefusal (missed_by o.proc e.news) (refusals (e.logs o.proc)) o (facts.objects_are.missed o.proc) (missed-parts o.proc e.news o line h refl miss) in
    (at.0, at.1, same-line o.answer o.answer at.0.number line refl at.2.answer miss, at.2)

number-moved : (c m n p q k l : ℕ) (past : List Line) → m ≡ n → p ≡ q → k ≡ l → IsNumber m (Miss c p k) past → IsNumber n (Miss c q l) past
number-moved c m n p q k l past number pages class h = rw (sym number, sym pages, sym class) h

new-named : (marked : Marking) (region goal : ℕ) (objects : List Object) (e : CycleSoFar) → Facts marked region goal objects e → (o : Object) (line : ℕ) → In o e.news → o.answer ≡ Missed line
    → IsNumber line (Miss e.cycle o.need.pages o.need.class) (past_after e)
new-named marked region goal objects e facts o line h miss =
    let x = new-miss marked region goal objects e facts o line h miss in
    number-moved e.cycle x.0.number line x.0.pages o.need.pages x.0.class o.need.class (past_after e) x.2 x.3.pages x.3.class (facts.misses.named o.proc x.0 x.1)

miss-cycle : (c d p q k l : ℕ) → Miss c p k ≡ Miss d q l → c ≡ d
miss-cycle c d p q k l same = ap cycle_of same

cycle-misses : (marked : Marking) (region goal : ℕ) (objects : List Object) (notes : List SweepNote) (e : CycleSoFar) → Began marked region goal e.cycle e.before objects notes e.carried
    → Facts marked region goal objects e → AreMissed (past_after e) (e.news ++ objects)
cycle-misses marked region goal objects notes e began facts =
    let was : (o : Object) (line : ℕ) → In o objects → o.answer ≡ Missed line → IsNumber line (Miss o.cycle o.need.pages o.need.class) (past_after e) =
    λ o line h miss. number-kept e.lines e.before line (Miss o.cycle o.need.pages o.need.class) (began.run.misses.named o h line miss) in
    let differ : (n o : Object) (line : ℕ) → In n e.news → In o objects → n.answer ≡ Missed line → o.answer ≡ Missed line → ⊥ = λ n o line hn ho nm om. (
    let one = number-one (past_after e) line _ _ (new-named marked region goal objects e facts n line hn nm) (was o line ho om) in
    let same = miss-cycle e.cycle o.cycle n.need.pages o.need.pages n.need.class o.need.class one in
    let lt = began.objects_older o ho in
    omega arith) in
    record {
      named = λ o h line miss. elim (in-cases e.news objects o h) [
        | inl new ↦ (let c = facts.objects_are.now o new in rw c (new-named marked region goal objects e facts o line new miss))
        | inr old ↦ was o line old miss
      ];
      once = λ a b line ha hb ma mb. elim (in-cases e.news objects a ha) [
        | inl a-new ↦ elim (in-cases e.news objects b hb) [
          | inl b-new ↦ (
              let x = new-miss marked region goal objects e facts a line a-new ma in
              let y = new-miss marked region goal objects e facts b line b-new mb in
              let proc = facts.misses.one_log a.proc b.proc x.0 y.0 x.1 y.1 (x.2 ∙ sym y.2) in
              let apart = paired-apart IsRefusal (λ (p q : Refusal). p.number ≢ q.number) (λ (p q : Object). (m n : ℕ) → p.answer ≡ Missed m → q.answer ≡ Missed n → m ≢ n) (missed_by b.proc e.news) (refusals (e.logs b.proc))
              (facts.objects_are.missed b.proc) (facts.misses.apart b.proc)
              (λ p q r s hr hs pr qs ne m n pm qn same. ne (same-line p.answer p.answer r.number m refl pr.answer pm ∙ same ∙ sym (same-line q.answer q.answer s.number n refl qs.answer qn))) in
              elim (apart-pick _ (missed_by b.proc e.news) a b apart (missed-parts b.proc e.news a line a-new proc ma) (missed-parts b.proc e.news b line b-new refl mb)) [
                | inl one ↦ ap (λ (o : Object). o.id) one
                | inr two ↦ elim two [ inl first ↦ absurd (first line line ma mb refl) | inr then ↦ absurd (then line line mb ma refl) ]
              ])
          | inr b-old ↦ absurd (differ a b line a-new b-old ma mb)
        ]
        | inr a-old ↦ elim (in-cases e.news objects b hb) [
          | inl b-new ↦ absurd (differ b a line b-new a-old mb ma)
          | inr b-old ↦ began.run.misses.once a b line a-old b-old ma mb
        ]
      ];
    }

-- ---- the cycle in words of objects

among : (marked : Marking) (region goal : ℕ) (objects : List Object) (e : CycleSoFar) → Facts marked region goal objects e → (w : ℕ) (o : Object) → In o (placed_by w e.news)
    → In o (e.news ++ objects) × (o.cycle ≡ e.cycle) × (is_placed o.answer ≡ true)
among marked region goal objects e facts w o h =
    let parts = placed-parts w e.news o h in
    (in-left e.news objects o parts.0, facts.objects_are.now o parts.0, parts.2)

mark-among : (marked : Marking) (c : ℕ) (news objects : List Object) (n k : ℕ) → HasMarkedIndex marked c objects n k → HasMarkedIndex marked c (news ++ objects) n k
mark-among marked c news objects n k at = (at.0, in-right news objects at.0 at.1, at.2, at.3, at.4, at.5)

pub facts-cycle : (marked : Marking) (region goal : ℕ) (objects : List Object) (notes : List SweepNote) (e : CycleSoFar) → Began marked region goal e.cycle e.before objects notes e.carried
    → Facts marked region goal objects e → IsCycle marked region goal e.cycle e.before objects e.lines e.news
facts-cycle marked region goal objects notes e began facts = record {
  older = began.objects_older;
  lines_now = facts.writes.now;
  now = facts.objects_are.now;
  journal = facts.writes.legal;
  gives = cycle-gives marked region goal objects notes e began facts;
  lasts = facts.objects_are.lasts;
  fits = facts.objects_are.fits;
  seats = λ o h placed. new-seat marked region goal objects e facts o h placed;
  apart_new = λ a b ha hb pa pb ne life. apart-new marked region goal objects e facts a b ha hb pa pb ne life;
  apart_old = λ a b ha hb pa pb mark life. apart-old marked region goal objects notes e began facts a b ha hb pa pb mark life;
  misses = cycle-misses marked region goal objects notes e began facts;
  one_processor = λ a b ha hb sa sb life. one-processor marked region goal objects e facts a b ha hb sa.0 sb.0 life;
  no_gap = λ o h small j lt. log-no_gap marked e.cycle (e.news ++ objects) e.marks (past_after e) (placed_by o.proc e.news) (placings (e.logs o.proc)) (facts.objects_are.placed o.proc) (facts.places.here o.proc) (facts.fills o.proc)
      (passing-apart (λ (newer older : Object). older.id < newer.id) _ e.news facts.objects_are.order) (among marked region goal objects e facts o.proc)
      (λ life k here on. mark-among marked e.cycle e.news objects life.number k (marked-here marked region goal objects notes e began facts life k here on))
      o (in-placed o.proc e.news o h refl small.0) small j lt;
  full_first = λ a b ha hb sa sb proc class before life j lt.
      log-full_first marked e.cycle (e.news ++ objects) e.marks (past_after e) (placed_by b.proc e.news) (placings (e.logs b.proc)) (facts.objects_are.placed b.proc) (facts.places.here b.proc) (facts.fills b.proc)
      (passing-apart (λ (newer older : Object). older.id < newer.id) _ e.news facts.objects_are.order) (among marked region goal objects e facts b.proc)
      (λ life k here on. mark-among marked e.cycle e.news objects life.number k (marked-here marked region goal objects notes e began facts life k here on))
      a b (in-placed b.proc e.news a ha proc sa.0) (in-placed b.proc e.news b hb refl sb.0) sb (facts.objects_are.fits a ha sa.0).count class before life j lt;
}

-- ---- sweeps

-- an index of an open life that is allocated but not marked has an object of the cycle
used-now : (marked : Marking) (region goal : ℕ) (objects : List Object) (e : CycleSoFar) → Facts marked region goal objects e → (life : Life) → In life (open_lives (past_after e))
    → ((k : ℕ) → e.marks life.page k ≡ true → ⊥) → (w : ℕ) × (a : Placing) × In a (placings (e.logs w)) × (a.page ≡ life.page)
used-now marked region goal objects e facts life here none =
    let some = facts.holdings.some life here in
    elim (facts.holdings.from life some.0 here some.1) [
      | inl on ↦ absurd (none some.0 on)
      | inr at ↦ (at.0, at.1, at.2, at.3)
    ]

-- a note that tells of a sweep of an old life is right, by the objects before the cycle
old-note : (marked : Marking) (region goal : ℕ) (objects : List Object) (notes : List SweepNote) (e : CycleSoFar) → Began marked region goal e.cycle e.before objects notes e.carried
    → Facts marked region goal objects e → (m : ℕ) → e.cycle ≡ suc m → (life : Life) → In life (open_lives e.before) → (w : ℕ) (s : Sweeping) → In s (sweepings (e.logs w)) → s.page ≡ life.page
    → (note : SweepNote) → TellsOf e.cycle s note → IsNote marked objects e.cycle life note
old-note marked region goal objects notes e began facts m is life there w s h page note tells =
    let by = older-by m e.before (λ line i. (let lt = began.lines_older line i in omega arith)) in
    let page' : note.page ≡ life.page = tells.page ∙ page in
    let kept' : note.kept ≡ count_below (count_for life.class) (λ k. e.marks life.page k) = tells.kept ∙ facts.sweeps.kept w s life h there page in
    let freed' : note.freed ≡ count_below (count_for life.class) (λ k. e.carried life.page k && not (e.marks life.page k)) = tells.freed ∙ facts.sweeps.freed w s life h there page in
    note-at marked region goal e.cycle m e.before objects life (λ k. e.carried life.page k) (λ k. e.marks life.page k) note is began.run began.distinct by there
    (began.indices life there) (facts.marks.right life there) tells.cycle page' kept' freed'

-- and by all objects
all-note : (marked : Marking) (region goal : ℕ) (objects : List Object) (e : CycleSoFar) → Facts marked region goal objects e → (m : ℕ) → e.cycle ≡ suc m → (life : Life) (note : SweepNote)
    → IsNote marked objects e.cycle life note → IsNote marked (e.news ++ objects) e.cycle life note
all-note marked region goal objects e facts m is life note right =
    let right' : IsNote marked objects (suc m) life note = rw is at right in
    rw is (notes-same marked e.cycle m e.news objects life note facts.objects_are.now facts.objects_are.lasts (omega arith) right')

used-object : (marked : Marking) (region goal : ℕ) (objects : List Object) (e : CycleSoFar) → Facts marked region goal objects e → (m : ℕ) → e.cycle ≡ suc m → (life : Life) → In life (open_lives (past_after e)) → (w : ℕ) (a : Placing)
    → In a (placings (e.logs w)) → a.page ≡ life.page → IsUsedAgain (e.news ++ objects) (suc m) life
used-object marked region goal objects e facts m is life here w a h same =
    let o = placing-object marked region goal objects e facts w a h in
    (o.0, in-left e.news objects o.0 o.1, sym (o.4.life life here (sym same)), facts.objects_are.now o.0 o.1 ∙ is, o.3)

cycle-done : (marked : Marking) (region goal : ℕ) (objects : List Object) (notes : List SweepNote) (e : CycleSoFar) → Began marked region goal e.cycle e.before objects notes e.carried
    → Facts marked region goal objects e → (m : ℕ) → e.cycle ≡ suc m → (life : Life) → In life (open_lives e.before) → (note : SweepNote) × In note e.notes × IsNote marked (e.news ++ objects) e.cycle life note
cycle-done marked region goal objects notes e began facts m is life there =
    let swept = facts.sweeps.each life there in
    let told = facts.notes.each swept.0 swept.1 swept.2 in
    (told.0, told.1, all-note marked region goal objects e facts m is life told.0 (old-note marked region goal objects notes e began facts m is life there swept.0 swept.1 swept.2 swept.3 told.0 told.2))

facts-notes : (marked : Marking) (region goal : ℕ) (objects : List Object) (notes : List SweepNote) (e : CycleSoFar) → Began marked region goal e.cycle e.before objects notes e.carried
    → Facts marked region goal objects e → AreNotes marked e.cycle e.before objects e.lines e.news e.notes (e.notes ++ notes)
facts-notes marked region goal objects notes e began facts = record {
  right = λ note h. (
      let told = facts.notes.from note h in
      let at = facts.sweeps.only told.0 told.1 told.2 in
      let less = one-less e.cycle at.0.cycle (life-older e.cycle e.before at.0 began.lines_older at.1) in
      (less.0, at.0, less.1, at.1, all-note marked region goal objects e facts less.0 less.1 at.0 note (old-note marked region goal objects notes e began facts less.0 less.1 at.0 at.1 told.0 told.1 told.2 at.2 note told.3)));
  order = facts.notes.order;
  done = λ m is life alive. (
      let by = older-by m e.before (λ line i. (let lt = began.lines_older line i in omega arith)) in
      let same : at_end m (past_after e) ≡ e.before = at_end-lines e.cycle m e.lines e.before facts.writes.now (omega arith) ∙ at_end-now m e.before by in
      let there : In life (open_lives e.before) = rw same at alive in
      let done = cycle-done marked region goal objects notes e began facts m is life there in
      let now : at_end e.cycle (past_after e) ≡ past_after e = at_end-now e.cycle (past_after e) (by-lines e.cycle e.lines e.before facts.writes.now began.run.by) in
      record {
        note = (done.0, in-left e.notes notes done.0 done.1, rw (sym is) done.2);
        empty = λ none. (
            let none' : kept marked (e.news ++ objects) e.cycle life.number ≡ 0 = rw is none in
            elim (cases_Bool (has_number life.number (open_lives (past_after e)))) [
              | inl open-still ↦ (
                  let at = number-there life.number (open_lives (past_after e)) open-still in
                  let one : at.0 ≡ life = same-old e at.0 life at.1 there at.2 in
                  let here : In life (open_lives (past_after e)) = rw (sym one) at.1 in
                  let used = used-now marked region goal objects e facts life here (λ k on. (
                  let has = marked-here marked region goal objects notes e began facts life k here on in
                  let some = kept-counts marked has.0 (e.news ++ objects) e.cycle life.number (in-right e.news objects has.0 has.1) has.2 has.4 has.3 in
                  omega arith)) in
                  inr (used-object marked region goal objects e facts m is life here used.0 used.1 used.2 used.3))
              | inr gone ↦ inl (λ h. (
                  let h' : In life (open_lives (past_after e)) = rw (sym is, now) at h in
                  number-absent life.number (open_lives (past_after e)) life gone h' refl))
            ]);
      });
}

-- ---- wanted lives

new-life : (c : ℕ) (logs : ℕ → List Entry) (before lines : List Line) → ((line : Line) → In line lines → cycle_of line ≡ c) → AreGivesOld logs before lines → (life : Life) → In life (all_lives (lines ++ before))
    → In life (all_lives before) ⊎ ((length before ≤ life.number) × In life (open_lives (lines ++ before)) × (life.cycle ≡ c))
new-life c logs before [] now gives life h = inl h
new-life c logs before (Take cycle page pages class ∷ lines) now gives life h = elim h [
  | inl new ↦ (
      let n : length (lines ++ before) ≡ life.number = ap (λ (l : Life). l.number) new in
      let k : cycle ≡ life.cycle = ap (λ (l : Life). l.cycle) new in
      let is : cycle ≡ c = now (Take cycle page pages class) (inl refl) in
      let more = longer lines before in
      inr (omega arith, inl new, sym k ∙ is))
  | inr there ↦ elim (new-life c logs before lines (λ l i. now l (inr i)) gives life there) [
    | inl old ↦ inl old
    | inr still ↦ inr (still.0, inr still.1, still.2)
  ]
]
new-life c logs before (Miss cycle pages class ∷ lines) now gives life h = new-life c logs before lines (λ l i. now l (inr i)) gives life h
new-life c logs before (Scav cycle page pages ∷ lines) now gives life h = new-life c logs before lines (λ l i. now l (inr i)) gives life h
new-life c logs before (Give cycle page pages ∷ lines) now gives life h = elim (new-life c logs before lines (λ l i. now l (inr i)) gives.1 life h) [
  | inl old ↦ inl old
  | inr still ↦ inr (
    still.0,
    to_others page (open_lives (lines ++ before)) life still.1 (λ same. (let lt = (gives.0 life still.1 same).0 in let ge = still.0 in omega arith)),
    still.2,
  )
]
new-life c logs before (Pull cycle proc page pages ∷ lines) now gives life h = new-life c logs before lines (λ l i. now l (inr i)) gives life h
new-life c logs before (Cut cycle proc page pages class ∷ lines) now gives life h = elim h [
  | inl new ↦ (
      let n : length (lines ++ before) ≡ life.number = ap (λ (l : Life). l.number) new in
      let k : cycle ≡ life.cycle = ap (λ (l : Life). l.cycle) new in
      let is : cycle ≡ c = now (Cut cycle proc page pages class) (inl refl) in
      let more = longer lines before in
      inr (omega arith, inl new, sym k ∙ is))
  | inr there ↦ elim (new-life c logs before lines (λ l i. now l (inr i)) gives life there) [
    | inl old ↦ inl old
    | inr still ↦ inr (still.0, inr still.1, still.2)
  ]
]
new-life c logs before (Drop cycle proc page pages ∷ lines) now gives life h = new-life c logs before lines (λ l i. now l (inr i)) gives life h

cycle-wanted : (marked : Marking) (region goal : ℕ) (objects : List Object) (notes : List SweepNote) (e : CycleSoFar) → Began marked region goal e.cycle e.before objects notes e.carried
    → Facts marked region goal objects e → AllWanted (past_after e) (e.news ++ objects)
cycle-wanted marked region goal objects notes e began facts life h =
    elim (new-life e.cycle e.logs e.before e.lines facts.writes.now facts.writes.gives life h) [
      | inl old ↦ (let is = began.wanted life old in (is.0, in-right e.news objects is.0 is.1, is.2, is.3, is.4, is.5))
      | inr new ↦ (
          let late = new.0 in
          let unmarked : (n k : ℕ) → n ≡ life.number → HasMarkedIndex marked e.cycle objects n k → ⊥ = λ n k same has. (
          let seat = old-life marked region goal e.cycle e.before objects began.run has.0 has.1 has.2 has.3 in
          let lt = number-below e.before seat.0 seat.1 in
          let number = seat.2 in
          let life' = has.4 in
          omega arith) in
          let used = used-now marked region goal objects e facts life new.1 (λ k on. unmarked life.number k refl (marked-here marked region goal objects notes e began facts life k new.1 on)) in
          elim (first-taken e.marks (placings (e.logs used.0)) used.1 (facts.fills used.0) used.2 (facts.places.below used.0 used.1 used.2)) [
            | inl on ↦ (
                let on' : e.marks life.page 0 ≡ true = rw used.3 at on in
                absurd (unmarked life.number 0 refl (marked-here marked region goal objects notes e began facts life 0 new.1 on')))
            | inr at ↦ (
                let o = placing-object marked region goal objects e facts used.0 at.0 at.1 in
                (o.0, in-left e.news objects o.0 o.1, o.3, sym (o.4.life life new.1 (sym used.3 ∙ sym at.2)), o.4.index ∙ at.3, facts.objects_are.now o.0 o.1 ∙ sym new.2))
          ])
    ]

-- ---- bits

bit-moved : (bits : ℕ → ℕ → Bool) (m n j k : ℕ) → m ≡ n → j ≡ k → bits m j ≡ true → bits n k ≡ true
bit-moved bits m n j k number index on = rw (sym number, sym index) on

cycle-bits : (marked : Marking) (region goal : ℕ) (objects : List Object) (notes : List SweepNote) (e : CycleSoFar) → Began marked region goal e.cycle e.before objects notes e.carried
    → Facts marked region goal objects e → (life : Life) → In life (open_lives (past_after e)) → AreBits marked e.cycle (e.news ++ objects) life.number (λ k. e.bits life.page k)
cycle-bits marked region goal objects notes e began facts life here = record {
  shown = λ o h lives one. elim (in-cases e.news objects o h) [
    | inl new ↦ (
        let a = object-placing marked region goal objects e facts o new (live-placed marked e.cycle o lives) in
        let at = facts.places.here o.proc a.0 a.1 in
        let same : at.0 ≡ life = same_number (past_after e) at.0 life at.1 here (a.2.life at.0 at.1 at.2.page ∙ one) in
        let on = facts.holdings.placed o.proc a.0 a.1 in
        bit-moved e.bits a.0.page life.page a.0.index o.index (sym at.2.page ∙ ap (λ (l : Life). l.page) same) (sym a.2.index) on)
    | inr old ↦ elim (live-cases marked e.cycle o lives) [
      | inl same ↦ (let lt = began.objects_older o old in absurd (omega arith))
      | inr mark ↦ (
          let placed = live-placed marked e.cycle o lives in
          let was = old-life marked region goal e.cycle e.before objects began.run o old placed mark in
          let same : life ≡ was.0 = same-old e life was.0 here was.1 (sym one ∙ sym was.2) in
          let on = (facts.marks.right was.0 was.1).shown o old placed mark (sym was.2) in
          let on' : e.marks life.page o.index ≡ true = rw (ap (λ (l : Life). l.page) same) on in
          facts.holdings.marked life o.index here on')
    ]
  ];
  from = λ k on. elim (facts.holdings.from life k here on) [
    | inl mark ↦ (
        let has = marked-here marked region goal objects notes e began facts life k here mark in
        (has.0, in-right e.news objects has.0 has.1, live-marked marked e.cycle has.0 has.2 has.3, has.4, has.5))
    | inr at ↦ (
        let o = placing-object marked region goal objects e facts at.0 at.1 at.2 in
        (o.0, in-left e.news objects o.0 o.1, live-of marked e.cycle o.0 o.3 (facts.objects_are.now o.0 o.1), sym (o.4.life life here (sym at.3)), o.4.index ∙ at.4))
  ];
}

-- ---- the law

pub cycle-law : (marked : Marking) (region goal : ℕ) (objects : List Object) (notes : List SweepNote) (e : CycleSoFar) → Began marked region goal e.cycle e.before objects notes e.carried
    → Facts marked region goal objects e → Reached marked region goal e.cycle (past_after e) (e.news ++ objects) (e.notes ++ notes) e.bits
cycle-law marked region goal objects notes e began facts =
    let all = facts-cycle marked region goal objects notes e began facts in
    record {
      run = cycle-keeps marked region goal e.cycle e.before objects e.lines e.news began.run all;
      noted = cycle-noted marked region goal e.cycle e.before objects e.lines e.news e.notes notes (λ m is. older-by m e.before (λ line i. (let lt = began.lines_older line i in omega arith))) began.notes_older
          all (facts-notes marked region goal objects notes e began facts) began.noted;
      wanted = cycle-wanted marked region goal objects notes e began facts;
      distinct = apart-append (λ (x y : Object). x.id ≢ y.id) e.news objects
          (apart-map (λ (newer older : Object). older.id < newer.id) (λ (x y : Object). x.id ≢ y.id) e.news (λ x y hx hy lt same. omega arith) facts.objects_are.order)
          began.distinct (λ x y hx hy same. (let lt = facts.objects_are.behind x y hx hy in omega arith));
      indices = cycle-bits marked region goal objects notes e began facts;
      scavenged = λ d le. elim (cases_lt d e.cycle) [
        | inl lt ↦ rw (at_end-lines e.cycle d e.lines e.before facts.writes.now lt) (began.scavenged d lt)
        | inr ge ↦ (
            let by = by-lines e.cycle e.lines e.before facts.writes.now began.run.by in
            rw (at_end-now d (past_after e) (by-later e.cycle d (past_after e) ge by)) facts.scavenged)
      ];
    }
