-- What the marks and the logs of a cycle say of the lives that are open as it ends.
use Rattle.std.proofs.Common.{◌≡◌, ℕ, zero, suc, ◌-◌, ◌<◌, Bool, true, ◌&&◌, not, eqb, List, [], ◌∷◌, ◌++◌, refl, sym, ◌∙◌, ap, arith, inl, inr}
use Rattle.std.proofs.lemmas.Bool.{eqb-true, eq-eqb, and_parts, and_from}
use Rattle.page_bitmap.specs.declared.line.Line.{Line}
use Rattle.page_bitmap.specs.declared.line.Line.TheVariants.{Take, Miss, Give, Scav, Pull, Cut, Drop}
use Rattle.page_alloc.specs.Lists.{In}
use Rattle.page_alloc.specs.Lives.{Life, open_lives}
use Rattle.page_alloc.specs.Journal.{cycle_of, IsBy}
use Rattle.sound_run.proofs.Journals.{same_page}
use Rattle.span_state.specs.Bits.{count_below}
use Rattle.span_state.specs.declared.sweep.SweepNote.{SweepNote}
use Rattle.cycle_history.specs.Requests.{Marking}
use Rattle.cycle_history.specs.Objects.{Object, is_placed, kept}
use Rattle.cycle_history.specs.Sweeps.{IsNote, GivesWhenEmpty}
use Rattle.sound_run.specs.Run.{count_for, IsJournal, IsRun, Lasts}
use Rattle.sound_run.specs.Spans.{AreBits, AreMarks, HasMarkedIndex}
use Rattle.sound_run.proofs.Live.{by-later}
use Rattle.sound_run.proofs.Counts.{gives-same, kept-counts}
use Rattle.sound_run.proofs.Seats.{same_number, number-below}
use Rattle.sound_run.proofs.Sweeps.{sweep-kept}
use Rattle.sound_run.proofs.Notes.{open-after}
use Rattle.sound_run.proofs.Noted.{note-right}
use Rattle.worker_log.specs.declared.Placing.{Placing}
use Rattle.worker_log.specs.Logs.{placings}
use Rattle.run_laws.specs.CycleSoFar.{CycleSoFar, past_after}
use Rattle.run_laws.specs.ObjectFacts.{IsPlacing}
use Rattle.run_laws.specs.Facts.{AreGivesOld, Facts}
use Rattle.cycle_history.specs.Profile.{placed_by}
use Rattle.run_laws.specs.Reached.{AreDistinct, Began}
use Rattle.run_laws.proofs.Lists.{in-right, from-passing, in-passing, paired-left, paired-right}
use Rattle.run_laws.proofs.Lines.{older-by, life-older, was_open, not_given}
use Rattle.run_laws.proofs.Cycle.{kepts-same}

-- a number above 0 is one more than another
pub one-less : (c d : ℕ) → d < c → (m : ℕ) × (c ≡ suc m)
one-less zero d lt = absurd (omega arith)
one-less (suc m) d lt = (m, refl)

-- ---- old lives

-- an open life with the number of one that was open as the cycle began is that life
pub same-old : (e : CycleSoFar) (life old : Life) → In life (open_lives (past_after e)) → In old (open_lives e.before) → life.number ≡ old.number → life ≡ old
same-old e life old here there same =
    let lt = number-below e.before old there in
    same_number e.before life old (was_open e.lines e.before life (omega arith) here) there same

-- what the mark end keeps of an old life, by its marks
pub kept-at : (marked : Marking) (region goal c m : ℕ) (past : List Line) (objects : List Object) (life : Life) (marks : ℕ → Bool) → c ≡ suc m → IsRun marked region goal c past objects
    → AreDistinct objects → IsBy m past → In life (open_lives past) → AreMarks marked c objects life.number marks → kept marked objects c life.number ≡ count_below (count_for life.class) marks
kept-at marked region goal c m past objects life marks is run ids by here are =
    let are' : AreMarks marked (suc m) objects life.number marks = rw is at are in
    rw is (sweep-kept marked region goal c m past objects life marks run ids (open-after m past life by here) are')

-- the note of an old life
pub note-at : (marked : Marking) (region goal c m : ℕ) (past : List Line) (objects : List Object) (life : Life) (bits marks : ℕ → Bool) (note : SweepNote) → c ≡ suc m → IsRun marked region goal c past objects
    → AreDistinct objects → IsBy m past → In life (open_lives past) → AreBits marked (c - 1) objects life.number bits → AreMarks marked c objects life.number marks
    → note.cycle ≡ c → note.page ≡ life.page → note.kept ≡ count_below (count_for life.class) marks → note.freed ≡ count_below (count_for life.class) (λ k. bits k && not (marks k))
    → IsNote marked objects c life note
note-at marked region goal c m past objects life bits marks note is run ids by here has are cycle page kept freed =
    let are' : AreMarks marked (suc m) objects life.number marks = rw is at are in
    let less : c - 1 ≡ m = omega arith in
    let has' : AreBits marked m objects life.number bits = rw less at has in
    rw is (note-right marked region goal c m past objects life bits marks note run ids (open-after m past life by here) has' are' (cycle ∙ is) page kept freed)

-- ---- Gives

gives-news : (marked : Marking) (region goal c : ℕ) (news objects : List Object) (past : List Line) → ((o : Object) → In o news → o.cycle ≡ c) → ((o : Object) → In o news → Lasts marked o) → IsBy c past
    → IsJournal region goal past → GivesWhenEmpty marked objects past → GivesWhenEmpty marked (news ++ objects) past
gives-news marked region goal c [] objects past now lasts by legal gives = gives
gives-news marked region goal c (o ∷ news) objects past now lasts by legal gives =
    let e = now o (inl refl) in
    gives-same marked region goal o (news ++ objects) past (lasts o (inl refl)) (by-later c o.cycle past (omega arith) by) legal
    (gives-news marked region goal c news objects past (λ x h. now x (inr h)) (λ x h. lasts x (inr h)) by legal gives)

gives-lines : (marked : Marking) (region goal : ℕ) (objects : List Object) (notes : List SweepNote) (e : CycleSoFar) (lines : List Line) → Began marked region goal e.cycle e.before objects notes e.carried
    → Facts marked region goal objects e → ((line : Line) → In line lines → cycle_of line ≡ e.cycle) → AreGivesOld e.logs e.before lines
    → GivesWhenEmpty marked (e.news ++ objects) (lines ++ e.before)
gives-lines marked region goal objects notes e [] began facts now old =
    gives-news marked region goal e.cycle e.news objects e.before facts.objects_are.now facts.objects_are.lasts began.run.by began.run.journal began.noted.gives
gives-lines marked region goal objects notes e (Take cycle page pages class ∷ lines) began facts now old = gives-lines marked region goal objects notes e lines began facts (λ l h. now l (inr h)) old
gives-lines marked region goal objects notes e (Miss cycle pages class ∷ lines) began facts now old = gives-lines marked region goal objects notes e lines began facts (λ l h. now l (inr h)) old
gives-lines marked region goal objects notes e (Scav cycle page pages ∷ lines) began facts now old = gives-lines marked region goal objects notes e lines began facts (λ l h. now l (inr h)) old
gives-lines marked region goal objects notes e (Give cycle page pages ∷ lines) began facts now old = (
  (λ life h begins. (
      let is : cycle ≡ e.cycle = now (Give cycle page pages) (inl refl) in
      let g = old.0 life h begins in
      let there = was_open lines e.before life g.0 h in
      let older = life-older e.cycle e.before life began.lines_older there in
      let less = one-less e.cycle life.cycle older in
      let c = e.cycle in
      let by = older-by less.0 e.before (λ line i. (let lt = began.lines_older line i in let q = less.1 in omega arith)) in
      let swept = g.1 in
      let counts = facts.sweeps.kept swept.0 swept.1 life swept.2 there (swept.3 ∙ sym begins) in
      let kept_is = kept-at marked region goal e.cycle less.0 e.before objects life (λ k. e.marks life.page k) less.1 began.run began.distinct by there (facts.marks.right life there) in
      let same = kepts-same marked e.cycle e.cycle life.number e.news objects facts.objects_are.now facts.objects_are.lasts (omega arith) in
      let none : kept marked (e.news ++ objects) e.cycle life.number ≡ 0 = same ∙ kept_is ∙ sym counts ∙ swept.4 in
      (omega arith, rw is none))),
  gives-lines marked region goal objects notes e lines began facts (λ l h. now l (inr h)) old.1,
)
gives-lines marked region goal objects notes e (Pull cycle proc page pages ∷ lines) began facts now old = gives-lines marked region goal objects notes e lines began facts (λ l h. now l (inr h)) old
gives-lines marked region goal objects notes e (Cut cycle proc page pages class ∷ lines) began facts now old = gives-lines marked region goal objects notes e lines began facts (λ l h. now l (inr h)) old
gives-lines marked region goal objects notes e (Drop cycle proc page pages ∷ lines) began facts now old = gives-lines marked region goal objects notes e lines began facts (λ l h. now l (inr h)) old

-- each Give of the cycle is of an empty life
pub cycle-gives : (marked : Marking) (region goal : ℕ) (objects : List Object) (notes : List SweepNote) (e : CycleSoFar) → Began marked region goal e.cycle e.before objects notes e.carried
    → Facts marked region goal objects e → GivesWhenEmpty marked (e.news ++ objects) (past_after e)
cycle-gives marked region goal objects notes e began facts = gives-lines marked region goal objects notes e e.lines began facts facts.writes.now facts.writes.gives

-- ---- marks

-- a marked index of an open life has a marked object
pub marked-here : (marked : Marking) (region goal : ℕ) (objects : List Object) (notes : List SweepNote) (e : CycleSoFar) → Began marked region goal e.cycle e.before objects notes e.carried
    → Facts marked region goal objects e → (life : Life) (k : ℕ) → In life (open_lives (past_after e)) → e.marks life.page k ≡ true → HasMarkedIndex marked e.cycle objects life.number k
marked-here marked region goal objects notes e began facts life k here on =
    let at = facts.marks.only life.page k on in
    let on' : e.marks at.0.page k ≡ true = rw at.2 on in
    let has = (facts.marks.right at.0 at.1).from k on' in
    let some = kept-counts marked has.0 (e.news ++ objects) e.cycle at.0.number (in-right e.news objects has.0 has.1) has.2 has.4 has.3 in
    let there = not_given marked e.cycle (e.news ++ objects) e.lines e.before at.0 facts.writes.now (cycle-gives marked region goal objects notes e began facts) at.1 some in
    let same : at.0 ≡ life = same_page region goal (past_after e) at.0 life facts.writes.legal there here at.2 in
    (has.0, has.1, has.2, has.3, has.4 ∙ ap (λ (l : Life). l.number) same, has.5)

-- ---- placings

-- the placing of an object
pub object-placing : (marked : Marking) (region goal : ℕ) (objects : List Object) (e : CycleSoFar) → Facts marked region goal objects e → (o : Object) → In o e.news → is_placed o.answer ≡ true
    → (a : Placing) × In a (placings (e.logs o.proc)) × IsPlacing (past_after e) o a
object-placing marked region goal objects e facts o h placed =
    let test = and_from (eqb o.proc o.proc) (is_placed o.answer) (eq-eqb o.proc o.proc refl) placed in
    paired-right (IsPlacing (past_after e)) (placed_by o.proc e.news) (placings (e.logs o.proc)) o (facts.objects_are.placed o.proc) (in-passing _ e.news o h test)

-- an object of a worker is one of the cycle
pub placed-parts : (w : ℕ) (news : List Object) (o : Object) → In o (placed_by w news) → In o news × (o.proc ≡ w) × (is_placed o.answer ≡ true)
placed-parts w news o h =
    let from = from-passing _ news o h in
    let parts = and_parts (eqb o.proc w) (is_placed o.answer) from.1 in
    (from.0, eqb-true o.proc w parts.0, parts.1)

-- the object of a placing
pub placing-object : (marked : Marking) (region goal : ℕ) (objects : List Object) (e : CycleSoFar) → Facts marked region goal objects e → (w : ℕ) (a : Placing) → In a (placings (e.logs w))
    → (o : Object) × In o e.news × (o.proc ≡ w) × (is_placed o.answer ≡ true) × IsPlacing (past_after e) o a
placing-object marked region goal objects e facts w a h =
    let at = paired-left (IsPlacing (past_after e)) (placed_by w e.news) (placings (e.logs w)) a (facts.objects_are.placed w) h in
    let parts = placed-parts w e.news at.0 at.1 in
    (at.0, parts.0, parts.1, parts.2, at.2)

-- placings of objects in one life begin at one page
pub placed-page : (marked : Marking) (region goal : ℕ) (objects : List Object) (e : CycleSoFar) → Facts marked region goal objects e → (v w : ℕ) (o b : Object) (x y : Placing)
    → In x (placings (e.logs v)) → In y (placings (e.logs w)) → IsPlacing (past_after e) o x → IsPlacing (past_after e) b y → o.life ≡ b.life → x.page ≡ y.page
placed-page marked region goal objects e facts v w o b x y hx hy is-x is-y life =
    let at = facts.places.here v x hx in
    let to = facts.places.here w y hy in
    let number : at.0.number ≡ to.0.number = is-x.life at.0 at.1 at.2.page ∙ life ∙ sym (is-y.life to.0 to.1 to.2.page) in
    let same : at.0 ≡ to.0 = same_number (past_after e) at.0 to.0 at.1 to.1 number in
    sym at.2.page ∙ ap (λ (l : Life). l.page) same ∙ to.2.page
