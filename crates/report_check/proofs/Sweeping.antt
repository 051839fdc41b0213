-- Rule 7, whichever objects show it: a line that breaks it shows that the rule isn't met.
use Rattle.std.proofs.Common.{◌≡◌, ℕ, zero, suc, ◌+◌, ◌-◌, ◌<◌, ◌≤◌, Bool, true, false, ◌&&◌, not, eqb, List, [], ◌∷◌, ◌++◌, length, map, reverse, take, Some, None, refl, sym, ◌∙◌, ap, arith, inl, inr}
use Rattle.std.specs.List.{slice_get}
use Rattle.std.proofs.lemmas.Bool.{cases_Bool, cases_lt, le-leb, lt-leb, and_right}
use Rattle.std.proofs.lemmas.List.{append_assoc, reverse-append}
use Rattle.page_bitmap.specs.declared.line.Line.{Line}
use Rattle.page_bitmap.specs.declared.line.Line.TheVariants.{Take, Miss, Give, Scav, Pull, Cut, Drop}
use Rattle.page_alloc.specs.Lists.{In, count, one_if}
use Rattle.page_alloc.specs.Lives.{Life, open_lives}
use Rattle.page_alloc.specs.Journal.{IsBy, LegalFor, at_end, cycle_of, past_of}
use Rattle.page_alloc.proofs.Lives.{from_others}
use Rattle.span_state.specs.declared.sweep.SweepNote.{SweepNote}
use Rattle.trace_reader.specs.declared.trace.Trace.{Trace}
use Rattle.cycle_history.specs.declared.Report.{Report}
use Rattle.cycle_history.specs.Requests.{Marking, Request, caching_procs, last_cycle, marked_by, region_of, requests_of}
use Rattle.cycle_history.specs.Objects.{Object, freed, is_placed, kept, live}
use Rattle.cycle_history.specs.Orders.{IsSweepBefore}
use Rattle.cycle_history.specs.Rules.{AreAnswered, AreSeated, IsObject}
use Rattle.cycle_history.specs.Sound.{past_in, HasAnswers, HasJournal}
use Rattle.cycle_history.specs.Sweeps.{AreSwept, GivesWhenEmpty, IsOpenAfter}
use Rattle.report_check.specs.Closing.{BreaksSweeps, IsRightSweep, IsWrongGive}
use Rattle.report_check.proofs.Counts.{apart-at, get-in, live-same}
use Rattle.report_check.proofs.Seats.{twin-seat}
use Rattle.report_check.proofs.Twins.{IsTwin, need-one, twin-of}

-- ---- the journal at a line

-- a line and those behind it
parts-at : {X : Type 0} (xs : List X) (n : ℕ) (x : X) → slice_get xs n ≡ Some x → (rest : List X) × (xs ≡ take n xs ++ x ∷ rest)
parts-at [] n x at = absurd (let e : None ≡ Some x = at in cc)
parts-at (y ∷ xs) zero x at = (let same : y ≡ x = (let e : Some y ≡ Some x = at in cc) in (xs, ap (λ (z : _). z ∷ xs) same))
parts-at (y ∷ xs) (suc n) x at = let rest = parts-at xs n x at in (rest.0, ap (λ (l : List _). y ∷ l) rest.1)

-- the past behind it
past-at : (journal : List Line) (n : ℕ) (line : Line) → slice_get journal n ≡ Some line → (newer : List Line) × (past_of journal ≡ newer ++ line ∷ past_of (take n journal))
past-at journal n line at =
    let parts = parts-at journal n line at in (
      reverse parts.0,
      ap (λ (l : List Line). reverse l) parts.1 ∙ reverse-append (take n journal) (line ∷ parts.0) ∙ ap (λ (l : List Line). l ++ reverse (take n journal)) (reverse-append (line ∷ []) parts.0)
          ∙ append_assoc (reverse parts.0) (line ∷ []) (reverse (take n journal)),
    )

pub legal-behind : (procs region goal : ℕ) (newer past : List Line) → LegalFor procs region goal (newer ++ past) → LegalFor procs region goal past
legal-behind procs region goal [] past legal = legal
legal-behind procs region goal (line ∷ newer) past legal = legal-behind procs region goal newer past legal.2

pub by-later : (c d : ℕ) (past : List Line) → c ≤ d → IsBy c past → IsBy d past
by-later c d [] le by = tt
by-later c d (line ∷ past) le by = omega arith

pub by-behind : (procs region goal last : ℕ) (newer past : List Line) → LegalFor procs region goal (newer ++ past) → IsBy last (newer ++ past) → IsBy last past
by-behind procs region goal last [] past legal by = by
by-behind procs region goal last (line ∷ newer) past legal by = by-behind procs region goal last newer past legal.2 (by-later (cycle_of line) last (newer ++ past) by legal.1)

gives-behind : (marked : Marking) (objects : List Object) (newer past : List Line) → GivesWhenEmpty marked objects (newer ++ past) → GivesWhenEmpty marked objects past
gives-behind marked objects [] past gives = gives
gives-behind marked objects (Take cycle page pages class ∷ newer) past gives = gives-behind marked objects newer past gives
gives-behind marked objects (Miss cycle pages class ∷ newer) past gives = gives-behind marked objects newer past gives
gives-behind marked objects (Give cycle page pages ∷ newer) past gives = gives-behind marked objects newer past gives.1
gives-behind marked objects (Scav cycle page pages ∷ newer) past gives = gives-behind marked objects newer past gives
gives-behind marked objects (Pull cycle proc page pages ∷ newer) past gives = gives-behind marked objects newer past gives
gives-behind marked objects (Cut cycle proc page pages class ∷ newer) past gives = gives-behind marked objects newer past gives
gives-behind marked objects (Drop cycle proc page pages ∷ newer) past gives = gives-behind marked objects newer past gives

-- ---- the journal as a cycle ends

end-here : (m : ℕ) (line : Line) (past : List Line) → cycle_of line ≤ m → at_end m (line ∷ past) ≡ line ∷ past
end-here m line past le = let on = le-leb (cycle_of line) m le in rw on refl

end-past : (m : ℕ) (line : Line) (past : List Line) → m < cycle_of line → at_end m (line ∷ past) ≡ at_end m past
end-past m line past lt = let off = lt-leb (cycle_of line) m lt in rw off refl

-- later lines don't matter
end-behind : (procs region goal m : ℕ) (newer : List Line) (line : Line) (past : List Line) → LegalFor procs region goal (newer ++ line ∷ past) → m < cycle_of line → at_end m (newer ++ line ∷ past) ≡ at_end m past
end-behind procs region goal m [] line past legal lt = end-past m line past lt
end-behind procs region goal m (x ∷ newer) line past legal lt =
    let le : cycle_of line ≤ cycle_of x = by-behind procs region goal (cycle_of x) newer (line ∷ past) legal.2 legal.1 in
    end-past m x (newer ++ line ∷ past) (omega arith) ∙ end-behind procs region goal m newer line past legal.2 lt

-- an open life of a cycle up to m was open as cycle m ended
open-then : (m : ℕ) (past : List Line) (life : Life) → In life (open_lives past) → life.cycle ≤ m → In life (open_lives (at_end m past))
open-then m [] life h le = absurd h
open-then m (Take cycle page pages class ∷ past) life h le = elim (cases_lt m cycle) [
  | inl later ↦ rw (end-past m (Take cycle page pages class) past later) (elim h [
    | inl here ↦ (let e : cycle ≡ life.cycle = ap (λ (l : Life). l.cycle) here in absurd (omega arith))
    | inr there ↦ open-then m past life there le
  ])
  | inr now ↦ rw (end-here m (Take cycle page pages class) past now) h
]
open-then m (Miss cycle pages class ∷ past) life h le = elim (cases_lt m cycle) [
  | inl later ↦ rw (end-past m (Miss cycle pages class) past later) (open-then m past life h le)
  | inr now ↦ rw (end-here m (Miss cycle pages class) past now) h
]
open-then m (Give cycle page pages ∷ past) life h le = elim (cases_lt m cycle) [
  | inl later ↦ rw (end-past m (Give cycle page pages) past later) (open-then m past life (from_others page (open_lives past) life h).0 le)
  | inr now ↦ rw (end-here m (Give cycle page pages) past now) h
]
open-then m (Scav cycle page pages ∷ past) life h le = elim (cases_lt m cycle) [
  | inl later ↦ rw (end-past m (Scav cycle page pages) past later) (open-then m past life h le)
  | inr now ↦ rw (end-here m (Scav cycle page pages) past now) h
]
open-then m (Pull cycle proc page pages ∷ past) life h le = elim (cases_lt m cycle) [
  | inl later ↦ rw (end-past m (Pull cycle proc page pages) past later) (open-then m past life h le)
  | inr now ↦ rw (end-here m (Pull cycle proc page pages) past now) h
]
open-then m (Cut cycle proc page pages class ∷ past) life h le = elim (cases_lt m cycle) [
  | inl later ↦ rw (end-past m (Cut cycle proc page pages class) past later) (elim h [
    | inl here ↦ (let e : cycle ≡ life.cycle = ap (λ (l : Life). l.cycle) here in absurd (omega arith))
    | inr there ↦ open-then m past life there le
  ])
  | inr now ↦ rw (end-here m (Cut cycle proc page pages class) past now) h
]
open-then m (Drop cycle proc page pages ∷ past) life h le = elim (cases_lt m cycle) [
  | inl later ↦ rw (end-past m (Drop cycle proc page pages) past later) (open-then m past life h le)
  | inr now ↦ rw (end-here m (Drop cycle proc page pages) past now) h
]

-- ---- a Give

-- each Give may be where the rule is met
give-met : (t : Trace) (report : Report) (others : List Object) (line n : ℕ) → HasJournal t report → AreSwept (marked_by t) (last_cycle t) (past_in report) others report.sweeps → ¬ IsWrongGive report line n
give-met t report others line n has met w =
    let give : Line = Give w.cycle w.page w.pages in
    let parts = past-at report.journal n (Give w.cycle w.page w.pages) w.printed in
    let behind : List Line = past_of (take n report.journal) in
    let legal : LegalFor (caching_procs t) (region_of t) t.header.goal (parts.0 ++ Give w.cycle w.page w.pages ∷ past_of (take n report.journal)) = rw parts.1 at has.legal in
    let by : IsBy (last_cycle t) (parts.0 ++ Give w.cycle w.page w.pages ∷ past_of (take n report.journal)) = rw parts.1 at has.cycles in
    let gives : GivesWhenEmpty (marked_by t) others (parts.0 ++ Give w.cycle w.page w.pages ∷ past_of (take n report.journal)) = rw parts.1 at met.gives in
    let here = legal-behind (caching_procs t) (region_of t) t.header.goal parts.0 (Give w.cycle w.page w.pages ∷ past_of (take n report.journal)) legal in
    let le : w.cycle ≤ last_cycle t = by-behind (caching_procs t) (region_of t) t.header.goal (last_cycle t) parts.0 (Give w.cycle w.page w.pages ∷ past_of (take n report.journal)) legal by in
    let life = here.0.0 in
    let alive : In here.0.0 (open_lives (past_of (take n report.journal))) = here.0.1 in
    let its : here.0.0.page ≡ w.page = here.0.2 in
    let empty = (gives-behind (marked_by t) others parts.0 (Give w.cycle w.page w.pages ∷ past_of (take n report.journal)) gives).0 here.0.0 alive its in
    let older : here.0.0.cycle < w.cycle = empty.0 in
    let m : suc (w.cycle - 1) ≡ w.cycle = omega arith in
    let end : at_end (w.cycle - 1) (past_in report) ≡ at_end (w.cycle - 1) (past_of (take n report.journal)) =
    ap (λ (l : List Line). at_end (w.cycle - 1) l) parts.1 ∙ end-behind (caching_procs t) (region_of t) t.header.goal (w.cycle - 1) parts.0 (Give w.cycle w.page w.pages) (past_of (take n report.journal)) legal (omega arith) in
    let opened : IsOpenAfter (past_in report) (w.cycle - 1) here.0.0 = rw end (open-then (w.cycle - 1) (past_of (take n report.journal)) here.0.0 alive (omega arith)) in
    let note = met.each (w.cycle - 1) here.0.0 (omega arith) opened in
    w.wrong (record {
      life = here.0.0;
      alive = alive;
      its = its;
      older = older;
      note = note.0;
      printed = note.1;
      swept = note.2.cycle ∙ m;
      here = note.2.page ∙ its;
      empty = note.2.kept ∙ ap (λ (c : ℕ). kept (marked_by t) others c here.0.0.number) m ∙ empty.1;
    })

-- ---- counts of lives

-- of two objects of one request with one answer
twin-from : (r : Request) (n : ℕ) (x y : Object) → IsObject r n x → IsObject r n y → x.answer ≡ y.answer → IsTwin x y
twin-from r n x y ix iy e = record {
  id = iy.id ∙ sym ix.id;
  answer = sym e;
  cycle = iy.cycle ∙ sym ix.cycle;
  proc = iy.proc ∙ sym ix.proc;
  need = λ sized. (
      let some : 1 ≤ r.event.size = sized_from r.event.size (λ none. sized (ix.zero.1 none)) in
      need-one r y.need x.need (iy.need some) (ix.need some));
}
  where
    sized_from : (size : ℕ) → (size ≡ 0 → ⊥) → 1 ≤ size
    sized_from size some = omega arith

-- lists that answer one trace alike, where the placed objects have the same lives
abbrev HaveSameLives : List Object → List Object → Type 0
HaveSameLives xs ys = (x y : Object) → In x xs → In y ys → IsTwin x y → is_placed x.answer ≡ true → y.life ≡ x.life

count-seated : (test : Object → Bool) (requests : List Request) (xs ys : List Object)
    → ((r : Request) (n : ℕ) (x y : Object) → IsObject r n x → IsObject r n y → x.answer ≡ y.answer → (is_placed x.answer ≡ true → y.life ≡ x.life) → test x ≡ test y) → AreAnswered requests xs → AreAnswered requests ys
    → map (λ (o : Object). o.answer) xs ≡ map (λ (o : Object). o.answer) ys → HaveSameLives xs ys → count test xs ≡ count test ys
count-seated test [] [] [] alike ax ay e lives = refl
count-seated test [] (x ∷ xs) ys alike ax ay e lives = absurd ax
count-seated test [] [] (y ∷ ys) alike ax ay e lives = absurd ay
count-seated test (r ∷ requests) [] ys alike ax ay e lives = absurd ax
count-seated test (r ∷ requests) (x ∷ xs) [] alike ax ay e lives = absurd ay
count-seated test (r ∷ requests) (x ∷ xs) (y ∷ ys) alike ax ay e lives =
    let head : x.answer ≡ y.answer = cc in
    let tail : map (λ (o : Object). o.answer) xs ≡ map (λ (o : Object). o.answer) ys = cc in
    let rest = count-seated test requests xs ys alike ax.1 ay.1 tail (λ a b ha hb is placed. lives a b (inr ha) (inr hb) is placed) in
    let twin = twin-from r (length requests) x y ax.0 ay.0 head in
    let one : test x ≡ test y = alike r (length requests) x y ax.0 ay.0 head (λ placed. lives x y (inl refl) (inl refl) twin placed) in
    ap (λ (b : Bool). one_if b + count test xs) one ∙ ap (λ (k : ℕ). one_if (test y) + k) rest

kept-same : (marked : Marking) (requests : List Request) (xs ys : List Object) (m n : ℕ) → AreAnswered requests xs → AreAnswered requests ys → map (λ (o : Object). o.answer) xs ≡ map (λ (o : Object). o.answer) ys
    → HaveSameLives xs ys → kept marked xs m n ≡ kept marked ys m n
kept-same marked requests xs ys m n ax ay e lives = count-seated (λ o. is_placed o.answer && (eqb o.life n && marked m o.id)) requests xs ys (λ r k x y ix iy same life. (
    let p : is_placed x.answer ≡ is_placed y.answer = ap is_placed same in
    elim (cases_Bool (is_placed x.answer)) [
      | inl on ↦ (
          let there : is_placed y.answer ≡ true = sym p ∙ on in
          let l = life on in
          let id : y.id ≡ x.id = iy.id ∙ sym ix.id in
          rw (on, there, l, id) refl)
      | inr off ↦ (let there : is_placed y.answer ≡ false = sym p ∙ off in rw (off, there) refl)
    ])) ax ay e lives

freed-same : (marked : Marking) (requests : List Request) (xs ys : List Object) (m n : ℕ) → AreAnswered requests xs → AreAnswered requests ys → map (λ (o : Object). o.answer) xs ≡ map (λ (o : Object). o.answer) ys
    → HaveSameLives xs ys → freed marked xs m n ≡ freed marked ys m n
freed-same marked requests xs ys m n ax ay e lives = count-seated (λ o. eqb o.life n && (live marked (m - 1) o && not (marked m o.id))) requests xs ys (λ r k x y ix iy same life. (
    let p : is_placed x.answer ≡ is_placed y.answer = ap is_placed same in
    let alive = live-same marked (m - 1) r k x y ix iy same in
    elim (cases_Bool (is_placed x.answer)) [
      | inl on ↦ (
          let l = life on in
          let id : y.id ≡ x.id = iy.id ∙ sym ix.id in
          ap (λ (b : Bool). eqb x.life n && (b && not (marked m x.id))) alive
          ∙ ap (λ (k : ℕ). eqb k n && (live marked (m - 1) y && not (marked m x.id))) (sym l) ∙ ap (λ (k : ℕ). eqb y.life n && (live marked (m - 1) y && not (marked m k))) (sym id))
      | inr off ↦ (
          let there : is_placed y.answer ≡ false = sym p ∙ off in
          dead x off ∙ sym (dead y there))
    ])) ax ay e lives
  where
    dead : (o : Object) → is_placed o.answer ≡ false → (eqb o.life n && (live marked (m - 1) o && not (marked m o.id))) ≡ false
    dead o off = and_right (eqb o.life n) (live marked (m - 1) o && not (marked m o.id)) (rw off refl)

-- ---- a sweep

-- a sweep that is right by others is right by these objects
sweep-met : (t : Trace) (report : Report) (objects others : List Object) (note : SweepNote) → HasAnswers t report objects → HasAnswers t report others → AreSeated (marked_by t) (past_in report) objects → AreSeated (marked_by t) (past_in report) others
    → AreSwept (marked_by t) (last_cycle t) (past_in report) others report.sweeps → In note report.sweeps → IsRightSweep (marked_by t) (last_cycle t) report objects note
sweep-met t report objects others note here there seats seats' met h =
    let is = met.no_other note h in
    let m = is.0 in
    let life = is.1 in
    let answers : map (λ (o : Object). o.answer) objects ≡ map (λ (o : Object). o.answer) others = here.printed ∙ sym there.printed in
    let lives : HaveSameLives objects others = λ x y hx hy twin placed. (twin-seat t report objects others x y here seats seats' hx hy twin placed).0 in
    let kept_are = λ (c n : ℕ). kept-same (marked_by t) (requests_of t) objects others c n here.asked there.asked answers lives in
    let freed_are = λ (c n : ℕ). freed-same (marked_by t) (requests_of t) objects others c n here.asked there.asked answers lives in
    record {
      before = is.0;
      life = is.1;
      inside = is.2;
      alive = is.3;
      counts = record { cycle = is.4.cycle; page = is.4.page; kept = is.4.kept ∙ sym (kept_are (suc is.0) is.1.number); freed = is.4.freed ∙ sym (freed_are (suc is.0) is.1.number) };
      empty = λ none. elim (met.empty is.0 is.1 is.2 is.3 (sym (kept_are (suc is.0) is.1.number) ∙ none)) [
        | inl given ↦ inl given
        | inr used ↦ inr (
            let twin = twin-of t report others objects used.0 there here used.1 in
            let seat = twin-seat t report others objects used.0 twin.0 there seats' seats used.1 twin.1 twin.2 used.4 in
            (twin.0, twin.1, seat.0 ∙ used.2, twin.2.cycle ∙ used.3, ap is_placed twin.2.answer ∙ used.4))
      ];
    }

-- ---- the rule

pub sweeps-unmet : (t : Trace) (report : Report) (objects others : List Object) (line : ℕ) → HasAnswers t report objects → HasAnswers t report others → HasJournal t report → AreSeated (marked_by t) (past_in report) objects
    → AreSeated (marked_by t) (past_in report) others → BreaksSweeps (marked_by t) (last_cycle t) report objects line → ¬ AreSwept (marked_by t) (last_cycle t) (past_in report) others report.sweeps
sweeps-unmet t report objects others line here there has seats seats' breaks met = elim breaks [
  | inl give ↦ give-met t report others line give.0 has met give.1
  | inr rest ↦ elim rest [
    | inl w ↦ elim w.1.wrong [
      | inl off ↦ off (sweep-met t report objects others w.1.note here there seats seats' met (get-in report.sweeps w.0 w.1.note w.1.printed))
      | inr order ↦ order.wrong (apart-at IsSweepBefore report.sweeps order.place w.0 order.earlier w.1.note met.order order.before order.among w.1.printed)
    ]
    | inr unswept ↦ (
        let u = unswept.2 in
        let note = met.each unswept.0 unswept.1 u.inside u.alive in
        u.missing note.0 note.1 note.2.cycle note.2.page)
  ]
]
