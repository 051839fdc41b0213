-- What the logs tell of spans stays so, and a cycle is under way by other logs that tell the same.
use Rattle.std.proofs.Common.{◌≡◌, ◌≢◌, ℕ, ◌<◌, Bool, true, not, eqb, List, [], ◌∷◌, ◌++◌, ◌+◌, map, Some, length, refl, sym, ◌∙◌, ap, subst, arith, ◌⊎◌, inl, inr}
use Rattle.std.proofs.lemmas.Bool.{cases_eq, eqb-true, eq-eqb, or_cases, and_parts}
use Rattle.std.proofs.lemmas.List.{append_assoc}
use Rattle.page_bitmap.specs.declared.line.Line.{Line}
use Rattle.page_bitmap.specs.declared.line.Line.TheVariants.{Take, Miss, Give, Scav, Pull, Cut, Drop}
use Rattle.page_alloc.specs.Lists.{In, IsNumber, AllApart}
use Rattle.page_alloc.specs.Lives.{Life, open_lives}
use Rattle.page_alloc.proofs.Lives.{to_others}
use Rattle.sound_run.specs.Run.{IsJournal}
use Rattle.sound_run.proofs.Seats.{number-below}
use Rattle.worker_log.specs.declared.Placing.{Placing}
use Rattle.worker_log.specs.declared.Sweeping.{Sweeping}
use Rattle.worker_log.specs.declared.Entry.{Entry}
use Rattle.worker_log.specs.declared.Entry.TheVariants.{Looked, LookedEmptyCell, Popped, Pushed, Swept, Took, Missed, Gave, Allocated, Found, Read, Added, Pulled, NoPage, Cut as CutEntry, NoCut, Settled}
use Rattle.worker_log.specs.Logs.{Refusal, Taking, placings, sweepings, refusals, takings}
use Rattle.worker_log.specs.SweptLast.{is_swept_last}
use Rattle.worker_log.proofs.Logs.{LookAlike}
use Rattle.run_laws.specs.CycleSoFar.{CycleSoFar, past_after}
use Rattle.run_laws.specs.PlacingFacts.{Fills}
use Rattle.run_laws.specs.Facts.{AreGivesOld}
use Rattle.run_laws.specs.Underway.{IsUnderway, LogsTell}
use Rattle.run_laws.specs.StepNeeds.{MaySweep}
use Rattle.run_laws.specs.Steps.{put, with_logs, after_sweep, after_allocate, after_line, after_took, after_missed, after_gave}
use Rattle.run_laws.specs.Blocks.{CutOut, OutBlock, cut_line, settled_lines}
use Rattle.run_laws.specs.ShowsBlocks.{after_pulled, after_cut_out, after_settled}
use Rattle.run_laws.proofs.Underway.{put_here, put_else}
use Rattle.run_laws.proofs.Steps.{miss-adds}
use Rattle.run_laws.proofs.Whole.{refuse-keeps}

-- ---- the logs

-- one log has an entry more
pub log-cases : (logs : ℕ → List Entry) (w v : ℕ) (x : Entry) → ((v ≡ w) × (put logs w (x ∷ logs w) v ≡ x ∷ logs w)) ⊎ ((v ≢ w) × (put logs w (x ∷ logs w) v ≡ logs v))
log-cases logs w v x = elim (cases_eq v w) [
  | inl same ↦ inl (same, put_here logs w v (x ∷ logs w) same)
  | inr other ↦ inr (other, put_else logs w v (x ∷ logs w) other)
]

-- what a log swept last it swept
pub swept-has : (p : ℕ) (log : List Entry) → is_swept_last p log ≡ true → (s : Sweeping) × In s (sweepings log) × (s.page ≡ p)
swept-has p [] h = let none : ⊥ = cc in absurd none
swept-has p (Swept s ∷ log) h = elim (or_cases (eqb s.page p) (is_swept_last p log) h) [
  | inl is ↦ (s, inl refl, eqb-true s.page p is)
  | inr was ↦ (let rest = swept-has p log was in (rest.0, inr rest.1, rest.2))
]
swept-has p (Took number line ∷ log) h = swept-has p log (and_parts _ (is_swept_last p log) h).1
swept-has p (Gave page pages ∷ log) h = swept-has p log (and_parts _ (is_swept_last p log) h).1
swept-has p (Allocated a ∷ log) h = swept-has p log h
swept-has p (Missed number line ∷ log) h = swept-has p log h
swept-has p (Looked set head tail ∷ log) h = swept-has p log h
swept-has p (LookedEmptyCell set index ∷ log) h = swept-has p log h
swept-has p (Pulled number line ∷ log) h = swept-has p log h
swept-has p (NoPage ∷ log) h = swept-has p log h
swept-has p (CutEntry page pages class ∷ log) h = swept-has p log (and_parts _ (is_swept_last p log) h).1
swept-has p (NoCut pages left ∷ log) h = swept-has p log h
swept-has p (Settled number ∷ log) h = swept-has p log h
swept-has p (Popped set page ∷ log) h = swept-has p log h
swept-has p (Pushed set page ∷ log) h = swept-has p log h
swept-has p (Found page word ∷ log) h = swept-has p log h
swept-has p (Read word value ∷ log) h = swept-has p log h
swept-has p (Added word value ∷ log) h = swept-has p log h

-- ---- one step

tell-step : (e new : CycleSoFar) (w : ℕ) (x : Entry) → LogsTell e → new.before ≡ e.before
    → ((v : ℕ) → ((v ≡ w) × (new.logs v ≡ x ∷ e.logs w)) ⊎ ((v ≢ w) × (new.logs v ≡ e.logs v)))
    → ((v page : ℕ) (life : Life) → is_swept_last page (new.logs v) ≡ true → is_swept_last page (e.logs v) ≡ true → In life (open_lives (past_after e)) → life.page ≡ page → In life (open_lives (past_after new)))
    → ((page : ℕ) → is_swept_last page (x ∷ e.logs w) ≡ true → (is_swept_last page (e.logs w) ≡ true) ⊎ ((life : Life) × In life (open_lives (past_after new)) × (life.page ≡ page) × (life.number < length e.before)))
    → ((y : Taking) → In y (takings (x ∷ e.logs w)) → In y (takings (e.logs w)) ⊎ IsNumber y.number y.line (past_after new))
    → ((n : ℕ) (line : Line) → IsNumber n line (past_after e) → IsNumber n line (past_after new)) → LogsTell new
tell-step e new w x tell before logs stays fresh taken more =
    let keep : (v page : ℕ) → is_swept_last page (new.logs v) ≡ true → is_swept_last page (e.logs v) ≡ true → (life : Life) × In life (open_lives (past_after new)) × (life.page ≡ page) × (life.number < length new.before) =
    λ v page on was. (let at = tell.old v page was in (at.0, stays v page at.0 on was at.1 at.2, at.2, rw before at.3)) in
    record {
      old = λ v page on. elim (logs v) [
        | inl here ↦ (
            let on' : is_swept_last page (x ∷ e.logs w) ≡ true = sym (ap (is_swept_last page) here.1) ∙ on in
            elim (fresh page on') [
              | inl was ↦ keep v page on (ap (λ (n : ℕ). is_swept_last page (e.logs n)) here.0 ∙ was)
              | inr at ↦ (at.0, at.1, at.2, rw before at.3)
            ])
        | inr there ↦ keep v page on (sym (ap (is_swept_last page) there.1) ∙ on)
      ];
      took = λ v y h. elim (logs v) [
        | inl here ↦ (
            let h' : In y (takings (x ∷ e.logs w)) = subst (λ (l : List Entry). In y (takings l)) here.1 h in
            elim (taken y h') [
              | inl was ↦ more y.number y.line (tell.took w y was)
              | inr at ↦ at
            ])
        | inr there ↦ more y.number y.line (tell.took v y (subst (λ (l : List Entry). In y (takings l)) there.1 h))
      ];
    }

-- a sweep: the life that waits is an old one
pub tell-sweep : (region goal : ℕ) (e : CycleSoFar) (waits : ℕ → Bool) (w : ℕ) (life : Life) (s : Sweeping) → IsUnderway region goal e waits → MaySweep e waits life s → LogsTell e → LogsTell (after_sweep e w life s)
tell-sweep region goal e waits w life s now may tell = tell-step e (after_sweep e w life s) w (Swept s) tell refl (λ v. log-cases e.logs w v (Swept s)) (λ v page l on was h is. h)
    (λ page on. elim (or_cases (eqb s.page page) (is_swept_last page (e.logs w)) on) [
      | inl is ↦ (let at = now.waiting.old life.page may.waits_now in inr (at.0, at.2, at.3 ∙ sym may.page ∙ eqb-true s.page page is, number-below e.before at.0 at.1))
      | inr was ↦ inl was
    ])
    (λ y h. inl h) (λ n line h. h)

pub tell-allocate : (e : CycleSoFar) (w : ℕ) (a : Placing) → LogsTell e → LogsTell (after_allocate e w a)
tell-allocate e w a tell = tell-step e (after_allocate e w a) w (Allocated a) tell refl (λ v. log-cases e.logs w v (Allocated a)) (λ v page l on was h is. h) (λ page on. inl on) (λ y h. inl h) (λ n line h. h)

pub tell-missed : (e : CycleSoFar) (w pages class : ℕ) → LogsTell e → LogsTell (after_missed e w pages class)
tell-missed e w pages class tell = tell-step e (after_missed e w pages class) w (Missed (length (past_after e)) (Miss e.cycle pages class)) tell refl (λ v. log-cases e.logs w v (Missed (length (past_after e)) (Miss e.cycle pages class)))
    (λ v page l on was h is. h) (λ page on. inl on) (λ y h. inl h) (λ n line h. inr h)

pub tell-took : (e : CycleSoFar) (w page pages class : ℕ) → LogsTell e → LogsTell (after_took e w page pages class)
tell-took e w page pages class tell =
    let line : Line = Take e.cycle page pages class in
    tell-step e (after_took e w page pages class) w (Took (length (past_after e)) (Take e.cycle page pages class)) tell refl (λ v. log-cases e.logs w v (Took (length (past_after e)) (Take e.cycle page pages class)))
    (λ v q l on was h is. inr h) (λ q on. inl (and_parts (not (eqb page q)) (is_swept_last q (e.logs w)) on).1)
    (λ y h. elim h [
      | inl new ↦ inr (inl (ap (λ (t : Taking). t.number) new, ap (λ (t : Taking). t.line) new))
      | inr was ↦ inl was
    ])
    (λ n line h. inr h)

-- a Pull, with its line
pub tell-pulled : (e : CycleSoFar) (w page pages : ℕ) → LogsTell e → LogsTell (after_pulled e w page pages)
tell-pulled e w page pages tell = tell-step e (after_pulled e w page pages) w (Pulled (length (past_after e)) (Pull e.cycle w page pages)) tell refl (λ v. log-cases e.logs w v (Pulled (length (past_after e)) (Pull e.cycle w page pages)))
    (λ v q l on was h is. h) (λ q on. inl on) (λ y h. inl h) (λ n line h. inr h)

-- a cut
pub tell-cut : (e : CycleSoFar) (w n page pages class : ℕ) → LogsTell e → LogsTell (after_cut_out e w n page pages class)
tell-cut e w n page pages class tell = tell-step e (after_cut_out e w n page pages class) w (CutEntry page pages class) tell refl (λ v. log-cases e.logs w v (CutEntry page pages class))
    (λ v q l on was h is. h) (λ q on. inl (and_parts (not (eqb page q)) (is_swept_last q (e.logs w)) on).1) (λ y h. inl h) (λ n line h. h)

-- the settling of a block, with its lines
pub tell-settled : (e : CycleSoFar) (w : ℕ) (b : OutBlock) → LogsTell e → LogsTell (after_settled e w b)
tell-settled e w b tell =
    let whole : past_after (after_settled e w b) ≡ settled_lines e.cycle w (Some b) ++ past_after e = append_assoc (settled_lines e.cycle w (Some b)) e.lines e.before in
    tell-step e (after_settled e w b) w (Settled (length b.cuts + length (past_after e))) tell refl (λ v. log-cases e.logs w v (Settled (length b.cuts + length (past_after e))))
    (λ v q l on was h is. subst (λ (p : List Line). In l (open_lives p)) (sym whole) (open-behind w b.cuts (past_after e) l h)) (λ q on. inl on) (λ y h. inl h)
    (λ n line h. subst (λ (p : List Line). IsNumber n line p) (sym whole) (inr (number-behind w b.cuts (past_after e) n line h)))
  where
    open-behind : (w : ℕ) (cuts : List CutOut) (past : List Line) (l : Life) → In l (open_lives past) → In l (open_lives (map (cut_line e.cycle w) cuts ++ past))
    open-behind w [] past l h = h
    open-behind w (x ∷ cuts) past l h = inr (open-behind w cuts past l h)

    number-behind : (w : ℕ) (cuts : List CutOut) (past : List Line) (n : ℕ) (line : Line) → IsNumber n line past → IsNumber n line (map (cut_line e.cycle w) cuts ++ past)
    number-behind w [] past n line h = h
    number-behind w (x ∷ cuts) past n line h = inr (number-behind w cuts past n line h)

-- a Give by the worker that swept the span last
pub tell-gave : (region goal : ℕ) (e : CycleSoFar) (waits : ℕ → Bool) (w page pages : ℕ) → IsUnderway region goal e waits → is_swept_last page (e.logs w) ≡ true → LogsTell e → LogsTell (after_gave e w page pages)
tell-gave region goal e waits w page pages now mine tell = tell-step e (after_gave e w page pages) w (Gave page pages) tell refl (λ v. log-cases e.logs w v (Gave page pages))
    (λ v q life on was h is. to_others page (open_lives (past_after e)) life h (λ here. (
    let same : page ≡ q = sym here ∙ is in
    elim (log-cases e.logs w v (Gave page pages)) [
      | inl mine_now ↦ (
          let on' : is_swept_last q (Gave page pages ∷ e.logs w) ≡ true = sym (ap (is_swept_last q) mine_now.1) ∙ on in
          let off = (and_parts (not (eqb page q)) (is_swept_last q (e.logs w)) on').0 in
          let on'' = eq-eqb page q same in
          let none : ⊥ = cc in
          none)
      | inr theirs ↦ (
          let a = swept-has q (e.logs v) was in
          let b = swept-has page (e.logs w) mine in
          theirs.0 (now.sweeps.one_sweeper v w a.0 b.0 a.1 b.1 (a.2 ∙ sym same ∙ sym b.2)))
    ])))
    (λ q on. inl (and_parts (not (eqb page q)) (is_swept_last q (e.logs w)) on).1) (λ y h. inl h) (λ n line h. inr h)

-- a line of scavenging
pub tell-scav : (e : CycleSoFar) (page pages : ℕ) → LogsTell e → LogsTell (after_line e (Scav e.cycle page pages))
tell-scav e page pages tell = record { old = tell.old; took = λ v y h. inr (tell.took v y h) }

-- ---- other logs

pub tell-logs : (e : CycleSoFar) (logs : ℕ → List Entry) → ((w : ℕ) → LookAlike (logs w) (e.logs w)) → LogsTell e → LogsTell (with_logs e logs)
tell-logs e logs alike tell = record {
  old = λ w page on. tell.old w page (sym ((alike w).last page) ∙ on);
  took = λ w y h. tell.took w y (subst (λ (l : List Taking). In y l) (alike w).took h);
}

pub underway-logs : (region goal : ℕ) (e : CycleSoFar) (waits : ℕ → Bool) (logs : ℕ → List Entry) → IsUnderway region goal e waits → ((w : ℕ) → placings (logs w) ≡ placings (e.logs w)) → ((w : ℕ) → sweepings (logs w) ≡ sweepings (e.logs w))
    → ((w : ℕ) → refusals (logs w) ≡ refusals (e.logs w)) → IsUnderway region goal (with_logs e logs) waits
underway-logs region goal e waits logs now placed swept refused =
    let p : (v : ℕ) (a : Placing) → In a (placings (logs v)) → In a (placings (e.logs v)) = λ v a h. subst (λ (l : List Placing). In a l) (placed v) h in
    let s : (v : ℕ) (t : Sweeping) → In t (sweepings (logs v)) → In t (sweepings (e.logs v)) = λ v t h. subst (λ (l : List Sweeping). In t l) (swept v) h in
    let s' : (v : ℕ) (t : Sweeping) → In t (sweepings (e.logs v)) → In t (sweepings (logs v)) = λ v t h. subst (λ (l : List Sweeping). In t l) (sym (swept v)) h in
    let x : (v : ℕ) (y : Refusal) → In y (refusals (logs v)) → In y (refusals (e.logs v)) = λ v y h. subst (λ (l : List Refusal). In y l) (refused v) h in
    record {
      writes = record { legal = now.writes.legal; now = now.writes.now; gives = gives-same e.logs logs e.before s' e.lines now.writes.gives };
      waiting = record {
        old = now.waiting.old;
        as_before = now.waiting.as_before;
        not_placed = λ v a h. now.waiting.not_placed v a (p v a h);
        not_swept = λ v t h. now.waiting.not_swept v t (s v t h);
      };
      sweeps = record {
        each = λ l h is. (let was = now.sweeps.each l h is in (was.0, was.1, s' was.0 was.1 was.2, was.3));
        only = λ v t h. now.sweeps.only v t (s v t h);
        kept = λ v t l h. now.sweeps.kept v t l (s v t h);
        freed = λ v t l h. now.sweeps.freed v t l (s v t h);
        once = λ v. subst (λ (l : List Sweeping). AllApart (λ (a b : Sweeping). a.page ≢ b.page) l) (sym (swept v)) (now.sweeps.once v);
        one_sweeper = λ u v a b ha hb. now.sweeps.one_sweeper u v a b (s u a ha) (s v b hb);
      };
      places = record {
        here = λ v a h. now.places.here v a (p v a h);
        below = λ v a h. now.places.below v a (p v a h);
        unmarked = λ v a h. now.places.unmarked v a (p v a h);
        apart = λ v. subst (λ (l : List Placing). AllApart (λ (a b : Placing). a.page ≡ b.page → a.index ≢ b.index) l) (sym (placed v)) (now.places.apart v);
        one_log = λ u v a b ha hb. now.places.one_log u v a b (p u a ha) (p v b hb);
      };
      holds = record {
        from = λ l k h is on. elim (now.holds.from l k h is on) [
          | inl mark ↦ inl mark
          | inr at ↦ inr (at.0, at.1, subst (λ (y : List Placing). In at.1 y) (sym (placed at.0)) at.2, at.3, at.4)
        ];
        marked = now.holds.marked;
        placed = λ v a h. now.holds.placed v a (p v a h);
        marked_open = now.holds.marked_open;
        marked_known = now.holds.marked_known;
      };
      numbered = λ v a h. now.numbered v a (p v a h);
      fills = λ v. subst (λ (l : List Placing). Fills e.marks l) (sym (placed v)) (now.fills v);
      misses = record {
        named = λ v y h. now.misses.named v y (x v y h);
        apart = λ v. subst (λ (l : List Refusal). AllApart (λ (y z : Refusal). y.number ≢ z.number) l) (sym (refused v)) (now.misses.apart v);
        one_log = λ u v y z hy hz. now.misses.one_log u v y z (x u y hy) (x v z hz);
      };
    }
  where
    gives-same : (old new : ℕ → List Entry) (before : List Line) → ((v : ℕ) (t : Sweeping) → In t (sweepings (old v)) → In t (sweepings (new v))) → (lines : List Line)
        → AreGivesOld old before lines → AreGivesOld new before lines
    gives-same old new before more [] gives = tt
    gives-same old new before more (Take cycle page pages class ∷ lines) gives = gives-same old new before more lines gives
    gives-same old new before more (Miss cycle pages class ∷ lines) gives = gives-same old new before more lines gives
    gives-same old new before more (Scav cycle page pages ∷ lines) gives = gives-same old new before more lines gives
    gives-same old new before more (Give cycle page pages ∷ lines) gives = (
      (λ l h begins. (let g = gives.0 l h begins in (g.0, (g.1.0, g.1.1, more g.1.0 g.1.1 g.1.2, g.1.3, g.1.4)))),
      gives-same old new before more lines gives.1,
    )
    gives-same old new before more (Pull cycle proc page pages ∷ lines) gives = gives-same old new before more lines gives
    gives-same old new before more (Cut cycle proc page pages class ∷ lines) gives = gives-same old new before more lines gives
    gives-same old new before more (Drop cycle proc page pages ∷ lines) gives = gives-same old new before more lines gives

-- one log has an entry more that the filters don't see
pub filter-more : {A : Type 0} (filter : List Entry → List A) (logs : ℕ → List Entry) (w : ℕ) (x : Entry) → filter (x ∷ logs w) ≡ filter (logs w) → (v : ℕ) → filter (put logs w (x ∷ logs w) v) ≡ filter (logs v)
filter-more filter logs w x unseen v = elim (log-cases logs w v x) [
  | inl here ↦ ap filter here.1 ∙ unseen ∙ ap (λ (n : ℕ). filter (logs n)) (sym here.0)
  | inr there ↦ ap filter there.1
]

-- ---- a miss

number-short : (n : ℕ) (x : Line) (xs : List Line) → IsNumber n x xs → n < length xs
number-short n x [] h = absurd h
number-short n x (y ∷ xs) h = elim h [ inl here ↦ (let e = here.0 in omega arith) | inr there ↦ (let lt = number-short n x xs there in omega arith) ]

pub missed-keeps : (region goal : ℕ) (e : CycleSoFar) (waits : ℕ → Bool) (w pages class : ℕ) → IsUnderway region goal e waits → IsJournal region goal (Miss e.cycle pages class ∷ past_after e)
    → IsUnderway region goal (after_missed e w pages class) waits
missed-keeps region goal e waits w pages class now legal =
    let x : Refusal = record { number = length (past_after e); pages = pages; class = class } in
    refuse-keeps region goal (after_line e (Miss e.cycle pages class)) waits w x (miss-adds region goal e waits pages class now legal) record {
      named = inl (refl, refl);
      alone = λ v y h same. (let lt = number-short y.number (Miss e.cycle y.pages y.class) (past_after e) (now.misses.named v y h) in omega arith);
    }
