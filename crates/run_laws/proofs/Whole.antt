-- A refusal, and the facts of a cycle from what is kept while it is under way.
use Rattle.std.proofs.Common.{◌≡◌, ◌≢◌, ℕ, Bool, List, [], ◌∷◌, sym, ◌∙◌, ap, subst, ◌⊎◌, inl, inr}
use Rattle.std.proofs.lemmas.Bool.{cases_eq}
use Rattle.page_bitmap.specs.declared.line.Line.{Line}
use Rattle.page_bitmap.specs.declared.line.Line.TheVariants.{Take, Miss, Give, Scav, Pull, Cut, Drop}
use Rattle.page_alloc.specs.Lists.{In, AllApart}
use Rattle.span_state.specs.declared.sweep.SweepNote.{SweepNote}
use Rattle.cycle_history.specs.Requests.{Marking}
use Rattle.cycle_history.specs.Objects.{Object}
use Rattle.cycle_history.specs.Sound.{IsScavenged}
use Rattle.worker_log.specs.declared.Entry.{Entry}
use Rattle.worker_log.specs.declared.Placing.{Placing}
use Rattle.worker_log.specs.declared.Sweeping.{Sweeping}
use Rattle.worker_log.specs.Logs.{Refusal, placings, sweepings, refusals}
use Rattle.run_laws.specs.CycleSoFar.{CycleSoFar, past_after, with_objects}
use Rattle.run_laws.specs.SweepFacts.{Notes}
use Rattle.run_laws.specs.PlacingFacts.{Fills}
use Rattle.run_laws.specs.ObjectFacts.{Objects}
use Rattle.run_laws.specs.Facts.{AreGivesOld, Marks, Facts}
use Rattle.run_laws.specs.Underway.{IsUnderway}
use Rattle.run_laws.specs.StepNeeds.{MayRefuse}
use Rattle.run_laws.specs.Steps.{put, after_refuse, refusal_entry}
use Rattle.run_laws.proofs.Underway.{put_here, put_else}
use Rattle.run_laws.proofs.Steps.{HasEnded, ended-sweeps, ended-holdings, ended-places}

-- ---- a refusal

placings-refused : (c : ℕ) (logs : ℕ → List Entry) (w v : ℕ) (x : Refusal) → placings (put logs w (refusal_entry c x ∷ logs w) v) ≡ placings (logs v)
placings-refused c logs w v x = elim (cases_eq v w) [
  | inl same ↦ ap placings (put_here logs w v (refusal_entry c x ∷ logs w) same) ∙ ap (λ (n : ℕ). placings (logs n)) (sym same)
  | inr other ↦ ap placings (put_else logs w v (refusal_entry c x ∷ logs w) other)
]

sweepings-refused : (c : ℕ) (logs : ℕ → List Entry) (w v : ℕ) (x : Refusal) → sweepings (put logs w (refusal_entry c x ∷ logs w) v) ≡ sweepings (logs v)
sweepings-refused c logs w v x = elim (cases_eq v w) [
  | inl same ↦ ap sweepings (put_here logs w v (refusal_entry c x ∷ logs w) same) ∙ ap (λ (n : ℕ). sweepings (logs n)) (sym same)
  | inr other ↦ ap sweepings (put_else logs w v (refusal_entry c x ∷ logs w) other)
]

more-refused : (c : ℕ) (logs : ℕ → List Entry) (w v : ℕ) (x y : Refusal) → In y (refusals (put logs w (refusal_entry c x ∷ logs w) v)) → ((x ≡ y) × (v ≡ w)) ⊎ In y (refusals (logs v))
more-refused c logs w v x y h = elim (cases_eq v w) [
  | inl same ↦ (
      let h' : (x ≡ y) ⊎ In y (refusals (logs w)) = subst (λ (l : List Entry). In y (refusals l)) (put_here logs w v (refusal_entry c x ∷ logs w) same) h in
      elim h' [ inl new ↦ inl (new, same) | inr was ↦ inr (rw same was) ])
  | inr other ↦ inr (subst (λ (l : List Entry). In y (refusals l)) (put_else logs w v (refusal_entry c x ∷ logs w) other) h)
]

pub refuse-keeps : (region goal : ℕ) (e : CycleSoFar) (waits : ℕ → Bool) (w : ℕ) (x : Refusal) → IsUnderway region goal e waits → MayRefuse e x → IsUnderway region goal (after_refuse e w x) waits
refuse-keeps region goal e waits w x now may =
    let p : (v : ℕ) (a : Placing) → In a (placings (put e.logs w (refusal_entry e.cycle x ∷ e.logs w) v)) → In a (placings (e.logs v)) = λ v a h. subst (λ (l : List Placing). In a l) (placings-refused e.cycle e.logs w v x) h in
    let s : (v : ℕ) (t : Sweeping) → In t (sweepings (put e.logs w (refusal_entry e.cycle x ∷ e.logs w) v)) → In t (sweepings (e.logs v)) = λ v t h. subst (λ (l : List Sweeping). In t l) (sweepings-refused e.cycle e.logs w v x) h in
    let s' : (v : ℕ) (t : Sweeping) → In t (sweepings (e.logs v)) → In t (sweepings (put e.logs w (refusal_entry e.cycle x ∷ e.logs w) v)) = λ v t h. subst (λ (l : List Sweeping). In t l) (sym (sweepings-refused e.cycle e.logs w v x)) h in
    record {
      writes = record { legal = now.writes.legal; now = now.writes.now; gives = gives-same e.logs (put e.logs w (refusal_entry e.cycle x ∷ e.logs w)) e.before s' e.lines now.writes.gives };
      waiting = record {
        old = now.waiting.old;
        as_before = now.waiting.as_before;
        not_placed = λ v a h. now.waiting.not_placed v a (p v a h);
        not_swept = λ v t h. now.waiting.not_swept v t (s v t h);
      };
      sweeps = record {
        each = λ l h is. (let was = now.sweeps.each l h is in (was.0, was.1, s' was.0 was.1 was.2, was.3));
        only = λ v t h. now.sweeps.only v t (s v t h);
        kept = λ v t l h. now.sweeps.kept v t l (s v t h);
        freed = λ v t l h. now.sweeps.freed v t l (s v t h);
        once = λ v. subst (λ (l : List Sweeping). AllApart (λ (a b : Sweeping). a.page ≢ b.page) l) (sym (sweepings-refused e.cycle e.logs w v x)) (now.sweeps.once v);
        one_sweeper = λ u v a b ha hb. now.sweeps.one_sweeper u v a b (s u a ha) (s v b hb);
      };
      places = record {
        here = λ v a h. now.places.here v a (p v a h);
        below = λ v a h. now.places.below v a (p v a h);
        unmarked = λ v a h. now.places.unmarked v a (p v a h);
        apart = λ v. subst (λ (l : List Placing). AllApart (λ (a b : Placing). a.page ≡ b.page → a.index ≢ b.index) l) (sym (placings-refused e.cycle e.logs w v x)) (now.places.apart v);
        one_log = λ u v a b ha hb. now.places.one_log u v a b (p u a ha) (p v b hb);
      };
      holds = record {
        from = λ l k h is on. elim (now.holds.from l k h is on) [
          | inl mark ↦ inl mark
          | inr at ↦ inr (at.0, at.1, subst (λ (x : List Placing). In at.1 x) (sym (placings-refused e.cycle e.logs w at.0 x)) at.2, at.3, at.4)
        ];
        marked = now.holds.marked;
        placed = λ v a h. now.holds.placed v a (p v a h);
        marked_open = now.holds.marked_open;
        marked_known = now.holds.marked_known;
      };
      numbered = λ v a h. now.numbered v a (p v a h);
      fills = λ v. subst (λ (l : List Placing). Fills e.marks l) (sym (placings-refused e.cycle e.logs w v x)) (now.fills v);
      misses = record {
        named = λ v y h. elim (more-refused e.cycle e.logs w v x y h) [
          | inl new ↦ rw (sym new.0) may.named
          | inr was ↦ now.misses.named v y was
        ];
        apart = λ v. elim (cases_eq v w) [
          | inl same ↦ (
              let all : AllApart (λ (y z : Refusal). y.number ≢ z.number) (refusals (refusal_entry e.cycle x ∷ e.logs w)) = ((λ y h n. may.alone w y h (sym n)), now.misses.apart w) in
              subst (λ (l : List Entry). AllApart (λ (y z : Refusal). y.number ≢ z.number) (refusals l)) (sym (put_here e.logs w v (refusal_entry e.cycle x ∷ e.logs w) same)) all)
          | inr other ↦ subst (λ (l : List Entry). AllApart (λ (y z : Refusal). y.number ≢ z.number) (refusals l)) (sym (put_else e.logs w v (refusal_entry e.cycle x ∷ e.logs w) other)) (now.misses.apart v)
        ];
        one_log = λ u v y z hy hz same. elim (more-refused e.cycle e.logs w u x y hy) [
          | inl y-new ↦ elim (more-refused e.cycle e.logs w v x z hz) [
            | inl z-new ↦ y-new.1 ∙ sym z-new.1
            | inr z-old ↦ absurd (may.alone v z z-old (sym same ∙ ap (λ (r : Refusal). r.number) (sym y-new.0)))
          ]
          | inr y-old ↦ elim (more-refused e.cycle e.logs w v x z hz) [
            | inl z-new ↦ absurd (may.alone u y y-old (same ∙ ap (λ (r : Refusal). r.number) (sym z-new.0)))
            | inr z-old ↦ now.misses.one_log u v y z y-old z-old same
          ]
        ];
      };
    }
  where
    gives-same : (old new : ℕ → List Entry) (before : List Line) → ((v : ℕ) (t : Sweeping) → In t (sweepings (old v)) → In t (sweepings (new v))) → (lines : List Line)
        → AreGivesOld old before lines → AreGivesOld new before lines
    gives-same old new before more [] gives = tt
    gives-same old new before more (Take cycle page pages class ∷ lines) gives = gives-same old new before more lines gives
    gives-same old new before more (Miss cycle pages class ∷ lines) gives = gives-same old new before more lines gives
    gives-same old new before more (Scav cycle page pages ∷ lines) gives = gives-same old new before more lines gives
    gives-same old new before more (Give cycle page pages ∷ lines) gives = (
      (λ l h begins. (let g = gives.0 l h begins in (g.0, (g.1.0, g.1.1, more g.1.0 g.1.1 g.1.2, g.1.3, g.1.4)))),
      gives-same old new before more lines gives.1,
    )
    gives-same old new before more (Pull cycle proc page pages ∷ lines) gives = gives-same old new before more lines gives
    gives-same old new before more (Cut cycle proc page pages class ∷ lines) gives = gives-same old new before more lines gives
    gives-same old new before more (Drop cycle proc page pages ∷ lines) gives = gives-same old new before more lines gives

-- ---- the whole cycle

-- a cycle that was under way, as it has ended
pub underway-facts : (marked : Marking) (region goal : ℕ) (objects news : List Object) (notes : List SweepNote) (e : CycleSoFar) (waits : ℕ → Bool) → IsUnderway region goal e waits → HasEnded e waits
    → Notes (with_objects e news notes) → Marks marked objects (with_objects e news notes) → Objects marked objects (with_objects e news notes) → IsScavenged region goal (past_after e)
    → Facts marked region goal objects (with_objects e news notes)
underway-facts marked region goal objects news notes e waits now end tells marks are scavenged =
    let sweeps = ended-sweeps region goal e waits now end in
    let holds = ended-holdings region goal e waits now end in
    let places = ended-places region goal e waits now end in
    record {
      writes = record { legal = now.writes.legal; now = now.writes.now; gives = now.writes.gives };
      sweeps = record { each = sweeps.each; only = sweeps.only; kept = sweeps.kept; freed = sweeps.freed };
      notes = tells;
      marks = marks;
      places = record { here = places.here; below = places.below; unmarked = places.unmarked; apart = places.apart; one_log = places.one_log };
      holdings = record { from = holds.from; marked = holds.marked; placed = holds.placed; some = holds.some };
      fills = now.fills;
      objects_are = are;
      misses = record { named = now.misses.named; apart = now.misses.apart; one_log = now.misses.one_log };
      scavenged = scavenged;
    }

-- ---- other functions with the same values

-- the cycle so far with other bits
abbrev pub with_bits : CycleSoFar → (ℕ → ℕ → Bool) → CycleSoFar
with_bits e bits = record { cycle = e.cycle; before = e.before; lines = e.lines; known = e.known; carried = e.carried; marks = e.marks; bits = bits; logs = e.logs; news = e.news; notes = e.notes }

-- bits and waiting pages of which each has the same value do as well
pub underway-alike : (region goal : ℕ) (e : CycleSoFar) (waits waits' : ℕ → Bool) (bits : ℕ → ℕ → Bool) → IsUnderway region goal e waits → ((p k : ℕ) → bits p k ≡ e.bits p k) → ((p : ℕ) → waits' p ≡ waits p)
    → IsUnderway region goal (with_bits e bits) waits'
underway-alike region goal e waits waits' bits now same same' = record {
  writes = record { legal = now.writes.legal; now = now.writes.now; gives = now.writes.gives };
  waiting = record {
    old = λ p is. now.waiting.old p (sym (same' p) ∙ is);
    as_before = λ p k is. same p k ∙ now.waiting.as_before p k (sym (same' p) ∙ is);
    not_placed = λ w a h. same' a.page ∙ now.waiting.not_placed w a h;
    not_swept = λ w s h. same' s.page ∙ now.waiting.not_swept w s h;
  };
  sweeps = record { each = λ l h is. now.sweeps.each l h (sym (same' l.page) ∙ is); only = now.sweeps.only; kept = now.sweeps.kept; freed = now.sweeps.freed; once = now.sweeps.once; one_sweeper = now.sweeps.one_sweeper };
  places = record { here = now.places.here; below = now.places.below; unmarked = now.places.unmarked; apart = now.places.apart; one_log = now.places.one_log };
  holds = record {
    from = λ l k h is on. now.holds.from l k h (sym (same' l.page) ∙ is) (sym (same l.page k) ∙ on);
    marked = λ l k h is on. same l.page k ∙ now.holds.marked l k h (sym (same' l.page) ∙ is) on;
    placed = λ w a h. same a.page a.index ∙ now.holds.placed w a h;
    marked_open = now.holds.marked_open;
    marked_known = now.holds.marked_known;
  };
  numbered = now.numbered;
  fills = now.fills;
  misses = record { named = now.misses.named; apart = now.misses.apart; one_log = now.misses.one_log };
}
