-- Each step of a cycle keeps what is kept of a cycle under way, and what it has at the end.
use Rattle.std.proofs.Common.{◌≡◌, ◌≢◌, ℕ, Bool, true, false, List, [], ◌∷◌, ◌++◌, refl, sym, ◌∙◌, ap, subst, ◌⊎◌, inl, inr}
use Rattle.std.proofs.lemmas.Bool.{cases_eq, eq-eqb, ne_eqb}
use Rattle.page_bitmap.specs.declared.line.Line.{Line}
use Rattle.page_bitmap.specs.declared.line.Line.TheVariants.{Take, Miss, Give, Scav, Pull, Cut, Drop}
use Rattle.page_alloc.specs.Lists.{In, AllApart}
use Rattle.page_alloc.specs.Lives.{Life, open_lives}
use Rattle.sound_run.specs.Run.{IsJournal}
use Rattle.sound_run.proofs.Journals.{same_page}
use Rattle.worker_log.specs.declared.Entry.{Entry}
use Rattle.worker_log.specs.declared.Entry.TheVariants.{Allocated, Swept}
use Rattle.worker_log.specs.declared.Placing.{Placing}
use Rattle.worker_log.specs.declared.Sweeping.{Sweeping}
use Rattle.worker_log.specs.Logs.{Refusal, placings, sweepings, refusals}
use Rattle.run_laws.specs.CycleSoFar.{CycleSoFar, past_after}
use Rattle.run_laws.specs.PlacingFacts.{Fills}
use Rattle.run_laws.specs.Facts.{AreGivesOld}
use Rattle.run_laws.specs.Underway.{IsUnderway}
use Rattle.run_laws.specs.StepNeeds.{MaySweep}
use Rattle.run_laws.specs.Steps.{put, after_sweep}

-- ---- one place

pub put_here : {A : Type 0} (f : ℕ → A) (n k : ℕ) (x : A) → k ≡ n → put f n x k ≡ x
put_here f n k x same = let e = eq-eqb k n same in rw e refl

pub put_else : {A : Type 0} (f : ℕ → A) (n k : ℕ) (x : A) → k ≢ n → put f n x k ≡ f k
put_else f n k x other = let e = ne_eqb k n other in rw e refl

-- ---- one entry more

pub placings-swept : (logs : ℕ → List Entry) (w v : ℕ) (s : Sweeping) → placings (put logs w (Swept s ∷ logs w) v) ≡ placings (logs v)
placings-swept logs w v s = elim (cases_eq v w) [
  | inl same ↦ ap placings (put_here logs w v (Swept s ∷ logs w) same) ∙ ap (λ (n : ℕ). placings (logs n)) (sym same)
  | inr other ↦ ap placings (put_else logs w v (Swept s ∷ logs w) other)
]

pub refusals-swept : (logs : ℕ → List Entry) (w v : ℕ) (s : Sweeping) → refusals (put logs w (Swept s ∷ logs w) v) ≡ refusals (logs v)
refusals-swept logs w v s = elim (cases_eq v w) [
  | inl same ↦ ap refusals (put_here logs w v (Swept s ∷ logs w) same) ∙ ap (λ (n : ℕ). refusals (logs n)) (sym same)
  | inr other ↦ ap refusals (put_else logs w v (Swept s ∷ logs w) other)
]

pub sweepings-placed : (logs : ℕ → List Entry) (w v : ℕ) (a : Placing) → sweepings (put logs w (Allocated a ∷ logs w) v) ≡ sweepings (logs v)
sweepings-placed logs w v a = elim (cases_eq v w) [
  | inl same ↦ ap sweepings (put_here logs w v (Allocated a ∷ logs w) same) ∙ ap (λ (n : ℕ). sweepings (logs n)) (sym same)
  | inr other ↦ ap sweepings (put_else logs w v (Allocated a ∷ logs w) other)
]

pub refusals-placed : (logs : ℕ → List Entry) (w v : ℕ) (a : Placing) → refusals (put logs w (Allocated a ∷ logs w) v) ≡ refusals (logs v)
refusals-placed logs w v a = elim (cases_eq v w) [
  | inl same ↦ ap refusals (put_here logs w v (Allocated a ∷ logs w) same) ∙ ap (λ (n : ℕ). refusals (logs n)) (sym same)
  | inr other ↦ ap refusals (put_else logs w v (Allocated a ∷ logs w) other)
]

-- the sweeps of a log with one more, and whose log it is
pub more-swept-at : (logs : ℕ → List Entry) (w v : ℕ) (s t : Sweeping) → In t (sweepings (put logs w (Swept s ∷ logs w) v)) → ((s ≡ t) × (v ≡ w)) ⊎ In t (sweepings (logs v))
more-swept-at logs w v s t h = elim (cases_eq v w) [
  | inl same ↦ (
      let h' : (s ≡ t) ⊎ In t (sweepings (logs w)) = subst (λ (l : List Entry). In t (sweepings l)) (put_here logs w v (Swept s ∷ logs w) same) h in
      elim h' [ inl new ↦ inl (new, same) | inr was ↦ inr (rw same was) ])
  | inr other ↦ inr (subst (λ (l : List Entry). In t (sweepings l)) (put_else logs w v (Swept s ∷ logs w) other) h)
]

-- the sweeps of a log with one more
pub more-swept : (logs : ℕ → List Entry) (w v : ℕ) (s t : Sweeping) → In t (sweepings (put logs w (Swept s ∷ logs w) v)) → (s ≡ t) ⊎ In t (sweepings (logs v))
more-swept logs w v s t h = elim (cases_eq v w) [
  | inl same ↦ (
      let e = put_here logs w v (Swept s ∷ logs w) same in
      let h' : (s ≡ t) ⊎ In t (sweepings (logs w)) = subst (λ (l : List Entry). In t (sweepings l)) e h in
      elim h' [ inl new ↦ inl new | inr was ↦ inr (rw same was) ])
  | inr other ↦ inr (subst (λ (l : List Entry). In t (sweepings l)) (put_else logs w v (Swept s ∷ logs w) other) h)
]

pub was_swept : (logs : ℕ → List Entry) (w v : ℕ) (s t : Sweeping) → In t (sweepings (logs v)) → In t (sweepings (put logs w (Swept s ∷ logs w) v))
was_swept logs w v s t h = elim (cases_eq v w) [
  | inl same ↦ (
      let there : In t (sweepings (logs w)) = subst (λ (n : ℕ). In t (sweepings (logs n))) same h in
      let more : In t (sweepings (Swept s ∷ logs w)) = inr there in
      subst (λ (l : List Entry). In t (sweepings l)) (sym (put_here logs w v (Swept s ∷ logs w) same)) more)
  | inr other ↦ subst (λ (l : List Entry). In t (sweepings l)) (sym (put_else logs w v (Swept s ∷ logs w) other)) h
]

pub now-swept : (logs : ℕ → List Entry) (w : ℕ) (s : Sweeping) → In s (sweepings (put logs w (Swept s ∷ logs w) w))
now-swept logs w s =
    let more : In s (sweepings (Swept s ∷ logs w)) = inl refl in
    subst (λ (l : List Entry). In s (sweepings l)) (sym (put_here logs w w (Swept s ∷ logs w) refl)) more

-- the placings of a log with one more
pub more-placed : (logs : ℕ → List Entry) (w v : ℕ) (a b : Placing) → In b (placings (put logs w (Allocated a ∷ logs w) v)) → ((a ≡ b) × (v ≡ w)) ⊎ In b (placings (logs v))
more-placed logs w v a b h = elim (cases_eq v w) [
  | inl same ↦ (
      let e = put_here logs w v (Allocated a ∷ logs w) same in
      let h' : (a ≡ b) ⊎ In b (placings (logs w)) = subst (λ (l : List Entry). In b (placings l)) e h in
      elim h' [ inl new ↦ inl (new, same) | inr was ↦ inr (rw same was) ])
  | inr other ↦ inr (subst (λ (l : List Entry). In b (placings l)) (put_else logs w v (Allocated a ∷ logs w) other) h)
]

pub was_placed : (logs : ℕ → List Entry) (w v : ℕ) (a b : Placing) → In b (placings (logs v)) → In b (placings (put logs w (Allocated a ∷ logs w) v))
was_placed logs w v a b h = elim (cases_eq v w) [
  | inl same ↦ (
      let there : In b (placings (logs w)) = subst (λ (n : ℕ). In b (placings (logs n))) same h in
      let more : In b (placings (Allocated a ∷ logs w)) = inr there in
      subst (λ (l : List Entry). In b (placings l)) (sym (put_here logs w v (Allocated a ∷ logs w) same)) more)
  | inr other ↦ subst (λ (l : List Entry). In b (placings l)) (sym (put_else logs w v (Allocated a ∷ logs w) other)) h
]

pub now-placed : (logs : ℕ → List Entry) (w : ℕ) (a : Placing) → In a (placings (put logs w (Allocated a ∷ logs w) w))
now-placed logs w a =
    let more : In a (placings (Allocated a ∷ logs w)) = inl refl in
    subst (λ (l : List Entry). In a (placings l)) (sym (put_here logs w w (Allocated a ∷ logs w) refl)) more

-- ---- a sweep

pub sweep-keeps : (region goal : ℕ) (e : CycleSoFar) (waits : ℕ → Bool) (w : ℕ) (life : Life) (s : Sweeping) → IsUnderway region goal e waits → MaySweep e waits life s
    → IsUnderway region goal (after_sweep e w life s) (put waits life.page false)
sweep-keeps region goal e waits w life s now may =
    let before_legal = legal-before region goal e.lines e.before now.writes.legal in
    let here : In life (open_lives (past_after e)) = (
    let at = now.waiting.old life.page may.waits_now in
    let same : at.0 ≡ life = same_page region goal e.before at.0 life before_legal at.1 may.old at.3 in
    subst (λ (l : Life). In l (open_lives (past_after e))) same at.2) in
    let less : (p : ℕ) → put waits life.page false p ≡ true → (p ≢ life.page) × (waits p ≡ true) = λ p h. elim (cases_eq p life.page) [
      | inl same ↦ (let e1 = put_here waits life.page p false same in absurd cc)
      | inr other ↦ (other, sym (put_else waits life.page p false other) ∙ h)
    ] in
    let off : (p : ℕ) → waits p ≡ false → put waits life.page false p ≡ false = λ p h. elim (cases_eq p life.page) [
      | inl same ↦ put_here waits life.page p false same
      | inr other ↦ put_else waits life.page p false other ∙ h
    ] in
    let back : (v : ℕ) (a : Placing) → In a (placings (put e.logs w (Swept s ∷ e.logs w) v)) → In a (placings (e.logs v)) = λ v a h. subst (λ (l : List Placing). In a l) (placings-swept e.logs w v s) h in
    let there : (v : ℕ) (a : Placing) → In a (placings (e.logs v)) → In a (placings (put e.logs w (Swept s ∷ e.logs w) v)) = λ v a h. subst (λ (l : List Placing). In a l) (sym (placings-swept e.logs w v s)) h in
    let from-new : (v : ℕ) (x : Refusal) → In x (refusals (put e.logs w (Swept s ∷ e.logs w) v)) → In x (refusals (e.logs v)) = λ v x h. subst (λ (l : List Refusal). In x l) (refusals-swept e.logs w v s) h in
    let placed_else : (v : ℕ) (a : Placing) → In a (placings (e.logs v)) → a.page ≢ life.page = λ v a h same. (let x = now.waiting.not_placed v a h in let y = may.waits_now in let z : waits a.page ≡ waits life.page = ap waits same in let none : ⊥ = cc in none) in
    let differ : (v : ℕ) (t : Sweeping) → In t (sweepings (e.logs v)) → s.page ≡ t.page → ⊥ = λ v t h page. (
    let x = now.waiting.not_swept v t h in
    let y = may.waits_now in
    let z : waits t.page ≡ waits life.page = ap waits (sym page ∙ may.page) in
    let none : ⊥ = cc in
    none) in
    let one : (t : Sweeping) (l : Life) → s ≡ t → In l (open_lives e.before) → t.page ≡ l.page → l ≡ life = λ t l new h page. (
    same_page region goal e.before l life before_legal h may.old (sym page ∙ ap (λ (x : Sweeping). x.page) (sym new) ∙ may.page)) in
    record {
      writes = record { legal = now.writes.legal; now = now.writes.now; gives = gives-more e.logs (put e.logs w (Swept s ∷ e.logs w)) e.before (λ v t h. was_swept e.logs w v s t h) e.lines now.writes.gives };
      waiting = record {
        old = λ p is. now.waiting.old p (less p is).1;
        as_before = λ p k is. (let x = less p is in ap (λ (f : ℕ → Bool). f k) (put_else e.bits life.page p (e.marks life.page) x.0) ∙ now.waiting.as_before p k x.1);
        not_placed = λ v a h. off a.page (now.waiting.not_placed v a (back v a h));
        not_swept = λ v t h. elim (more-swept e.logs w v s t h) [
          | inl new ↦ put_here waits life.page t.page false (ap (λ (x : Sweeping). x.page) (sym new) ∙ may.page)
          | inr was ↦ off t.page (now.waiting.not_swept v t was)
        ];
      };
      sweeps = record {
        each = λ l h is. elim (cases_eq l.page life.page) [
          | inl same ↦ (w, s, now-swept e.logs w s, may.page ∙ sym same)
          | inr other ↦ (
              let was = now.sweeps.each l h (sym (put_else waits life.page l.page false other) ∙ is) in
              (was.0, was.1, was_swept e.logs w was.0 s was.1 was.2, was.3))
        ];
        only = λ v t h. elim (more-swept e.logs w v s t h) [
          | inl new ↦ (life, may.old, ap (λ (x : Sweeping). x.page) (sym new) ∙ may.page)
          | inr was ↦ now.sweeps.only v t was
        ];
        kept = λ v t l h hl page. elim (more-swept e.logs w v s t h) [
          | inl new ↦ (let e1 = one t l new hl page in rw (e1, sym new) may.kept)
          | inr was ↦ now.sweeps.kept v t l was hl page
        ];
        freed = λ v t l h hl page. elim (more-swept e.logs w v s t h) [
          | inl new ↦ (let e1 = one t l new hl page in rw (e1, sym new) may.freed)
          | inr was ↦ now.sweeps.freed v t l was hl page
        ];
        once = λ v. elim (cases_eq v w) [
          | inl same ↦ (
              let all : AllApart (λ (x y : Sweeping). x.page ≢ y.page) (sweepings (Swept s ∷ e.logs w)) = ((λ t h page. differ w t h page), now.sweeps.once w) in
              subst (λ (l : List Entry). AllApart (λ (x y : Sweeping). x.page ≢ y.page) (sweepings l)) (sym (put_here e.logs w v (Swept s ∷ e.logs w) same)) all)
          | inr other ↦ subst (λ (l : List Entry). AllApart (λ (x y : Sweeping). x.page ≢ y.page) (sweepings l)) (sym (put_else e.logs w v (Swept s ∷ e.logs w) other)) (now.sweeps.once v)
        ];
        one_sweeper = λ u v x y hx hy page. elim (more-swept-at e.logs w u s x hx) [
          | inl x-new ↦ elim (more-swept-at e.logs w v s y hy) [
            | inl y-new ↦ x-new.1 ∙ sym y-new.1
            | inr y-old ↦ absurd (differ v y y-old (ap (λ (t : Sweeping). t.page) x-new.0 ∙ page))
          ]
          | inr x-old ↦ elim (more-swept-at e.logs w v s y hy) [
            | inl y-new ↦ absurd (differ u x x-old (ap (λ (t : Sweeping). t.page) y-new.0 ∙ sym page))
            | inr y-old ↦ now.sweeps.one_sweeper u v x y x-old y-old page
          ]
        ];
      };
      places = record {
        here = λ v a h. now.places.here v a (back v a h);
        below = λ v a h. now.places.below v a (back v a h);
        unmarked = λ v a h. now.places.unmarked v a (back v a h);
        apart = λ v. subst (λ (l : List Placing). AllApart (λ (a b : Placing). a.page ≡ b.page → a.index ≢ b.index) l) (sym (placings-swept e.logs w v s)) (now.places.apart v);
        one_log = λ u v a b ha hb same. now.places.one_log u v a b (back u a ha) (back v b hb) same;
      };
      holds = record {
        from = λ l k h is on. elim (cases_eq l.page life.page) [
          | inl same ↦ (
              let b = ap (λ (f : ℕ → Bool). f k) (put_here e.bits life.page l.page (e.marks life.page) same) in
              inl (ap (λ (p : ℕ). e.marks p k) same ∙ sym b ∙ on))
          | inr other ↦ (
              let b = ap (λ (f : ℕ → Bool). f k) (put_else e.bits life.page l.page (e.marks life.page) other) in
              elim (now.holds.from l k h (sym (put_else waits life.page l.page false other) ∙ is) (sym b ∙ on)) [
                | inl mark ↦ inl mark
                | inr at ↦ inr (at.0, at.1, there at.0 at.1 at.2, at.3, at.4)
              ])
        ];
        marked = λ l k h is on. elim (cases_eq l.page life.page) [
          | inl same ↦ (
              let b = ap (λ (f : ℕ → Bool). f k) (put_here e.bits life.page l.page (e.marks life.page) same) in
              b ∙ ap (λ (p : ℕ). e.marks p k) (sym same) ∙ on)
          | inr other ↦ (
              let b = ap (λ (f : ℕ → Bool). f k) (put_else e.bits life.page l.page (e.marks life.page) other) in
              b ∙ now.holds.marked l k h (sym (put_else waits life.page l.page false other) ∙ is) on)
        ];
        placed = λ v a h. (
            let was = back v a h in
            ap (λ (f : ℕ → Bool). f a.index) (put_else e.bits life.page a.page (e.marks life.page) (placed_else v a was)) ∙ now.holds.placed v a was);
        marked_open = now.holds.marked_open;
        marked_known = now.holds.marked_known;
      };
      numbered = λ v a h. now.numbered v a (back v a h);
      fills = λ v. subst (λ (l : List Placing). Fills e.marks l) (sym (placings-swept e.logs w v s)) (now.fills v);
      misses = record {
        named = λ v x h. now.misses.named v x (from-new v x h);
        apart = λ v. subst (λ (l : List Refusal). AllApart (λ (x y : Refusal). x.number ≢ y.number) l) (sym (refusals-swept e.logs w v s)) (now.misses.apart v);
        one_log = λ u v x y hx hy same. now.misses.one_log u v x y (from-new u x hx) (from-new v y hy) same;
      };
    }
  where
    legal-before : (region goal : ℕ) (lines before : List Line) → IsJournal region goal (lines ++ before) → IsJournal region goal before
    legal-before region goal [] before legal = legal
    legal-before region goal (line ∷ lines) before legal = legal-before region goal lines before legal.2

    gives-more : (old new : ℕ → List Entry) (before : List Line) → ((v : ℕ) (t : Sweeping) → In t (sweepings (old v)) → In t (sweepings (new v))) → (lines : List Line)
        → AreGivesOld old before lines → AreGivesOld new before lines
    gives-more old new before more [] gives = tt
    gives-more old new before more (Take cycle page pages class ∷ lines) gives = gives-more old new before more lines gives
    gives-more old new before more (Miss cycle pages class ∷ lines) gives = gives-more old new before more lines gives
    gives-more old new before more (Scav cycle page pages ∷ lines) gives = gives-more old new before more lines gives
    gives-more old new before more (Give cycle page pages ∷ lines) gives = (
      (λ l h begins. (let g = gives.0 l h begins in (g.0, (g.1.0, g.1.1, more g.1.0 g.1.1 g.1.2, g.1.3, g.1.4)))),
      gives-more old new before more lines gives.1,
    )
    gives-more old new before more (Pull cycle proc page pages ∷ lines) gives = gives-more old new before more lines gives
    gives-more old new before more (Cut cycle proc page pages class ∷ lines) gives = gives-more old new before more lines gives
    gives-more old new before more (Drop cycle proc page pages ∷ lines) gives = gives-more old new before more lines gives
