-- The other steps of a cycle under way, its start and its end.
use Rattle.std.proofs.Common.{◌≡◌, ◌≢◌, ℕ, Bool, true, false, eqb, List, [], ◌∷◌, ◌++◌, ◌-◌, map, Some, length, refl, sym, ◌∙◌, ap, subst, arith, ◌⊎◌, inl, inr}
use Rattle.std.proofs.lemmas.Bool.{cases_eq, cases_Bool, eq-eqb, eqb-true, or_left, or_right, or_cases, false_from_ne_true}
use Rattle.std.proofs.lemmas.List.{append_assoc}
use Rattle.page_bitmap.specs.declared.line.Line.{Line}
use Rattle.page_bitmap.specs.declared.line.Line.TheVariants.{Take, Miss, Give, Scav, Pull, Cut, Drop}
use Rattle.page_alloc.specs.Lists.{In, AllApart}
use Rattle.page_alloc.specs.Lives.{Life, life_of, open_lives, others}
use Rattle.page_alloc.specs.Journal.{cycle_of}
use Rattle.page_alloc.proofs.Lives.{from_others, to_others}
use Rattle.sound_run.proofs.Journals.{same_page}
use Rattle.span_state.specs.Bits.{count_below, with_bit}
use Rattle.span_state.specs.Counts.{count_below-none}
use Rattle.sound_run.specs.Run.{count_for, IsJournal}
use Rattle.run_laws.specs.Lists.{begins_at}
use Rattle.worker_log.specs.declared.Entry.{Entry}
use Rattle.worker_log.specs.declared.Entry.TheVariants.{Allocated}
use Rattle.worker_log.specs.declared.Placing.{Placing}
use Rattle.worker_log.specs.declared.Sweeping.{Sweeping}
use Rattle.worker_log.specs.Logs.{Refusal, placings, sweepings, refusals}
use Rattle.run_laws.specs.CycleSoFar.{CycleSoFar, past_after}
use Rattle.run_laws.specs.SweepFacts.{Sweeps}
use Rattle.run_laws.specs.PlacingFacts.{Holdings, Fills, FillsNext, IsTaken, Places}
use Rattle.run_laws.specs.Facts.{AreGivesOld}
use Rattle.run_laws.specs.Underway.{IsUnderway, IsFresh}
use Rattle.run_laws.specs.StepNeeds.{MayAllocate, MayTake, MayGiveBack}
use Rattle.run_laws.specs.Steps.{put, after_allocate, after_line}
use Rattle.run_laws.specs.Blocks.{CutOut, OutBlock, cut_line, pages_cut, settled_lines}
use Rattle.run_laws.proofs.Lines.{was_open, page-there, page-absent, there-begins}
use Rattle.run_laws.proofs.Underway.{put_here, put_else, sweepings-placed, refusals-placed, more-placed, was_placed, now-placed}

-- ---- an allocation

-- an allocated index of a life that doesn't wait is taken in the log of the worker that has all its placings
bit-taken : (region goal : ℕ) (e : CycleSoFar) (waits : ℕ → Bool) (w : ℕ) (life : Life) (page j : ℕ) → IsUnderway region goal e waits → In life e.known → life.page ≡ page
    → waits page ≡ false → ((v : ℕ) (b : Placing) → In b (placings (e.logs v)) → b.page ≡ page → v ≡ w) → e.bits page j ≡ true → IsTaken e.marks (placings (e.logs w)) page j
bit-taken region goal e waits w life page j now here pg swept own on =
    elim (now.holds.from life j here (rw pg swept) (rw pg on)) [
      | inl mark ↦ inl (rw (sym pg) mark)
      | inr at ↦ (
          let same : at.0 ≡ w = own at.0 at.1 at.2 (at.3 ∙ pg) in
          let there : In at.1 (placings (e.logs w)) = subst (λ (v : ℕ). In at.1 (placings (e.logs v))) same at.2 in
          inr (at.1, there, at.3 ∙ pg, at.4))
    ]

pub allocate-keeps : (region goal : ℕ) (e : CycleSoFar) (waits : ℕ → Bool) (w : ℕ) (life : Life) (a : Placing) → IsUnderway region goal e waits → MayAllocate e waits w life a
    → IsUnderway region goal (after_allocate e w a) waits
allocate-keeps region goal e waits w life a now may =
    let new_bits : ℕ → Bool = with_bit a.index (e.bits a.page) in
    let at_here : (p k : ℕ) → p ≡ a.page → put e.bits a.page new_bits p k ≡ with_bit a.index (e.bits a.page) k = λ p k same. ap (λ (f : ℕ → Bool). f k) (put_here e.bits a.page p new_bits same) in
    let at_else : (p k : ℕ) → p ≢ a.page → put e.bits a.page new_bits p k ≡ e.bits p k = λ p k other. ap (λ (f : ℕ → Bool). f k) (put_else e.bits a.page p new_bits other) in
    let more : (p k : ℕ) → e.bits p k ≡ true → put e.bits a.page new_bits p k ≡ true = λ p k on. elim (cases_eq p a.page) [
      | inl same ↦ at_here p k same ∙ or_right (eqb k a.index) (e.bits a.page k) (ap (λ (i : ℕ). e.bits i k) (sym same) ∙ on)
      | inr other ↦ at_else p k other ∙ on
    ] in
    let swept-back : (v : ℕ) → sweepings (put e.logs w (Allocated a ∷ e.logs w) v) ≡ sweepings (e.logs v) = λ v. sweepings-placed e.logs w v a in
    let from-new : (v : ℕ) (x : Refusal) → In x (refusals (put e.logs w (Allocated a ∷ e.logs w) v)) → In x (refusals (e.logs v)) = λ v x h. subst (λ (l : List Refusal). In x l) (refusals-placed e.logs w v a) h in
    let unmarked : e.marks a.page a.index ≡ false = false_from_ne_true (e.marks a.page a.index) (λ on. (
    let on' : e.marks life.page a.index ≡ true = rw may.is_in.page on in
    let bit = now.holds.marked life a.index may.here (rw may.is_in.page may.swept) on' in
    let bit' : e.bits a.page a.index ≡ true = rw may.is_in.page at bit in
    let off = may.free in
    cc)) in
    let differ : (v : ℕ) (b : Placing) → In b (placings (e.logs v)) → a.page ≡ b.page → a.index ≢ b.index = λ v b h n i. (
    let on = now.holds.placed v b h in
    let on' : e.bits a.page a.index ≡ true = ap (λ (p : ℕ). e.bits p a.index) n ∙ ap (λ (k : ℕ). e.bits b.page k) i ∙ on in
    let off = may.free in
    cc) in
    record {
      writes = record { legal = now.writes.legal; now = now.writes.now; gives = gives-same e.logs (put e.logs w (Allocated a ∷ e.logs w)) e.before (λ v t h. subst (λ (l : List Sweeping). In t l) (sym (swept-back v)) h) e.lines now.writes.gives };
      waiting = record {
        old = now.waiting.old;
        as_before = λ p k is. (
            let other : p ≢ a.page = λ same. (let x = may.swept in let y : waits p ≡ waits a.page = ap waits same in let none : ⊥ = cc in none) in
            at_else p k other ∙ now.waiting.as_before p k is);
        not_placed = λ v b h. elim (more-placed e.logs w v a b h) [
          | inl new ↦ ap (λ (x : Placing). waits x.page) (sym new.0) ∙ may.swept
          | inr was ↦ now.waiting.not_placed v b was
        ];
        not_swept = λ v s h. now.waiting.not_swept v s (subst (λ (x : List Sweeping). In s x) (swept-back v) h);
      };
      sweeps = record {
        each = λ l h is. (let was = now.sweeps.each l h is in (was.0, was.1, subst (λ (x : List Sweeping). In was.1 x) (sym (swept-back was.0)) was.2, was.3));
        only = λ v s h. now.sweeps.only v s (subst (λ (x : List Sweeping). In s x) (swept-back v) h);
        kept = λ v s l h hl page. now.sweeps.kept v s l (subst (λ (x : List Sweeping). In s x) (swept-back v) h) hl page;
        freed = λ v s l h hl page. now.sweeps.freed v s l (subst (λ (x : List Sweeping). In s x) (swept-back v) h) hl page;
        once = λ v. subst (λ (l : List Sweeping). AllApart (λ (x y : Sweeping). x.page ≢ y.page) l) (sym (swept-back v)) (now.sweeps.once v);
        one_sweeper = λ u v x y hx hy page. now.sweeps.one_sweeper u v x y (subst (λ (l : List Sweeping). In x l) (swept-back u) hx) (subst (λ (l : List Sweeping). In y l) (swept-back v) hy) page;
      };
      places = record {
        here = λ v b h. elim (more-placed e.logs w v a b h) [
          | inl new ↦ rw (sym new.0) (life, may.here, may.is_in)
          | inr was ↦ now.places.here v b was
        ];
        below = λ v b h. elim (more-placed e.logs w v a b h) [
          | inl new ↦ rw (sym new.0) may.below
          | inr was ↦ now.places.below v b was
        ];
        unmarked = λ v b h. elim (more-placed e.logs w v a b h) [
          | inl new ↦ rw (sym new.0) unmarked
          | inr was ↦ now.places.unmarked v b was
        ];
        apart = λ v. elim (cases_eq v w) [
          | inl same ↦ (
              let all : AllApart (λ (x y : Placing). x.page ≡ y.page → x.index ≢ y.index) (placings (Allocated a ∷ e.logs w)) = ((λ b h. differ w b h), now.places.apart w) in
              subst (λ (l : List Entry). AllApart (λ (x y : Placing). x.page ≡ y.page → x.index ≢ y.index) (placings l)) (sym (put_here e.logs w v (Allocated a ∷ e.logs w) same)) all)
          | inr other ↦ subst (λ (l : List Entry). AllApart (λ (x y : Placing). x.page ≡ y.page → x.index ≢ y.index) (placings l)) (sym (put_else e.logs w v (Allocated a ∷ e.logs w) other)) (now.places.apart v)
        ];
        one_log = λ u v b c hb hc same. elim (more-placed e.logs w u a b hb) [
          | inl b-new ↦ elim (more-placed e.logs w v a c hc) [
            | inl c-new ↦ b-new.1 ∙ sym c-new.1
            | inr c-old ↦ b-new.1 ∙ sym (may.own v c c-old (sym same ∙ ap (λ (x : Placing). x.page) (sym b-new.0)))
          ]
          | inr b-old ↦ elim (more-placed e.logs w v a c hc) [
            | inl c-new ↦ may.own u b b-old (same ∙ ap (λ (x : Placing). x.page) (sym c-new.0)) ∙ sym c-new.1
            | inr c-old ↦ now.places.one_log u v b c b-old c-old same
          ]
        ];
      };
      holds = record {
        from = λ l k h is on. elim (cases_eq l.page a.page) [
          | inl same ↦ (
              let on' : with_bit a.index (e.bits a.page) k ≡ true = sym (at_here l.page k same) ∙ on in
              elim (or_cases (eqb k a.index) (e.bits a.page k) on') [
                | inl here ↦ inr (w, a, now-placed e.logs w a, sym same, sym (eqb-true k a.index here))
                | inr was ↦ elim (now.holds.from l k h is (ap (λ (i : ℕ). e.bits i k) same ∙ was)) [
                  | inl mark ↦ inl mark
                  | inr at ↦ inr (at.0, at.1, was_placed e.logs w at.0 a at.1 at.2, at.3, at.4)
                ]
              ])
          | inr other ↦ elim (now.holds.from l k h is (sym (at_else l.page k other) ∙ on)) [
            | inl mark ↦ inl mark
            | inr at ↦ inr (at.0, at.1, was_placed e.logs w at.0 a at.1 at.2, at.3, at.4)
          ]
        ];
        marked = λ l k h is on. more l.page k (now.holds.marked l k h is on);
        placed = λ v b h. elim (more-placed e.logs w v a b h) [
          | inl new ↦ (
              let n : b.page ≡ a.page = ap (λ (x : Placing). x.page) (sym new.0) in
              let i : b.index ≡ a.index = ap (λ (x : Placing). x.index) (sym new.0) in
              at_here b.page b.index n ∙ or_left (eqb b.index a.index) (e.bits a.page b.index) (eq-eqb b.index a.index i))
          | inr was ↦ more b.page b.index (now.holds.placed v b was)
        ];
        marked_open = now.holds.marked_open;
        marked_known = now.holds.marked_known;
      };
      numbered = λ v b h. elim (more-placed e.logs w v a b h) [
        | inl new ↦ (life, may.here, may.is_in.page ∙ ap (λ (x : Placing). x.page) new.0, may.number ∙ ap (λ (x : Placing). x.number) new.0)
        | inr was ↦ now.numbered v b was
      ];
      fills = λ v. elim (cases_eq v w) [
        | inl same ↦ (
            let next : FillsNext e.marks (placings (e.logs w)) a = record {
              lowest = λ j lt. bit-taken region goal e waits w life a.page j now may.here may.is_in.page may.swept may.own (may.least j lt);
              left_full = λ b h class other j lt. (
                  let at = now.places.here w b h in
                  bit-taken region goal e waits w at.0 b.page j now at.1 at.2.page (now.waiting.not_placed w b h)
                  (λ u c hc one. now.places.one_log u w c b hc h one) (may.left_full b h class other j lt));
            } in
            let all : Fills e.marks (placings (Allocated a ∷ e.logs w)) = ((λ small. next), now.fills w) in
            subst (λ (l : List Entry). Fills e.marks (placings l)) (sym (put_here e.logs w v (Allocated a ∷ e.logs w) same)) all)
        | inr other ↦ subst (λ (l : List Entry). Fills e.marks (placings l)) (sym (put_else e.logs w v (Allocated a ∷ e.logs w) other)) (now.fills v)
      ];
      misses = record {
        named = λ v x h. now.misses.named v x (from-new v x h);
        apart = λ v. subst (λ (l : List Refusal). AllApart (λ (x y : Refusal). x.number ≢ y.number) l) (sym (refusals-placed e.logs w v a)) (now.misses.apart v);
        one_log = λ u v x y hx hy same. now.misses.one_log u v x y (from-new u x hx) (from-new v y hy) same;
      };
    }
  where
    gives-same : (old new : ℕ → List Entry) (before : List Line) → ((v : ℕ) (t : Sweeping) → In t (sweepings (old v)) → In t (sweepings (new v))) → (lines : List Line)
        → AreGivesOld old before lines → AreGivesOld new before lines
    gives-same old new before more [] gives = tt
    gives-same old new before more (Take cycle page pages class ∷ lines) gives = gives-same old new before more lines gives
    gives-same old new before more (Miss cycle pages class ∷ lines) gives = gives-same old new before more lines gives
    gives-same old new before more (Scav cycle page pages ∷ lines) gives = gives-same old new before more lines gives
    gives-same old new before more (Give cycle page pages ∷ lines) gives = (
      (λ l h begins. (let g = gives.0 l h begins in (g.0, (g.1.0, g.1.1, more g.1.0 g.1.1 g.1.2, g.1.3, g.1.4)))),
      gives-same old new before more lines gives.1,
    )
    gives-same old new before more (Pull cycle proc page pages ∷ lines) gives = gives-same old new before more lines gives
    gives-same old new before more (Cut cycle proc page pages class ∷ lines) gives = gives-same old new before more lines gives
    gives-same old new before more (Drop cycle proc page pages ∷ lines) gives = gives-same old new before more lines gives

-- ---- a line

-- what a line asks of the cycle so far
pub record MayAdd (region goal : ℕ) (e : CycleSoFar) (waits : ℕ → Bool) (line : Line) : Type 0 where
  pub legal : IsJournal region goal (line ∷ past_after e)
  pub cycle : cycle_of line ≡ e.cycle
  pub gives : AreGivesOld e.logs e.before (line ∷ e.lines)
  pub stays : (life : Life) (k : ℕ) → In life (open_lives (past_after e)) → (waits life.page ≡ true) ⊎ (e.bits life.page k ≡ true) → In life (open_lives (line ∷ past_after e))

pub line-adds : (region goal : ℕ) (e : CycleSoFar) (waits : ℕ → Bool) (line : Line) → IsUnderway region goal e waits → MayAdd region goal e waits line → IsUnderway region goal (after_line e line) waits
line-adds region goal e waits line now may = record {
  writes = record {
    legal = may.legal;
    now = λ l h. elim h [ inl new ↦ ap cycle_of (sym new) ∙ may.cycle | inr old ↦ now.writes.now l old ];
    gives = may.gives;
  };
  waiting = record {
    old = λ p is. (let at = now.waiting.old p is in (at.0, at.1, may.stays at.0 0 at.2 (inl (rw at.3 is)), at.3));
    as_before = now.waiting.as_before;
    not_placed = now.waiting.not_placed;
    not_swept = now.waiting.not_swept;
  };
  sweeps = record { each = now.sweeps.each; only = now.sweeps.only; kept = now.sweeps.kept; freed = now.sweeps.freed; once = now.sweeps.once; one_sweeper = now.sweeps.one_sweeper };
  places = record { here = now.places.here; below = now.places.below; unmarked = now.places.unmarked; apart = now.places.apart; one_log = now.places.one_log };
  numbered = now.numbered;
  holds = record {
    from = now.holds.from;
    marked = now.holds.marked;
    placed = now.holds.placed;
    marked_open = λ page k on. (
        let at = now.holds.marked_open page k on in
        let told = now.holds.marked_known page k on in
        let there : told.0.page ≡ at.0.page = told.2 ∙ sym at.3 in
        let on' : e.marks told.0.page k ≡ true = ap (λ (p : ℕ). e.marks p k) told.2 ∙ on in (
          at.0,
          at.1,
          elim (cases_Bool (waits at.0.page)) [
            | inl is ↦ may.stays at.0 k at.2 (inl is)
            | inr isnt ↦ may.stays at.0 k at.2 (inr (ap (λ (p : ℕ). e.bits p k) (sym there) ∙ now.holds.marked told.0 k told.1 (ap waits there ∙ isnt) on'))
          ],
          at.3,
        ));
    marked_known = now.holds.marked_known;
  };
  fills = now.fills;
  misses = record {
    named = λ v x h. inr (now.misses.named v x h);
    apart = now.misses.apart;
    one_log = now.misses.one_log;
  };
}

-- ---- the lives that workers know

abbrev pub with_known : CycleSoFar → List Life → CycleSoFar
with_known e known = record { cycle = e.cycle; before = e.before; lines = e.lines; known = known; carried = e.carried; marks = e.marks; bits = e.bits; logs = e.logs; news = e.news; notes = e.notes }

-- what other known lives ask of the cycle so far
pub record MayKnow (e : CycleSoFar) (waits : ℕ → Bool) (known : List Life) : Type 0 where
  pub stays : (life : Life) (k : ℕ) → In life e.known → (waits life.page ≡ true) ⊎ (e.bits life.page k ≡ true) → In life known
  pub was : (life : Life) → In life known → In life e.known ⊎ (((k : ℕ) → e.bits life.page k ≡ false) × ((k : ℕ) → e.marks life.page k ≡ false))

pub known-changes : (region goal : ℕ) (e : CycleSoFar) (waits : ℕ → Bool) (known : List Life) → IsUnderway region goal e waits → MayKnow e waits known → IsUnderway region goal (with_known e known) waits
known-changes region goal e waits known now may = record {
  writes = record { legal = now.writes.legal; now = now.writes.now; gives = now.writes.gives };
  waiting = record { old = now.waiting.old; as_before = now.waiting.as_before; not_placed = now.waiting.not_placed; not_swept = now.waiting.not_swept };
  sweeps = record { each = now.sweeps.each; only = now.sweeps.only; kept = now.sweeps.kept; freed = now.sweeps.freed; once = now.sweeps.once; one_sweeper = now.sweeps.one_sweeper };
  places = record {
    here = λ v a h. (
        let at = now.places.here v a h in
        let on = now.holds.placed v a h in
        (at.0, may.stays at.0 a.index at.1 (inr (rw at.2.page on)), at.2));
    below = now.places.below;
    unmarked = now.places.unmarked;
    apart = now.places.apart;
    one_log = now.places.one_log;
  };
  numbered = λ v a h. (
      let at = now.numbered v a h in
      let on = now.holds.placed v a h in
      (at.0, may.stays at.0 a.index at.1 (inr (rw at.2 on)), at.2, at.3));
  holds = record {
    from = λ l k h is on. elim (may.was l h) [
      | inl old ↦ now.holds.from l k old is on
      | inr new ↦ (let off = new.0 k in let none : ⊥ = cc in absurd none)
    ];
    marked = λ l k h is on. elim (may.was l h) [
      | inl old ↦ now.holds.marked l k old is on
      | inr new ↦ (let off = new.1 k in let none : ⊥ = cc in absurd none)
    ];
    placed = now.holds.placed;
    marked_open = now.holds.marked_open;
    marked_known = λ page k on. (
        let at = now.holds.marked_known page k on in
        let on' : e.marks at.0.page k ≡ true = ap (λ (p : ℕ). e.marks p k) at.2 ∙ on in (
          at.0,
          elim (cases_Bool (waits at.0.page)) [
            | inl is ↦ may.stays at.0 k at.1 (inl is)
            | inr isnt ↦ may.stays at.0 k at.1 (inr (now.holds.marked at.0 k at.1 isnt on'))
          ],
          at.2,
        ));
  };
  fills = now.fills;
  misses = record { named = now.misses.named; apart = now.misses.apart; one_log = now.misses.one_log };
}

-- a life more that workers know, at a page where none began and nothing is allocated
pub life-known : (region goal : ℕ) (e : CycleSoFar) (waits : ℕ → Bool) (life : Life) → IsUnderway region goal e waits → ((k : ℕ) → e.bits life.page k ≡ false) → begins_at life.page e.known ≡ false
    → IsUnderway region goal (with_known e (life ∷ e.known)) waits
life-known region goal e waits life now fresh new = known-changes region goal e waits (life ∷ e.known) now record {
  stays = λ l k h why. inr h;
  was = λ l h. elim h [
    | inl here ↦ (
        let page : life.page ≡ l.page = ap (λ (x : Life). x.page) here in
        inr (
          (λ k. ap (λ (p : ℕ). e.bits p k) (sym page) ∙ fresh k),
          (λ k. false_from_ne_true (e.marks l.page k) (λ on. (let at = now.holds.marked_known l.page k on in page-absent life.page e.known at.0 new at.1 (at.2 ∙ sym page)))),
        ))
    | inr old ↦ inl old
  ];
}

-- ---- the lines of each kind

pub take-adds : (region goal : ℕ) (e : CycleSoFar) (waits : ℕ → Bool) (page pages class : ℕ) → IsUnderway region goal e waits → MayTake region goal e page pages class
    → IsUnderway region goal (with_known (after_line e (Take e.cycle page pages class)) (life_of (length (past_after e)) e.cycle page pages class ∷ e.known)) waits
take-adds region goal e waits page pages class now may =
    let added = line-adds region goal e waits (Take e.cycle page pages class) now record { legal = may.legal; cycle = refl; gives = now.writes.gives; stays = λ life k h why. inr h } in
    life-known region goal (after_line e (Take e.cycle page pages class)) waits (life_of (length (past_after e)) e.cycle page pages class) added may.fresh may.new

-- a line that makes no life and ends none
pub plain-adds : (region goal : ℕ) (e : CycleSoFar) (waits : ℕ → Bool) (line : Line) → IsUnderway region goal e waits → IsJournal region goal (line ∷ past_after e) → cycle_of line ≡ e.cycle
    → AreGivesOld e.logs e.before (line ∷ e.lines) → ((life : Life) → In life (open_lives (past_after e)) → In life (open_lives (line ∷ past_after e))) → IsUnderway region goal (after_line e line) waits
plain-adds region goal e waits line now legal cycle gives stays = line-adds region goal e waits line now record { legal = legal; cycle = cycle; gives = gives; stays = λ life k h why. stays life h }

pub miss-adds : (region goal : ℕ) (e : CycleSoFar) (waits : ℕ → Bool) (pages class : ℕ) → IsUnderway region goal e waits → IsJournal region goal (Miss e.cycle pages class ∷ past_after e)
    → IsUnderway region goal (after_line e (Miss e.cycle pages class)) waits
miss-adds region goal e waits pages class now legal = plain-adds region goal e waits (Miss e.cycle pages class) now legal refl now.writes.gives (λ life h. h)

pub scav-adds : (region goal : ℕ) (e : CycleSoFar) (waits : ℕ → Bool) (page pages : ℕ) → IsUnderway region goal e waits → IsJournal region goal (Scav e.cycle page pages ∷ past_after e)
    → IsUnderway region goal (after_line e (Scav e.cycle page pages)) waits
scav-adds region goal e waits page pages now legal = plain-adds region goal e waits (Scav e.cycle page pages) now legal refl now.writes.gives (λ life h. h)

pub pull-adds : (region goal : ℕ) (e : CycleSoFar) (waits : ℕ → Bool) (w page pages : ℕ) → IsUnderway region goal e waits → IsJournal region goal (Pull e.cycle w page pages ∷ past_after e)
    → IsUnderway region goal (after_line e (Pull e.cycle w page pages)) waits
pull-adds region goal e waits w page pages now legal = plain-adds region goal e waits (Pull e.cycle w page pages) now legal refl now.writes.gives (λ life h. h)

-- the Cut lines of a block, which tell of lives that workers know
abbrev pub with_lines : CycleSoFar → List Line → CycleSoFar
with_lines e lines = record { cycle = e.cycle; before = e.before; lines = lines; known = e.known; carried = e.carried; marks = e.marks; bits = e.bits; logs = e.logs; news = e.news; notes = e.notes }

pub cuts-add : (region goal : ℕ) (e : CycleSoFar) (waits : ℕ → Bool) (w : ℕ) (cuts : List CutOut) → IsUnderway region goal e waits → IsJournal region goal (map (cut_line e.cycle w) cuts ++ past_after e)
    → IsUnderway region goal (with_lines e (map (cut_line e.cycle w) cuts ++ e.lines)) waits
cuts-add region goal e waits w [] now legal = record {
  writes = record { legal = now.writes.legal; now = now.writes.now; gives = now.writes.gives };
  waiting = record { old = now.waiting.old; as_before = now.waiting.as_before; not_placed = now.waiting.not_placed; not_swept = now.waiting.not_swept };
  sweeps = record { each = now.sweeps.each; only = now.sweeps.only; kept = now.sweeps.kept; freed = now.sweeps.freed; once = now.sweeps.once; one_sweeper = now.sweeps.one_sweeper };
  places = record { here = now.places.here; below = now.places.below; unmarked = now.places.unmarked; apart = now.places.apart; one_log = now.places.one_log };
  numbered = now.numbered;
  holds = record { from = now.holds.from; marked = now.holds.marked; placed = now.holds.placed; marked_open = now.holds.marked_open; marked_known = now.holds.marked_known };
  fills = now.fills;
  misses = record { named = now.misses.named; apart = now.misses.apart; one_log = now.misses.one_log };
}
cuts-add region goal e waits w (x ∷ cuts) now legal =
    let rest = cuts-add region goal e waits w cuts now legal.2 in
    let lines : List Line = map (cut_line e.cycle w) cuts ++ e.lines in
    let whole : lines ++ e.before ≡ map (cut_line e.cycle w) cuts ++ past_after e = append_assoc (map (cut_line e.cycle w) cuts) e.lines e.before in
    plain-adds region goal (with_lines e lines) waits (cut_line e.cycle w x) rest (subst (λ (l : List Line). IsJournal region goal (cut_line e.cycle w x ∷ l)) (sym whole) legal) refl rest.writes.gives (λ life h. inr h)

pub settle-adds : (region goal : ℕ) (e : CycleSoFar) (waits : ℕ → Bool) (w : ℕ) (b : OutBlock) → IsUnderway region goal e waits → IsJournal region goal (settled_lines e.cycle w (Some b) ++ past_after e)
    → IsUnderway region goal (with_lines e (settled_lines e.cycle w (Some b) ++ e.lines)) waits
settle-adds region goal e waits w b now legal =
    let cuts = cuts-add region goal e waits w b.cuts now legal.2 in
    let lines : List Line = map (cut_line e.cycle w) b.cuts ++ e.lines in
    let drop : Line = Drop e.cycle w b.page (b.pages - pages_cut b.cuts) in
    let whole : lines ++ e.before ≡ map (cut_line e.cycle w) b.cuts ++ past_after e = append_assoc (map (cut_line e.cycle w) b.cuts) e.lines e.before in
    plain-adds region goal (with_lines e lines) waits drop cuts (subst (λ (l : List Line). IsJournal region goal (drop ∷ l)) (sym whole) legal) refl cuts.writes.gives (λ life h. h)

pub give-adds : (region goal : ℕ) (e : CycleSoFar) (waits : ℕ → Bool) (given told : Life) → IsUnderway region goal e waits → MayGiveBack region goal e waits given → In told e.known → told.page ≡ given.page
    → IsUnderway region goal (with_known (after_line e (Give e.cycle given.page given.pages)) (others given.page e.known)) waits
give-adds region goal e waits given told now may told-in page =
    let one : (life : Life) → In life (open_lives (past_after e)) → life.page ≡ given.page → life ≡ given = λ life h page. same_page region goal (past_after e) life given now.writes.legal h may.here page in
    let there = was_open e.lines e.before given may.old may.here in
    let swept = now.sweeps.each given there may.swept in
    let none : count_below (count_for given.class) (λ k. e.marks given.page k) ≡ 0 = count_below-none (count_for given.class) (λ k. e.marks given.page k) (λ k lt. false_from_ne_true (e.marks given.page k) (λ on. (
    let on' : e.marks told.page k ≡ true = ap (λ (p : ℕ). e.marks p k) page ∙ on in
    let bit : e.bits told.page k ≡ true = now.holds.marked told k told-in (ap waits page ∙ may.swept) on' in
    let bit' : e.bits given.page k ≡ true = ap (λ (p : ℕ). e.bits p k) (sym page) ∙ bit in
    let off = may.empty k in
    cc))) in
    let kept : swept.1.kept ≡ 0 = now.sweeps.kept swept.0 swept.1 given swept.2 there swept.3 ∙ none in
    let unused : (life : Life) (k : ℕ) → life.page ≡ given.page → (waits life.page ≡ true) ⊎ (e.bits life.page k ≡ true) → ⊥ = λ life k page why. elim why [
      | inl is ↦ (let off = may.swept in let e1 : waits life.page ≡ waits given.page = ap waits page in let none : ⊥ = cc in none)
      | inr on ↦ (let off = may.empty k in let e1 : e.bits life.page k ≡ e.bits given.page k = ap (λ (i : ℕ). e.bits i k) page in let none : ⊥ = cc in none)
    ] in
    let added = line-adds region goal e waits (Give e.cycle given.page given.pages) now record {
      legal = may.legal;
      cycle = refl;
      gives = (
        (λ life h begins. (
            let same = one life h begins in
            let n : life.number ≡ given.number = ap (λ (l : Life). l.number) same in
            let lt = may.old in
            (omega arith, (swept.0, swept.1, swept.2, swept.3, kept)))),
        now.writes.gives,
      );
      stays = λ life k h why. to_others given.page (open_lives (past_after e)) life h (λ page. unused life k page why);
    } in
    known-changes region goal (after_line e (Give e.cycle given.page given.pages)) waits (others given.page e.known) added record {
      stays = λ life k h why. to_others given.page e.known life h (λ page. unused life k page why);
      was = λ life h. inl (from_others given.page e.known life h).0;
    }

-- ---- the start and the end

pub fresh-underway : (region goal : ℕ) (e : CycleSoFar) → IsFresh region goal e → IsUnderway region goal e (λ p. begins_at p (open_lives e.before))
fresh-underway region goal e is =
    let empty : past_after e ≡ e.before = ap (λ (l : List Line). l ++ e.before) is.no_lines in
    let here : (life : Life) → In life (open_lives e.before) → In life (open_lives (past_after e)) = λ life h. rw empty h in
    let waits : (life : Life) → In life (open_lives e.before) → begins_at life.page (open_lives e.before) ≡ false → ⊥ = λ life h off. page-absent life.page (open_lives e.before) life off h refl in
    let told : (life : Life) → In life e.known → begins_at life.page (open_lives e.before) ≡ false → ⊥ = λ life h off. page-absent life.page e.known life (is.known life.page ∙ off) h refl in
    let no_a : (w : ℕ) (a : Placing) → In a (placings (e.logs w)) → ⊥ = λ w a h. (let h' : In a (placings []) = subst (λ (l : List Entry). In a (placings l)) (is.no_entries w) h in h') in
    let no_s : (w : ℕ) (s : Sweeping) → In s (sweepings (e.logs w)) → ⊥ = λ w s h. (let h' : In s (sweepings []) = subst (λ (l : List Entry). In s (sweepings l)) (is.no_entries w) h in h') in
    let no_x : (w : ℕ) (x : Refusal) → In x (refusals (e.logs w)) → ⊥ = λ w x h. (let h' : In x (refusals []) = subst (λ (l : List Entry). In x (refusals l)) (is.no_entries w) h in h') in
    record {
      writes = record {
        legal = rw empty is.legal;
        now = λ line h. (let h' : In line [] = subst (λ (l : List Line). In line l) is.no_lines h in absurd h');
        gives = (let none : AreGivesOld e.logs e.before [] = tt in subst (λ (l : List Line). AreGivesOld e.logs e.before l) (sym is.no_lines) none);
      };
      waiting = record {
        old = λ p on. (let at = page-there p (open_lives e.before) on in (at.0, at.1, here at.0 at.1, at.2));
        as_before = λ p k on. is.as_before p k;
        not_placed = λ w a h. absurd (no_a w a h);
        not_swept = λ w s h. absurd (no_s w s h);
      };
      sweeps = record {
        each = λ life h off. absurd (waits life h off);
        only = λ w s h. absurd (no_s w s h);
        kept = λ w s life h. absurd (no_s w s h);
        freed = λ w s life h. absurd (no_s w s h);
        once = λ w. (let none : AllApart (λ (x y : Sweeping). x.page ≢ y.page) (sweepings []) = tt in subst (λ (l : List Entry). AllApart (λ (x y : Sweeping). x.page ≢ y.page) (sweepings l)) (sym (is.no_entries w)) none);
        one_sweeper = λ v w s t h. absurd (no_s v s h);
      };
      places = record {
        here = λ w a h. absurd (no_a w a h);
        below = λ w a h. absurd (no_a w a h);
        unmarked = λ w a h. absurd (no_a w a h);
        apart = λ w. (let none : AllApart (λ (a b : Placing). a.page ≡ b.page → a.index ≢ b.index) (placings []) = tt in subst (λ (l : List Entry). AllApart (λ (a b : Placing). a.page ≡ b.page → a.index ≢ b.index) (placings l)) (sym (is.no_entries w)) none);
        one_log = λ v w a b h. absurd (no_a v a h);
      };
      holds = record {
        from = λ life k h off on. absurd (told life h off);
        marked = λ life k h off on. absurd (told life h off);
        placed = λ w a h. absurd (no_a w a h);
        marked_open = λ page k on. (let at = is.marks_of_lives page k on in (at.0, at.1, here at.0 at.1, at.2));
        marked_known = λ page k on. (
            let at = is.marks_of_lives page k on in
            page-there page e.known (is.known page ∙ subst (λ (p : ℕ). begins_at p (open_lives e.before) ≡ true) at.2 (there-begins (open_lives e.before) at.0 at.1)));
      };
      numbered = λ w a h. absurd (no_a w a h);
      fills = λ w. (let none : Fills e.marks (placings []) = tt in subst (λ (l : List Entry). Fills e.marks (placings l)) (sym (is.no_entries w)) none);
      misses = record {
        named = λ w x h. absurd (no_x w x h);
        apart = λ w. (let none : AllApart (λ (x y : Refusal). x.number ≢ y.number) (refusals []) = tt in subst (λ (l : List Entry). AllApart (λ (x y : Refusal). x.number ≢ y.number) (refusals l)) (sym (is.no_entries w)) none);
        one_log = λ v w x y h. absurd (no_x v x h);
      };
    }

-- nothing waits, workers know the lives of the journal, and no open life is left empty
pub record HasEnded (e : CycleSoFar) (waits : ℕ → Bool) : Type 0 where
  pub swept : (page : ℕ) → waits page ≡ false
  pub told : (life : Life) → In life (open_lives (past_after e)) → (known : Life) × In known e.known × (known.page ≡ life.page)
  pub there : (known : Life) → In known e.known → (life : Life) × In life (open_lives (past_after e)) × (life.page ≡ known.page) × (life.class ≡ known.class)
  pub some : (life : Life) → In life (open_lives (past_after e)) → (k : ℕ) × (e.bits life.page k ≡ true)

pub ended-sweeps : (region goal : ℕ) (e : CycleSoFar) (waits : ℕ → Bool) → IsUnderway region goal e waits → HasEnded e waits → Sweeps e
ended-sweeps region goal e waits now end = record {
  each = λ life h. now.sweeps.each life h (end.swept life.page);
  only = now.sweeps.only;
  kept = now.sweeps.kept;
  freed = now.sweeps.freed;
}

pub ended-holdings : (region goal : ℕ) (e : CycleSoFar) (waits : ℕ → Bool) → IsUnderway region goal e waits → HasEnded e waits → Holdings e
ended-holdings region goal e waits now end = record {
  from = λ life k h on. (
      let t = end.told life h in
      elim (now.holds.from t.0 k t.1 (end.swept t.0.page) (ap (λ (p : ℕ). e.bits p k) t.2 ∙ on)) [
        | inl mark ↦ inl (ap (λ (p : ℕ). e.marks p k) (sym t.2) ∙ mark)
        | inr at ↦ inr (at.0, at.1, at.2, at.3 ∙ t.2, at.4)
      ]);
  marked = λ life k h on. (
      let t = end.told life h in
      ap (λ (p : ℕ). e.bits p k) (sym t.2) ∙ now.holds.marked t.0 k t.1 (end.swept t.0.page) (ap (λ (p : ℕ). e.marks p k) t.2 ∙ on));
  placed = now.holds.placed;
  some = end.some;
}

pub ended-places : (region goal : ℕ) (e : CycleSoFar) (waits : ℕ → Bool) → IsUnderway region goal e waits → HasEnded e waits → Places e (open_lives (past_after e))
ended-places region goal e waits now end = record {
  here = λ w a h. (
      let at = now.places.here w a h in
      let t = end.there at.0 at.1 in
      (t.0, t.1, record { page = t.2 ∙ at.2.page; class = t.3 ∙ at.2.class }));
  below = now.places.below;
  unmarked = now.places.unmarked;
  apart = now.places.apart;
  one_log = now.places.one_log;
}
