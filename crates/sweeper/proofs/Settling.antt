-- A span is acquired, swept and put where it belongs.
use Rattle.std.proofs.Common.{◌≡◌, ◌≢◌, ℕ, ◌<◌, ◌⊎◌, inl, inr, Bool, ◌&&◌, eqb, eq-eqb, ne_eqb, true, false, true≢false, List, [], ◌∷◌, ◌++◌, refl, ap, sym, subst, ◌∙◌, arith}
use Rattle.std.proofs.lemmas.List.{append-nil}
use Rattle.std.specs.Prelude.{None}
use mathlib.Core.Logic.{dite}
use native.Mathlib.Decide.{ℕ_discrete}
use Rattle.page_bitmap.specs.Counts.{one_if}
use Rattle.span_state.specs.Bits.{bit_of, count_below}
use Rattle.span_state.specs.MarkSet.{MarkSet, is_marked}
use Rattle.span_state.specs.Spans.{allocated}
use Rattle.span_state.specs.declared.body.Body.{Body}
use Rattle.span_state.specs.declared.sweep.SweepNote.{SweepNote}
use Rattle.sweep_laws.specs.Lists.{erase, has}
use Rattle.worker_log.specs.declared.Entry.{Entry}
use Rattle.worker_log.specs.declared.Entry.TheVariants.{Added, Gave, Pushed, Read, Swept}
use Rattle.worker_log.specs.declared.Sweeping.{Sweeping}
use Rattle.worker_log.specs.SetNumbers.{swept_set}
use Rattle.worker_log.specs.Entries.{is_pop, is_push_of, is_sweep_of, many}
use Rattle.span_laws.specs.TakeAnswers.{cycle_at}
use Rattle.span_laws.specs.Answers.{AcquiresSpan}
use Rattle.span_laws.specs.BodyAsks.{HasRoom, IsFullBody}
use Rattle.span_laws.specs.Asks.{IsApart, mine}
use Rattle.span_laws.specs.declared.answers.Acquired.TheVariants.{Got}
use Rattle.span_laws.specs.declared.said.Said.TheVariants.{Adds, Fills, Gives, Reads}
use Rattle.span_laws.specs.declared.said.SaidOf.TheVariants.{Acquires, Releases}
use Rattle.span_laws.specs.declared.view.Span.{Span}
use Rattle.span_laws.specs.Views.{Seen, span_at, span_of}
use Rattle.span_laws.specs.OwnSteps.{after_of, after_said}
use Rattle.span_laws.proofs.Uses.{apart_of}
use Rattle.span_set.specs.declared.hand.Hand.{Hand}
use Rattle.span_set.specs.Fits.{no_page}
use Rattle.span_set.proofs.Fits.{fits-emptied, fits-pushed}
use Rattle.sweep_laws.specs.Counts.{total}
use Rattle.sweeper.specs.Entries.{pages_given}
use Rattle.sweeper.specs.Settles.{GoesHome, Settles}
use Rattle.sweeper.specs.Sweeps.{SweepsSpan}
use Rattle.sweeper.specs.Work.{WorkerSweeps, OnlySweeps, Stays, note_by, notes_of}

-- a page that came last and was not there before goes without a trace
pub erase_back : (p q : ℕ) (xs : List ℕ) → p ≡ q → has p xs ≡ false → erase p (xs ++ q ∷ []) ≡ xs
erase_back p q [] e h = rw (eq-eqb q p (sym e)) refl
erase_back p q (x ∷ xs) e h = dite (ℕ_discrete x p)
    (λ s. absurd (true≢false (sym (rw (eq-eqb x p s) refl) ∙ h)))
    (λ d. let n = ne_eqb x p d in rw n (ap (λ (l : List ℕ). x ∷ l) (erase_back p q xs e (rw n at h))))

-- a span of another page is not found first
span_other : (s : Span) (spans : List Span) (q : ℕ) → s.page ≢ q → span_at q (s ∷ spans) ≡ span_at q spans
span_other s spans q d = rw (ne_eqb s.page q d) refl

pub apart_else : (w : Seen) (p q : ℕ) → mine p w.view.own ≡ 0 → 0 < mine q w.view.own → p ≢ q
apart_else w p q a h e = let x = ap (λ (n : ℕ). mine n w.view.own) e in omega arith

and_true : (b : Bool) → (b && true) ≡ b
and_true true = refl
and_true false = refl

and_false : (b : Bool) → (b && false) ≡ false
and_false true = refl
and_false false = refl

-- what a sweep's entry says of giving back and pushing
module _ (s : Sweeping) where
  pub kept_none : s.kept ≡ 0 → eqb s.kept 0 ≡ true
  kept_none e = eq-eqb s.kept 0 e

  pub kept_some : 0 < s.kept → eqb s.kept 0 ≡ false
  kept_some l = ne_eqb s.kept 0 (λ e. omega arith)

-- the log of a sweep, before the span goes on
abbrev pub sweep_said : ℕ → ℕ → Sweeping → List Entry
sweep_said g before s = Swept s ∷ Added 2 s.pages ∷ Read 2 before ∷ Read 1 g ∷ Read 1 g ∷ []

-- of a span that goes back
abbrev pub given_said : ℕ → ℕ → Sweeping → List Entry
given_said g before s = Gave s.page s.pages ∷ sweep_said g before s

-- of a span that is pushed
abbrev pub pushed_said : ℕ → ℕ → ℕ → Sweeping → List Entry
pushed_said g set before s = Pushed set s.page ∷ Read 1 g ∷ sweep_said g before s

pub given_sweeps : (h g before : ℕ) (s : Sweeping) → s.kept ≡ 0 → OnlySweeps h (given_said g before s)
given_sweeps h g before s e = record {
  unplaced = refl;
  unspent = refl;
  swept_pages = omega arith;
  given = λ q. rw (kept_none s e, and_true (eqb s.page q)) (omega arith);
  pushed = λ q. rw (kept_none s e, and_false (eqb s.page q)) (omega arith);
  unpopped = λ j q z. refl;
  unlooked = λ j z. refl;
  untouched = λ q. refl;
}

-- the same, where the generation is read anew before the push
pub pushed_sweeps : (h g again set before : ℕ) (s : Sweeping) → 0 < s.kept → OnlySweeps h (Pushed set s.page ∷ Read 1 again ∷ sweep_said g before s)
pushed_sweeps h g again set before s l = record {
  unplaced = refl;
  unspent = refl;
  swept_pages = omega arith;
  given = λ q. rw (kept_some s l, and_false (eqb s.page q)) (omega arith);
  pushed = λ q. rw (kept_some s l, and_true (eqb s.page q)) (omega arith);
  unpopped = λ j q z. refl;
  unlooked = λ j z. refl;
  untouched = λ q. refl;
}

-- how the worker stands after the steps
abbrev pub swept_after : Body → ℕ → Seen → Seen
swept_after b before w = after_of Releases (span_of b) (after_said (Adds 2 before b.pages) (after_said (Reads 1 w.view.generation) (after_said (Reads 1 w.view.generation) w)))

abbrev pub given_after : Body → Body → ℕ → Seen → Seen
given_after got b before w = after_said (Gives b.page b.pages) (swept_after b before (after_of Acquires (span_of got) w))

abbrev pub pushed_after : ℕ → Body → Body → ℕ → Seen → Seen
pushed_after set got b before w = after_said (Fills set b.page) (after_said (Reads 1 w.view.generation) (swept_after b before (after_of Acquires (span_of got) w)))

module _ (w : Seen) (got b : Body) (before : ℕ) (same : b.page ≡ got.page) (nothing : mine b.page w.view.own ≡ 0) where
  apart : IsApart w.view.own b.page
  apart = apart_of w.view.own b.page nothing

  bodies_else : (q : ℕ) → 0 < mine q w.view.own → span_at q (span_of b ∷ span_of got ∷ w.view.own.spans) ≡ span_at q w.view.own.spans
  bodies_else q h = let d = apart_else w b.page q nothing h in span_other (span_of b) (span_of got ∷ w.view.own.spans) q d ∙ span_other (span_of got) w.view.own.spans q (λ e. d (same ∙ e))

  swept_back : erase b.page (w.view.own.sweeping ++ got.page ∷ []) ≡ w.view.own.sweeping
  swept_back = erase_back b.page got.page w.view.own.sweeping same apart.sweeping

  held_back : erase b.page (w.view.own.held ++ b.page ∷ []) ≡ w.view.own.held ++ []
  held_back = erase_back b.page b.page w.view.own.held refl apart.held ∙ sym (append-nil w.view.own.held)

  given_stays : Stays w (given_after got b before w)
  given_stays = record { away = refl; table = refl; number = refl; caching = refl; region = refl; goal = refl; procs = refl; generation = refl; marks = refl; before = refl; carried = refl; parts = refl; sweeping = swept_back; cached = refl; claimed = refl; fresh = refl; reset = refl; bodies = bodies_else }

  pushed_stays : (set : ℕ) → w.view.own.claimed ≡ None → Stays w (pushed_after set got b before w)
  pushed_stays set free = record { away = refl; table = refl; number = refl; caching = refl; region = refl; goal = refl; procs = refl; generation = refl; marks = refl; before = refl; carried = refl; parts = refl; sweeping = swept_back; cached = refl; claimed = sym free; fresh = refl; reset = refl; bodies = bodies_else }

-- what the whole did to the worker, from before the acquire
pub record Swings (w : Seen) (h1 h2 : Hand) (marks : MarkSet) (got : Body) (note : SweepNote) : Type 0 where
  pub s : Sweeping
  pub said : List Entry
  pub note_is : note ≡ note_by (cycle_at w.view.generation) s
  pub does : WorkerSweeps [] said w h2.worker
  pub notes : h2.notes.items ≡ h1.notes.items ++ notes_of (cycle_at w.view.generation) said
  pub popped : h2.worker.view.own.popped ≡ []
  pub sweeps : SweepsSpan w.view.generation s said
  pub pops : (k : ℕ) → many (is_pop k) said ≡ 0
  pub of_page : s.page ≡ got.page
  pub of_pages : s.pages ≡ got.pages
  pub of_kept : s.kept ≡ count_below got.count (is_marked marks got.page)
  pub swept : (p : ℕ) → many (is_sweep_of p) said ≡ one_if (eqb s.page p)
  pub gives : s.kept ≡ 0 → total pages_given said ≡ s.pages

module _ (marks : MarkSet) (page : ℕ) (w : Seen) (got : Body) (h1 h2 : Hand) (note : SweepNote) (a : AcquiresSpan page w h1.worker (Got got)) (t : Settles marks got h1 h2 note)
    (none : erase got.page w.view.own.popped ≡ []) (free : w.view.own.claimed ≡ None) where
  abbrev b : Body
  b = t.body

  same : b.page ≡ got.page
  same = t.swept.same.page

  nothing : mine b.page w.view.own ≡ 0
  nothing = ap (λ (p : ℕ). mine p w.view.own) (same ∙ a.0) ∙ a.4

  acquired : h1.worker ≡ after_of Acquires (span_of got) w
  acquired = a.1

  gen : h1.worker.view.generation ≡ w.view.generation
  gen = ap (λ (x : Seen). x.view.generation) acquired

  mid_is : t.mid ≡ swept_after b t.before (after_of Acquires (span_of got) w)
  mid_is = t.view ∙ ap (swept_after b t.before) acquired

  mid_gen : t.mid.view.generation ≡ w.view.generation
  mid_gen = ap (λ (x : Seen). x.view.generation) mid_is

  abbrev s : Sweeping
  s = record { page = b.page; pages = b.pages; kept = t.counts.kept; freed = t.counts.freed }

  mid_log : t.mid.view.own.log ≡ sweep_said w.view.generation t.before s ++ w.view.own.log
  mid_log = t.log ∙ (λ i. Swept s ∷ Added 2 b.pages ∷ Read 2 t.before ∷ Read 1 (gen i) ∷ Read 1 (gen i) ∷ (acquired i).view.own.log)

  note_swept : note ≡ note_by (cycle_at w.view.generation) s
  note_swept = t.note_is ∙ ap (λ (g : ℕ). note_by (cycle_at g) s) gen

  noted : h2.notes.items ≡ h1.notes.items ++ note_by (cycle_at w.view.generation) s ∷ []
  noted = t.notes ∙ ap (λ (g : ℕ). h1.notes.items ++ note_by (cycle_at g) s ∷ []) gen

  counted : s.kept ≡ count_below b.count (allocated b)
  counted = sym (ap (λ (m : ℕ). count_below m (bit_of b.bits)) t.swept.same.count ∙ (λ i. count_below got.count (λ k. t.swept.marked k i)) ∙ sym t.swept.kept)

  given_swings : t.counts.kept ≡ 0 → h2.worker ≡ after_said (Gives b.page b.pages) t.mid → Swings w h1 h2 marks got note
  given_swings e view =
      let now : h2.worker ≡ given_after got b t.before w = view ∙ ap (after_said (Gives b.page b.pages)) mid_is in record {
        s = s;
        said = given_said w.view.generation t.before s;
        note_is = note_swept;
        does = record {
          log = ap (λ (x : Seen). x.view.own.log) view ∙ ap (λ (l : List Entry). Gave b.page b.pages ∷ l) mid_log;
          sweeps = given_sweeps w.view.generation w.view.generation t.before s e;
          sets = fits-emptied w.view.generation no_page (given_said w.view.generation t.before s) w h2.worker (span_of b ∷ span_of got ∷ []) s refl (ap (λ (x : Seen). x.view.own.spans) now) e;
          held = ap (λ (x : Seen). x.view.own.held) now ∙ held_back w got b t.before same nothing;
          stays = subst (Stays w) (sym now) (given_stays w got b t.before same nothing);
        };
        notes = noted;
        popped = ap (λ (x : Seen). x.view.own.popped) now ∙ none;
        sweeps = record {
          only = refl;
          body = b;
          page = refl;
          kept = counted;
          settled = inl (e, rw (eq-eqb b.page b.page refl) (omega arith));
          plain = record { takes_none = record { untaken = refl; unmissed = refl }; unclaimed = refl; unread = λ i. refl; keeps_block = refl };
        };
        pops = λ k. refl;
        of_page = same;
        of_pages = t.swept.same.pages;
        of_kept = t.swept.kept;
        swept = λ p. omega arith;
        gives = λ z. omega arith;
      }

  pushed_swings : 0 < t.counts.kept → (full : Bool) → (full ≡ true → IsFullBody b) → (full ≡ false → HasRoom b)
      → h2.worker ≡ after_said (Fills (swept_set t.mid.view.generation b.class (one_if full)) b.page) (after_said (Reads 1 t.mid.view.generation) t.mid) → Swings w h1 h2 marks got note
  pushed_swings l full is_full has_room view =
      let g = w.view.generation in let set = swept_set g b.class (one_if full) in
      let view' : h2.worker ≡ after_said (Fills set b.page) (after_said (Reads 1 g) t.mid) = view ∙ ap (λ (x : ℕ). after_said (Fills (swept_set x b.class (one_if full)) b.page) (after_said (Reads 1 x) t.mid)) mid_gen in
      let now : h2.worker ≡ pushed_after set got b t.before w = view' ∙ ap (λ (x : Seen). after_said (Fills set b.page) (after_said (Reads 1 g) x)) mid_is in record {
        s = s;
        said = pushed_said g set t.before s;
        note_is = note_swept;
        does = record {
          log = ap (λ (x : Seen). x.view.own.log) view' ∙ ap (λ (l : List Entry). Pushed set b.page ∷ Read 1 g ∷ l) mid_log;
          sweeps = pushed_sweeps g g g set t.before s l;
          sets = fits-pushed g no_page (pushed_said g set t.before s) w h2.worker (span_of got ∷ []) s (span_of b) full refl (ap (λ (x : Seen). x.view.own.spans) now) refl counted is_full has_room (rw (eq-eqb set set refl, eq-eqb b.page b.page refl) (omega arith));
          held = ap (λ (x : Seen). x.view.own.held) now ∙ held_back w got b t.before same nothing;
          stays = subst (Stays w) (sym now) (pushed_stays w got b t.before same nothing set free);
        };
        notes = noted;
        popped = ap (λ (x : Seen). x.view.own.popped) now ∙ none;
        sweeps = record {
          only = refl;
          body = b;
          page = refl;
          kept = counted;
          settled = inr (by_full full is_full has_room);
          plain = record { takes_none = record { untaken = refl; unmissed = refl }; unclaimed = refl; unread = λ i. refl; keeps_block = refl };
        };
        pops = λ k. refl;
        of_page = same;
        of_pages = t.swept.same.pages;
        of_kept = t.swept.kept;
        swept = λ p. omega arith;
        gives = λ z. absurd (omega arith);
      }
    where
      by_full : (f : Bool) → (f ≡ true → IsFullBody b) → (f ≡ false → HasRoom b)
          → ((0 < s.kept) × IsFullBody b × (0 < many (is_push_of (swept_set w.view.generation b.class 1) b.page) (pushed_said w.view.generation (swept_set w.view.generation b.class (one_if f)) t.before s)))
          ⊎ ((0 < s.kept) × HasRoom b × (0 < many (is_push_of (swept_set w.view.generation b.class 0) b.page) (pushed_said w.view.generation (swept_set w.view.generation b.class (one_if f)) t.before s)))
      by_full true i h = inl (l, i refl, rw (eq-eqb (swept_set w.view.generation b.class 1) (swept_set w.view.generation b.class 1) refl, eq-eqb b.page b.page refl) (omega arith))
      by_full false i h = inr (l, h refl, rw (eq-eqb (swept_set w.view.generation b.class 0) (swept_set w.view.generation b.class 0) refl, eq-eqb b.page b.page refl) (omega arith))

  pub swings : Swings w h1 h2 marks got note
  swings = go t.goes
    where
      go : GoesHome b t.counts t.mid h2.worker → Swings w h1 h2 marks got note
      go (inl x) = given_swings x.0 x.1
      go (inr x) = pushed_swings x.0 x.1.0 x.1.1 x.1.2 x.1.3
