-- What a sweep in hand leaves: where the span may go, and what is told of it.
use Rattle.std.proofs.Common.{◌≡◌, ℕ, zero, suc, ◌<◌, Bool, not, true, false, true≢false, [], ◌∷◌, ◌++◌, refl, ap, sym, subst, ◌∙◌, arith}
use Rattle.std.specs.Prelude.{Some, None, Option, MatchOption}
use Rattle.std.specs.Option.{is_some}
use mathlib.Core.Logic.{dite}
use native.Mathlib.Decide.{dec_le}
use Rattle.page_bitmap.specs.Counts.{one_if}
use Rattle.span_state.specs.Bits.{HasFree, IsFull, count_below}
use Rattle.span_state.specs.MarkSet.{MarkSet, is_marked}
use Rattle.span_state.specs.Spans.{allocated}
use Rattle.span_state.specs.declared.body.Body.{Body}
use Rattle.span_state.specs.declared.sweep.SweepNote.{SweepNote}
use Rattle.span_state.specs.declared.sweep.Swept.{Swept}
use Rattle.worker_log.specs.declared.Entry.TheVariants.{Added, Read, Swept as SweptEntry}
use Rattle.worker_log.specs.SetNumbers.{swept_set}
use Rattle.worker_log.specs.Entries.{is_placing_in, is_pop_of, many}
use Rattle.span_laws.specs.BodyAsks.{HasRoom, IsEmptyBody, IsFullBody, IsUsed}
use Rattle.span_laws.specs.Asks.{IsUntouched}
use Rattle.span_laws.specs.Logs.{EndsSweptEmpty}
use Rattle.span_laws.specs.declared.said.Said.TheVariants.{Adds, Reads}
use Rattle.span_laws.specs.declared.said.SaidOf.TheVariants.{Releases}
use Rattle.span_laws.specs.Views.{Seen, span_of}
use Rattle.span_laws.specs.OwnSteps.{after_of, after_said}
use Rattle.span_set.specs.Sets.{MayPush, swept_of}
use Rattle.span_set.specs.Sweeps.{SweepsBody, SweepsInHand, note_of}
use Rattle.span_set.specs.declared.hand.Hand.{Hand}
use Rattle.span_set.specs.declared.sets.SetId.{SetId}
use Rattle.span_set.proofs.Numbers.{few, swept_is, swept_low}
use Rattle.sweeper.specs.Settles.{GoesHome, Settles}

none_below : (n : ℕ) (f : ℕ → Bool) (k : ℕ) → count_below n f ≡ 0 → k < n → f k ≡ false
unfolding count_below
none_below zero f k e l = absurd (omega arith)
none_below (suc n) f k e l = dite (dec_le (suc k) n)
    (λ a. none_below n f k (omega arith) a)
    (λ a. let s : k ≡ n = omega arith in ap f s ∙ here (f n) refl)
  where
    here : (b : Bool) → f n ≡ b → f n ≡ false
    here false x = x
    here true x = absurd (let y = ap Rattle.span_state.specs.Bits.one_if x in omega arith)

some_below : (n : ℕ) (f : ℕ → Bool) → 0 < count_below n f → (k : ℕ) × (k < n) × (f k ≡ true)
unfolding count_below
some_below zero f l = absurd (omega arith)
some_below (suc n) f l = here (f n) refl (some_below n f)
  where
    here : (b : Bool) → f n ≡ b → (0 < count_below n f → (k : ℕ) × (k < n) × (f k ≡ true)) → (k : ℕ) × (k < suc n) × (f k ≡ true)
    here true x rest = (n, omega arith, x)
    here false x rest = let r = rest (let y = ap Rattle.span_state.specs.Bits.one_if x in omega arith) in (r.0, (let y = r.1 in omega arith), r.2)

module _ (marks : MarkSet) (old b : Body) (n : Swept) (t : SweepsBody marks old b n) where
  pub emptied : n.kept ≡ 0 → IsEmptyBody b
  emptied e k = dite (dec_le (suc k) old.count)
      (λ l. t.marked k ∙ none_below old.count (is_marked marks old.page) k (sym t.kept ∙ e) l)
      (λ l. b.clear_past_count k (let c = t.same.count in omega arith))

  pub used : 0 < n.kept → IsUsed b
  used l = let r = some_below old.count (is_marked marks old.page) (let k = t.kept in omega arith) in (r.0, (let c = t.same.count in let x = r.1 in omega arith), t.marked r.0 ∙ r.2)

  module _ (w w1 w2 : Seen) (g : ℕ) (e : g ≡ w.view.generation) (read : w1 ≡ after_said (Reads 1 g) w) (s : SweepsInHand b n w1 w2) where
    pub ends_empty : n.kept ≡ 0 → EndsSweptEmpty b.page w2.view.own.log
    ends_empty z = ([], Added 2 b.pages ∷ Read 2 s.before ∷ Read 1 w1.view.generation ∷ w1.view.own.log, record { page = b.page; pages = b.pages; kept = n.kept; freed = n.freed }, s.log, refl, z, refl, refl)

    read' : w1 ≡ after_said (Reads 1 w.view.generation) w
    read' = read ∙ ap (λ (x : ℕ). after_said (Reads 1 x) w) e

    pub now_gen : w2.view.generation ≡ w.view.generation
    now_gen = ap (λ (x : Seen). x.view.generation) s.view ∙ ap (λ (x : Seen). x.view.generation) read

    swept_log : w2.view.own.log ≡ SweptEntry (record { page = b.page; pages = b.pages; kept = n.kept; freed = n.freed }) ∷ Added 2 b.pages ∷ Read 2 s.before ∷ Read 1 w.view.generation ∷ Read 1 w.view.generation ∷ w.view.own.log
    swept_log = s.log ∙ (λ i. SweptEntry (record { page = b.page; pages = b.pages; kept = n.kept; freed = n.freed }) ∷ Added 2 b.pages ∷ Read 2 s.before ∷ Read 1 (read' i).view.generation ∷ (read' i).view.own.log)

    pub may_push : (set : SetId) → set.class ≡ b.class → b.class < 136 → 0 < n.kept → (set.full ≡ true → IsFullBody b) → (set.full ≡ false → HasRoom b) → IsUntouched w.view.generation w.view.own b.page → MayPush set b w2
    may_push set c low l full room u = record {
      class = sym c;
      used = used l;
      full = full;
      room = room;
      unpopped = ap (λ (x : ℕ). many (is_pop_of (swept_set x set.class (one_if set.full)) b.page) w2.view.own.log) now_gen
          ∙ ap (many (is_pop_of (swept_of w.view.generation set) b.page)) swept_log
          ∙ (let z = u.pops (swept_of w.view.generation set) (swept_low w.view.generation set.class (one_if set.full) (few set.full) (omega arith)) (swept_is w.view.generation set.class (one_if set.full) (few set.full)) in omega arith);
      unplaced = λ f. ap (many (is_placing_in b.page)) swept_log ∙ (let z = u.placings in omega arith);
    }

    -- all that is told of the span
    pub settles : (h h2 : Hand) (note : SweepNote) → h.worker ≡ w → note ≡ note_of g b n → h2.notes.items ≡ h.notes.items ++ note_of w1.view.generation b n ∷ [] → GoesHome b n w2 h2.worker → Settles marks old h h2 note
    settles h h2 note is noted notes goes = record {
      body = b;
      counts = n;
      before = s.before;
      mid = w2;
      swept = t;
      note_is = noted ∙ ap (λ (x : ℕ). note_of x b n) (e ∙ ap (λ (x : Seen). x.view.generation) (sym is));
      notes = notes ∙ ap (λ (x : ℕ). h.notes.items ++ note_of x b n ∷ []) (ap (λ (x : Seen). x.view.generation) read ∙ ap (λ (x : Seen). x.view.generation) (sym is));
      view = subst (λ (x : Seen). w2 ≡ after_of Releases (span_of b) (after_said (Adds 2 s.before b.pages) (after_said (Reads 1 x.view.generation) (after_said (Reads 1 x.view.generation) x)))) (sym is)
          (s.view ∙ ap (λ (x : Seen). after_of Releases (span_of b) (after_said (Adds 2 s.before b.pages) (after_said (Reads 1 x.view.generation) x))) read');
      log = subst (λ (x : Seen). w2.view.own.log ≡ SweptEntry (record { page = b.page; pages = b.pages; kept = n.kept; freed = n.freed }) ∷ Added 2 b.pages ∷ Read 2 s.before ∷ Read 1 x.view.generation ∷ Read 1 x.view.generation ∷ x.view.own.log) (sym is) swept_log;
      goes = goes;
    }

-- the answer of a search for a free index
pub none_full : (b : Body) (o : Option ℕ) (f : Bool) → MatchOption o (IsFull b.count (allocated b)) (λ k. HasFree b.count (allocated b) k) → is_some o ≡ not f → f ≡ true → IsFullBody b
none_full b None f m e t = m
none_full b (Some k) f m e t = absurd (true≢false (e ∙ ap not t))

pub some_room : (b : Body) (o : Option ℕ) (f : Bool) → MatchOption o (IsFull b.count (allocated b)) (λ k. HasFree b.count (allocated b) k) → is_some o ≡ not f → f ≡ false → HasRoom b
some_room b None f m e t = absurd (true≢false (sym (e ∙ ap not t)))
some_room b (Some k) f m e t = (k, m.inside, m.free)
