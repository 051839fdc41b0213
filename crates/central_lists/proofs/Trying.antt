-- What one try of an unswept set did, from its steps.
use Rattle.std.proofs.Common.{◌≡◌, ◌≢◌, ℕ, suc, ◌+◌, ◌<◌, true, false, true≢false, eqb, eq-eqb, List, [], ◌∷◌, ◌++◌, refl, sym, ap, subst, ◌∙◌, append_assoc, arith}
use Rattle.std.specs.Prelude.{None, Some, Option, MatchOption}
use Rattle.std.specs.Option.{is_some}
use Rattle.std.proofs.lemmas.List.{append-nil}
use mathlib.Core.Logic.{dite}
use native.Mathlib.Decide.{ℕ_discrete}
use Rattle.sweep_laws.specs.Counts.{one_if as count_if, times}
use Rattle.sweep_laws.specs.Lists.{erase, has}
use Rattle.sweep_laws.specs.Reading.{is_swept_set}
use Rattle.sweep_laws.proofs.Totals.{same_one, other_one, times_end, times_end_else}
use Rattle.sweep_laws.proofs.Naming.{times_erase, times_erase_else}
use Rattle.worker_log.specs.declared.Entry.{Entry}
use Rattle.worker_log.specs.declared.Entry.TheVariants.{Looked, Popped, Pushed, Swept as SweptEntry, Found, Read, Added}
use Rattle.worker_log.specs.SetNumbers.{swept_set, unswept_set}
use Rattle.worker_log.specs.Entries.{is_placing_in, is_pop_of, is_push_of, many}
use Rattle.worker_log.specs.Logs.{sweepings}
use Rattle.span_state.specs.Bits.{count_below}
use Rattle.span_state.specs.Spans.{allocated}
use Rattle.worker_log.proofs.Logs.{many-append}
use Rattle.span_state.specs.MarkSet.{MarkSet, has_pair}
use Rattle.span_state.specs.declared.body.Body.{Body}
use Rattle.span_state.specs.declared.sweep.SweepNote.{SweepNote}
use Rattle.span_laws.specs.declared.view.Cell.{Cell}
use Rattle.span_laws.specs.declared.view.Part.{Part}
use Rattle.span_laws.specs.declared.said.Said.TheVariants.{Adds, Fills, Finds, LooksCell, PopsEntry, Reads}
use Rattle.span_laws.specs.declared.said.SaidOf.TheVariants.{Acquires, Releases}
use Rattle.span_laws.specs.declared.answers.Acquired.TheVariants.{Got}
use Rattle.span_laws.specs.Answers.{AcquiresSpan}
use Rattle.span_laws.specs.BodyAsks.{HasRoom, IsFullBody}
use Rattle.span_laws.specs.Asks.{IsUntouched, mine}
use Rattle.span_laws.specs.Calls.{Keeps, notes_of}
use Rattle.span_laws.specs.Views.{Seen, acts, span_at, span_of}
use Rattle.span_laws.specs.OwnSteps.{after_of, after_said}
use Rattle.span_laws.proofs.Has.{has_last}
use Rattle.span_laws.proofs.WordMoves.{span_else, span_here}
use Rattle.span_set.specs.declared.hand.Hand.{Hand}
use Rattle.span_set.proofs.Fits.{fits-kept, fits-none, fits-pushed}
use Rattle.span_set.specs.declared.answers.PopBase.TheVariants.{Popped as PoppedBase, Empty as EmptyBase}
use Rattle.span_set.specs.Pops.{LooksLast, PopsUnswept}
use Rattle.span_set.specs.Sweeps.{note_of}
use Rattle.span_set.proofs.Numbers.{swept_is, swept_low, unswept_is}
use Rattle.central_lists.specs.Looks.{SawEmpty, SweptIt, AnyLog}
use Rattle.central_lists.specs.Works.{HandSearches, Says, just, nothing}
use Rattle.central_lists.specs.Tries.{Sweeping, SweepsOut}
use Rattle.central_lists.proofs.Saying.{class_here, found, last_look, looks_note, looks_sweep, pushed, says-trans, swept, tried}

-- where there is none, what is so then
pub none_given : (P : Type 0) (Q : ℕ → Type 0) (r : Option ℕ) → is_some r ≡ false → MatchOption r P Q → P
none_given P Q None e h = h
none_given P Q (Some x) e h = absurd (true≢false e)

-- a page that came last goes without a trace
pub times_back : (q p : ℕ) (xs : List ℕ) → times q (erase p (xs ++ p ∷ [])) ≡ times q xs
times_back q p xs = dite (ℕ_discrete q p)
    (λ e. let t = times_end p xs in let u = times_erase p (xs ++ p ∷ []) (omega arith) in
    subst (λ (z : ℕ). times z (erase p (xs ++ p ∷ [])) ≡ times z xs) (sym e) (omega arith))
    (λ d. times_erase_else q p (xs ++ p ∷ []) d ∙ times_end_else q p xs d)

pub times_more : (q p : ℕ) (xs : List ℕ) → times q (xs ++ p ∷ []) ≡ times q xs + count_if (eqb p q)
times_more q p xs = dite (ℕ_discrete q p)
    (λ e. subst (λ (z : ℕ). times z (xs ++ p ∷ []) ≡ times z xs + count_if (eqb p z)) (sym e) (let t = times_end p xs in let o = same_one p in omega arith))
    (λ d. let t = times_end_else q p xs d in let o = other_one p q (λ (e : p ≡ q). d (sym e)) in omega arith)

-- a worker with another part
abbrev pub with_part : Part → Seen → Seen
with_part h w = record w { view = acts w.view h }

-- the worker has another part, which keeps what it is to keep
pub keeps_by : (a d : Seen) (h : Part) → d ≡ with_part h a → h.cached ≡ a.view.own.cached → h.fresh ≡ a.view.own.fresh → h.claimed ≡ a.view.own.claimed → h.reset ≡ a.view.own.reset
    → ((q : ℕ) → times q h.sweeping ≡ times q a.view.own.sweeping) → ((q : ℕ) → times q h.popped ≡ times q a.view.own.popped) → ((q : ℕ) → 0 < mine q a.view.own → span_at q h.spans ≡ span_at q a.view.own.spans) → Keeps a d
keeps_by a d h e cached fresh claimed reset sweeping popped bodies = subst (Keeps a) (sym e) (record {
  away = refl;
  table = refl;
  number = refl;
  view = refl;
  cached = cached;
  fresh = fresh;
  claimed = claimed;
  reset = reset;
  sweeping = sweeping;
  popped = popped;
  bodies = bodies;
})

-- a worker that popped an entry, with what it said and the cells that it read
abbrev pub popped_by : ℕ → List Entry → List Cell → Seen → Seen
popped_by page said cells w = with_part (record w.view.own { popped = w.view.own.popped ++ page ∷ []; log = said ++ w.view.own.log; read = cells ++ w.view.own.read }) w

module _ (g class full : ℕ) where
  -- an entry of the unswept set was popped
  pub record Popping (page : ℕ) (old new : Seen) : Type 0 where
    pub said : List Entry
    pub cells : List Cell
    pub says : Says g class 1 nothing said
    pub notes : notes_of g said ≡ []
    pub sweeps : sweepings said ≡ []
    pub popped : 0 < many (is_pop_of (unswept_set g class full) page) said
    pub view : new ≡ popped_by page said cells old

  pub popping : full < 2 → (page : ℕ) (old new : Seen) → PopsUnswept (unswept_set g class full) old new (PoppedBase page) → Popping page old new
  popping small page old new pops = let head = pops.0 in let tail = pops.1 in let l = pops.3 in let e = pops.5 in let set = unswept_set g class full in let looks = Looked set head tail ∷ (l.said ++ Read 1 old.view.generation ∷ []) in record {
    said = Popped set page ∷ looks;
    cells = record { set = set; index = head; page = page } ∷ l.cells;
    says = says-trans g class 0 1 1 nothing nothing nothing looks (Popped set page ∷ []) (last_look g class set head tail old.view.generation l.said l.looks) (tried g class full page small) (omega arith) (λ p. omega arith);
    notes = ap (λ (x : List SweepNote). (x ++ []) ++ []) (looks_note g set old.view.generation l.said l.looks);
    sweeps = looks_sweep set old.view.generation l.said l.looks;
    popped = rw (eq-eqb set set refl, eq-eqb page page refl) (omega arith);
    view = e ∙ ap (λ (w : Seen). after_said (PopsEntry set page) (after_said (LooksCell set head (suc page)) w)) l.view
        ∙ ap (λ (x : List Entry). with_part (record old.view.own { popped = old.view.own.popped ++ page ∷ []; log = Popped set page ∷ Looked set head tail ∷ x; read = record { set = set; index = head; page = page } ∷ (l.cells ++ old.view.own.read) }) old)
        (sym (append_assoc l.said (Read 1 old.view.generation ∷ []) old.view.own.log));
  }

  -- a set was looked at
  pub looked_at : (set : ℕ) (a d : Hand) (head tail : ℕ) → LooksLast set head tail a.worker d.worker → d.notes.items ≡ a.notes.items → HandSearches g class 0 nothing nothing AnyLog a d
  looked_at set a d head tail l notes = let value = a.worker.view.generation in let said = Looked set head tail ∷ (l.said ++ Read 1 value ∷ []) in
      let h : Part = record a.worker.view.own { log = Looked set head tail ∷ (l.said ++ Read 1 value ∷ a.worker.view.own.log); read = l.cells ++ a.worker.view.own.read } in record {
        said = said;
        log = ap (λ (w : Seen). w.view.own.log) l.view ∙ ap (λ (x : List Entry). Looked set head tail ∷ x) (sym (append_assoc l.said (Read 1 value ∷ []) a.worker.view.own.log));
        says = last_look g class set head tail value l.said l.looks;
        sets = fits-none g nothing said a.worker d.worker [] (looks_sweep set value l.said l.looks) (ap (λ (w : Seen). w.view.own.spans) l.view);
        property = tt;
        keeps = keeps_by a.worker d.worker h l.view refl refl refl refl (λ q. refl) (λ q. refl) (λ q m. refl);
        caching = ap (λ (w : Seen). w.caching) l.view;
        held = λ q. let z = ap (λ (w : Seen). times q w.view.own.held) l.view in omega arith;
        notes = notes ∙ sym (ap (λ (x : List SweepNote). a.notes.items ++ (x ++ [])) (looks_note g set value l.said l.looks) ∙ append-nil a.notes.items);
      }

  -- it was seen empty
  pub none_left : (a d : Hand) (head tail : ℕ) → PopsUnswept (unswept_set g class full) a.worker d.worker (EmptyBase head tail) → d.notes.items ≡ a.notes.items
      → HandSearches g class 0 nothing nothing (SawEmpty (unswept_set g class full)) a d
  unfolding looked_at
  none_left a d head tail pops notes = let set = unswept_set g class full in let x = looked_at set a d head tail pops.1 notes in record {
    said = x.said;
    log = x.log;
    says = x.says;
    sets = x.sets;
    property = rw (eq-eqb set set refl, eq-eqb head tail pops.0) (omega arith);
    keeps = x.keeps;
    caching = x.caching;
    held = x.held;
    notes = x.notes;
  }

  module _ (small : full < 2) (page : ℕ) (a : Hand) (w : Seen) (pop : Popping page a.worker w) (same_g : a.worker.view.generation ≡ g) where
    -- the entry is dropped, since its page has another word
    pub dropped : (word : ℕ) (d : Hand) → d.worker ≡ after_said (Finds page word) w → d.notes.items ≡ a.notes.items → HandSearches g class 1 nothing nothing AnyLog a d
    dropped word d e notes = let all = e ∙ ap (after_said (Finds page word)) pop.view in
        let h : Part = (after_said (Finds page word) (popped_by page pop.said pop.cells a.worker)).view.own in record {
          said = Found page word ∷ pop.said;
          log = ap (λ (x : Seen). x.view.own.log) all;
          says = says-trans g class 1 0 1 nothing nothing nothing pop.said (Found page word ∷ []) pop.says (found g class page word) (omega arith) (λ p. omega arith);
          sets = fits-none g nothing (Found page word ∷ pop.said) a.worker d.worker [] pop.sweeps (ap (λ (x : Seen). x.view.own.spans) all);
          property = tt;
          keeps = keeps_by a.worker d.worker h all refl refl refl refl (λ q. refl) (λ q. times_back q page a.worker.view.own.popped) (λ q m. refl);
          caching = ap (λ (w : Seen). w.caching) all;
          held = λ q. let z = ap (λ (x : Seen). times q x.view.own.held) all in omega arith;
          notes = notes ∙ sym (ap (λ (x : List SweepNote). a.notes.items ++ (x ++ [])) pop.notes ∙ append-nil a.notes.items);
        }

    before_is : w.view.generation ≡ g
    before_is = ap (λ (x : Seen). x.view.generation) pop.view ∙ same_g

    -- the span is acquired
    module _ (b₀ : Body) (there : Seen) (got : AcquiresSpan page w there (Got b₀)) where
      generation_then : there.view.generation ≡ g
      generation_then = ap (λ (x : Seen). x.view.generation) (got.1 ∙ ap (after_of Acquires (span_of b₀)) pop.view) ∙ same_g

      pub class_before : b₀.class ≡ class
      class_before = sym (got.5 (unswept_set g class full) (ap (λ (x : ℕ). is_swept_set x (unswept_set g class full)) before_is ∙ unswept_is g class full (omega arith)) named) ∙ class_here g class full small
        where
          named : 0 < many (is_pop_of (unswept_set g class full) b₀.page) w.view.own.log
          named = let z = ap (λ (x : Seen). many (is_pop_of (unswept_set g class full) b₀.page) x.view.own.log) pop.view in
              let y = many-append (is_pop_of (unswept_set g class full) b₀.page) pop.said a.worker.view.own.log in
              let x = ap (λ (p : ℕ). many (is_pop_of (unswept_set g class full) p) pop.said) got.0 in let p = pop.popped in omega arith

      pub unpopped_before : class < 136 → many (is_pop_of (swept_set there.view.generation class 1) b₀.page) there.view.own.log ≡ 0
      unpopped_before low = ap (λ (z : ℕ). many (is_pop_of (swept_set z class 1) b₀.page) there.view.own.log) generation_then ∙ ap (λ (x : Seen). many (is_pop_of (swept_set g class 1) b₀.page) x.view.own.log) got.1
          ∙ ap (λ (p : ℕ). many (is_pop_of (swept_set g class 1) p) w.view.own.log) got.0
          ∙ got.3.pops (swept_set g class 1) (swept_low g class 1 (omega arith) low) (ap (λ (x : ℕ). is_swept_set x (swept_set g class 1)) before_is ∙ swept_is g class 1 (omega arith))

    -- and swept
    module _ (c mid : Hand) (b₀ b : Body) (got : AcquiresSpan page w c.worker (Got b₀)) (marks : MarkSet) (s : Sweeping marks b₀ b c mid) (notes : c.notes.items ≡ a.notes.items) where
      abbrev start : Seen
      start = popped_by page pop.said pop.cells a.worker

      abbrev sweep : Seen → Seen
      sweep x = after_of Releases (span_of b) (after_said (Adds 2 s.worker.before b.pages) (after_said (Reads 1 x.view.generation) x))

      all : mid.worker ≡ sweep (after_of Acquires (span_of b₀) start)
      all = s.worker.view ∙ ap sweep (got.1 ∙ ap (after_of Acquires (span_of b₀)) pop.view)

      page_is : b₀.page ≡ b.page
      page_is = sym s.body.same.page

      entry_is : page ≡ b.page
      entry_is = sym got.0 ∙ page_is

      log_before : c.worker.view.own.log ≡ pop.said ++ a.worker.view.own.log
      log_before = ap (λ (x : Seen). x.view.own.log) (got.1 ∙ ap (after_of Acquires (span_of b₀)) pop.view)

      generation_is : c.worker.view.generation ≡ g
      generation_is = ap (λ (x : Seen). x.view.generation) (got.1 ∙ ap (after_of Acquires (span_of b₀)) pop.view) ∙ same_g

      had : mine b.page a.worker.view.own ≡ 0
      had = ap (λ (z : ℕ). mine z a.worker.view.own) (sym entry_is) ∙ sym (ap (λ (x : Seen). mine page x.view.own) pop.view) ∙ got.4

      abbrev sweeping_is : Rattle.worker_log.specs.declared.Sweeping.Sweeping
      sweeping_is = record { page = b.page; pages = b.pages; kept = s.numbers.kept; freed = s.numbers.freed }

      abbrev sweep_said : List Entry
      sweep_said = SweptEntry sweeping_is ∷ Added 2 b.pages ∷ Read 2 s.worker.before ∷ Read 1 c.worker.view.generation ∷ []

      one_sweep : sweepings (sweep_said ++ pop.said) ≡ sweeping_is ∷ []
      one_sweep = ap (λ (l : List Rattle.worker_log.specs.declared.Sweeping.Sweeping). sweeping_is ∷ l) pop.sweeps

      log_after : mid.worker.view.own.log ≡ sweep_said ++ (pop.said ++ a.worker.view.own.log)
      log_after = s.worker.log ∙ ap (λ (x : List Entry). sweep_said ++ x) log_before

      bodies : (q : ℕ) → 0 < mine q a.worker.view.own → span_at q (span_of b ∷ span_of b₀ ∷ a.worker.view.own.spans) ≡ span_at q a.worker.view.own.spans
      bodies q m = let other : q ≢ b.page = (λ e. let z = ap (λ (x : ℕ). mine x a.worker.view.own) e in let y = had in omega arith) in
          span_else (span_of b) (span_of b₀ ∷ a.worker.view.own.spans) q other ∙ span_else (span_of b₀) a.worker.view.own.spans q (λ e. other (e ∙ page_is))

      popped_back : (q : ℕ) → times q (erase b₀.page (a.worker.view.own.popped ++ page ∷ [])) ≡ times q a.worker.view.own.popped
      popped_back q = ap (λ (z : ℕ). times q (erase z (a.worker.view.own.popped ++ page ∷ []))) got.0 ∙ times_back q page a.worker.view.own.popped

      sweeping_back : (q : ℕ) → times q (erase b.page (a.worker.view.own.sweeping ++ b₀.page ∷ [])) ≡ times q a.worker.view.own.sweeping
      sweeping_back q = ap (λ (z : ℕ). times q (erase z (a.worker.view.own.sweeping ++ b₀.page ∷ []))) (sym page_is) ∙ times_back q b₀.page a.worker.view.own.sweeping

      note_is : note_of c.worker.view.generation b s.numbers ∷ [] ≡ notes_of g (sweep_said ++ pop.said)
      note_is = ap (λ (z : ℕ). note_of z b s.numbers ∷ []) generation_is ∙ sym (ap (λ (x : List SweepNote). (((x ++ []) ++ []) ++ []) ++ note_of g b s.numbers ∷ []) pop.notes)

      notes_after : mid.notes.items ≡ a.notes.items ++ notes_of g (sweep_said ++ pop.said)
      notes_after = s.notes ∙ ap (λ (x : List SweepNote). x ++ note_of c.worker.view.generation b s.numbers ∷ []) notes ∙ ap (λ (x : List SweepNote). a.notes.items ++ x) note_is

      untouched : IsUntouched g mid.worker.view.own b.page
      untouched = let u = got.3 in record {
        pops = λ j low part. let k = ap (many (is_pop_of j b.page)) log_after in let z = u.pops j low (ap (λ (x : ℕ). is_swept_set x j) before_is ∙ part) in
            let y : many (is_pop_of j b.page) w.view.own.log ≡ 0 = ap (λ (x : ℕ). many (is_pop_of j x) w.view.own.log) (sym entry_is) ∙ z in
            let x = ap (λ (v : Seen). many (is_pop_of j b.page) v.view.own.log) pop.view in omega arith;
        placings = let k = ap (many (is_placing_in b.page)) log_after in let y : many (is_placing_in b.page) w.view.own.log ≡ 0 = ap (λ (x : ℕ). many (is_placing_in x) w.view.own.log) (sym entry_is) ∙ u.placings in
            let x = ap (λ (v : Seen). many (is_placing_in b.page) v.view.own.log) pop.view in omega arith;
      }

      class_is : b.class ≡ class
      class_is = s.body.same.class ∙ class_before b₀ c.worker got

      -- it is kept
      pub kept : HasRoom b → marks.pairs ≡ a.worker.view.marks → SweepsOut g class b a mid × HandSearches g class 1 (just b.page) (just b.page) (SweptIt b.page) a mid
      kept room same = (
        record {
          hands_out = record {
            of_class = class_is;
            room = room;
            held = ap (λ (x : Seen). has b.page x.view.own.held) all ∙ has_last b.page a.worker.view.own.held;
            lent = ap (λ (x : Seen). span_at b.page x.view.own.spans) all ∙ span_here (span_of b) (span_of b₀ ∷ a.worker.view.own.spans);
            before = had;
            unpopped = λ j low part room. untouched.pops j low part;
          };
          marks = λ k. s.body.marked k ∙ ap (λ (l : List (ℕ × ℕ)). has_pair l b₀.page k) same ∙ ap (λ (p : ℕ). has_pair a.worker.view.marks p k) page_is;
          untouched = untouched;
        },
        record {
          said = sweep_said ++ pop.said;
          log = log_after;
          says = says-trans g class 1 0 1 nothing (just b.page) (just b.page) pop.said sweep_said pop.says (swept g class sweeping_is s.worker.before c.worker.view.generation) (omega arith) (λ p. omega arith);
          sets = fits-kept g (just b.page) (sweep_said ++ pop.said) a.worker mid.worker (span_of b ∷ span_of b₀ ∷ []) sweeping_is one_sweep (ap (λ (x : Seen). x.view.own.spans) all) (rw (eq-eqb b.page b.page refl) (omega arith));
          property = rw (eq-eqb b.page b.page refl) (omega arith);
          keeps = keeps_by a.worker mid.worker (sweep (after_of Acquires (span_of b₀) start)).view.own all refl refl refl refl sweeping_back popped_back bodies;
          caching = ap (λ (w : Seen). w.caching) all;
          held = λ q. ap (λ (x : Seen). times q x.view.own.held) all ∙ times_more q b.page a.worker.view.own.held;
          notes = notes_after;
        },
      )

      -- it is pushed to the full set
      pub gone : (d : Hand) → IsFullBody b → a.worker.view.own.claimed ≡ None → d.worker ≡ after_said (Fills (swept_set c.worker.view.generation class 1) b.page) (after_said (Reads 1 c.worker.view.generation) mid.worker) → d.notes.items ≡ mid.notes.items
          → HandSearches g class 1 nothing nothing AnyLog a d
      gone d full free e notes = let set = swept_set g class 1 in let value = c.worker.view.generation in
          let push = (λ (x : Seen). after_said (Fills set b.page) (after_said (Reads 1 value) x)) in
          let e' : d.worker ≡ push mid.worker = e ∙ ap (λ (z : ℕ). after_said (Fills (swept_set z class 1) b.page) (after_said (Reads 1 value) mid.worker)) generation_is in
          let whole : d.worker ≡ push (sweep (after_of Acquires (span_of b₀) start)) = e' ∙ ap push all in
          let said = Pushed set b.page ∷ Read 1 value ∷ sweep_said in record {
            said = said ++ pop.said;
            log = ap (λ (x : Seen). x.view.own.log) e' ∙ ap (λ (l : List Entry). Pushed set b.page ∷ Read 1 value ∷ l) log_after;
            says = says-trans g class 1 0 1 nothing nothing nothing pop.said said pop.says (pushed g class sweeping_is s.worker.before value value) (omega arith) (λ p. omega arith);
            sets = fits-pushed g nothing (said ++ pop.said) a.worker d.worker (span_of b₀ ∷ []) sweeping_is (span_of b) true one_sweep (ap (λ (x : Seen). x.view.own.spans) whole) refl kept_count (λ z. full) (λ z. absurd (true≢false z)) to_full;
            property = tt;
            keeps = keeps_by a.worker d.worker (push (sweep (after_of Acquires (span_of b₀) start))).view.own whole refl refl (sym free) refl sweeping_back popped_back bodies;
            caching = ap (λ (w : Seen). w.caching) whole;
            held = λ q. let z = ap (λ (x : Seen). times q x.view.own.held) whole in let y = times_back q b.page a.worker.view.own.held in omega arith;
            notes = notes ∙ notes_after ∙ ap (λ (x : List SweepNote). a.notes.items ++ x) (sym more_notes);
          }
        where
          kept_count : s.numbers.kept ≡ count_below b.count (allocated b)
          kept_count = sym (ap (λ (m : ℕ). count_below m (allocated b)) s.body.same.count ∙ (λ i. count_below b₀.count (λ k. s.body.marked k i)) ∙ sym s.body.kept)

          to_full : 0 < many (is_push_of (swept_set g b.class 1) b.page) (Pushed (swept_set g class 1) b.page ∷ Read 1 c.worker.view.generation ∷ (sweep_said ++ pop.said))
          to_full = rw (class_is, eq-eqb (swept_set g class 1) (swept_set g class 1) refl, eq-eqb b.page b.page refl) (omega arith)

          more_notes : notes_of g (Pushed (swept_set g class 1) b.page ∷ Read 1 c.worker.view.generation ∷ (sweep_said ++ pop.said)) ≡ notes_of g (sweep_said ++ pop.said)
          more_notes = append-nil (notes_of g (Read 1 c.worker.view.generation ∷ (sweep_said ++ pop.said))) ∙ append-nil (notes_of g (sweep_said ++ pop.said))
