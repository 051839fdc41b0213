-- An entry of an unswept set is popped, and its span acquired and swept, or found to wait no more.
use Rattle.std.proofs.Common.{◌≡◌, ℕ, suc, ◌^◌, ◌<◌, ◌≤◌, inl, inr, ⊎_elim, eq-eqb, ne_eqb, false, true≢false, List, [], ◌∷◌, ◌++◌, refl, ap, sym, subst, ◌∙◌, append_assoc, arith}
use Rattle.std.proofs.lemmas.List.{append-nil}
use Rattle.std.specs.Prelude.{None}
use Rattle.std.specs.List.{AllByRecursion}
use Rattle.span_state.specs.MarkSet.{MarkSet}
use Rattle.span_state.specs.declared.body.Body.{Body}
use Rattle.span_state.specs.declared.sweep.SweepNote.{SweepNote}
use Rattle.sweep_laws.specs.Lists.{erase}
use Rattle.sweep_laws.specs.Reading.{is_swept_set}
use Rattle.worker_log.specs.declared.Entry.{Entry}
use Rattle.worker_log.specs.declared.Entry.TheVariants.{Looked, LookedEmptyCell, Popped, Pushed, Swept, Took, Missed, Gave, Allocated, Found, Read, Added, Pulled, NoPage, Cut as CutEntry, NoCut, Settled}
use Rattle.worker_log.specs.declared.Sweeping.{Sweeping}
use Rattle.worker_log.specs.Logs.{sweepings}
use Rattle.worker_log.specs.Entries.{is_pop, many}
use Rattle.worker_log.proofs.Logs.{many-append}
use Rattle.span_laws.specs.TakeAnswers.{cycle_at}
use Rattle.span_laws.specs.Answers.{AcquiresSpan}
use Rattle.span_laws.specs.Asks.{IsUntouched}
use Rattle.span_laws.specs.declared.answers.Acquired.TheVariants.{Got, Other}
use Rattle.span_laws.specs.declared.said.Said.TheVariants.{LooksCell, PopsEntry}
use Rattle.span_laws.specs.Views.{Seen}
use Rattle.span_laws.specs.OwnSteps.{after_said}
use Rattle.span_set.specs.Pops.{IsLookAt, LooksLast, PopsUnswept}
use Rattle.span_set.specs.declared.answers.PopBase.TheVariants.{Popped as PoppedBase, Empty as EmptyBase}
use Rattle.span_set.specs.declared.hand.Hand.{Hand}
use Rattle.span_set.specs.Fits.{no_page}
use Rattle.span_set.proofs.Fits.{fits-none}
use Rattle.sweeper.specs.Settles.{Settles}
use Rattle.sweeper.specs.Tries.{SweepsNone, TriesEntry}
use Rattle.sweeper.specs.Sweeps.{SweepsSpan}
use Rattle.sweeper.specs.Work.{WorkerSweeps, OnlySweeps, Stays, note_by, notes_of}
use Rattle.sweeper.specs.declared.sweep.Tried.TheVariants.{Swept as WasSwept, Gone, Empty}
use Rattle.sweeper.proofs.Counting.{none-append, none-both, notes-append, notes-none, plain-append, some-new, sweepings-append, sweeps-append}
use Rattle.sweeper.proofs.Working.{does-both}
use Rattle.sweeper.proofs.Settling.{swings}

-- what is no look is not among looks
module _ (set : ℕ) where
  look_is : (e : Entry) → IsLookAt set e → (h : ℕ) × (t : ℕ) × (e ≡ Looked set h t)
  look_is (Looked s h t) a = (h, t, ap (λ (x : ℕ). Looked x h t) a)
  look_is (LookedEmptyCell s i) a = absurd a
  look_is (Pulled number line) a = absurd a
  look_is NoPage a = absurd a
  look_is (CutEntry page pages class) a = absurd a
  look_is (NoCut pages left) a = absurd a
  look_is (Settled number) a = absurd a
  look_is (Popped s p) a = absurd a
  look_is (Pushed s p) a = absurd a
  look_is (Swept s) a = absurd a
  look_is (Took m l) a = absurd a
  look_is (Missed m l) a = absurd a
  look_is (Gave p m) a = absurd a
  look_is (Allocated x) a = absurd a
  look_is (Found p w) a = absurd a
  look_is (Read w x) a = absurd a
  look_is (Added w x) a = absurd a

  -- looks and a read of the generation
  pub one_quiet : (h t : ℕ) (g : ℕ) → is_swept_set g set ≡ false → OnlySweeps g (Looked set h t ∷ [])
  one_quiet h t g off = record {
    unplaced = refl;
    unspent = refl;
    swept_pages = refl;
    given = λ p. refl;
    pushed = λ p. refl;
    unpopped = λ j p s. refl;
    unlooked = λ j s. rw (ne_eqb set j (λ z. true≢false (sym s ∙ ap (λ (x : ℕ). is_swept_set g x) (sym z) ∙ off))) refl;
    untouched = λ p. refl;
  }

  pub one_none : (h t : ℕ) → SweepsNone (Looked set h t ∷ [])
  one_none h t = record { none = refl; plain = record { takes_none = record { untaken = refl; unmissed = refl }; unclaimed = refl; unread = λ i. refl; keeps_block = refl } }

  read_quiet : (v g : ℕ) → OnlySweeps g (Read 1 v ∷ [])
  read_quiet v g = record { unplaced = refl; unspent = refl; swept_pages = refl; given = λ p. refl; pushed = λ p. refl; unpopped = λ j p s. refl; unlooked = λ j s. refl; untouched = λ p. refl }

  looks_sweeps : (v g : ℕ) → is_swept_set g set ≡ false → (said : List Entry) → AllByRecursion (IsLookAt set) said → OnlySweeps g (said ++ Read 1 v ∷ [])
  looks_sweeps v g off [] a = read_quiet v g
  looks_sweeps v g off (e ∷ said) a = let x = look_is e a.0 in
      sweeps-append g (e ∷ []) (said ++ Read 1 v ∷ []) (subst (λ (y : Entry). OnlySweeps g (y ∷ [])) (sym x.2) (one_quiet x.0 x.1 g off)) (looks_sweeps v g off said a.1)

  looks_none : (v : ℕ) (said : List Entry) → AllByRecursion (IsLookAt set) said → SweepsNone (said ++ Read 1 v ∷ [])
  looks_none v [] a = record { none = refl; plain = record { takes_none = record { untaken = refl; unmissed = refl }; unclaimed = refl; unread = λ i. refl; keeps_block = refl } }
  looks_none v (e ∷ said) a = let x = look_is e a.0 in
      none-append (e ∷ []) (said ++ Read 1 v ∷ []) (subst (λ (y : Entry). SweepsNone (y ∷ [])) (sym x.2) (one_none x.0 x.1)) (looks_none v said a.1)

  looks_unpopped : (k v : ℕ) (said : List Entry) → AllByRecursion (IsLookAt set) said → many (is_pop k) (said ++ Read 1 v ∷ []) ≡ 0
  looks_unpopped k v [] a = refl
  looks_unpopped k v (e ∷ said) a = let x = look_is e a.0 in
      none-both (is_pop k) (e ∷ []) (said ++ Read 1 v ∷ []) (subst (λ (y : Entry). many (is_pop k) (y ∷ []) ≡ 0) (sym x.2) refl) (looks_unpopped k v said a.1)

  -- what the looks of a pop add
  module _ (head tail : ℕ) (w now : Seen) (l : LooksLast set head tail w now) where
    abbrev pub looks_said : List Entry
    looks_said = Looked set head tail ∷ (l.said ++ Read 1 w.view.generation ∷ [])

    looks_log : now.view.own.log ≡ looks_said ++ w.view.own.log
    looks_log = ap (λ (x : Seen). x.view.own.log) l.view ∙ ap (λ (y : List Entry). Looked set head tail ∷ y) (sym (append_assoc l.said (Read 1 w.view.generation ∷ []) w.view.own.log))

    pub looks_are : SweepsNone looks_said
    looks_are = none-append (Looked set head tail ∷ []) (l.said ++ Read 1 w.view.generation ∷ []) (one_none head tail) (looks_none w.view.generation l.said l.looks)

    pub looks_does : is_swept_set w.view.generation set ≡ false → WorkerSweeps [] looks_said w now
    looks_does off = record {
      log = looks_log;
      sweeps = sweeps-append w.view.generation (Looked set head tail ∷ []) (l.said ++ Read 1 w.view.generation ∷ []) (one_quiet head tail w.view.generation off) (looks_sweeps w.view.generation w.view.generation off l.said l.looks);
      sets = fits-none w.view.generation no_page looks_said w now [] looks_are.none (ap (λ (x : Seen). x.view.own.spans) l.view);
      held = ap (λ (x : Seen). x.view.own.held) l.view ∙ sym (append-nil w.view.own.held);
      stays = subst (Stays w) (sym l.view) (record { away = refl; table = refl; number = refl; caching = refl; region = refl; goal = refl; procs = refl; generation = refl; marks = refl; before = refl; carried = refl; parts = refl; sweeping = refl; cached = refl; claimed = refl; fresh = refl; reset = refl; bodies = λ q h. refl });
    }

    pub looks_popped : now.view.own.popped ≡ w.view.own.popped
    looks_popped = ap (λ (x : Seen). x.view.own.popped) l.view

    -- a pop behind them
    module _ (page : ℕ) (new : Seen) (unswept : is_swept_set w.view.generation set ≡ false) (e : new ≡ after_said (PopsEntry set page) (after_said (LooksCell set head (suc page)) now)) where
      abbrev pub pop_said : List Entry
      pop_said = Popped set page ∷ looks_said

      pop_step : WorkerSweeps [] (Popped set page ∷ []) now new
      pop_step = record {
        log = ap (λ (x : Seen). x.view.own.log) e;
        sweeps = record {
          unplaced = refl;
          unspent = refl;
          swept_pages = refl;
          given = λ p. refl;
          pushed = λ p. refl;
          unpopped = λ j p s. rw (ne_eqb set j (λ z. true≢false (sym s ∙ ap (λ (x : ℕ). is_swept_set now.view.generation x) (sym z) ∙ ap (λ (g : ℕ). is_swept_set g set) (looks_does unswept).stays.generation ∙ unswept))) refl;
          unlooked = λ j s. refl;
          untouched = λ p. refl;
        };
        sets = fits-none now.view.generation no_page (Popped set page ∷ []) now new [] refl (ap (λ (x : Seen). x.view.own.spans) e);
        held = ap (λ (x : Seen). x.view.own.held) e ∙ sym (append-nil now.view.own.held);
        stays = subst (Stays now) (sym e) (record { away = refl; table = refl; number = refl; caching = refl; region = refl; goal = refl; procs = refl; generation = refl; marks = refl; before = refl; carried = refl; parts = refl; sweeping = refl; cached = refl; claimed = refl; fresh = refl; reset = refl; bodies = λ q h. refl });
      }

      pub pop_does : WorkerSweeps [] pop_said w new
      pop_does = does-both w now new [] [] looks_said (Popped set page ∷ []) (looks_does unswept) pop_step

      pub pop_none : SweepsNone pop_said
      pop_none = none-append (Popped set page ∷ []) looks_said (record { none = refl; plain = record { takes_none = record { untaken = refl; unmissed = refl }; unclaimed = refl; unread = λ i. refl; keeps_block = refl } }) looks_are

      pub pop_once : many (is_pop set) pop_said ≡ 1
      pop_once = let z = looks_unpopped set w.view.generation l.said l.looks in rw (eq-eqb set set refl) (omega arith)

      pub pop_popped : w.view.own.popped ≡ [] → new.view.own.popped ≡ page ∷ []
      pop_popped none = ap (λ (x : Seen). x.view.own.popped) e ∙ ap (λ (y : List ℕ). y ++ page ∷ []) (looks_popped ∙ none)

-- a span swept after entries without a sweep
pub swept_more : (g : ℕ) (s : Sweeping) (xs ys : List Entry) → SweepsSpan g s xs → SweepsNone ys → SweepsSpan g s (xs ++ ys)
swept_more g s xs ys x y = record {
  only = sweepings-append xs ys ∙ ap (λ (l : List Sweeping). sweepings xs ++ l) y.none ∙ append-nil (sweepings xs) ∙ x.only;
  body = x.body;
  page = x.page;
  kept = x.kept;
  settled = ⊎_elim (λ z. inl (z.0, some-new _ xs ys z.1)) (λ w. inr (⊎_elim (λ z. inl (z.0, z.1, some-new _ xs ys z.2)) (λ z. inr (z.0, z.1, some-new _ xs ys z.2)) w)) x.settled;
  plain = plain-append xs ys x.plain y.plain;
}

-- by the answer
module _ (set : ℕ) (h : Hand) (unswept : is_swept_set h.worker.view.generation set ≡ false) (none : h.worker.view.own.popped ≡ []) where
  few_pops : (more : List ℕ) (said : List Entry) (new : Seen) (head tail : ℕ) → WorkerSweeps more said h.worker new → many (is_pop set) said ≡ 1 → many (is_pop set) h.worker.view.own.log ≤ head → head < tail → tail < 2 ^ 32 → many (is_pop set) new.view.own.log ≤ 2 ^ 32
  few_pops more said new head tail d one passed less low = let a = many-append (is_pop set) said h.worker.view.own.log in let b = ap (many (is_pop set)) d.log in omega arith

  erased : (page : ℕ) → erase page (page ∷ []) ≡ []
  erased page = rw (eq-eqb page page refl) refl

  pub tried_empty : (head tail : ℕ) (new : Seen) → PopsUnswept set h.worker new (EmptyBase head tail) → TriesEntry set h (record h { worker = new }) Empty
  tried_empty head tail new r = (
    record {
      said = looks_said set head tail h.worker new r.1;
      did = (looks_are set head tail h.worker new r.1, rw (eq-eqb set set refl, eq-eqb head tail r.0) (omega arith));
      does = looks_does set head tail h.worker new r.1 unswept;
      notes = sym (append-nil h.notes.items) ∙ ap (λ (n : List SweepNote). h.notes.items ++ n) (sym (notes-none (cycle_at h.worker.view.generation) (looks_said set head tail h.worker new r.1) (looks_are set head tail h.worker new r.1).none));
      popped = looks_popped set head tail h.worker new r.1 ∙ none;
    },
    refl,
  )

  module _ (page : ℕ) (mid : Seen) (r : PopsUnswept set h.worker mid (PoppedBase page)) where
    abbrev said₀ : List Entry
    said₀ = pop_said set r.0 r.1 h.worker r.2 r.3 page mid unswept r.5

    does₀ : WorkerSweeps [] said₀ h.worker mid
    does₀ = pop_does set r.0 r.1 h.worker r.2 r.3 page mid unswept r.5

    mid_popped : mid.view.own.popped ≡ page ∷ []
    mid_popped = pop_popped set r.0 r.1 h.worker r.2 r.3 page mid unswept r.5 none

    none₀ : SweepsNone said₀
    none₀ = pop_none set r.0 r.1 h.worker r.2 r.3 page mid unswept r.5

    once₀ : many (is_pop set) said₀ ≡ 1
    once₀ = pop_once set r.0 r.1 h.worker r.2 r.3 page mid unswept r.5

    pub tried_gone : (word : ℕ) (new : Seen) → AcquiresSpan page mid new (Other word) → TriesEntry set h (record h { worker = new }) Gone
    tried_gone word new a =
        let step : WorkerSweeps [] (Found page word ∷ []) mid new = record {
          log = ap (λ (x : Seen). x.view.own.log) a.1;
          sweeps = record { unplaced = refl; unspent = refl; swept_pages = refl; given = λ p. refl; pushed = λ p. refl; unpopped = λ j p s. refl; unlooked = λ j s. refl; untouched = λ p. refl };
          sets = fits-none mid.view.generation no_page (Found page word ∷ []) mid new [] refl (ap (λ (x : Seen). x.view.own.spans) a.1);
          held = ap (λ (x : Seen). x.view.own.held) a.1 ∙ sym (append-nil mid.view.own.held);
          stays = subst (Stays mid) (sym a.1) (record { away = refl; table = refl; number = refl; caching = refl; region = refl; goal = refl; procs = refl; generation = refl; marks = refl; before = refl; carried = refl; parts = refl; sweeping = refl; cached = refl; claimed = refl; fresh = refl; reset = refl; bodies = λ q h. refl });
        } in
        let d = does-both h.worker mid new [] [] said₀ (Found page word ∷ []) does₀ step in
        let n : SweepsNone (Found page word ∷ said₀) = none-append (Found page word ∷ []) said₀ (record { none = refl; plain = record { takes_none = record { untaken = refl; unmissed = refl }; unclaimed = refl; unread = λ i. refl; keeps_block = refl } }) none₀ in
        let one : many (is_pop set) (Found page word ∷ said₀) ≡ 1 = (let z = once₀ in omega arith) in (
          record {
            said = Found page word ∷ said₀;
            did = (n, omega arith);
            does = d;
            notes = sym (append-nil h.notes.items) ∙ ap (λ (x : List SweepNote). h.notes.items ++ x) (sym (notes-none (cycle_at h.worker.view.generation) (Found page word ∷ said₀) n.none));
            popped = ap (λ (x : Seen). x.view.own.popped) a.1 ∙ ap (erase page) mid_popped ∙ erased page;
          },
          refl,
          few_pops [] (Found page word ∷ said₀) new r.0 r.1 d one r.3.passed r.4 r.7,
        )

    pub tried_swept : (marks : MarkSet) (got : Body) (h1 h2 : Hand) (note : SweepNote) → h1.notes.items ≡ h.notes.items → AcquiresSpan page mid h1.worker (Got got) → Settles marks got h1 h2 note → h.worker.view.own.claimed ≡ None → TriesEntry set h h2 (WasSwept note)
    tried_swept marks got h1 h2 note same a t free =
        let gone : erase got.page mid.view.own.popped ≡ [] = ap (erase got.page) mid_popped ∙ ap (λ (p : ℕ). erase p (page ∷ [])) a.0 ∙ erased page in
        let z = swings marks page mid got h1 h2 note a t gone (does₀.stays.claimed ∙ free) in
        let g = h.worker.view.generation in
        let gen : mid.view.generation ≡ g = does₀.stays.generation in
        let d = does-both h.worker mid h2.worker [] [] said₀ z.said does₀ z.does in
        let one : many (is_pop set) (z.said ++ said₀) ≡ 1 = (let x = many-append (is_pop set) z.said said₀ in let y = z.pops set in let u = once₀ in omega arith) in (
          z.s,
          z.note_is ∙ ap (λ (m : ℕ). note_by (cycle_at m) z.s) gen,
          record {
            said = z.said ++ said₀;
            did = (swept_more g z.s z.said said₀ (subst (λ (m : ℕ). SweepsSpan m z.s z.said) gen z.sweeps) none₀, omega arith);
            does = d;
            notes = z.notes ∙ (λ i. same i ++ notes_of (cycle_at (gen i)) z.said)
                ∙ ap (λ (x : List SweepNote). h.notes.items ++ x) (sym (notes-append (cycle_at g) z.said said₀ ∙ ap (λ (x : List SweepNote). x ++ notes_of (cycle_at g) z.said) (notes-none (cycle_at g) said₀ none₀.none)));
            popped = z.popped;
          },
          few_pops [] (z.said ++ said₀) h2.worker r.0 r.1 d one r.3.passed r.4 r.7,
        )

-- what an acquire tells of its page is so behind it
pub still_untouched : (page : ℕ) (mid new : Seen) (got : Body) → AcquiresSpan page mid new (Got got) → IsUntouched new.view.generation new.view.own got.page
still_untouched page mid new got a = subst (λ (w : Seen). IsUntouched w.view.generation w.view.own got.page) (sym a.1)
    (let u = subst (λ (p : ℕ). IsUntouched mid.view.generation mid.view.own p) (sym a.0) a.3 in record { pops = u.pops; placings = u.placings })
