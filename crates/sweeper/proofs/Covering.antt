-- The reclaimer covers pages, chunks and what was asked.
use Rattle.std.proofs.Common.{◌≡◌, ℕ, zero, suc, ◌+◌, ◌*◌, ◌-◌, ◌/◌, ◌%◌, ◌^◌, ◌<◌, ◌≤◌, ◌⊎◌, inl, inr, ⊎_elim, Bool, eqb, eq-eqb, ne_eqb, true, false, List, [], ◌∷◌, ◌++◌, min, refl, ap, sym, subst, ◌∙◌, arith}
use Rattle.std.proofs.lemmas.List.{append-nil}
use Rattle.std.specs.Prelude.{Ok, Err, None, Some}
use Rattle.fallible_list.specs.declared.list.NoMemory.{NoMemory}
use mathlib.Core.Logic.{dite}
use native.Mathlib.Decide.{ℕ_discrete, dec_le}
use Rattle.page_bitmap.specs.Counts.{one_if}
use Rattle.span_state.specs.Bits.{count_below}
use Rattle.span_state.specs.MarkSet.{MarkSet, has_pair, is_marked}
use Rattle.span_state.specs.declared.body.Body.{Body}
use Rattle.span_state.specs.declared.sweep.SweepNote.{SweepNote}
use Rattle.sweep_laws.specs.Lists.{erase}
use Rattle.worker_log.specs.declared.Entry.{Entry}
use Rattle.worker_log.specs.declared.Entry.TheVariants.{Added, Read}
use Rattle.worker_log.specs.Entries.{is_sweep_of, many}
use Rattle.worker_log.proofs.Logs.{many-append}
use Rattle.span_laws.specs.TakeAnswers.{cycle_at}
use Rattle.span_laws.specs.Answers.{AcquiresSpan}
use Rattle.span_laws.specs.declared.answers.Acquired.TheVariants.{Got}
use Rattle.span_laws.specs.declared.said.Said.TheVariants.{Adds}
use Rattle.span_laws.specs.Views.{Seen}
use Rattle.span_laws.specs.OwnSteps.{after_said}
use Rattle.span_set.specs.declared.hand.Hand.{Hand}
use Rattle.span_set.specs.Blocks.{is_of_block}
use Rattle.span_set.specs.Fits.{no_page}
use Rattle.span_set.proofs.Fits.{fits-none}
use Rattle.sweep_laws.specs.Counts.{total}
use Rattle.span_laws.specs.Logs.{is_finding_at}
use Rattle.span_laws.specs.Scans.{AcquiresUnmarked, PassesPages, logs}
use Rattle.sweep_reads.specs.Waiting.{HasNoMark}
use Rattle.sweeper.specs.Entries.{is_added, is_read, pages_given}
use Rattle.sweeper.specs.Reclaims.{HasPassed, HasReclaimed, Reclaims, SparesMarked, chunks_of}
use Rattle.sweeper.specs.ReclaimSteps.{CoversChunks, CoversPage, CoversPages, ReclaimsChunk, ReclaimsNext, ReclaimsPage}
use Rattle.sweeper.specs.Settles.{Settles}
use Rattle.sweeper.specs.Work.{IsPlain, KeepsBlock, MakesNone, Stays, TakesNone, HandSweeps, notes_of}
use Rattle.sweeper.proofs.Counting.{none-both, plain-append, some-old, takes-append, total-append}
use Rattle.sweeper.proofs.Passing.{covers_passed, logs_works, passing_looks}
use Rattle.sweeper.proofs.Paying.{plain-nothing, works-room}
use Rattle.sweeper.proofs.Settling.{swings}
use Rattle.sweeper.proofs.Working.{works-as, works-both, works-nothing, works-step}

-- ---- one page

none_counted : (n : ℕ) (f : ℕ → Bool) → ((k : ℕ) → f k ≡ false) → count_below n f ≡ 0
unfolding count_below
none_counted zero f h = refl
none_counted (suc n) f h = let r = none_counted n f h in let z = ap Rattle.span_state.specs.Bits.one_if (h n) in omega arith

spares-append : (marks : List (ℕ × ℕ)) (xs ys : List Entry) → SparesMarked marks xs → SparesMarked marks ys → SparesMarked marks (xs ++ ys)
spares-append marks xs ys a b p l = dite (dec_le 1 (many (is_sweep_of p) xs)) (λ z. a p (omega arith)) (λ z. b p (let m = many-append (is_sweep_of p) xs ys in omega arith))

covers-new : (marks : List (ℕ × ℕ)) (p : ℕ) (xs ys : List Entry) → CoversPage marks p xs → CoversPage marks p (xs ++ ys)
covers-new marks p xs ys a u = let z = a u in let m = many-append (is_sweep_of p) xs ys in let n = many-append (is_finding_at p) xs ys in omega arith

covers-old : (marks : List (ℕ × ℕ)) (p : ℕ) (xs ys : List Entry) → CoversPage marks p ys → CoversPage marks p (xs ++ ys)
covers-old marks p xs ys a u = let z = a u in let m = many-append (is_sweep_of p) xs ys in let n = many-append (is_finding_at p) xs ys in omega arith

module _ (old : Hand) (none : old.worker.view.own.popped ≡ []) (page : ℕ) where
  module _ (mid : Hand) (worker : mid.worker ≡ old.worker) (notes : mid.notes.items ≡ old.notes.items) where
    -- its span was swept, without a mark
    pub page_swept : (marks : MarkSet) (got : Body) (h1 h2 : Hand) (note : SweepNote) → h1.notes.items ≡ mid.notes.items → AcquiresSpan page mid.worker h1.worker (Got got) → Settles marks got h1 h2 note
        → old.worker.view.own.claimed ≡ None → marks.pairs ≡ old.worker.view.marks → ((k : ℕ) → is_marked marks page k ≡ false) → got.pages < 2 ^ 32 → ReclaimsPage page got.pages old h2
    page_swept marks got h1 h2 note same a' t free agree unmarked low =
        let a : AcquiresSpan page old.worker h1.worker (Got got) = subst (λ (w : Seen). AcquiresSpan page w h1.worker (Got got)) worker a' in
        let z = swings marks page old.worker got h1 h2 note a t (ap (erase got.page) none) free in
        let kept : z.s.kept ≡ 0 = z.of_kept ∙ ap (λ (p : ℕ). count_below got.count (is_marked marks p)) a.0 ∙ none_counted got.count (is_marked marks page) unmarked in
        let at : z.s.page ≡ page = z.of_page ∙ a.0 in
        let clear : HasNoMark old.worker.view.marks page = (λ k. ap (λ (l : List (ℕ × ℕ)). has_pair l page k) (sym agree) ∙ unmarked k) in record {
          said = z.said;
          did = record {
            covers = λ p l m u. let y = z.swept p in let x : eqb z.s.page p ≡ true = eq-eqb z.s.page p (at ∙ (let e : page ≡ p = omega arith in e)) in let v = ap one_if x in omega arith;
            given_is = (let g = z.gives kept in let q = z.of_pages in omega arith);
            spares = λ p l. subst (HasNoMark old.worker.view.marks) (sym at ∙ is_page z.s.page p (let y = z.swept p in omega arith)) clear;
            plain = z.sweeps.plain;
          };
          does = z.does;
          notes = z.notes ∙ ap (λ (x : List SweepNote). x ++ notes_of (cycle_at old.worker.view.generation) z.said) (same ∙ notes);
          popped = z.popped;
        }
      where
        is_page : (x p : ℕ) → 0 < one_if (eqb x p) → x ≡ p
        is_page x p l = dite (ℕ_discrete x p) (λ e. e) (λ d. absurd (let y = ap one_if (ne_eqb x p d) in omega arith))

-- ---- the pages of a chunk

pub covers-append : (marks : List (ℕ × ℕ)) (from to next given more : ℕ) (xs ys : List Entry) → CoversPages marks from to given xs → CoversPages marks to next more ys → CoversPages marks from next (min (given + more) (2 ^ 32 - 1)) (ys ++ xs)
covers-append marks from to next given more xs ys a b = record {
  covers = λ p l m. dite (dec_le to p) (λ z. covers-new marks p ys xs (b.covers p z m)) (λ z. covers-old marks p ys xs (a.covers p l (omega arith)));
  given_is = (let x = a.given_is in let y = b.given_is in let t = total-append pages_given ys xs in omega arith);
  spares = spares-append marks ys xs b.spares a.spares;
  plain = plain-append ys xs b.plain a.plain;
}

-- pages are passed over
module _ (old : Hand) (none : old.worker.view.own.popped ≡ []) (from : ℕ) where
  passed_works : (to : ℕ) (said : List Entry) (new : Seen) → PassesPages old.worker.view.generation old.worker.view.marks from to said → new ≡ logs said old.worker → HandSweeps [] (CoversPages old.worker.view.marks from to 0) old (record old { worker = new })
  passed_works to said new w e = let q = passing_looks old.worker.view.generation old.worker.view.generation from to said w.only in
      works-as (λ s. s ≡ said) (CoversPages old.worker.view.marks from to 0) [] old (record old { worker = new }) (logs_works old said new e q.sweeps q.none.none none)
      (λ s p. subst (CoversPages old.worker.view.marks from to 0) (sym p) (covers_passed old.worker.view.generation old.worker.view.generation old.worker.view.marks from to said w q))

  -- to the last
  pub next_none : (to : ℕ) (new : Seen) → AcquiresUnmarked from to old.worker new None → ReclaimsNext from to old (record old { worker = new }) (Ok None)
  next_none to new a = passed_works to a.0 new a.1 a.2

  -- up to one whose span was swept
  module _ (to : ℕ) (marks : MarkSet) (agree : marks.pairs ≡ old.worker.view.marks) (body : Body) (low : body.pages < 2 ^ 32) (got : Seen) (a : AcquiresUnmarked from to old.worker got (Some body))
      (free : old.worker.view.own.claimed ≡ None) (swept : Hand) (note : SweepNote) (t : Settles marks body (record old { worker = got }) swept note) (new : Hand) (worker : new.worker ≡ swept.worker) (notes : new.notes.items ≡ swept.notes.items) where
    up_to : HandSweeps [] (CoversPages old.worker.view.marks from body.page 0) old (record old { worker = logs a.0 old.worker })
    up_to = passed_works body.page a.0 (logs a.0 old.worker) a.1 refl

    pub got_works : HandSweeps [] (CoversPages old.worker.view.marks from (body.page + 1) body.pages) old new
    got_works = let mid : Hand = record old { worker = logs a.0 old.worker } in
        let one : ReclaimsPage body.page body.pages mid swept = page_swept mid none body.page mid refl refl marks body (record old { worker = got }) swept note refl a.5 t free agree (λ k. ap (λ (l : List (ℕ × ℕ)). has_pair l body.page k) agree ∙ a.4 k) low in
        works-room (CoversPages old.worker.view.marks from (body.page + 1) body.pages) [] old swept new worker notes
        (subst (λ (x : ℕ). HandSweeps [] (CoversPages old.worker.view.marks from (body.page + 1) x) old swept) (omega arith)
        (works-both (CoversPages old.worker.view.marks from body.page 0) (CoversPages old.worker.view.marks body.page (body.page + 1) body.pages) (CoversPages old.worker.view.marks from (body.page + 1) (min (0 + body.pages) (2 ^ 32 - 1))) [] old mid swept up_to one
        (λ x y p q. covers-append old.worker.view.marks from body.page (body.page + 1) 0 body.pages x y p q)))

    pub next_got : ReclaimsNext from to old new (Ok (Some (body.page + 1, body.pages)))
    next_got = ((let l = a.2 in omega arith), (let l = a.3 in omega arith), got_works)

    -- there is no room for a further note
    pub next_wants : (e : NoMemory) → ReclaimsNext from to old new (Err e)
    next_wants e = works-as (CoversPages old.worker.view.marks from (body.page + 1) body.pages) (λ said. IsPlain said × SparesMarked old.worker.view.marks said) [] old new got_works (λ s p. (p.plain, p.spares))

module _ (old : Hand) (from : ℕ) where
  pub chunk_none : old.worker.view.own.popped ≡ [] → (new : Hand) → new.worker ≡ old.worker → new.notes.items ≡ old.notes.items → HandSweeps [] (CoversPages old.worker.view.marks from from 0) old new
  chunk_none none new worker notes = works-nothing (CoversPages old.worker.view.marks from from 0) old new worker notes none (record { covers = λ p l m. absurd (omega arith); given_is = refl; spares = λ p l. absurd (omega arith); plain = plain-nothing })

  -- no room for a note
  pub chunk_stops : old.worker.view.own.popped ≡ [] → (new : Hand) (e : NoMemory) (chunk : ℕ) → new.worker ≡ old.worker → new.notes.items ≡ old.notes.items → ReclaimsChunk chunk old new (Err e)
  chunk_stops none new e chunk worker notes = works-nothing (λ said. IsPlain said × SparesMarked old.worker.view.marks said) old new worker notes none (plain-nothing, λ p l. absurd (omega arith))

  module _ (to given : ℕ) (now new : Hand) (w : HandSweeps [] (CoversPages old.worker.view.marks from to given) old now) where
    pub chunk_more : (next more sum : ℕ) → sum ≡ min (given + more) (2 ^ 32 - 1) → HandSweeps [] (CoversPages now.worker.view.marks to next more) now new → HandSweeps [] (CoversPages old.worker.view.marks from next sum) old new
    chunk_more next more sum is r = subst (λ (x : ℕ). HandSweeps [] (CoversPages old.worker.view.marks from next x) old new) (sym is)
        (works-both (CoversPages old.worker.view.marks from to given) (CoversPages now.worker.view.marks to next more) (CoversPages old.worker.view.marks from next (min (given + more) (2 ^ 32 - 1))) [] old now new w r
        (λ x y p q. covers-append old.worker.view.marks from to next given more x y p (subst (λ (m : List (ℕ × ℕ)). CoversPages m to next more y) w.does.stays.marks q)))

    pub chunk_done : (end : ℕ) → ReclaimsNext to end now new (Ok None) → HandSweeps [] (CoversPages old.worker.view.marks from end given) old new
    chunk_done end r = chunk_more end 0 given (let g = w.did.given_is in omega arith) r

    pub chunk_wants : (e : NoMemory) (chunk end : ℕ) → ReclaimsNext to end now new (Err e) → ReclaimsChunk chunk old new (Err e)
    chunk_wants e chunk end r = works-both (CoversPages old.worker.view.marks from to given) (λ said. IsPlain said × SparesMarked now.worker.view.marks said) (λ said. IsPlain said × SparesMarked old.worker.view.marks said) [] old now new w r
        (λ x y p q. (plain-append y x q.0 p.plain, spares-append old.worker.view.marks y x (subst (λ (m : List (ℕ × ℕ)). SparesMarked m y) w.does.stays.marks q.1) p.spares))

-- ---- chunks

module _ (old : Hand) (region asked : ℕ) (size : region ≡ old.worker.view.region) where
  pub chunks_none : old.worker.view.own.popped ≡ [] → HandSweeps [] (CoversChunks old.worker.view.marks region 0 0) old old
  chunks_none none = works-nothing (CoversChunks old.worker.view.marks region 0 0) old old refl refl none (record {
    claimed = refl;
    whole = λ i p l. absurd (omega arith);
    given_is = refl;
    spares = λ p l. absurd (omega arith);
    takes_none = record { untaken = refl; unmissed = refl };
    keeps_block = refl;
  })

  module _ (claims given : ℕ) (now : Hand) (w : HandSweeps [] (CoversChunks old.worker.view.marks region claims given) old now) (few : claims ≤ chunks_of region) where
    answer : (said : List Entry) → CoversChunks old.worker.view.marks region claims given said → (asked ≤ given) ⊎ HasPassed region said
        → (given ≡ min (total pages_given said) (2 ^ 32 - 1)) × TakesNone said × HasReclaimed old.worker.view.marks region asked said × SparesMarked old.worker.view.marks said × KeepsBlock said
    answer said c e = (
      c.given_is,
      c.takes_none,
      record {
        enough = ⊎_elim (λ (l : asked ≤ given). inl (let g = c.given_is in omega arith)) (λ (z : HasPassed region said). inr z) e;
        few = (let n = c.claimed in omega arith);
        whole = c.whole;
      },
      c.spares,
      c.keeps_block,
    )

    at_region : (n : ℕ) (new : Hand) → HandSweeps [] (λ said. (n ≡ min (total pages_given said) (2 ^ 32 - 1)) × TakesNone said × HasReclaimed old.worker.view.marks region asked said × SparesMarked old.worker.view.marks said × KeepsBlock said) old new → Reclaims asked old new (Ok n)
    at_region n new x = subst (λ (r : ℕ). HandSweeps [] (λ said. (n ≡ min (total pages_given said) (2 ^ 32 - 1)) × TakesNone said × HasReclaimed old.worker.view.marks r asked said × SparesMarked old.worker.view.marks said × KeepsBlock said) old new) size x

    -- as many pages were given back as asked
    pub reclaimed_enough : asked ≤ given → Reclaims asked old now (Ok given)
    reclaimed_enough l = at_region given now (works-as (CoversChunks old.worker.view.marks region claims given) _ [] old now w (λ s c. answer s c (inl l)))

    -- all chunks were claimed
    pub reclaimed_all : chunks_of region ≤ claims → Reclaims asked old now (Ok given)
    reclaimed_all l = at_region given now (works-as (CoversChunks old.worker.view.marks region claims given) _ [] old now w (λ s c. answer s c (inr (inr (let n = c.claimed in omega arith)))))

    -- a chunk is claimed
    module _ (i : ℕ) (new : Seen) (e : new ≡ after_said (Adds 4 i 1) now.worker) where
      claim_works : HandSweeps [] (λ said. said ≡ Added 4 1 ∷ Read 4 i ∷ []) now (record now { worker = new })
      claim_works = works-step (λ said. said ≡ Added 4 1 ∷ Read 4 i ∷ []) [] (Added 4 1 ∷ Read 4 i ∷ []) now (record now { worker = new })
          (record {
            log = ap (λ (x : Seen). x.view.own.log) e;
            sweeps = record { unplaced = refl; unspent = refl; swept_pages = refl; given = λ p. refl; pushed = λ p. refl; unpopped = λ j p s. refl; unlooked = λ j s. refl; untouched = λ p. refl };
            sets = fits-none now.worker.view.generation no_page (Added 4 1 ∷ Read 4 i ∷ []) now.worker new [] refl (ap (λ (x : Seen). x.view.own.spans) e);
            held = ap (λ (x : Seen). x.view.own.held) e ∙ sym (append-nil now.worker.view.own.held);
            stays = subst (Stays now.worker) (sym e) (record { away = refl; table = refl; number = refl; caching = refl; region = refl; goal = refl; procs = refl; generation = refl; marks = refl; before = refl; carried = refl; parts = refl; sweeping = refl; cached = refl; claimed = refl; fresh = refl; reset = refl; bodies = λ q h. refl });
          })
          refl refl (ap (λ (x : Seen). x.view.own.popped) e ∙ w.popped) refl

      abbrev Claimed : List Entry → Type 0
      Claimed said = (xs : List Entry) × (said ≡ Added 4 1 ∷ Read 4 i ∷ xs) × CoversChunks old.worker.view.marks region claims given xs

      pub claimed_works : HandSweeps [] Claimed old (record now { worker = new })
      claimed_works = works-both (CoversChunks old.worker.view.marks region claims given) (λ said. said ≡ Added 4 1 ∷ Read 4 i ∷ []) Claimed [] old now (record now { worker = new }) w claim_works
          (λ x y p q. (x, ap (λ (l : List Entry). l ++ x) q, p))

      -- of which chunks an entry tells
      which : (j : ℕ) (xs : List Entry) → 0 < many (is_read 4 j) (Added 4 1 ∷ Read 4 i ∷ xs) → (i ≡ j) ⊎ (0 < many (is_read 4 j) xs)
      which j xs l = dite (ℕ_discrete i j) (λ s. inl s) (λ d. inr (let z = ap one_if (ne_eqb i j d) in omega arith))

      more_claims : (more : ℕ) (xs ys : List Entry) → CoversChunks old.worker.view.marks region claims given xs → CoversPages old.worker.view.marks (512 * i) (min (512 * i + 512) region) more ys
          → CoversChunks old.worker.view.marks region (claims + 1) (min (given + more) (2 ^ 32 - 1)) (ys ++ (Added 4 1 ∷ Read 4 i ∷ xs))
      more_claims more xs ys c d = record {
        claimed = (let a = many-append (is_added 4) ys (Added 4 1 ∷ Read 4 i ∷ xs) in let b = d.plain.unclaimed in let f = c.claimed in omega arith);
        whole = λ j p l at low. ⊎_elim
            (λ (s : i ≡ j). covers-new old.worker.view.marks p ys (Added 4 1 ∷ Read 4 i ∷ xs) (d.covers p (let q = at in omega arith) (let q = at in omega arith)))
            (λ (z : 0 < many (is_read 4 j) xs). covers-old old.worker.view.marks p ys (Added 4 1 ∷ Read 4 i ∷ xs) (covers-old old.worker.view.marks p (Added 4 1 ∷ Read 4 i ∷ []) xs (c.whole j p z at low)))
            (which j xs (let a = many-append (is_read 4 j) ys (Added 4 1 ∷ Read 4 i ∷ xs) in let q = d.plain.unread j in omega arith));
        given_is = (let a = total-append pages_given ys (Added 4 1 ∷ Read 4 i ∷ xs) in let b = c.given_is in let f = d.given_is in omega arith);
        spares = spares-append old.worker.view.marks ys (Added 4 1 ∷ Read 4 i ∷ xs) d.spares (λ p l. c.spares p (omega arith));
        takes_none = takes-append ys (Added 4 1 ∷ Read 4 i ∷ xs) d.plain.takes_none (record { untaken = (let a = c.takes_none.untaken in omega arith); unmissed = (let a = c.takes_none.unmissed in omega arith) });
        keeps_block = none-both is_of_block ys (Added 4 1 ∷ Read 4 i ∷ xs) d.plain.keeps_block (let a = c.keeps_block in omega arith);
      }

      -- it is past the last
      pub reclaimed_past : chunks_of region ≤ i → claims < chunks_of region → Reclaims asked old (record now { worker = new }) (Ok given)
      reclaimed_past l less = at_region given (record now { worker = new }) (works-as Claimed _ [] old (record now { worker = new }) claimed_works (λ s c. past s c.0 c.1 c.2))
        where
          past : (said xs : List Entry) → said ≡ Added 4 1 ∷ Read 4 i ∷ xs → CoversChunks old.worker.view.marks region claims given xs
              → (given ≡ min (total pages_given said) (2 ^ 32 - 1)) × TakesNone said × HasReclaimed old.worker.view.marks region asked said × SparesMarked old.worker.view.marks said × KeepsBlock said
          past said xs is c = subst (λ (s : List Entry). (given ≡ min (total pages_given s) (2 ^ 32 - 1)) × TakesNone s × HasReclaimed old.worker.view.marks region asked s × SparesMarked old.worker.view.marks s × KeepsBlock s) (sym is) (
            (let b = c.given_is in omega arith),
            record { untaken = (let a = c.takes_none.untaken in omega arith); unmissed = (let a = c.takes_none.unmissed in omega arith) },
            record {
              enough = inr (inl (i, (omega arith), rw (eq-eqb i i refl) (omega arith)));
              few = (let n = c.claimed in omega arith);
              whole = λ j p z at low. ⊎_elim
                  (λ (s : i ≡ j). λ u. absurd (let q = at in omega arith))
                  (λ (y : 0 < many (is_read 4 j) xs). covers-old old.worker.view.marks p (Added 4 1 ∷ Read 4 i ∷ []) xs (c.whole j p y at low))
                  (which j xs z);
            },
            (λ p z. c.spares p (omega arith)),
            (let a = c.keeps_block in omega arith),
          )

      -- its pages were covered, or memory ran out
      module _ (next : Hand) where
        pub reclaims_more : (more sum : ℕ) → sum ≡ min (given + more) (2 ^ 32 - 1) → ReclaimsChunk i (record now { worker = new }) next (Ok more) → HandSweeps [] (CoversChunks old.worker.view.marks region (claims + 1) sum) old next
        reclaims_more more sum is r = subst (λ (x : ℕ). HandSweeps [] (CoversChunks old.worker.view.marks region (claims + 1) x) old next) (sym is)
            (works-both Claimed (CoversPages new.view.marks (512 * i) (min (512 * i + 512) new.view.region) more) (CoversChunks old.worker.view.marks region (claims + 1) (min (given + more) (2 ^ 32 - 1))) [] old (record now { worker = new }) next claimed_works r
            (λ x y p q. subst (λ (l : List Entry). CoversChunks old.worker.view.marks region (claims + 1) (min (given + more) (2 ^ 32 - 1)) (y ++ l)) (sym p.1)
            (more_claims more p.0 y p.2 (subst (λ (z : List (ℕ × ℕ) × ℕ). CoversPages z.0 (512 * i) (min (512 * i + 512) z.1) more y) (λ j. (claimed_works.does.stays.marks j, (claimed_works.does.stays.region ∙ sym size) j)) q))))

        pub reclaims_wants : (e : NoMemory) → claims < chunks_of region → ReclaimsChunk i (record now { worker = new }) next (Err e) → Reclaims asked old next (Err e)
        reclaims_wants e less r = works-both Claimed (λ said. IsPlain said × SparesMarked new.view.marks said) (λ said. TakesNone said × (many (is_added 4) said ≤ chunks_of old.worker.view.region) × SparesMarked old.worker.view.marks said × KeepsBlock said) [] old (record now { worker = new }) next claimed_works r
            (λ x y p q. wants x y p.0 p.1 p.2 q.0 (subst (λ (m : List (ℕ × ℕ)). SparesMarked m y) claimed_works.does.stays.marks q.1))
          where
            wants : (x y xs : List Entry) → x ≡ Added 4 1 ∷ Read 4 i ∷ xs → CoversChunks old.worker.view.marks region claims given xs → IsPlain y → SparesMarked old.worker.view.marks y
                → TakesNone (y ++ x) × (many (is_added 4) (y ++ x) ≤ chunks_of old.worker.view.region) × SparesMarked old.worker.view.marks (y ++ x) × KeepsBlock (y ++ x)
            wants x y xs is c plain spares = subst (λ (s : List Entry). TakesNone (y ++ s) × (many (is_added 4) (y ++ s) ≤ chunks_of old.worker.view.region) × SparesMarked old.worker.view.marks (y ++ s) × KeepsBlock (y ++ s)) (sym is) (
              takes-append y (Added 4 1 ∷ Read 4 i ∷ xs) plain.takes_none (record { untaken = (let a = c.takes_none.untaken in omega arith); unmissed = (let a = c.takes_none.unmissed in omega arith) }),
              subst (λ (r : ℕ). many (is_added 4) (y ++ (Added 4 1 ∷ Read 4 i ∷ xs)) ≤ chunks_of r) size (let a = many-append (is_added 4) y (Added 4 1 ∷ Read 4 i ∷ xs) in let b = plain.unclaimed in let d = c.claimed in omega arith),
              spares-append old.worker.view.marks y (Added 4 1 ∷ Read 4 i ∷ xs) spares (λ p l. c.spares p (omega arith)),
              none-both is_of_block y (Added 4 1 ∷ Read 4 i ∷ xs) plain.keeps_block (let a = c.keeps_block in omega arith),
            )

-- a quotient rounded up
pub rounded : (x : ℕ) → x / 512 + min 1 (x % 512) ≡ chunks_of x
rounded x = omega arith

-- what was reclaimed stays so behind what claims no chunk
pub reclaimed-more : (marks : List (ℕ × ℕ)) (region n : ℕ) (xs ys : List Entry) → MakesNone xs → HasReclaimed marks region n ys → HasReclaimed marks region n (xs ++ ys)
reclaimed-more marks region n xs ys plain r = record {
  enough = ⊎_elim (λ (l : n ≤ total pages_given ys). inl (let a = total-append pages_given xs ys in omega arith)) (λ (z : HasPassed region ys). inr (passed z)) r.enough;
  few = (let a = many-append (is_added 4) xs ys in let b = plain.unclaimed in let c = r.few in omega arith);
  whole = λ i p l at low. covers-old marks p xs ys (r.whole i p (let a = many-append (is_read 4 i) xs ys in let b = plain.unread i in omega arith) at low);
}
  where
    passed : HasPassed region ys → HasPassed region (xs ++ ys)
    passed (inl z) = inl (z.0, z.1, some-old (is_read 4 z.0) xs ys z.2)
    passed (inr l) = inr (let a = many-append (is_added 4) xs ys in omega arith)
