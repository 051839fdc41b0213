-- A new span is made behind a reclaim: it is cut or taken, or taken behind a full sweep.
use Rattle.std.proofs.Common.{◌≡◌, ℕ, ◌≤◌, ◌<◌, true, false, true≢false, inl, inr, eq-eqb, ne_eqb, List, [], ◌∷◌, ◌++◌, length, min, refl, ap, sym, subst, ◌∙◌, arith}
use Rattle.std.proofs.lemmas.List.{append-nil}
use Rattle.std.specs.Prelude.{Ok, Err, None, Some, Option, Result}
use Rattle.fallible_list.specs.declared.list.NoMemory.{NoMemory}
use Rattle.page_alloc.specs.FreeRuns.{HasNoRun}
use Rattle.page_bitmap.specs.declared.line.Line.{Line}
use Rattle.page_bitmap.specs.declared.line.Line.TheVariants.{Take as TakeLine, Miss as MissLine}
use Rattle.page_alloc.specs.Journal.{LegalFor}
use Rattle.span_state.specs.declared.body.Body.{Body}
use Rattle.sweep_laws.specs.Counts.{times, total}
use Rattle.sweep_laws.specs.Reading.{is_swept_set}
use Rattle.worker_log.specs.declared.Entry.{Entry}
use Rattle.worker_log.specs.declared.Entry.TheVariants.{Took, Missed, Cut}
use Rattle.worker_log.specs.Logs.{sweepings}
use Rattle.worker_log.specs.Entries.{is_placing_in, is_pop_of, is_seen_empty, many}
use Rattle.worker_log.proofs.Logs.{many-append}
use Rattle.span_laws.specs.Asks.{IsUntouched, mine}
use Rattle.span_laws.specs.CacheAnswers.{CutsNew}
use Rattle.span_laws.specs.TakeAnswers.{IsNew, NoRunFree, TakesNew, TakesSpan, TriesSpan, cycle_at}
use Rattle.span_laws.specs.declared.answers.Refused.{Refused}
use Rattle.span_laws.specs.declared.answers.Refused.TheVariants.{NoRun, NoMemory as WantsMemory}
use Rattle.span_laws.specs.Views.{Seen, span_at, span_of}
use Rattle.span_set.specs.Blocks.{HasNoOwnBlock, is_of_block}
use Rattle.span_set.specs.declared.hand.Hand.{Hand}
use Rattle.span_set.specs.Fits.{no_page}
use Rattle.span_set.proofs.Fits.{fits-none}
use Rattle.sweeper.specs.Entries.{is_added, is_no_cut, is_no_page, is_pulling, pages_given}
use Rattle.sweeper.specs.MakeSteps.{CutsOrPulls, CutsOrTakes, MadeNone, MadeThen, MissedThen, Readies, SweepsAndTakes, TookThen, WantsMore}
use Rattle.sweeper.specs.NewSpans.{FoundNoCut, HasNew, IsMaking, MadeAtLast, MakesSpan, MissedAtLast}
use Rattle.sweeper.specs.Reclaims.{HasReclaimed, Reclaims, SparesMarked, chunks_of}
use Rattle.sweeper.specs.Sweeps.{Finishes}
use Rattle.sweeper.specs.Work.{WorkerSweeps, IsPlain, KeepsBlock, MakesNone, OnlySweeps, PullsBehind, SawAllEmpty, Stays, TakesNone, HandSweeps}
use Rattle.sweeper.proofs.Counting.{makes-append, none-both, notes-none, plain-makes, some-new, sweeps-append, takes-append}
use Rattle.sweeper.proofs.Covering.{reclaimed-more}
use Rattle.sweeper.proofs.Cutting.{readies-nothing}
use Rattle.sweeper.proofs.Pulling.{behind-both, behind-none, pulls-none}
use Rattle.sweeper.proofs.Settling.{apart_else}
use Rattle.sweeper.proofs.Working.{works-as, works-both, works-step, works-tidy}

-- what the worker had nothing of, it had nothing of before
nothing_before : (old mid : Seen) (said : List Entry) (page : ℕ) → WorkerSweeps [] said old mid → mine page mid.view.own ≡ 0 → mine page old.view.own ≡ 0
nothing_before old mid said page d z = let s = ap (times page) d.stays.sweeping in let h = ap (times page) (d.held ∙ append-nil old.view.own.held) in let c = ap (times page) d.stays.cached in omega arith

-- no find is lost
found_old : (n : ℕ) (xs ys : List Entry) → FoundNoCut n ys → FoundNoCut n (xs ++ ys)
found_old n xs ys l = let a = many-append (is_no_cut n) xs ys in let b = many-append is_no_page xs ys in omega arith

found_new : (n : ℕ) (xs ys : List Entry) → FoundNoCut n xs → FoundNoCut n (xs ++ ys)
found_new n xs ys l = let a = many-append (is_no_cut n) xs ys in let b = many-append is_no_page xs ys in omega arith

-- one step, of this entry, by which a worker holds a new span, of which it had nothing
pub record Gains (n class : ℕ) (x : Entry) (mid new : Seen) (b : Body) : Type 0 where
  pub is_new : IsNew n class b
  pub does : WorkerSweeps (b.page ∷ []) (x ∷ []) mid new
  pub sweeps_none : sweepings (x ∷ []) ≡ []
  pub popped : new.view.own.popped ≡ mid.view.own.popped
  pub lent : span_at b.page new.view.own.spans ≡ Some (span_of b)
  pub nothing : mine b.page mid.view.own ≡ 0
  pub untouched : IsUntouched mid.view.generation new.view.own b.page

-- a run was taken
pub take_gains : (n class : ℕ) (mid new : Seen) (b : Body) → TakesNew n class mid new b → Gains n class (Took b.life (TakeLine (cycle_at mid.view.generation) b.page b.pages b.class)) mid new b
take_gains n class mid new b t = record {
  is_new = t.is_new;
  does = record {
    log = ap (λ (x : Seen). x.view.own.log) t.view;
    sweeps = record { unplaced = refl; unspent = refl; swept_pages = refl; given = λ p. refl; pushed = λ p. refl; unpopped = λ j p s. refl; unlooked = λ j s. refl; untouched = λ p. refl };
    sets = fits-none mid.view.generation no_page (Took b.life (TakeLine (cycle_at mid.view.generation) b.page b.pages b.class) ∷ []) mid new (span_of b ∷ []) refl (ap (λ (x : Seen). x.view.own.spans) t.view);
    held = ap (λ (x : Seen). x.view.own.held) t.view;
    stays = subst (Stays mid) (sym t.view) (record { away = refl; table = refl; number = refl; caching = refl; region = refl; goal = refl; procs = refl; generation = refl; marks = refl; before = refl; carried = refl; parts = refl; sweeping = refl; cached = refl; claimed = refl; fresh = refl; reset = refl; bodies = λ q h. rw (ne_eqb b.page q (apart_else mid b.page q t.nothing h)) refl });
  };
  sweeps_none = refl;
  popped = ap (λ (x : Seen). x.view.own.popped) t.view;
  lent = ap (λ (x : Seen). span_at b.page x.view.own.spans) t.view ∙ rw (eq-eqb b.page b.page refl) refl;
  nothing = t.nothing;
  untouched = record {
    pops = λ j l s. ap (λ (x : Seen). many (is_pop_of j b.page) x.view.own.log) t.view ∙ (let z = t.untouched.pops j l s in omega arith);
    placings = ap (λ (x : Seen). many (is_placing_in b.page) x.view.own.log) t.view ∙ (let z = t.untouched.placings in omega arith);
  };
}

-- a span was cut
pub cut_gains : (n class : ℕ) (mid new : Seen) (b : Body) → CutsNew n class mid new b → Gains n class (Cut b.page b.pages b.class) mid new b
cut_gains n class mid new b t = record {
  is_new = t.is_new;
  does = record {
    log = ap (λ (x : Seen). x.view.own.log) t.view;
    sweeps = record { unplaced = refl; unspent = refl; swept_pages = refl; given = λ p. refl; pushed = λ p. refl; unpopped = λ j p s. refl; unlooked = λ j s. refl; untouched = λ p. refl };
    sets = fits-none mid.view.generation no_page (Cut b.page b.pages b.class ∷ []) mid new (span_of b ∷ []) refl (ap (λ (x : Seen). x.view.own.spans) t.view);
    held = ap (λ (x : Seen). x.view.own.held) t.view;
    stays = subst (Stays mid) (sym t.view) (record { away = refl; table = refl; number = refl; caching = refl; region = refl; goal = refl; procs = refl; generation = refl; marks = refl; before = refl; carried = refl; parts = refl; sweeping = refl; cached = refl; claimed = refl; fresh = refl; reset = refl; bodies = λ q h. rw (ne_eqb b.page q (apart_else mid b.page q t.nothing h)) refl });
  };
  sweeps_none = refl;
  popped = ap (λ (x : Seen). x.view.own.popped) t.view;
  lent = ap (λ (x : Seen). span_at b.page x.view.own.spans) t.view ∙ rw (eq-eqb b.page b.page refl) refl;
  nothing = t.nothing;
  untouched = record {
    pops = λ j l s. ap (λ (x : Seen). many (is_pop_of j b.page) x.view.own.log) t.view ∙ (let z = t.untouched.pops j l s in omega arith);
    placings = ap (λ (x : Seen). many (is_placing_in b.page) x.view.own.log) t.view ∙ (let z = t.untouched.placings in omega arith);
  };
}

module _ (n class : ℕ) (x : Entry) (mid : Hand) (new : Seen) (b : Body) (t : Gains n class x mid.worker new b) (none : mid.worker.view.own.popped ≡ []) where
  pub gain_works : HandSweeps (b.page ∷ []) (λ said. said ≡ x ∷ []) mid (record mid { worker = new })
  gain_works = works-step (λ said. said ≡ x ∷ []) (b.page ∷ []) (x ∷ []) mid (record mid { worker = new }) t.does (notes-none (cycle_at mid.worker.view.generation) (x ∷ []) t.sweeps_none) refl (t.popped ∙ none) refl

  pub has_new : (old : Hand) (said : List Entry) → WorkerSweeps [] said old.worker mid.worker → HasNew n class old (record mid { worker = new }) b
  has_new old said d = record {
    is_new = t.is_new;
    lent = t.lent;
    nothing = nothing_before old.worker mid.worker said b.page d t.nothing;
    untouched = record {
      pops = λ j l s. t.untouched.pops j l (ap (λ (g : ℕ). is_swept_set g j) d.stays.generation ∙ s);
      placings = t.untouched.placings;
    };
  }

-- no run was free
module _ (n class line : ℕ) (mid : Hand) (new : Seen) (m : TakesSpan n class mid.worker new (Err (NoRun line))) (none : mid.worker.view.own.popped ≡ []) where
  pub miss_works : HandSweeps [] (λ said. said ≡ Missed line (MissLine (cycle_at mid.worker.view.generation) n class) ∷ []) mid (record mid { worker = new })
  miss_works = works-step (λ said. said ≡ Missed line (MissLine (cycle_at mid.worker.view.generation) n class) ∷ []) [] (Missed line (MissLine (cycle_at mid.worker.view.generation) n class) ∷ []) mid (record mid { worker = new })
      (record {
        log = ap (λ (x : Seen). x.view.own.log) m.0;
        sweeps = record { unplaced = refl; unspent = refl; swept_pages = refl; given = λ p. refl; pushed = λ p. refl; unpopped = λ j p s. refl; unlooked = λ j s. refl; untouched = λ p. refl };
        sets = fits-none mid.worker.view.generation no_page (Missed line (MissLine (cycle_at mid.worker.view.generation) n class) ∷ []) mid.worker new [] refl (ap (λ (x : Seen). x.view.own.spans) m.0);
        held = ap (λ (x : Seen). x.view.own.held) m.0 ∙ sym (append-nil mid.worker.view.own.held);
        stays = subst (Stays mid.worker) (sym m.0) (record { away = refl; table = refl; number = refl; caching = refl; region = refl; goal = refl; procs = refl; generation = refl; marks = refl; before = refl; carried = refl; parts = refl; sweeping = refl; cached = refl; claimed = refl; fresh = refl; reset = refl; bodies = λ q h. refl });
      })
      refl refl (ap (λ (x : Seen). x.view.own.popped) m.0 ∙ none) refl

  pub no_run : (old : Hand) → mid.worker.view.procs ≡ old.worker.view.procs → mid.worker.view.region ≡ old.worker.view.region → mid.worker.view.goal ≡ old.worker.view.goal → (past : List Line) × (length past ≡ line) × NoRunFree n old.worker past
  no_run old procs region goal = (m.1.0, m.1.1, (subst (λ (z : ℕ × ℕ × ℕ). LegalFor z.0 z.1 z.2 m.1.0) (λ i. (procs i, region i, goal i)) m.1.2.0, subst (λ (r : ℕ). HasNoRun r m.1.0 n) region m.1.2.1))

  no_block : HasNoOwnBlock mid.worker → HasNoOwnBlock new
  no_block h = subst HasNoOwnBlock (sym m.0) h

-- ---- cut, or else take

keeps_none : (said : List Entry) → said ≡ [] → KeepsBlock said
keeps_none said e = ap (many is_of_block) e

-- a worker's steps on its block, as those of a hand
ready_works : (P : List Entry → Type 0) (h : Hand) (w : Seen) (said : List Entry) → Readies said h.worker w → h.worker.view.own.popped ≡ [] → P said → HandSweeps [] P h (record h { worker = w })
ready_works P h w said r none p = works-step P [] said h (record h { worker = w }) r.does (notes-none (cycle_at h.worker.view.generation) said r.sweeps_none) refl (r.popped ∙ none) p

module _ (n class : ℕ) (old : Hand) (none : old.worker.view.own.popped ≡ []) where
  -- a span was cut
  pub cut_made : (new : Seen) (b : Body) → CutsOrPulls n class old.worker new (Ok (Some b)) → CutsOrTakes n class old (record old { worker = new }) (Ok (Some b))
  cut_made new b c = let mid : Hand = record old { worker = c.0 } in let r = c.2 in let g = cut_gains n class c.0 new b c.4 in let x : Entry = Cut b.page b.pages b.class in (
    has_new n class x mid new b g (r.popped ∙ none) old c.1 r.does,
    works-both (λ s. s ≡ c.1) (λ s. s ≡ x ∷ []) (MadeThen old n b) (b.page ∷ []) old mid (record old { worker = new }) (ready_works (λ s. s ≡ c.1) old c.0 c.1 r none refl) (gain_works n class x mid new b g (r.popped ∙ none))
        (λ s t p q. record {
          making = x;
          before = c.1;
          log = (λ i. q i ++ p i);
          makes = inr refl;
          makes_none = r.makes_none;
          sweeps = r.does.sweeps;
          cuts_first = λ on few z. absurd (true≢false z);
          pulls = c.5;
          uncached = λ off. absurd (true≢false (sym c.3 ∙ off));
        }),
  )

  -- memory ran out
  pub cut_wants : (new : Seen) (e : NoMemory) → CutsOrPulls n class old.worker new (Err e) → CutsOrTakes n class old (record old { worker = new }) (Err e)
  cut_wants new e c = ready_works (WantsMore old n) old new c.0 c.1 none (record { makes_none = c.1.makes_none; pulls = c.2; uncached = λ off. keeps_none c.0 (c.1.uncached off) })

  -- none was cut
  module _ (mid : Seen) (said : List Entry) (r : Readies said old.worker mid) (found : old.worker.caching ≡ true → n < 16 → FoundNoCut n said) (pulls : PullsBehind n said) where
    tried_taken : (new : Seen) (b : Body) → TakesNew n class mid new b → CutsOrTakes n class old (record old { worker = new }) (Ok (Some b))
    tried_taken new b t = let h : Hand = record old { worker = mid } in let g = take_gains n class mid new b t in let x : Entry = Took b.life (TakeLine (cycle_at mid.view.generation) b.page b.pages b.class) in (
      has_new n class x h new b g (r.popped ∙ none) old said r.does,
      works-both (λ s. s ≡ said) (λ s. s ≡ x ∷ []) (MadeThen old n b) (b.page ∷ []) old h (record old { worker = new }) (ready_works (λ s. s ≡ said) old mid said r none refl) (gain_works n class x h new b g (r.popped ∙ none))
          (λ s t p q. record {
            making = x;
            before = said;
            log = (λ i. q i ++ p i);
            makes = inl (ap (λ (z : ℕ). Took b.life (TakeLine (cycle_at z) b.page b.pages b.class)) r.does.stays.generation);
            makes_none = r.makes_none;
            sweeps = r.does.sweeps;
            cuts_first = λ on few z. found on few;
            pulls = pulls;
            uncached = λ off. let y = ap (many is_of_block) (λ i. q i ++ p i) in let z = keeps_none said (r.uncached off) in omega arith;
          }),
    )

    pub then_tries : (new : Seen) (a : Result (Option Body) NoMemory) → TriesSpan n class mid new a → CutsOrTakes n class old (record old { worker = new }) a
    then_tries new (Ok (Some b)) t = tried_taken new b t
    then_tries new (Ok None) t = subst (λ (w : Seen). HandSweeps [] (MadeNone old n) old (record old { worker = w })) (sym t.0)
        (ready_works (MadeNone old n) old mid said r none (record { makes_none = r.makes_none; no_cut = found; pulls = pulls; uncached = λ off. keeps_none said (r.uncached off) }))
    then_tries new (Err e) t = subst (λ (w : Seen). HandSweeps [] (WantsMore old n) old (record old { worker = w })) (sym t)
        (ready_works (WantsMore old n) old mid said r none (record { makes_none = r.makes_none; pulls = pulls; uncached = λ off. keeps_none said (r.uncached off) }))

-- the same of a hand that is only known to be so
pub tries_after : (n class : ℕ) (old : Hand) (none : old.worker.view.own.popped ≡ []) (mid : Seen) (h : Hand) → h ≡ record old { worker = mid } → CutsOrPulls n class old.worker mid (Ok None) → (new : Seen) (a : Result (Option Body) NoMemory) → TriesSpan n class h.worker new a
    → CutsOrTakes n class old (record h { worker = new }) a
tries_after n class old none mid h is c new a = subst (λ (x : Hand). TriesSpan n class x.worker new a → CutsOrTakes n class old (record x { worker = new }) a) (sym is) (λ t. then_tries n class old none mid c.0 c.1 (λ on few. c.2 on) c.3 new a t)

pub tries_alone : (n class : ℕ) (old : Hand) (none : old.worker.view.own.popped ≡ []) (h : Hand) → h ≡ old → 16 ≤ n → (new : Seen) (a : Result (Option Body) NoMemory) → TriesSpan n class h.worker new a → CutsOrTakes n class old (record h { worker = new }) a
tries_alone n class old none h is many new a = subst (λ (x : Hand). TriesSpan n class x.worker new a → CutsOrTakes n class old (record x { worker = new }) a) (sym is) (λ t. then_tries n class old none old.worker [] (readies-nothing old.worker) (λ on few. absurd (omega arith)) tt new a t)

-- ---- a full sweep, the settling of the own block, and then a take

module _ (n class : ℕ) (old swept : Hand) (f : Finishes old swept (Ok tt)) (mid : Seen) (set : (said : List Entry) × Readies said swept.worker mid × (many is_pulling said ≡ 0)) where
  abbrev SweptAll : List Entry → Type 0
  SweptAll said = MakesNone said × SawAllEmpty old.worker.view.generation said × (old.worker.caching ≡ false → KeepsBlock said) × (many is_pulling said ≡ 0)

  pub readied : HandSweeps [] SweptAll old (record swept { worker = mid })
  readied = works-both (λ said. IsPlain said × SawAllEmpty old.worker.view.generation said) (λ s. s ≡ set.0) SweptAll [] old swept (record swept { worker = mid }) f (ready_works (λ s. s ≡ set.0) swept mid set.0 set.1 f.popped refl)
      (λ x y p q. (
        makes-append y x (subst MakesNone (sym q) set.1.makes_none) (plain-makes x p.0),
        (λ k l u. let a = many-append (is_seen_empty k) y x in let z = p.1 k l u in omega arith),
        (λ off. none-both is_of_block y x (keeps_none y (q ∙ set.1.uncached (f.does.stays.caching ∙ off))) p.0.keeps_block),
        none-both is_pulling y x (ap (many is_pulling) q ∙ set.2) (pulls-none x p.0.keeps_block),
      ))

  pub then_took : (new : Seen) (b : Body) → TakesSpan n class mid new (Ok b) → SweepsAndTakes n class old (record swept { worker = new }) (Ok b)
  then_took new b t = let h : Hand = record swept { worker = mid } in let w = readied in let g = take_gains n class mid new b t in let x : Entry = Took b.life (TakeLine (cycle_at mid.view.generation) b.page b.pages b.class) in (
    has_new n class x h new b g w.popped old w.said w.does,
    works-both (λ said. SweptAll said × OnlySweeps old.worker.view.generation said) (λ said. said ≡ x ∷ []) (TookThen old b) (b.page ∷ []) old h (record swept { worker = new })
        (works-tidy SweptAll [] old h w) (gain_works n class x h new b g w.popped)
        (λ s y p q. record {
          before = s;
          log = ap (λ (l : List Entry). l ++ s) q ∙ ap (λ (g : ℕ). Took b.life (TakeLine (cycle_at g) b.page b.pages b.class) ∷ s) w.does.stays.generation;
          makes_none = p.0.0;
          sweeps = p.1;
          unpulled = p.0.3;
          uncached = p.0.2;
        }),
  )

  pub then_missed : (new : Seen) (line : ℕ) → HasNoOwnBlock mid → TakesSpan n class mid new (Err (NoRun line)) → SweepsAndTakes n class old (record swept { worker = new }) (Err (NoRun line))
  then_missed new line bare m = let h : Hand = record swept { worker = mid } in let w = readied in (
    no_run n class line h new m w.popped old w.does.stays.procs w.does.stays.region w.does.stays.goal,
    works-both (λ said. SweptAll said × OnlySweeps old.worker.view.generation said) (λ said. said ≡ Missed line (MissLine (cycle_at mid.view.generation) n class) ∷ []) (MissedThen old n class line) [] old h (record swept { worker = new })
        (works-tidy SweptAll [] old h w) (miss_works n class line h new m w.popped)
        (λ s y p q. record {
          before = s;
          log = ap (λ (l : List Entry). l ++ s) q ∙ ap (λ (g : ℕ). Missed line (MissLine (cycle_at g) n class) ∷ s) w.does.stays.generation;
          makes_none = p.0.0;
          saw_empty = p.0.1;
          sweeps = p.1;
          unpulled = p.0.3;
          uncached = p.0.2;
        }),
    no_block n class line h new m w.popped bare,
  )

  pub then_takes : (new : Seen) (r : Result Body Refused) → HasNoOwnBlock mid → TakesSpan n class mid new r → SweepsAndTakes n class old (record swept { worker = new }) r
  then_takes new (Ok b) bare t = then_took new b t
  then_takes new (Err (NoRun line)) bare t = then_missed new line bare t
  then_takes new (Err WantsMemory) bare t = subst (λ (w : Seen). HandSweeps [] (WantsMore old n) old (record swept { worker = w })) (sym t)
      (works-as SweptAll (WantsMore old n) [] old (record swept { worker = mid }) readied (λ s p. record { makes_none = p.0; pulls = behind-none n s p.3; uncached = p.2 }))

-- the full sweep wants memory
pub sweep_wants : (n class : ℕ) (old mid : Hand) (e : NoMemory) → Finishes old mid (Err e) → SweepsAndTakes n class old mid (Err WantsMemory)
sweep_wants n class old mid e f = works-as IsPlain (WantsMore old n) [] old mid f (λ s p. record { makes_none = plain-makes s p; pulls = behind-none n s (pulls-none s p.keeps_block); uncached = λ off. p.keeps_block })

-- ---- behind a reclaim

-- what makes no span behind one that claims chunks
few_still : (region : ℕ) (xs ys : List Entry) → MakesNone ys → many (is_added 4) xs ≤ chunks_of region → many (is_added 4) (ys ++ xs) ≤ chunks_of region
few_still region xs ys m l = let a = many-append (is_added 4) ys xs in let b = m.unclaimed in omega arith

module _ (n class r : ℕ) (old mid : Hand) (w : Reclaims n old mid (Ok r)) where
  abbrev RP : List Entry → Type 0
  RP said = (r ≡ min (total pages_given said) 4294967295) × TakesNone said × HasReclaimed old.worker.view.marks old.worker.view.region n said × SparesMarked old.worker.view.marks said × KeepsBlock said

  abbrev Wanting : List Entry → Type 0
  Wanting said = TakesNone said × (many (is_added 4) said ≤ chunks_of old.worker.view.region) × (old.worker.caching ≡ false → KeepsBlock said) × PullsBehind n said

  gen : mid.worker.view.generation ≡ old.worker.view.generation
  gen = w.does.stays.generation

  off_still : old.worker.caching ≡ false → mid.worker.caching ≡ false
  off_still off = w.does.stays.caching ∙ off

  tidy_both : (xs ys : List Entry) → OnlySweeps mid.worker.view.generation ys → OnlySweeps old.worker.view.generation xs → OnlySweeps old.worker.view.generation (ys ++ xs)
  tidy_both xs ys y x = sweeps-append old.worker.view.generation ys xs (subst (λ (g : ℕ). OnlySweeps g ys) gen y) x

  wants_both : (new : Hand) → HandSweeps [] (WantsMore mid n) mid new → HandSweeps [] Wanting old new
  wants_both new x = works-both RP (WantsMore mid n) Wanting [] old mid new w x
      (λ s t p q. (takes-append t s q.makes_none.takes_none p.1, few_still old.worker.view.region s t q.makes_none p.2.few, λ off. none-both is_of_block t s (q.uncached (off_still off)) p.4, behind-both n t s q.pulls (behind-none n s (pulls-none s p.4))))

  new_before : (new : Hand) (b : Body) → HasNew n class mid new b → HasNew n class old new b
  new_before new b h = record {
    is_new = h.is_new;
    lent = h.lent;
    nothing = nothing_before old.worker mid.worker w.said b.page w.does h.nothing;
    untouched = record { pops = λ j l z. h.untouched.pops j l (ap (λ (g : ℕ). is_swept_set g j) gen ∙ z); placings = h.untouched.placings };
  }

  -- a span was cut or taken, or memory ran out
  pub made : (new : Hand) (b : Body) → CutsOrTakes n class mid new (Ok (Some b)) → MakesSpan n class old new (Ok b)
  made new b c = (
    new_before new b c.0,
    works-both (λ said. RP said × OnlySweeps old.worker.view.generation said) (MadeThen mid n b) (MadeAtLast old n b) (b.page ∷ []) old mid new (works-tidy RP [] old mid w) c.1
        (λ x y p q. record {
          making = q.making;
          before = q.before ++ x;
          log = ap (λ (l : List Entry). l ++ x) q.log;
          makes = subst (λ (g : ℕ). IsMaking g b q.making) gen q.makes;
          takes_none = takes-append q.before x q.makes_none.takes_none p.0.1;
          sweeps = tidy_both x q.before q.sweeps p.1;
          reclaimed = reclaimed-more old.worker.view.marks old.worker.view.region n q.before x q.makes_none p.0.2;
          cuts_first = λ on few z. found_new n q.before x (q.cuts_first (w.does.stays.caching ∙ on) few z);
          pulls = behind-both n q.before x q.pulls (behind-none n x (pulls-none x p.0.4));
          uncached = λ off. none-both is_of_block y x (q.uncached (off_still off)) p.0.4;
        }),
  )

  pub wanted : (new : Hand) (e : NoMemory) → CutsOrTakes n class mid new (Err e) → MakesSpan n class old new (Err WantsMemory)
  wanted new e c = wants_both new c

  -- none was cut or taken
  module _ (more : Hand) (c : CutsOrTakes n class mid more (Ok None)) where
    abbrev Ready : List Entry → Type 0
    Ready said = TakesNone said × HasReclaimed old.worker.view.marks old.worker.view.region n said × (old.worker.caching ≡ true → n < 16 → FoundNoCut n said) × (old.worker.caching ≡ false → KeepsBlock said) × PullsBehind n said

    ready : HandSweeps [] Ready old more
    ready = works-both RP (MadeNone mid n) Ready [] old mid more w c
        (λ x y p q. (
          takes-append y x q.makes_none.takes_none p.1,
          reclaimed-more old.worker.view.marks old.worker.view.region n y x q.makes_none p.2,
          (λ on few. found_new n y x (q.no_cut (w.does.stays.caching ∙ on) few)),
          (λ off. none-both is_of_block y x (q.uncached (off_still off)) p.4),
          behind-both n y x q.pulls (behind-none n x (pulls-none x p.4)),
        ))

    gen_more : more.worker.view.generation ≡ old.worker.view.generation
    gen_more = ready.does.stays.generation

    -- a full sweep behind
    pub made_then : (new : Hand) (a : Result Body Refused) → SweepsAndTakes n class more new a → MakesSpan n class old new a
    made_then new (Ok b) s = (
      record {
        is_new = s.0.is_new;
        lent = s.0.lent;
        nothing = nothing_before old.worker more.worker ready.said b.page ready.does s.0.nothing;
        untouched = record { pops = λ j l z. s.0.untouched.pops j l (ap (λ (g : ℕ). is_swept_set g j) gen_more ∙ z); placings = s.0.untouched.placings };
      },
      works-both (λ said. Ready said × OnlySweeps old.worker.view.generation said) (TookThen more b) (MadeAtLast old n b) (b.page ∷ []) old more new (works-tidy Ready [] old more ready) s.1
          (λ x y p q. record {
            making = Took b.life (TakeLine (cycle_at old.worker.view.generation) b.page b.pages b.class);
            before = q.before ++ x;
            log = ap (λ (l : List Entry). l ++ x) q.log ∙ ap (λ (g : ℕ). Took b.life (TakeLine (cycle_at g) b.page b.pages b.class) ∷ (q.before ++ x)) gen_more;
            makes = inl refl;
            takes_none = takes-append q.before x q.makes_none.takes_none p.0.0;
            sweeps = sweeps-append old.worker.view.generation q.before x (subst (λ (g : ℕ). OnlySweeps g q.before) gen_more q.sweeps) p.1;
            reclaimed = reclaimed-more old.worker.view.marks old.worker.view.region n q.before x q.makes_none p.0.1;
            cuts_first = λ on few z. found_old n q.before x (p.0.2 on few);
            pulls = behind-both n q.before x (behind-none n q.before q.unpulled) p.0.4;
            uncached = λ off. none-both is_of_block y x (let z = ap (many is_of_block) q.log in let u = q.uncached (ready.does.stays.caching ∙ off) in omega arith) (p.0.3 off);
          }),
    )
    made_then new (Err (NoRun line)) s = (
      (s.0.0, s.0.1, (subst (λ (z : ℕ × ℕ × ℕ). LegalFor z.0 z.1 z.2 s.0.0) (λ i. (ready.does.stays.procs i, ready.does.stays.region i, ready.does.stays.goal i)) s.0.2.0, subst (λ (g : ℕ). HasNoRun g s.0.0 n) ready.does.stays.region s.0.2.1)),
      works-both (λ said. Ready said × OnlySweeps old.worker.view.generation said) (MissedThen more n class line) (MissedAtLast old n class line) [] old more new (works-tidy Ready [] old more ready) s.1
          (λ x y p q. record {
            before = q.before ++ x;
            log = ap (λ (l : List Entry). l ++ x) q.log ∙ ap (λ (g : ℕ). Missed line (MissLine (cycle_at g) n class) ∷ (q.before ++ x)) gen_more;
            takes_none = takes-append q.before x q.makes_none.takes_none p.0.0;
            sweeps = sweeps-append old.worker.view.generation q.before x (subst (λ (g : ℕ). OnlySweeps g q.before) gen_more q.sweeps) p.1;
            reclaimed = reclaimed-more old.worker.view.marks old.worker.view.region n q.before x q.makes_none p.0.1;
            saw_empty = λ k l u. some-new (is_seen_empty k) q.before x (q.saw_empty k l (ap (λ (g : ℕ). is_swept_set g k) gen_more ∙ u));
            pulls = behind-both n q.before x (behind-none n q.before q.unpulled) p.0.4;
            uncached = λ off. none-both is_of_block q.before x (q.uncached (ready.does.stays.caching ∙ off)) (p.0.3 off);
          }),
      s.2,
    )
    made_then new (Err WantsMemory) s = works-both Ready (WantsMore more n) Wanting [] old more new ready s
        (λ x y p q. (takes-append y x q.makes_none.takes_none p.0, few_still old.worker.view.region x y q.makes_none p.1.few, λ off. none-both is_of_block y x (q.uncached (ready.does.stays.caching ∙ off)) (p.3 off), behind-both n y x q.pulls p.4))

pub reclaim_wanted : (n class : ℕ) (old mid : Hand) (e : NoMemory) → Reclaims n old mid (Err e) → MakesSpan n class old mid (Err WantsMemory)
reclaim_wanted n class old mid e w = works-as _ (λ said. TakesNone said × (many (is_added 4) said ≤ chunks_of old.worker.view.region) × (old.worker.caching ≡ false → KeepsBlock said) × PullsBehind n said) [] old mid w (λ s p. (p.0, p.1, (λ off. p.3), behind-none n s (pulls-none s p.3)))
