-- A span for the cache is found, or refused.
use Rattle.std.proofs.Common.{◌≡◌, ℕ, ◌/◌, ◌<◌, inl, inr, Bool, true, false, List, [], ◌∷◌, ◌++◌, refl, ap, sym, subst, ◌∙◌, arith}
use Rattle.std.specs.Prelude.{Result, Ok, Err}
use Rattle.page_alloc.specs.FreeRuns.{HasNoRun}
use Rattle.page_bitmap.specs.Counts.{one_if}
use Rattle.page_bitmap.specs.declared.line.Line.TheVariants.{Miss as MissLine}
use Rattle.size_classes.specs.Classes.{pages_of}
use Rattle.page_alloc.specs.Journal.{LegalFor}
use Rattle.span_state.specs.declared.body.Body.{Body}
use Rattle.sweep_laws.specs.Lists.{has}
use Rattle.worker_log.specs.declared.Entry.{Entry}
use Rattle.worker_log.specs.declared.Entry.TheVariants.{Missed}
use Rattle.worker_log.specs.Logs.{Refusal, refusals}
use Rattle.worker_log.specs.SetNumbers.{swept_set}
use Rattle.worker_log.specs.Entries.{is_pop_of, many}
use Rattle.span_laws.specs.declared.answers.Refused.{Refused}
use Rattle.span_laws.specs.declared.answers.Refused.TheVariants.{NoRun, NoMemory as WantsMemory}
use Rattle.span_laws.specs.declared.view.View.{View}
use Rattle.span_laws.specs.TakeAnswers.{cycle_at}
use Rattle.span_laws.specs.Asks.{IsIdle}
use Rattle.span_laws.specs.Calls.{is_missing}
use Rattle.span_laws.specs.Logs.{is_taking}
use Rattle.span_laws.specs.Views.{acts}
use Rattle.span_laws.proofs.Parts.{has_none}
use Rattle.span_set.specs.Blocks.{HasNoOwnBlock}
use Rattle.span_set.specs.declared.hand.Hand.{Hand}
use Rattle.span_set.proofs.Numbers.{full_is, swept_is, swept_low}
use Rattle.fallible_list.specs.declared.list.NoMemory.{NoMemory}
use Rattle.central_lists.specs.declared.answers.Look.{Look}
use Rattle.central_lists.specs.declared.answers.FromSets.TheVariants.{SweptPartial as FromPartial, SweptHere as FromHere, NeedFresh}
use Rattle.central_lists.specs.Looks.{SawNone, Then}
use Rattle.central_lists.specs.Works.{Says, just, nothing}
use Rattle.central_lists.specs.Lists.{Caches, HandsOut}
use Rattle.sweeper.specs.declared.answers.Paid.{Paid}
use Rattle.sweeper.specs.declared.answers.Paid.TheVariants.{Reached, NothingLeft}
use Rattle.sweeper.specs.NewSpans.{IsMaking, MadeAtLast, MakesSpan, MissedAtLast}
use Rattle.sweeper.specs.Pays.{Pays}
use Rattle.sweeper.specs.Reclaims.{HasReclaimed}
use Rattle.sweeper.specs.Work.{IsPlain, OnlySweeps, SawAllEmpty, HandSweeps}
use Rattle.proc_cache.specs.declared.refills.CacheFrom.{CacheFrom}
use Rattle.proc_cache.specs.declared.refills.CacheFrom.TheVariants.{SweptPartial, SweptHere, Fresh}
use Rattle.proc_cache.specs.Leaves.{Holds, Sums}
use Rattle.proc_cache.specs.RefillLogs.{ComesFrom, HasPaidFor, LookedFor, bytes_of, taken_for}
use Rattle.proc_cache.specs.Findings.{Comes, FindsSpan, IsFor, WasNoRun}
use Rattle.proc_cache.specs.Stops.{StopsMaking, StopsPaying, StopsTaking}
use Rattle.proc_cache.proofs.Holding.{holds-trans, holds_none, holds_one, idle_after, of_sweeper, sums_of, sums_of_lists}
use Rattle.proc_cache.proofs.Logging.{no_refusals, refusals-append, sums-append}

-- ---- what does not depend on the own part

module _ (old mid : Hand) (v : mid.worker.view ≡ acts old.worker.view mid.worker.view.own) (q : mid.worker.caching ≡ old.worker.caching) where
  pub no_run_from : (n line : ℕ) → WasNoRun mid n line → WasNoRun old n line
  no_run_from n line w = (w.0, w.1, subst (λ (z : View). LegalFor z.procs z.region z.goal w.0 × HasNoRun z.region w.0 n) v w.2)

  pub made_from : (n : ℕ) (b : Body) (said : List Entry) → MadeAtLast mid n b said → MadeAtLast old n b said
  made_from n b said t = record {
    making = t.making;
    before = t.before;
    log = t.log;
    makes = subst (λ (z : View). IsMaking z.generation b t.making) v t.makes;
    takes_none = t.takes_none;
    sweeps = subst (λ (z : View). OnlySweeps z.generation t.before) v t.sweeps;
    reclaimed = subst (λ (z : View). HasReclaimed z.marks z.region n t.before) v t.reclaimed;
    cuts_first = λ on few took. t.cuts_first (q ∙ on) few took;
    pulls = t.pulls;
    uncached = λ off. t.uncached (q ∙ off);
  }

  pub missed_from : (n class line : ℕ) (said : List Entry) → MissedAtLast mid n class line said → MissedAtLast old n class line said
  missed_from n class line said t = record {
    before = t.before;
    log = t.log ∙ ap (λ (z : View). Missed line (MissLine (cycle_at z.generation) n class) ∷ t.before) v;
    takes_none = t.takes_none;
    sweeps = subst (λ (z : View). OnlySweeps z.generation t.before) v t.sweeps;
    reclaimed = subst (λ (z : View). HasReclaimed z.marks z.region n t.before) v t.reclaimed;
    saw_empty = subst (λ (z : View). SawAllEmpty z.generation t.before) v t.saw_empty;
    pulls = t.pulls;
    uncached = λ off. t.uncached (q ∙ off);
  }

  pub looked_from : (k : ℕ) (look : Look) (tried : ℕ) (said : List Entry) → LookedFor mid.worker.view.generation k look tried said → LookedFor old.worker.view.generation k look tried said
  looked_from k look tried said x = subst (λ (z : View). LookedFor z.generation k look tried said) v x

  pub comes_from : (k : ℕ) (b : Body) (from : CacheFrom) (said : List Entry) → ComesFrom mid k b from said → ComesFrom old k b from said
  comes_from k b SweptPartial said x = subst (λ (z : View). (0 < many (is_pop_of (swept_set z.generation k 0) b.page) said) × Says z.generation k 0 nothing said) v x
  comes_from k b SweptHere said x = let t = x.0 in (
    (t.0, t.1, t.2, subst (λ (z : View). SawNone (swept_set z.generation k 0) t.1) v t.3, t.4),
    (x.1.0, x.1.1, subst (λ (z : View). Says z.generation k x.1.0 (just b.page) said) v x.1.2),
  )
  comes_from k b (Fresh look tried) said x = (x.0, x.1, x.2, looked_from k look tried x.1 x.3, made_from (pages_of (k / 2)) b x.0 x.4)

  pub taking_from : (k : ℕ) (said : List Entry) → StopsTaking mid.worker.caching mid.worker.view k said → StopsTaking old.worker.caching old.worker.view k said
  taking_from k said x = subst (λ (z : Bool × View). StopsTaking z.0 z.1 k said) (λ i. (q i, v i)) x

  pub making_from : (n : ℕ) (said : List Entry) → StopsMaking mid.worker.caching mid.worker.view.generation mid.worker.view.region n said → StopsMaking old.worker.caching old.worker.view.generation old.worker.view.region n said
  making_from n said x = subst (λ (z : Bool × View). StopsMaking z.0 z.1.generation z.1.region n said) (λ i. (q i, v i)) x

-- the making of a span that memory stopped
pub stops_making : (n k : ℕ) (mid new : Hand) (w : MakesSpan n k mid new (Err WantsMemory)) → StopsMaking mid.worker.caching mid.worker.view.generation mid.worker.view.region n w.said
stops_making n k mid new w = record { sweeps = w.does.sweeps; takes_none = w.did.0; few = w.did.1; uncached = w.did.2; pulls = w.did.3 }

-- ---- refusals

-- the log of a refused request has its one refusal
module _ (mid : Hand) (n k line : ℕ) (said : List Entry) (t : MissedAtLast mid n k line said) where
  no_refusal_before : refusals t.before ≡ []
  no_refusal_before = no_refusals t.before t.takes_none.unmissed

  pub one_refusal : refusals said ≡ record { number = line; pages = n; class = k } ∷ []
  one_refusal = ap refusals t.log ∙ ap (λ (l : List Refusal). let r : Refusal = record { number = line; pages = n; class = k } in r ∷ l) no_refusal_before

  pub one_missed : many is_missing said ≡ 1
  one_missed = ap (many is_missing) t.log ∙ (let z = t.takes_none.unmissed in omega arith)

  pub missed_takes : many is_taking said ≡ 0
  missed_takes = ap (many is_taking) t.log ∙ (let z = t.takes_none.untaken in omega arith)

making_misses : (g : ℕ) (b : Body) (x : Entry) → IsMaking g b x → is_missing x ≡ false
making_misses g b x (inl e) = ap is_missing e
making_misses g b x (inr e) = ap is_missing e

making_takes : (g : ℕ) (b : Body) (x : Entry) → IsMaking g b x → is_taking x ≡ true
making_takes g b x (inl e) = ap is_taking e
making_takes g b x (inr e) = ap is_taking e

module _ (mid : Hand) (n : ℕ) (b : Body) (said : List Entry) (t : MadeAtLast mid n b said) where
  pub made_misses : many is_missing said ≡ 0
  made_misses = ap (many is_missing) t.log ∙ (let z = t.takes_none.unmissed in let x = ap one_if (making_misses mid.worker.view.generation b t.making t.makes) in omega arith)

  pub made_one : many is_taking said ≡ 1
  made_one = ap (many is_taking) t.log ∙ (let z = t.takes_none.untaken in let x = ap one_if (making_takes mid.worker.view.generation b t.making t.makes) in omega arith)

-- a refusal behind a log without any
pub refusal_behind : (r : Refusal) (later first : List Entry) → refusals later ≡ r ∷ [] → refusals first ≡ [] → refusals (later ++ first) ≡ r ∷ []
refusal_behind r later first e f = refusals-append later first ∙ (λ i. e i ++ f i)

-- ---- a span from the sets, or a new one

module _ (k : ℕ) (old mid : Hand) (low : k < 136) where
  handed : (b : Body) → HandsOut old.worker.view.generation k b old.worker mid.worker → IsFor k b old mid
  handed b h = record {
    class = h.of_class;
    room = h.room;
    lent = h.lent;
    before = has_none b.page old.worker.view.own.cached (let z = h.before in omega arith);
    unpopped = let g = old.worker.view.generation in h.unpopped (swept_set g k 1) (swept_low g k 1 (omega arith) low) (swept_is g k 1 (omega arith)) (full_is g k);
  }

  pub from_partial : IsIdle old.worker.view.own → (b : Body) → Caches old.worker.view.generation k old mid (Ok (FromPartial b)) → Comes k old mid (Ok (b, SweptPartial))
  from_partial idle b c = (handed b c.0, (c.2.said, holds_one k 0 (just b.page) nothing _ old mid idle c.2 b.page (λ q l. absurd (omega arith)) (λ q. refl), sums_of_lists k 0 (just b.page) nothing _ old mid idle c.2, (c.2.property, c.2.says)))

  pub from_here : IsIdle old.worker.view.own → (b : Body) → Caches old.worker.view.generation k old mid (Ok (FromHere b)) → Comes k old mid (Ok (b, SweptHere))
  from_here idle b c = let d = c.3.2 in let t = c.3.0 in
      (handed b c.0, (d.said, holds_one k t (just b.page) (just b.page) _ old mid idle d b.page (λ q l. l) (λ q. refl), sums_of_lists k t (just b.page) (just b.page) _ old mid idle d, (d.property, (t, c.3.1, d.says))))

  pub no_memory : IsIdle old.worker.view.own → (e : NoMemory) → Caches old.worker.view.generation k old mid (Err e) → Comes k old mid (Err WantsMemory)
  no_memory idle e c = let d = c.2 in let t = c.0 in (d.said, holds_none k t nothing nothing _ old mid idle d (λ q. refl) (λ q. refl), sums_of_lists k t nothing nothing _ old mid idle d, inl (t, c.1, d.says))

  -- the sets have none
  module _ (idle : IsIdle old.worker.view.own) (look : Look) (tried : ℕ) (c : Caches old.worker.view.generation k old mid (Ok (NeedFresh look tried))) where
    pub looked_holds : Holds [] c.1.said old mid
    looked_holds = holds_none k tried nothing nothing _ old mid idle c.1 (λ q. refl) (λ q. refl)

    looked_for : LookedFor old.worker.view.generation k look tried c.1.said
    looked_for = record { says = c.1.says; looked = c.1.property; few = c.0 }

    looked_sums : Sums 0 0 0 0 c.1.said
    looked_sums = sums_of_lists k tried nothing nothing _ old mid idle c.1

    looked_refuses : refusals c.1.said ≡ []
    looked_refuses = no_refusals c.1.said c.1.says.misses_nothing

    pub then_refused : (n : ℕ) → n ≡ pages_of (k / 2) → (new : Hand) (e : Refused) → MakesSpan n k mid new (Err e) → Comes k old new (Err e)
    then_refused n same new (NoRun line) m = subst (λ (p : ℕ). WasNoRun old p line × ((said : List Entry) × Holds [] said old new × Sums 0 0 1 0 said
        × (refusals said ≡ record { number = line; pages = p; class = k } ∷ [])
        × ((look : Look) × ((tried : ℕ) × Then (LookedFor old.worker.view.generation k look tried) (MissedAtLast old p k line) said)) × HasNoOwnBlock new.worker)) same
        (let w = m.1 in let v = looked_holds.view in let q = looked_holds.caching in let i = idle_after c.1.said old mid looked_holds in (
          no_run_from old mid v q n line m.0,
          (
            w.said ++ c.1.said,
            holds-trans [] w.said c.1.said old mid new looked_holds (of_sweeper [] _ mid new i w),
            sums-append 0 0 0 0 0 0 1 0 w.said c.1.said looked_sums (sums_of [] _ mid new i w 0 1 (missed_takes mid n k line w.said w.did) (one_missed mid n k line w.said w.did)),
            refusal_behind _ w.said c.1.said (one_refusal mid n k line w.said w.did) looked_refuses,
            (look, (tried, (w.said, c.1.said, refl, looked_for, missed_from old mid v q n k line w.said w.did))),
            m.2,
          ),
        ))
    then_refused n same new WantsMemory w = let i = idle_after c.1.said old mid looked_holds in (
      w.said ++ c.1.said,
      holds-trans [] w.said c.1.said old mid new looked_holds (of_sweeper [] _ mid new i w),
      sums-append 0 0 0 0 0 0 0 0 w.said c.1.said looked_sums (sums_of [] _ mid new i w 0 0 w.did.0.untaken w.did.0.unmissed),
      inr (w.said, c.1.said, refl, (look, (tried, looked_for)), making_from old mid looked_holds.view looked_holds.caching (pages_of (k / 2)) w.said (subst (λ (p : ℕ). StopsMaking mid.worker.caching mid.worker.view.generation mid.worker.view.region p w.said) same (stops_making n k mid new w))),
    )

    pub then_made : (n : ℕ) → n ≡ pages_of (k / 2) → (new : Hand) (b : Body) → MakesSpan n k mid new (Ok b) → Comes k old new (Ok (b, Fresh look tried))
    then_made n same new b m = let h = m.0 in let w = m.1 in let v = looked_holds.view in let q = looked_holds.caching in let i = idle_after c.1.said old mid looked_holds in (
      record {
        class = h.is_new.class;
        room = (0, b.some_object, h.is_new.empty 0);
        lent = h.lent;
        before = ap (has b.page) (sym looked_holds.cached) ∙ has_none b.page mid.worker.view.own.cached (let z = h.nothing in omega arith);
        unpopped = let g = old.worker.view.generation in
            h.untouched.pops (swept_set g k 1) (swept_low g k 1 (omega arith) low) (ap (λ (z : View). Rattle.sweep_laws.specs.Reading.is_swept_set z.generation (swept_set g k 1)) v ∙ swept_is g k 1 (omega arith));
      },
      (
        w.said ++ c.1.said,
        holds-trans (b.page ∷ []) w.said c.1.said old mid new looked_holds (of_sweeper (b.page ∷ []) _ mid new i w),
        sums-append 0 0 0 0 0 1 0 0 w.said c.1.said looked_sums (sums_of (b.page ∷ []) _ mid new i w 1 0 (made_one mid n b w.said w.did) (made_misses mid n b w.said w.did)),
        (w.said, c.1.said, refl, looked_for, subst (λ (p : ℕ). MadeAtLast old p b w.said) same (made_from old mid v q n b w.said w.did)),
      ),
    )

-- ---- after a payment

module _ (pages distance bytes credit : ℕ) (old mid : Hand) (idle : IsIdle old.worker.view.own) where
  -- what a payment leaves, and what its log has
  pub paid_nothing : HandSweeps [] IsPlain old mid → (said : List Entry) × Holds [] said old mid × Sums 0 0 0 0 said × StopsPaying old.worker.view.generation said
  paid_nothing w = (w.said, of_sweeper [] _ old mid idle w, sums_of [] _ old mid idle w 0 0 w.did.takes_none.untaken w.did.takes_none.unmissed, record { sweeps = w.does.sweeps; plain = w.did })

  pub paid : (p : Paid) → Pays pages distance bytes credit old mid (Ok p) → (said : List Entry) × Holds [] said old mid × Sums 0 0 0 0 said × HasPaidFor old.worker.view.generation pages distance bytes credit said
  paid (Reached seen target) w = (w.said, of_sweeper [] _ old mid idle w, sums_of [] _ old mid idle w 0 0 w.did.0.takes_none.untaken w.did.0.takes_none.unmissed, (w.did.0, w.does.sweeps, inl (seen, (target, w.did.1))))
  paid NothingLeft w = (w.said, of_sweeper [] _ old mid idle w, sums_of [] _ old mid idle w 0 0 w.did.0.takes_none.untaken w.did.0.takes_none.unmissed, (w.did.0, w.does.sweeps, inr w.did.1))

-- a span that was found behind a payment
module _ (pages distance k : ℕ) (old mid : Hand) (first : List Entry) (x : Holds [] first old mid) (sums : Sums 0 0 0 0 first) (paid : HasPaidFor old.worker.view.generation pages distance (bytes_of k) 0 first) where
  for_from : (b : Body) (new : Hand) → IsFor k b mid new → IsFor k b old new
  for_from b new f = record {
    class = f.class;
    room = f.room;
    lent = f.lent;
    before = ap (has b.page) (sym x.cached) ∙ f.before;
    unpopped = subst (λ (z : View). many (is_pop_of (swept_set z.generation k 1) b.page) new.worker.view.own.log ≡ 0) x.view f.unpopped;
  }

  pub finds : (new : Hand) (r : Result (Body × CacheFrom) Refused) → Comes k mid new r → FindsSpan pages distance k old new r
  finds new (Ok found) c = let s = c.1.0 in (
    for_from found.0 new c.0,
    (
      s ++ first,
      holds-trans (found.0.page ∷ []) s first old mid new x c.1.1,
      sums_behind found.1 s c.1.2,
      (s, first, refl, paid, comes_from old mid x.view x.caching k found.0 found.1 s c.1.3),
    ),
  )
    where
      sums_behind : (from : CacheFrom) (s : List Entry) → Sums 0 (taken_for from) 0 0 s → Sums 0 (taken_for from) 0 0 (s ++ first)
      sums_behind SweptPartial s y = sums-append 0 0 0 0 0 0 0 0 s first sums y
      sums_behind SweptHere s y = sums-append 0 0 0 0 0 0 0 0 s first sums y
      sums_behind (Fresh look tried) s y = sums-append 0 0 0 0 0 1 0 0 s first sums y
  finds new (Err (NoRun line)) c = let s = c.1.0 in let t = c.1.4.1.1 in (
    no_run_from old mid x.view x.caching (pages_of (k / 2)) line c.0,
    (
      s ++ first,
      holds-trans [] s first old mid new x c.1.1,
      sums-append 0 0 0 0 0 0 1 0 s first sums c.1.2,
      refusal_behind _ s first c.1.3 (no_refusals first sums.misses),
      (s, first, refl, paid, (c.1.4.0, (c.1.4.1.0, (t.0, t.1, t.2, looked_from old mid x.view x.caching k c.1.4.0 c.1.4.1.0 t.1 t.3, missed_from old mid x.view x.caching (pages_of (k / 2)) k line t.0 t.4)))),
      c.1.5,
    ),
  )
  finds new (Err WantsMemory) c = (
    c.0 ++ first,
    holds-trans [] c.0 first old mid new x c.1,
    sums-append 0 0 0 0 0 0 0 0 c.0 first sums c.2,
    inr (c.0, first, refl, paid, taking_from old mid x.view x.caching k c.0 c.3),
  )
