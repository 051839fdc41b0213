-- A large allocation, from its payment to its object.
use Rattle.std.proofs.Common.{◌≡◌, ℕ, ◌+◌, ◌*◌, ◌<◌, inl, inr, ⊎_elim, false, eq-eqb, List, [], ◌∷◌, ◌++◌, refl, ap, sym, subst, ◌∙◌, arith, append_assoc}
use Rattle.std.specs.Prelude.{Ok, Err}
use Rattle.page_bitmap.specs.declared.line.Line.TheVariants.{Take}
use Rattle.span_state.specs.declared.body.Body.{Body}
use Rattle.sweep_laws.specs.Lists.{has}
use Rattle.worker_log.specs.declared.Entry.{Entry}
use Rattle.worker_log.specs.declared.Entry.TheVariants.{Looked, LookedEmptyCell, Popped, Pushed, Swept, Took, Missed, Gave, Allocated, Found, Read, Added, Pulled, NoPage, Cut as CutEntry, NoCut, Settled}
use Rattle.worker_log.specs.declared.Placing.{Placing}
use Rattle.worker_log.specs.Logs.{Taking, takings}
use Rattle.worker_log.specs.SetNumbers.{swept_set}
use Rattle.worker_log.specs.Entries.{many}
use Rattle.worker_log.proofs.Logs.{many-append}
use Rattle.span_laws.specs.declared.answers.Refused.{Refused}
use Rattle.span_laws.specs.declared.answers.Refused.TheVariants.{NoRun, NoMemory as WantsMemory}
use Rattle.span_laws.specs.declared.said.Said.TheVariants.{Adds}
use Rattle.span_laws.specs.declared.view.View.{View}
use Rattle.span_laws.specs.TakeAnswers.{cycle_at}
use Rattle.span_laws.specs.Asks.{IsIdle, IsUntouched}
use Rattle.span_laws.specs.Logs.{is_taking}
use Rattle.span_laws.specs.Views.{Seen}
use Rattle.span_laws.specs.OwnSteps.{after_said}
use Rattle.span_laws.proofs.Parts.{has_none}
use Rattle.span_set.specs.declared.hand.Hand.{Hand}
use Rattle.span_set.specs.Fits.{FitsSets, no_page}
use Rattle.span_set.proofs.Fits.{fits-both}
use Rattle.sweeper.specs.Entries.{is_cut_of}
use Rattle.sweeper.specs.NewSpans.{MakesSpan}
use Rattle.proc_cache.specs.Leaves.{Holds, Sums}
use Rattle.proc_cache.specs.RefillLogs.{HasPaidFor}
use Rattle.proc_cache.specs.Findings.{IsHolding}
use Rattle.proc_cache.proofs.Finding.{made_from, made_misses, made_one, making_from, missed_from, missed_takes, no_run_from, one_missed, one_refusal, refusal_behind, stops_making}
use Rattle.proc_cache.proofs.Holding.{holds-then, holds-trans, idle_after, of_sweeper, sums_of}
use Rattle.proc_cache.proofs.Logging.{no_placings, no_refusals, placings-append, refusals-append, sums-append}
use Rattle.large_objects.specs.Larges.{AllocatesLarge, IsForOne, IsMadeFor, PutsObject}
use Rattle.large_objects.proofs.Putting.{placing_is, put_holds, put_said}

pub no_takings : (said : List Entry) → many is_taking said ≡ 0 → takings said ≡ []
no_takings [] e = refl
no_takings (Took number line ∷ said) e = absurd (omega arith)
no_takings (Allocated a ∷ said) e = no_takings said (omega arith)
no_takings (Swept s ∷ said) e = no_takings said (omega arith)
no_takings (Missed number line ∷ said) e = no_takings said (omega arith)
no_takings (Looked set head tail ∷ said) e = no_takings said (omega arith)
no_takings (LookedEmptyCell set index ∷ said) e = no_takings said (omega arith)
no_takings (Pulled number line ∷ said) e = no_takings said (omega arith)
no_takings (NoPage ∷ said) e = no_takings said (omega arith)
no_takings (CutEntry page pages class ∷ said) e = no_takings said (omega arith)
no_takings (NoCut pages left ∷ said) e = no_takings said (omega arith)
no_takings (Settled number ∷ said) e = no_takings said (omega arith)
no_takings (Popped set page ∷ said) e = no_takings said (omega arith)
no_takings (Pushed set page ∷ said) e = no_takings said (omega arith)
no_takings (Gave page pages ∷ said) e = no_takings said (omega arith)
no_takings (Found page word ∷ said) e = no_takings said (omega arith)
no_takings (Read word value ∷ said) e = no_takings said (omega arith)
no_takings (Added word value ∷ said) e = no_takings said (omega arith)

pub takings-append : (later first : List Entry) → takings (later ++ first) ≡ takings later ++ takings first
takings-append [] first = refl
takings-append (Took number line ∷ later) first = ap (λ (l : List Taking). let t : Taking = record { number = number; line = line } in t ∷ l) (takings-append later first)
takings-append (Allocated a ∷ later) first = takings-append later first
takings-append (Swept s ∷ later) first = takings-append later first
takings-append (Missed number line ∷ later) first = takings-append later first
takings-append (Looked set head tail ∷ later) first = takings-append later first
takings-append (LookedEmptyCell set index ∷ later) first = takings-append later first
takings-append (Pulled number line ∷ later) first = takings-append later first
takings-append (NoPage ∷ later) first = takings-append later first
takings-append (CutEntry page pages class ∷ later) first = takings-append later first
takings-append (NoCut pages left ∷ later) first = takings-append later first
takings-append (Settled number ∷ later) first = takings-append later first
takings-append (Popped set page ∷ later) first = takings-append later first
takings-append (Pushed set page ∷ later) first = takings-append later first
takings-append (Gave page pages ∷ later) first = takings-append later first
takings-append (Found page word ∷ later) first = takings-append later first
takings-append (Read word value ∷ later) first = takings-append later first
takings-append (Added word value ∷ later) first = takings-append later first

-- behind a payment
module _ (pages distance n k : ℕ) (old m1 : Hand) (first : List Entry) (x : Holds [] first old m1) (sums : Sums 0 0 0 0 first) (paid : HasPaidFor old.worker.view.generation pages distance (8192 * n) n first) where
  idle : IsIdle m1.worker.view.own
  idle = idle_after first old m1 x

  pub large_refused : (new : Hand) (e : Refused) → MakesSpan n k m1 new (Err e) → AllocatesLarge pages distance n k old new (Err e)
  large_refused new (NoRun line) m = let w = m.1 in let s = w.said in let t = sums_of [] _ m1 new idle w 0 1 (missed_takes m1 n k line s w.did) (one_missed m1 n k line s w.did) in (
    no_run_from old m1 x.view x.caching n line m.0,
    (
      s ++ first,
      holds-trans [] s first old m1 new x (of_sweeper [] _ m1 new idle w),
      sums-append 0 0 0 0 0 0 1 0 s first sums t,
      placings-append s first ∙ (λ i. no_placings s t.places i ++ no_placings first sums.places i),
      refusal_behind _ s first (one_refusal m1 n k line s w.did) (no_refusals first sums.misses),
      (s, first, refl, paid, missed_from old m1 x.view x.caching n k line s w.did),
      m.2,
    ),
  )
  large_refused new WantsMemory w = (
    w.said ++ first,
    holds-trans [] w.said first old m1 new x (of_sweeper [] _ m1 new idle w),
    sums-append 0 0 0 0 0 0 0 0 w.said first sums (sums_of [] _ m1 new idle w 0 0 w.did.0.untaken w.did.0.unmissed),
    inr (w.said, first, refl, paid, making_from old m1 x.view x.caching n w.said (stops_making n k m1 new w)),
  )

  -- a span was made
  module _ (m2 : Hand) (b : Body) (m : MakesSpan n k m1 m2 (Ok b)) where
    made_holds : Holds (b.page ∷ []) m.1.said m1 m2
    made_holds = of_sweeper (b.page ∷ []) _ m1 m2 idle m.1

    pub made_holding : IsHolding m2.worker.view.own b.page
    made_holding = record { sweeping = made_holds.sweeping; held = made_holds.held; popped = made_holds.popped; claimed = made_holds.claimed }

    pub made_far : has b.page m2.worker.view.own.cached ≡ false
    made_far = ap (has b.page) made_holds.cached ∙ has_none b.page m1.worker.view.own.cached (let z = m.0.nothing in omega arith)

    pub made_for_one : (before bytes : ℕ) (w : Seen) → k < 2 → w ≡ after_said (Adds 3 before bytes) m2.worker → IsForOne k b w
    made_for_one before bytes w low e = let h = m.0 in subst (IsForOne k b) (sym e) (record {
      class = h.is_new.class;
      count = (h.is_new.large low).0;
      empty = h.is_new.empty;
      lent = h.lent;
      untouched = subst (λ (v : View). IsUntouched v.generation (after_said (Adds 3 before bytes) m2.worker).view.own b.page) (sym made_holds.view) (record { pops = λ j l p. let u = h.untouched.pops j l p in omega arith; placings = let u = h.untouched.placings in omega arith });
    })

    -- the object is placed in it
    module _ (before at : ℕ) (m3 new : Hand) (spent : m3.worker ≡ after_said (Adds 3 before (8192 * n)) m2.worker) (notes : m3.notes ≡ m2.notes) (put : PutsObject k b m3 new at) where
      said2 : List Entry
      said2 = put_said k (8192 * n) before at b m2 m3 new made_holding spent notes made_far put

      gen2 : m2.worker.view.generation ≡ old.worker.view.generation
      gen2 = ap (λ (v : View). v.generation) made_holds.view ∙ ap (λ (v : View). v.generation) x.view

      sums2 : Sums (8192 * n) 0 0 1 (put_said k (8192 * n) before at b m2 m3 new made_holding spent notes made_far put)
      sums2 = record { spends = omega arith; takes = refl; misses = refl; places = refl }

      sums1 : Sums 0 1 0 0 m.1.said
      sums1 = sums_of (b.page ∷ []) _ m1 m2 idle m.1 1 0 (made_one m1 n b m.1.said m.1.did) (made_misses m1 n b m.1.said m.1.did)

      abbrev place : Placing
      place = record { page = b.page; index = 0; number = b.life; class = b.class }

      first_sets : FitsSets old.worker.view.generation no_page (m.1.said ++ first) old.worker m2.worker
      first_sets = fits-both old.worker.view.generation no_page no_page no_page m.1.said first old.worker m1.worker m2.worker (λ p l. l) (λ p l. l) x.sets
          (subst (λ (v : View). FitsSets v.generation no_page m.1.said m1.worker m2.worker) x.view m.1.does.sets)

      -- how the span came
      one_making : (z : List Entry) → takings z ≡ [] → IsMadeFor n k old.worker.view.generation place (z ++ (m.1.said ++ first))
      one_making z none = let t = m.1.did in let s = m.1.said in let h = m.0.is_new in let g = ap (λ (v : View). v.generation) x.view in
          let all = takings-append z (s ++ first) ∙ (λ i. none i ++ takings-append s first i) in
          let after = no_takings t.before t.takes_none.untaken in let none_first = no_takings first sums.takes in ⊎_elim
          (λ (e : t.making ≡ Took b.life (Take (cycle_at m1.worker.view.generation) b.page b.pages b.class)).
          let here : takings s ≡ record { number = b.life; line = Take (cycle_at old.worker.view.generation) b.page n k } ∷ [] = ap takings t.log ∙ (λ i. takings (e i ∷ t.before))
          ∙ (λ i. (let y : Taking = record { number = b.life; line = Take (cycle_at (g i)) b.page (h.pages i) (h.class i) } in y) ∷ after i) in
          inl (all ∙ (λ i. here i ++ none_first i)))
          (λ (e : t.making ≡ CutEntry b.page b.pages b.class).
          let here : takings s ≡ [] = ap takings t.log ∙ (λ i. takings (e i ∷ t.before)) ∙ after in
          let cut : many (is_cut_of b.page n k) (CutEntry b.page b.pages b.class ∷ t.before) ≡ 1 + many (is_cut_of b.page n k) t.before = rw (eq-eqb b.page b.page refl, eq-eqb b.pages n h.pages, eq-eqb b.class k h.class) refl in
          let said : many (is_cut_of b.page n k) s ≡ many (is_cut_of b.page n k) (CutEntry b.page b.pages b.class ∷ t.before) = ap (many (is_cut_of b.page n k)) t.log ∙ (λ i. many (is_cut_of b.page n k) (e i ∷ t.before)) in
          inr (all ∙ (λ i. here i ++ none_first i), let a = many-append (is_cut_of b.page n k) z (s ++ first) in let c = many-append (is_cut_of b.page n k) s first in omega arith))
          t.makes

      pub large_done : AllocatesLarge pages distance n k old new (Ok at)
      large_done =
          let z = put_said k (8192 * n) before at b m2 m3 new made_holding spent notes made_far put in let s = m.1.said in
          let a = sums-append 0 0 0 0 0 1 0 0 s first sums sums1 in let d = sums-append (0 + 0) (0 + 1) (0 + 0) (0 + 0) (8192 * n) 0 0 1 z (s ++ first) a sums2 in
          let is = placing_is k (8192 * n) before at b m2 m3 new made_holding spent notes made_far put in
          let cl : b.class ≡ k = m.0.is_new.class in (
            b,
            (
              z ++ (s ++ first),
              holds-then (b.page ∷ []) [] z (s ++ first) old m2 new first_sets (holds-trans (b.page ∷ []) s first old m1 m2 x made_holds) (put_holds k (8192 * n) before at b m2 m3 new made_holding spent notes made_far put),
              record { spends = d.spends ∙ omega arith; takes = d.takes; misses = d.misses; places = d.places },
              record {
                placing = place;
                only = placings-append z (s ++ first) ∙ (λ i. is i ∷ (placings-append s first ∙ (λ j. no_placings s sums1.places j ++ no_placings first sums.places j)) i);
                class = cl;
                index = refl;
                address = put.0;
                refused = refusals-append z (s ++ first) ∙ refusals-append s first ∙ (λ i. no_refusals s sums1.misses i ++ no_refusals first sums.misses i);
                made = one_making z refl;
              },
              (
                z ++ s,
                first,
                sym (append_assoc z s first),
                paid,
                (
                  z,
                  s,
                  refl,
                  made_from old m1 x.view x.caching n b s m.1.did,
                  (
                    Pushed (swept_set m2.worker.view.generation k 1) b.page ∷ Read 1 m2.worker.view.generation ∷ Allocated (record { page = put.2.0.page; index = 0; number = put.2.0.life; class = put.2.0.class }) ∷ [],
                    Added 3 (8192 * n) ∷ Read 3 before ∷ [],
                    refl,
                    (before, refl),
                    (λ i. Pushed (swept_set (gen2 i) k 1) b.page ∷ Read 1 (gen2 i) ∷ Allocated (is i) ∷ [])
                        ∙ ap (λ (c : ℕ). Pushed (swept_set old.worker.view.generation k 1) b.page ∷ Read 1 old.worker.view.generation ∷ Allocated (record { page = b.page; index = 0; number = b.life; class = c }) ∷ []) cl,
                  ),
                ),
              ),
            ),
          )
