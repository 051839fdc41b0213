-- A hand meets a page or an entry of an unswept set, or takes a step that leaves its claim and its popped entries.
use Rattle.std.proofs.Common.{◌≡◌, ℕ, suc, eq-eqb, List, [], ◌∷◌, ◌++◌, refl, ap, sym, subst, ◌∙◌, inl, inr, arith}
use Rattle.std.specs.Prelude.{None, Option, Result, Ok, Err}
use Rattle.fallible_list.specs.declared.list.NoMemory.{NoMemory}
use Rattle.atomic_table.specs.Seated.{TableId}
use Rattle.profile_cycle.specs.History.{RingId}
use Rattle.span_state.specs.MarkSet.{MarkSet}
use Rattle.span_state.specs.declared.body.Body.{Body}
use Rattle.span_state.specs.declared.sweep.SweepNote.{SweepNote}
use Rattle.sweep_laws.specs.Lists.{erase}
use Rattle.worker_log.specs.SetNumbers.{swept_set}
use Rattle.page_bitmap.specs.Counts.{one_if}
use Rattle.page_bitmap.specs.declared.line.Line.{Line}
use Rattle.span_laws.specs.ScavengeAnswers.{StepsOnce}
use Rattle.span_laws.specs.Answers.{AcquiresSpan}
use Rattle.span_laws.specs.declared.answers.Acquired.TheVariants.{Got, Other}
use Rattle.span_laws.specs.declared.answers.Step.{Step}
use Rattle.span_laws.specs.declared.said.Said.TheVariants.{Adds, Fills, Finds, Gives, Looks, LooksCell, PopsEntry, Reads}
use Rattle.span_laws.specs.declared.said.SaidOf.TheVariants.{Acquires, Releases}
use Rattle.span_laws.specs.declared.view.Part.{Part}
use Rattle.span_laws.specs.Views.{Seen, acts, span_of}
use Rattle.span_laws.specs.OwnSteps.{after_of, after_said}
use Rattle.span_set.specs.Pops.{PopsUnswept, with_looks}
use Rattle.span_set.specs.Tallies.{Frees}
use Rattle.span_set.specs.declared.answers.PopBase.TheVariants.{Popped as PoppedBase, Empty as EmptyBase}
use Rattle.span_set.specs.declared.hand.Hand.{Hand}
use Rattle.sweeper.specs.Settles.{GoesHome, Settles}
use Rattle.span_table_tests.specs.Rows.{IsFreeDriver}
use Rattle.span_table_tests.proofs.Driving.{own_fresh, own_idle, own_used, still_free}
use Rattle.sweeper_tests.specs.Rows.{IsReady}
use Rattle.sweeper_tests.proofs.Ready.{ready_stays}

erased : (page : ℕ) → erase page (page ∷ []) ≡ []
erased page = rw (eq-eqb page page refl) refl

module _ (table : TableId) (ring : RingId) (m : MarkSet) (h : Hand) (r : IsReady table ring m h) where
  -- the worker's own part changed, has claimed nothing and has popped nothing
  pub ready_acts : (known : Option (List Line)) (part : Part) (w : Seen) → w ≡ record h.worker { journal = known; view = acts h.worker.view part } → part.claimed ≡ None → part.popped ≡ [] → IsReady table ring m (record h { worker = w })
  ready_acts known part w e free none = subst (λ (x : Seen). IsReady table ring m (record h { worker = x })) (sym e)
      (record { works = record { works = r.works.works; marks = r.works.marks; counts = r.works.counts }; unclaimed = free; unpopped = none; drives = r.drives; alone = r.alone; two = r.two })

  pub ready_got : (page : ℕ) (b : Body) (w : Seen) → AcquiresSpan page h.worker w (Got b) → IsReady table ring m (record h { worker = w })
  ready_got page b w a = ready_acts _ _ w a.1 r.unclaimed (ap (erase b.page) r.unpopped)

  pub ready_other : (page word : ℕ) (w : Seen) → AcquiresSpan page h.worker w (Other word) → IsReady table ring m (record h { worker = w })
  ready_other page word w a = ready_acts _ _ w a.1 r.unclaimed (ap (erase page) r.unpopped)

  pub ready_empty : (set head tail : ℕ) (w : Seen) → PopsUnswept set h.worker w (EmptyBase head tail) → IsReady table ring m (record h { worker = w })
  ready_empty set head tail w p = ready_acts _ _ w p.1.view r.unclaimed r.unpopped

  -- an entry was popped, and its page met
  module _ (set page : ℕ) (mid : Seen) (p : PopsUnswept set h.worker mid (PoppedBase page)) where
    mid_is : mid ≡ after_said (PopsEntry set page) (after_said (LooksCell set p.0 (suc page)) (after_said (Looks set p.0 p.1) (with_looks p.3.said p.3.cells (after_said (Reads 1 h.worker.view.generation) h.worker))))
    mid_is = p.5 ∙ ap (λ (x : Seen). after_said (PopsEntry set page) (after_said (LooksCell set p.0 (suc page)) x)) p.3.view

    mid_popped : mid.view.own.popped ≡ page ∷ []
    mid_popped = ap (λ (x : Seen). x.view.own.popped) mid_is ∙ ap (λ (xs : List ℕ). xs ++ page ∷ []) r.unpopped

    pub ready_popped_got : (b : Body) (w : Seen) → AcquiresSpan page mid w (Got b) → IsReady table ring m (record h { worker = w })
    ready_popped_got b w a = ready_acts _ _ w (a.1 ∙ ap (after_of Acquires (span_of b)) mid_is) r.unclaimed
        (ap (λ (xs : List ℕ). erase b.page (xs ++ page ∷ [])) r.unpopped ∙ ap (λ (q : ℕ). erase q (page ∷ [])) a.0 ∙ erased page)

    pub ready_popped_other : (word : ℕ) (w : Seen) → AcquiresSpan page mid w (Other word) → IsReady table ring m (record h { worker = w })
    ready_popped_other word w a = ready_acts _ _ w (a.1 ∙ ap (after_said (Finds page word)) mid_is) r.unclaimed
        (ap (λ (xs : List ℕ). erase page (xs ++ page ∷ [])) r.unpopped ∙ erased page)

  -- a scavenging step
  pub ready_stepped : (w : Seen) (a : Result Step NoMemory) → StepsOnce h.worker w a → IsReady table ring m (record h { worker = w })
  ready_stepped w (Ok step) s = ready_acts _ _ w s.4 r.unclaimed r.unpopped
  ready_stepped w (Err e) s = subst (λ (x : Seen). IsReady table ring m (record h { worker = x })) (sym s) r

-- the counters are read
module _ (table : TableId) (ring : RingId) (m : MarkSet) (h : Hand) (r : IsReady table ring m h) (i j k a b c : ℕ) where
  pub ready_read : (w1 w2 w3 : Seen) → w1 ≡ after_said (Reads i a) h.worker → w2 ≡ after_said (Reads j b) w1 → w3 ≡ after_said (Reads k c) w2 → IsReady table ring m (record h { worker = w3 })
  ready_read w1 w2 w3 e1 e2 e3 = ready_acts table ring m h r _ _ w3 (e3 ∙ ap (after_said (Reads k c)) (e2 ∙ ap (after_said (Reads j b)) e1)) r.unclaimed r.unpopped

-- a counter is raised
pub adds_free : (t : TableId) (word value number : ℕ) (w new : Seen) → IsFreeDriver t w → new ≡ after_said (Adds word value number) w → IsFreeDriver t new × (new.view.generation ≡ w.view.generation)
adds_free t word value number w new f e = let o = own_idle t w f in
    (still_free t w f _ _ new e (record { sweeping = o.sweeping; held = o.held; popped = o.popped; claimed = o.claimed }) (own_fresh t w f) (λ p l. let z = own_used t w f p l in omega arith), ap (λ (x : Seen). x.view.generation) e)

-- a span in hand was settled
pub ready_settled : (table : TableId) (ring : RingId) (m : MarkSet) (b : Body) (old new : Hand) (note : SweepNote) → IsReady table ring m old → Frees m old new → Settles m b old new note → IsReady table ring m new
ready_settled table ring m b old new note r f t = go t.goes
  where
    mid_is : t.mid ≡ after_of Releases (span_of t.body) (after_said (Adds 2 t.before t.body.pages) (after_said (Reads 1 old.worker.view.generation) (after_said (Reads 1 old.worker.view.generation) old.worker)))
    mid_is = t.view

    go : GoesHome t.body t.counts t.mid new.worker → IsReady table ring m new
    go (inl x) = ready_stays table ring m old new f r _ _ (x.1 ∙ ap (after_said (Gives t.body.page t.body.pages)) mid_is) r.unclaimed r.unpopped
    go (inr x) = ready_stays table ring m old new f r _ _ (x.1.3 ∙ ap (λ (w : Seen). after_said (Fills (swept_set w.view.generation t.body.class (one_if x.1.0)) t.body.page) (after_said (Reads 1 w.view.generation) w)) mid_is) refl r.unpopped
